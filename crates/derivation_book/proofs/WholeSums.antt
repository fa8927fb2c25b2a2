-- Combinations of multipliers over one denominator: where their sums in whole numbers aren't cramped, those of the fractions aren't either.
use Rattle.std.specs.Prelude.{◌≡◌, ℕ, zero, suc, ◌+◌, ◌*◌, ◌^◌, ◌<◌, ◌≤◌, ℤ, pos, ◌+ℤ◌, ◌*ℤ◌, nat_abs, eqb, Bool, true, false, if◌then◌else◌, List, [], ◌∷◌, ◌++◌, map, slice_index_or, replicate, All, Option, Some, option_map, refl}
use Rattle.std.specs.Option.{option_and_then}
use Rattle.std.proofs.Common.{sym, ap, ◌∙◌, subst, arith, get_or, take, length}
use Rattle.std.proofs.lemmas.Int.{ints}
use Rattle.std.proofs.lemmas.List.{take_all, take_more}
use Rattle.std.proofs.lemmas.List.Elements.{All-nil, All-cons, All-head, All-tail, All-push, All-weaker}
use Rattle.std.proofs.Math.Nat.{le_of_dvd}
use Rattle.fraction.specs.Rational.{ℚ, whole, frac, ◌+ℚ◌}
use Rattle.fraction.specs.Checked.{add_checked, mul_checked}
use Rattle.fraction.specs.Lemmas.Integers.{is_diff, diff-pos, diff-mul, diff-same}
use Rattle.fraction.specs.Lemmas.Rational.{ℚ_is, frac_den, frac_same}
use Rattle.fraction.specs.Lemmas.Bounds.{was_some, value_from_add, value_from_mul, whole_parts, frac-num_le, was_mapped}
use Rattle.fraction.specs.Lemmas.Checked.{sum_has_fraction, product_has_fraction}
use Rattle.fraction.specs.Lemmas.Whole.{IsAnInteger, integer_from_whole, integer-+, whole-+, whole-*}
use Rattle.fraction.specs.Whole.{IsWhole}
use Rattle.fraction.specs.Fits.{FitsFraction}
use Rattle.problem.specs.declared.row.Row.{Row}
use Rattle.problem.specs.Linear.{coefficient, at_column}
use Rattle.problem.specs.Problem.{Problem}
use Rattle.cert_rows.specs.Lines.{CertLine, row_at}
use Rattle.derivation_book.specs.declared.cut.Cut.{Cut}
use Rattle.derivation_book.specs.declared.place.Place.{Place}
use Rattle.derivation_book.specs.declared.place.Place.TheVariants.{Lower, Upper}
use Rattle.derivation_book.specs.Places.{row_in, no_span}
use Rattle.derivation_book.specs.Sums.{with_product, sum_from, coefficient_at, side_at, combined_at, combined_side, combined_columns, Sums, sums_of, combined}
use Rattle.derivation_book.specs.Adding.{row_added}
use Rattle.derivation_book.specs.Lemmas.OneDenominator.{add_over, mul_over, zero_over}
use Rattle.derivation_book.specs.Lemmas.Combining.{combined_from, combined_step, combined_done, combined_begun, first_combined}
use Rattle.derivation_book.specs.OverOne.{IsScaled, AreScaled, IsWholeRow, NamesWholeRow, over, sums_over}

-- ---- whole coefficients
abbrev IsWholeTerm : ℕ × ℚ → Type 0
IsWholeTerm t = IsWhole t.1

pub whole_coefficients : (ts : List (ℕ × ℚ)) → All IsWholeTerm ts → (j : ℕ) → IsAnInteger (coefficient ts j)
whole_coefficients [] h j = (pos 0, refl)
whole_coefficients (t ∷ ts) h j = integer-+ (at_column t.0 t.1 j) (coefficient ts j) (at (eqb t.0 j)) (whole_coefficients ts (All-tail IsWholeTerm t ts h) j)
  where
    at : (b : Bool) → IsAnInteger (if b then t.1 else whole (pos 0))
    at true = integer_from_whole t.1 (All-head IsWholeTerm t ts h)
    at false = (pos 0, refl)

-- ---- one product more
-- the sum of whole numbers t is c, and so the sum over d is c over d
pub record IsOver (d : ℕ) (t : ℚ) (o : Option ℚ) : Type 0 where
  pub sum : ℤ
  pub is : t ≡ whole sum
  pub small : nat_abs sum < 2 ^ 127
  pub over : o ≡ Some (frac sum d)

whole_size : (z : ℤ) (p : ℚ) → p ≡ whole z → nat_abs p.num < 2 ^ 127 → nat_abs z < 2 ^ 127
whole_size z p e h = subst (λ n. nat_abs n < 2 ^ 127) (ap (λ (q : ℚ). q.num) e ∙ (whole_parts z).0) h

plain_sum : (a b : ℤ) → a *ℤ pos 1 +ℤ b *ℤ pos 1 ≡ a +ℤ b
plain_sum a b = omega (arith, ints)

pub product_over : (a z x : ℤ) (d : ℕ) (t : ℚ) → 0 < d → d < 2 ^ 127 → nat_abs a < 2 ^ 127 → with_product (whole a) (whole z) (whole x) ≡ Some t
    → IsOver d t (with_product (frac a d) (frac z d) (whole x))
product_over a z x d t o h k e =
    let p = was_some (λ v. add_checked (whole a) v) (mul_checked (whole z) (whole x)) t e in
    let ep : p.0 ≡ whole (z *ℤ x) = sym (value_from_mul (whole z) (whole x) p.0 p.1) ∙ whole-* z x in
    let et : t ≡ whole (a +ℤ z *ℤ x) = sym (value_from_add (whole a) p.0 t p.2) ∙ ap (λ v. whole a +ℚ v) ep ∙ whole-+ a (z *ℤ x) ∙ ap whole (plain_sum a (z *ℤ x)) in
    let sp = whole_size (z *ℤ x) p.0 ep (product_has_fraction (whole z) (whole x) p.0 p.1).0 in
    let st = whole_size (a +ℤ z *ℤ x) t et (sum_has_fraction (whole a) p.0 t p.2).0 in
    record {
      sum = a +ℤ z *ℤ x;
      is = et;
      small = st;
      over = ap (option_and_then (λ v. add_checked (frac a d) v)) (mul_over z x d o h sp) ∙ add_over a (z *ℤ x) d o h k sp st;
    }

-- ---- sums
abbrev IsWholeAt : (ℕ → ℚ) → ℕ × ℚ → Type 0
IsWholeAt f m = IsAnInteger (f m.0)

pub sum_over : (d : ℕ) (f : ℕ → ℚ) (ms ws : List (ℕ × ℚ)) (a : ℤ) (t : ℚ) → 0 < d → d < 2 ^ 127 → All (IsWholeAt f) ms → AreScaled d ms ws → nat_abs a < 2 ^ 127 → sum_from f (whole a) ws ≡ Some t
    → IsOver d t (sum_from f (frac a d) ms)
sum_over d f [] [] a t o h w s k e = record { sum = a; is = (let g : whole a ≡ t = cc in sym g); small = k; over = refl }
sum_over d f [] (v ∷ vs) a t o h w s k e = absurd s
sum_over d f (m ∷ ms) [] a t o h w s k e = absurd s
sum_over d f (m ∷ ms) (v ∷ vs) a t o h w s k e =
    let i = All-head (IsWholeAt f) m ms w in
    let p = was_some (λ u. sum_from f u vs) (with_product (whole a) v.1 (f v.0)) t e in
    let q : with_product (whole a) (whole s.0.1.0) (whole i.0) ≡ Some p.0 =
    (λ j. with_product (whole a) (sym s.0.1.1 j) (sym (ap f s.0.0 ∙ i.1) j)) ∙ p.1 in
    let r = product_over a s.0.1.0 i.0 d p.0 o h k q in
    let n = sum_over d f ms vs r.sum t o h (All-tail (IsWholeAt f) m ms w) s.1 r.small (ap (λ u. sum_from f u vs) (sym r.is) ∙ p.2) in
    record {
      sum = n.sum;
      is = n.is;
      small = n.small;
      over = ap (option_and_then (λ u. sum_from f u ms)) ((λ j. with_product (frac a d) (s.0.1.2 j) (i.1 j)) ∙ r.over) ∙ n.over;
    }

-- ---- combinations
over_is : (d : ℕ) (t : ℚ) (c : ℤ) → t ≡ whole c → frac c d ≡ over d t
over_is d t c e = ap (λ z. frac z d) (sym (ap (λ (q : ℚ). q.num) e ∙ (whole_parts c).0))

pub columns_over : (ls : List CertLine) (d : ℕ) (ms ws : List (ℕ × ℚ)) (j n : ℕ) (cs : List ℚ) → 0 < d → d < 2 ^ 127 → All (NamesWholeRow ls) ms → AreScaled d ms ws
    → combined_columns ls ws j n ≡ Some cs → combined_columns ls ms j n ≡ Some (map (over d) cs)
columns_over ls d ms ws j zero cs o h w s e = let f : [] ≡ cs = cc in ap (λ v. Some (map (over d) v)) f
columns_over ls d ms ws j (suc n) cs o h w s e =
    let a = was_some (λ c. option_map (λ cs. c ∷ cs) (combined_columns ls ws (j + 1) n)) (combined_at ls ws j) cs e in
    let b = was_mapped (λ vs. a.0 ∷ vs) (combined_columns ls ws (j + 1) n) cs a.2 in
    let r = sum_over d (coefficient_at ls j) ms ws (pos 0) a.0 o h (All-weaker (NamesWholeRow ls) (IsWholeAt (coefficient_at ls j)) (λ m k. whole_coefficients (row_at ls m.0).terms k.0 j) ms w) s (omega arith) a.1 in
    let first : combined_at ls ms j ≡ Some (over d a.0) =
    ap (λ u. sum_from (coefficient_at ls j) u ms) (zero_over d o) ∙ r.over ∙ ap Some (over_is d a.0 r.sum r.is) in
    let rest = columns_over ls d ms ws (j + 1) n b.0 o h w s b.1 in
    (λ i. option_and_then (λ c. option_map (λ cs. c ∷ cs) (rest i)) (first i)) ∙ ap (λ v. Some (map (over d) v)) b.2

pub combined_over : (ls : List CertLine) (d : ℕ) (ms ws : List (ℕ × ℚ)) (n : ℕ) (s : Sums) → 0 < d → d < 2 ^ 127 → All (NamesWholeRow ls) ms → AreScaled d ms ws
    → combined ls ws n ≡ Some s → combined ls ms n ≡ Some (sums_over d s)
combined_over ls d ms ws n s o h w k e =
    let a = was_some (λ cs. option_map (sums_of cs) (combined_side ls ws)) (combined_columns ls ws 0 n) s e in
    let b = was_mapped (sums_of a.0) (combined_side ls ws) s a.2 in
    let r = sum_over d (side_at ls) ms ws (pos 0) b.0 o h (All-weaker (NamesWholeRow ls) (IsWholeAt (side_at ls)) (λ m k. integer_from_whole (row_at ls m.0).rhs k.1) ms w) k (omega arith) b.1 in
    let side : combined_side ls ms ≡ Some (over d b.0) =
    ap (λ u. sum_from (side_at ls) u ms) (zero_over d o) ∙ r.over ∙ ap Some (over_is d b.0 r.sum r.is) in
    (λ i. option_and_then (λ cs. option_map (sums_of cs) (side i)) (columns_over ls d ms ws 0 n a.0 o h w k a.1 i)) ∙ ap (λ v. Some (sums_over d v)) b.2

-- ---- a multiplier times the denominator
times_part : (z : ℤ) (a k d : ℕ) → a * k ≡ d → z *ℤ pos d ≡ (z *ℤ pos k) *ℤ pos a
times_part z a k d e = rw (← e, is_diff z) (simp (diff-pos, diff-mul) (diff-same _ _ _ _ (omega arith)))

pub over_multiple : (m : ℚ) (k d : ℕ) → 0 < d → m.den * k ≡ d → m ≡ frac (m.num *ℤ pos k) d
over_multiple m k d o e = ℚ_is m ∙ frac_same m.num (m.num *ℤ pos k) m.den d m.lowest.0 o (times_part m.num m.den k d e)

pub one_scaled : (d : ℕ) (ms ws : List (ℕ × ℚ)) (m w : ℕ × ℚ) → AreScaled d ms ws → IsScaled d m w → AreScaled d (ms ++ m ∷ []) (ws ++ w ∷ [])
one_scaled d [] [] m w h k = (k, tt)
one_scaled d [] (v ∷ vs) m w h k = absurd h
one_scaled d (n ∷ ns) [] m w h k = absurd h
one_scaled d (n ∷ ns) (v ∷ vs) m w h k = (h.0, one_scaled d ns vs m w h.1 k)

-- ---- one multiplier after another
last_added : (ls : List CertLine) (ws : List (ℕ × ℚ)) (w : ℕ × ℚ) (q u v : Sums) → combined_from ls ws q ≡ Some u → row_added u w.1 (row_at ls w.0) ≡ Some v
    → combined_from ls (ws ++ w ∷ []) q ≡ Some v
last_added ls [] w q u v e f =
    let same : Some q ≡ Some u = sym (combined_done ls q) ∙ e in
    let z : q ≡ u = cc in
    combined_step ls w [] q ∙ ap (λ (p : Sums). option_and_then (combined_from ls []) (row_added p w.1 (row_at ls w.0))) z
    ∙ ap (option_and_then (combined_from ls [])) f ∙ combined_done ls v
last_added ls (x ∷ ws) w q u v e f =
    let s = was_some (combined_from ls ws) (row_added q x.1 (row_at ls x.0)) u (sym (combined_step ls x ws q) ∙ e) in
    combined_step ls x (ws ++ w ∷ []) q ∙ ap (option_and_then (combined_from ls (ws ++ w ∷ []))) s.1 ∙ last_added ls ws w s.0 u v s.2 f

-- the sums are those of the multipliers times d, all of whose rows are whole
pub record AreScaledSums (ls : List CertLine) (d : ℕ) (ms : List (ℕ × ℚ)) (n : ℕ) (q : Sums) : Type 0 where
  pub multipliers : List (ℕ × ℚ)
  pub scaled : AreScaled d ms multipliers
  pub rows : All (NamesWholeRow ls) ms
  pub combined : combined ls multipliers n ≡ Some q

pub first_scaled : (ls : List CertLine) (d : ℕ) (n k : ℕ) (q : Sums) → k ≡ n → q ≡ sums_of (replicate k (whole (pos 0))) (whole (pos 0)) → AreScaledSums ls d [] n q
first_scaled ls d n k q e f = record {
  multipliers = [];
  scaled = tt;
  rows = All-nil (NamesWholeRow ls);
  combined = sym (first_combined ls [] n k e q f) ∙ combined_done ls q;
}

one_more : (ls : List CertLine) (d : ℕ) (ms : List (ℕ × ℚ)) (n : ℕ) (q u : Sums) (p : ℕ × ℚ) (z : ℤ) → p.1 ≡ frac z d → IsWholeRow (row_at ls p.0) → row_added q (whole z) (row_at ls p.0) ≡ Some u
    → AreScaledSums ls d ms n q → AreScaledSums ls d (ms ++ p ∷ []) n u
one_more ls d ms n q u p z e w f h = record {
  multipliers = h.multipliers ++ (p.0, whole z) ∷ [];
  scaled = one_scaled d ms h.multipliers p (p.0, whole z) h.scaled (refl, (z, refl, e));
  rows = All-push (NamesWholeRow ls) ms p h.rows w;
  combined = sym (combined_begun ls (h.multipliers ++ (p.0, whole z) ∷ []) n)
      ∙ last_added ls h.multipliers (p.0, whole z) (sums_of (replicate n (whole (pos 0))) (whole (pos 0))) q u (combined_begun ls h.multipliers n ∙ h.combined) f;
}

pub next_scaled : (ls : List CertLine) (d : ℕ) (ms : List (ℕ × ℚ)) (n : ℕ) (q u : Sums) (i : ℕ) (m p : ℕ × ℚ) (z : ℤ) → i < length ms → m ≡ get_or ms i m → p ≡ m → p.1 ≡ frac z d
    → IsWholeRow (row_at ls p.0) → row_added q (whole z) (row_at ls p.0) ≡ Some u → AreScaledSums ls d (take i ms) n q → AreScaledSums ls d (take (i + 1) ms) n u
next_scaled ls d ms n q u i m p z l e f g w r h =
    subst (λ (us : List (ℕ × ℚ)). AreScaledSums ls d us n u) (sym (take_more ms i m l ∙ ap (λ (x : ℕ × ℚ). take i ms ++ x ∷ []) (sym (f ∙ e))))
    (one_more ls d (take i ms) n q u p z g w r h)

pub all_scaled : (ls : List CertLine) (d : ℕ) (ms : List (ℕ × ℚ)) (n : ℕ) (q : Sums) (i : ℕ) → length ms ≤ i → 0 < d → d < 2 ^ 127 → AreScaledSums ls d (take i ms) n q → combined ls ms n ≡ Some (sums_over d q)
all_scaled ls d ms n q i l o k h =
    let s = subst (λ (us : List (ℕ × ℚ)). AreScaledSums ls d us n q) (take_all i ms l) h in
    combined_over ls d ms s.multipliers n q o k s.rows s.scaled s.combined

-- ---- bound rows
one_is_whole : IsWhole (whole (pos 1))
one_is_whole = (whole_parts (pos 1)).1

pub lower_is_whole : (p : Problem) (cs : List Cut) (s : Place) (j : ℕ) (r : Row) → s ≡ Lower j → row_in p cs s ≡ r → IsWholeRow r
lower_is_whole p cs s j r e f =
    subst IsWholeRow (ap (row_in p cs) (sym e) ∙ f)
    (All-cons IsWholeTerm (j, whole (pos 1)) [] one_is_whole (All-nil IsWholeTerm), (whole_parts (slice_index_or p.spans j no_span).lo).1)

pub upper_is_whole : (p : Problem) (cs : List Cut) (s : Place) (j : ℕ) (r : Row) → s ≡ Upper j → row_in p cs s ≡ r → IsWholeRow r
upper_is_whole p cs s j r e f =
    subst IsWholeRow (ap (row_in p cs) (sym e) ∙ f)
    (All-cons IsWholeTerm (j, whole (pos 1)) [] one_is_whole (All-nil IsWholeTerm), (whole_parts (slice_index_or p.spans j no_span).hi).1)

-- ---- the results
over_fits : (d : ℕ) (c : ℚ) → 0 < d → d < 2 ^ 127 → FitsFraction c → FitsFraction (over d c)
over_fits d c o h k = (omega (arith, frac-num_le c.num d o, k.0), omega (arith, le_of_dvd o (frac_den c.num d o), h))

pub all_over_fit : (d : ℕ) (cs : List ℚ) → 0 < d → d < 2 ^ 127 → All FitsFraction cs → All FitsFraction (map (over d) cs)
all_over_fit d [] o h k = All-nil FitsFraction
all_over_fit d (c ∷ cs) o h k =
    All-cons FitsFraction (over d c) (map (over d) cs) (over_fits d c o h (All-head FitsFraction c cs k)) (all_over_fit d cs o h (All-tail FitsFraction c cs k))

pub sum_over_fits : (d : ℕ) (c v : ℚ) → 0 < d → d < 2 ^ 127 → FitsFraction c → v ≡ over d c → FitsFraction v
sum_over_fits d c v o h k e = subst FitsFraction (sym e) (over_fits d c o h k)
