-- The multipliers of a cut have rising numbers of known rows, and none is 0.
use Rattle.std.proofs.Common.{◌≡◌, refl, ℕ, suc, ◌+◌, ◌*◌, ◌<◌, ◌≤◌, arith, ap, ◌∙◌, subst, Bool, true, false, Some, List, [], ◌∷◌, ◌++◌, length, map}
use Rattle.std.specs.Prelude.{pos, if◌then◌else◌, All}
use Rattle.std.specs.Ordering.{int_eq}
use Rattle.std.specs.Option.{option_and_then, option_map}
use Rattle.std.proofs.lemmas.Bool.Decides.{Decides-int_eq}
use Rattle.std.proofs.lemmas.List.{length-map}
use Rattle.std.proofs.lemmas.List.Elements.{All-nil, All-cons, All-head, All-tail, All-append, All-weaker}
use Rattle.fraction.specs.Rational.{ℚ, whole}
use Rattle.fraction.specs.Lemmas.Bounds.{was_some, whole_parts, was_mapped}
use Rattle.problem.specs.Lemmas.Rising.{rise_lower}
use Rattle.problem.specs.declared.row.Row.{Row}
use Rattle.problem.specs.Problem.{Problem}
use Rattle.problem.specs.Rising.{RiseFrom, AreNonzero}
use Rattle.derivation_book.specs.declared.cut.Cut.{Cut}
use Rattle.derivation_book.specs.Known.{known_lines, first_cut}
use Rattle.derivation_book.specs.Sums.{combined_columns}
use Rattle.derivation_book.specs.Lemmas.Combining.{columns_length}
use Rattle.derivation_book.specs.Lemmas.Numbering.{known_length}
use Rattle.tableau.specs.Elimination.{entry}
use Rattle.tableau.specs.Multipliers.{with_multiplier}
use Rattle.tableau.specs.Tableau.{Tableau, row_of, status_of}
use Rattle.gomory_cuts.specs.declared.sign.Sign.{Sign}
use Rattle.gomory_cuts.specs.Multipliers.{multiplier, row_multipliers, is_at_upper, filling, bound_number, fillings, filled, gomory_multipliers}

abbrev IsBelow : ℕ → ℕ × ℚ → Type 0
IsBelow n m = m.0 < n

abbrev IsNonzero : ℕ × ℚ → Type 0
IsNonzero m = m.1 ≡ whole (pos 0) → ⊥

-- rising numbers from k on, all below l, and no multiplier is 0
pub record AreBetween (k l : ℕ) (ms : List (ℕ × ℚ)) : Type 0 where
  pub rising : RiseFrom k ms
  pub below : All (IsBelow l) ms
  pub nonzero : AreNonzero ms

none_between : (k l : ℕ) → AreBetween k l []
none_between k l = record { rising = tt; below = All-nil (IsBelow l); nonzero = All-nil IsNonzero }

not_zero : (u : ℚ) → int_eq u.num (pos 0) ≡ false → u ≡ whole (pos 0) → ⊥
not_zero u e f = let g : int_eq u.num (pos 0) ≡ true = (Decides-int_eq u.num (pos 0)).1 (ap (λ (q : ℚ). q.num) f ∙ (whole_parts (pos 0)).0) in let h : ⊥ = cc in h

one_between : (k i j l : ℕ) (u : ℚ) (ms : List (ℕ × ℚ)) → k ≤ j → j < l → suc j ≤ i → AreBetween i l ms → AreBetween k l (with_multiplier j u ms)
one_between k i j l u ms a b c h = at (int_eq u.num (pos 0)) refl
  where
    at : (z : Bool) → int_eq u.num (pos 0) ≡ z → AreBetween k l (if z then ms else (j, u) ∷ ms)
    at true e = record { rising = rise_lower k i ms (omega (arith, a, c)) h.rising; below = h.below; nonzero = h.nonzero }
    at false e = record {
      rising = (a, rise_lower (suc j) i ms c h.rising);
      below = All-cons (IsBelow l) (j, u) ms b h.below;
      nonzero = All-cons IsNonzero (j, u) ms (not_zero u e) h.nonzero;
    }

both_rise : (k i : ℕ) (us vs : List (ℕ × ℚ)) → RiseFrom k us → All (IsBelow i) us → k ≤ i → RiseFrom i vs → RiseFrom k (us ++ vs)
both_rise k i [] vs r b l s = rise_lower k i vs l s
both_rise k i (u ∷ us) vs r b l s = (r.0, both_rise (suc u.0) i us vs r.1 (All-tail (IsBelow i) u us b) (All-head (IsBelow i) u us b) s)

both_between : (k i l : ℕ) (us vs : List (ℕ × ℚ)) → k ≤ i → i ≤ l → AreBetween k i us → AreBetween i l vs → AreBetween k l (us ++ vs)
both_between k i l us vs a b g h = record {
  rising = both_rise k i us vs g.rising g.below a h.rising;
  below = All-append (IsBelow l) us vs (All-weaker (IsBelow i) (IsBelow l) (λ m c. omega (arith, b, c)) us g.below) h.below;
  nonzero = All-append IsNonzero us vs g.nonzero h.nonzero;
}

-- ---- rows
pub rows_between : (s : Sign) (row : List ℚ) (v k l : ℕ) (rs : List Row) (ms : List (ℕ × ℚ)) → row_multipliers s row v k rs ≡ Some ms → k + length rs ≤ l → AreBetween k l ms
rows_between s row v k l [] ms e b = let f : [] ≡ ms = cc in subst (AreBetween k l) f (none_between k l)
rows_between s row v k l (r ∷ rs) ms e b =
    let a = was_some (λ u. option_map (with_multiplier k u) (row_multipliers s row (v + 1) (k + 1) rs)) (multiplier s r.sense (entry row v)) ms e in
    let d = was_mapped (with_multiplier k a.0) (row_multipliers s row (v + 1) (k + 1) rs) ms a.2 in
    let size : k + suc (length rs) ≤ l = b in
    subst (AreBetween k l) d.2 (one_between k (k + 1) k l a.0 d.0 (omega arith) (omega (arith, size)) (omega arith) (rows_between s row (v + 1) (k + 1) l rs d.0 d.1 (omega (arith, size))))

-- ---- bound rows
bit_small : (b : Bool) → (if b then 1 else 0) ≤ 1
bit_small true = omega arith
bit_small false = omega arith

pub fillings_between : (k : ℕ) (t : Tableau) (j l : ℕ) (cs : List ℚ) (ms : List (ℕ × ℚ)) → fillings k t j cs ≡ Some ms → k + 2 * (j + length cs) ≤ l → AreBetween (k + 2 * j) l ms
fillings_between k t j l [] ms e b = let f : [] ≡ ms = cc in subst (AreBetween (k + 2 * j) l) f (none_between (k + 2 * j) l)
fillings_between k t j l (c ∷ cs) ms e b =
    let a = was_some (λ f. option_map (with_multiplier (bound_number k j (status_of t j)) f) (fillings k t (j + 1) cs)) (filling (status_of t j) c) ms e in
    let d = was_mapped (with_multiplier (bound_number k j (status_of t j)) a.0) (fillings k t (j + 1) cs) ms a.2 in
    let bit = bit_small (is_at_upper (status_of t j)) in
    let size : k + 2 * (j + suc (length cs)) ≤ l = b in
    subst (AreBetween (k + 2 * j) l) d.2
    (one_between (k + 2 * j) (k + 2 * (j + 1)) (bound_number k j (status_of t j)) l a.0 d.0 (omega arith) (omega (arith, bit, size)) (omega (arith, bit))
    (fillings_between k t (j + 1) l cs d.0 d.1 (omega (arith, size))))

-- ---- all
abbrev cut_rows : List Cut → List Row
cut_rows cuts = map (λ (c : Cut). c.row) cuts

-- those of rows and of cuts
pub record ArePlain (p : Problem) (cuts : List Cut) (us vs : List (ℕ × ℚ)) : Type 0 where
  pub rows : AreBetween 0 (length p.rows) us
  pub cuts_are : AreBetween (first_cut p) (first_cut p + length cuts) vs

pub are_plain : (p : Problem) (cuts : List Cut) (s : Sign) (row : List ℚ) (v w : ℕ) (us vs : List (ℕ × ℚ)) → row_multipliers s row v 0 p.rows ≡ Some us
    → row_multipliers s row w (first_cut p) (map (λ (c : Cut). c.row) cuts) ≡ Some vs → ArePlain p cuts us vs
are_plain p cuts s row v w us vs e f = record {
  rows = rows_between s row v 0 (length p.rows) p.rows us e (omega arith);
  cuts_are = rows_between s row w (first_cut p) (first_cut p + length cuts) (cut_rows cuts) vs f (omega (arith, length-map cuts (λ (c : Cut). c.row)));
}

-- they name known rows
pub plain_known : (p : Problem) (cuts : List Cut) (us vs : List (ℕ × ℚ)) → ArePlain p cuts us vs → All (λ m. m.0 < length (known_lines p cuts)) (us ++ vs)
plain_known p cuts us vs h =
    let ends : length p.rows ≤ first_cut p + length cuts = omega arith in
    subst (λ n. All (IsBelow n) (us ++ vs)) (known_is p cuts)
    (All-append (IsBelow (first_cut p + length cuts)) us vs
    (All-weaker (IsBelow (length p.rows)) (IsBelow (first_cut p + length cuts)) (λ m c. omega (arith, ends, c)) us h.rows.below) h.cuts_are.below)
  where
    known_is : (p : Problem) (cuts : List Cut) → first_cut p + length cuts ≡ length (known_lines p cuts)
    known_is p cuts = omega (arith, known_length p cuts)

-- with the fillings between them they rise still
pub filled_between : (p : Problem) (cuts : List Cut) (t : Tableau) (us vs ms : List (ℕ × ℚ)) → ArePlain p cuts us vs → filled p cuts t us vs ≡ Some ms → AreBetween 0 (first_cut p + length cuts) ms
filled_between p cuts t us vs ms h e =
    let a = was_some (λ cs. option_map (λ fs. us ++ fs ++ vs) (fillings (length p.rows) t 0 cs)) (combined_columns (known_lines p cuts) (us ++ vs) 0 (length p.spans)) ms e in
    let d = was_mapped (λ fs. us ++ fs ++ vs) (fillings (length p.rows) t 0 a.0) ms a.2 in
    let n = columns_length (known_lines p cuts) (us ++ vs) 0 (length p.spans) a.0 a.1 in
    let front = fillings_between (length p.rows) t 0 (first_cut p) a.0 d.0 d.1 (omega (arith, n)) in
    let middle : AreBetween (length p.rows) (first_cut p) d.0 = subst (λ i. AreBetween i (first_cut p) d.0) (let z : length p.rows + 2 * 0 ≡ length p.rows = omega arith in z) front in
    subst (AreBetween 0 (first_cut p + length cuts)) d.2
    (both_between 0 (first_cut p) (first_cut p + length cuts) (us ++ d.0) vs (omega arith) (omega arith)
    (both_between 0 (length p.rows) (first_cut p) us d.0 (omega arith) (omega arith) h.rows middle) h.cuts_are)

pub gomory_between : (p : Problem) (cuts : List Cut) (t : Tableau) (s : Sign) (j : ℕ) (ms : List (ℕ × ℚ)) → gomory_multipliers p cuts t s j ≡ Some ms → AreBetween 0 (first_cut p + length cuts) ms
gomory_between p cuts t s j ms e =
    let n = length p.spans in
    let a = was_some (λ us. option_and_then (λ vs. filled p cuts t us vs) (row_multipliers s (row_of t j) (length p.spans + length p.rows) (first_cut p) (cut_rows cuts))) (row_multipliers s (row_of t j) (length p.spans) 0 p.rows) ms e in
    let b = was_some (λ vs. filled p cuts t a.0 vs) (row_multipliers s (row_of t j) (length p.spans + length p.rows) (first_cut p) (cut_rows cuts)) ms a.2 in
    filled_between p cuts t a.0 b.0 ms (are_plain p cuts s (row_of t j) n (n + length p.rows) a.0 b.0 a.1 b.1) b.2
