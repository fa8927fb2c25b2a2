-- What is separated: cuts that the point violates, no two of them the same.
use Rattle.std.proofs.Common.{◌≡◌, ℕ, zero, suc, ◌+◌, ◌<◌, ◌≤◌, arith, refl, ap, sym, ◌∙◌, subst, Bool, true, false, Option, Some, None, List, [], ◌∷◌, ◌++◌, length, get_or, take, min, inl, inr}
use Rattle.std.specs.Prelude.{ℤ, ◌⊎◌, if◌then◌else◌, eqb, ◌&&◌, All}
use Rattle.std.specs.Ordering.{int_eq}
use Rattle.std.proofs.lemmas.Int.{ints}
use Rattle.std.proofs.lemmas.Bool.{eq-eqb, or_parts}
use Rattle.std.proofs.lemmas.List.{length-append, length-take, get_or_append_left, get_or-take}
use Rattle.std.proofs.lemmas.List.Elements.{All-nil, All-cons, All-append, All-take}
use Rattle.std.proofs.Math.Seq.{get_or-append_seam}
use Rattle.std.proofs.Math.Nat.{min-le_left, min-le_right}
use Rattle.fraction.specs.Rational.{ℚ}
use Rattle.fraction.specs.Order.{◌<ℚ◌}
use Rattle.fraction.specs.Lemmas.Bounds.{was_some}
use Rattle.fraction.specs.Lemmas.Order.{not_both, less, less_only}
use Rattle.fraction.specs.Checked.{compare}
use Rattle.problem.specs.declared.row.Row.{Row}
use Rattle.problem.specs.declared.row.Sense.TheVariants.{G}
use Rattle.problem.specs.Problem.{Problem}
use Rattle.problem.specs.Rows.{Compares}
use Rattle.derivation_book.specs.declared.cut.Cut.{Cut}
use Rattle.derivation_book.specs.Known.{known_lines}
use Rattle.derivation_book.specs.Rounded.{rounded_row}
use Rattle.derivation_book.specs.Lemmas.Deciding.{decides-usable}
use Rattle.derivation_book.specs.Lemmas.Rounded.{made_from}
use Rattle.tableau.specs.Tableau.{Tableau}
use Rattle.dual_simplex.specs.Relaxation.{rational_value, SatisfiesRow}
use Rattle.dual_simplex.specs.PointSums.{checked_sum}
use Rattle.dual_simplex.specs.Lemmas.RationalValues.{sum_exact}
use Rattle.gomory_cuts.specs.declared.sign.Sign.{Sign}
use Rattle.gomory_cuts.specs.declared.sign.Sign.TheVariants.{Plus, Minus}
use Rattle.gomory_cuts.specs.Multipliers.{gomory_multipliers}
use Rattle.gomory_cuts.specs.Separation.{is_below, is_violated, if_violated, cut_at, is_fractional, cuts_at, cuts_from, is_same, is_found, with_cut, with_cuts, most_separated, separation}
use Rattle.gomory_cuts.specs.Laws.{IsSeparating, AreDifferent}
use Rattle.gomory_cuts.proofs.Rising.{gomory_between}

below_side : (x : List ℚ) (r : Row) → is_violated x r ≡ true → rational_value r.terms x <ℚ r.rhs
below_side x r e = at (checked_sum r.terms x) refl e
  where
    at : (o : Option ℚ) → checked_sum r.terms x ≡ o → is_below o r.rhs ≡ true → rational_value r.terms x <ℚ r.rhs
    at None f g = absurd (let z : ⊥ = cc in z)
    at (Some v) f g = subst (λ v. v <ℚ r.rhs) (sum_exact r.terms x v f) (less v r.rhs (less_only (compare v r.rhs) g))

violated_is : (x : List ℚ) (r : Row) → G ≡ r.sense → is_violated x r ≡ true → SatisfiesRow x r → ⊥
violated_is x r s e h = not_both r.rhs (rational_value r.terms x) (subst (λ q. Compares q r.rhs (rational_value r.terms x)) (sym s) h) (below_side x r e)

where_kept : {A : Type 0} (b : Bool) (v w : A) → (if b then Some v else None) ≡ Some w → (b ≡ true) × (v ≡ w)
where_kept true v w e = (refl, cc)
where_kept false v w e = absurd (let z : ⊥ = cc in z)

pub cut_separates : (p : Problem) (cuts : List Cut) (t : Tableau) (x : List ℚ) (j : ℕ) (s : Sign) (m : List (ℕ × ℚ)) → cut_at p cuts t x j s ≡ Some m → IsSeparating p cuts x m
cut_separates p cuts t x j s m e =
    let a = was_some (if_violated p cuts x) (gomory_multipliers p cuts t s j) m e in
    let b = was_some (λ r. if is_violated x r then Some a.0 else None) (rounded_row p cuts a.0) m a.2 in
    let c = where_kept (is_violated x b.0) a.0 m b.2 in
    let made = made_from p cuts a.0 b.0 b.1 in
    let between = gomory_between p cuts t s j a.0 a.1 in
    subst (IsSeparating p cuts x) c.1 record {
      row = b.0;
      rounded = b.1;
      violated = violated_is x b.0 (ap (λ (r : Row). r.sense) made.row) c.0;
      combined = (decides-usable (known_lines p cuts) a.0).0 made.usable;
      rising = between.rising;
      nonzero = between.nonzero;
    }

-- ---- all that are found
abbrev Each : (List (ℕ × ℚ) → Type 0) → Option (List (ℕ × ℚ)) → Type 0
Each P None = Unit {0}
Each P (Some m) = P m

abbrev All_of : (List (ℕ × ℚ) → Type 0) → List (Option (List (ℕ × ℚ))) → Type 0
All_of P [] = Unit {0}
All_of P (c ∷ cs) = Each P c × All_of P cs

each_from : (P : List (ℕ × ℚ) → Type 0) (o : Option (List (ℕ × ℚ))) → ((m : List (ℕ × ℚ)) → o ≡ Some m → P m) → Each P o
each_from P None h = tt
each_from P (Some m) h = h m refl

of_both : (P : List (ℕ × ℚ) → Type 0) (cs ds : List (Option (List (ℕ × ℚ)))) → All_of P cs → All_of P ds → All_of P (cs ++ ds)
of_both P [] ds h k = k
of_both P (c ∷ cs) ds h k = (h.0, of_both P cs ds h.1 k)

cuts_separate : (p : Problem) (cuts : List Cut) (t : Tableau) (x : List ℚ) (j k : ℕ) → All_of (IsSeparating p cuts x) (cuts_from p cuts t x j k)
cuts_separate p cuts t x j zero = tt
cuts_separate p cuts t x j (suc k) = of_both (IsSeparating p cuts x) (cuts_at p cuts t x j) (cuts_from p cuts t x (j + 1) k) (at (is_fractional t x j)) (cuts_separate p cuts t x (j + 1) k)
  where
    at : (b : Bool) → All_of (IsSeparating p cuts x) (if b then cut_at p cuts t x j Plus ∷ cut_at p cuts t x j Minus ∷ [] else [])
    at true = (each_from (IsSeparating p cuts x) (cut_at p cuts t x j Plus) (cut_separates p cuts t x j Plus), (each_from (IsSeparating p cuts x) (cut_at p cuts t x j Minus) (cut_separates p cuts t x j Minus), tt))
    at false = tt

with_all : (P : List (ℕ × ℚ) → Type 0) (found : List (List (ℕ × ℚ))) (c : Option (List (ℕ × ℚ))) → All P found → Each P c → All P (with_cut found c)
with_all P found None h k = h
with_all P found (Some m) h k = at (is_found m found)
  where
    at : (b : Bool) → All P (if b then found else found ++ m ∷ [])
    at true = h
    at false = All-append P found (m ∷ []) h (All-cons P m [] k (All-nil P))

with_cuts_all : (P : List (ℕ × ℚ) → Type 0) (found : List (List (ℕ × ℚ))) (cs : List (Option (List (ℕ × ℚ)))) → All P found → All_of P cs → All P (with_cuts found cs)
with_cuts_all P found [] h k = h
with_cuts_all P found (c ∷ cs) h k = with_cuts_all P (with_cut found c) cs (with_all P found c h k.0) k.1

-- each separates the point
pub all_separate : (p : Problem) (cuts : List Cut) (t : Tableau) (x : List ℚ) → All (IsSeparating p cuts x) (separation p cuts t x)
all_separate p cuts t x =
    All-take (IsSeparating p cuts x) most_separated (with_cuts [] (cuts_from p cuts t x 0 (length p.spans)))
    (with_cuts_all (IsSeparating p cuts x) [] (cuts_from p cuts t x 0 (length p.spans)) (All-nil (IsSeparating p cuts x)) (cuts_separate p cuts t x 0 (length p.spans)))

-- ---- no two are the same
same_int : (z : ℤ) → int_eq z z ≡ true
same_int z = grind (arith, ints)

all_true : (a b c d : Bool) → a ≡ true → b ≡ true → c ≡ true → d ≡ true → (a && b && c && d) ≡ true
all_true a b c d e f g h = (λ i. e i && f i && g i && h i)

same_itself : (m : List (ℕ × ℚ)) → is_same m m ≡ true
same_itself [] = refl
same_itself (a ∷ m) = all_true (eqb a.0 a.0) (int_eq a.1.num a.1.num) (eqb a.1.den a.1.den) (is_same m m) (eq-eqb a.0 a.0 refl) (same_int a.1.num) (eq-eqb a.1.den a.1.den refl) (same_itself m)

not_found : (m : List (ℕ × ℚ)) (found : List (List (ℕ × ℚ))) → is_found m found ≡ false → (i : ℕ) → i < length found → get_or found i [] ≡ m → ⊥
not_found m [] e i l f = omega arith
not_found m (k ∷ ks) e zero l f = let a = (or_parts (is_same m k) (is_found m ks) e).0 in let b = ap (is_same m) f ∙ same_itself m in cc
not_found m (k ∷ ks) e (suc i) l f = not_found m ks (or_parts (is_same m k) (is_found m ks) e).1 i (omega arith) f

one_more : (m : List (ℕ × ℚ)) (found : List (List (ℕ × ℚ))) → AreDifferent found → is_found m found ≡ false → AreDifferent (found ++ m ∷ [])
one_more m found h e i j l b f =
    elim (last j (length found) (let q = length-append found (m ∷ []) in omega arith)) [
      | inl k ↦ h i j l k (sym (get_or_append_left found (m ∷ []) [] i (omega arith)) ∙ f ∙ get_or_append_left found (m ∷ []) [] j k)
      | inr k ↦ not_found m found e i (omega arith) (sym (get_or_append_left found (m ∷ []) [] i (omega arith)) ∙ f ∙ ap (λ j. get_or (found ++ m ∷ []) j []) k ∙ get_or-append_seam found m [] [])
    ]
  where
    last : (j n : ℕ) → j < n + 1 → (j < n) ⊎ (j ≡ n)
    last j n h = grind arith

with_different : (found : List (List (ℕ × ℚ))) (c : Option (List (ℕ × ℚ))) → AreDifferent found → AreDifferent (with_cut found c)
with_different found None h = h
with_different found (Some m) h = at (is_found m found) refl
  where
    at : (b : Bool) → is_found m found ≡ b → AreDifferent (if b then found else found ++ m ∷ [])
    at true e = h
    at false e = one_more m found h e

with_cuts_different : (found : List (List (ℕ × ℚ))) (cs : List (Option (List (ℕ × ℚ)))) → AreDifferent found → AreDifferent (with_cuts found cs)
with_cuts_different found [] h = h
with_cuts_different found (c ∷ cs) h = with_cuts_different (with_cut found c) cs (with_different found c h)

first_different : (ms : List (List (ℕ × ℚ))) (k : ℕ) → AreDifferent ms → AreDifferent (take k ms)
first_different ms k h i j l b f =
    let q : length (take k ms) ≡ min k (length ms) = length-take k ms in
    let c : j < k = min_left j k (length ms) (subst (λ n. j < n) q b) in
    let d : j < length ms = min_right j k (length ms) (subst (λ n. j < n) q b) in
    h i j l d (sym (get_or-take k ms i [] (omega arith)) ∙ f ∙ get_or-take k ms j [] c)
  where
    min_left : (j k n : ℕ) → j < min k n → j < k
    min_left j k n h = omega (arith, h, min-le_left k n)

    min_right : (j k n : ℕ) → j < min k n → j < n
    min_right j k n h = omega (arith, h, min-le_right k n)

pub separate_different : (p : Problem) (cuts : List Cut) (t : Tableau) (x : List ℚ) → AreDifferent (separation p cuts t x)
separate_different p cuts t x =
    first_different (with_cuts [] (cuts_from p cuts t x 0 (length p.spans))) most_separated (with_cuts_different [] (cuts_from p cuts t x 0 (length p.spans)) (λ i j l b f. omega arith))

pub at_most_four : (p : Problem) (cuts : List Cut) (t : Tableau) (x : List ℚ) → length (separation p cuts t x) ≤ most_separated
at_most_four p cuts t x = at most_separated (length ms) (length (take most_separated ms)) (length-take most_separated ms)
  where
    ms : List (List (ℕ × ℚ))
    ms = with_cuts [] (cuts_from p cuts t x 0 (length p.spans))

    at : (k n l : ℕ) → l ≡ min k n → l ≤ k
    at k n l e = omega (arith, e, min-le_left k n)
