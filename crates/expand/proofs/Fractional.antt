-- The columns where a point isn't whole.
use Rattle.std.specs.Prelude.{◌≡◌, ◌<◌, ◌+◌, ℕ, zero, suc, Bool, true, false, cond, nat_eq, List, [], ◌∷◌, ◌++◌, length, drop, All, Option, Some, None, slice_get, refl}
use Rattle.std.proofs.Common.{sym, ap, ◌∙◌, subst, arith}
use Rattle.std.proofs.lemmas.Bool.Decides.{Decides-eqb}
use Rattle.std.proofs.lemmas.List.{append-nil, append_assoc, drop_more, drop_all}
use Rattle.std.proofs.lemmas.List.Elements.{All-nil, All-cons, All-weaker, All-contains}
use Rattle.std.proofs.lemmas.Option.{slice_get_within, get_or_from_slice_get}
use Rattle.fraction.specs.Rational.{ℚ}
use Rattle.fraction.specs.Whole.{IsWhole}
use Rattle.pseudo_cost.specs.declared.column_gains.ColumnGains.{ColumnGains}
use Rattle.dual_simplex.specs.Relaxation.{RationalPoint, rational_at}
use Rattle.expand.specs.Columns.{fractional_from, fractional_columns, IsChosen}
use Rattle.expand.specs.Findings.{IsFractionalIn}

-- ---- what is listed
-- column k is one of the point's, the first of which is column j, and its number isn't whole
abbrev IsListed : ℕ → RationalPoint → ℕ → Type 0
IsListed j x k = (i : ℕ) × (k ≡ j + i) × (i < length x) × (IsWhole (rational_at x i) → ⊥)

later : (j : ℕ) (q : ℚ) (x : RationalPoint) (k : ℕ) → IsListed (j + 1) x k → IsListed j (q ∷ x) k
later j q x k h = (suc h.0, omega (arith, h.1), omega (arith, h.2), h.3)

listed : (j : ℕ) (x : RationalPoint) → All (IsListed j x) (fractional_from j x)
listed j [] = All-nil (IsListed j [])
listed j (q ∷ x) = step (nat_eq q.den 1) (Decides-eqb q.den 1).1 (All-weaker (IsListed (j + 1) x) (IsListed j (q ∷ x)) (later j q x) (fractional_from (j + 1) x) (listed (j + 1) x))
  where
    step : (b : Bool) → (IsWhole q → b ≡ true) → All (IsListed j (q ∷ x)) (fractional_from (j + 1) x) → All (IsListed j (q ∷ x)) (cond b (fractional_from (j + 1) x) (j ∷ fractional_from (j + 1) x))
    step true h r = r
    step false h r = All-cons (IsListed j (q ∷ x)) j (fractional_from (j + 1) x) (zero, omega arith, omega arith, λ w. let e = h w in cc) r

pub listed_within : (x : RationalPoint) → All (λ j. j < length x) (fractional_columns x)
listed_within x = All-weaker (IsListed 0 x) (λ j. j < length x) (λ k h. omega (arith, h.1, h.2)) (fractional_columns x) (listed 0 x)

-- a point is whole where nothing is listed
none_listed : (j : ℕ) (x : RationalPoint) → fractional_from j x ≡ [] → All IsWhole x
none_listed j [] e = All-nil IsWhole
none_listed j (q ∷ x) e = step (nat_eq q.den 1) (Decides-eqb q.den 1).0 (λ f. none_listed (j + 1) x f) e
  where
    step : (b : Bool) → (b ≡ true → IsWhole q) → (fractional_from (j + 1) x ≡ [] → All IsWhole x) → cond b (fractional_from (j + 1) x) (j ∷ fractional_from (j + 1) x) ≡ [] → All IsWhole (q ∷ x)
    step true h r f = All-cons IsWhole q x (h refl) (r f)
    step false h r f = cc

-- ---- what is chosen
pub chosen_is_fractional : (costs : List ColumnGains) (x : RationalPoint) (column : Option ℕ) → IsChosen costs (fractional_columns x) column → IsFractionalIn x column
chosen_is_fractional costs x column h = step (fractional_columns x) refl column h
  where
    step : (js : List ℕ) → fractional_columns x ≡ js → (o : Option ℕ) → IsChosen costs js o → IsFractionalIn x o
    step [] e o f = subst (IsFractionalIn x) (sym f) (none_listed 0 x e)
    step (j ∷ js) e None f = absurd f
    step (j ∷ js) e (Some k) f =
        let all : All (IsListed 0 x) (j ∷ js) = subst (All (IsListed 0 x)) e (listed 0 x) in
        let h = All-contains (IsListed 0 x) (j ∷ js) k all f.listed in
        let same : k ≡ h.0 = omega (arith, h.1) in
        (omega (arith, h.2, same), subst (λ i. IsWhole (rational_at x i) → ⊥) (sym same) h.3)

-- ---- one column more
module _ (found : List ℕ) (x : RationalPoint) (j : ℕ) (q : ℚ) (there : slice_get x j ≡ Some q) where
  next : drop j x ≡ q ∷ drop (j + 1) x
  next = drop_more x j q (slice_get_within x j q there) ∙ ap (λ r. r ∷ drop (j + 1) x) (get_or_from_slice_get x j q q there)

  test : (b : Bool) → nat_eq q.den 1 ≡ b → fractional_from j (drop j x) ≡ cond b (fractional_from (j + 1) (drop (j + 1) x)) (j ∷ fractional_from (j + 1) (drop (j + 1) x))
  test b e = ap (fractional_from j) next ∙ ap (λ t. cond t (fractional_from (j + 1) (drop (j + 1) x)) (j ∷ fractional_from (j + 1) (drop (j + 1) x))) e

  pub column_added : nat_eq q.den 1 ≡ false → found ++ fractional_from j (drop j x) ≡ fractional_columns x → (found ++ j ∷ []) ++ fractional_from (j + 1) (drop (j + 1) x) ≡ fractional_columns x
  column_added e h = append_assoc found (j ∷ []) (fractional_from (j + 1) (drop (j + 1) x)) ∙ ap (λ js. found ++ js) (sym (test false e)) ∙ h

  pub column_passed : nat_eq q.den 1 ≡ true → found ++ fractional_from j (drop j x) ≡ fractional_columns x → found ++ fractional_from (j + 1) (drop (j + 1) x) ≡ fractional_columns x
  column_passed e h = ap (λ js. found ++ js) (sym (test true e)) ∙ h

pub columns_done : (found : List ℕ) (x : RationalPoint) (j : ℕ) → length x ≡ j → found ++ fractional_from j (drop j x) ≡ fractional_columns x → found ≡ fractional_columns x
columns_done found x j e h = sym (append-nil found) ∙ ap (λ y. found ++ fractional_from j y) (sym (drop_all j x (omega (arith, e)))) ∙ h
