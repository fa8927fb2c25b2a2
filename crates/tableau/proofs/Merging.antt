-- The merge of two rows' entries gives the entries of a row with a multiple of another one.
use Rattle.std.proofs.Common.{◌≡◌, ℕ, suc, ◌+◌, ◌<◌, arith, refl, ap, sym, ◌∙◌, subst, Bool, true, false, Option, Some, None, [], ◌∷◌, length}
use Rattle.std.specs.Prelude.{pos, All, if◌then◌else◌}
use Rattle.std.specs.Ordering.{int_eq}
use Rattle.std.specs.Option.{option_and_then, option_map}
use Rattle.std.proofs.lemmas.Bool.{lt-ltb, le-ltb, eq-eqb, ne_eqb}
use Rattle.std.proofs.lemmas.List.Elements.{All-head, All-tail}
use Rattle.fraction.specs.Rational.{ℚ}
use Rattle.fraction.specs.Fits.{FitsFraction}
use Rattle.fraction.specs.Checked.{mul_checked}
use Rattle.problem.specs.Lemmas.Rising.{rise_lower}
use Rattle.problem.specs.Linear.{Terms}
use Rattle.problem.specs.Rising.{RiseFrom}
use Rattle.tableau.specs.Elimination.{Coefficients, add_multiple, add_multiple_of_row}
use Rattle.tableau.specs.Sparse.{with_entry, nonzeros}
use Rattle.tableau.specs.SparseSteps.{products_below, met, merged}
use Rattle.fraction.specs.Lemmas.Checked.{zero_from_test}
use Rattle.tableau.proofs.Zeros.{add_multiple-zero, add_multiple_to_zero}
use Rattle.tableau.proofs.View.{nonzeros_rise}

-- ---- the first of two entries
-- nothing of the second row comes before variable k
nothing_below : (q : ℚ) (k : ℕ) (next : Terms → Option Terms) (ss : Terms) → RiseFrom k ss → products_below q k next ss ≡ next ss
nothing_below q k next [] h = refl
nothing_below q k next (s ∷ ss) h =
    ap (λ b. if b then option_and_then (λ p. option_map (with_entry s.0 p) (products_below q k next ss)) (mul_checked q s.1) else next (s ∷ ss)) (le-ltb s.0 k h.0)

merged-none : (w : ℕ) (q : ℚ) (ts : Terms) → merged w q ts [] ≡ Some ts
merged-none w q [] = refl
merged-none w q (t ∷ ts) = ap (option_map (λ es. t ∷ es)) (merged-none w q ts)

first_left : (w : ℕ) (q : ℚ) (t : ℕ × ℚ) (ts ss : Terms) → RiseFrom (suc t.0) ss → merged w q (t ∷ ts) ss ≡ option_map (λ es. t ∷ es) (merged w q ts ss)
first_left w q t ts [] h = refl
first_left w q t ts (s ∷ ss) h =
    nothing_below q t.0 (met q t (merged w q ts)) (s ∷ ss) (rise_lower t.0 (suc t.0) (s ∷ ss) (omega arith) h)
    ∙ ap (λ b. if b then option_and_then (λ v. option_map (with_entry t.0 v) (merged w q ts ss)) (add_multiple q t.1 s.1) else option_map (λ es. t ∷ es) (merged w q ts (s ∷ ss)))
    (ne_eqb s.0 t.0 (λ e. omega (arith, h.0, e)))

first_right : (w : ℕ) (q : ℚ) (s : ℕ × ℚ) (ts ss : Terms) → s.0 < w → RiseFrom (suc s.0) ts
    → merged w q ts (s ∷ ss) ≡ option_and_then (λ p. option_map (with_entry s.0 p) (merged w q ts ss)) (mul_checked q s.1)
first_right w q s [] ss l h =
    ap (λ b. if b then option_and_then (λ p. option_map (with_entry s.0 p) (merged w q [] ss)) (mul_checked q s.1) else Some []) (lt-ltb s.0 w l)
first_right w q s (t ∷ ts) ss l h =
    ap (λ b. if b then option_and_then (λ p. option_map (with_entry s.0 p) (merged w q (t ∷ ts) ss)) (mul_checked q s.1) else met q t (merged w q ts) (s ∷ ss))
    (lt-ltb s.0 t.0 (omega (arith, h.0)))

first_both : (w : ℕ) (q : ℚ) (j : ℕ) (t s : ℚ) (ts ss : Terms)
    → merged w q ((j, t) ∷ ts) ((j, s) ∷ ss) ≡ option_and_then (λ v. option_map (with_entry j v) (merged w q ts ss)) (add_multiple q t s)
first_both w q j t s ts ss =
    ap (λ b. if b then option_and_then (λ p. option_map (with_entry j p) (products_below q j (met q (j, t) (merged w q ts)) ss)) (mul_checked q s) else met q (j, t) (merged w q ts) ((j, s) ∷ ss))
    (le-ltb j j (omega arith))
    ∙ ap (λ b. if b then option_and_then (λ v. option_map (with_entry j v) (merged w q ts ss)) (add_multiple q t s) else option_map (λ es. (j, t) ∷ es) (merged w q ts ((j, s) ∷ ss)))
    (eq-eqb j j refl)

-- ---- the entries of one coefficient more
entries_of : (j : ℕ) (o : Option ℚ) (m : Option Coefficients)
    → option_map (nonzeros j) (option_and_then (λ d. option_map (λ ds. d ∷ ds) m) o) ≡ option_and_then (λ v. option_map (with_entry j v) (option_map (nonzeros (j + 1)) m)) o
entries_of j None m = refl
entries_of j (Some v) None = refl
entries_of j (Some v) (Some ds) = refl

pub left_out : (j : ℕ) (t : ℚ) (m : Option Terms) → int_eq t.num (pos 0) ≡ true → option_map (with_entry j t) m ≡ m
left_out j t None e = refl
left_out j t (Some es) e = ap (λ b. Some (if b then es else (j, t) ∷ es)) e

put_in : (j : ℕ) (t : ℚ) (m : Option Terms) → int_eq t.num (pos 0) ≡ false → option_map (with_entry j t) m ≡ option_map (λ es. (j, t) ∷ es) m
put_in j t m e = ap (λ b. option_map (λ es. if b then es else (j, t) ∷ es) m) e

-- ---- the merge
later : (j : ℕ) (ts : Coefficients) → RiseFrom (suc j) (nonzeros (j + 1) ts)
later j ts = subst (λ k. RiseFrom k (nonzeros (j + 1) ts)) (let e : j + 1 ≡ suc j = omega arith in e) (nonzeros_rise (j + 1) ts)

-- one variable, by which of its two coefficients are 0
merged_at : (w j : ℕ) (q t s : ℚ) (ts ss : Coefficients) → j < w → FitsFraction t
    → merged w q (nonzeros (j + 1) ts) (nonzeros (j + 1) ss) ≡ option_map (nonzeros (j + 1)) (add_multiple_of_row q ts ss)
    → (b : Bool) → int_eq t.num (pos 0) ≡ b → (c : Bool) → int_eq s.num (pos 0) ≡ c
    → merged w q (if b then nonzeros (j + 1) ts else (j, t) ∷ nonzeros (j + 1) ts) (if c then nonzeros (j + 1) ss else (j, s) ∷ nonzeros (j + 1) ss)
    ≡ option_and_then (λ v. option_map (with_entry j v) (option_map (nonzeros (j + 1)) (add_multiple_of_row q ts ss))) (add_multiple q t s)
merged_at w j q t s ts ss l f ih b e c g = at b e c g
  where
    rest : Option Terms
    rest = option_map (nonzeros (j + 1)) (add_multiple_of_row q ts ss)

    whole_step : (o : Option ℚ) → Option Terms
    whole_step o = option_and_then (λ v. option_map (with_entry j v) (option_map (nonzeros (j + 1)) (add_multiple_of_row q ts ss))) o

    kept : int_eq s.num (pos 0) ≡ true → add_multiple q t s ≡ Some t
    kept g = ap (add_multiple q t) (zero_from_test s g) ∙ add_multiple-zero q t f

    at : (b : Bool) → int_eq t.num (pos 0) ≡ b → (c : Bool) → int_eq s.num (pos 0) ≡ c
        → merged w q (if b then nonzeros (j + 1) ts else (j, t) ∷ nonzeros (j + 1) ts) (if c then nonzeros (j + 1) ss else (j, s) ∷ nonzeros (j + 1) ss)
        ≡ option_and_then (λ v. option_map (with_entry j v) (option_map (nonzeros (j + 1)) (add_multiple_of_row q ts ss))) (add_multiple q t s)
    at true e true g =
        ih ∙ sym (left_out j t (option_map (nonzeros (j + 1)) (add_multiple_of_row q ts ss)) e)
        ∙ sym (ap (option_and_then (λ v. option_map (with_entry j v) (option_map (nonzeros (j + 1)) (add_multiple_of_row q ts ss)))) (kept g))
    at false e true g =
        first_left w q (j, t) (nonzeros (j + 1) ts) (nonzeros (j + 1) ss) (later j ss) ∙ ap (option_map (λ es. (j, t) ∷ es)) ih
        ∙ sym (put_in j t (option_map (nonzeros (j + 1)) (add_multiple_of_row q ts ss)) e)
        ∙ sym (ap (option_and_then (λ v. option_map (with_entry j v) (option_map (nonzeros (j + 1)) (add_multiple_of_row q ts ss)))) (kept g))
    at true e false g =
        first_right w q (j, s) (nonzeros (j + 1) ts) (nonzeros (j + 1) ss) l (later j ts)
        ∙ ap (λ m. option_and_then (λ p. option_map (with_entry j p) m) (mul_checked q s)) ih
        ∙ sym (ap (option_and_then (λ v. option_map (with_entry j v) (option_map (nonzeros (j + 1)) (add_multiple_of_row q ts ss)))) (ap (λ t. add_multiple q t s) (zero_from_test t e) ∙ add_multiple_to_zero q s))
    at false e false g =
        first_both w q j t s (nonzeros (j + 1) ts) (nonzeros (j + 1) ss)
        ∙ ap (λ m. option_and_then (λ v. option_map (with_entry j v) m) (add_multiple q t s)) ih

pub merged_is : (w j : ℕ) (q : ℚ) (ts ss : Coefficients) → j + length ts ≡ w → All FitsFraction ts
    → merged w q (nonzeros j ts) (nonzeros j ss) ≡ option_map (nonzeros j) (add_multiple_of_row q ts ss)
merged_is w j q [] ss e h = nothing_below q w (λ ss. Some []) (nonzeros j ss) (subst (λ k. RiseFrom k (nonzeros j ss)) (omega arith) (nonzeros_rise j ss))
merged_is w j q (t ∷ ts) [] e h = merged-none w q (nonzeros j (t ∷ ts))
merged_is w j q (t ∷ ts) (s ∷ ss) e h =
    merged_at w j q t s ts ss (omega arith) (All-head FitsFraction t ts h) (merged_is w (j + 1) q ts ss (omega arith) (All-tail FitsFraction t ts h))
    (int_eq t.num (pos 0)) refl (int_eq s.num (pos 0)) refl
    ∙ sym (entries_of j (add_multiple q t s) (add_multiple_of_row q ts ss))
