-- A substitution, and a row solved for a variable, by the entries of the rows.
use Rattle.std.proofs.Common.{◌≡◌, ℕ, zero, suc, ◌+◌, ◌<◌, ◌≤◌, arith, refl, ap, sym, ◌∙◌, subst, Bool, true, false, Option, Some, None, [], ◌∷◌, ◌++◌, length, get_or, set}
use Rattle.std.specs.Prelude.{pos, nat_eq, All, if◌then◌else◌}
use Rattle.std.specs.Ordering.{int_eq}
use Rattle.std.specs.Option.{option_and_then, option_map}
use Rattle.std.proofs.lemmas.Bool.{lt-ltb, le-ltb, eq-eqb, ne_eqb}
use Rattle.std.proofs.lemmas.List.{length-set, set-get_or}
use Rattle.std.proofs.lemmas.List.Elements.{All-nil, All-head, All-tail, All-set}
use Rattle.fraction.specs.Rational.{ℚ}
use Rattle.fraction.specs.Fits.{FitsFraction}
use Rattle.problem.specs.Lemmas.Rising.{rise_lower}
use Rattle.problem.specs.Linear.{Terms}
use Rattle.problem.specs.Rising.{RiseFrom}
use Rattle.tableau.specs.Elimination.{Coefficients, zero_ℚ, add_multiple_of_row, substituted, negative_quotient, negative_quotients}
use Rattle.tableau.specs.LinearProgram.{coefficients_from}
use Rattle.tableau.specs.Lemmas.Started.{length-coefficients}
use Rattle.tableau.specs.Lemmas.Pivoted.{length-substituted}
use Rattle.tableau.specs.Sparse.{with_entry, nonzeros, HasFraction, IsSparse, without, before_variable, from_variable}
use Rattle.tableau.specs.SparseSteps.{merged, entry_quotients}
use Rattle.fraction.specs.Lemmas.Checked.{zero_from_test, zero_test, zero_has_fraction}
use Rattle.tableau.proofs.Zeros.{zero-add_multiple, negative_quotient-zero}
use Rattle.tableau.proofs.View.{nonzeros_rise, row_from, sparse_from, row_fits}
use Rattle.tableau.proofs.Merging.{merged_is, left_out}

-- ---- a variable left out
nothing_without : (c k : ℕ) (es : Terms) → c < k → RiseFrom k es → without c es ≡ es
nothing_without c k [] l h = refl
nothing_without c k (e ∷ es) l h =
    ap (λ b. if b then without c es else e ∷ without c es) (ne_eqb e.0 c (λ f. omega (arith, h.0, f, l)))
    ∙ ap (λ es. e ∷ es) (nothing_without c (suc e.0) es (omega (arith, h.0, l)) h.1)

without_is : (j c : ℕ) (ts : Coefficients) → without (j + c) (nonzeros j ts) ≡ nonzeros j (set ts c zero_ℚ)
without_is j c [] = refl
without_is j zero (t ∷ ts) = at (int_eq t.num (pos 0)) ∙ sym (ap (λ b. if b then nonzeros (j + 1) ts else (j, zero_ℚ) ∷ nonzeros (j + 1) ts) zero_test)
  where
    nothing : without (j + 0) (nonzeros (j + 1) ts) ≡ nonzeros (j + 1) ts
    nothing = nothing_without (j + 0) (j + 1) (nonzeros (j + 1) ts) (omega arith) (nonzeros_rise (j + 1) ts)

    at : (b : Bool) → without (j + 0) (if b then nonzeros (j + 1) ts else (j, t) ∷ nonzeros (j + 1) ts) ≡ nonzeros (j + 1) ts
    at true = nothing
    at false =
        ap (λ b. if b then without (j + 0) (nonzeros (j + 1) ts) else (j, t) ∷ without (j + 0) (nonzeros (j + 1) ts)) (eq-eqb j (j + 0) (let f : j ≡ j + 0 = omega arith in f)) ∙ nothing
without_is j (suc c) (t ∷ ts) = at (int_eq t.num (pos 0)) (without_is (j + 1) c ts)
  where
    next : j + 1 + c ≡ j + suc c
    next = omega arith

    at : (b : Bool) → without (j + 1 + c) (nonzeros (j + 1) ts) ≡ nonzeros (j + 1) (set ts c zero_ℚ)
        → without (j + suc c) (if b then nonzeros (j + 1) ts else (j, t) ∷ nonzeros (j + 1) ts) ≡ (if b then nonzeros (j + 1) (set ts c zero_ℚ) else (j, t) ∷ nonzeros (j + 1) (set ts c zero_ℚ))
    at true h = ap (λ k. without k (nonzeros (j + 1) ts)) (sym next) ∙ h
    at false h =
        ap (λ b. if b then without (j + suc c) (nonzeros (j + 1) ts) else (j, t) ∷ without (j + suc c) (nonzeros (j + 1) ts)) (ne_eqb j (j + suc c) (λ f. omega (arith, f)))
        ∙ ap (λ es. (j, t) ∷ es) (ap (λ k. without k (nonzeros (j + 1) ts)) (sym next) ∙ h)

pub without_variable : (c : ℕ) (ts : Coefficients) → without c (nonzeros 0 ts) ≡ nonzeros 0 (set ts c zero_ℚ)
without_variable c ts = ap (λ k. without k (nonzeros 0 ts)) (let f : c ≡ 0 + c = omega arith in f) ∙ without_is 0 c ts

pub without-append : (c : ℕ) (es fs : Terms) → without c (es ++ fs) ≡ without c es ++ without c fs
without-append c [] fs = refl
without-append c (e ∷ es) fs = at (nat_eq e.0 c) (without-append c es fs)
  where
    at : (b : Bool) → without c (es ++ fs) ≡ without c es ++ without c fs
        → (if b then without c (es ++ fs) else e ∷ without c (es ++ fs)) ≡ (if b then without c es else e ∷ without c es) ++ without c fs
    at true h = h
    at false h = ap (λ es. e ∷ es) h

-- ---- the substitution
pub substituted_is : (w c : ℕ) (new row : Coefficients) → length row ≡ w → All FitsFraction row
    → merged w (get_or row c zero_ℚ) (without c (nonzeros 0 row)) (nonzeros 0 new) ≡ option_map (nonzeros 0) (substituted c new row)
substituted_is w c new row l h =
    ap (λ es. merged w (get_or row c zero_ℚ) es (nonzeros 0 new)) (without_variable c row)
    ∙ merged_is w 0 (get_or row c zero_ℚ) (set row c zero_ℚ) new (omega (arith, l, length-set row c zero_ℚ)) (All-set FitsFraction row c zero_ℚ zero_has_fraction h)

nothing_added : (ts ss : Coefficients) → All FitsFraction ts → add_multiple_of_row zero_ℚ ts ss ≡ Some ts
nothing_added [] ss h = refl
nothing_added (t ∷ ts) [] h = refl
nothing_added (t ∷ ts) (s ∷ ss) h =
    ap (option_and_then (λ d. option_map (λ ds. d ∷ ds) (add_multiple_of_row zero_ℚ ts ss))) (zero-add_multiple t s (All-head FitsFraction t ts h))
    ∙ ap (option_map (λ ds. t ∷ ds)) (nothing_added ts ss (All-tail FitsFraction t ts h))

-- a row without the variable stays as it is
pub substituted_in_none : (c : ℕ) (new row : Coefficients) → int_eq (get_or row c zero_ℚ).num (pos 0) ≡ true → All FitsFraction row → substituted c new row ≡ Some row
substituted_in_none c new row e h =
    let z : get_or row c zero_ℚ ≡ zero_ℚ = zero_from_test (get_or row c zero_ℚ) e in
    let same : set row c zero_ℚ ≡ row = ap (set row c) (sym z) ∙ set-get_or row c zero_ℚ in
    (λ i. add_multiple_of_row (z i) (same i) new) ∙ nothing_added row new h

-- ---- quotients
pub entry_quotients_are : (j : ℕ) (p : ℚ) (ts : Coefficients) → entry_quotients p (nonzeros j ts) ≡ option_map (nonzeros j) (negative_quotients p ts)
entry_quotients_are j p [] = refl
entry_quotients_are j p (t ∷ ts) = at (int_eq t.num (pos 0)) refl (entry_quotients_are (j + 1) p ts) ∙ sym (entries_of (negative_quotient p t) (negative_quotients p ts))
  where
    entries_of : (o : Option ℚ) (m : Option Coefficients)
        → option_map (nonzeros j) (option_and_then (λ d. option_map (λ ds. d ∷ ds) m) o) ≡ option_and_then (λ v. option_map (with_entry j v) (option_map (nonzeros (j + 1)) m)) o
    entries_of None m = refl
    entries_of (Some v) None = refl
    entries_of (Some v) (Some ds) = refl

    at : (b : Bool) → int_eq t.num (pos 0) ≡ b → entry_quotients p (nonzeros (j + 1) ts) ≡ option_map (nonzeros (j + 1)) (negative_quotients p ts)
        → entry_quotients p (if b then nonzeros (j + 1) ts else (j, t) ∷ nonzeros (j + 1) ts)
        ≡ option_and_then (λ v. option_map (with_entry j v) (option_map (nonzeros (j + 1)) (negative_quotients p ts))) (negative_quotient p t)
    at true e h =
        h ∙ sym (left_out j zero_ℚ (option_map (nonzeros (j + 1)) (negative_quotients p ts)) zero_test)
        ∙ sym (ap (option_and_then (λ v. option_map (with_entry j v) (option_map (nonzeros (j + 1)) (negative_quotients p ts)))) (ap (negative_quotient p) (zero_from_test t e) ∙ negative_quotient-zero p))
    at false e h = ap (λ m. option_and_then (λ v. option_map (with_entry j v) m) (negative_quotient p t)) h

-- ---- one coefficient put in
-- the entries around that of variable r
abbrev pub around : ℕ → Terms → Terms → Terms
around r own es = before_variable r es ++ (own ++ from_variable (r + 1) es)

before_none : (k : ℕ) (es : Terms) → RiseFrom k es → before_variable k es ≡ []
before_none k [] h = refl
before_none k (e ∷ es) h = ap (λ b. if b then e ∷ before_variable k es else []) (le-ltb e.0 k h.0)

from_all : (k : ℕ) (es : Terms) → RiseFrom k es → from_variable k es ≡ es
from_all k [] h = refl
from_all k (e ∷ es) h = ap (λ b. if b then from_variable k es else e ∷ es) (le-ltb e.0 k h.0)

-- an entry of an earlier variable stands before
around_later : (r j : ℕ) (t : ℚ) (own es : Terms) → j < r → around r own ((j, t) ∷ es) ≡ (j, t) ∷ around r own es
around_later r j t own es l =
    λ i. (if lt-ltb j r l i then (j, t) ∷ before_variable r es else []) ++ (own ++ (if lt-ltb j (r + 1) (let m : j < r + 1 = omega arith in m) i then from_variable (r + 1) es else (j, t) ∷ es))

-- that of the variable itself goes
around_own : (r : ℕ) (t : ℚ) (own es : Terms) → RiseFrom (suc r) es → around r own ((r, t) ∷ es) ≡ own ++ es
around_own r t own es h =
    (λ i. (if le-ltb r r (let m : r ≤ r = omega arith in m) i then (r, t) ∷ before_variable r es else []) ++ (own ++ (if lt-ltb r (r + 1) (let m : r < r + 1 = omega arith in m) i then from_variable (r + 1) es else (r, t) ∷ es)))
    ∙ ap (λ es. own ++ es) (from_all (r + 1) es (subst (λ k. RiseFrom k es) (let f : suc r ≡ r + 1 = omega arith in f) h))

around_none : (r : ℕ) (own es : Terms) → RiseFrom (suc r) es → around r own es ≡ own ++ es
around_none r own es h =
    (λ i. before_none r es (rise_lower r (suc r) es (omega arith) h) i ++ (own ++ from_all (r + 1) es (subst (λ k. RiseFrom k es) (let f : suc r ≡ r + 1 = omega arith in f) h) i))

pub put_is : (j r : ℕ) (v : ℚ) (ts : Coefficients) → int_eq v.num (pos 0) ≡ false → r < length ts
    → nonzeros j (set ts r v) ≡ around (j + r) ((j + r, v) ∷ []) (nonzeros j ts)
put_is j r v [] n l = absurd (omega arith)
put_is j zero v (t ∷ ts) n l =
    ap (λ b. if b then nonzeros (j + 1) ts else (j, v) ∷ nonzeros (j + 1) ts) n ∙ ap (λ k. (k, v) ∷ nonzeros (j + 1) ts) plain
    ∙ at (int_eq t.num (pos 0))
  where
    plain : j ≡ j + 0
    plain = omega arith

    rest : RiseFrom (suc (j + 0)) (nonzeros (j + 1) ts)
    rest = subst (λ k. RiseFrom k (nonzeros (j + 1) ts)) (let f : j + 1 ≡ suc (j + 0) = omega arith in f) (nonzeros_rise (j + 1) ts)

    at : (b : Bool) → (j + 0, v) ∷ nonzeros (j + 1) ts ≡ around (j + 0) ((j + 0, v) ∷ []) (if b then nonzeros (j + 1) ts else (j, t) ∷ nonzeros (j + 1) ts)
    at true = sym (around_none (j + 0) ((j + 0, v) ∷ []) (nonzeros (j + 1) ts) rest)
    at false =
        sym (ap (λ k. around (j + 0) ((j + 0, v) ∷ []) ((k, t) ∷ nonzeros (j + 1) ts)) plain ∙ around_own (j + 0) t ((j + 0, v) ∷ []) (nonzeros (j + 1) ts) rest)
put_is j (suc r) v (t ∷ ts) n l = at (int_eq t.num (pos 0)) (put_is (j + 1) r v ts n (omega arith))
  where
    next : j + 1 + r ≡ j + suc r
    next = omega arith

    at : (b : Bool) → nonzeros (j + 1) (set ts r v) ≡ around (j + 1 + r) ((j + 1 + r, v) ∷ []) (nonzeros (j + 1) ts)
        → (if b then nonzeros (j + 1) (set ts r v) else (j, t) ∷ nonzeros (j + 1) (set ts r v)) ≡ around (j + suc r) ((j + suc r, v) ∷ []) (if b then nonzeros (j + 1) ts else (j, t) ∷ nonzeros (j + 1) ts)
    at true h = h ∙ ap (λ k. around k ((k, v) ∷ []) (nonzeros (j + 1) ts)) next
    at false h =
        ap (λ es. (j, t) ∷ es) (h ∙ ap (λ k. around k ((k, v) ∷ []) (nonzeros (j + 1) ts)) next)
        ∙ sym (around_later (j + suc r) j t ((j + suc r, v) ∷ []) (nonzeros (j + 1) ts) (omega arith))

-- past the row's end nothing is put in
pub none_past : (j r : ℕ) (ts : Coefficients) → j + length ts ≤ r → around r [] (nonzeros j ts) ≡ nonzeros j ts
none_past j r [] l = refl
none_past j r (t ∷ ts) l = at (int_eq t.num (pos 0)) (none_past (j + 1) r ts (omega arith))
  where
    at : (b : Bool) → around r [] (nonzeros (j + 1) ts) ≡ nonzeros (j + 1) ts
        → around r [] (if b then nonzeros (j + 1) ts else (j, t) ∷ nonzeros (j + 1) ts) ≡ (if b then nonzeros (j + 1) ts else (j, t) ∷ nonzeros (j + 1) ts)
    at true h = h
    at false h = around_later r j t [] (nonzeros (j + 1) ts) (omega arith) ∙ ap (λ es. (j, t) ∷ es) h

-- ---- what the code finds
-- a row whose entries were found
pub new_row : (o : Option Coefficients) (w : ℕ) (new : Terms) → ((y : Coefficients) → o ≡ Some y → length y ≡ w) → option_map (nonzeros 0) o ≡ Some new → All HasFraction new
    → (o ≡ Some (coefficients_from 0 w new)) × IsSparse w new
new_row None w new l e h = cc
new_row (Some y) w new l e h =
    let f : nonzeros 0 y ≡ new = cc in
    (ap Some (sym (row_from y w new (l y refl) (sym f))), sparse_from y w new (l y refl) (sym f) h)

same_merge : (w u v : ℕ) (es fs ts ss : Terms) (row source : Coefficients) (q : ℚ) → IsSparse w es → IsSparse u fs → coefficients_from 0 w es ≡ row → coefficients_from 0 u fs ≡ source
    → q ≡ get_or row v zero_ℚ → ts ≡ es → ss ≡ fs → merged w q (without v ts) ss ≡ option_map (nonzeros 0) (substituted v source row)
same_merge w u v es fs ts ss row source q h k e f g a b =
    (λ i. merged w (g i) (without v ((a ∙ h.entries ∙ ap (nonzeros 0) e) i)) ((b ∙ k.entries ∙ ap (nonzeros 0) f) i))
    ∙ substituted_is w v source row (ap length (sym e) ∙ length-coefficients 0 w es) (subst (All FitsFraction) e (row_fits w es h))

pub substituted_none : (w u v : ℕ) (es fs ts ss : Terms) (row source : Coefficients) (q : ℚ) → IsSparse w es → IsSparse u fs → coefficients_from 0 w es ≡ row → coefficients_from 0 u fs ≡ source
    → q ≡ get_or row v zero_ℚ → ts ≡ es → ss ≡ fs → merged w q (without v ts) ss ≡ None → substituted v source row ≡ None
substituted_none w u v es fs ts ss row source q h k e f g a b n = none_of (substituted v source row) (sym (same_merge w u v es fs ts ss row source q h k e f g a b) ∙ n)
  where
    none_of : (o : Option Coefficients) → option_map (nonzeros 0) o ≡ None → o ≡ None
    none_of None e = refl
    none_of (Some y) e = cc

pub substituted_some : (w u v : ℕ) (es fs ts ss old new : Terms) (row source : Coefficients) (q : ℚ) → IsSparse w es → IsSparse u fs → coefficients_from 0 w es ≡ row → coefficients_from 0 u fs ≡ source
    → q ≡ get_or row v zero_ℚ → ts ≡ es → ss ≡ fs → old ≡ [] → (All HasFraction old → All HasFraction new) → Some new ≡ option_map (λ es. old ++ es) (merged w q (without v ts) ss)
    → (substituted v source row ≡ Some (coefficients_from 0 w new)) × IsSparse w new
substituted_some w u v es fs ts ss old new row source q h k e f g a b o fr n =
    new_row (substituted v source row) w new (λ y m. length-substituted v source row y m ∙ ap length (sym e) ∙ length-coefficients 0 w es)
    (sym (same_merge w u v es fs ts ss row source q h k e f g a b) ∙ sym (plain (merged w q (without v ts) ss)) ∙ sym (n ∙ ap (λ old. option_map (λ es. old ++ es) (merged w q (without v ts) ss)) o))
    (fr (subst (All HasFraction) (sym o) (All-nil HasFraction)))
  where
    plain : (o : Option Terms) → option_map (λ es. [] ++ es) o ≡ o
    plain None = refl
    plain (Some es) = refl
