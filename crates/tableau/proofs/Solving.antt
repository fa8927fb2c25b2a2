-- A row solved for a variable, by its entries.
use Rattle.std.proofs.Common.{◌≡◌, ℕ, ◌+◌, ◌≤◌, arith, refl, ap, sym, ◌∙◌, true, false, Option, Some, None, [], ◌∷◌, ◌++◌, length, get_or, set, inl, inr}
use Rattle.std.specs.Prelude.{pos, negsuc, All, if◌then◌else◌}
use Rattle.std.specs.Ordering.{int_eq}
use Rattle.std.specs.Option.{option_map}
use Rattle.std.proofs.lemmas.Bool.{lt-ltb, le-ltb, cases_lt}
use Rattle.std.proofs.lemmas.List.{append-nil, set_past}
use Rattle.fraction.specs.Rational.{ℚ}
use Rattle.fraction.specs.Lemmas.Bounds.{whole_parts}
use Rattle.problem.specs.Linear.{Terms}
use Rattle.tableau.specs.Elimination.{Coefficients, zero_ℚ, negative_quotients, solved_for}
use Rattle.tableau.specs.LinearProgram.{coefficients_from}
use Rattle.tableau.specs.Lemmas.Started.{length-coefficients}
use Rattle.tableau.specs.Lemmas.RowAlgebra.{minus_one}
use Rattle.tableau.specs.Lemmas.PivotKeeps.{length-solved_for}
use Rattle.tableau.specs.Sparse.{nonzeros, HasFraction, IsSparse, without, before_variable, from_variable, own_entry}
use Rattle.tableau.specs.SparseSteps.{entry_quotients}
use Rattle.tableau.proofs.Substituting.{without_variable, without-append, around, put_is, none_past, entry_quotients_are, new_row}

-- ---- the entries to be divided
minus_there : int_eq minus_one.num (pos 0) ≡ false
minus_there = ap (λ z. int_eq z (pos 0)) (whole_parts (negsuc 0)).0

-- with -1 put in for variable r
with_own : (w r : ℕ) (row : Coefficients) → length row ≡ w → nonzeros 0 (set row r minus_one) ≡ around r (own_entry w r) (nonzeros 0 row)
with_own w r row l = elim (cases_lt r w) [
  | inl h ↦
      put_is 0 r minus_one row minus_there (omega arith)
      ∙ ap (λ k. around k ((k, minus_one) ∷ []) (nonzeros 0 row)) (let e : 0 + r ≡ r = omega arith in e)
      ∙ sym (ap (λ b. around r (if b then (r, minus_one) ∷ [] else []) (nonzeros 0 row)) (lt-ltb r w h))
  | inr h ↦
      ap (nonzeros 0) (set_past row r minus_one (let m : length row ≤ r = omega arith in m)) ∙ sym (none_past 0 r row (omega arith))
      ∙ sym (ap (λ b. around r (if b then (r, minus_one) ∷ [] else []) (nonzeros 0 row)) (le-ltb r w h))
]

-- the parts that the code goes over
abbrev pub parts_of : ℕ → Terms → Terms → Terms → Terms
parts_of c front own back = without c front ++ (without c own ++ (without c back ++ []))

parts_are : (w r c : ℕ) (row : Coefficients) (es front back : Terms) → length row ≡ w → es ≡ nonzeros 0 row → front ≡ before_variable r es → back ≡ from_variable (r + 1) es
    → parts_of c front (own_entry w r) back ≡ nonzeros 0 (set (set row r minus_one) c zero_ℚ)
parts_are w r c row es front back l e f b =
    (λ i. without c (f i) ++ (without c (own_entry w r) ++ append-nil (without c (b i)) i))
    ∙ ap (λ xs. without c (before_variable r es) ++ xs) (sym (without-append c (own_entry w r) (from_variable (r + 1) es)))
    ∙ sym (without-append c (before_variable r es) (own_entry w r ++ from_variable (r + 1) es))
    ∙ ap (λ es. without c (around r (own_entry w r) es)) e
    ∙ ap (without c) (sym (with_own w r row l))
    ∙ without_variable c (set row r minus_one)

-- ---- what the code finds
-- the quotients of entries, pushed behind old ones, and those that are cramped
abbrev pub Goes : ℚ → ℕ → Terms → Terms → Terms → Type 0
Goes p c es old new = (others : Terms) → option_map (λ fs. new ++ fs) (entry_quotients p others) ≡ option_map (λ fs. old ++ fs) (entry_quotients p (without c es ++ others))

abbrev pub Stops : ℚ → ℕ → Terms → Type 0
Stops p c es = (others : Terms) → entry_quotients p (without c es ++ others) ≡ None

none_of : (xs : Terms) (o : Option Terms) → None ≡ option_map (λ fs. xs ++ fs) o → o ≡ None
none_of xs None e = refl
none_of xs (Some fs) e = cc

plain : (xs : Terms) (o : Option Terms) → xs ≡ [] → option_map (λ fs. xs ++ fs) o ≡ o
plain xs None e = refl
plain xs (Some fs) e = ap (λ xs. Some (xs ++ fs)) e

pub front_stops : (p : ℚ) (c : ℕ) (front own back : Terms) → Stops p c front → entry_quotients p (parts_of c front own back) ≡ None
front_stops p c front own back h = h (without c own ++ (without c back ++ []))

pub own_stops : (p : ℚ) (c : ℕ) (front own back old new : Terms) → Goes p c front old new → Stops p c own → entry_quotients p (parts_of c front own back) ≡ None
own_stops p c front own back old new g h =
    none_of old (entry_quotients p (parts_of c front own back)) (sym (ap (option_map (λ fs. new ++ fs)) (h (without c back ++ []))) ∙ g (without c own ++ (without c back ++ [])))

pub back_stops : (p : ℚ) (c : ℕ) (front own back old mid new : Terms) → Goes p c front old mid → Goes p c own mid new → Stops p c back → entry_quotients p (parts_of c front own back) ≡ None
back_stops p c front own back old mid new f g h =
    none_of old (entry_quotients p (parts_of c front own back)) (sym (ap (option_map (λ fs. new ++ fs)) (h [])) ∙ g (without c back ++ []) ∙ f (without c own ++ (without c back ++ [])))

pub all_go : (p : ℚ) (c : ℕ) (front own back old mid late new : Terms) → old ≡ [] → Goes p c front old mid → Goes p c own mid late → Goes p c back late new
    → entry_quotients p (parts_of c front own back) ≡ Some new
all_go p c front own back old mid late new e f g h =
    sym (plain old (entry_quotients p (parts_of c front own back)) e) ∙ sym (h [] ∙ g (without c back ++ []) ∙ f (without c own ++ (without c back ++ []))) ∙ ap Some (append-nil new)

-- the quotients of a row, by its entries
pub quotients_are : (p : ℚ) (w r c : ℕ) (row : Coefficients) (es front back : Terms) → coefficients_from 0 w es ≡ row → IsSparse w es → front ≡ before_variable r es → back ≡ from_variable (r + 1) es
    → entry_quotients p (parts_of c front (own_entry (length row) r) back) ≡ option_map (nonzeros 0) (negative_quotients p (set (set row r minus_one) c zero_ℚ))
quotients_are p w r c row es front back v h f b =
    let l : length row ≡ w = ap length (sym v) ∙ length-coefficients 0 w es in
    ap (λ n. entry_quotients p (parts_of c front (own_entry n r) back)) l
    ∙ ap (entry_quotients p) (parts_are w r c row es front back l (h.entries ∙ ap (nonzeros 0) v) f b)
    ∙ entry_quotients_are 0 p (set (set row r minus_one) c zero_ℚ)

-- ---- the solved row
pub solved_none : (r c : ℕ) (row : Coefficients) (p : ℚ) → p ≡ get_or row c zero_ℚ → int_eq p.num (pos 0) ≡ true → solved_for r c row ≡ None
solved_none r c row p e z =
    ap (λ b. if b then None else negative_quotients (get_or row c zero_ℚ) (set (set row r minus_one) c zero_ℚ)) (ap (λ (q : ℚ). int_eq q.num (pos 0)) (sym e) ∙ z)

solved_is : (r c : ℕ) (row : Coefficients) (p : ℚ) → p ≡ get_or row c zero_ℚ → int_eq p.num (pos 0) ≡ false → solved_for r c row ≡ negative_quotients p (set (set row r minus_one) c zero_ℚ)
solved_is r c row p e z =
    ap (λ b. if b then None else negative_quotients (get_or row c zero_ℚ) (set (set row r minus_one) c zero_ℚ)) (ap (λ (q : ℚ). int_eq q.num (pos 0)) (sym e) ∙ z)
    ∙ ap (λ q. negative_quotients q (set (set row r minus_one) c zero_ℚ)) (sym e)

pub solved_cramped : (r c : ℕ) (row : Coefficients) (p : ℚ) → p ≡ get_or row c zero_ℚ → int_eq p.num (pos 0) ≡ false
    → option_map (nonzeros 0) (negative_quotients p (set (set row r minus_one) c zero_ℚ)) ≡ None → solved_for r c row ≡ None
solved_cramped r c row p e z n = solved_is r c row p e z ∙ at (negative_quotients p (set (set row r minus_one) c zero_ℚ)) n
  where
    at : (o : Option Coefficients) → option_map (nonzeros 0) o ≡ None → o ≡ None
    at None e = refl
    at (Some y) e = cc

pub solved_some : (w r c : ℕ) (row : Coefficients) (es new : Terms) (p : ℚ) → coefficients_from 0 w es ≡ row → p ≡ get_or row c zero_ℚ → int_eq p.num (pos 0) ≡ false
    → option_map (nonzeros 0) (negative_quotients p (set (set row r minus_one) c zero_ℚ)) ≡ Some new → All HasFraction new
    → (solved_for r c row ≡ Some (coefficients_from 0 w new)) × IsSparse w new
solved_some w r c row es new p v e z n h =
    new_row (solved_for r c row) w new (λ y m. length-solved_for r c row y m ∙ ap length (sym v) ∙ length-coefficients 0 w es)
    (ap (option_map (nonzeros 0)) (solved_is r c row p e z) ∙ n) h
