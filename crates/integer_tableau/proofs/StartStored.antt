-- The dictionary at the start can be stored.
use Rattle.std.proofs.Common.{◌≡◌, ℕ, refl, sym, ◌∙◌, subst, Some, List, length}
use Rattle.std.specs.Prelude.{ℤ}
use Rattle.tableau.specs.Invariants.{IsTableauOf}
use Rattle.tableau.specs.Lemmas.Started.{started_keeps}
use Rattle.tableau.specs.LinearProgram.{variables}
use Rattle.tableau.specs.Start.{started}
use Rattle.tableau.specs.Tableau.{Tableau}
use Rattle.tableau.specs.WellFormed.{IsWellFormed}
use Rattle.integer_tableau.proofs.ToFractions.{statuses_many}
use Rattle.integer_tableau.specs.Combined.{IsCompact, expanded}
use Rattle.integer_tableau.specs.IntegerProgram.{fraction_program}
use Rattle.integer_tableau.specs.IntegerTableau.{IntegerTableau, tableau_of}
use Rattle.integer_tableau.specs.declared.integer_bounds.IntegerBounds.{IntegerBounds}
use Rattle.integer_tableau.specs.Dictionary.{IsDictionaryOf}
use Rattle.integer_tableau.specs.IntegerDictionary.{IsStored, dictionary_of}
use Rattle.integer_tableau.specs.IntegerDictionary.{program_of}
use Rattle.integer_tableau.proofs.Stored.{as_stored}

-- the bounds are no part of it
of_matrix : (n : ℕ) (ps : List (List ℤ)) (costs : List ℤ) (bounds : List IntegerBounds) (numbers : List ℕ) (t : Tableau) → IsTableauOf n (fraction_program ps costs bounds numbers) t → IsDictionaryOf n (program_of ps costs) t
of_matrix n ps costs bounds numbers t h = record {
  count = h.size.rows;
  canonical = h.canonical;
  solutions = record { to = h.solutions.to; back = h.solutions.back };
  objective = h.objective;
}

pub start_stored : (ps : List (List ℤ)) (weight reach : ℕ) (costs : List ℤ) (bounds : List IntegerBounds) (numbers : List ℕ) (t : IntegerTableau)
    → IsCompact ps weight reach t → IsWellFormed (fraction_program ps costs bounds numbers)
    → started (fraction_program ps costs bounds numbers) ≡ Some (tableau_of (length t.rows) numbers (expanded ps t)) → IsStored ps weight (program_of ps costs) (dictionary_of t)
start_stored ps weight reach costs bounds numbers t compact w e =
    let p = fraction_program ps costs bounds numbers in
    let view = tableau_of (length t.rows) numbers (expanded ps t) in
    let h : IsTableauOf (variables p) p view = started_keeps p view w e in
    let many : variables p ≡ length t.positions = sym h.size.statuses ∙ statuses_many (length t.rows) numbers ps weight reach t view compact refl refl in
    as_stored ps weight reach t compact numbers (program_of ps costs) (subst (λ n. IsDictionaryOf n (program_of ps costs) view) many (of_matrix (variables p) ps costs bounds numbers view h))
