-- The linear program of a problem and cuts, cut by cut.
use Rattle.std.specs.Prelude.{slice_get}
use Rattle.std.proofs.Common.{◌≡◌, ℕ, ◌+◌, ◌<◌, ap, sym, ◌∙◌, Some, List, [], ◌∷◌, ◌++◌, length, map, take}
use Rattle.std.specs.Option.{option_map}
use Rattle.std.proofs.lemmas.Option.{get_or_from_slice_get}
use Rattle.std.proofs.lemmas.List.{take_more, map-append}
use Rattle.fraction.specs.Lemmas.Bounds.{was_mapped}
use Rattle.problem_box.specs.declared.span.Span.{Span}
use Rattle.problem.specs.declared.row.Row.{Row}
use Rattle.problem.specs.Problem.{Problem}
use Rattle.derivation_book.specs.declared.cut.Cut.{Cut}
use Rattle.tableau.specs.LinearProgram.{LinearProgram, relaxation, with_cut}
use Rattle.tableau.specs.Lemmas.Programs.{relaxation-with_cut}
use Rattle.dual_simplex.specs.Answers.{linear_program}

abbrev row_of_cut : Cut → Row
row_of_cut c = c.row

-- the rows of one cut more
rows_more : (cs : List Cut) (i : ℕ) (c : Cut) → i < length cs → slice_get cs i ≡ Some c → map row_of_cut (take (i + 1) cs) ≡ map row_of_cut (take i cs) ++ c.row ∷ []
rows_more cs i c l e =
    ap (map row_of_cut) (take_more cs i c l ∙ ap (λ d. take i cs ++ d ∷ []) (get_or_from_slice_get cs i c c e)) ∙ map-append row_of_cut (take i cs) (c ∷ [])

-- the linear program of one cut more
pub next_cut : (p : Problem) (box : List Span) → length box ≡ length p.spans → (cs : List Cut) (i : ℕ) (r : Row) (lp new : LinearProgram) → i < length cs
    → option_map (λ (c : Cut). c.row) (slice_get cs i) ≡ Some r → lp ≡ linear_program p (take i cs) box → new ≡ with_cut lp r → new ≡ linear_program p (take (i + 1) cs) box
next_cut p box columns cs i r lp new l e f g =
    let w = was_mapped row_of_cut (slice_get cs i) r e in
    g ∙ ap (λ q. with_cut q r) f ∙ relaxation-with_cut p (map row_of_cut (take i cs)) box r columns
    ∙ ap (λ rows. relaxation p rows box) (ap (λ s. map row_of_cut (take i cs) ++ s ∷ []) (sym w.2) ∙ sym (rows_more cs i w.0 l w.1))
