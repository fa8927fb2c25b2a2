use Rattle.std.proofs.Common.{arith, sym, ap, ◌∙◌, ◌∷◌, [], ◌++◌, take}
use Rattle.std.specs.Prelude.{if◌then◌else◌}
use Rattle.gomory_cuts.specs.declared.sign.Sign.TheVariants.{Plus, Minus}
use Rattle.gomory_cuts.specs.Separation.{cut_at, cuts_at, with_cuts, most_separated}
use Rattle.gomory_cuts.proofs.Steps.{full_stays}
use Rattle.gomory_cuts.proofs.separation.add_cuts.Goals as goal
use Rattle.gomory_cuts.proofs.separation.add_cuts.Goals.{then-len-eq-MOST_SEPARATED-via-then-len-eq-MOST_SEPARATED, then-len-eq-MOST_SEPARATED-via-else-len-eq-MOST_SEPARATED+then-not-is_fractional}

pub returns-then-len-eq-MOST_SEPARATED-clause-value : goal.returns-then-len-eq-MOST_SEPARATED-clause-value
returns-then-len-eq-MOST_SEPARATED-clause-value c = elim c.then-len-eq-MOST_SEPARATED.branch [
  | then-len-eq-MOST_SEPARATED-via-then-len-eq-MOST_SEPARATED w ↦ λ rest.
      full_stays c.args.found.now.items (cuts_at c.args.problem.now c.args.book.now.cuts c.args.tableau.now c.args.point.now c.args.column) rest (sym (omega (arith, w.if-len-eq-MOST_SEPARATED.true, c.len.ensures)))
  | then-len-eq-MOST_SEPARATED-via-else-len-eq-MOST_SEPARATED+then-not-is_fractional w ↦ λ rest.
      ap (λ b. take most_separated (with_cuts c.args.found.now.items ((if b then cut_at c.args.problem.now c.args.book.now.cuts c.args.tableau.now c.args.point.now c.args.column Plus ∷ cut_at c.args.problem.now c.args.book.now.cuts c.args.tableau.now c.args.point.now c.args.column Minus ∷ [] else []) ++ rest)))
      (sym (sym w.is_fractional.ensures ∙ w.if-not-is_fractional.true))
]

pub returns-clause-value : goal.returns-clause-value
returns-clause-value c =
    λ rest. c.in_ok-add_cuts_of_row.ensures.value rest
    ∙ ap (λ x. take most_separated (with_cuts c.args.found.now.items (cut_at c.args.problem.now c.args.book.now.cuts c.args.tableau.now x c.args.column Plus ∷ cut_at c.args.problem.now c.args.book.now.cuts c.args.tableau.now x c.args.column Minus ∷ rest))) c.requires.same
    ∙ ap (λ b. take most_separated (with_cuts c.args.found.now.items ((if b then cut_at c.args.problem.now c.args.book.now.cuts c.args.tableau.now c.args.point.now c.args.column Plus ∷ cut_at c.args.problem.now c.args.book.now.cuts c.args.tableau.now c.args.point.now c.args.column Minus ∷ [] else []) ++ rest)))
    (sym (sym c.is_fractional.ensures ∙ c.if-not-is_fractional.false))
