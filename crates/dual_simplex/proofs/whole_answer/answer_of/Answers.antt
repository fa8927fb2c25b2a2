use Rattle.std.specs.Prelude.{IsSome}
use Rattle.std.proofs.Common.{sym, subst, [], take}
use Rattle.derivation_book.specs.Legal.{AreProofMultipliers}
use Rattle.derivation_book.specs.Price.{price}
use Rattle.dual_simplex.specs.Ends.{IsOptimumThere}
use Rattle.dual_simplex.proofs.EndNumbers.{done_multipliers, done_there, no_column_multipliers, no_column_there}
use Rattle.dual_simplex.proofs.whole_answer.answer_of.Goals as goal

pub make-mult-requires-clause-rising : goal.make-mult-requires-clause-rising
make-mult-requires-clause-rising c =
    (done_multipliers c.args.problem.now (take c.args.cuts c.args.book.now.cuts) c.args.area.now c.args.numbers c.requires.ends c.in-Done.is).rising

pub make-mult-requires-clause-nonzero : goal.make-mult-requires-clause-nonzero
make-mult-requires-clause-nonzero c =
    (done_multipliers c.args.problem.now (take c.args.cuts c.args.book.now.cuts) c.args.area.now c.args.numbers c.requires.ends c.in-Done.is).nonzero

pub optimal_by-requires-clause-usable : goal.optimal_by-requires-clause-usable
optimal_by-requires-clause-usable c =
    subst (AreProofMultipliers c.args.problem.now (take c.args.cuts c.args.book.now.cuts)) (sym c.make-mult.ensures)
    (done_multipliers c.args.problem.now (take c.args.cuts c.args.book.now.cuts) c.args.area.now c.args.numbers c.requires.ends c.in-Done.is).usable

pub optimal_by-requires-clause-there : goal.optimal_by-requires-clause-there
optimal_by-requires-clause-there c = λ q.
    let p = c.args.problem.now in
    let cs = take c.args.cuts c.args.book.now.cuts in
    let box = c.args.area.now in
    subst (λ x. IsOptimumThere p cs box x c.make-mult.result) (sym c.in_ok-point-in-Done.ensures)
    (subst (IsOptimumThere p cs box c.args.numbers.point.items) (sym c.make-mult.ensures)
    (done_there p cs box c.args.numbers c.requires.ends c.in-Done.is c.requires.columns c.requires.integers (c.are_small-is_there.ensures.modest q) (c.are_small-is_there.ensures.denominator q)))

pub make-mult-requires-in-NoColumn-clause-rising : goal.make-mult-requires-in-NoColumn-clause-rising
make-mult-requires-in-NoColumn-clause-rising c =
    (no_column_multipliers c.args.problem.now (take c.args.cuts c.args.book.now.cuts) c.args.area.now c.args.numbers c.requires.ends c.in-NoColumn.row c.in-NoColumn.is).rising

pub make-mult-requires-in-NoColumn-clause-nonzero : goal.make-mult-requires-in-NoColumn-clause-nonzero
make-mult-requires-in-NoColumn-clause-nonzero c =
    (no_column_multipliers c.args.problem.now (take c.args.cuts c.args.book.now.cuts) c.args.area.now c.args.numbers c.requires.ends c.in-NoColumn.row c.in-NoColumn.is).nonzero

pub infeasible_by-requires-clause-usable : goal.infeasible_by-requires-clause-usable
infeasible_by-requires-clause-usable c =
    subst (AreProofMultipliers c.args.problem.now (take c.args.cuts c.args.book.now.cuts)) (sym c.make-mult-in-NoColumn.ensures)
    (no_column_multipliers c.args.problem.now (take c.args.cuts c.args.book.now.cuts) c.args.area.now c.args.numbers c.requires.ends c.in-NoColumn.row c.in-NoColumn.is).usable

pub infeasible_by-requires-clause-there : goal.infeasible_by-requires-clause-there
infeasible_by-requires-clause-there c = λ q.
    let p = c.args.problem.now in
    let cs = take c.args.cuts c.args.book.now.cuts in
    let box = c.args.area.now in
    subst (λ mult. IsSome (price p cs box [] mult)) (sym c.make-mult-in-NoColumn.ensures)
    (no_column_there p cs box c.args.numbers c.requires.ends c.in-NoColumn.row c.in-NoColumn.is c.requires.columns c.requires.integers (c.are_small-is_there.ensures.modest q) (c.are_small-is_there.ensures.denominator q))
