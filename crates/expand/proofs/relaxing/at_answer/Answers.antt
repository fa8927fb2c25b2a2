use Rattle.std.proofs.Common.{◌≡◌, ◌∙◌, ap, sym, refl, ℕ, List, Option, Some, None}
use Rattle.pseudo_cost.specs.declared.column_gains.ColumnGains.{ColumnGains}
use Rattle.dual_simplex.specs.declared.answer.Answer.{Answer}
use Rattle.dual_simplex.specs.declared.answer.Answer.TheVariants.{Cramped, Stalled}
use Rattle.expand.specs.declared.origin.Origin.{Origin}
use Rattle.expand.specs.Notes.{with_note}
use Rattle.expand.proofs.Answering.{point_columns}
use Rattle.expand.proofs.relaxing.at_answer.Goals as goal

-- nothing is noted where the run came to no answer
none_cramped : (o : Option Origin) (n : ℕ) (costs : List ColumnGains) → costs ≡ with_note o (Cramped n) costs
none_cramped None n costs = refl
none_cramped (Some o) n costs = refl

none_stalled : (o : Option Origin) (costs : List ColumnGains) → costs ≡ with_note o Stalled costs
none_stalled None costs = refl
none_stalled (Some o) costs = refl

pub returns-in-Cramped-clause-noted : goal.returns-in-Cramped-clause-noted
returns-in-Cramped-clause-noted c =
    none_cramped c.args.origin.now c.in-Cramped.pivots c.args.costs.now ∙ ap (λ (a : Answer). with_note c.args.origin.now a c.args.costs.now) (sym c.in-Cramped.is ∙ c.requires.answered)

pub returns-in-Stalled-clause-noted : goal.returns-in-Stalled-clause-noted
returns-in-Stalled-clause-noted c = none_stalled c.args.origin.now c.args.costs.now ∙ ap (λ (a : Answer). with_note c.args.origin.now a c.args.costs.now) (sym c.in-Stalled.is ∙ c.requires.answered)

pub at_optimum-requires-clause-point : goal.at_optimum-requires-clause-point
at_optimum-requires-clause-point c =
    point_columns c.args.subproblem.now.problem.now c.args.subproblem.now.book.now.cuts c.args.subproblem.now.area.now c.in-Optimal.point c.in-Optimal.mult c.in-Optimal.value
    (record { columns = c.requires.area; nonempty = c.requires.free.nonempty }) (sym c.requires.answered ∙ c.in-Optimal.is)
