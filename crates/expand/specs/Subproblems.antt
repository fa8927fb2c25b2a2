-- What is known when a node is looked at.
use Rattle.std.specs.Prelude.{◌≡◌, ◌≤◌, List, length, All}
use Rattle.problem_box.specs.declared.span.Span.{Span}
use Rattle.problem.specs.Limited.{IsModestSpan}
use Rattle.problem.specs.Problem.{Problem}
use Rattle.problem.specs.Limits.{most_cuts}
use Rattle.derivation_book.specs.declared.cut.Cut.{Cut}
use Rattle.dual_simplex.specs.Prepared.{Prepared, IsRelaxationOf}
use Rattle.expand.specs.Verdicts.{IsPart}

-- a relaxation of the problem with all these cuts, of which there are few, and a box within the problem's
pub record IsSubproblem (p : Problem) (cs : List Cut) (r : Prepared) (box : List Span) : Type 0 where
  pub few : length cs ≤ most_cuts
  pub all_cuts : r.cuts ≡ length cs
  pub prepared : IsRelaxationOf p cs r
  pub columns : length box ≡ length p.spans
  pub modest : All IsModestSpan box
  pub part : IsPart p box
