use Rattle.std.specs.Prelude.{IfSome, is_some}
use Rattle.std.proofs.Common.{◌≡◌, ℕ, sym, ◌∙◌, Option, Some, None, List, All, true}
use Rattle.problem_box.specs.declared.span.Span.{Span}
use Rattle.problem.specs.Limited.{IsModestSpan}
use Rattle.tableau.specs.Tableau.{Tableau}
use Rattle.integer_tableau.specs.Denominator.{HasDenominator}
use Rattle.dual_simplex.specs.Ends.{IsSmallEnd}
use Rattle.dual_simplex.proofs.whole_tableau.IntegerTableauWholeTableau.is_small.Goals as goal

at : (box : List Span) (t : Tableau) (o : Option ℕ) → IfSome o (λ d. HasDenominator d t) → is_some o ≡ true → All IsModestSpan box → IsSmallEnd box t
at box t None h e m = cc
at box t (Some d) h e m = record { modest = m; denominator = d; over_denominator = h }

pub returns-then-is_modest-clause-small : goal.returns-then-is_modest-clause-small
returns-then-is_modest-clause-small c = λ q. at c.args.area.now c.args.self.now c.common_denominator.result c.common_denominator.ensures (sym c.is_some.ensures ∙ q) (c.is_modest.ensures c.if-is_modest.true)
