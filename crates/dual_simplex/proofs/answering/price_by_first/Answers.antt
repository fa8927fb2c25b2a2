use Rattle.std.specs.Prelude.{IfOk}
use Rattle.std.proofs.Common.{◌≡◌, Option, subst}
use Rattle.fraction.specs.Rational.{ℚ}
use Rattle.dual_simplex.proofs.Ending.{first_known, first_priced}
use Rattle.dual_simplex.proofs.answering.price_by_first.Goals as goal

pub price-requires-clause-known : goal.price-requires-clause-known
price-requires-clause-known c = first_known c.args.problem.now c.args.book.now.cuts c.args.cuts c.args.mult.now c.requires.usable

pub returns : goal.returns
returns c =
    subst (λ (o : Option ℚ). IfOk c.price.result (λ v. v ≡ o))
    (first_priced c.args.problem.now c.args.book.now.cuts c.args.cuts c.args.mult.now c.requires.usable c.args.area.now c.args.target.now) c.price.ensures
