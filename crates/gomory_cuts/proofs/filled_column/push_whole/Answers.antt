use Rattle.std.proofs.Common.{arith, ap, ◌∙◌, ◌++◌, ◌∷◌, []}
use Rattle.std.proofs.lemmas.Int.{ints}
use Rattle.fraction.specs.Rational.{whole}
use Rattle.gomory_cuts.proofs.Columns.{without_zero, with_whole}
use Rattle.gomory_cuts.proofs.filled_column.push_whole.Goals as goal

pub returns-in_ok-push : goal.returns-in_ok-push
returns-in_ok-push c =
    with_whole c.args.terms.now c.push.new.self c.args.column c.args.coefficient (λ e. omega (arith, ints, e, c.if-coefficient-ne0.true))
    (c.in_ok-push.ensures.ok ∙ ap (λ a. c.args.terms.now ++ (c.args.column, a) ∷ []) (c.of.ensures ∙ ap whole (omega (arith, ints))))

pub returns-else-coefficient-ne0 : goal.returns-else-coefficient-ne0
returns-else-coefficient-ne0 c = without_zero c.args.terms.now c.args.column c.args.coefficient (omega (arith, ints, c.if-coefficient-ne0.false))
