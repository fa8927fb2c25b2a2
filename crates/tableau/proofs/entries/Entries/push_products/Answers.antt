use Rattle.std.proofs.Common.{arith}
use Rattle.tableau.proofs.Pushing.{products_go_on, when_true}
use Rattle.tableau.proofs.entries.Entries.push_products.Goals as goal

pub loop-i-preserved : goal.loop-i-preserved
loop-i-preserved c = record {
  entries = λ next. products_go_on c.args.factor c.args.limit next c.args.source.now c.loop-i.i c.index-source-i.result _ _ _ (omega arith) c.index-source-i.is (omega (arith, c.if-index-limit.false, c.index.ensures))
      (when_true _ _ c.in_ok-push_product.field-0 c.in_ok-push_product.ensures.entries c.if-not-branch.false) (c.loop-i.invariant.entries next);
  fractions = λ h. c.in_ok-push_product.ensures.fractions (c.loop-i.invariant.fractions h);
}
