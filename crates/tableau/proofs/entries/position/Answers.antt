use Rattle.std.proofs.Common.{arith}
use Rattle.tableau.proofs.Pushing.{search_before, search_from}
use Rattle.tableau.proofs.entries.position.Goals as goal

pub loop-low-preserved-then-index-variable : goal.loop-low-preserved-then-index-variable
loop-low-preserved-then-index-variable c = record {
  order = omega (arith, c.loop-low-test.true);
  there = c.loop-low.invariant.there;
  before = λ k d l. search_before c.args.entries.now c.args.variable _ k c.index-entries-middle.result d c.requires (omega (arith, c.loop-low-test.true, c.loop-low.invariant.there)) c.index-entries-middle.is (omega (arith, c.index.ensures, c.if-index-variable.true)) l;
  from = c.loop-low.invariant.from;
}

pub loop-low-preserved : goal.loop-low-preserved
loop-low-preserved c = record {
  order = omega arith;
  there = omega (arith, c.loop-low.invariant.order, c.loop-low.invariant.there);
  before = c.loop-low.invariant.before;
  from = λ k d l b. search_from c.args.entries.now c.args.variable _ k c.index-entries-middle.result d c.requires c.index-entries-middle.is (omega (arith, c.index.ensures, c.if-index-variable.false)) l b;
}
