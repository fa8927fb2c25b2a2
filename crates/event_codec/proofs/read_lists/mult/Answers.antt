use Rattle.event_codec.proofs.Factors.{factors_rise, factors_nonzero}
use Rattle.event_codec.proofs.read_lists.mult.Goals as goal

pub make-requires-clause-rising : goal.make-requires-clause-rising
make-requires-clause-rising c = factors_rise c.args.enc c.in_ok-count.count _ c.in_ok-terms.terms _ c.in_ok-terms.ensures

pub make-requires-clause-nonzero : goal.make-requires-clause-nonzero
make-requires-clause-nonzero c = factors_nonzero c.args.enc c.in_ok-count.count _ c.in_ok-terms.terms _ c.in_ok-terms.ensures
