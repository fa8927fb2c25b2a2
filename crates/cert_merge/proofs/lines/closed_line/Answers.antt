use Rattle.cert_merge.proofs.Closed.{crossed_there, refuted_price, bounded_price}
use Rattle.cert_merge.proofs.lines.closed_line.Goals as goal

pub crossed_line-requires-clause-there : goal.crossed_line-requires-clause-there
crossed_line-requires-clause-there c = crossed_there c.args.state.now.state c.args.node c.args.proof.now c.in-Empty.column c.in-Empty.is c.requires.legal

pub refuted_line-requires-clause-priced : goal.refuted_line-requires-clause-priced
refuted_line-requires-clause-priced c = refuted_price c.args.state.now.state c.args.node c.args.proof.now c.in-Refute.mult c.in-Refute.is c.requires.legal

pub bounded_line-requires-clause-priced : goal.bounded_line-requires-clause-priced
bounded_line-requires-clause-priced c = bounded_price c.args.state.now.state c.args.node c.args.proof.now c.in-Bound.mult c.in-Bound.rounded c.in-Bound.is c.requires.legal
