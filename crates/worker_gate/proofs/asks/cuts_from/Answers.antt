use Rattle.std.specs.Prelude.{Some}
use Rattle.std.proofs.Common.{sym, ap, ◌∙◌, arith}
use Rattle.worker_gate.proofs.CutLists.{copied}
use Rattle.worker_gate.proofs.asks.cuts_from.Goals as goal

pub loop-number-preserved : goal.loop-number-preserved
loop-number-preserved c = (
  omega (arith, c.loop-number.invariant.0),
  copied c.args.known c.loop-number.number c.args.book.now.cuts c.loop-number.cuts.items c.push.new.self.items c.in_ok-row.row c.in_ok-mult.mult c.loop-number.invariant.0
      (omega (arith, c.loop-number-test.true, c.len-number-end.ensures)) c.loop-number.invariant.1 (c.cut.ensures.row ∙ ap Some (sym c.in_ok-row.ensures)) (c.mult.ensures ∙ ap Some (sym c.in_ok-mult.ensures))
      c.in_ok-push.ensures.items,
)
