use Rattle.std.proofs.Common.{arith}
use Rattle.dual_simplex.proofs.Cutting.{next_cut}
use Rattle.dual_simplex.proofs.program.linear_program.Goals as goal

pub loop-index-preserved : goal.loop-index-preserved
loop-index-preserved c =
    next_cut c.args.problem.now c.args.area.now c.requires.columns c.args.book.now.cuts c.loop-index.index c.cut.result.now c.loop-index.program c.add_cut.new.self
    (omega arith) c.cut.ensures.row c.loop-index.invariant c.in_ok-add_cut.ensures.ok
