use Rattle.std.proofs.Common.{take}
use Rattle.std.specs.Prelude.{Ok}
use Rattle.vipr_print.specs.Spelling.{point_lines}
use Rattle.vipr_print.specs.Printed.{IsPrinted}
use Rattle.vipr_print.proofs.printing.print_each_point.Given as goal

abbrev pub invariant-loop-i : goal.invariant-loop-i
invariant-loop-i g l =
    IsPrinted g.C.Sink.tells (g.C.Sink.taken l.fn.sink) (g.C.Sink.taken l.sink) (g.C.Sink.faults l.fn.sink) (g.C.Sink.faults l.sink) (point_lines 0 (take l.i l.points)) (Ok tt)
