use Rattle.std.proofs.Common.{take}
use Rattle.std.specs.Prelude.{Ok}
use Rattle.std.specs.List.{flat_map}
use Rattle.vipr_print.specs.Spelling.{name_line}
use Rattle.vipr_print.specs.Printed.{IsPrinted}
use Rattle.vipr_print.proofs.printing.print_each_name.Given as goal

abbrev pub invariant-loop-j : goal.invariant-loop-j
invariant-loop-j g l =
    IsPrinted g.C.Sink.tells (g.C.Sink.taken l.fn.sink) (g.C.Sink.taken l.sink) (g.C.Sink.faults l.fn.sink) (g.C.Sink.faults l.sink) (flat_map name_line (take l.j l.names)) (Ok tt)
