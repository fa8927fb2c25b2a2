use Rattle.std.proofs.Common.{take}
use Rattle.std.specs.Prelude.{Ok}
use Rattle.std.specs.List.{flat_map}
use Rattle.vipr_print.specs.Spelling.{row_line}
use Rattle.vipr_print.specs.Printed.{IsPrinted}
use Rattle.vipr_print.proofs.printing.print_each_row.Given as goal

abbrev pub invariant-loop-row : goal.invariant-loop-row
invariant-loop-row g l =
    IsPrinted g.C.Sink.tells (g.C.Sink.taken l.fn.sink) (g.C.Sink.taken l.sink) (g.C.Sink.faults l.fn.sink) (g.C.Sink.faults l.sink) (flat_map row_line (take l.row-index l.rows)) (Ok tt)
