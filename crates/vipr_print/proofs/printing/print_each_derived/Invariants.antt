use Rattle.std.proofs.Common.{take}
use Rattle.std.specs.Prelude.{Ok}
use Rattle.std.specs.List.{flat_map}
use Rattle.vipr_print.specs.Spelling.{derived_line}
use Rattle.vipr_print.specs.Printed.{IsPrinted}
use Rattle.vipr_print.proofs.printing.print_each_derived.Given as goal

abbrev pub invariant-loop-one : goal.invariant-loop-one
invariant-loop-one g l =
    IsPrinted g.C.Sink.tells (g.C.Sink.taken l.fn.sink) (g.C.Sink.taken l.sink) (g.C.Sink.faults l.fn.sink) (g.C.Sink.faults l.sink) (flat_map derived_line (take l.one-index l.derived)) (Ok tt)
