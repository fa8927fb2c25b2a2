-- By what an append failed.
use Rattle.std.specs.Prelude.{Bool, true, false, Result, Ok, Err}
use Rattle.node_journal.specs.declared.fault.AppendFault.{AppendFault}
use Rattle.node_journal.specs.declared.fault.AppendFault.TheVariants as append

-- the append failed by a fault of the disk
abbrev pub fails_by_disk : {T : Type 0} → Result T AppendFault → Bool
fails_by_disk (Ok x) = false
fails_by_disk (Err append.Disk) = true
fails_by_disk (Err append.Memory) = false
