use Rattle.std.proofs.Common.{◌≡◌, ℕ, ◌+◌, ◌-◌, get_or, length}
use Rattle.mps_reader.specs.declared.side_table.SideEntry.TheVariants as side
use Rattle.mps_reader.proofs.side_table.pad.Given as goal

abbrev pub invariant-loop-sides : goal.invariant-loop-sides
invariant-loop-sides l = (j : ℕ) → get_or l.sides.items j side.Missing ≡ get_or l.initial.sides.items j side.Missing

abbrev pub decreases-loop-sides : goal.decreases-loop-sides
decreases-loop-sides l = l.index + 1 - length l.sides.items
