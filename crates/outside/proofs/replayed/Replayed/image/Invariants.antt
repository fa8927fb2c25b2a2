use Rattle.std.proofs.Common.{◌≡◌, ◌<◌, ℕ, length}
use Rattle.std.specs.Prelude.{slice_index}
use Rattle.outside.specs.Choice.{moment_of, chosen}
use Rattle.outside.proofs.replayed.Replayed.image.Given as goal

abbrev pub invariant-loop-place : goal.invariant-loop-place
invariant-loop-place l = (length l.image.items ≡ l.place) × ((k : ℕ) → k < l.place → slice_index l.image.items k ≡ chosen (moment_of l.self) l.wish k)
