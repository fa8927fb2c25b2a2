use Rattle.std.proofs.Common.{◌≡◌, length, take}
use Rattle.cert_merge.specs.Endings.{AreClosings}
use Rattle.cert_merge.proofs.closings.closings.Given as goal

abbrev pub invariant-loop-place : goal.invariant-loop-place
invariant-loop-place l = record { long : length l.places.items ≡ l.nodes; closed : AreClosings (take l.place l.history) l.places.items }
