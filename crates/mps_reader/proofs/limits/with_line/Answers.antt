use Rattle.mps_reader.proofs.BoundLines.{finite_ceil, finite_floor}
use Rattle.mps_reader.proofs.limits.with_line.Goals as goal

pub floor_of-requires : goal.floor_of-requires
floor_of-requires c = finite_floor c.args.field.now c.in-Finite.number c.in-Finite.ensures

pub ceil_of-requires : goal.ceil_of-requires
ceil_of-requires c = finite_ceil c.args.field.now c.in-Finite.number c.in-Finite.ensures
