-- The right side of a row, and the objective's terms, where they are written.
use Rattle.std.specs.Prelude.{Option, Some, None, pos}
use Rattle.std.specs.Option.{unwrap_or}
use Rattle.fraction.specs.Rational.{ℚ, whole}
use Rattle.mps_reader.specs.declared.kinds.RowType.{RowType}
use Rattle.mps_reader.specs.declared.kinds.RowType.TheVariants as row
use Rattle.problem.specs.Linear.{Terms}

-- the right side by a number that is written or not
abbrev pub side_of : Option ℚ → ℚ
side_of o = unwrap_or o (whole (pos 0))

-- the objective's terms, where an N row gives them
abbrev pub objective_with : RowType → Terms → Option Terms
objective_with row.N ts = Some ts
objective_with type ts = None
