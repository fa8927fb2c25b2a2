use Rattle.std.proofs.Common.{◌≡◌, ◌++◌, length, take, All}
use Rattle.std.specs.List.{flat_map}
use Rattle.fraction.specs.Fits.{FitsFraction}
use Rattle.event_codec.specs.Codes.{u32_code, fraction_code}
use Rattle.event_codec.proofs.put.put_rational_point.Given as goal

-- how many there are, and the elements so far
abbrev pub invariant-loop-column : goal.invariant-loop-column
invariant-loop-column l = record {
  spelled : l.out.items ≡ l.fn.out.items ++ (u32_code l.enc (length l.point) ++ flat_map (fraction_code l.enc) (take l.column l.point));
  typed : All FitsFraction (take l.column l.point);
}
