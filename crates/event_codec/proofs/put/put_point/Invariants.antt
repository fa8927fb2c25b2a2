use Rattle.std.proofs.Common.{◌≡◌, ◌++◌, length, take, All}
use Rattle.std.specs.List.{flat_map}
use Rattle.std.specs.Int.{w64}
use Rattle.std.specs.Int.RustNames.{FitsSigned}
use Rattle.event_codec.specs.Codes.{u32_code, i64_code}
use Rattle.event_codec.proofs.put.put_point.Given as goal

-- how many there are, and the elements so far
abbrev pub invariant-loop-number : goal.invariant-loop-number
invariant-loop-number l = record {
  spelled : l.out.items ≡ l.fn.out.items ++ (u32_code l.enc (length l.point) ++ flat_map (i64_code l.enc) (take l.number-index l.point));
  typed : All (λ z. FitsSigned w64 z) (take l.number-index l.point);
}
