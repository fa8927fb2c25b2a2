use Rattle.std.proofs.Common.{◌≡◌, ◌++◌, length, take, All}
use Rattle.std.specs.List.{flat_map}
use Rattle.fraction.specs.Fits.{FitsFraction}
use Rattle.event_codec.specs.Codes.{u32_code, factor_code}
use Rattle.event_codec.specs.Types.{FitsU32}
use Rattle.event_codec.proofs.put.put_mult.Given as goal

-- how many there are, and the elements so far
abbrev pub invariant-loop-term : goal.invariant-loop-term
invariant-loop-term l = record {
  spelled : l.out.items ≡ l.fn.out.items ++ (u32_code l.enc (length l.mult) ++ flat_map (factor_code l.enc) (take l.term-index l.mult));
  typed : All (λ t. FitsU32 t.0 × FitsFraction t.1) (take l.term-index l.mult);
}
