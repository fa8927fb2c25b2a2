-- Lemmas: the bound that a command gives fits its field.
use Rattle.std.proofs.Common.{arith}
use Rattle.std.specs.Prelude.{ℤ}
use Rattle.std.specs.Int.{w64}
use Rattle.std.specs.Int.RustNames.{FitsSigned}
use Rattle.std.proofs.lemmas.Int.{ints}
use Rattle.event_codec.specs.Models.{IsUpper}

pub upper_fits : (z : ℤ) → IsUpper z → FitsSigned w64 z
upper_fits z h = grind (arith, ints)
