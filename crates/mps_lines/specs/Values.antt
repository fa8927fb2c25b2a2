-- What a field says that may be an infinity.
use Rattle.std.specs.Prelude.{◌≡◌, ℕ, List, Some, None, Ok, Err}
use Rattle.mps_lines.specs.Decimals.{decimal}
use Rattle.mps_lines.specs.Infinities.{infinite}
use Rattle.mps_lines.specs.declared.values.Value.{Value}
use Rattle.mps_lines.specs.declared.values.Value.TheVariants as value

-- a number without a fault, an infinity, or the fault of a field that is neither
abbrev pub IsValue : List ℕ → Value → Type 0
IsValue field (value.Finite q) = (decimal field ≡ Ok q) × (infinite field ≡ None)
IsValue field (value.Infinite negative) = infinite field ≡ Some negative
IsValue field (value.Fault fault) = (infinite field ≡ None) × (decimal field ≡ Err fault)
