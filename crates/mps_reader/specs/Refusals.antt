-- What a caller of the reader says of its upper bound, and learns of a text's fault.
use Rattle.std.specs.Prelude.{ℕ, ◌≤◌, List, Option, IfSome}
use Rattle.mps_reader.specs.Reading.{IsRefused}
use Rattle.mps_reader.specs.declared.reading.ReadFault.{ReadFault}
use Rattle.mps_reader.specs.declared.reading.ReadFault.TheVariants as fault
use Rattle.problem.specs.Limits.{largest_bound}

-- the bound for columns that have none is no larger than a bound may be
abbrev pub IsModestUpper : Option ℕ → Type 0
IsModestUpper upper = IfSome upper (λ n. n ≤ largest_bound)

-- the text is refused with this fault; want of memory says nothing
abbrev pub IsRefusedWith : List ℕ → Option ℕ → ReadFault → Type 0
IsRefusedWith text upper (fault.Refused line k) = IsRefused text upper line k
IsRefusedWith text upper fault.Memory = Unit {0}
