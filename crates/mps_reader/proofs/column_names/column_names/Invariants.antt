use Rattle.std.proofs.Common.{◌≡◌, ◌++◌, map, string_bytes}
use Rattle.mps_reader.specs.Tables.{table}
use Rattle.mps_reader.proofs.column_names.column_names.Given as goal

abbrev pub invariant-loop-name : goal.invariant-loop-name
invariant-loop-name g l = map string_bytes l.names.items ++ map (λ c. c.0) (table l.name-iterator) ≡ map (λ c. c.0) (table l.columns.entries)
