use Rattle.std.proofs.Common.{◌≡◌, drop}
use Rattle.std.specs.List.{list_all}
use Rattle.mps_reader.specs.Faults.{is_field}
use Rattle.mps_reader.specs.Tables.{texts}
use Rattle.mps_reader.proofs.fields.are_fields.Given as goal

abbrev pub invariant-loop-field : goal.invariant-loop-field
invariant-loop-field l = list_all is_field (texts l.fields) ≡ list_all is_field (texts (drop l.field-index l.fields))
