use Rattle.std.proofs.Common.{◌≡◌, ℕ, List, None, Some, not, is_some, ap, sym, ◌∙◌}
use Rattle.std.specs.Str.{bytes_eq}
use Rattle.indexmap.proofs.CallerLemmas.{insert_entry-new}
use denote.Ref.{Bor}
use Rattle.mps_reader.proofs.TableLemmas.{value_under_table, table-add}
use Rattle.mps_reader.specs.Tables.{table}
use Rattle.mps_reader.specs.Words.{value_under}
use Rattle.mps_reader.proofs.names.add.Goals as goal

pub returns-in-Ok-None-clause-new : goal.returns-in-Ok-None-clause-new
returns-in-Ok-None-clause-new g c =
    let n : value_under (table c.args.names.now.entries) c.args.name.now ≡ None = value_under_table c.args.names.now.entries c.args.name.now ∙ sym c.in-Ok-None.ensures.old ∙ c.in-Ok-None.field-0-is in
    sym (ap (λ o. not (is_some o)) n)

pub returns-in-Ok-None-clause-added : goal.returns-in-Ok-None-clause-added
returns-in-Ok-None-clause-added g c t =
    ap table (c.in-Ok-None.ensures.entries ∙ insert_entry-new (λ (a : Bor (List ℕ)) (b : Bor (List ℕ)). bytes_eq a.now b.now) c.args.names.now c.args.name c.args.value
    (sym c.in-Ok-None.ensures.old ∙ c.in-Ok-None.field-0-is)) ∙ table-add c.args.names.now.entries c.args.name c.args.value

pub returns-in-Ok-Some-clause-new : goal.returns-in-Ok-Some-clause-new
returns-in-Ok-Some-clause-new g c =
    let n : value_under (table c.args.names.now.entries) c.args.name.now ≡ Some c.in-Ok-Some.field-0-0 =
    value_under_table c.args.names.now.entries c.args.name.now ∙ sym c.in-Ok-Some.ensures.old ∙ c.in-Ok-Some.field-0-is in
    sym (ap (λ o. not (is_some o)) n)
