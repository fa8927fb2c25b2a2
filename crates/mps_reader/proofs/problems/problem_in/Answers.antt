use Rattle.std.proofs.Common.{Ok, Err, length, sym, ap, ◌∙◌}
use Rattle.mps_reader.proofs.Refusals.{keeps, kept_names, made_limited, made_said, nothing_said, parts_count, parts_nonzero, parts_ranges, parts_rising, parts_sides, refusal_said}
use Rattle.mps_reader.specs.RowsMade.{made_objective, made_rows}
use Rattle.mps_reader.specs.Tables.{table}
use Rattle.mps_reader.proofs.TableLimits.{names_ascii}
use Rattle.mps_reader.specs.declared.kinds.Kind.TheVariants as kind
use Rattle.mps_reader.proofs.problems.problem_in.Goals as goal

pub ranged_parts-requires-clause-count : goal.ranged_parts-requires-clause-count
ranged_parts-requires-clause-count g c = ap length c.replace-terms.ensures.value ∙ parts_count c.requires.sections.0 c.args.tables.now c.requires.sections.1

pub ranged_parts-requires-clause-rising : goal.ranged_parts-requires-clause-rising
ranged_parts-requires-clause-rising g c = rw c.replace-terms.ensures.value (parts_rising c.requires.sections.0 c.args.tables.now c.requires.sections.1)

pub ranged_parts-requires-clause-nonzero : goal.ranged_parts-requires-clause-nonzero
ranged_parts-requires-clause-nonzero g c = rw c.replace-terms.ensures.value (parts_nonzero c.requires.sections.0 c.args.tables.now c.requires.sections.1)

pub ranged_parts-requires-clause-sides : goal.ranged_parts-requires-clause-sides
ranged_parts-requires-clause-sides g c i = parts_sides c.requires.sections.0 c.args.tables.now c.requires.sections.1 i

pub ranged_parts-requires-clause-ranges : goal.ranged_parts-requires-clause-ranges
ranged_parts-requires-clause-ranges g c i = parts_ranges c.requires.sections.0 c.args.tables.now c.requires.sections.1 i

pub column_names-requires : goal.column_names-requires
column_names-requires g c = names_ascii c.args.tables.now.columns.columns.entries (kept_names c.requires.sections.0 c.args.tables.now c.requires.sections.1)

pub returns-in_default-objective-clause-err : goal.returns-in_default-objective-clause-err
returns-in_default-objective-clause-err g c s h =
    nothing_said c.args.tables.now s h c.args.upper (sym c.in_default-objective.is ∙ c.in-Ok.ensures.objective ∙ ap (made_objective (table c.args.tables.now.rows.entries)) c.replace-terms.ensures.value) ∙ ap (λ n. Err (n, kind.NoObjective)) (sym h.rows_at)

pub returns-in-Err-clause-err : goal.returns-in-Err-clause-err
returns-in-Err-clause-err g c s h =
    refusal_said c.args.tables.now s h c.args.upper c.in-Some.objective (sym c.in-Some.is ∙ c.in-Ok.ensures.objective ∙ ap (made_objective (table c.args.tables.now.rows.entries)) c.replace-terms.ensures.value)
    c.in-Err.fault c.in-Err.ensures.fault

pub make-requires : goal.make-requires
make-requires g c =
    let k = c.requires.sections.1 in
    made_limited c.args.tables.now k.s k.tables c.args.upper c.in-Some.objective (sym c.in-Some.is ∙ c.in-Ok.ensures.objective ∙ ap (made_objective (table c.args.tables.now.rows.entries)) c.replace-terms.ensures.value)
    c.in-Ok-spans_or_fault.spans.items c.in-Ok-spans_or_fault.ensures.spans c.in-Ok-column_names.names c.in-Ok-column_names.ensures c.in-Ok.parts.rows.items (c.in-Ok.ensures.rows ∙ ap (made_rows c.args.tables.now.rhs.numbers c.args.tables.now.ranges.numbers 0 (table c.args.tables.now.rows.entries)) c.replace-terms.ensures.value) c.make-root.result c.make-root.ensures (keeps c.requires.sections.0 c.args.tables.now k) c.requires.upper

pub returns-in-Ok-make-clause-ok : goal.returns-in-Ok-make-clause-ok
returns-in-Ok-make-clause-ok g c s h =
    made_said c.args.tables.now s h c.args.upper c.in-Some.objective (sym c.in-Some.is ∙ c.in-Ok.ensures.objective ∙ ap (made_objective (table c.args.tables.now.rows.entries)) c.replace-terms.ensures.value)
    c.in-Ok-spans_or_fault.spans.items c.in-Ok-spans_or_fault.ensures.spans c.in-Ok-column_names.names c.in-Ok-column_names.ensures c.in-Ok.parts.rows.items (c.in-Ok.ensures.rows ∙ ap (made_rows c.args.tables.now.rhs.numbers c.args.tables.now.ranges.numbers 0 (table c.args.tables.now.rows.entries)) c.replace-terms.ensures.value) c.make-root.result c.make-root.ensures
    ∙ ap Ok (sym c.in-Ok-make.ensures)
