use Rattle.std.proofs.Common.{List, ℕ, ◌+◌, ◌&&◌, nat_le, refl, sym, ◌∙◌}
use Rattle.mps_reader.specs.Faults.{◌<|>◌, is_counted, side_fault, side_number_fault, when}
use Rattle.mps_reader.proofs.SideLines.{fault_found}
use Rattle.mps_reader.proofs.Stopping.{stops_same}
use Rattle.mps_reader.specs.Tables.{table}
use Rattle.mps_reader.specs.declared.kinds.Kind.TheVariants as kind
use Rattle.mps_reader.proofs.sides.Sides.judged.Goals as goal
use Rattle.problem.specs.Limits.{most_rows}

pub returns-then-is_some-clause-err : goal.returns-then-is_some-clause-err
returns-then-is_some-clause-err g c before h =
    let pair : List ℕ × List ℕ = (c.args.row.now, c.args.value.now) in
    fault_found c.args.are_ranges c.args.rows.now.entries c.args.self.now before h pair c.in-Some.index c.in-Some.ensures.row c.in-Some.kind (sym c.in-Some.ensures.kind) c.args.count c.requires
    c.number_at.result c.number_at.ensures (c.args.are_ranges && is_counted c.in-Some.kind) ((c.args.are_ranges && is_counted c.in-Some.kind) && nat_le most_rows (c.args.count + c.args.self.now.ranged)) refl refl
    ∙ (λ j. when ((sym c.is_some.ensures ∙ c.if-is_some.true) j) kind.Duplicate <|> when ((c.args.are_ranges && is_counted c.in-Some.kind) && nat_le most_rows (c.args.count + c.args.self.now.ranged)) kind.TooMany <|> side_number_fault pair.1)

pub returns-then-is_full-clause-err : goal.returns-then-is_full-clause-err
returns-then-is_full-clause-err g c before h =
    let pair : List ℕ × List ℕ = (c.args.row.now, c.args.value.now) in
    fault_found c.args.are_ranges c.args.rows.now.entries c.args.self.now before h pair c.in-Some.index c.in-Some.ensures.row c.in-Some.kind (sym c.in-Some.ensures.kind) c.args.count c.requires
    c.number_at.result c.number_at.ensures c.counts_twice.result c.is_full.result c.counts_twice.ensures c.is_full.ensures.full
    ∙ (λ j. when ((sym c.is_some.ensures ∙ c.if-is_some.false) j) kind.Duplicate <|> when (c.if-is_full.true j) kind.TooMany <|> side_number_fault pair.1)

pub returns-in-Ok-clause-ok : goal.returns-in-Ok-clause-ok
returns-in-Ok-clause-ok g c before h =
    let pair : List ℕ × List ℕ = (c.args.row.now, c.args.value.now) in
    fault_found c.args.are_ranges c.args.rows.now.entries c.args.self.now before h pair c.in-Some.index c.in-Some.ensures.row c.in-Some.kind (sym c.in-Some.ensures.kind) c.args.count c.requires
    c.number_at.result c.number_at.ensures c.counts_twice.result c.is_full.result c.counts_twice.ensures c.is_full.ensures.full
    ∙ (λ j. when ((sym c.is_some.ensures ∙ c.if-is_some.false) j) kind.Duplicate <|> when (c.if-is_full.false j) kind.TooMany <|> c.in-Ok.ensures.ok j)

pub returns-in-Err-clause-err : goal.returns-in-Err-clause-err
returns-in-Err-clause-err g c before h =
    let pair : List ℕ × List ℕ = (c.args.row.now, c.args.value.now) in
    let n = fault_found c.args.are_ranges c.args.rows.now.entries c.args.self.now before h pair c.in-Some.index c.in-Some.ensures.row c.in-Some.kind (sym c.in-Some.ensures.kind) c.args.count c.requires
    c.number_at.result c.number_at.ensures c.counts_twice.result c.is_full.result c.counts_twice.ensures c.is_full.ensures.full
    ∙ (λ j. when ((sym c.is_some.ensures ∙ c.if-is_some.false) j) kind.Duplicate <|> when (c.if-is_full.false j) kind.TooMany <|> side_number_fault pair.1) in
    stops_same c.in-Err.stop (side_number_fault pair.1) (side_fault c.args.are_ranges (table c.args.rows.now.entries) before pair) (sym n) c.in-Err.ensures.err
