use Rattle.std.proofs.Common.{◌≡◌, ◌<◌, ◌<ℤ◌, ap, arith, get_or, length, nat_abs, pos, refl, rules, sym, subst, ◌∙◌, w64}
use mir.Val.{SFits}
use Rattle.std.proofs.lemmas.Int.{to_z-of_z}
use Rattle.std.proofs.lemmas.List.{length_push}
use Rattle.integer_tableau.proofs.MadeMoves.{code_apart, code_full, code_kept, code_listed, code_many, code_moves, code_nonbasic, code_positive, turn_column_there, turn_row_width, turn_size_positive, turn_size_small}
use Rattle.integer_tableau.proofs.Moves.{kept_of}
use Rattle.integer_tableau.specs.Kept.{AreKept, IsKept, kept_at}
use Rattle.integer_tableau.proofs.StartKept.{none_kept}
use Rattle.integer_tableau.specs.Range.{size_limit}
use Rattle.integer_tableau.specs.declared.position.Position.TheVariants.{InBasis, InColumn}
use Rattle.integer_tableau.proofs.dictionary_store.DictionaryStore.make.Goals as goal

pub put_turn_row-requires-clause-there : goal.put_turn_row-requires-clause-there
put_turn_row-requires-clause-there c = c.requires.there

pub put_turn_row-requires-clause-kept : goal.put_turn_row-requires-clause-kept
put_turn_row-requires-clause-kept c =
    let a = c.args in
    (a.weight, c.requires.kept.0, kept_of a.program_rows.now a.weight c.requires.kept.0 a.self.now.kept a.place c.requires.there c.requires.kept.1)

pub put_turn_row-requires-clause-leaving_there : goal.put_turn_row-requires-clause-leaving_there
put_turn_row-requires-clause-leaving_there c = c.requires.turning.1.turn.leaving

pub put_turn_row-requires-clause-basic : goal.put_turn_row-requires-clause-basic
put_turn_row-requires-clause-basic c = c.requires.turning.1.turn.basic

pub put_turn_row-requires-clause-row : goal.put_turn_row-requires-clause-row
put_turn_row-requires-clause-row c = c.requires.row

pub returns-in_err-put_turn_row-clause-kept : goal.returns-in_err-put_turn_row-clause-kept
returns-in_err-put_turn_row-clause-kept c = λ costs h. subst (AreKept c.args.program_rows.now c.args.weight costs) (sym c.put_turn_row.ensures.kept) h

pub divisor-requires : goal.divisor-requires
divisor-requires c = subst (λ k. c.args.place < length k.all) (sym c.put_turn_row.ensures.kept) c.requires.there

pub solve-requires-clause-column : goal.solve-requires-clause-column
solve-requires-clause-column c =
    turn_column_there c.args.program_rows.now c.args.weight c.args.self.now.kept c.args.place c.requires.turning.0 c.args.turn c.args.pivot_size c.args.solution.now c.requires.turning.1
    _ c.in_ok-put_turn_row.ensures.row

pub solve-requires-clause-denominator_positive : goal.solve-requires-clause-denominator_positive
solve-requires-clause-denominator_positive c =
    let a = c.args in
    let f : SFits w64 c.number-denominator.result = search rules in
    let y = to_z-of_z w64 c.number-denominator.result f ∙ c.number-denominator.ensures ∙ c.divisor.ensures ∙ ap (λ k. (kept_at k.all a.place).denominator) c.put_turn_row.ensures.kept in
    let kept = kept_of a.program_rows.now a.weight c.requires.kept.0 a.self.now.kept a.place c.requires.there c.requires.kept.1 in
    subst (λ z. pos 0 <ℤ z) (sym y) kept.positive

pub solve-requires-clause-denominator_small : goal.solve-requires-clause-denominator_small
solve-requires-clause-denominator_small c =
    let a = c.args in
    let f : SFits w64 c.number-denominator.result = search rules in
    let y = to_z-of_z w64 c.number-denominator.result f ∙ c.number-denominator.ensures ∙ c.divisor.ensures ∙ ap (λ k. (kept_at k.all a.place).denominator) c.put_turn_row.ensures.kept in
    let kept = kept_of a.program_rows.now a.weight c.requires.kept.0 a.self.now.kept a.place c.requires.there c.requires.kept.1 in
    subst (λ z. nat_abs z < size_limit) (sym y) kept.stored.compact.denominator_small

pub returns-then-not-solve-clause-kept : goal.returns-then-not-solve-clause-kept
returns-then-not-solve-clause-kept c = λ costs h. subst (AreKept c.args.program_rows.now c.args.weight costs) (sym c.put_turn_row.ensures.kept) h

pub returns-then-not-solve-clause-moved : goal.returns-then-not-solve-clause-moved
returns-then-not-solve-clause-moved c = tt

pub returns-then-not-solve-clause-exits : goal.returns-then-not-solve-clause-exits
returns-then-not-solve-clause-exits c = tt

pub returns-then-not-solve-clause-edges : goal.returns-then-not-solve-clause-edges
returns-then-not-solve-clause-edges c = tt

pub returns-then-not-solve-clause-pushed : goal.returns-then-not-solve-clause-pushed
returns-then-not-solve-clause-pushed c = tt

pub push_behind-requires-clause-kept : goal.push_behind-requires-clause-kept
push_behind-requires-clause-kept c =
    let a = c.args in (
      a.program_rows.now,
      a.weight,
      c.requires.kept.0,
      subst (λ k. IsKept a.program_rows.now a.weight c.requires.kept.0 (kept_at k.all a.place)) (sym c.put_turn_row.ensures.kept)
          (kept_of a.program_rows.now a.weight c.requires.kept.0 a.self.now.kept a.place c.requires.there c.requires.kept.1),
    )

pub push_behind-requires-clause-there : goal.push_behind-requires-clause-there
push_behind-requires-clause-there c = subst (λ k. c.args.place < length k.all) (sym c.put_turn_row.ensures.kept) c.requires.there

pub push_behind-requires-clause-leaving_there : goal.push_behind-requires-clause-leaving_there
push_behind-requires-clause-leaving_there c = subst (λ k. c.args.turn.leaving < length (kept_at k.all c.args.place).positions) (sym c.put_turn_row.ensures.kept) c.requires.turning.1.turn.leaving

pub push_behind-requires-clause-entering_there : goal.push_behind-requires-clause-entering_there
push_behind-requires-clause-entering_there c = subst (λ k. c.args.turn.entering < length (kept_at k.all c.args.place).positions) (sym c.put_turn_row.ensures.kept) c.requires.turning.1.turn.entering

pub push_behind-requires-clause-leaving : goal.push_behind-requires-clause-leaving
push_behind-requires-clause-leaving c = subst (λ k. get_or (kept_at k.all c.args.place).positions c.args.turn.leaving InBasis ≡ InBasis) (sym c.put_turn_row.ensures.kept) c.requires.turning.1.turn.basic

pub push_behind-requires-clause-entering : goal.push_behind-requires-clause-entering
push_behind-requires-clause-entering c = subst (λ k. get_or (kept_at k.all c.args.place).positions c.args.turn.entering InBasis ≡ InColumn c.args.turn.column) (sym c.put_turn_row.ensures.kept) c.requires.turning.1.turn.column

pub push_behind-requires-clause-width : goal.push_behind-requires-clause-width
push_behind-requires-clause-width c =
    let a = c.args in
    (c.if-not-solve.ensures refl).width ∙ ap length c.in_ok-put_turn_row.ensures.row
    ∙ turn_row_width a.program_rows.now a.weight a.self.now.kept a.place c.requires.turning.0 a.turn a.pivot_size a.solution.now c.requires.turning.1
    ∙ ap (λ k. length (kept_at k.all a.place).rows) (sym c.put_turn_row.ensures.kept)

pub push_behind-requires-clause-source_small : goal.push_behind-requires-clause-source_small
push_behind-requires-clause-source_small c = (c.if-not-solve.ensures refl).after

pub push_behind-requires-clause-positive : goal.push_behind-requires-clause-positive
push_behind-requires-clause-positive c =
    subst (λ z. pos 0 <ℤ z) (sym (to_z-of_z w64 c.args.pivot_size c.ranges.pivot_size))
    (turn_size_positive c.args.program_rows.now c.args.weight c.args.self.now.kept c.args.place c.requires.turning.0 c.args.turn c.args.pivot_size c.args.solution.now c.requires.turning.1)

pub push_behind-requires-clause-pivot_size_small : goal.push_behind-requires-clause-pivot_size_small
push_behind-requires-clause-pivot_size_small c =
    subst (λ z. nat_abs z < size_limit) (sym (to_z-of_z w64 c.args.pivot_size c.ranges.pivot_size))
    (turn_size_small c.args.program_rows.now c.args.weight c.args.self.now.kept c.args.place c.requires.turning.0 c.args.turn c.args.pivot_size c.args.solution.now c.requires.turning.1)

pub returns-in_default-clause-kept : goal.returns-in_default-clause-kept
returns-in_default-clause-kept c = λ costs h. none_kept c.args.program_rows.now c.args.weight costs c.clear.new.self c.clear.ensures.all c.clear.ensures.exits c.clear.ensures.edges

pub returns-in_default-clause-moved : goal.returns-in_default-clause-moved
returns-in_default-clause-moved c = tt

pub returns-in_default-clause-exits : goal.returns-in_default-clause-exits
returns-in_default-clause-exits c = tt

pub returns-in_default-clause-edges : goal.returns-in_default-clause-edges
returns-in_default-clause-edges c = tt

pub returns-in_default-clause-pushed : goal.returns-in_default-clause-pushed
returns-in_default-clause-pushed c = tt

pub is_small-requires-clause-there : goal.is_small-requires-clause-there
is_small-requires-clause-there c = omega (arith, c.count-made.ensures, ap length c.in-Some.ensures.pushed.1 ∙ length_push c.put_turn_row.new.self.kept.all c.in-Some.ensures.pushed.0)

pub is_small-requires-clause-positions_there : goal.is_small-requires-clause-positions_there
is_small-requires-clause-positions_there c =
    let a = c.args in
    let z = to_z-of_z w64 a.pivot_size c.ranges.pivot_size in
    let f : SFits w64 c.number-denominator.result = search rules in
    let y = to_z-of_z w64 c.number-denominator.result f ∙ c.number-denominator.ensures ∙ c.divisor.ensures in
    code_many a.program_rows.now a.weight a.self.now.kept c.put_turn_row.new.self.kept c.put_turn_row.ensures.kept a.place c.requires.turning.0 a.turn a.pivot_size _ a.solution.now z c.requires.turning.1 c.requires.there
    c.put_turn_row.new.self.row c.solve.new.self _ c.in_ok-put_turn_row.ensures.row y (c.if-not-solve.ensures refl) c.push_behind.new.self c.in-Some.ensures.pushed.0 c.in-Some.ensures.pushed.1 c.in-Some.ensures.pushed.2
    c.count-made.result c.count-made.ensures c.requires.kept.0 c.requires.kept.1

pub is_small-requires-clause-full : goal.is_small-requires-clause-full
is_small-requires-clause-full c =
    let a = c.args in
    let z = to_z-of_z w64 a.pivot_size c.ranges.pivot_size in
    let f : SFits w64 c.number-denominator.result = search rules in
    let y = to_z-of_z w64 c.number-denominator.result f ∙ c.number-denominator.ensures ∙ c.divisor.ensures in
    code_full a.program_rows.now a.weight a.self.now.kept c.put_turn_row.new.self.kept c.put_turn_row.ensures.kept a.place c.requires.turning.0 a.turn a.pivot_size _ a.solution.now z c.requires.turning.1 c.requires.there
    c.put_turn_row.new.self.row c.solve.new.self _ c.in_ok-put_turn_row.ensures.row y (c.if-not-solve.ensures refl) c.push_behind.new.self c.in-Some.ensures.pushed.0 c.in-Some.ensures.pushed.1 c.in-Some.ensures.pushed.2
    c.count-made.result c.count-made.ensures c.requires.kept.0 c.requires.kept.1

pub is_small-requires-clause-weights : goal.is_small-requires-clause-weights
is_small-requires-clause-weights c = c.requires.turning.1.at.compact.weights

pub is_small-requires-clause-light : goal.is_small-requires-clause-light
is_small-requires-clause-light c = c.requires.turning.1.at.compact.light

pub is_small-requires-clause-apart : goal.is_small-requires-clause-apart
is_small-requires-clause-apart c =
    let a = c.args in
    let z = to_z-of_z w64 a.pivot_size c.ranges.pivot_size in
    let f : SFits w64 c.number-denominator.result = search rules in
    let y = to_z-of_z w64 c.number-denominator.result f ∙ c.number-denominator.ensures ∙ c.divisor.ensures in
    code_apart a.program_rows.now a.weight a.self.now.kept c.put_turn_row.new.self.kept c.put_turn_row.ensures.kept a.place c.requires.turning.0 a.turn a.pivot_size _ a.solution.now z c.requires.turning.1 c.requires.there
    c.put_turn_row.new.self.row c.solve.new.self _ c.in_ok-put_turn_row.ensures.row y (c.if-not-solve.ensures refl) c.push_behind.new.self c.in-Some.ensures.pushed.0 c.in-Some.ensures.pushed.1 c.in-Some.ensures.pushed.2
    c.count-made.result c.count-made.ensures c.requires.kept.0 c.requires.kept.1

pub is_small-requires-clause-nonbasic : goal.is_small-requires-clause-nonbasic
is_small-requires-clause-nonbasic c =
    let a = c.args in
    let z = to_z-of_z w64 a.pivot_size c.ranges.pivot_size in
    let f : SFits w64 c.number-denominator.result = search rules in
    let y = to_z-of_z w64 c.number-denominator.result f ∙ c.number-denominator.ensures ∙ c.divisor.ensures in
    code_nonbasic a.program_rows.now a.weight a.self.now.kept c.put_turn_row.new.self.kept c.put_turn_row.ensures.kept a.place c.requires.turning.0 a.turn a.pivot_size _ a.solution.now z c.requires.turning.1 c.requires.there
    c.put_turn_row.new.self.row c.solve.new.self _ c.in_ok-put_turn_row.ensures.row y (c.if-not-solve.ensures refl) c.push_behind.new.self c.in-Some.ensures.pushed.0 c.in-Some.ensures.pushed.1 c.in-Some.ensures.pushed.2
    c.count-made.result c.count-made.ensures c.requires.kept.0 c.requires.kept.1

pub is_small-requires-clause-listed : goal.is_small-requires-clause-listed
is_small-requires-clause-listed c =
    let a = c.args in
    let z = to_z-of_z w64 a.pivot_size c.ranges.pivot_size in
    let f : SFits w64 c.number-denominator.result = search rules in
    let y = to_z-of_z w64 c.number-denominator.result f ∙ c.number-denominator.ensures ∙ c.divisor.ensures in
    code_listed a.program_rows.now a.weight a.self.now.kept c.put_turn_row.new.self.kept c.put_turn_row.ensures.kept a.place c.requires.turning.0 a.turn a.pivot_size _ a.solution.now z c.requires.turning.1 c.requires.there
    c.put_turn_row.new.self.row c.solve.new.self _ c.in_ok-put_turn_row.ensures.row y (c.if-not-solve.ensures refl) c.push_behind.new.self c.in-Some.ensures.pushed.0 c.in-Some.ensures.pushed.1 c.in-Some.ensures.pushed.2
    c.count-made.result c.count-made.ensures c.requires.kept.0 c.requires.kept.1

pub is_small-requires-clause-positive : goal.is_small-requires-clause-positive
is_small-requires-clause-positive c =
    let a = c.args in
    let z = to_z-of_z w64 a.pivot_size c.ranges.pivot_size in
    let f : SFits w64 c.number-denominator.result = search rules in
    let y = to_z-of_z w64 c.number-denominator.result f ∙ c.number-denominator.ensures ∙ c.divisor.ensures in
    code_positive a.program_rows.now a.weight a.self.now.kept c.put_turn_row.new.self.kept c.put_turn_row.ensures.kept a.place c.requires.turning.0 a.turn a.pivot_size _ a.solution.now z c.requires.turning.1 c.requires.there
    c.put_turn_row.new.self.row c.solve.new.self _ c.in_ok-put_turn_row.ensures.row y (c.if-not-solve.ensures refl) c.push_behind.new.self c.in-Some.ensures.pushed.0 c.in-Some.ensures.pushed.1 c.in-Some.ensures.pushed.2
    c.count-made.result c.count-made.ensures c.requires.kept.0 c.requires.kept.1

pub returns-then-not-is_small-clause-kept : goal.returns-then-not-is_small-clause-kept
returns-then-not-is_small-clause-kept c =
    let x = c.clear-then-not-is_small in
    λ costs h. none_kept c.args.program_rows.now c.args.weight costs x.new.self x.ensures.all x.ensures.exits x.ensures.edges

pub returns-then-not-is_small-clause-moved : goal.returns-then-not-is_small-clause-moved
returns-then-not-is_small-clause-moved c = tt

pub returns-then-not-is_small-clause-exits : goal.returns-then-not-is_small-clause-exits
returns-then-not-is_small-clause-exits c = tt

pub returns-then-not-is_small-clause-edges : goal.returns-then-not-is_small-clause-edges
returns-then-not-is_small-clause-edges c = tt

pub returns-then-not-is_small-clause-pushed : goal.returns-then-not-is_small-clause-pushed
returns-then-not-is_small-clause-pushed c = tt

pub returns-clause-kept : goal.returns-clause-kept
returns-clause-kept c =
    let a = c.args in
    let z = to_z-of_z w64 a.pivot_size c.ranges.pivot_size in
    let f : SFits w64 c.number-denominator.result = search rules in
    let y = to_z-of_z w64 c.number-denominator.result f ∙ c.number-denominator.ensures ∙ c.divisor.ensures in
    λ costs h.
    code_kept a.program_rows.now a.weight a.self.now.kept c.put_turn_row.new.self.kept c.put_turn_row.ensures.kept a.place c.requires.turning.0 a.turn a.pivot_size _ a.solution.now z c.requires.turning.1 c.requires.there
    c.put_turn_row.new.self.row c.solve.new.self _ c.in_ok-put_turn_row.ensures.row y (c.if-not-solve.ensures refl) c.push_behind.new.self c.in-Some.ensures.pushed.0 c.in-Some.ensures.pushed.1 c.in-Some.ensures.pushed.2
    c.count-made.result c.count-made.ensures costs h c.put.new.self.kept c.put.ensures (c.if-not-is_small.ensures refl) c.in-Some.ensures.exits c.in-Some.ensures.edges

pub returns-clause-moved : goal.returns-clause-moved
returns-clause-moved c =
    let a = c.args in
    let z = to_z-of_z w64 a.pivot_size c.ranges.pivot_size in
    let f : SFits w64 c.number-denominator.result = search rules in
    let y = to_z-of_z w64 c.number-denominator.result f ∙ c.number-denominator.ensures ∙ c.divisor.ensures in
    λ n t.
    code_moves a.program_rows.now a.weight a.self.now.kept c.put_turn_row.new.self.kept c.put_turn_row.ensures.kept a.place n a.turn a.pivot_size _ a.solution.now z t c.requires.there
    c.put_turn_row.new.self.row c.solve.new.self _ c.in_ok-put_turn_row.ensures.row y (c.if-not-solve.ensures refl) c.push_behind.new.self c.in-Some.ensures.pushed.0 c.in-Some.ensures.pushed.1 c.in-Some.ensures.pushed.2
    c.count-made.result c.count-made.ensures c.requires.kept.0 c.requires.kept.1 c.put.new.self.kept c.put.ensures (c.if-not-is_small.ensures refl)

pub returns-clause-exits : goal.returns-clause-exits
returns-clause-exits c = ap (λ k. k.exits) c.put.ensures ∙ c.in-Some.ensures.exits ∙ ap (λ k. k.exits) c.put_turn_row.ensures.kept

pub returns-clause-edges : goal.returns-clause-edges
returns-clause-edges c = ap (λ k. k.edges) c.put.ensures ∙ c.in-Some.ensures.edges ∙ ap (λ k. k.edges) c.put_turn_row.ensures.kept
