use Rattle.std.proofs.Common.{◌-◌, ◌<◌, ◌∙◌, ℤ, List, ap, arith, length, nat_abs, refl, subst, sym, w64}
use Rattle.std.specs.Option.{IfSome}
use Rattle.std.specs.Prelude.{◌≡◌, ◌++◌, ◌+◌, ◌*◌, slice_range}
use Rattle.std.proofs.lemmas.Int.{to_z-of_z}
use Rattle.integer_tableau.specs.Numbers.{IsWithin}
use Rattle.integer_tableau.specs.Range.{size_limit}
use Rattle.integer_tableau.specs.Substitution.{IsSubstitutedRow}
use Rattle.integer_tableau.proofs.WaysOut.{extended, none_then, stays_grown}
use Rattle.integer_tableau.proofs.PushedRows.{row_pushed, row_there, row_within}
use Rattle.integer_tableau.proofs.made_dictionary.push_row.Goals as goal

pub overflow_mul-from : goal.overflow_mul-from
overflow_mul-from c =
    let there = row_there (length c.args.solved.now) c.width.result c.args.own.numerators c.args.own.count c.place_of.result c.args.column c.args.numerators.now.items c.args.old_columns.now c.requires.count
    c.place_of.ensures.value c.width.ensures c.requires.rise (c.requires.known c.if-column-turn.false) c.requires.there in
    record { fits = omega (arith, there, c.args.numerators.now.ok.0) }

pub overflow_add-from : goal.overflow_add-from
overflow_add-from c =
    let there = row_there (length c.args.solved.now) c.width.result c.args.own.numerators c.args.own.count c.place_of.result c.args.column c.args.numerators.now.items c.args.old_columns.now c.requires.count
    c.place_of.ensures.value c.width.ensures c.requires.rise (c.requires.known c.if-column-turn.false) c.requires.there in
    record { fits = omega (arith, there, c.args.numerators.now.ok.0) }

pub push_substituted-requires-clause-there : goal.push_substituted-requires-clause-there
push_substituted-requires-clause-there c =
    row_there (length c.args.solved.now) c.width.result c.args.own.numerators c.args.own.count c.place_of.result c.args.column c.args.numerators.now.items c.args.old_columns.now c.requires.count
    c.place_of.ensures.value c.width.ensures c.requires.rise (c.requires.known c.if-column-turn.false) c.requires.there

pub push_substituted-requires-clause-row_small : goal.push_substituted-requires-clause-row_small
push_substituted-requires-clause-row_small c =
    row_within (length c.args.solved.now) c.width.result c.args.own.numerators c.args.own.count c.place_of.result c.args.column c.args.numerators.now.items c.args.old_columns.now c.requires.count
    c.place_of.ensures.value c.width.ensures c.requires.rise (c.requires.known c.if-column-turn.false) (size_limit - 1) c.requires.small

pub push_substituted-requires-clause-row_within : goal.push_substituted-requires-clause-row_within
push_substituted-requires-clause-row_within c =
    row_within (length c.args.solved.now) c.width.result c.args.own.numerators c.args.own.count c.place_of.result c.args.column c.args.numerators.now.items c.args.old_columns.now c.requires.count
    c.place_of.ensures.value c.width.ensures c.requires.rise (c.requires.known c.if-column-turn.false) c.args.own.size c.requires.within

pub returns-clause-pushed : goal.returns-clause-pushed
returns-clause-pushed c =
    let from = c.args.own.numerators + c.place_of.result * c.width.result in
    let ns : List ℤ = c.args.numerators.now.items in
    row_pushed (length c.args.solved.now) c.width.result c.args.own.numerators c.args.own.count c.place_of.result c.args.column ns c.args.old_columns.now c.requires.count
    c.place_of.ensures.value c.width.ensures c.requires.rise (c.requires.known c.if-column-turn.false)
    c.push_substituted.result c.args.own.divisor.number c.args.pivot_size c.args.turn.column c.args.turn.entering c.args.solved.now c.push_substituted.new.numerators.items refl c.if-column-turn.false c.requires.there
    (subst (λ e. IfSome c.push_substituted.result (λ b. (x : List ℤ) × (c.push_substituted.new.numerators.items ≡ ns ++ x)
    × IsSubstitutedRow c.args.own.divisor.number e c.args.turn.column c.args.solved.now (slice_range ns from (from + length c.args.solved.now)) x × IsWithin b x))
    (to_z-of_z w64 c.args.pivot_size c.ranges.pivot_size) c.push_substituted.ensures.pushed)

pub push_substituted-requires-clause-column : goal.push_substituted-requires-clause-column
push_substituted-requires-clause-column c = c.requires.column

pub push_substituted-requires-clause-source_small : goal.push_substituted-requires-clause-source_small
push_substituted-requires-clause-source_small c = c.requires.source_small

pub push_substituted-requires-clause-pivot_size_small : goal.push_substituted-requires-clause-pivot_size_small
push_substituted-requires-clause-pivot_size_small c = subst (λ z. nat_abs z < size_limit) (sym (to_z-of_z w64 c.args.pivot_size c.ranges.pivot_size)) c.requires.pivot_size_small

pub returns-clause-more : goal.returns-clause-more
returns-clause-more c = c.push_substituted.ensures.more

pub returns-in_err-ok-clause-more : goal.returns-in_err-ok-clause-more
returns-in_err-ok-clause-more c = stays_grown _ c.extend_from_slice.new.self.items c.args.numerators.now.items c.numerators.result.now c.extend_from_slice.ensures.items c.in_err-ok.ensures.variant

pub returns-in_err-ok-clause-pushed : goal.returns-in_err-ok-clause-pushed
returns-in_err-ok-clause-pushed c = none_then c.from_residual.result _ c.from_residual.ensures

pub returns-then-column-turn-clause-more : goal.returns-then-column-turn-clause-more
returns-then-column-turn-clause-more c =
    (c.numerators.result.now, extended _ c.extend_from_slice.new.self.items c.args.numerators.now.items c.numerators.result.now c.extend_from_slice.ensures.items c.in_ok-ok.ensures.variant)

pub returns-then-column-turn-clause-pushed : goal.returns-then-column-turn-clause-pushed
returns-then-column-turn-clause-pushed c = (
  c.args.solved.now,
  extended _ c.extend_from_slice.new.self.items c.args.numerators.now.items c.numerators.result.now c.extend_from_slice.ensures.items c.in_ok-ok.ensures.variant
      ∙ ap (λ (xs : List ℤ). c.args.numerators.now.items ++ xs) c.numerators.ensures,
  record { width = refl; put = λ _. refl; other = λ no. absurd (no c.if-column-turn.true) },
  c.bound.ensures,
)
