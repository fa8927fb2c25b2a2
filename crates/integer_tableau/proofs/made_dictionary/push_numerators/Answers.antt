use Rattle.std.proofs.Common.{◌-◌, ◌*◌, ◌++◌, ◌<◌, ◌∙◌, ap, subst, sym, arith, List, length, length-append, nat_abs, w64}
use Rattle.std.specs.Prelude.{ℤ}
use Rattle.std.proofs.lemmas.Int.{to_z-of_z}
use Rattle.integer_tableau.proofs.Arenas.{within_append, within_weaker}
use Rattle.integer_tableau.proofs.Behind.{costs_stay, costs_still_within, grows_on, rows_within}
use Rattle.integer_tableau.proofs.WaysOut.{none_then}
use Rattle.integer_tableau.specs.Arena.{AreMadeRows, row_by}
use Rattle.integer_tableau.specs.Kept.{rows_of}
use Rattle.integer_tableau.specs.Numbers.{IsWithin}
use Rattle.integer_tableau.specs.Range.{size_limit}
use Rattle.integer_tableau.specs.Substitution.{IsSubstitutedRow}
use Rattle.integer_tableau.proofs.made_dictionary.push_numerators.Goals as goal

pub push_rows-requires-clause-within : goal.push_rows-requires-clause-within
push_rows-requires-clause-within c = rows_within (length c.args.solved.now) c.args.numerators.now.items c.args.own c.requires.within

pub push_substituted-requires-clause-row_within : goal.push_substituted-requires-clause-row_within
push_substituted-requires-clause-row_within c =
    costs_still_within (length c.args.solved.now) c.args.numerators.now.items c.args.own c.push_rows.new.numerators.items c.push_rows.ensures.more c.requires.there c.width.result c.width.ensures c.requires.within

pub returns-in_err-costs_size-clause-more : goal.returns-in_err-costs_size-clause-more
returns-in_err-costs_size-clause-more c = grows_on c.args.numerators.now.items c.push_rows.new.numerators.items c.push_substituted.new.numerators.items c.push_rows.ensures.more c.push_substituted.ensures.more

pub returns-clause-more : goal.returns-clause-more
returns-clause-more c = grows_on c.args.numerators.now.items c.push_rows.new.numerators.items c.push_substituted.new.numerators.items c.push_rows.ensures.more c.push_substituted.ensures.more

pub returns-clause-pushed : goal.returns-clause-pushed
returns-clause-pushed c =
    let a = c.args in
    let n = length a.solved.now in
    let r = c.in_ok-rows_size.ensures.pushed in
    let o = c.in_ok-costs_size.ensures.pushed in
    let made : List ℤ = c.in_ok-rows_size.ensures.pushed.0 in
    let costs : List ℤ = c.in_ok-costs_size.ensures.pushed.0 in
    let size = to_z-of_z w64 a.pivot_size c.ranges.pivot_size in
    let same = costs_stay n a.numerators.now.items a.own c.push_rows.new.numerators.items c.push_rows.ensures.more c.requires.there c.width.result c.width.ensures in (
      made,
      costs,
      c.in_ok-costs_size.ensures.pushed.1 ∙ ap (λ (ns : List ℤ). ns ++ c.in_ok-costs_size.ensures.pushed.0) c.in_ok-rows_size.ensures.pushed.1,
      subst (λ (T : Type 0). T) (λ i. AreMadeRows a.own.divisor.number (size i) a.turn.column a.turn.entering (length a.solved.now) a.solved.now
          (row_by (length a.solved.now) a.old_columns.now (rows_of (length a.solved.now) a.numerators.now.items a.own)) a.columns.now c.in_ok-rows_size.ensures.pushed.0) c.in_ok-rows_size.ensures.pushed.2,
      subst (λ (T : Type 0). T) (λ i. IsSubstitutedRow a.own.divisor.number (size i) a.turn.column a.solved.now (same i) c.in_ok-costs_size.ensures.pushed.0) c.in_ok-costs_size.ensures.pushed.2,
      within_append c.max.result made costs (within_weaker c.in_ok-rows_size.rows_size c.max.result made (omega (arith, c.max.ensures)) c.in_ok-rows_size.ensures.pushed.3)
          (within_weaker c.in_ok-costs_size.costs_size c.max.result costs (omega (arith, c.max.ensures)) c.in_ok-costs_size.ensures.pushed.3),
    )

pub push_rows-requires-clause-there : goal.push_rows-requires-clause-there
push_rows-requires-clause-there c = omega (arith, c.requires.there)

pub push_rows-requires-clause-count : goal.push_rows-requires-clause-count
push_rows-requires-clause-count c = c.requires.count

pub push_rows-requires-clause-rise : goal.push_rows-requires-clause-rise
push_rows-requires-clause-rise c = c.requires.rise

pub push_rows-requires-clause-known : goal.push_rows-requires-clause-known
push_rows-requires-clause-known c = c.requires.known

pub push_rows-requires-clause-column : goal.push_rows-requires-clause-column
push_rows-requires-clause-column c = c.requires.column

pub push_rows-requires-clause-small : goal.push_rows-requires-clause-small
push_rows-requires-clause-small c = c.requires.rows_small

pub push_rows-requires-clause-source_small : goal.push_rows-requires-clause-source_small
push_rows-requires-clause-source_small c = c.requires.source_small

pub push_rows-requires-clause-pivot_size_small : goal.push_rows-requires-clause-pivot_size_small
push_rows-requires-clause-pivot_size_small c = subst (λ z. nat_abs z < size_limit) (sym (to_z-of_z w64 c.args.pivot_size c.ranges.pivot_size)) c.requires.pivot_size_small

pub returns-in_err-rows_size-clause-more : goal.returns-in_err-rows_size-clause-more
returns-in_err-rows_size-clause-more c = c.push_rows.ensures.more

pub returns-in_err-rows_size-clause-pushed : goal.returns-in_err-rows_size-clause-pushed
returns-in_err-rows_size-clause-pushed c = none_then c.from_residual.result _ c.from_residual.ensures

pub overflow_mul-own : goal.overflow_mul-own
overflow_mul-own c = record { fits = omega (arith, c.requires.there, ap (λ n. c.args.own.count * n) c.width.ensures, c.args.numerators.now.ok.0) }

pub overflow_add-own : goal.overflow_add-own
overflow_add-own c = record { fits = omega (arith, c.requires.there, ap (λ n. c.args.own.count * n) c.width.ensures, c.args.numerators.now.ok.0) }

pub push_substituted-requires-clause-there : goal.push_substituted-requires-clause-there
push_substituted-requires-clause-there c =
    omega (arith, c.requires.there, ap (λ n. c.args.own.count * n) c.width.ensures, ap length c.push_rows.ensures.more.1, length-append c.args.numerators.now.items c.push_rows.ensures.more.0)

pub push_substituted-requires-clause-column : goal.push_substituted-requires-clause-column
push_substituted-requires-clause-column c = c.requires.column

pub push_substituted-requires-clause-row_small : goal.push_substituted-requires-clause-row_small
push_substituted-requires-clause-row_small c =
    subst (IsWithin (size_limit - 1))
    (sym (costs_stay (length c.args.solved.now) c.args.numerators.now.items c.args.own c.push_rows.new.numerators.items c.push_rows.ensures.more c.requires.there c.width.result c.width.ensures)) c.requires.costs_small

pub push_substituted-requires-clause-source_small : goal.push_substituted-requires-clause-source_small
push_substituted-requires-clause-source_small c = c.requires.source_small

pub push_substituted-requires-clause-pivot_size_small : goal.push_substituted-requires-clause-pivot_size_small
push_substituted-requires-clause-pivot_size_small c = subst (λ z. nat_abs z < size_limit) (sym (to_z-of_z w64 c.args.pivot_size c.ranges.pivot_size)) c.requires.pivot_size_small

pub returns-in_err-costs_size-clause-pushed : goal.returns-in_err-costs_size-clause-pushed
returns-in_err-costs_size-clause-pushed c = none_then c.from_residual-in_err-costs_size.result _ c.from_residual-in_err-costs_size.ensures
