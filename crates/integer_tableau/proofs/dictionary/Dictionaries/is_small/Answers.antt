use Rattle.std.proofs.Common.{◌≡◌, ◌<◌, ◌≤◌, ◌+◌, ◌-◌, ◌*◌, ◌∙◌, [], ℕ, sym, ap, subst, arith, rules, length, get_or, nat_abs, w64}
use mir.Val.{SFits}
use Rattle.std.proofs.lemmas.Int.{to_z-of_z}
use Rattle.integer_tableau.proofs.Arenas.{rising_once}
use Rattle.integer_tableau.proofs.Behind.{own_in_lists, own_is}
use Rattle.integer_tableau.proofs.KeptSizes.{small_by_size}
use Rattle.integer_tableau.proofs.KeptViews.{are_viewed}
use Rattle.integer_tableau.specs.Combined.{combined_row}
use Rattle.integer_tableau.specs.Kept.{KeptDictionaries, KeptDictionary, kept_at}
use Rattle.integer_tableau.specs.Numbers.{IsWithin}
use Rattle.integer_tableau.specs.Range.{size_limit}
use Rattle.integer_tableau.specs.declared.position.Position.TheVariants.{InBasis}
use Rattle.integer_tableau.proofs.dictionary.Dictionaries.is_small.Goals as goal

pub returns-then-from : goal.returns-then-from
returns-then-from c = λ _.
    let a = c.args in
    let d = c.self.inside in
    let own = c.index-own.result.now in
    let e = ap (λ (k : KeptDictionaries). k.all) c.self.view_is in
    let own_small : c.index-own.result.now.size ≤ c.max-size.result = search rules in
    let denominator_small : nat_abs c.number-denominator.result ≤ c.max-size.result = search rules in
    small_by_size a.program_rows.now a.weight d.variables d.width d.numerators.items d.basic_columns.items d.nonbasic.items own (kept_at a.self.now.all a.place)
    (own_is d.variables d.width d.numerators.items d.basic_columns.items d.nonbasic.items d.all.items a.self.now.all e a.place c.requires.there own c.index-own.ensures)
    (own_in_lists d.variables d.width d.numerators.items d.basic_columns.items d.nonbasic.items d.all.items a.self.now.all e a.place c.requires.there own c.index-own.ensures c.self.invariant)
    c.requires.weights c.max-size.result own_small (omega (arith, denominator_small, ap nat_abs c.number-denominator.ensures))
    (subst (λ (T : Type 0). T) (λ i. c.from.ensures i * c.from-2.ensures i < c.from-3.ensures i) c.if-from.true)

pub rows_by_column-requires-clause-columns : goal.rows_by_column-requires-clause-columns
rows_by_column-requires-clause-columns c = λ p l.
    omega (arith, c.requires.listed.there p l, (are_viewed _ _ _ _ _ _ _ _ c.args.self.now c.self.view_is c.args.place c.requires.there).rows_many)

pub rows_by_column-requires-clause-once : goal.rows_by_column-requires-clause-once
rows_by_column-requires-clause-once c = rising_once (kept_at c.args.self.now.all c.args.place).basic_columns c.requires.listed.rise

pub returns : goal.returns
returns c = λ ok.
    let a = c.args in
    let d = c.self.inside in
    let own = c.index-own.result.now in
    let e = ap (λ (k : KeptDictionaries). k.all) c.self.view_is in
    let fits : SFits w64 c.number-denominator.result = search rules in
    let positions = c.deref.ensures.value ∙ c.in-Ok-positions.ensures in
    let rows = c.deref_mut.ensures.value ∙ c.in-Ok.ensures in
    let denominator = to_z-of_z w64 c.number-denominator.result fits ∙ c.number-denominator.ensures
    ∙ sym (ap (λ (k : KeptDictionary). k.denominator) (own_is d.variables d.width d.numerators.items d.basic_columns.items d.nonbasic.items d.all.items a.self.now.all e a.place c.requires.there own c.index-own.ensures)) in
    subst (λ (T : Type 0). T)
    (λ t. (i : ℕ) → i < length a.program_rows.now → get_or (positions t) (length (rows t) + i) InBasis ≡ InBasis → IsWithin (size_limit - 1) (combined_row (nat_abs (denominator t)) (positions t) (rows t) (get_or a.program_rows.now i [])))
    (c.are_combinations_small.ensures.small ok)
