use Rattle.std.proofs.Common.{◌≡◌, ◌∙◌, rules, ap, length, nat_abs, subst, sym, w64, to_z, of_z}
use Rattle.std.specs.Prelude.{IfOk}
use mir.Val.{SFits}
use Rattle.std.proofs.lemmas.Int.{to_z-of_z}
use Rattle.integer_tableau.proofs.FromCode.{near_from_code}
use Rattle.integer_tableau.proofs.SameBasis.{same_basic, same_found}
use Rattle.integer_tableau.specs.BasicColumns.{basic_from}
use Rattle.integer_tableau.specs.Combined.{expanded_values}
use Rattle.integer_tableau.specs.Kept.{KeptDictionary, kept_at}
use Rattle.integer_tableau.specs.Leaving.{leaving_by_numerators}
use Rattle.integer_tableau.proofs.request.leaving_at.Goals as goal

pub leaving_with_sums-requires-clause-near : goal.leaving_with_sums-requires-clause-near
leaving_with_sums-requires-clause-near c =
    let f : SFits w64 c.number.result = search rules in
    near_from_code _ _ _ _ c.requires.solution.at.compact c.deref-4.result.now c.deref-5.result.now _ c.deref-4.ensures.value c.deref-5.ensures.value
    (ap nat_abs (to_z-of_z w64 c.number.result f ∙ c.number.ensures ∙ c.divisor.ensures))

pub leaving_with_sums-requires-clause-basic : goal.leaving_with_sums-requires-clause-basic
leaving_with_sums-requires-clause-basic c =
    let d : KeptDictionary = kept_at c.args.dictionaries.now.all c.args.place in
    let n = c.args.solution.now in
    let many : length c.deref-5.result.now ≡ length d.rows = ap length c.deref-5.ensures.value ∙ c.requires.solution.at.compact.values in
    c.basic_columns.ensures ∙ c.requires.solution.kept.basic ∙ sym (same_basic 0 (length d.rows) n.positions.items d.positions c.requires.solution.at.basis)
    ∙ (λ i. basic_from 0 (sym many i) (sym c.deref-2.ensures.value i))

pub returns : goal.returns
returns c =
    let d : KeptDictionary = kept_at c.args.dictionaries.now.all c.args.place in
    let n = c.args.solution.now in
    let ps = c.args.program_rows.now in
    let f : SFits w64 c.number.result = search rules in
    let denominator : to_z w64 (of_z w64 c.number.result) ≡ d.denominator = to_z-of_z w64 c.number.result f ∙ c.number.ensures ∙ c.divisor.ensures in
    subst (λ o. IfOk c.leaving_with_sums.result (λ l. l ≡ o))
    ((λ i. leaving_by_numerators (nat_abs (denominator i)) 0 (c.deref-2.ensures.value i) (c.deref-3.ensures.value i)
    (expanded_values (nat_abs (denominator i)) ps (c.deref-2.ensures.value i) (c.deref-4.ensures.value i) (c.deref-5.ensures.value i)))
    ∙ same_found (nat_abs d.denominator) ps n.positions.items d.positions n.bounds.items n.nonbasic_values.items n.values.items c.requires.solution.at.basis)
    c.leaving_with_sums.ensures.value
