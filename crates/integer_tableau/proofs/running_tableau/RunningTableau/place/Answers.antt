use Rattle.std.proofs.Common.{◌≡◌, ℕ, Option, Some, ◌<◌, arith, ap, sym, ◌∙◌, [], subst, w64, nat_abs, get_or, length, rules, refl, None}
use mir.Val.{SFits}
use Rattle.std.specs.Option.{IfSome}
use Rattle.std.proofs.lemmas.Int.{to_z-of_z}
use Rattle.integer_tableau.proofs.FromCode.{chosen_from_code, near_from_code, place_from_code, small_from_code, width_from_code}
use Rattle.integer_tableau.proofs.Lists.{if_some}
use Rattle.integer_tableau.specs.BasicColumns.{basic_from}
use Rattle.integer_tableau.specs.Combined.{expanded_rows, expanded_values}
use Rattle.integer_tableau.specs.Entering.{entering_by_numerators}
use Rattle.integer_tableau.specs.Leaving.{leaving_by_numerators}
use Rattle.integer_tableau.specs.Positions.{AreNonbasic}
use Rattle.integer_tableau.specs.Place.{place_of_candidate}
use Rattle.integer_tableau.proofs.RowSums.{bounded_from_code}
use Rattle.integer_tableau.specs.RowSums.{AreColumnsOf, AreRowSums}
use Rattle.integer_tableau.specs.Running.{HasRow, running_view}
use Rattle.integer_tableau.specs.declared.entering.Candidate.{Candidate}
use Rattle.tableau.specs.declared.place.Place.TheVariants.{NoColumn, Pivot}
use Rattle.tableau.specs.Place.{PlaceIsWithin}
use Rattle.integer_tableau.proofs.running_tableau.RunningTableau.place.Goals as goal

pub leaving_with_sums-requires-clause-near : goal.leaving_with_sums-requires-clause-near
leaving_with_sums-requires-clause-near c =
    let n = c.args.self.now in
    let f : SFits w64 n.denominator = search rules in
    near_from_code _ _ _ _ c.requires.running.compact c.deref-4.result.now c.deref-5.result.now _ c.deref-4.ensures.value c.deref-5.ensures.value (ap nat_abs (to_z-of_z w64 n.denominator f))

pub leaving_with_sums-requires-clause-basic : goal.leaving_with_sums-requires-clause-basic
leaving_with_sums-requires-clause-basic c = c.deref-6.ensures.value ∙ c.requires.running.basic
    ∙ (λ i. basic_from 0 ((sym c.requires.running.compact.values ∙ ap length (sym c.deref-5.ensures.value)) i) (sym c.deref-2.ensures.value i))

pub place_where_leaving-requires-clause-small : goal.place_where_leaving-requires-clause-small
place_where_leaving-requires-clause-small c =
    let n = c.args.self.now in
    let f : SFits w64 n.denominator = search rules in
    small_from_code _ _ _ _ c.requires.running.compact _ _ _ _ c.in-Some.row c.deref-in-Some.ensures.value c.deref-in-Some-2.ensures.value c.deref-in-Some-6.ensures.value (ap nat_abs (to_z-of_z w64 n.denominator f))

pub place_where_leaving-requires-clause-nonbasic_are : goal.place_where_leaving-requires-clause-nonbasic_are
place_where_leaving-requires-clause-nonbasic_are c = subst (λ (T : Type 0). T) (λ i. AreNonbasic (sym c.deref-in-Some-2.ensures.value i) (sym c.deref-in-Some-3.ensures.value i)) c.requires.running.nonbasic

pub place_where_leaving-requires-clause-reduced_costs_there : goal.place_where_leaving-requires-clause-reduced_costs_there
place_where_leaving-requires-clause-reduced_costs_there c = c.requires.running.compact.costs ∙ sym c.requires.running.columns ∙ sym (ap length c.deref-in-Some-3.ensures.value)

pub place_where_leaving-requires-clause-rows_there : goal.place_where_leaving-requires-clause-rows_there
place_where_leaving-requires-clause-rows_there c = ap length c.deref-in-Some-6.ensures.value ∙ sym c.requires.running.columns ∙ sym (ap length c.deref-in-Some-3.ensures.value)

pub place_where_leaving-requires-clause-width : goal.place_where_leaving-requires-clause-width
place_where_leaving-requires-clause-width c = λ basic.
    let n = c.args.self.now in
    let f : SFits w64 n.denominator = search rules in
    let found : c.in-Some.row < length c.deref-2.result.now = subst (λ o. IfSome o (λ l. l.0 < length c.deref-2.result.now)) c.in-Some.is c.in-Ok.ensures.within in
    let there : c.in-Some.row < length c.deref-in-Some-2.result.now = omega (arith, found, ap length c.deref-2.ensures.value, ap length c.deref-in-Some-2.ensures.value) in
    width_from_code _ _ _ _ c.requires.running.compact _ _ _ _ _ c.in-Some.row c.deref-in-Some.ensures.value c.deref-in-Some-2.ensures.value c.deref-in-Some-6.ensures.value (ap nat_abs (to_z-of_z w64 n.denominator f))
    (ap length c.deref-in-Some-3.ensures.value ∙ c.requires.running.columns) there basic

pub returns-in-None-clause-value : goal.returns-in-None-clause-value
returns-in-None-clause-value c =
    let n = c.args.self.now in
    let f : SFits w64 n.denominator = search rules in
    let d = to_z-of_z w64 n.denominator f in
    place_from_code _ _ _ _ _ _ (running_view c.args.self.now) c.requires.running.compact refl None
    (sym c.in-None.is ∙ c.in-Ok.ensures.value ∙ (λ i. leaving_by_numerators (nat_abs (d i)) 0 (c.deref-2.ensures.value i) (c.deref-3.ensures.value i)
    (expanded_values (nat_abs (d i)) (c.deref.ensures.value i) (c.deref-2.ensures.value i) (c.deref-4.ensures.value i) (c.deref-5.ensures.value i))))

pub returns-in-Some-clause-value : goal.returns-in-Some-clause-value
returns-in-Some-clause-value c =
    let n = c.args.self.now in
    let f : SFits w64 n.denominator = search rules in
    let d = to_z-of_z w64 n.denominator f in
    if_some _ _ c.place_where_leaving.result
    (λ p h. h
    ∙ (λ i. place_of_candidate c.in-Some.row (entering_by_numerators 0 c.in-Some.direction None (c.deref-in-Some-2.ensures.value i) (c.deref-in-Some-4.ensures.value i) (c.deref-in-Some-5.ensures.value i)
    n.reduced_costs (get_or (expanded_rows (nat_abs (d i)) (c.deref-in-Some.ensures.value i) (c.deref-in-Some-2.ensures.value i) (c.deref-in-Some-6.ensures.value i)) c.in-Some.row [])))
    ∙ chosen_from_code _ _ _ _ _ _ (running_view c.args.self.now) c.requires.running.compact refl (c.in-Some.row, c.in-Some.direction)
    (sym c.in-Some.is ∙ c.in-Ok.ensures.value ∙ (λ i. leaving_by_numerators (nat_abs (d i)) 0 (c.deref-2.ensures.value i) (c.deref-3.ensures.value i)
    (expanded_values (nat_abs (d i)) (c.deref.ensures.value i) (c.deref-2.ensures.value i) (c.deref-4.ensures.value i) (c.deref-5.ensures.value i)))))
    c.place_where_leaving.ensures.value

pub returns-in-Some-clause-within : goal.returns-in-Some-clause-within
returns-in-Some-clause-within c =
    if_some _ _ c.place_where_leaving.result (λ p h. subst (λ n. PlaceIsWithin n p) (ap length c.deref-in-Some-2.ensures.value) h) c.place_where_leaving.ensures.within

-- a pivot where a variable leaves is one of this variable
leaves : (r : ℕ) (o : Option Candidate) (s k : ℕ) → place_of_candidate r o ≡ Pivot s k → r ≡ s
leaves r None s k e = absurd (let no : NoColumn r ≡ Pivot s k = e in cc)
leaves r (Some b) s k e = let is : Pivot r b.variable ≡ Pivot s k = e in cc

both_some : {A : Type 0} (P Q R : A → Type 0) (o : Option A) → ((x : A) → P x → Q x → R x) → IfSome o P → IfSome o Q → IfSome o R
both_some P Q R None f p q = tt
both_some P Q R (Some x) f p q = f x p q

pub returns-in-Some-clause-row : goal.returns-in-Some-clause-row
returns-in-Some-clause-row c =
    let n = c.args.self.now in
    let f : SFits w64 n.denominator = search rules in
    let d = to_z-of_z w64 n.denominator f in
    both_some _ _ _ c.place_where_leaving.result
    (λ p value row r k is. subst (λ r. HasRow n r c.place_where_leaving.new.room) (leaves c.in-Some.row _ r k (sym value ∙ is))
    (λ l. row (omega (arith, l, ap length c.deref-in-Some-6.ensures.value))
    ∙ (λ i. get_or (expanded_rows (nat_abs (d i)) (c.deref-in-Some.ensures.value i) (c.deref-in-Some-2.ensures.value i) (c.deref-in-Some-6.ensures.value i)) c.in-Some.row [])))
    c.place_where_leaving.ensures.value c.place_where_leaving.ensures.row

pub leaving_with_sums-requires-clause-columns : goal.leaving_with_sums-requires-clause-columns
leaving_with_sums-requires-clause-columns c = subst (λ ps. IfSome c.args.columns.now (AreColumnsOf ps)) (sym c.deref.ensures.value) c.requires.columns

pub leaving_with_sums-requires-clause-sums : goal.leaving_with_sums-requires-clause-sums
leaving_with_sums-requires-clause-sums c =
    subst (λ (T : Type 0). T) (λ i. AreRowSums (sym c.deref.ensures.value i) (sym c.deref-2.ensures.value i) (sym c.deref-4.ensures.value i) c.args.row_sums.now) c.requires.sums

pub leaving_with_sums-requires-clause-bounded : goal.leaving_with_sums-requires-clause-bounded
leaving_with_sums-requires-clause-bounded c =
    bounded_from_code _ _ _ _ c.requires.running.compact c.deref-4.result.now c.deref-5.result.now c.deref-4.ensures.value c.deref-5.ensures.value
