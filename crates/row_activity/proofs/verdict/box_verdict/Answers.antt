use Rattle.std.proofs.Common.{Some, None, true, false, refl, sym, ap, ◌∙◌, subst}
use Rattle.std.proofs.lemmas.Bool.Decides.{same_from_decides}
use Rattle.row_activity.specs.Activity.{low_of}
use Rattle.row_activity.specs.Verdicts.{reaches, is_fixed}
use Rattle.row_activity.specs.Meaning.{Tells}
use Rattle.row_activity.specs.Lemmas.Laws.{verdict_tells, Decides-is_fixed}
use Rattle.row_activity.proofs.First.{first_empty_is, none_empty, settled}
use Rattle.row_activity.proofs.verdict.box_verdict.Goals as goal

pub returns-in-Some-clause-first : goal.returns-in-Some-clause-first
returns-in-Some-clause-first c =
    settled c.args.problem.now c.args.node.now c.args.cutoff (Some c.in-Some.column) _ _ _ (first_empty_is c.args.node.now c.in-Some.column c.in-Some.ensures.found) refl refl refl

pub returns-in-Some-clause-meaning : goal.returns-in-Some-clause-meaning
returns-in-Some-clause-meaning c =
    subst (Tells c.args.problem.now c.args.node.now c.args.cutoff) (sym (returns-in-Some-clause-first c)) (verdict_tells c.args.problem.now c.args.node.now c.args.cutoff)

pub returns-in-Some-first_refuted-clause-first : goal.returns-in-Some-first_refuted-clause-first
returns-in-Some-first_refuted-clause-first c =
    settled c.args.problem.now c.args.node.now c.args.cutoff None (Some (c.in-Some-first_refuted.row, c.in-Some-first_refuted.sign)) _ _
    (none_empty c.args.node.now c.in_default.ensures.none) (sym c.first_refuted.ensures ∙ c.in-Some-first_refuted.is) refl refl

pub returns-in-Some-first_refuted-clause-meaning : goal.returns-in-Some-first_refuted-clause-meaning
returns-in-Some-first_refuted-clause-meaning c =
    subst (Tells c.args.problem.now c.args.node.now c.args.cutoff) (sym (returns-in-Some-first_refuted-clause-first c)) (verdict_tells c.args.problem.now c.args.node.now c.args.cutoff)

pub returns-then-reaches-clause-first : goal.returns-then-reaches-clause-first
returns-then-reaches-clause-first c =
    let reached = sym (c.reaches.ensures ∙ ap (λ v. reaches v c.args.cutoff) (c.low.ensures.value ∙ ap (low_of c.args.node.now) c.aim.ensures.value)) ∙ c.if-reaches.true in
    settled c.args.problem.now c.args.node.now c.args.cutoff None None true _ (none_empty c.args.node.now c.in_default.ensures.none) (sym c.first_refuted.ensures ∙ c.in_default-first_refuted.is) reached refl

pub returns-then-reaches-clause-meaning : goal.returns-then-reaches-clause-meaning
returns-then-reaches-clause-meaning c =
    subst (Tells c.args.problem.now c.args.node.now c.args.cutoff) (sym (returns-then-reaches-clause-first c)) (verdict_tells c.args.problem.now c.args.node.now c.args.cutoff)

pub returns-then-is_fixed-clause-first : goal.returns-then-is_fixed-clause-first
returns-then-is_fixed-clause-first c =
    let reached = sym (c.reaches.ensures ∙ ap (λ v. reaches v c.args.cutoff) (c.low.ensures.value ∙ ap (low_of c.args.node.now) c.aim.ensures.value)) ∙ c.if-reaches.false in
    let fixed = sym (same_from_decides c.is_fixed.result (is_fixed c.args.node.now) c.is_fixed.ensures (Decides-is_fixed c.args.node.now)) ∙ c.if-is_fixed.true in
    settled c.args.problem.now c.args.node.now c.args.cutoff None None false true (none_empty c.args.node.now c.in_default.ensures.none) (sym c.first_refuted.ensures ∙ c.in_default-first_refuted.is) reached fixed

pub returns-then-is_fixed-clause-meaning : goal.returns-then-is_fixed-clause-meaning
returns-then-is_fixed-clause-meaning c =
    subst (Tells c.args.problem.now c.args.node.now c.args.cutoff) (sym (returns-then-is_fixed-clause-first c)) (verdict_tells c.args.problem.now c.args.node.now c.args.cutoff)

pub returns-else-is_fixed-clause-first : goal.returns-else-is_fixed-clause-first
returns-else-is_fixed-clause-first c =
    let reached = sym (c.reaches.ensures ∙ ap (λ v. reaches v c.args.cutoff) (c.low.ensures.value ∙ ap (low_of c.args.node.now) c.aim.ensures.value)) ∙ c.if-reaches.false in
    let fixed = sym (same_from_decides c.is_fixed.result (is_fixed c.args.node.now) c.is_fixed.ensures (Decides-is_fixed c.args.node.now)) ∙ c.if-is_fixed.false in
    settled c.args.problem.now c.args.node.now c.args.cutoff None None false false (none_empty c.args.node.now c.in_default.ensures.none) (sym c.first_refuted.ensures ∙ c.in_default-first_refuted.is) reached fixed
