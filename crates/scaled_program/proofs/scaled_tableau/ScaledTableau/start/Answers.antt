use Rattle.std.proofs.Common.{◌≡◌, length, Some, subst, ap, sym, ◌∙◌}
use Rattle.tableau.specs.LinearProgram.{LinearProgram, over}
use Rattle.tableau.specs.Start.{started}
use Rattle.integer_tableau.specs.Scales.{AreScalesTo, scale_at, scaled_by, unscaled_program}
use Rattle.scaled_program.proofs.Boxes.{start_from_code}
use Rattle.scaled_program.proofs.FromCode.{both}
use Rattle.integer_tableau.specs.Lemmas.MapFrom.{length-map_from}
use Rattle.scaled_program.proofs.scaled_tableau.ScaledTableau.start.Goals as goal

transported : {A B : Type 0} → A ≡ B → A → B
transported e a = subst (λ X. X) e a

pub start-requires : goal.start-requires
start-requires c =
    let n = c.program.inside in
    c.requires ∙ sym (ap (λ (p : LinearProgram). length p.costs) c.program.view_is)
    ∙ length-map_from (λ j x. scaled_by (scale_at (length n.program.costs) n.scales.rows.items.value.items j) n.scales.costs x) 0 n.program.costs

pub returns-in_ok-scales-in-Some-clause-value : goal.returns-in_ok-scales-in-Some-clause-value
returns-in_ok-scales-in-Some-clause-value c =
    let n = c.program.inside in
    let m = c.in_ok-scales-in-Some.scales in
    let e = c.in_ok-scales-in-Some.ensures in
    let h : AreScalesTo m.greatest m.rows.items.value.items m.costs = transported (λ i. AreScalesTo (sym e.greatest i) (sym e.rows i) (sym e.costs i)) c.program.invariant in
    let v = (λ i. unscaled_program (scale_at (length n.program.costs) (e.rows i)) (e.costs i) n.program) ∙ c.program.view_is in
    both _ _ (λ t. started (over c.args.program.now c.args.area.now) ≡ Some t) c.read.result
    (λ u f small. start_from_code m.greatest m.rows.items.value.items m.costs h n.program c.args.program.now c.args.area.now c.in-Some.tableau u v
    (c.requires ∙ sym (ap (λ (p : LinearProgram). length p.costs) c.program.view_is)
    ∙ length-map_from (λ j x. scaled_by (scale_at (length n.program.costs) n.scales.rows.items.value.items j) n.scales.costs x) 0 n.program.costs)
    small (rw c.in-Some.is at c.in_ok-tableau.ensures.value) f)
    c.read.ensures.value c.read.ensures.small
