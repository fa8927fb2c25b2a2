use Rattle.std.proofs.Common.{refl, ◌∙◌, rules, nat_abs, w64}
use mir.Val.{SFits}
use Rattle.std.proofs.lemmas.Int.{to_z-of_z}
use Rattle.integer_tableau.proofs.Answering.{point_is}
use Rattle.std.proofs.lemmas.Result.{IfOk-weaker}
use Rattle.integer_tableau.specs.IntegerTableau.{values_of}
use Rattle.integer_tableau.proofs.integer_tableau.IntegerTableau.point.Goals as goal

pub returns : goal.returns
returns c =
    let f : SFits w64 c.self.inside.denominator = search rules in
    IfOk-weaker c.column_values.result _ _ (λ v h. h
    ∙ (λ i. values_of (nat_abs (to_z-of_z w64 c.self.inside.denominator f i)) (c.deref.ensures.value i) (c.deref-2.ensures.value i) (c.deref-3.ensures.value i))
    ∙ point_is _ _ _ _ _ _ c.args.self.now c.self.invariant.0 c.self.view_is refl) c.column_values.ensures
