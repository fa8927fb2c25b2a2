use Rattle.std.proofs.Common.{◌≡◌, ◌≤◌, ◌++◌, [], ◌∷◌, ◌∙◌, ap, sym, subst, arith, rules}
use Rattle.std.specs.Prelude.{nat_abs}
use Rattle.std.specs.Int.{w128}
use Rattle.std.proofs.lemmas.Int.{to_z-of_z}
use Rattle.std.proofs.lemmas.List.Elements.{All-push}
use mir.Val.{SFits}
use Rattle.dual_simplex.specs.Scaled.{AreNumerators, largest_numerator}
use Rattle.dual_simplex.proofs.Scaling.{numbers_more}
use Rattle.dual_simplex.proofs.scaled_point.numerators_over.Goals as goal

pub loop-column-preserved : goal.loop-column-preserved
loop-column-preserved c =
    let z = c.in-Some.numerator in
    let zs = c.loop-column.numerators.items in
    let fits : SFits w128 z = search rules in
    let items : c.push.new.self.items ≡ zs ++ z ∷ [] = c.in_ok-push.ensures.items ∙ ap (λ y. zs ++ y ∷ []) (to_z-of_z w128 z fits) in
    record {
      point = numbers_more c.args.denominator zs c.push.new.self.items c.args.point.now c.loop-column.column z c.get.result items c.get.ensures (omega arith) c.in-Some.ensures.value c.loop-column.invariant.point;
      small = subst AreNumerators (sym items) (All-push (λ y. nat_abs y ≤ largest_numerator) zs z c.loop-column.invariant.small c.in-Some.ensures.small);
    }
