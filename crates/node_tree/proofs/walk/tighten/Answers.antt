use Rattle.std.proofs.Common.{◌≡◌, ◌∙◌, ap, to_z, of_z, w64, arith}
use Rattle.std.proofs.lemmas.Int.{ints}
use Rattle.node_tree.specs.Paths.{bound_on}
use Rattle.node_tree.specs.Cuts.{cut_on}
use Rattle.node_tree.specs.Walks.{tighter}
use Rattle.node_tree.proofs.Meets.{tightened_by_setting}
use Rattle.node_tree.proofs.walk.tighten.Goals as goal

pub returns : goal.returns
returns c =
    let s = c.span.result in
    let b = c.args.branch in
    let first : to_z w64 (of_z w64 c.bound_on-bound.result) ≡ c.bound_on-bound.result = omega (arith, ints) in
    let second : to_z w64 (of_z w64 b.bound) ≡ b.bound = omega (arith, ints) in
    let third : to_z w64 (of_z w64 c.tighter-tighter.result) ≡ c.tighter-tighter.result = omega (arith, ints) in
    let old : to_z w64 (of_z w64 c.bound_on-bound.result) ≡ bound_on b.side s = first ∙ c.bound_on-bound.ensures in
    let tight : to_z w64 (of_z w64 c.tighter-tighter.result) ≡ tighter b.side (bound_on b.side s) b.bound = third ∙ c.tighter-tighter.ensures ∙ (λ k. tighter b.side (old k) (second k)) in
    c.set_bound.ensures ∙ ap (cut_on b.side c.args.area.now b.column) tight ∙ tightened_by_setting b.side c.args.area.now b.column b.bound s c.span.ensures
