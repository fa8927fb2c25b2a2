use Rattle.std.proofs.Common.{◌≡◌, List, Some, ◌∙◌, ap, sym, length, to_z, of_z, w64, arith}
use Rattle.std.proofs.lemmas.Int.{ints}
use Rattle.problem_box.specs.declared.span.Span.{Span}
use Rattle.node_tree.specs.declared.branch.Node.{Node}
use Rattle.node_tree.specs.Nodes.{branch_at}
use Rattle.node_tree.specs.Paths.{path_at}
use Rattle.node_tree.specs.Cuts.{cut_on}
use Rattle.node_tree.specs.Lemmas.Boxes.{length-box}
use Rattle.node_tree.specs.Lemmas.Insides.{reached_by}
use Rattle.node_tree.proofs.Climbing.{left_box}
use Rattle.node_tree.proofs.nodes.Nodes.leave.Goals as goal

pub set_bound-requires : goal.set_bound-requires
set_bound-requires c =
    let t = c.args.self.now in
    let e : branch_at t c.args.node ≡ Some c.in-Some.branch = ap (λ (n : Node). n.branch) (sym c.entry-entry.ensures.node) ∙ c.in-Some.is in
    let r = reached_by t c.conditions_hold.ensures.tree c.args.node c.in-Some.branch e in
    omega (arith, r.inside.there, length-box (path_at t c.in-Some.branch.parent) 0 t.root, length-box (path_at t c.args.node) 0 t.root, ap (λ (ss : List Span). length ss) c.requires.here)

pub returns-in-Some-clause-moved : goal.returns-in-Some-clause-moved
returns-in-Some-clause-moved c =
    let t = c.args.self.now in
    let b = c.in-Some.branch in
    let e : branch_at t c.args.node ≡ Some b = ap (λ (n : Node). n.branch) (sym c.entry-entry.ensures.node) ∙ c.in-Some.is in
    let back : to_z w64 (of_z w64 c.entry-entry.result.replaced) ≡ c.entry-entry.result.replaced = omega (arith, ints) in
    c.set_bound.ensures ∙ (λ k. cut_on b.side (c.requires.here k) b.column (back k)) ∙ left_box t c.conditions_hold.ensures.tree c.args.node b c.entry-entry.result.replaced e (c.entry-entry.ensures.replaced b e)
