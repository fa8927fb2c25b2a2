use Rattle.std.proofs.Common.{◌≡◌, ◌<◌, ◌≤◌, ◌+◌, ◌-◌, ◌/◌, ◌++◌, ◌∷◌, [], List, None, Some, ◌∙◌, ap, subst, sym, append_assoc, length, vec_len, to_z, of_z, w64, arith, rules}
use Rattle.std.specs.Prelude.{pos, ◌+ℤ◌, slice_get, slice_set}
use Rattle.std.specs.Vec.{vec_capacity}
use Rattle.std.proofs.lemmas.Int.{ints}
use Rattle.std.proofs.lemmas.List.{length-map}
use Rattle.node_tree.specs.declared.branch.Side.TheVariants.{Low, High}
use Rattle.node_tree.specs.declared.nodes.Entry.{Entry}
use Rattle.node_tree.specs.Limits.{most_nodes}
use Rattle.node_tree.specs.Nodes.{Tree, children_at}
use Rattle.node_tree.specs.Paths.{box_at}
use Rattle.node_tree.specs.Splits.{left_branch, right_branch, leaf_of, with_split}
use Rattle.node_tree.specs.Entries.{nodes_of, replaced_of}
use Rattle.node_tree.specs.Replaced.{IsKept}
use Rattle.node_tree.proofs.Replacing.{split_kept, split_bounds, split_tree}
use Rattle.node_tree.proofs.nodes.Nodes.split.Goals as goal

pub invariant_of-self : goal.invariant_of-self
invariant_of-self c =
    let r = c.requires in
    let i = c.args.node in
    let j = c.args.column in
    let b = c.args.bound in
    let es : List Entry = c.self.inside.entries.items in
    let before : Tree = record { root = c.self.inside.root; nodes = nodes_of es; room = (vec_capacity c.self.inside.entries - vec_len c.self.inside.entries) / 2 } in
    let kept : IsKept before (replaced_of es) = c.self.invariant in
    let there : i < length (nodes_of es) = subst (λ (t : Tree). i < length t.nodes) (sym c.self.view_is) r.node_there in
    let leaf : children_at before i ≡ None = subst (λ (t : Tree). children_at t i ≡ None) (sym c.self.view_is) r.leaf in
    let column : j < length before.root = subst (λ (t : Tree). j < length t.root) (sym c.self.view_is) r.column_there in
    let span : slice_get (box_at before i) j ≡ Some c.args.span = subst (λ (t : Tree). slice_get (box_at t i) j ≡ Some c.args.span) (sym c.self.view_is) r.span in
    let few : length (nodes_of es) + 2 ≤ most_nodes = subst (λ (t : Tree). length t.nodes + 2 ≤ most_nodes) (sym c.self.view_is) r.few in
    let there_kept : i < length es = omega (arith, there, length-map es (λ (e : Entry). e.node)) in
    let p : Entry = c.index_mut-parent.result.now in
    let first : c.len-first.result ≡ length es = search rules in
    let low : to_z w64 (of_z w64 b) ≡ b = omega (arith, ints) in
    let high : to_z w64 (of_z w64 (to_z w64 (of_z w64 b) +ℤ pos 1)) ≡ b +ℤ pos 1 = omega (arith, ints) in
    let high_replaced : to_z w64 (of_z w64 c.args.span.hi) ≡ c.args.span.hi = omega (arith, ints) in
    let low_replaced : to_z w64 (of_z w64 c.args.span.lo) ≡ c.args.span.lo = omega (arith, ints) in
    let left_entry : Entry = record { node = leaf_of (left_branch i j b); replaced = c.args.span.hi } in
    let right_entry : Entry = record { node = leaf_of (right_branch i j b); replaced = c.args.span.lo } in
    let left : c.leaf.result ≡ left_entry = c.leaf.ensures ∙ (λ k. record { node = leaf_of (record { parent = i; column = j; side = High; bound = low k }); replaced = high_replaced k }) in
    let right : c.leaf-2.result ≡ right_entry = c.leaf-2.ensures ∙ (λ k. record { node = leaf_of (record { parent = i; column = j; side = Low; bound = high k }); replaced = low_replaced k }) in
    let room : (vec_capacity c.push_reserved-2.new.self - vec_len c.push_reserved-2.new.self) / 2 ≡ before.room - 1 = omega arith in
    let parent : Entry = record { node = record { branch = p.node.branch; first_child = Some c.len-first.result }; replaced = p.replaced } in
    let items : c.push_reserved-2.new.self.items ≡ slice_set es i parent ++ left_entry ∷ right_entry ∷ [] = c.push_reserved-2.ensures.items ∙ ap (λ (ns : List Entry). ns ++ c.leaf-2.result ∷ []) c.push_reserved.ensures.items
    ∙ append_assoc (slice_set es i parent) (c.leaf.result ∷ []) (c.leaf-2.result ∷ [])
    ∙ (λ k. slice_set es i parent ++ left k ∷ right k ∷ []) in
    let made = split_tree before.root es c.push_reserved-2.new.self.items before.room ((vec_capacity c.push_reserved-2.new.self - vec_len c.push_reserved-2.new.self) / 2) c.len-first.result i j b p left_entry right_entry
    there_kept c.index_mut-parent.ensures.value first room (λ k. leaf_of (left_branch i j b)) (λ k. leaf_of (right_branch i j b)) items in
    let bounds : replaced_of c.push_reserved-2.new.self.items ≡ replaced_of es ++ c.args.span.hi ∷ c.args.span.lo ∷ [] = ap replaced_of items
    ∙ split_bounds es i parent left_entry right_entry p (ap (λ (e : Entry). e.replaced) c.index_mut-parent.ensures.value) in
    let len : length (replaced_of es) ≡ length (nodes_of es) = length-map es (λ (e : Entry). e.replaced) ∙ sym (length-map es (λ (e : Entry). e.node)) in
    let new_kept = split_kept before kept.tree i j b there c.args.span span (replaced_of es) len kept leaf column r.low r.high few in
    subst (λ (t : Tree). IsKept t (replaced_of c.push_reserved-2.new.self.items)) (sym made) (subst (IsKept (with_split before i j b)) (sym bounds) new_kept)

pub returns : goal.returns
returns c =
    let i = c.args.node in
    let j = c.args.column in
    let b = c.args.bound in
    let es : List Entry = c.self.inside.entries.items in
    let before : Tree = record { root = c.self.inside.root; nodes = nodes_of es; room = (vec_capacity c.self.inside.entries - vec_len c.self.inside.entries) / 2 } in
    let node_there : i < length (nodes_of es) = subst (λ (t : Tree). i < length t.nodes) (sym c.self.view_is) c.requires.node_there in
    let there : i < length es = omega (arith, node_there, length-map es (λ (e : Entry). e.node)) in
    let p : Entry = c.index_mut-parent.result.now in
    let first : c.len-first.result ≡ length es = search rules in
    let low : to_z w64 (of_z w64 b) ≡ b = omega (arith, ints) in
    let high : to_z w64 (of_z w64 (to_z w64 (of_z w64 b) +ℤ pos 1)) ≡ b +ℤ pos 1 = omega (arith, ints) in
    let left = ap (λ (e : Entry). e.node) c.leaf.ensures ∙ (λ k. leaf_of (record { parent = i; column = j; side = High; bound = low k })) in
    let right = ap (λ (e : Entry). e.node) c.leaf-2.ensures ∙ (λ k. leaf_of (record { parent = i; column = j; side = Low; bound = high k })) in
    let room : (vec_capacity c.push_reserved-2.new.self - vec_len c.push_reserved-2.new.self) / 2 ≡ before.room - 1 = omega arith in
    let parent : Entry = record { node = record { branch = p.node.branch; first_child = Some c.len-first.result }; replaced = p.replaced } in
    let items : c.push_reserved-2.new.self.items ≡ slice_set es i parent ++ c.leaf.result ∷ c.leaf-2.result ∷ [] = c.push_reserved-2.ensures.items ∙ ap (λ (ns : List Entry). ns ++ c.leaf-2.result ∷ []) c.push_reserved.ensures.items
    ∙ append_assoc (slice_set es i parent) (c.leaf.result ∷ []) (c.leaf-2.result ∷ []) in
    split_tree before.root es c.push_reserved-2.new.self.items before.room ((vec_capacity c.push_reserved-2.new.self - vec_len c.push_reserved-2.new.self) / 2) c.len-first.result i j b p c.leaf.result c.leaf-2.result
    there c.index_mut-parent.ensures.value first room left right items
    ∙ ap (λ (t : Tree). with_split t i j b) c.self.view_is
