use Rattle.std.proofs.Common.{◌≡◌, ℕ, Some, to_z, of_z, w64, ◌∙◌, ap, sym, arith}
use Rattle.std.specs.Prelude.{List, slice_get, slice_index_or}
use Rattle.std.specs.Option.{option_map_or}
use Rattle.std.proofs.lemmas.Int.{ints}
use Rattle.std.proofs.lemmas.Option.{slice_get-get_or}
use Rattle.problem_box.specs.declared.span.Span.{Span}
use Rattle.node_tree.specs.declared.branch.Branch.{Branch}
use Rattle.node_tree.specs.Paths.{path_at, bound_on}
use Rattle.node_tree.proofs.Bounds.{bound_along, deepest-setting}
use Rattle.node_tree.proofs.tree.Tree.bound_of.Goals as goal

pub returns-in-Some : goal.returns-in-Some
returns-in-Some c = λ x e.
    let back : to_z w64 (of_z w64 c.in-Some.branch.bound) ≡ c.in-Some.branch.bound = omega (arith, ints) in
    let path = path_at c.args.self.now c.args.node in
    let root : Span = slice_index_or c.args.self.now.root c.args.column x in
    let there : slice_get c.args.self.now.root c.args.column ≡ Some root = slice_get-get_or c.args.self.now.root c.args.column x c.requires.column_there in
    back
    ∙ ap (λ s. option_map_or (λ (s : ℕ × Branch). s.1.bound) s (bound_on c.args.side root)) c.in-Some.ensures
    ∙ sym (deepest-setting c.args.column c.args.side (bound_on c.args.side root) path)
    ∙ sym (bound_along c.args.side path 0 c.args.column c.args.column c.args.self.now.root root x (omega arith) there e)

pub returns-in-None : goal.returns-in-None
returns-in-None c = λ x e.
    let back : to_z w64 (of_z w64 c.bound_on.result) ≡ c.bound_on.result = omega (arith, ints) in
    let path = path_at c.args.self.now c.args.node in
    let there : slice_get c.args.self.now.root c.args.column ≡ Some c.span.result = ap (λ (ss : List Span). slice_get ss c.args.column) (sym c.root.ensures) ∙ c.span.ensures in
    back ∙ c.bound_on.ensures
    ∙ ap (λ s. option_map_or (λ (s : ℕ × Branch). s.1.bound) s (bound_on c.args.side c.span.result)) c.in-None.ensures
    ∙ sym (deepest-setting c.args.column c.args.side (bound_on c.args.side c.span.result) path)
    ∙ sym (bound_along c.args.side path 0 c.args.column c.args.column c.args.self.now.root c.span.result x (omega arith) there e)
