use Rattle.std.proofs.Common.{ℕ, ◌∙◌, ap, sym}
use Rattle.std.specs.Option.{option_map}
use Rattle.node_tree.specs.declared.branch.Branch.{Branch}
use Rattle.node_tree.specs.Paths.{path_at}
use Rattle.node_tree.proofs.Bounds.{setter-setting}
use Rattle.node_tree.proofs.tree.Tree.source_of.Goals as goal

pub returns-in-Some : goal.returns-in-Some
returns-in-Some c = ap (option_map (λ (s : ℕ × Branch). s.0)) c.in-Some.ensures ∙ sym (setter-setting c.args.column c.args.side (path_at c.args.self.now c.args.node))

pub returns-in-None : goal.returns-in-None
returns-in-None c = ap (option_map (λ (s : ℕ × Branch). s.0)) c.in-None.ensures ∙ sym (setter-setting c.args.column c.args.side (path_at c.args.self.now c.args.node))
