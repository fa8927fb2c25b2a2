use Rattle.std.proofs.Common.{◌≡◌, ◌∙◌, Some, None, IfOk, IsSome, subst, sym, arith}
use Rattle.std.specs.Prelude.{List, slice_index}
use Rattle.cert_rows.specs.declared.line.CertRow.{CertRow}
use Rattle.cert_rows.specs.declared.line.Why.{Why}
use Rattle.node_tree.specs.Nodes.{children_at}
use Rattle.event_core.specs.declared.entry.Entry.{Entry}
use Rattle.event_core.specs.States.{tree_of}
use Rattle.cert_merge.specs.Endings.{proof_at}
use Rattle.cert_merge.specs.Lemmas.Finished.{IsDone, done_with}
use Rattle.cert_merge.proofs.Closed.{same_children, children_there, closed_there, closed_legal, closed_is}
use Rattle.cert_merge.proofs.lines.node_line.Goals as goal

pub split_line-requires-clause-left : goal.split_line-requires-clause-left
split_line-requires-clause-left c =
    let s = c.args.state.now.state in
    omega (arith, c.in-Some.left-is, (children_there (tree_of s) c.conditions_hold.ensures.sound.tree c.args.node _ (sym (same_children c.tree.result.now s c.args.node c.tree.ensures.nodes) ∙ sym c.children.ensures ∙ c.in-Some.is)).0)

pub split_line-requires-clause-right : goal.split_line-requires-clause-right
split_line-requires-clause-right c =
    let s = c.args.state.now.state in
    omega (arith, c.in-Some.right-is, (children_there (tree_of s) c.conditions_hold.ensures.sound.tree c.args.node _ (sym (same_children c.tree.result.now s c.args.node c.tree.ensures.nodes) ∙ sym c.children.ensures ∙ c.in-Some.is)).1)

pub proof_at-proof-requires : goal.proof_at-proof-requires
proof_at-proof-requires c =
    let s = c.args.state.now.state in
    let es = c.args.state.now.history in
    let done : IsDone s es = done_with s.problem s es c.conditions_hold.ensures.state c.conditions_hold.ensures.legal c.requires.ended in
    let none : children_at (tree_of s) c.args.node ≡ None = sym (same_children c.tree.result.now s c.args.node c.tree.ensures.nodes) ∙ sym c.children.ensures ∙ c.in-None.is in
    subst (λ (ds : List Entry). IsSome (proof_at ds (slice_index c.args.closings.now c.args.node) c.args.node)) (sym c.history.ensures)
    (closed_there s es done c.args.node c.requires.there none c.args.closings.now c.requires.all c.requires.places)

pub closed_line-requires-clause-legal : goal.closed_line-requires-clause-legal
closed_line-requires-clause-legal c =
    let s = c.args.state.now.state in
    let es = c.args.state.now.history in
    let done : IsDone s es = done_with s.problem s es c.conditions_hold.ensures.state c.conditions_hold.ensures.legal c.requires.ended in
    let none : children_at (tree_of s) c.args.node ≡ None = sym (same_children c.tree.result.now s c.args.node c.tree.ensures.nodes) ∙ sym c.children.ensures ∙ c.in-None.is in
    closed_legal s es done c.args.node c.requires.there none c.args.closings.now c.requires.all c.requires.places c.proof_at-proof.result.now
    (subst (λ (ds : List Entry). proof_at ds (slice_index c.args.closings.now c.args.node) c.args.node ≡ Some c.proof_at-proof.result.now) c.history.ensures c.proof_at-proof.ensures)

pub returns-in-None : goal.returns-in-None
returns-in-None c =
    let s = c.args.state.now.state in
    let es = c.args.state.now.history in
    let done : IsDone s es = done_with s.problem s es c.conditions_hold.ensures.state c.conditions_hold.ensures.legal c.requires.ended in
    let none : children_at (tree_of s) c.args.node ≡ None = sym (same_children c.tree.result.now s c.args.node c.tree.ensures.nodes) ∙ sym c.children.ensures ∙ c.in-None.is in
    subst (λ (z : CertRow × Why). IfOk c.closed_line.result (λ l. l ≡ z))
    (closed_is s es done c.args.node c.requires.there none c.args.closings.now c.requires.all c.requires.places c.proof_at-proof.result.now
    (subst (λ (ds : List Entry). proof_at ds (slice_index c.args.closings.now c.args.node) c.args.node ≡ Some c.proof_at-proof.result.now) c.history.ensures c.proof_at-proof.ensures))
    c.closed_line.ensures
