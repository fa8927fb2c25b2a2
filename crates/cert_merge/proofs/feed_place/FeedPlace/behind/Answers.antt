use Rattle.std.proofs.Common.{◌∙◌, ◌++◌, ap, drop, subst, sym}
use Rattle.cert_merge.specs.FeedLines.{IsPlace, lines_from, nodes_behind}
use Rattle.cert_merge.specs.Merged.{assumption_lines}
use Rattle.cert_merge.proofs.Feeding.{cuts_rest, assumptions_rest}
use Rattle.cert_merge.proofs.feed_place.FeedPlace.behind.Goals as goal

pub returns-in-Cut-clause-rest : goal.returns-in-Cut-clause-rest
returns-in-Cut-clause-rest c =
    let s = c.args.state.now.state in
    let es = c.args.state.now.history in
    let i = c.in-Cut.index in
    c.of_cut.ensures.lines ∙ sym (cuts_rest s.cuts i i (assumption_lines 0 s.nodes ++ nodes_behind s es) (subst (IsPlace s) c.in-Cut.is c.requires)) ∙ ap (λ p. drop 1 (lines_from s es p)) (sym c.in-Cut.is)

pub returns-in-Assumption-clause-rest : goal.returns-in-Assumption-clause-rest
returns-in-Assumption-clause-rest c =
    let s = c.args.state.now.state in
    let es = c.args.state.now.history in
    let i = c.in-Assumption.node in
    let there = subst (IsPlace s) c.in-Assumption.is c.requires in
    c.of_assumption.ensures.lines ∙ sym (assumptions_rest s es c.conditions_hold.ensures.sound.tree i there.0 there.1) ∙ ap (λ p. drop 1 (lines_from s es p)) (sym c.in-Assumption.is)
