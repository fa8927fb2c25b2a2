use Rattle.std.proofs.Common.{◌≡◌, ◌∙◌, sym, ap, subst}
use Rattle.std.proofs.lemmas.Result.{IfOk-weaker}
use Rattle.expand.specs.declared.finding.Finding.TheVariants.{Cuts, Whole, Solved, Loose}
use Rattle.expand.specs.declared.settlement.Settlement.{Settlement}
use Rattle.event_core.specs.States.{cutoff}
use Rattle.std.specs.Prelude.{ℤ}
use Rattle.expand.specs.Findings.{IsLoose, IsTrueFinding}
use Rattle.expand.specs.Lemmas.Bounds.{kept_bound}
use Rattle.expand.proofs.Middles.{middle_modest}
use Rattle.expand.specs.Settlements.{IsSettlement}
use Rattle.expand.specs.Settling.{improved_or_closed, settled}
use Rattle.expand.proofs.Nodes.{IsNodeBox, node_box, few_columns}
use Rattle.expand.proofs.Settled.{settled_is_legal}
use Rattle.expand.proofs.settling.settle.Goals as goal

pub settled_optimum-requires-clause-modest : goal.settled_optimum-requires-clause-modest
settled_optimum-requires-clause-modest c =
    (node_box c.args.state.now.state c.problem.result.now c.args.node c.args.area.now c.conditions_hold.ensures.sound.tree c.problem.ensures c.limits_hold.ensures c.requires.area).modest

pub settled_optimum-requires-clause-part : goal.settled_optimum-requires-clause-part
settled_optimum-requires-clause-part c =
    (node_box c.args.state.now.state c.problem.result.now c.args.node c.args.area.now c.conditions_hold.ensures.sound.tree c.problem.ensures c.limits_hold.ensures c.requires.area).part

pub settled_unanswered-requires-clause-columns : goal.settled_unanswered-requires-clause-columns
settled_unanswered-requires-clause-columns c =
    (node_box c.args.state.now.state c.problem.result.now c.args.node c.args.area.now c.conditions_hold.ensures.sound.tree c.problem.ensures c.limits_hold.ensures c.requires.area).columns

pub settled_unanswered-requires-clause-limited : goal.settled_unanswered-requires-clause-limited
settled_unanswered-requires-clause-limited c =
    let s = c.args.state.now.state in
    let box = c.args.area.now in
    let n : IsNodeBox s.problem box =
    node_box s c.problem.result.now c.args.node box c.conditions_hold.ensures.sound.tree c.problem.ensures c.limits_hold.ensures c.requires.area
    in
    let h : IsTrueFinding s.problem s.cuts box (cutoff s) (Loose c.in-Loose.reason c.in-Loose.column c.in-Loose.bound) = subst (IsTrueFinding s.problem s.cuts box (cutoff s)) c.in-Loose.is c.requires.holds in
    record { few_columns = few_columns s.problem box n; modest = n.modest; nonempty = h.nonempty }

pub returns-in-Cuts-clause-legal : goal.returns-in-Cuts-clause-legal
returns-in-Cuts-clause-legal c =
    let s = c.args.state.now.state in
    let box = c.args.area.now in
    let n = node_box s c.problem.result.now c.args.node box c.conditions_hold.ensures.sound.tree c.problem.ensures c.limits_hold.ensures c.requires.area in
    subst (IsSettlement s box) (sym c.separated.ensures)
    (settled_is_legal s box n c.args.limit (Cuts c.in-Cuts.mults) c.requires.limit c.conditions_hold.ensures.sound.few_cuts (subst (IsTrueFinding s.problem s.cuts box (cutoff s)) c.in-Cuts.is c.requires.holds))

pub returns-in-Whole-clause-legal : goal.returns-in-Whole-clause-legal
returns-in-Whole-clause-legal c =
    let s = c.args.state.now.state in
    let box = c.args.area.now in
    let n = node_box s c.problem.result.now c.args.node box c.conditions_hold.ensures.sound.tree c.problem.ensures c.limits_hold.ensures c.requires.area in
    subst (IsSettlement s box) (sym (c.improved_or_closed.ensures ∙ ap (improved_or_closed s c.in-Whole.point) c.objective_bound.ensures))
    (settled_is_legal s box n c.args.limit (Whole c.in-Whole.point) c.requires.limit c.conditions_hold.ensures.sound.few_cuts (subst (IsTrueFinding s.problem s.cuts box (cutoff s)) c.in-Whole.is c.requires.holds))

pub returns-in-Solved-clause-legal : goal.returns-in-Solved-clause-legal
returns-in-Solved-clause-legal c =
    let s = c.args.state.now.state in
    let box = c.args.area.now in
    let n = node_box s c.problem.result.now c.args.node box c.conditions_hold.ensures.sound.tree c.problem.ensures c.limits_hold.ensures c.requires.area in
    let f = Solved c.in-Solved.cuts c.in-Solved.point c.in-Solved.mult c.in-Solved.value c.in-Solved.column in
    let legal = settled_is_legal s box n c.args.limit f c.requires.limit c.conditions_hold.ensures.sound.few_cuts (subst (IsTrueFinding s.problem s.cuts box (cutoff s)) c.in-Solved.is c.requires.holds) in
    IfOk-weaker c.settled_optimum.result (λ (g : Settlement). g ≡ settled s box c.args.limit f) (IsSettlement s box) (λ g e. subst (IsSettlement s box) (sym e) legal) c.settled_optimum.ensures

pub returns-in-Loose-clause-legal : goal.returns-in-Loose-clause-legal
returns-in-Loose-clause-legal c =
    let s = c.args.state.now.state in
    let box = c.args.area.now in
    let n : IsNodeBox s.problem box =
    node_box s c.problem.result.now c.args.node box c.conditions_hold.ensures.sound.tree c.problem.ensures c.limits_hold.ensures c.requires.area
    in
    let reason = c.in-Loose.reason in
    let j = c.in-Loose.column in
    let h : IsLoose s.problem s.cuts box reason j c.in-Loose.bound = subst (IsTrueFinding s.problem s.cuts box (cutoff s)) c.in-Loose.is c.requires.holds in
    let kept = kept_bound c.in-Loose.bound (middle_modest box j h.middle.free c.in-Loose.bound h.middle.bound n.modest) in
    subst (IsSettlement s box) (sym (c.settled_unanswered.ensures ∙ ap (λ (b : ℤ). settled s box c.args.limit (Loose reason j b)) kept))
    (settled_is_legal s box n c.args.limit (Loose reason j c.in-Loose.bound) c.requires.limit c.conditions_hold.ensures.sound.few_cuts h)
