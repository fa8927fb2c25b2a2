use Rattle.std.proofs.Common.{sym, subst, ◌∙◌, ◌≡◌}
use Rattle.std.specs.Prelude.{IfOk}
use Rattle.std.proofs.lemmas.Result.{IfOk-weaker}
use Rattle.expand.specs.Lemmas.Rooms.{without_cuts}
use Rattle.expand.specs.Settling.{settled}
use Rattle.core_search.specs.Deciding.{IsFinal, KeepsToLimit}
use Rattle.core_search.proofs.Limiting.{settled_fits}
use Rattle.core_search.specs.Visits.{IsLook}
use Rattle.core_search.proofs.deciding.settlement.Goals as goal

pub returns-clause-last : goal.returns-clause-last
returns-clause-last c =
    let s = c.args.state.now.state in
    let box = c.args.node.now.area in
    let limit = c.look.new.worker.limit in
    let found = c.in_ok-finding.finding in
    IfOk-weaker c.settle.result (λ g. g ≡ settled s box limit found) (IsFinal c.args.room)
    (λ g e z mults q. without_cuts s box limit found (c.in_ok-finding.ensures.last z) mults (sym e ∙ q)) c.settle.ensures.settled

pub returns-clause-limited : goal.returns-clause-limited
returns-clause-limited c =
    let s = c.args.state.now.state in
    let box = c.args.node.now.area in
    let limit = c.look.new.worker.limit in
    let found = c.in_ok-finding.finding in
    subst (λ l. IfOk c.settle.result (λ g. KeepsToLimit l s g)) c.look.ensures.limit
    (IfOk-weaker c.settle.result (λ g. g ≡ settled s box limit found) (KeepsToLimit limit s)
    (λ g e. subst (KeepsToLimit limit s) (sym e) (settled_fits limit s box found)) c.settle.ensures.settled)

pub returns-clause-looked : goal.returns-clause-looked
returns-clause-looked c =
    let s = c.args.state.now.state in
    let o = c.args.node.now in
    let limit = c.look.new.worker.limit in
    let found = c.in_ok-finding.finding in
    let before = c.args.worker.now.costs in
    let after = c.look.new.worker.costs in
    subst (λ l. IfOk c.settle.result (λ g. IsLook l c.args.room s o before after g)) c.look.ensures.limit
    (IfOk-weaker c.settle.result (λ g. g ≡ settled s o.area limit found) (IsLook limit c.args.room s o before after)
    (λ g e. record { finding = found; noted = c.in_ok-finding.ensures.noted; found = c.in_ok-finding.ensures.found; settles = e }) c.settle.ensures.settled)
