use Rattle.std.specs.Prelude.{◌≡◌, List}
use Rattle.std.proofs.Common.{ap, ◌∙◌, subst}
use Rattle.event_core.specs.Rooms.{Recorded}
use Rattle.worker_gate.specs.declared.entry.PoolEntry.{PoolEntry}
use Rattle.worker_gate.specs.Entries.{opening_in, state_in}
use Rattle.worker_gate.specs.Legal.{IsLegalList}
use Rattle.worker_gate.proofs.Settling.{same_box, found_there, settled_there, legal_there, fits_there}
use Rattle.worker_gate.proofs.kin.Kin.settlement.Goals as goal

pub settle-requires-clause-holds : goal.settle-requires-clause-holds
settle-requires-clause-holds g c =
    let k = c.self.inside in
    let u = c.state-state.result.now.state in
    let there : u ≡ state_in c.args.self.now = ap (λ (r : Recorded). r.state) c.state-state.ensures ∙ c.self.invariant.same.state ∙ ap state_in c.self.view_is in
    found_there c.args.self.now (subst IsLegalList c.self.view_is c.self.invariant.legal) c.args.node c.args.finding u there c.in_ok-area.area
    (same_box u c.tree.result.now c.args.node c.in_ok-area.area c.tree.ensures.root c.tree.ensures.nodes c.in_ok-area.ensures) k.cuts (ap (λ (l : List PoolEntry). (opening_in l).cuts) c.self.view_is)
    c.requires.found

pub returns-clause-settled : goal.returns-clause-settled
returns-clause-settled g c =
    let k = c.self.inside in
    let u = c.state-state.result.now.state in
    let there : u ≡ state_in c.args.self.now = ap (λ (r : Recorded). r.state) c.state-state.ensures ∙ c.self.invariant.same.state ∙ ap state_in c.self.view_is in
    settled_there c.args.self.now (subst IsLegalList c.self.view_is c.self.invariant.legal) c.args.node c.args.finding u there c.in_ok-area.area
    (same_box u c.tree.result.now c.args.node c.in_ok-area.area c.tree.ensures.root c.tree.ensures.nodes c.in_ok-area.ensures) k.cuts (ap (λ (l : List PoolEntry). (opening_in l).cuts) c.self.view_is)
    c.settle.result c.settle.ensures.settled

pub returns-clause-legal : goal.returns-clause-legal
returns-clause-legal g c =
    let k = c.self.inside in
    let u = c.state-state.result.now.state in
    let there : u ≡ state_in c.args.self.now = ap (λ (r : Recorded). r.state) c.state-state.ensures ∙ c.self.invariant.same.state ∙ ap state_in c.self.view_is in
    legal_there c.args.self.now (subst IsLegalList c.self.view_is c.self.invariant.legal) c.args.node c.args.finding u there c.in_ok-area.area
    (same_box u c.tree.result.now c.args.node c.in_ok-area.area c.tree.ensures.root c.tree.ensures.nodes c.in_ok-area.ensures) k.cuts (ap (λ (l : List PoolEntry). (opening_in l).cuts) c.self.view_is)
    c.settle.result c.settle.ensures.legal

pub returns-clause-few : goal.returns-clause-few
returns-clause-few g c =
    let k = c.self.inside in
    let u = c.state-state.result.now.state in
    let there : u ≡ state_in c.args.self.now = ap (λ (r : Recorded). r.state) c.state-state.ensures ∙ c.self.invariant.same.state ∙ ap state_in c.self.view_is in
    fits_there c.args.self.now (subst IsLegalList c.self.view_is c.self.invariant.legal) c.args.node c.args.finding u there c.in_ok-area.area
    (same_box u c.tree.result.now c.args.node c.in_ok-area.area c.tree.ensures.root c.tree.ensures.nodes c.in_ok-area.ensures) k.cuts (ap (λ (l : List PoolEntry). (opening_in l).cuts) c.self.view_is)
    c.settle.result c.settle.ensures.settled
