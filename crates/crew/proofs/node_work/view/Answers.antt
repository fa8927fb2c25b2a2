use Rattle.std.proofs.Common.{subst}
use Rattle.worker_gate.specs.Calls.{Glances}
use Rattle.worker_gate.specs.Gates.{Stepped}
use Rattle.crew.proofs.Viewing.{unseen, seen_holds, seen_cuts, seen_few, seen_view, seen_node, seen_all, seen_knows}
use Rattle.crew.proofs.node_work.view.Goals as goal

pub returns-in_err-cuts-clause-holding : goal.returns-in_err-cuts-clause-holding
returns-in_err-cuts-clause-holding g c =
    let w = g.G.PoolGate.worker c.args.gate.now in
    let old = g.G.PoolGate.seen c.args.gate.now in
    let new = g.G.PoolGate.seen c.glance.new.self in
    unseen w c.args.node c.len.result c.in_err-cuts.field-0.0 old new c.requires.opened c.requires.holds
    (subst (λ r. Stepped w old new (Glances c.args.node c.len.result r)) c.in_err-cuts.was c.glance.ensures.step)

pub learn-requires-clause-cuts : goal.learn-requires-clause-cuts
learn-requires-clause-cuts g c =
    let w = g.G.PoolGate.worker c.args.gate.now in
    let old = g.G.PoolGate.seen c.args.gate.now in
    let new = g.G.PoolGate.seen c.glance.new.self in
    seen_cuts c.args.problem.now c.args.worker.now w c.args.node c.len.result c.len.ensures c.in_ok-cuts.field-0 old new c.requires.opened c.requires.holds c.requires.knows
    (subst (λ r. Stepped w old new (Glances c.args.node c.len.result r)) c.in_ok-cuts.was c.glance.ensures.step)

pub learn-requires-clause-few : goal.learn-requires-clause-few
learn-requires-clause-few g c =
    let w = g.G.PoolGate.worker c.args.gate.now in
    let old = g.G.PoolGate.seen c.args.gate.now in
    let new = g.G.PoolGate.seen c.glance.new.self in
    seen_few c.args.problem.now c.args.worker.now w c.args.node c.len.result c.len.ensures c.in_ok-cuts.field-0 old new c.requires.opened c.requires.holds c.requires.knows
    (subst (λ r. Stepped w old new (Glances c.args.node c.len.result r)) c.in_ok-cuts.was c.glance.ensures.step)

pub returns-in_err-learn-clause-holding : goal.returns-in_err-learn-clause-holding
returns-in_err-learn-clause-holding g c =
    let w = g.G.PoolGate.worker c.args.gate.now in
    let old = g.G.PoolGate.seen c.args.gate.now in
    let new = g.G.PoolGate.seen c.glance.new.self in
    seen_holds c.args.problem.now c.args.worker.now w c.args.node c.len.result c.len.ensures c.in_ok-cuts.field-0 old new c.requires.opened c.requires.holds c.requires.knows
    (subst (λ r. Stepped w old new (Glances c.args.node c.len.result r)) c.in_ok-cuts.was c.glance.ensures.step)

pub returns-clause-holding : goal.returns-clause-holding
returns-clause-holding g c =
    let w = g.G.PoolGate.worker c.args.gate.now in
    let old = g.G.PoolGate.seen c.args.gate.now in
    let new = g.G.PoolGate.seen c.glance.new.self in
    seen_holds c.args.problem.now c.args.worker.now w c.args.node c.len.result c.len.ensures c.in_ok-cuts.field-0 old new c.requires.opened c.requires.holds c.requires.knows
    (subst (λ r. Stepped w old new (Glances c.args.node c.len.result r)) c.in_ok-cuts.was c.glance.ensures.step)

pub returns-clause-view : goal.returns-clause-view
returns-clause-view g c =
    let w = g.G.PoolGate.worker c.args.gate.now in
    let old = g.G.PoolGate.seen c.args.gate.now in
    let new = g.G.PoolGate.seen c.glance.new.self in
    seen_view c.args.problem.now c.args.worker.now w c.args.node c.len.result c.len.ensures c.in_ok-cuts.field-0 old new c.requires.opened c.requires.holds c.requires.knows
    (subst (λ r. Stepped w old new (Glances c.args.node c.len.result r)) c.in_ok-cuts.was c.glance.ensures.step)

pub returns-clause-node : goal.returns-clause-node
returns-clause-node g c =
    let w = g.G.PoolGate.worker c.args.gate.now in
    let old = g.G.PoolGate.seen c.args.gate.now in
    let new = g.G.PoolGate.seen c.glance.new.self in
    seen_node c.args.problem.now c.args.worker.now w c.args.node c.len.result c.len.ensures c.in_ok-cuts.field-0 old new c.requires.opened c.requires.holds c.requires.knows
    (subst (λ r. Stepped w old new (Glances c.args.node c.len.result r)) c.in_ok-cuts.was c.glance.ensures.step)
    c.limits_hold.ensures

pub returns-clause-all : goal.returns-clause-all
returns-clause-all g c =
    let w = g.G.PoolGate.worker c.args.gate.now in
    let old = g.G.PoolGate.seen c.args.gate.now in
    let new = g.G.PoolGate.seen c.glance.new.self in
    seen_all c.args.problem.now c.args.worker.now w c.args.node c.len.result c.len.ensures c.in_ok-cuts.field-0 old new c.requires.opened c.requires.holds c.requires.knows
    (subst (λ r. Stepped w old new (Glances c.args.node c.len.result r)) c.in_ok-cuts.was c.glance.ensures.step)
    c.learn.new.self c.in_ok-learn.ensures.book

pub returns-clause-knows : goal.returns-clause-knows
returns-clause-knows g c =
    let w = g.G.PoolGate.worker c.args.gate.now in
    let old = g.G.PoolGate.seen c.args.gate.now in
    let new = g.G.PoolGate.seen c.glance.new.self in
    seen_knows c.args.problem.now c.args.worker.now w c.args.node c.len.result c.len.ensures c.in_ok-cuts.field-0 old new c.requires.opened c.requires.holds c.requires.knows
    (subst (λ r. Stepped w old new (Glances c.args.node c.len.result r)) c.in_ok-cuts.was c.glance.ensures.step)
    c.learn.new.self c.in_ok-learn.ensures.book c.in_ok-learn.ensures.prepared
