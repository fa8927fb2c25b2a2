use Rattle.crew.proofs.Leaving.{done_leaves, refused_holds}
use Rattle.crew.proofs.steps.commit.Goals as goal

pub returns-clause-done : goal.returns-clause-done
returns-clause-done g c =
    let w = g.G.PoolGate.worker c.args.gate.now in
    let old = g.G.PoolGate.seen c.args.gate.now in
    let new = g.G.PoolGate.seen c.commit.new.self in
    done_leaves w c.args.node c.args.finding old new c.requires.opened c.requires.holds c.commit.result c.commit.ensures.step

pub returns-clause-refused : goal.returns-clause-refused
returns-clause-refused g c =
    let w = g.G.PoolGate.worker c.args.gate.now in
    let old = g.G.PoolGate.seen c.args.gate.now in
    let new = g.G.PoolGate.seen c.commit.new.self in
    refused_holds w c.args.node c.args.finding old new c.requires.opened c.requires.holds c.commit.result c.commit.ensures.step
