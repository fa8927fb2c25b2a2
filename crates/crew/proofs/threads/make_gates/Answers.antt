use Rattle.std.proofs.Common.{◌≡◌, ◌∙◌, ◌-◌, ◌+◌, ap, sym, subst, arith, length}
use Rattle.turn_lock.specs.Names.{names_below}
use Rattle.crew.specs.Gates.{IsNewGate, AreNewGates, worker_at}
use Rattle.crew.proofs.Places.{each_push}
use Rattle.crew.proofs.threads.make_gates.Goals as goal

pub loop-index-preserved : goal.loop-index-preserved
loop-index-preserved g c =
    let before = c.loop-index.invariant in
    let made = c.split_gate-gate.ensures in
    record {
      count = omega (arith, c.push_reserved.ensures.len, before.count);
      room = omega (arith, c.push_reserved.ensures.capacity, before.room);
      gates =
          subst (AreNewGates c.args.lock.now c.args.workers) (sym c.push_reserved.ensures.items)
          (each_push (λ i h. IsNewGate c.args.lock.now (worker_at c.args.workers i) h) c.loop-index.gates.items c.split_gate-gate.result.0 before.gates
          (subst (λ n. IsNewGate c.args.lock.now (c.args.workers - 1 - n) c.split_gate-gate.result.0) (sym before.count) made.gate));
      own = made.own;
      named = made.named ∙ ap names_below (let same : c.args.workers - 1 - c.loop-index.index ≡ c.args.workers - (c.loop-index.index + 1) = omega arith in same);
      seen = made.seen;
    }

pub returns-clause-gates : goal.returns-clause-gates
returns-clause-gates g c =
    let before = c.loop-index.invariant in
    let last : 0 ≡ c.args.workers - 1 - length c.loop-index.gates.items = omega (arith, before.count, c.loop-index-test.false) in
    subst (AreNewGates c.args.lock.now c.args.workers) (sym c.push_reserved-2.ensures.items)
    (each_push (λ i h. IsNewGate c.args.lock.now (worker_at c.args.workers i) h) c.loop-index.gates.items _ before.gates
    (record { home = c.make.ensures.lock; worker = c.make.ensures.worker ∙ last; seen = c.make.ensures.seen ∙ before.seen }))
