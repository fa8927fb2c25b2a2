use Rattle.std.proofs.Common.{◌++◌, ℕ, List, length, take, drop, ◌-◌, ◌∙◌, ap, arith}
use Rattle.outside.proofs.Parts.{more_taken}
use Rattle.outside.proofs.whole_sink.write_all.Goals as goal

pub loop-at-preserved : goal.loop-at-preserved
loop-at-preserved g c = (
  c.in-Took.ensures.cause ∙ c.loop-at.invariant.0,
  omega (arith, c.in-Took.ensures.bound, c.loop-at.invariant.1),
  λ told. c.in-Took.ensures.bytes told ∙ ap (λ (l : List ℕ). l ++ take c.in-Took.count (take (length c.args.bytes.now - c.loop-at.at) (drop c.loop-at.at c.args.bytes.now))) (c.loop-at.invariant.2 told)
      ∙ more_taken (g.C.Sink.taken c.args.sink.now) c.args.bytes.now c.loop-at.at c.in-Took.count c.loop-at.invariant.1,
)
