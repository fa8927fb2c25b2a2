use Rattle.std.proofs.Common.{ℕ, ◌+◌, ◌∙◌, ap, subst, sym, length, take, arith}
use Rattle.std.specs.Prelude.{List}
use Rattle.std.specs.Global.{Vec}
use Rattle.std.proofs.lemmas.List.{length-set}
use Rattle.cert_merge.specs.Endings.{AreClosings}
use Rattle.cert_merge.proofs.Places.{next_other, next_closed, past_closed, closes_none}
use Rattle.cert_merge.proofs.closings.closings.Goals.{in-Close+then-node-len, in-Close+else-node-len, in_default}
use Rattle.cert_merge.proofs.closings.closings.Goals as goal

pub loop-place-preserved : goal.loop-place-preserved
loop-place-preserved c =
    let es = c.args.history.now in
    let n = c.loop-place.place in
    let e = c.index-history-place.result in
    let ps : List ℕ = c.loop-place.places.items in
    let old = c.loop-place.invariant in
    elim c.match-entry.branch [
      | in-Close+then-node-len w ↦ record {
        long = ap (λ (v : Vec ℕ). length v.items) w.places-is ∙ length-set ps w.in-Close.node n ∙ old.long;
        closed = subst (λ (qs : List ℕ). AreClosings (take (n + 1) es) qs) (sym (ap (λ (v : Vec ℕ). v.items) w.places-is))
            (next_closed es n e c.loop-place-test.true c.index-history-place.is ps w.in-Close.node w.in-Close.proof w.in-Close.is old.closed);
      }
      | in-Close+else-node-len w ↦ record {
        long = ap (λ (v : Vec ℕ). length v.items) w.places-is ∙ old.long;
        closed = subst (λ (qs : List ℕ). AreClosings (take (n + 1) es) qs) (sym (ap (λ (v : Vec ℕ). v.items) w.places-is))
            (next_other es n e c.loop-place-test.true c.index-history-place.is ps (past_closed e.event w.in-Close.node w.in-Close.proof ps w.in-Close.is (omega (arith, w.if-node-len.false, w.len.ensures))) old.closed);
      }
      | in_default w ↦ record {
        long = ap (λ (v : Vec ℕ). length v.items) w.places-is ∙ old.long;
        closed = subst (λ (qs : List ℕ). AreClosings (take (n + 1) es) qs) (sym (ap (λ (v : Vec ℕ). v.items) w.places-is))
            (next_other es n e c.loop-place-test.true c.index-history-place.is ps (λ i _. closes_none e.event w.in_default.not-Close i) old.closed);
      }
    ]
