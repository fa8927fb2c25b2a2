use Rattle.std.specs.Prelude.{◌≡◌, ◌<◌, ℕ, zero, suc, Bool, false, IsTrue, List, [], ◌∷◌, length, map, refl}
use Rattle.std.proofs.Common.{sym, ap, ◌∙◌, subst, arith}
use Rattle.std.proofs.lemmas.Bool.{false≢true}
use Rattle.std.proofs.lemmas.List.{length-map}
use Rattle.node_events.specs.declared.event.Event.TheVariants.{Cut}
use Rattle.event_core.specs.States.{State}
use Rattle.problem.specs.Linear.{Multipliers}
use Rattle.expand.specs.declared.settlement.Settlement.TheVariants.{Separated}
use Rattle.expand.specs.Lemmas.Events.{cuts_legal, settlement_fits}
use Rattle.core_search.specs.Deciding.{IsSameButCuts}
use Rattle.core_search.specs.Visits.{Makes}
use Rattle.core_search.proofs.Pooling.{goes_nowhere}
use Rattle.core_search.proofs.Separating.{cuts_same, cuts_few, cuts_unspent}
use Rattle.core_search.proofs.Stepping.{on_either, same_cuts}
use Rattle.core_search.proofs.Visiting.{no_change}
use Rattle.core_search.proofs.deciding.add_cuts.Goals as goal

pub settle_node-requires-clause-some : goal.settle_node-requires-clause-some
settle_node-requires-clause-some g c =
    let n = some c.is_empty.result (length c.args.mults) c.if-is_empty.false c.is_empty.ensures.1 in
    omega (arith, n, length-map c.args.mults Cut)
  where
    some : (b : Bool) (n : ℕ) → b ≡ false → (n ≡ 0 → IsTrue b) → 0 < n
    some b zero e h = absurd (false≢true (sym e ∙ h refl))
    some b (suc n) e h = omega arith

pub settle_node-requires-clause-legal : goal.settle_node-requires-clause-legal
settle_node-requires-clause-legal g c = cuts_legal c.args.pool.now.state.state 0 c.args.mults c.requires.new

pub settle_node-requires-clause-fits : goal.settle_node-requires-clause-fits
settle_node-requires-clause-fits g c = settlement_fits c.args.pool.now.state.state [] c.args.node (Separated c.args.mults) c.requires.new

pub returns-then-is_empty-clause-goes_on : goal.returns-then-is_empty-clause-goes_on
returns-then-is_empty-clause-goes_on g c = goes_nowhere c.args.pool.now

pub returns-then-is_empty-clause-made : goal.returns-then-is_empty-clause-made
returns-then-is_empty-clause-made g c =
    let a = c.args.pool.now.state in
    subst (λ ms. Makes (map Cut ms) a a) (sym (none c.args.mults (c.is_empty.ensures.0 c.if-is_empty.true))) (no_change a)
  where
    none : (ms : List Multipliers) → length ms ≡ 0 → ms ≡ []
    none [] e = refl
    none (m ∷ ms) e = absurd (omega (arith, e))

pub returns-clause-unspent : goal.returns-clause-unspent
returns-clause-unspent g c = λ e.
    let a = c.args.pool.now in
    false≢true (sym (cuts_unspent a.budget (length a.state.state.nodes) c.args.mults) ∙ c.settle_node.ensures.spent e)

pub returns-clause-same : goal.returns-clause-same
returns-clause-same g c =
    let s = c.args.pool.now.state.state in
    let t = c.settle_node.new.pool.state.state in
    on_either c.settle_node.result
    (λ h. subst (λ (u : State). IsSameButCuts s u) (sym h.state) (cuts_same s c.args.mults))
    (λ h. same_cuts s t h.state)
    c.settle_node.ensures.made c.settle_node.ensures.unmade

pub returns-clause-few : goal.returns-clause-few
returns-clause-few g c =
    let s = c.args.pool.now.state.state in
    let t = c.settle_node.new.pool.state.state in
    on_either c.settle_node.result
    (λ h. let n = ap (λ (u : State). length u.cuts) h.state in omega (arith, n, cuts_few s c.args.mults))
    (λ h. let n = ap (λ (u : State). length u.cuts) h.state in omega (arith, n))
    c.settle_node.ensures.made c.settle_node.ensures.unmade
