-- What a worker knows once its gate told it of its node.
use Rattle.std.specs.Prelude.{◌≡◌, ◌≤◌, ◌+◌, ℕ, true, List, [], ◌++◌, length, drop, Ok, Err}
use Rattle.std.specs.declared.alloc.AllocError.{AllocError}
use Rattle.std.proofs.Common.{sym, ap, ◌∙◌, subst}
use Rattle.std.proofs.lemmas.List.{append-nil}
use Rattle.problem.specs.Limited.{IsLimited}
use Rattle.problem.specs.Problem.{Problem}
use Rattle.problem.specs.Limits.{most_cuts}
use Rattle.derivation_book.specs.declared.cut.Cut.{Cut}
use Rattle.derivation_book.specs.Cuts.{AreCutsAfter}
use Rattle.event_core.specs.States.{State}
use Rattle.event_core.specs.Sound.{IsSound}
use Rattle.worker_gate.specs.declared.entry.PoolEntry.{PoolEntry}
use Rattle.worker_gate.specs.declared.glance.Glance.{Glance}
use Rattle.worker_gate.specs.Calls.{Glances, IsGlanceOf}
use Rattle.worker_gate.specs.Conditions.{HoldsNode}
use Rattle.worker_gate.specs.Entries.{is_opened, state_in}
use Rattle.worker_gate.specs.Gates.{Stepped}
use Rattle.worker_gate.specs.Lemmas.Staying.{sound_in}
use Rattle.crew.specs.declared.node_view.NodeView.{NodeView}
use Rattle.crew.specs.declared.worker.Worker.{Worker}
use Rattle.crew.specs.Lists.{IsHolding}
use Rattle.crew.specs.Workers.{IsViewOf, IsNodeOf, IsPrepared, HasFirst, Knows}
use Rattle.crew.proofs.Calling.{same_if, still_holds}
use Rattle.crew.proofs.Fronts.{front_knows}
use Rattle.crew.proofs.Looking.{told_rest, rest_after, rest_few, node_of}

-- a glance that failed
pub unseen : (w node known : ℕ) (e : AllocError) (old new : List PoolEntry) → is_opened old ≡ true → HoldsNode w node old → Stepped w old new (Glances node known (Err e)) → IsHolding w node old new
unseen w node known e old new opened holds step = still_holds w old new (Glances node known (Err e)) step node opened step.makes.does holds

module _ (p : Problem) (k : Worker) (w node known : ℕ) (e : known ≡ length k.book.cuts) (g : Glance) (old new : List PoolEntry) (opened : is_opened old ≡ true)
    (holds : HoldsNode w node old) (knows : Knows p k (state_in old)) (step : Stepped w old new (Glances node known (Ok g))) where
  abbrev now : State
  now = state_in new

  pub seen_holds : IsHolding w node old new
  seen_holds = still_holds w old new (Glances node known (Ok g)) step node opened step.makes.does.1 holds

  told : IsGlanceOf now node known g
  told = subst (λ (l : List PoolEntry). IsGlanceOf (state_in l) node known g) (sym (same_if w old new (Glances node known (Ok g)) step step.makes.does.1)) step.makes.does.0

  known_now : Knows p k now
  known_now = front_knows old new seen_holds.front opened p k knows

  sound : IsSound now
  sound = sound_in new seen_holds.legal

  cuts_are : g.cuts.items ≡ known_now.first.0
  cuts_are = told.cuts ∙ (ap (λ n. drop n now.cuts) e ∙ told_rest k.book.cuts now known_now.first)

  pub seen_cuts : AreCutsAfter p k.book.cuts g.cuts.items
  seen_cuts =
      subst (λ (cs : List Cut). AreCutsAfter p k.book.cuts cs) (sym cuts_are)
      (subst (λ (q : Problem). AreCutsAfter q k.book.cuts known_now.first.0) known_now.problem (rest_after k.book.cuts now known_now.first sound.cuts))

  pub seen_few : length k.book.cuts + length g.cuts.items ≤ most_cuts
  seen_few = subst (λ (cs : List Cut). length k.book.cuts + length cs ≤ most_cuts) (sym cuts_are) (rest_few k.book.cuts now known_now.first sound.few_cuts)

  abbrev view : NodeView
  view = record { area = g.area; cutoff = g.cutoff; branch = g.branch }

  pub seen_view : IsViewOf now node view
  seen_view = record { area = told.area; cutoff = told.cutoff; branch = told.branch }

  pub seen_node : IsLimited p → IsNodeOf p view
  seen_node limited =
      subst (λ (q : Problem). IsNodeOf q view) known_now.problem (node_of now node view sound.tree (subst IsLimited (sym known_now.problem) limited) seen_view)

  module _ (l : Worker) (book : l.book.cuts ≡ k.book.cuts ++ g.cuts.items) where
    pub seen_all : l.book.cuts ≡ now.cuts
    seen_all = book ∙ (ap (λ (cs : List Cut). k.book.cuts ++ cs) cuts_are ∙ sym known_now.first.1)

    pub seen_knows : IsPrepared p l → Knows p l now
    seen_knows prepared = record {
      problem = known_now.problem;
      first = subst (λ (cs : List Cut). HasFirst cs now) (sym seen_all) ([], sym (append-nil now.cuts));
      prepared = prepared;
    }
