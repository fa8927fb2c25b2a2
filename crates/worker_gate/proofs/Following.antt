-- How a pool goes on by events.
use Rattle.std.specs.Prelude.{◌≡◌, ℕ, true, List, [], ◌∷◌, ◌++◌, Some, slice_get}
use Rattle.std.proofs.Common.{sym, ap, ◌∙◌, subst}
use Rattle.std.proofs.lemmas.List.{append-nil}
use Rattle.outside.specs.declared.disk.Disk.{Ghosts}
use Rattle.node_events.specs.declared.event.Event.{Event}
use Rattle.event_core.specs.declared.entry.Entry.{Entry}
use Rattle.event_core.specs.Histories.{state_from}
use Rattle.node_journal.specs.History.{ExtendsMoments}
use Rattle.node_journal.specs.declared.journal.Journal.{Journal}
use Rattle.node_journal.specs.Whole.{payloads_in}
use Rattle.node_pool.specs.Payloads.{model_in}
use Rattle.node_pool.specs.Applied.{AppliesAll, AppliesNothing}
use Rattle.node_pool.specs.declared.pool.Pool.{Pool}
use Rattle.expand.specs.Laws.{entries_of}
use Rattle.worker_gate.specs.Kins.{moments_of, model_of}

module _ {D : Type 0} {d : Ghosts D} where
  -- no moment of the disk went away, and what the pool was made with stays
  pub record Lasts (a b : Pool D d) : Type 0 where
    pub moments : d.tells ≡ true → ExtendsMoments (moments_of a) (moments_of b)
    pub model : d.tells ≡ true → model_of b ≡ model_of a
    pub opened : b.journal.opened ≡ a.journal.opened
    pub budget : b.budget ≡ a.budget
    pub faults : b.faults ≡ a.faults

  -- these events were applied
  pub record Follows (a b : Pool D d) (es : List Entry) : Type 0 where
    pub history : b.state.history ≡ a.state.history ++ es
    pub state : b.state.state ≡ state_from a.state.state es
    pub lasts : Lasts a b

  pub lasts_itself : (a b : Pool D d) → b.journal ≡ a.journal → b.budget ≡ a.budget → b.faults ≡ a.faults → Lasts a b
  lasts_itself a b e budget faults = record {
    moments = λ told i m q. subst (λ (j : Journal D d). slice_get (d.past j.disk ++ d.now j.disk ∷ []) i ≡ Some m) (sym e) q;
    model = λ told. ap (λ (j : Journal D d). model_in (payloads_in (d.now j.disk))) e;
    opened = ap (λ (j : Journal D d). j.opened) e;
    budget = budget;
    faults = faults;
  }

  pub follows_nothing : (a b : Pool D d) → AppliesNothing a.state b.state → Lasts a b → Follows a b []
  follows_nothing a b s l = record { history = s.history ∙ sym (append-nil a.state.history); state = s.state; lasts = l }

  pub follows_all : (a b : Pool D d) (w : ℕ) (es : List Event) → AppliesAll a.state (Some w) es b.state → Lasts a b → Follows a b (entries_of w es)
  follows_all a b w es s l = record { history = s.history; state = s.state; lasts = l }
