-- Events of the worker, one after another, and the visits that they make up.
use Rattle.std.specs.Prelude.{◌≡◌, ℕ, List, [], ◌∷◌, ◌++◌, map, All, Some, refl}
use Rattle.std.proofs.Common.{sym, ap, ◌∙◌, append_assoc}
use Rattle.std.proofs.lemmas.List.{append-nil, map-append}
use Rattle.std.proofs.lemmas.List.Elements.{All-nil, All-cons, All-append}
use Rattle.problem.specs.Linear.{Multipliers}
use Rattle.node_events.specs.declared.event.Event.{Event}
use Rattle.node_events.specs.declared.event.Event.TheVariants.{Cut}
use Rattle.event_core.specs.declared.entry.Entry.{Entry}
use Rattle.event_core.specs.States.{State}
use Rattle.event_core.specs.Histories.{state_from}
use Rattle.event_core.specs.Rooms.{Recorded}
use Rattle.event_core.specs.Lemmas.Running.{state_from-append}
use Rattle.expand.specs.Laws.{entries_of}
use Rattle.node_pool.specs.Applied.{Applies, AppliesAll, AppliesNothing}
use Rattle.pseudo_cost.specs.declared.column_gains.ColumnGains.{ColumnGains}
use Rattle.expand.specs.declared.settlement.Settlement.{Settlement}
use Rattle.core_search.specs.declared.open_node.OpenNode.{OpenNode}
use Rattle.core_search.specs.Visits.{Makes, EndsNone, EndsNoNode, IsDecision, at_once, with_cuts}

-- ---- events
abbrev entry : Event → Entry
entry e = record { worker = Some 0; event = e }

pub nothing : (a b : Recorded) → AppliesNothing a b → Makes [] a b
nothing a b h = record { history = h.history ∙ sym (append-nil a.history); state = h.state }

pub no_change : (a : Recorded) → Makes [] a a
no_change a = record { history = sym (append-nil a.history); state = refl }

pub several : (a b : Recorded) (es : List Event) → AppliesAll a (Some 0) es b → Makes es a b
several a b es h = record { history = h.history; state = h.state }

pub one : (a b : Recorded) (e : Event) → Applies a (Some 0) e b → Makes (e ∷ []) a b
one a b e h = several a b (e ∷ []) h

pub both : (a b c : Recorded) (es fs : List Event) → Makes es a b → Makes fs b c → Makes (es ++ fs) a c
both a b c es fs h k = record {
  history =
      k.history ∙ ap (λ (l : List Entry). l ++ entries_of 0 fs) h.history ∙ append_assoc a.history (entries_of 0 es) (entries_of 0 fs)
      ∙ ap (λ (l : List Entry). a.history ++ l) (sym split);
  state =
      k.state ∙ ap (λ (s : State). state_from s (entries_of 0 fs)) h.state ∙ sym (state_from-append a.state (entries_of 0 es) (entries_of 0 fs))
      ∙ ap (state_from a.state) (sym split);
}
  where
    split : entries_of 0 (es ++ fs) ≡ entries_of 0 es ++ entries_of 0 fs
    split = map-append entry es fs

-- ---- events that end no node
pub unended : (a b : Recorded) (es : List Event) → All EndsNone es → Makes es a b → EndsNoNode a b
unended a b es h k = record { events = es; none = h; makes = k }

pub unended_stays : (a b : Recorded) → Makes [] a b → EndsNoNode a b
unended_stays a b h = unended a b [] (All-nil EndsNone) h

pub unended_one : (a b : Recorded) (e : Event) → EndsNone e → Makes (e ∷ []) a b → EndsNoNode a b
unended_one a b e h k = unended a b (e ∷ []) (All-cons EndsNone e [] h (All-nil EndsNone)) k

pub unended_both : (a b c : Recorded) → EndsNoNode a b → EndsNoNode b c → EndsNoNode a c
unended_both a b c h k = unended a c (h.events ++ k.events) (All-append EndsNone h.events k.events h.none k.none) (both a b c h.events k.events h.makes k.makes)

pub cuts_end_none : (mults : List Multipliers) → All EndsNone (map Cut mults)
cuts_end_none [] = All-nil EndsNone
cuts_end_none (m ∷ ms) = All-cons EndsNone (Cut m) (map Cut ms) tt (cuts_end_none ms)

pub unended_cuts : (a b : Recorded) (mults : List Multipliers) → Makes (map Cut mults) a b → EndsNoNode a b
unended_cuts a b mults h = unended a b (map Cut mults) (cuts_end_none mults) h

-- ---- a node is decided
pub decision_unended : (limit : ℕ) (o : OpenNode) (old new : Recorded) (before after : List ColumnGains) (g : Settlement) → IsDecision limit o old new before after g → EndsNoNode old new
decision_unended limit o old new before after g (at_once look makes) = unended_stays old new makes
decision_unended limit o old new before after g (with_cuts mults middle look makes again) = unended_cuts old new mults makes
