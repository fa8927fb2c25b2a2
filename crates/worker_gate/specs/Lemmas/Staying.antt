-- Lemmas: what a worker has to know before it asks, while others make entries.
use Rattle.std.specs.Prelude.{◌≡◌, ◌<◌, ◌≤◌, ℕ, true, false, List, [], ◌∷◌, ◌++◌, length, Contains}
use Rattle.std.proofs.Common.{sym, subst, arith}
use Rattle.event_core.specs.declared.entry.Entry.{Entry}
use Rattle.event_core.specs.States.{State}
use Rattle.event_core.specs.Holds.{is_holding, holds_node}
use Rattle.event_core.specs.After.{after}
use Rattle.event_core.specs.Histories.{state_from, AreLegalFrom}
use Rattle.event_core.specs.Rooms.{Recorded}
use Rattle.event_core.specs.Sound.{IsSound}
use Rattle.event_core.specs.Lemmas.Running.{legal_prefix, legal_back}
use Rattle.event_core.specs.Lemmas.Ended.{left_within, leaves-length}
use Rattle.event_core.specs.Lemmas.Sounding.{IsKept, kept_after, kept_from, kept_sound, legal_kept}
use Rattle.turn_lock.specs.Lists.{NoneOf}
use Rattle.turn_lock.specs.Lemmas.Names.{head_in, tail_in}
use Rattle.expand.specs.declared.finding.Finding.{Finding}
use Rattle.worker_gate.specs.declared.entry.PoolEntry.{PoolEntry}
use Rattle.worker_gate.specs.declared.entry.PoolEntry.TheVariants.{Opened, Happened, Halted}
use Rattle.worker_gate.specs.Entries.{name_of, is_opened, opening_in, events_in, state_in}
use Rattle.worker_gate.specs.Legal.{IsRecorded, IsLegalList}
use Rattle.worker_gate.specs.Laws.{KeepsConditions, ConditionsStay}
use Rattle.worker_gate.specs.Lemmas.Lists.{events-append, opening-append, state-append}
use Rattle.worker_gate.specs.Lemmas.Holding.{IsOther, none_after, node_after, held_open}
use Rattle.worker_gate.specs.Lemmas.Findings.{HoldsAt, found_after}
use Rattle.event_core.specs.Lemmas.Frames.{cut_count_from}

-- ---- others' events
abbrev pub AreOthers : ℕ → List Entry → Type 0
AreOthers w [] = Unit {0}
AreOthers w (e ∷ es) = IsOther w e.worker × AreOthers w es

none_behind : (w : ℕ) (x : PoolEntry) (xs : List PoolEntry) → NoneOf name_of (w ∷ []) (x ∷ xs) → NoneOf name_of (w ∷ []) xs
none_behind w x xs h y n c = h y n (tail_in x xs y c)

others_in : (w : ℕ) (behind : List PoolEntry) → NoneOf name_of (w ∷ []) behind → AreOthers w (events_in behind)
others_in w [] h = tt
others_in w (Opened o ∷ xs) h = others_in w xs (none_behind w (Opened o) xs h)
others_in w (Happened e ∷ xs) h = (
  (λ n is same. h (Happened e) n (head_in (Happened e) xs) is (subst (λ k. Contains (w ∷ []) k) (sym same) (head_in w []))),
  others_in w xs (none_behind w (Happened e) xs h),
)
others_in w (Halted c ∷ xs) h = others_in w xs (none_behind w (Halted c) xs h)

-- ---- one event after another
module _ (w : ℕ) where
  none_from : (s : State) (es : List Entry) → AreOthers w es → is_holding s w ≡ false → is_holding (state_from s es) w ≡ false
  none_from s [] o h = h
  none_from s (e ∷ es) o h = none_from (after s e.worker e.event) es o.1 (none_after w s e.worker e.event o.0 h)

  node_from : (node : ℕ) (s : State) (es : List Entry) → IsKept s → AreLegalFrom s es → AreOthers w es → holds_node s w node ≡ true → holds_node (state_from s es) w node ≡ true
  node_from node s [] k l o h = h
  node_from node s (e ∷ es) k l o h = node_from node (after s e.worker e.event) es (kept_after s e.worker e.event k l.0) l.1 o.1 (node_after w node s e.worker e.event k.apart l.0 o.0 h)

  there : (node : ℕ) (s : State) → IsKept s → holds_node s w node ≡ true → node < length s.nodes
  there node s k h = let l = left_within s.ended node (held_open w node s.ended s.holds k.holds_open h) in omega (arith, l, leaves-length s.ended s.nodes k.leaves)

  found_from : (node : ℕ) (f : Finding) (s : State) (es : List Entry) → IsKept s → AreLegalFrom s es → AreOthers w es → holds_node s w node ≡ true → HoldsAt node f s → HoldsAt node f (state_from s es)
  found_from node f s [] k l o h g = g
  found_from node f s (e ∷ es) k l o h g =
      found_from node f (after s e.worker e.event) es (kept_after s e.worker e.event k l.0) l.1 o.1 (node_after w node s e.worker e.event k.apart l.0 o.0 h)
      (found_after node f s e.worker e.event k (there node s k h) l.0 g)

-- ---- lists
pub kept_recorded : (c : Recorded) → IsRecorded c → IsKept c.state
kept_recorded c h = subst IsKept (sym h.state) (legal_kept c.state.problem c.history h.legal)

-- the state of a legal list is kept
pub kept_in : (list : List PoolEntry) → IsLegalList list → IsKept (state_in list)
kept_in list h = kept_from (opening_in list).state.state (events_in list) (kept_recorded (opening_in list).state h.recorded) h.events

pub sound_in : (list : List PoolEntry) → IsLegalList list → IsSound (state_in list)
sound_in list h = kept_sound (state_in list) (kept_in list h)

module _ (xs ys : List PoolEntry) (opened : is_opened xs ≡ true) (legal : IsLegalList (xs ++ ys)) where
  all_events : AreLegalFrom (opening_in xs).state.state (events_in xs ++ events_in ys)
  all_events =
      subst (λ (es : List Entry). AreLegalFrom (opening_in xs).state.state es) (events-append xs ys)
      (subst (λ o. AreLegalFrom o.state.state (events_in (xs ++ ys))) (opening-append xs ys opened) legal.events)

  -- the first entries of a legal list lead to a kept state, and the others are legal there
  pub kept_before : IsKept (state_in xs)
  kept_before =
      kept_from (opening_in xs).state.state (events_in xs)
      (kept_recorded (opening_in xs).state (subst (λ o. IsRecorded o.state) (opening-append xs ys opened) legal.recorded))
      (legal_prefix (opening_in xs).state.state (events_in xs) (events_in ys) all_events)

  pub legal_behind : AreLegalFrom (state_in xs) (events_in ys)
  legal_behind = legal_back (opening_in xs).state.state (events_in xs) (events_in ys) all_events

module _ (w : ℕ) (old behind : List PoolEntry) (opened : is_opened old ≡ true) (legal : IsLegalList (old ++ behind)) (others : NoneOf name_of (w ∷ []) behind) where
  o : AreOthers w (events_in behind)
  o = others_in w behind others

  k : IsKept (state_in old)
  k = kept_before old behind opened legal

  l : AreLegalFrom (state_in old) (events_in behind)
  l = legal_behind old behind opened legal

  leads : state_from (state_in old) (events_in behind) ≡ state_in (old ++ behind)
  leads = sym (state-append old behind opened)

  stays_behind : KeepsConditions w old (old ++ behind)
  stays_behind = record {
    none = λ h. subst (λ (s : State). is_holding s w ≡ false) leads (none_from w (state_in old) (events_in behind) o h);
    node = λ node h. subst (λ (s : State). holds_node s w node ≡ true) leads (node_from w node (state_in old) (events_in behind) k l o h);
    cuts = λ n h. subst (λ (s : State). n ≤ length s.cuts) leads (omega (arith, h, cut_count_from (state_in old) (events_in behind)));
    found = λ node f h g. subst (λ (s : State). HoldsAt node f s) leads (found_from w node f (state_in old) (events_in behind) k l o h g);
  }

pub conditions_stay : ConditionsStay
conditions_stay w old at opened legal goes =
    subst (λ (l : List PoolEntry). KeepsConditions w old l) (sym goes.1) (stays_behind w old goes.0 opened (subst IsLegalList goes.1 legal) goes.2)
