-- Histories that go on with events of worker 0.
use Rattle.std.specs.Prelude.{◌≡◌, true, List, [], ◌∷◌, ◌++◌, All, Some, refl}
use Rattle.std.proofs.Common.{sym, ap, ◌∙◌, subst, append_assoc}
use Rattle.std.proofs.lemmas.List.{append-nil}
use Rattle.std.proofs.lemmas.List.Elements.{All-nil, All-cons, All-head, All-tail, All-append}
use Rattle.node_events.specs.declared.event.Event.{Event}
use Rattle.node_events.specs.declared.event.Event.TheVariants.{Claim, Release, Cut, Offer, Split, Close}
use Rattle.event_core.specs.declared.entry.Entry.{Entry}
use Rattle.event_core.specs.States.{State}
use Rattle.event_core.specs.After.{after}
use Rattle.event_core.specs.Histories.{is_journaled, state_from}
use Rattle.event_core.specs.Rooms.{Recorded}
use Rattle.event_core.specs.Lemmas.Running.{state_from-append, from-problem}
use Rattle.expand.specs.Laws.{entries_of}
use Rattle.node_pool.specs.Applied.{AppliesAll}
use Rattle.core_search.specs.Entries.{IsOfWorker, IsGreatestIfClaim, AreGreatestClaims, ExtendsHistory}

abbrev entry : Event → Entry
entry e = record { worker = Some 0; event = e }

-- no event
pub stays : (old new : Recorded) → new.state ≡ old.state → new.history ≡ old.history → ExtendsHistory old new
stays old new s h = record { entries = []; history = h ∙ sym (append-nil old.history); state = s; of_worker = All-nil IsOfWorker; greatest = tt }

-- one event
pub one_event : (old new : Recorded) (e : Event) → new.state ≡ after old.state (Some 0) e → new.history ≡ old.history ++ entry e ∷ [] → IsGreatestIfClaim old.state e → ExtendsHistory old new
one_event old new e s h g = record {
  entries = entry e ∷ [];
  history = h;
  state = s;
  of_worker = All-cons IsOfWorker (entry e) [] refl (All-nil IsOfWorker);
  greatest = (g, tt);
}

-- events that a journal has: none is a claim
all_of_worker : (es : List Event) → All IsOfWorker (entries_of 0 es)
all_of_worker [] = All-nil IsOfWorker
all_of_worker (e ∷ es) = All-cons IsOfWorker (entry e) (entries_of 0 es) refl (all_of_worker es)

no_claim : (s : State) (e : Event) → is_journaled e ≡ true → IsGreatestIfClaim s e
no_claim s (Claim i) j = cc
no_claim s (Release i) j = tt
no_claim s (Cut mult) j = tt
no_claim s (Offer x) j = tt
no_claim s (Split i j b r) h = tt
no_claim s (Close i proof) j = tt

no_claims : (s : State) (es : List Event) → All (λ e. is_journaled e ≡ true) es → AreGreatestClaims s (entries_of 0 es)
no_claims s [] j = tt
no_claims s (e ∷ es) j = (
  no_claim s e (All-head (λ (f : Event). is_journaled f ≡ true) e es j),
  no_claims (after s (Some 0) e) es (All-tail (λ (f : Event). is_journaled f ≡ true) e es j),
)

pub journaled_events : (old new : Recorded) (es : List Event) → All (λ e. is_journaled e ≡ true) es → AppliesAll old (Some 0) es new → ExtendsHistory old new
journaled_events old new es j h = record {
  entries = entries_of 0 es;
  history = h.history;
  state = h.state;
  of_worker = all_of_worker es;
  greatest = no_claims old.state es j;
}

claims_on : (s : State) (es fs : List Entry) → AreGreatestClaims s es → AreGreatestClaims (state_from s es) fs → AreGreatestClaims s (es ++ fs)
claims_on s [] fs h k = k
claims_on s (e ∷ es) fs h k = (h.0, claims_on (after s e.worker e.event) es fs h.1 k)

-- one after the other
pub joined : (a b c : Recorded) → ExtendsHistory a b → ExtendsHistory b c → ExtendsHistory a c
joined a b c h k = record {
  entries = h.entries ++ k.entries;
  history = k.history ∙ ap (λ es. es ++ k.entries) h.history ∙ append_assoc a.history h.entries k.entries;
  state = k.state ∙ ap (λ s. state_from s k.entries) h.state ∙ sym (state_from-append a.state h.entries k.entries);
  of_worker = All-append IsOfWorker h.entries k.entries h.of_worker k.of_worker;
  greatest = claims_on a.state h.entries k.entries h.greatest (subst (λ s. AreGreatestClaims s k.entries) h.state k.greatest);
}

-- the problem stays
pub same_problem : (a b : Recorded) → ExtendsHistory a b → b.state.problem ≡ a.state.problem
same_problem a b h = ap (λ (s : State). s.problem) h.state ∙ from-problem a.state h.entries
