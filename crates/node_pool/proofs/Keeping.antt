-- What a pool keeps where its state, its list or its halt changes, over plain values.
use Rattle.std.specs.Prelude.{◌≡◌, ◌<◌, ◌≤◌, max, ℕ, Bool, true, false, cond, List, [], ◌∷◌, ◌++◌, length, take, Option, Some, None, is_some, option_to_list, refl}
use Rattle.std.proofs.Common.{sym, ap, ◌∙◌, subst}
use Rattle.std.proofs.lemmas.List.{append-nil}
use Rattle.outside.specs.declared.moment.Moment.{Moment}
use Rattle.node_events.specs.declared.event.Event.{Event}
use Rattle.event_core.specs.declared.entry.Entry.{Entry}
use Rattle.event_core.specs.States.{State}
use Rattle.event_core.specs.After.{after, after_claim}
use Rattle.event_core.specs.Histories.{is_journaled, journaled, entries_by, state_from, AreLegalFrom}
use Rattle.event_core.specs.Laws.{unheld}
use Rattle.event_core.specs.Lemmas.Frames.{unheld_other}
use Rattle.node_journal.specs.Records.{records}
use Rattle.node_pool.specs.declared.halt.Halt.{Halt}
use Rattle.node_pool.specs.declared.halt.Halt.TheVariants as halt
use Rattle.node_pool.specs.declared.answers.Claim.{Claim}
use Rattle.node_pool.specs.Answers.{IsClaim}
use Rattle.node_pool.specs.Free.{AreFreeNodes}
use Rattle.node_pool.specs.Halting.{IsHalt, IsNext, IsUnfailed, passes_budget}
use Rattle.node_pool.specs.Payloads.{events_given, count_held, LeavesBeginnings}
use Rattle.node_pool.proofs.FreeNodes.{claimed_nodes}
use Rattle.node_pool.proofs.Spelling.{journaled-append}

-- ---- halts
-- states with the same nodes that differ in holds
pub halts_moved : (faults budget count : ℕ) (fault : Option ℕ) (s t : State) (h : Option Halt) → unheld t ≡ unheld s → IsHalt faults budget count fault s h → IsHalt faults budget count fault t h
halts_moved faults budget count fault s t None e i = i
halts_moved faults budget count fault s t (Some halt.Memory) e i = i
halts_moved faults budget count fault s t (Some (halt.Disk n fs)) e i = record {
  failed = i.failed;
  counted = i.counted;
  rose = i.rose;
  next = subst (λ (u : State). AreLegalFrom u (entries_by None fs)) (sym e) i.next;
  read = i.read;
  few = subst (λ (u : State). length (state_from u (entries_by None fs)).nodes ≤ max budget (length u.nodes)) (sym e) i.few;
}
halts_moved faults budget count fault s t (Some (halt.Budget f)) e i = record {
  sound = i.sound;
  next = subst (λ (u : State). IsNext u f) (sym e) i.next;
  over = ap (λ (u : State). passes_budget budget (length u.nodes) f) e ∙ i.over;
}

-- ---- claims
pub claim_open : (h : Option Halt) (s : State) (a : Claim) → is_some h ≡ false → IsClaim None s a → IsClaim h s a
claim_open (Some h) s a e i = cc
claim_open None s a e i = i

-- one whose last node is taken
pub last_taken : (s : State) (before rest : List ℕ) (o : Option ℕ) (n : ℕ) → before ≡ rest ++ option_to_list o → o ≡ Some n → AreFreeNodes s before → AreFreeNodes s (rest ++ n ∷ [])
last_taken s before rest o n e f h = subst (AreFreeNodes s) (e ∙ ap (λ p. rest ++ option_to_list p) f) h

pub claimed_listed : (s t : State) (w n : ℕ) (ns : List ℕ) → t ≡ after_claim s (Some w) n → AreFreeNodes s (ns ++ n ∷ []) → AreFreeNodes t ns
claimed_listed s t w n ns e h = subst (λ (u : State). AreFreeNodes u ns) (sym e) (claimed_nodes s w n ns h)

-- ---- what was given to the journal
pub given_same : (es fs : List Entry) (h : Option Halt) → journaled fs ≡ journaled es → events_given fs h ≡ events_given es h
given_same es fs None e = e
given_same es fs (Some halt.Memory) e = e
given_same es fs (Some (halt.Budget f)) e = e
given_same es fs (Some (halt.Disk n gs)) e = ap (λ (l : List Entry). l ++ entries_by None gs) e

pub leaves_given : (from : ℕ) (past : List Moment) (now : Moment) (es fs : List Entry) (h k : Option Halt) → journaled fs ≡ journaled es → events_given fs k ≡ events_given es h → LeavesBeginnings from past now es h
    → LeavesBeginnings from past now fs k
leaves_given from past now es fs h k j e all i m c ge at is =
    let b = all i m c ge at is in
    record {
      model_first = b.model_first;
      events = b.events ∙ ap (λ (l : List Entry). Some (take (count_held (records c)) l)) (sym e);
      whole = λ more. b.whole (subst (λ (l : List Entry). length l < count_held (records c)) j more) ∙ ap (λ (l : List Entry). length l) (sym e);
    }

-- ---- a claim or a release
module _ (s t : State) (es fs : List Entry) (w : Option ℕ) (e : Event) (other : is_journaled e ≡ false) (state : t ≡ after s w e) (history : fs ≡ es ++ record { worker = w; event = e } ∷ []) where
  pub same_journaled : journaled fs ≡ journaled es
  same_journaled = ap (λ (l : List Entry). journaled l) history ∙ journaled-append es (record { worker = w; event = e } ∷ []) ∙ ap (λ (l : List Entry). journaled es ++ l) (none_of (is_journaled e) other) ∙ append-nil (journaled es)
    where
      unclaimed : Entry
      unclaimed = record { worker = None; event = e }

      none_of : (b : Bool) → b ≡ false → cond b (unclaimed ∷ []) [] ≡ []
      none_of true h = cc
      none_of false h = refl

  pub same_leaves : (from : ℕ) (past : List Moment) (now : Moment) (h : Option Halt) → LeavesBeginnings from past now es h → LeavesBeginnings from past now fs h
  same_leaves from past now h all = leaves_given from past now es fs h h same_journaled (given_same es fs h same_journaled) all

pub halts_other : (faults budget count : ℕ) (fault : Option ℕ) (s t : State) (h : Option Halt) (w : Option ℕ) (e : Event) → is_journaled e ≡ false → t ≡ after s w e → IsHalt faults budget count fault s h
    → IsHalt faults budget count fault t h
halts_other faults budget count fault s t h w e other state i = halts_moved faults budget count fault s t h (ap unheld state ∙ unheld_other s w e other) i

-- ---- the halt
pub halts_same : (faults budget count : ℕ) (fault : Option ℕ) (s t : State) (h : Option Halt) → t ≡ s → IsHalt faults budget count fault s h → IsHalt faults budget count fault t h
halts_same faults budget count fault s t h e i = halts_moved faults budget count fault s t h (ap unheld e) i

pub none_if : (h : Option Halt) → is_some h ≡ false → h ≡ None
none_if None e = refl
none_if (Some h) e = cc

pub unfailed : (faults budget count : ℕ) (fault : Option ℕ) (s : State) (h : Option Halt) → h ≡ None → IsHalt faults budget count fault s h → IsUnfailed faults count fault
unfailed faults budget count fault s h e i = subst (λ (k : Option Halt). IsHalt faults budget count fault s k) e i

pub halts_none : (faults budget count : ℕ) (fault : Option ℕ) (s : State) (h : Option Halt) → h ≡ None → IsUnfailed faults count fault → IsHalt faults budget count fault s h
halts_none faults budget count fault s h e i = subst (λ (k : Option Halt). IsHalt faults budget count fault s k) (sym e) i
