-- What a pool's journal stands for, after a halt by the disk too, over plain values.
use Rattle.std.specs.Prelude.{◌≡◌, ℕ, List, Option, Some, None}
use Rattle.std.proofs.Common.{sym, ap, ◌∙◌, refl, inl, inr, ⊎_elim}
use Rattle.std.proofs.Props.{props}
use Rattle.std.proofs.Math.Logic.{∥∥₁_elim, ∥∥₁_map}
use Rattle.event_core.specs.declared.entry.Entry.{Entry}
use Rattle.event_core.specs.States.{State}
use Rattle.event_core.specs.Histories.{journaled}
use Rattle.node_pool.specs.declared.halt.Halt.{Halt}
use Rattle.node_pool.specs.declared.halt.Halt.TheVariants as halt
use Rattle.node_pool.specs.Halting.{IsHalt}
use Rattle.node_pool.specs.Payloads.{events_given, IsJournalOf, IsJournalAfter}

-- ---- where no more was given than the history
one_history : (ps : List (List ℕ)) (es : List Entry) → IsProp (IsJournalOf ps es)
one_history ps es = hlevel props

journal_given : (ps : List (List ℕ)) (es : List Entry) (h : Option Halt) → events_given es h ≡ journaled es → IsJournalAfter ps es h → IsJournalOf ps es
journal_given ps es h same after = ∥∥₁_elim after (one_history ps es) (⊎_elim (λ e. e) (λ e. e ∙ ap Some same))

-- while the journal is sound
module _ (faults budget count : ℕ) (fault : Option ℕ) (s : State) (es : List Entry) (sound : fault ≡ None) where
  given_sound : (h : Option Halt) → IsHalt faults budget count fault s h → events_given es h ≡ journaled es
  given_sound None i = refl
  given_sound (Some halt.Memory) i = refl
  given_sound (Some (halt.Disk n fs)) i = absurd (cc (i.failed, sound))
  given_sound (Some (halt.Budget e)) i = refl

  pub journal_sound : (ps : List (List ℕ)) (h : Option Halt) → IsHalt faults budget count fault s h → IsJournalAfter ps es h → IsJournalOf ps es
  journal_sound ps h i after = journal_given ps es h (given_sound h i) after

-- ---- after a call
pub after_sound : (ps : List (List ℕ)) (es : List Entry) (h : Option Halt) → IsJournalOf ps es → IsJournalAfter ps es h
after_sound ps es h is = ∣ inl is ∣₁

-- which gave the journal nothing
pub after_given : (ps : List (List ℕ)) (es fs : List Entry) (h k : Option Halt) → journaled fs ≡ journaled es → events_given fs k ≡ events_given es h → IsJournalAfter ps es h → IsJournalAfter ps fs k
after_given ps es fs h k j e after = ∥∥₁_map after (⊎_elim (λ a. inl (a ∙ ap Some (sym j))) (λ a. inr (a ∙ ap Some (sym e))))
