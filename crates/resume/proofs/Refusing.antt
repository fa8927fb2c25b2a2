-- Which refusal comes of which.
use Rattle.std.specs.Prelude.{◌≡◌, ℕ, ◌<◌, List, length, refl}
use Rattle.std.proofs.Common.{sym, subst, inl, inr}
use Rattle.node_journal.specs.Records.{Records, Intact}
use Rattle.node_journal.specs.declared.fault.JournalFault.{JournalFault}
use Rattle.node_journal.specs.declared.fault.JournalFault.TheVariants as journal
use Rattle.node_journal.specs.Index.{Refuses as RefusesContent}
use Rattle.node_pool.specs.Payloads.{model_in}
use Rattle.resume.specs.declared.fault.ResumeFault.{ResumeFault}
use Rattle.resume.specs.declared.fault.ResumeFault.TheVariants as fault
use Rattle.resume.specs.declared.fault.PayloadFault.{PayloadFault}
use Rattle.resume.specs.declared.fault.PayloadFault.TheVariants as payload
use Rattle.resume.specs.Models.{IsNoModel}
use Rattle.resume.specs.Journals.{IsDamagedEvent}
use Rattle.resume.specs.Refusals.{fault_of, fault_at, RefusesEvents, RefusesFirst, RefusesPayloads, RefusesPayloadsFor, Refuses}

-- a first payload that is no model
pub first_refused : (model first : List ℕ) (f : PayloadFault) (r : ResumeFault) → r ≡ fault_at 8 f → (f ≡ payload.Damaged → IsNoModel first) → RefusesFirst model r first
first_refused model first payload.Damaged r e none = subst (λ (x : ResumeFault). RefusesFirst model x first) (sym e) (none refl, refl)
first_refused model first payload.Memory r e none = subst (λ (x : ResumeFault). RefusesFirst model x first) (sym e) tt

-- the same of a journal
pub model_refused : (ps : List (List ℕ)) (f : PayloadFault) (r : ResumeFault) → 0 < length ps → r ≡ fault_at 8 f → (f ≡ payload.Damaged → IsNoModel (model_in ps)) → RefusesPayloads r ps
model_refused ps payload.Damaged r some e none = subst (λ (x : ResumeFault). RefusesPayloads x ps) (sym e) (inl (record { some = some; none = none refl; place = refl }))
model_refused ps payload.Memory r some e none = subst (λ (x : ResumeFault). RefusesPayloads x ps) (sym e) tt

-- a later payload
pub event_refused : (ps : List (List ℕ)) (at : ℕ) (f : PayloadFault) (r : ResumeFault) → r ≡ fault_at at f → (f ≡ payload.Damaged → IsDamagedEvent ps at) → RefusesEvents r ps
event_refused ps at payload.Damaged r e broken = subst (λ (x : ResumeFault). RefusesEvents x ps) (sym e) (broken refl)
event_refused ps at payload.Memory r e broken = subst (λ (x : ResumeFault). RefusesEvents x ps) (sym e) tt

pub events_refused : (ps : List (List ℕ)) (r : ResumeFault) → RefusesEvents r ps → RefusesPayloads r ps
events_refused ps fault.NotAJournal h = h
events_refused ps (fault.Damaged at) h = inr h
events_refused ps (fault.OtherModel at) h = h
events_refused ps fault.NoModel h = absurd h
events_refused ps fault.Disk h = h
events_refused ps fault.Memory h = h

pub events_refused_for : (model : List ℕ) (ps : List (List ℕ)) (r : ResumeFault) → model_in ps ≡ model → RefusesEvents r ps → RefusesPayloadsFor model r ps
events_refused_for model ps fault.NotAJournal e h = h
events_refused_for model ps (fault.Damaged at) e h = inr (e, h)
events_refused_for model ps (fault.OtherModel at) e h = absurd h
events_refused_for model ps fault.NoModel e h = h
events_refused_for model ps fault.Disk e h = h
events_refused_for model ps fault.Memory e h = h

pub other_refused : (model : List ℕ) (ps : List (List ℕ)) (r : ResumeFault) → 0 < length ps → RefusesFirst model r (model_in ps) → RefusesPayloadsFor model r ps
other_refused model ps fault.NotAJournal some h = h
other_refused model ps (fault.Damaged at) some h = inl (record { some = some; none = h.0; place = h.1 })
other_refused model ps (fault.OtherModel at) some h = (some, h)
other_refused model ps fault.NoModel some h = h
other_refused model ps fault.Disk some h = h
other_refused model ps fault.Memory some h = h

-- what a scan refuses
pub scan_refused : (P : ResumeFault → List (List ℕ) → Type 0) (f : JournalFault) (r : Records) → RefusesContent f r → Refuses P (fault_of f) r
scan_refused P journal.NotAJournal r h = h
scan_refused P (journal.Damaged at) r h = inl h
scan_refused P journal.Disk r h = tt
scan_refused P journal.Memory r h = tt

-- what payloads call for, their disk calls for
pub content_refused : (f : ResumeFault) (r : Records) (ps : List (List ℕ)) → r ≡ Intact ps → RefusesPayloads f ps → Refuses RefusesPayloads f r
content_refused fault.NotAJournal r ps e h = absurd h
content_refused (fault.Damaged at) r ps e h = inr (ps, e, h)
content_refused (fault.OtherModel at) r ps e h = (ps, e, h)
content_refused fault.NoModel r ps e h = (ps, e, h)
content_refused fault.Disk r ps e h = tt
content_refused fault.Memory r ps e h = tt

pub content_refused_for : (model : List ℕ) (f : ResumeFault) (r : Records) (ps : List (List ℕ)) → r ≡ Intact ps → RefusesPayloadsFor model f ps → Refuses (RefusesPayloadsFor model) f r
content_refused_for model fault.NotAJournal r ps e h = absurd h
content_refused_for model (fault.Damaged at) r ps e h = inr (ps, e, h)
content_refused_for model (fault.OtherModel at) r ps e h = (ps, e, h)
content_refused_for model fault.NoModel r ps e h = (ps, e, h)
content_refused_for model fault.Disk r ps e h = tt
content_refused_for model fault.Memory r ps e h = tt
