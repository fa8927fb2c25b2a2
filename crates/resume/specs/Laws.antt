-- Laws of journals: each stands for one search at most, what stands for one is not refused, and what is refused is refused for one reason.
use Rattle.std.specs.Prelude.{◌≡◌, ℕ, true, List}
use Rattle.problem.specs.Problem.{Problem}
use Rattle.event_core.specs.declared.entry.Entry.{Entry}
use Rattle.node_journal.specs.Records.{records}
use Rattle.resume.specs.declared.fault.ResumeFault.{ResumeFault}
use Rattle.resume.specs.Journals.{StandsFor, StandsOnDisk, IsFreshOrOf}
use Rattle.resume.specs.Refusals.{Refuses, RefusesPayloads, RefusesPayloadsFor, is_refusal}

-- payloads stand for one problem and one list of events at most
abbrev pub StandsForOne : Type 0
StandsForOne = (ps : List (List ℕ)) (p q : Problem) (es fs : List Entry) → StandsFor p ps es → StandsFor q ps fs → (p ≡ q) × (es ≡ fs)

-- What stands for a problem calls for no refusal, whatever model is taken. What is fresh or of a model calls for none where this model is asked for.
pub record StandingIsNotRefused : Type 0 where
  pub any : (p : Problem) (c : List ℕ) → StandsOnDisk p c → (f : ResumeFault) → is_refusal f ≡ true → Refuses RefusesPayloads f (records c) → ⊥
  pub own : (model : List ℕ) (p : Problem) (c : List ℕ) → IsFreshOrOf model p c → (f : ResumeFault) → is_refusal f ≡ true → Refuses (RefusesPayloadsFor model) f (records c) → ⊥

-- The content of a disk calls for one refusal at most.
pub record OneRefusal : Type 0 where
  pub any : (c : List ℕ) (f g : ResumeFault) → is_refusal f ≡ true → is_refusal g ≡ true → Refuses RefusesPayloads f (records c) → Refuses RefusesPayloads g (records c) → f ≡ g
  pub own : (model c : List ℕ) (f g : ResumeFault) → is_refusal f ≡ true → is_refusal g ≡ true → Refuses (RefusesPayloadsFor model) f (records c) → Refuses (RefusesPayloadsFor model) g (records c) → f ≡ g
