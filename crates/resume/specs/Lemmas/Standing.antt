-- Lemmas: what crashes leave of a journal stands for the problem, since each beginning of legal events is legal.
use Rattle.std.specs.Prelude.{◌≡◌, ℕ, ◌≤◌, ◌<◌, max, Bool, true, ◌||◌, if◌then◌else◌, List, [], ◌∷◌, ◌++◌, length, take, drop, Option, Some, None, refl}
use Rattle.std.specs.List.{list_any}
use Rattle.std.proofs.Common.{arith, sym, ◌∙◌, ap, subst, inl, inr}
use Rattle.std.proofs.lemmas.Bool.{cases_Bool}
use Rattle.std.proofs.lemmas.List.{take-append-drop}
use Rattle.std.proofs.lemmas.List.Folds.{list_any-append}
use Rattle.problem.specs.Problem.{Problem}
use Rattle.node_events.specs.declared.event.Event.{Event}
use Rattle.event_core.specs.declared.entry.Entry.{Entry}
use Rattle.event_core.specs.States.{State, first_state}
use Rattle.event_core.specs.Histories.{state_from, state_of, journaled, AreLegal, AreLegalFrom, entries_by}
use Rattle.event_core.specs.Laws.{unheld, JournalsAreLegal}
use Rattle.event_core.specs.Lemmas.Running.{state_from-append, legal_prefix, legal_both}
use Rattle.event_core.specs.Lemmas.Frames.{nodes_from}
use Rattle.event_codec.specs.Upgrades.{upgrade_code, is_upgrade}
use Rattle.node_journal.specs.Records.{Records, Intact, Foreign, BrokenAt, payloads_held, records}
use Rattle.node_pool.specs.Payloads.{entries_in, events_given, count_held, model_in, is_upgraded, with_upgrade, IsJournalOf, IsBeginningOf}
use Rattle.node_pool.specs.Halting.{IsHalt}
use Rattle.node_pool.specs.Lemmas.Groups.{entries_upgraded}
use Rattle.node_pool.specs.declared.halt.Halt.{Halt}
use Rattle.node_pool.specs.declared.halt.Halt.TheVariants as halt
use Rattle.resume.specs.Crashes.{upgraded}
use Rattle.resume.specs.Models.{IsModelOf}
use Rattle.resume.specs.Events.{IsReadAs}
use Rattle.resume.specs.Journals.{StandsFor, IsFreshOrStands}
use Rattle.node_tree.specs.Limits.{most_nodes}

-- ---- the first of legal events
-- they are legal, and make no more nodes
pub read_front : (p : Problem) (ps : List (List ℕ)) (front behind all : List Entry) → entries_in ps ≡ Some front → all ≡ front ++ behind → AreLegal p all → length (state_of p all).nodes ≤ most_nodes → IsReadAs p ps front
read_front p ps front behind all written parts legal few =
    let there = ap (λ (l : List Entry). state_of p l) parts ∙ state_from-append (first_state p) front behind in
    record {
      written = written;
      legal = legal_prefix (first_state p) front behind (subst (λ (l : List Entry). AreLegal p l) parts legal);
      few = omega (arith, nodes_from (state_of p front) behind, ap (λ (s : State). length s.nodes) there, few);
    }

-- the record of a model alone
pub stands_alone : (p : Problem) (model : List ℕ) → IsModelOf model p → StandsFor p (model ∷ []) []
stands_alone p model is = record { rest = []; parts = refl; model = is; read = record { written = refl; legal = tt; few = omega arith } }

-- ---- with the record of the upgrade
-- behind the model's record the upgrade stands where it was added
pub upgraded_with : (ps : List (List ℕ)) → 0 < length ps → is_upgraded (with_upgrade ps) ≡ true
upgraded_with [] some = absurd (omega (arith, some))
upgraded_with (m ∷ ps) some = elim (cases_Bool (list_any is_upgrade ps)) [
  | inl there ↦ ap (λ (b : Bool). is_upgraded (if b then m ∷ ps else m ∷ (ps ++ upgrade_code ∷ []))) there ∙ there
  | inr not_there ↦
      ap (λ (b : Bool). is_upgraded (if b then m ∷ ps else m ∷ (ps ++ upgrade_code ∷ []))) not_there
      ∙ list_any-append is_upgrade ps (upgrade_code ∷ []) ∙ ap (λ (b : Bool). b || true) not_there
]

-- the first payload stays the first
pub model_upgraded : (p : Problem) (ps : List (List ℕ)) (es : List Entry) → StandsFor p ps es → model_in (with_upgrade ps) ≡ model_in ps
model_upgraded p [] es stands = let h : [] ≡ model_in [] ∷ stands.rest = stands.parts in absurd cc
model_upgraded p (m ∷ ps) es stands = elim (cases_Bool (list_any is_upgrade ps)) [
  | inl there ↦ ap (λ (b : Bool). model_in (if b then m ∷ ps else m ∷ (ps ++ upgrade_code ∷ []))) there
  | inr not_there ↦ ap (λ (b : Bool). model_in (if b then m ∷ ps else m ∷ (ps ++ upgrade_code ∷ []))) not_there
]

-- what a disk holds then
pub upgraded_is : (p : Problem) (ps : List (List ℕ)) (es : List Entry) → StandsFor p ps es → upgraded (Intact ps) ≡ Intact (with_upgrade ps)
upgraded_is p [] es stands = let h : [] ≡ model_in [] ∷ stands.rest = stands.parts in absurd cc
upgraded_is p (m ∷ ps) es stands = refl

-- the record adds no events
pub stands_upgraded : (p : Problem) (ps : List (List ℕ)) (es : List Entry) → StandsFor p ps es → StandsFor p (with_upgrade ps) es
stands_upgraded p [] es stands = let h : [] ≡ model_in [] ∷ stands.rest = stands.parts in absurd cc
stands_upgraded p (m ∷ ps) es stands = elim (cases_Bool (list_any is_upgrade ps)) [
  | inl there ↦ subst (λ (b : Bool). StandsFor p (if b then m ∷ ps else m ∷ (ps ++ upgrade_code ∷ [])) es) (sym there) stands
  | inr not_there ↦ subst (λ (b : Bool). StandsFor p (if b then m ∷ ps else m ∷ (ps ++ upgrade_code ∷ [])) es) (sym not_there)
      (record {
        rest = ps ++ upgrade_code ∷ [];
        parts = refl;
        model = stands.model;
        read = record { written = entries_upgraded ps es not_there read.written; legal = read.legal; few = read.few };
      })
]
  where
    whole : m ∷ ps ≡ m ∷ stands.rest
    whole = stands.parts

    rest : stands.rest ≡ ps
    rest = cc

    read : IsReadAs p ps es
    read = subst (λ (l : List (List ℕ)). IsReadAs p l es) rest stands.read

-- ---- what crashes leave of a journal
one_payload : (m model : List ℕ) → Intact (m ∷ []) ≡ Intact (model ∷ []) → m ≡ model
one_payload m model e = ap (λ (r : Records). model_in (payloads_held r)) e

-- a beginning of a journal whose events are legal stands for the problem, or has no payload
pub beginning_stands : (p : Problem) (model : List ℕ) (es : List Entry) (h : Option Halt) (c : List ℕ) → IsModelOf model p → AreLegal p (events_given es h)
    → length (state_of p (events_given es h)).nodes ≤ most_nodes → IsBeginningOf model es h (records c) → IsFreshOrStands p c
beginning_stands p model es h c is legal few b = step (records c) refl b
  where
    step : (r : Records) → records c ≡ r → IsBeginningOf model es h r → IsFreshOrStands p c
    step (Intact []) e b = inl e
    step (Intact (m ∷ ps)) e b =
        (let k = count_held (Intact (m ∷ ps)) in
        inr (
          m ∷ ps,
          take k (events_given es h),
          e,
          record {
            rest = ps;
            parts = refl;
            model = subst (λ (l : List ℕ). IsModelOf l p) (sym (one_payload m model b.model_first)) is;
            read = read_front p ps (take k (events_given es h)) (drop k (events_given es h)) (events_given es h) b.events (sym (take-append-drop k (events_given es h))) legal few;
          },
        ))
    step Foreign e b = cc
    step (BrokenAt place) e b = cc

-- ---- the journal of a legal history
module _ (p : Problem) (es : List Entry) (s : State) (stands : s ≡ state_of p es) (legal : AreLegal p es) (law : JournalsAreLegal p) (few : length s.nodes ≤ most_nodes) where
  at_end : state_of p (journaled es) ≡ unheld s
  at_end = (law es legal).same ∙ ap unheld (sym stands)

  few_there : length (state_of p (journaled es)).nodes ≤ most_nodes
  few_there = subst (λ (t : State). length t.nodes ≤ most_nodes) (sym at_end) few

  pub journal_stands : (ps : List (List ℕ)) → IsModelOf (model_in ps) p → IsJournalOf ps es → StandsFor p ps (journaled es)
  journal_stands [] model is = cc
  journal_stands (m ∷ ps) model is = record { rest = ps; parts = refl; model = model; read = record { written = is; legal = (law es legal).legal; few = few_there } }

  -- with the events in whose call the disk failed
  failed_legal : (fs : List Event) → AreLegalFrom (unheld s) (entries_by None fs) → AreLegal p (journaled es ++ entries_by None fs)
  failed_legal fs next = legal_both (first_state p) (journaled es) (entries_by None fs) (law es legal).legal (subst (λ (t : State). AreLegalFrom t (entries_by None fs)) (sym at_end) next)

  failed_few : (budget : ℕ) (fs : List Event) → budget ≤ most_nodes → length (state_from (unheld s) (entries_by None fs)).nodes ≤ max budget (length s.nodes)
      → length (state_of p (journaled es ++ entries_by None fs)).nodes ≤ most_nodes
  failed_few budget fs b small =
      let same = state_from-append (first_state p) (journaled es) (entries_by None fs) ∙ ap (λ (t : State). state_from t (entries_by None fs)) at_end in
      omega (arith, ap (λ (t : State). length t.nodes) same, small, b, few)

  -- the events that were given to the journal are legal, and make no more nodes than there may be
  pub given_legal : (faults budget count : ℕ) (fault : Option ℕ) (h : Option Halt) → IsHalt faults budget count fault s h → budget ≤ most_nodes
      → AreLegal p (events_given es h) × (length (state_of p (events_given es h)).nodes ≤ most_nodes)
  given_legal faults budget count fault None h b = ((law es legal).legal, few_there)
  given_legal faults budget count fault (Some halt.Memory) h b = ((law es legal).legal, few_there)
  given_legal faults budget count fault (Some (halt.Budget e)) h b = ((law es legal).legal, few_there)
  given_legal faults budget count fault (Some (halt.Disk n fs)) h b = (failed_legal fs h.next, failed_few budget fs b h.few)
