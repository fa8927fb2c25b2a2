-- What a search that has ended keeps of its journal, and how far it went.
use Rattle.std.specs.Prelude.{◌≡◌, ◌≤◌, ℕ, max, Bool, false, is_none, if◌then◌else◌, ◌<◌, List, [], ◌∷◌, ◌++◌, length, All, Option, Some, None, IsSomeAnd, refl}
use Rattle.std.specs.List.{AllByRecursion}
use Rattle.std.proofs.Common.{arith, sym, ◌∙◌, ap, subst}
use Rattle.std.proofs.lemmas.List.Elements.{All-head}
use Rattle.outside.specs.Faults.{Rose, Counts}
use Rattle.outside.specs.Images.{AtRest}
use Rattle.outside.specs.declared.moment.Moment.{Moment}
use Rattle.problem.specs.Problem.{Problem}
use Rattle.event_core.specs.declared.entry.Entry.{Entry}
use Rattle.event_core.specs.States.{State}
use Rattle.event_core.specs.Histories.{state_of, journaled, AreLegal}
use Rattle.event_core.specs.Laws.{JournalsAreLegal}
use Rattle.event_core.specs.Rooms.{Recorded}
use Rattle.node_journal.specs.Records.{records}
use Rattle.node_journal.specs.History.{EachFrom, ExtendsMoments, IsHistory, IsPrefixOf, KeepsHistory}
use Rattle.node_journal.specs.Whole.{payloads_in}
use Rattle.node_pool.specs.Payloads.{events_given, model_in, IsJournalOf, LeavesBeginnings}
use Rattle.node_pool.specs.Lemmas.Groups.{IsOfNobody, read_of_nobody}
use Rattle.node_pool.specs.Halting.{IsHalt}
use Rattle.node_pool.specs.declared.halt.Halt.{Halt}
use Rattle.node_pool.specs.declared.pool.Pool.{Pool}
use Rattle.outside.specs.declared.disk.Disk.{Ghosts}
use Rattle.core_search.specs.declared.node_loop.Ending.{Ending}
use Rattle.core_search.specs.declared.node_loop.Ending.TheVariants as ending
use Rattle.core_search.specs.Endings.{IsSpent}
use Rattle.core_search.specs.Pools.{IsHaltOf, is_disk}
use Rattle.core_search.specs.Visits.{SearchesNodes}
use Rattle.vipr_print.specs.Unique.{IsWord}
use Rattle.resume.specs.Models.{IsModelOf}
use Rattle.resume.specs.Journals.{IsReadFrom, StandsFor}
use Rattle.solve_top.specs.declared.request.Request.{Request}
use Rattle.solve_top.specs.Requests.{limits_in}
use Rattle.solve_top.specs.Changes.{DiskChange, Rises, disk_change, moments_before, moments_after}
use Rattle.solve_top.specs.Journals.{IsKept}
use Rattle.solve_top.specs.Searches.{search_of, begin_of, events_made, events_read, HasSearchedAlone, IsOfWorkers}
use Rattle.solve_top.specs.Searchers.{GoesOnByWorkers, SearchesOn}
use Rattle.solve_top.specs.Begun.{IsEnded, IsReadyPool}
use Rattle.solve_top.specs.Outcomes.{IsWithin}
use Rattle.resume.specs.Lemmas.Standing.{beginning_stands, given_legal, journal_stands}
use Rattle.solve_top.proofs.Uniqueness.{names_are_words}
use Rattle.node_tree.specs.Limits.{most_nodes}

-- ---- what was read
pub read_names : (c : Recorded) → IsReadFrom c → All IsWord c.state.problem.names
read_names c read = names_are_words _ _ c.state.problem read.1.model.is.reads

pub read_few : (c : Recorded) → c.state ≡ state_of c.state.problem c.history → IsReadFrom c → length c.state.nodes ≤ most_nodes
read_few c stands read = subst (λ (s : State). length s.nodes ≤ most_nodes) (sym stands) read.1.read.few

if_some : (n : ℕ) (w : Option ℕ) (a b : List Entry) → IsSomeAnd w (λ k. k < n) → (if is_none w then a else b) ≡ b
if_some n None a b some = absurd some
if_some n (Some k) a b some = refl

of_workers_none : (n : ℕ) (es : List Entry) → All (IsOfWorkers n) es → events_read es ≡ []
of_workers_none n [] all = refl
of_workers_none n (e ∷ es) all = if_some n e.worker (e ∷ events_read es) [] (All-head (IsOfWorkers n) e es all)

of_workers_all : (n : ℕ) (es : List Entry) → All (IsOfWorkers n) es → events_made es ≡ es
of_workers_all n [] all = refl
of_workers_all n (e ∷ es) all = if_some n e.worker (events_made es) (e ∷ es) (All-head (IsOfWorkers n) e es all)

if_none : (w : Option ℕ) (a b : List Entry) → w ≡ None → (if is_none w then a else b) ≡ a
if_none w a b h = rw h

read_first : (n : ℕ) (hs es : List Entry) → AllByRecursion IsOfNobody hs → All (IsOfWorkers n) es → events_read (hs ++ es) ≡ hs
read_first n [] es nobodys all = of_workers_none n es all
read_first n (h ∷ hs) es nobodys all = if_none h.worker (h ∷ events_read (hs ++ es)) [] nobodys.0 ∙ ap (λ (l : List Entry). h ∷ l) (read_first n hs es nobodys.1 all)

made_last : (n : ℕ) (hs es : List Entry) → AllByRecursion IsOfNobody hs → All (IsOfWorkers n) es → events_made (hs ++ es) ≡ es
made_last n [] es nobodys all = of_workers_all n es all
made_last n (h ∷ hs) es nobodys all = if_none h.worker (events_made (hs ++ es)) (h ∷ (hs ++ es)) nobodys.0 ∙ made_last n hs es nobodys.1 all

-- the events that a search began with are of no worker
nobodys : (old : Recorded) → IsReadFrom old → AllByRecursion IsOfNobody old.history
nobodys old read = read_of_nobody read.1.rest old.history read.1.read.written

-- the events that were read are those that the search began with
pub read_back : (q : Request) (old new : Recorded) → IsReadFrom old → GoesOnByWorkers (limits_in q).workers old new → events_read new.history ≡ old.history
read_back q old new read goes = ap events_read goes.history ∙ read_first (limits_in q).workers old.history goes.entries (nobodys old read) goes.of_workers

-- those that it made are of one worker
pub made_alone : (old new : Recorded) → IsReadFrom old → GoesOnByWorkers 1 old new → All (IsOfWorkers 1) (events_made new.history)
made_alone old new read goes =
    subst (λ (l : List Entry). All (IsOfWorkers 1) l) (sym (ap events_made goes.history ∙ made_last 1 old.history goes.entries (nobodys old read) goes.of_workers)) goes.of_workers

-- it searched on from those that were read
pub searched_alone : (cuts : ℕ) (old new : Recorded) → old.state ≡ state_of old.state.problem old.history → IsReadFrom old → GoesOnByWorkers 1 old new → new.state.problem ≡ old.state.problem
    → SearchesNodes cuts old new → HasSearchedAlone cuts new
searched_alone cuts old new begins read goes same visits =
    let first : events_read new.history ≡ old.history = ap events_read goes.history ∙ read_first 1 old.history goes.entries (nobodys old read) goes.of_workers in
    record { begun = old; history = sym first; state = begins ∙ (λ i. state_of (sym same i) (sym first i)); visits = visits }

-- ---- how far it went
pub within_limits : (q : Request) (old new : Recorded) → old.state ≡ state_of old.state.problem old.history → IsReadFrom old → GoesOnByWorkers (limits_in q).workers old new → new.state.problem ≡ old.state.problem
    → new.state ≡ state_of new.state.problem new.history → AreLegal new.state.problem new.history
    → length new.state.nodes ≤ max (limits_in q).nodes (length old.state.nodes) → length new.state.cuts ≤ max (limits_in q).cuts (length old.state.cuts)
    → IsWithin q old.state.problem (search_of new)
within_limits q old new begins read goes same stands legal nodes cuts = record {
  same = same;
  legal = legal;
  of_workers = subst (λ (l : List Entry). All (IsOfWorkers (limits_in q).workers) l)
      (sym (ap events_made goes.history ∙ made_last (limits_in q).workers old.history goes.entries (nobodys old read) goes.of_workers)) goes.of_workers;
  within = subst (λ (s : State). length s.nodes ≤ max (limits_in q).nodes (length (begin_of (search_of new)).nodes)) stands
      (subst (λ (s : State). length new.state.nodes ≤ max (limits_in q).nodes (length s.nodes)) (sym began) nodes);
  few_cuts = subst (λ (s : State). length s.cuts ≤ max (limits_in q).cuts (length (begin_of (search_of new)).cuts)) stands
      (subst (λ (s : State). length new.state.cuts ≤ max (limits_in q).cuts (length s.cuts)) (sym began) cuts);
}
  where
    began : begin_of (search_of new) ≡ old.state
    began =
        ap (λ (l : List Entry). state_of new.state.problem (events_read l)) goes.history
        ∙ ap (λ (l : List Entry). state_of new.state.problem l) (read_first (limits_in q).workers old.history goes.entries (nobodys old read) goes.of_workers)
        ∙ ap (λ (p : Problem). state_of p old.history) same ∙ sym begins

most : (limit n k : ℕ) → limit ≤ most_nodes → n ≤ most_nodes → k ≤ max limit n → k ≤ most_nodes
most limit n k few begun within = grind arith

-- ---- faults
pub unless_risen : (e : Ending) (before after : ℕ) → Counts before after (is_disk e) → ¬ Rose before after → is_disk e ≡ false
unless_risen ending.Finished before after counts none = refl
unless_risen ending.Spent before after counts none = refl
unless_risen ending.Disk before after counts none = absurd (none counts.1)
unless_risen ending.Memory before after counts none = refl

pub sound_unless : (e : Ending) (h : Option Halt) (faults budget count : ℕ) (fault : Option ℕ) (s : State) → IsHaltOf e h → IsHalt faults budget count fault s h → is_disk e ≡ false → fault ≡ None
sound_unless ending.Finished h faults budget count fault s of is other = (subst (λ (x : Option Halt). IsHalt faults budget count fault s x) of is).sound
sound_unless ending.Spent h faults budget count fault s of is other = (subst (λ (x : Option Halt). IsHalt faults budget count fault s x) of.1 is).sound.sound
sound_unless ending.Disk h faults budget count fault s of is other = absurd cc
sound_unless ending.Memory h faults budget count fault s of is other = (subst (λ (x : Option Halt). IsHalt faults budget count fault s x) of is).sound

-- the count of faults goes with the disk and the answer
pub counted : {D : Type 0} (count : D → ℕ) (a b e : D) → e ≡ b → (failed by_disk : Bool) → failed ≡ by_disk → Counts (count a) (count b) by_disk → Counts (count a) (count e) failed
counted count a b e same failed by_disk is counts = rw (same, is) counts

-- ---- its journal
pub kept_by : (opened : ℕ) (p : Problem) (d : DiskChange) (es : List Entry) (h : Option Halt) → ExtendsMoments (moments_before d) (moments_after d) → IsHistory opened (moments_after d)
    → (¬ Rises d.faults → EachFrom opened (moments_after d) (λ c. IsPrefixOf (payloads_in d.now_after) (records c))) → LeavesBeginnings opened d.past_after d.now_after es h → IsModelOf (model_in (payloads_in d.now_after)) p
    → AreLegal p (events_given es h) × (length (state_of p (events_given es h)).nodes ≤ most_nodes) → (¬ Rises d.faults → AtRest d.now_after) → IsKept opened p d
kept_by opened p d es h extends history prefixes leaves model given rests = record {
  extends = extends;
  history = history;
  prefixes = prefixes;
  stands = λ i m c ge at is. beginning_stands p (model_in (payloads_in d.now_after)) es h c model given.0 given.1 (leaves i m c ge at is);
  rests = rests;
}

-- ---- a search, from the pool that it began with to the state and the disk that it left
module _ {D : Type 0} (tells : Bool) (past : D → List Moment) (now : D → Moment) (count : D → ℕ) (a b e : D) (same_disk : e ≡ b) (old new last : Recorded) (same_state : last ≡ new)
    (same_problem : new.state.problem ≡ old.state.problem) (begins : old.state ≡ state_of old.state.problem old.history) (read : IsReadFrom old)
    (stands : last.state ≡ state_of last.state.problem last.history) (legal : AreLegal last.state.problem last.history) (problem : Problem) (problem_is : problem ≡ last.state.problem) (law : JournalsAreLegal problem)
    (limit : ℕ) (few : limit ≤ most_nodes) (within : length new.state.nodes ≤ max limit (length old.state.nodes)) where
  abbrev p : Problem
  p = old.state.problem

  problem_at_end : last.state.problem ≡ p
  problem_at_end = ap (λ (r : Recorded). r.state.problem) same_state ∙ same_problem

  stands_there : new.state ≡ state_of p new.history
  stands_there = subst (λ (x : Problem). new.state ≡ state_of x new.history) same_problem (subst (λ (r : Recorded). r.state ≡ state_of r.state.problem r.history) same_state stands)

  legal_there : AreLegal p new.history
  legal_there = subst (λ (x : Problem). AreLegal x new.history) same_problem (subst (λ (r : Recorded). AreLegal r.state.problem r.history) same_state legal)

  law_there : JournalsAreLegal p
  law_there = subst JournalsAreLegal (problem_is ∙ problem_at_end) law

  few_there : length new.state.nodes ≤ most_nodes
  few_there = most limit (length old.state.nodes) (length new.state.nodes) few (read_few old begins read) within

  module _ (faults budget : ℕ) (fault : Option ℕ) (h : Option Halt) (halted : IsHalt faults budget (count b) fault new.state h) (within_budget : budget ≤ most_nodes)
      (ending : Ending) (of : IsHaltOf ending h) where
    given : AreLegal p (events_given new.history h) × (length (state_of p (events_given new.history h)).nodes ≤ most_nodes)
    given = given_legal p new.history new.state stands_there legal_there law_there few_there faults budget (count b) fault h halted within_budget

    sound : is_disk ending ≡ false → fault ≡ None
    sound other = sound_unless ending h faults budget (count b) fault new.state of halted other

    pub kept_search : Counts (count a) (count b) (is_disk ending) → (opened opened' : ℕ) → opened' ≡ opened → ExtendsMoments (past a ++ now a ∷ []) (past b ++ now b ∷ []) → KeepsHistory opened' (past b) (now b) (payloads_in (now b)) fault
        → LeavesBeginnings opened' (past b) (now b) new.history h → IsModelOf (model_in (payloads_in (now a))) p → model_in (payloads_in (now b)) ≡ model_in (payloads_in (now a))
        → (fault ≡ None → AtRest (now b)) → IsKept opened p (disk_change tells past now count a e)
    kept_search cause opened opened' same extends kept leaves model model_is rests =
        let unless : ¬ Rises (record { before = count a; after = count b }) → fault ≡ None = λ calm. sound (unless_risen ending (count a) (count b) cause calm) in
        subst (λ (x : D). IsKept opened p (disk_change tells past now count a x)) (sym same_disk)
        (kept_by opened p (disk_change tells past now count a b) new.history h extends (subst (λ (k : ℕ). IsHistory k (past b ++ now b ∷ [])) same kept.history)
        (λ calm. subst (λ (k : ℕ). EachFrom k (past b ++ now b ∷ []) (λ c. IsPrefixOf (payloads_in (now b)) (records c))) same (kept.prefixes (unless calm)))
        (subst (λ (k : ℕ). LeavesBeginnings k (past b) (now b) new.history h) same leaves) (subst (λ (l : List ℕ). IsModelOf l p) (sym model_is) model) given
        (λ calm. rests (unless calm)))

    pub stands_search : is_disk ending ≡ false → (fault ≡ None → IsJournalOf (payloads_in (now b)) new.history) → IsModelOf (model_in (payloads_in (now a))) p
        → model_in (payloads_in (now b)) ≡ model_in (payloads_in (now a)) → StandsFor p (payloads_in (now e)) (journaled last.history)
    stands_search other journal model model_is =
        subst (λ (x : D). StandsFor p (payloads_in (now x)) (journaled last.history)) (sym same_disk)
        (subst (λ (r : Recorded). StandsFor p (payloads_in (now b)) (journaled r.history)) (sym same_state)
        (journal_stands p new.history new.state stands_there legal_there law_there few_there (payloads_in (now b)) (subst (λ (l : List ℕ). IsModelOf l p) (sym model_is) model) (journal (sound other))))

-- what crashes leave of its history, on the disk that it left
pub leaves_there : {D : Type 0} (past : D → List Moment) (now : D → Moment) (opened opened' : ℕ) (b e : D) (new last : Recorded) (h : Option Halt) → opened' ≡ opened → e ≡ b → last ≡ new
    → LeavesBeginnings opened' (past b) (now b) new.history h → LeavesBeginnings opened (past e) (now e) last.history h
leaves_there {D} past now opened opened' b e new last h same_opened same_disk same_state leaves =
    subst (λ (x : ℕ × D × Recorded). LeavesBeginnings x.0 (past x.1) (now x.1) x.2.history h) (λ i. (same_opened i, sym same_disk i, sym same_state i)) leaves

-- ---- what is known of the pool in which it ended
pub ended : {D : Type 0} {d : Ghosts D} (q : Request) (old new : Pool D d) (e : Ending) → IsReadyPool q old → SearchesOn (limits_in q) old e new → IsEnded q e new
ended q old new e ready on = record {
  names = subst (λ (p : Problem). All IsWord p.names) (sym on.problem) (read_names old.state ready.read);
  finished = on.finished;
  spent = λ is. subst (λ (n : ℕ). IsSpent n new.state.state) ready.budget (on.spent is);
  left = on.left;
}
