-- Journals that are opened.
use Rattle.std.specs.Prelude.{◌≡◌, ℕ, ◌<◌, Bool, true, false, cond, if◌then◌else◌, List, [], ◌∷◌, ◌++◌, length, Some, None, Result, Ok, Err, IfOk, IfErr, refl}
use Rattle.std.proofs.Common.{arith, sym, ◌∙◌, ap, subst, inl, inr}
use Rattle.std.specs.List.{list_any}
use Rattle.std.proofs.lemmas.Bool.{cases_Bool}
use Rattle.std.proofs.lemmas.List.{map-append}
use Rattle.std.proofs.lemmas.Option.{same_Some}
use Rattle.outside.specs.Images.{LeavesOnly, AtRest, NoMomentPasses}
use Rattle.outside.specs.Lemmas.Passing.{weaker, started, joined, stays_on}
use Rattle.outside.specs.declared.moment.Moment.{Moment}
use Rattle.problem.specs.Problem.{Problem}
use Rattle.node_events.specs.declared.event.Event.{Event}
use Rattle.event_codec.specs.declared.enc.Enc.{Enc}
use Rattle.event_codec.specs.declared.enc.Enc.TheVariants.{One}
use Rattle.event_codec.specs.Upgrades.{upgrade_code, is_upgrade}
use Rattle.event_core.specs.declared.entry.Entry.{Entry}
use Rattle.event_core.specs.States.{State, first_state}
use Rattle.event_core.specs.After.{after}
use Rattle.event_core.specs.Histories.{is_journaled, journaled, AreLegal, AreLegalFrom}
use Rattle.event_core.specs.Rooms.{Recorded}
use Rattle.node_journal.specs.Records.{Records, Intact, records}
use Rattle.node_journal.specs.Appends.{IsWithOrWithout}
use Rattle.node_pool.specs.Payloads.{spelled, entries_from, journal_entries, is_upgraded, with_upgrade, IsJournalOf}
use Rattle.node_pool.specs.Lemmas.Groups.{first_spelled, entries_upgraded}
use Rattle.resume.specs.Models.{IsModelOf}
use Rattle.resume.specs.Events.{read_entries, IsReadAs}
use Rattle.resume.specs.Journals.{StandsFor, IsReadWith}
use Rattle.resume.specs.Crashes.{upgraded, IsUpgradedOrNot, IsAsBefore, IsAsBeforeOrBegun}
use Rattle.resume.specs.Lemmas.Standing.{stands_alone}

-- ---- what payloads spell
-- their events are of no worker
record AreRead (es : List Entry) : Type 0 where
  events : List Event
  same : es ≡ read_entries events

all_read : (enc : Enc) (ps : List (List ℕ)) (es : List Entry) → entries_from enc ps ≡ Some es → AreRead es
all_read enc [] es h = record { events = []; same = sym (same_Some _ _ h) }
all_read enc (p ∷ ps) es h =
    let f = first_spelled (spelled enc p) (λ (next : Enc). entries_from next ps) es h in
    let r = all_read f.next ps f.behind f.rest in
    record {
      events = f.events ++ r.events;
      same = f.parts ∙ ap (λ (l : List Entry). read_entries f.events ++ l) r.same ∙ sym (read-append f.events r.events);
    }
  where
    read-append : (es fs : List Event) → read_entries (es ++ fs) ≡ read_entries es ++ read_entries fs
    read-append es fs = map-append (λ (e : Event). let x : Entry = record { worker = None; event = e } in x) es fs

-- legal events of no worker are all journaled
journaled_read : (s : State) (es : List Event) → AreLegalFrom s (read_entries es) → journaled (read_entries es) ≡ read_entries es
journaled_read s [] legal = refl
journaled_read s (e ∷ es) legal = step (is_journaled e) legal.0.stands.1 (journaled_read (after s None e) es legal.1)
  where
    first : Entry
    first = record { worker = None; event = e }

    step : (b : Bool) → b ≡ true → journaled (read_entries es) ≡ read_entries es → cond b (first ∷ journaled (read_entries es)) (journaled (read_entries es)) ≡ first ∷ read_entries es
    step true is rest = ap (λ (l : List Entry). first ∷ l) rest
    step false is rest = cc

-- so are the events that payloads spell
journaled_all : (p : Problem) (ps : List (List ℕ)) (es : List Entry) → IsReadAs p ps es → journaled es ≡ es
journaled_all p ps es read =
    let r = all_read One ps es read.written in
    let legal : AreLegal p (read_entries r.events) = subst (λ (l : List Entry). AreLegal p l) r.same read.legal in
    ap journaled r.same ∙ journaled_read (first_state p) r.events legal ∙ sym r.same

-- what stands for a problem and events is the journal of these events
pub is_journal : (p : Problem) (ps : List (List ℕ)) (es : List Entry) → StandsFor p ps es → IsJournalOf ps es
is_journal p ps es stands = ap journal_entries stands.parts ∙ stands.read.written ∙ ap (λ (l : List Entry). Some l) (sym (journaled_all p stands.rest es stands.read))

-- ---- with the record of the upgrade
-- where it isn't there, it is added
pub upgrade_added : (ps : List (List ℕ)) → is_upgraded ps ≡ false → with_upgrade ps ≡ ps ++ upgrade_code ∷ []
upgrade_added ps none = ap (λ (b : Bool). if b then ps else ps ++ upgrade_code ∷ []) none

-- where it is there, nothing is
pub upgrade_there : (ps : List (List ℕ)) → is_upgraded ps ≡ true → with_upgrade ps ≡ ps
upgrade_there ps there = ap (λ (b : Bool). if b then ps else ps ++ upgrade_code ∷ []) there

-- the record adds no events
pub journal_upgraded : (ps : List (List ℕ)) (es : List Entry) → journal_entries ps ≡ Some es → journal_entries (with_upgrade ps) ≡ Some es
journal_upgraded [] es h = cc
journal_upgraded (m ∷ ps) es h = elim (cases_Bool (list_any is_upgrade ps)) [
  | inl there ↦ ap (λ (b : Bool). journal_entries (if b then m ∷ ps else m ∷ (ps ++ upgrade_code ∷ []))) there ∙ h
  | inr not_there ↦ ap (λ (b : Bool). journal_entries (if b then m ∷ ps else m ∷ (ps ++ upgrade_code ∷ []))) not_there ∙ entries_upgraded ps es not_there h
]

-- a journal has a payload, and so has what stands for a problem
pub journal_has_payload : (ps : List (List ℕ)) (es : List Entry) → IsJournalOf ps es → 0 < length ps
journal_has_payload [] es is = absurd cc
journal_has_payload (m ∷ ps) es is = omega arith

pub some_payload : (p : Problem) (ps : List (List ℕ)) (es : List Entry) → StandsFor p ps es → 0 < length ps
some_payload p ps es stands = omega (arith, ap length stands.parts)

-- a search that was begun with the record of a model
pub begun_with : (p : Problem) (model : List ℕ) (c : Recorded) → IsModelOf model p → c.state ≡ first_state p → c.history ≡ [] → IsReadWith model c
begun_with p model c is first empty = (
  model ∷ [],
  refl,
  subst (λ (es : List Entry). StandsFor c.state.problem (model ∷ []) es) (sym empty) (subst (λ (s : State). StandsFor s.problem (model ∷ []) []) (sym first) (stands_alone p model is)),
)

-- ---- what crashes leave
-- Nothing was written yet.
pub untouched : (past past' : List Moment) (now now' : Moment) (P : List ℕ → Type 0) → AtRest now → P now.seen → NoMomentPasses past now past' now' → LeavesOnly past now past' now' P
untouched past past' now now' P rests here stands = stays_on past past past' now now now' P (started past now P (λ c is. subst P (sym (rests c is)) here)) stands

-- a payload was added, which is the record of the upgrade where that wasn't there
pub with_or_without_is : (ps : List (List ℕ)) (c : List ℕ) → is_upgraded ps ≡ false → IsWithOrWithout ps upgrade_code c → IsUpgradedOrNot ps c
with_or_without_is ps c none (inl same) = inl same
with_or_without_is ps c none (inr more) = inr (more ∙ ap Intact (sym (upgrade_added ps none)))

-- it was added to a journal with payloads
pub as_before : (before : Records) (ps : List (List ℕ)) (c : List ℕ) → before ≡ Intact ps → 0 < length ps → IsUpgradedOrNot ps c → IsAsBefore before c
as_before before [] c held some is = absurd (omega (arith, some))
as_before before (m ∷ ps) c held some (inl same) = inl (same ∙ sym held)
as_before before (m ∷ ps) c held some (inr more) = inr (more ∙ ap upgraded (sym held))

-- the record of the model was added to an empty journal
begun : (before : Records) (model : List ℕ) (ps : List (List ℕ)) → before ≡ Intact ps → ps ≡ [] → (c : List ℕ) → IsWithOrWithout [] model c → IsAsBeforeOrBegun before model c
begun before model ps held none c (inl same) = inl (inl (same ∙ ap Intact (sym none) ∙ sym held))
begun before model ps held none c (inr more) = inr (held ∙ ap Intact none, inl more)

-- an empty journal was recovered
pub recovered : (before : Records) (model : List ℕ) (past mid : List Moment) (now between : Moment) → LeavesOnly past now mid between (λ c. records c ≡ before)
    → LeavesOnly past now mid between (IsAsBeforeOrBegun before model)
recovered before model past mid now between run = weaker past now mid between (λ c. records c ≡ before) (IsAsBeforeOrBegun before model) (λ c same. inl (inl same)) run

-- and then the record of the model was added, or a part of it
pub added : (before : Records) (model : List ℕ) (held ps : List (List ℕ)) (past mid past' : List Moment) (now between now' : Moment) → before ≡ Intact ps → ps ≡ [] → held ≡ ps
    → LeavesOnly past now mid between (λ c. records c ≡ before) → LeavesOnly mid between past' now' (IsWithOrWithout held model) → LeavesOnly past now past' now' (IsAsBeforeOrBegun before model)
added before model held ps past mid past' now between now' is none same first next =
    joined past mid past' now between now' (IsAsBeforeOrBegun before model) (recovered before model past mid now between first)
    (weaker mid between past' now' (IsWithOrWithout held model) (IsAsBeforeOrBegun before model) (λ c w. begun before model ps is none c (subst (λ (l : List (List ℕ)). IsWithOrWithout l model c) (same ∙ none) w)) next)

-- and then the record of the upgrade, or a part of it
pub begun_upgraded : (before : Records) (model : List ℕ) (held : List (List ℕ)) (past mid past' : List Moment) (now between now' : Moment) → before ≡ Intact [] → held ≡ model ∷ []
    → LeavesOnly past now mid between (IsAsBeforeOrBegun before model) → LeavesOnly mid between past' now' (IsUpgradedOrNot held) → LeavesOnly past now past' now' (IsAsBeforeOrBegun before model)
begun_upgraded before model held past mid past' now between now' empty same first next =
    joined past mid past' now between now' (IsAsBeforeOrBegun before model) first
    (weaker mid between past' now' (IsUpgradedOrNot held) (IsAsBeforeOrBegun before model) (λ c w. inr (empty, as_before (Intact (model ∷ [])) held c (ap Intact (sym same)) (omega (arith, ap length same)) w)) next)

-- a journal with payloads was recovered, and then the record of the upgrade was added, or a part of it
pub recovered_upgraded : (before : Records) (held ps : List (List ℕ)) (past mid past' : List Moment) (now between now' : Moment) → before ≡ Intact ps → 0 < length ps → held ≡ ps
    → LeavesOnly past now mid between (λ c. records c ≡ before) → LeavesOnly mid between past' now' (IsUpgradedOrNot held) → LeavesOnly past now past' now' (IsAsBefore before)
recovered_upgraded before held ps past mid past' now between now' is some same first next =
    joined past mid past' now between now' (IsAsBefore before) (weaker past now mid between (λ c. records c ≡ before) (IsAsBefore before) (λ c there. inl there) first)
    (weaker mid between past' now' (IsUpgradedOrNot held) (IsAsBefore before) (λ c w. as_before before ps c is some (subst (λ (l : List (List ℕ)). IsUpgradedOrNot l c) same w)) next)

-- nothing was written by the scan before
pub behind_scan : (model : List ℕ) (past mid past' : List Moment) (now between now' : Moment) → NoMomentPasses past now mid between → LeavesOnly mid between past' now' (IsAsBefore (records between.seen))
    → LeavesOnly past now past' now' (IsAsBeforeOrBegun (records now.seen) model)
behind_scan model past mid past' now between now' stands run =
    weaker past now past' now' (IsAsBefore (records now.seen)) (IsAsBeforeOrBegun (records now.seen) model) (λ c is. inl is)
    (subst (λ (n : Moment). LeavesOnly past n past' now' (IsAsBefore (records n.seen))) stands.same
    (subst (λ (l : List Moment). LeavesOnly l between past' now' (IsAsBefore (records between.seen))) stands.none run))

pub still_rests : (past mid : List Moment) (now between : Moment) → NoMomentPasses past now mid between → AtRest now → AtRest between
still_rests past mid now between stands rests = subst AtRest (sym stands.same) rests

-- what holds of the value in an `Ok`, by two clauses
pub if_both : {T E : Type 0} (r : Result T E) (P Q R : T → Type 0) → IfOk r P → IfOk r Q → ((x : T) → P x → Q x → R x) → IfOk r R
if_both (Ok x) P Q R p q f = f x p q
if_both (Err e) P Q R p q f = tt

-- what holds of a part of the value in an `Ok`, or in an `Err`, that is known
pub ok_part : {T E A : Type 0} (r : Result T E) (f : T → A) (y : A) (P : A → Type 0) → IfOk r (λ x. f x ≡ y) → P y → IfOk r (λ x. P (f x))
ok_part (Ok x) f y P same h = subst P (sym same) h
ok_part (Err e) f y P same h = tt

pub err_part : {T E A : Type 0} (r : Result T E) (f : E → A) (y : A) (P : A → Type 0) → IfErr r (λ e. f e ≡ y) → P y → IfErr r (λ e. P (f e))
err_part (Ok x) f y P same h = tt
err_part (Err e) f y P same h = subst P (sym same) h

pub err_both : {T E : Type 0} (r : Result T E) (P Q R : E → Type 0) → IfErr r P → IfErr r Q → ((e : E) → P e → Q e → R e) → IfErr r R
err_both (Ok x) P Q R p q f = tt
err_both (Err e) P Q R p q f = f e p q

-- what holds of each value holds of the one in an `Err`
pub if_err_all : {T E : Type 0} (r : Result T E) (P : E → Type 0) → ((e : E) → P e) → IfErr r P
if_err_all (Ok x) P f = tt
if_err_all (Err e) P f = f e
