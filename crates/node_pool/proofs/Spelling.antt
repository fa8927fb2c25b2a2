-- What payloads spell, as they come one after another, and what the first of them spell.
use Rattle.std.specs.Prelude.{◌≡◌, ◌≤◌, ◌<◌, ℕ, zero, suc, Bool, true, false, cond, ◌||◌, List, [], ◌∷◌, ◌++◌, length, take, drop, Option, Some, None, Ok, unwrap_or, refl}
use Rattle.std.specs.List.{AllByRecursion, list_any}
use Rattle.std.proofs.Common.{sym, ap, ◌∙◌, subst, inl, inr, arith, length-append, length-take}
use Rattle.std.proofs.lemmas.Bool.{cases_lt}
use Rattle.std.proofs.lemmas.List.{take_all, take-append-le, take-append-drop}
use Rattle.std.proofs.lemmas.List.Folds.{list_any-append}
use Rattle.node_events.specs.declared.event.Event.{Event}
use Rattle.event_core.specs.declared.entry.Entry.{Entry}
use Rattle.event_core.specs.Histories.{is_journaled, journaled, entries_by}
use Rattle.event_codec.specs.declared.enc.Enc.TheVariants.{One, Two}
use Rattle.event_codec.specs.Groups.{group_of}
use Rattle.event_codec.specs.Upgrades.{is_upgrade}
use Rattle.node_journal.specs.Records.{Records, Intact}
use Rattle.node_journal.specs.History.{IsPrefixOf, count_of, first_of}
use Rattle.node_pool.specs.declared.halt.Halt.{Halt}
use Rattle.node_pool.specs.Lemmas.Groups.{entries_more, entries_split}
use Rattle.node_pool.specs.Payloads.{entries_in, model_in, journal_entries, is_upgraded, IsJournalOf, events_given, entries_held, count_held, IsBeginningOf}

-- ---- one payload more, behind the record of the upgrade
pub journal_more : (ps : List (List ℕ)) (p : List ℕ) (before : List Entry) (es : List Event) → is_upgraded ps ≡ true → journal_entries ps ≡ Some before → group_of Two p ≡ Ok es
    → journal_entries (ps ++ p ∷ []) ≡ Some (before ++ entries_by None es)
journal_more [] p before es upgraded h g = cc
journal_more (m ∷ ps) p before es upgraded h g = entries_more ps p before es upgraded h g

-- the record stays
pub upgraded_more : (ps : List (List ℕ)) (p : List ℕ) → is_upgraded ps ≡ true → is_upgraded (ps ++ p ∷ []) ≡ true
upgraded_more [] p upgraded = cc
upgraded_more (m ∷ ps) p upgraded = list_any-append is_upgrade ps (p ∷ []) ∙ ap (λ (b : Bool). b || list_any is_upgrade (p ∷ [])) upgraded

-- the first payload stays the first
pub model_stays : (ps : List (List ℕ)) (p : List ℕ) (before : List Entry) → journal_entries ps ≡ Some before → model_in (ps ++ p ∷ []) ≡ model_in ps
model_stays [] p before h = cc
model_stays (m ∷ ps) p before h = refl

-- ---- the events that a journal has
pub journaled-append : (es fs : List Entry) → journaled (es ++ fs) ≡ journaled es ++ journaled fs
journaled-append [] fs = refl
journaled-append (e ∷ es) fs = step (is_journaled e.event) (journaled-append es fs)
  where
    unclaimed : Entry
    unclaimed = record { worker = None; event = e.event }

    step : (b : Bool) → journaled (es ++ fs) ≡ journaled es ++ journaled fs
        → cond b (unclaimed ∷ journaled (es ++ fs)) (journaled (es ++ fs)) ≡ cond b (unclaimed ∷ journaled es) (journaled es) ++ journaled fs
    step true q = ap (λ (l : List Entry). unclaimed ∷ l) q
    step false q = q

-- a journal has all of these
abbrev pub AreJournaledEvents : List Event → Type 0
AreJournaledEvents es = AllByRecursion (λ (e : Event). is_journaled e ≡ true) es

pub journaled-these : (w : Option ℕ) (es : List Event) → AreJournaledEvents es → journaled (entries_by w es) ≡ entries_by None es
journaled-these w [] all = refl
journaled-these w (e ∷ es) all = step (is_journaled e) all.0 (journaled-these w es all.1)
  where
    step : (b : Bool) → b ≡ true → journaled (entries_by w es) ≡ entries_by None es
        → cond b (record { worker = None; event = e } ∷ journaled (entries_by w es)) (journaled (entries_by w es)) ≡ record { worker = None; event = e } ∷ entries_by None es
    step true h rest = ap (λ (l : List Entry). record { worker = None; event = e } ∷ l) rest
    step false h rest = cc

pub journaled-all : (es : List Entry) (w : Option ℕ) (fs : List Event) → AreJournaledEvents fs → journaled (es ++ entries_by w fs) ≡ journaled es ++ entries_by None fs
journaled-all es w fs all = journaled-append es (entries_by w fs) ∙ ap (λ (l : List Entry). journaled es ++ l) (journaled-these w fs all)

-- the journal of a history, and of one with these events more
pub journal_push : (ps qs : List (List ℕ)) (p : List ℕ) (es : List Entry) (w : Option ℕ) (fs : List Event) → AreJournaledEvents fs → is_upgraded ps ≡ true → IsJournalOf ps es → group_of Two p ≡ Ok fs → qs ≡ ps ++ p ∷ []
    → IsJournalOf qs (es ++ entries_by w fs)
journal_push ps qs p es w fs all upgraded is read more =
    ap (λ (l : List (List ℕ)). journal_entries l) more ∙ journal_more ps p (journaled es) fs upgraded is read ∙ ap Some (sym (journaled-all es w fs all))

-- ---- the first payloads
take_front : {A : Type 0} (xs ys : List A) → take (length xs) (xs ++ ys) ≡ xs
take_front [] ys = refl
take_front (x ∷ xs) ys = ap (λ l. x ∷ l) (take_front xs ys)

-- what a file holds whose payloads begin those of a journal
pub record HoldsFirst (model : List ℕ) (all : List Entry) (r : Records) : Type 0 where
  pub model_first : IsPrefixOf (model ∷ []) (first_of 1 r)
  pub events : entries_held r ≡ Some (take (count_held r) all)

held_first : (m : List ℕ) (ps : List (List ℕ)) (k : ℕ) (all : List Entry) → entries_in ps ≡ Some all → HoldsFirst m all (Intact (m ∷ take k ps))
held_first m ps k all h =
    let f = entries_split One (take k ps) (drop k ps) all (ap entries_in (take-append-drop k ps) ∙ h) in
    let size : count_held (Intact (m ∷ take k ps)) ≡ length f.front = ap (λ (o : Option (List Entry)). length (unwrap_or o [])) f.first in
    record {
      model_first = refl;
      events = f.first ∙ ap Some (sym (take_front f.front f.behind) ∙ ap (λ (l : List Entry). take (length f.front) l) (sym f.parts) ∙ ap (λ (n : ℕ). take n all) (sym size));
    }

begins_here : (ps : List (List ℕ)) (n : ℕ) (all : List Entry) → journal_entries ps ≡ Some all → HoldsFirst (model_in ps) all (Intact (take n ps))
begins_here [] n all h = cc
begins_here (m ∷ ps) zero all h = record { model_first = refl; events = refl }
begins_here (m ∷ ps) (suc n) all h = held_first m ps n all h

pub begins : (ps : List (List ℕ)) (all : List Entry) (r : Records) → journal_entries ps ≡ Some all → IsPrefixOf ps r → HoldsFirst (model_in ps) all r
begins ps all r h is = subst (HoldsFirst (model_in ps) all) (sym is) (begins_here ps (count_of r) all h)

pub held_count : (all : List Entry) (r : Records) → entries_held r ≡ Some (take (count_held r) all) → count_held r ≤ length all
held_count all r h =
    let size : count_held r ≡ length (take (count_held r) all) = ap (λ (o : Option (List Entry)). length (unwrap_or o [])) h in
    omega (arith, size, length-take (count_held r) all)

-- ---- beginnings of a journal
-- while none but the events of the history were given
pub beginning_sound : (ps : List (List ℕ)) (history : List Entry) (h : Option Halt) (r : Records) → IsJournalOf ps history → events_given history h ≡ journaled history → IsPrefixOf ps r
    → IsBeginningOf (model_in ps) history h r
beginning_sound ps history h r is given prefix =
    let b = begins ps (journaled history) r is prefix in
    let few = held_count (journaled history) r b.events in
    record {
      model_first = b.model_first;
      events = b.events ∙ ap (λ (l : List Entry). Some (take (count_held r) l)) (sym given);
      whole = λ more. absurd (omega (arith, few, more));
    }

-- where these payloads and one more were given
module _ (ps : List (List ℕ)) (p : List ℕ) (history : List Entry) (es : List Event) (h : Option Halt) (upgraded : is_upgraded ps ≡ true) (is : IsJournalOf ps history) (read : group_of Two p ≡ Ok es)
    (given : events_given history h ≡ journaled history ++ entries_by None es) where
  all_there : (r : Records) → r ≡ Intact (ps ++ p ∷ []) → count_held r ≡ length (events_given history h)
  all_there r e = ap count_held e ∙ counted ps upgraded is
    where
      counted : (qs : List (List ℕ)) → is_upgraded qs ≡ true → journal_entries qs ≡ Some (journaled history) → count_held (Intact (qs ++ p ∷ [])) ≡ length (events_given history h)
      counted [] there j = cc
      counted (m ∷ qs) there j = ap (λ (o : Option (List Entry)). length (unwrap_or o [])) (entries_more qs p (journaled history) es there j read) ∙ ap (λ (l : List Entry). length l) (sym given)

  pub beginning_failed : (r : Records) → IsPrefixOf (ps ++ p ∷ []) r → IsBeginningOf (model_in ps) history h r
  beginning_failed r prefix = record {
    model_first = subst (λ (m : List ℕ). IsPrefixOf (m ∷ []) (first_of 1 r)) (model_stays ps p (journaled history) is) b.model_first;
    events = b.events ∙ ap (λ (l : List Entry). Some (take (count_held r) l)) (sym given);
    whole = whole;
  }
    where
      b : HoldsFirst (model_in (ps ++ p ∷ [])) (journaled history ++ entries_by None es) r
      b = begins (ps ++ p ∷ []) (journaled history ++ entries_by None es) r (journal_more ps p (journaled history) es upgraded is read) prefix

      whole : length (journaled history) < count_held r → count_held r ≡ length (events_given history h)
      whole more = elim (cases_lt (length ps) (count_of r)) [
        | inl all ↦ all_there r (prefix ∙ ap Intact (take_all (count_of r) (ps ++ p ∷ []) (omega (arith, all, length-append ps (p ∷ [])))))
        | inr some ↦
            (let old : IsPrefixOf ps r = prefix ∙ ap Intact (take-append-le (count_of r) ps (p ∷ []) some) in
            let few = held_count (journaled history) r (begins ps (journaled history) r is old).events in
            absurd (omega (arith, few, more)))
      ]
