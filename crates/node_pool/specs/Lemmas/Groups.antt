-- Lemmas: lists of payloads and the events that they spell, and that no worker's number stands in a journal.
use Rattle.std.specs.Prelude.{◌≡◌, ℕ, Bool, true, false, ◌||◌, if◌then◌else◌, List, [], ◌∷◌, ◌++◌, Option, Some, None, Result, Ok, Err, refl}
use Rattle.std.specs.List.{AllByRecursion, list_any}
use Rattle.std.proofs.Common.{sym, ◌∙◌, ap, subst}
use Rattle.std.proofs.lemmas.List.{append-nil, append_assoc}
use Rattle.std.proofs.lemmas.Option.{same_Some}
use Rattle.node_events.specs.declared.event.Event.{Event}
use Rattle.event_core.specs.declared.entry.Entry.{Entry}
use Rattle.event_core.specs.Histories.{entries_by}
use Rattle.event_codec.specs.declared.fault.CodecFault.{CodecFault}
use Rattle.event_codec.specs.declared.enc.Enc.{Enc}
use Rattle.event_codec.specs.declared.enc.Enc.TheVariants.{One, Two}
use Rattle.event_codec.specs.Groups.{group_of}
use Rattle.event_codec.specs.Upgrades.{upgrade_code, is_upgrade}
use Rattle.node_pool.specs.Payloads.{in_encoding, with_events, spelled, with_spelled, entries_from, entries_in}

-- ---- encodings
-- the encoding behind a payload
abbrev pub encoding_after : Enc → List ℕ → Enc
encoding_after One p = if is_upgrade p then Two else One
encoding_after Two p = Two

-- the encoding behind payloads
abbrev pub encoding_behind : Enc → List (List ℕ) → Enc
encoding_behind enc [] = enc
encoding_behind enc (p ∷ ps) = encoding_behind (encoding_after enc p) ps

pub behind_two : (ps : List (List ℕ)) → encoding_behind Two ps ≡ Two
behind_two [] = refl
behind_two (p ∷ ps) = behind_two ps

-- encoding 2 begins behind the record of the upgrade
pub behind_is : (ps : List (List ℕ)) → encoding_behind One ps ≡ (if list_any is_upgrade ps then Two else One)
behind_is [] = refl
behind_is (p ∷ ps) = step (is_upgrade p) (behind_is ps)
  where
    step : (b : Bool) → encoding_behind One ps ≡ (if list_any is_upgrade ps then Two else One)
        → encoding_behind (if b then Two else One) ps ≡ (if b || list_any is_upgrade ps then Two else One)
    step true rest = behind_two ps
    step false rest = rest

-- the encoding that was read, or this one where there is a fault
abbrev encoding_read : Enc → Result (List Event × Enc) CodecFault → Enc
encoding_read enc (Ok s) = s.1
encoding_read enc (Err f) = enc

encoding_kept : (enc : Enc) (r : Result (List Event) CodecFault) (es : List Event) (next : Enc) → in_encoding enc r ≡ Ok (es, next) → enc ≡ next
encoding_kept enc (Ok fs) es next h = ap (λ (x : Result (List Event × Enc) CodecFault). encoding_read enc x) h
encoding_kept enc (Err f) es next h = absurd cc

-- what a payload spells says the encoding behind it
after_is : (enc : Enc) (p : List ℕ) (es : List Event) (next : Enc) → spelled enc p ≡ Ok (es, next) → encoding_after enc p ≡ next
after_is One p es next h = step (is_upgrade p) h
  where
    step : (b : Bool) → (if b then Ok ([], Two) else in_encoding One (group_of One p)) ≡ Ok (es, next) → (if b then Two else One) ≡ next
    step true k = ap (λ (x : Result (List Event × Enc) CodecFault). encoding_read Two x) k
    step false k = encoding_kept One (group_of One p) es next k
after_is Two p es next h = encoding_kept Two (group_of Two p) es next h

-- ---- the first payload
-- its events, the encoding behind it, and the events of the payloads behind it
pub record IsFirstSpelled (r : Result (List Event × Enc) CodecFault) (o : Enc → Option (List Entry)) (all : List Entry) : Type 0 where
  pub events : List Event
  pub next : Enc
  pub behind : List Entry
  pub read : r ≡ Ok (events, next)
  pub rest : o next ≡ Some behind
  pub parts : all ≡ entries_by None events ++ behind

-- others behind these events
record AreBehind (es : List Event) (o : Option (List Entry)) (all : List Entry) : Type 0 where
  others : List Entry
  rest : o ≡ Some others
  parts : all ≡ entries_by None es ++ others

are_behind : (es : List Event) (o : Option (List Entry)) (all : List Entry) → with_events es o ≡ Some all → AreBehind es o all
are_behind es (Some rest) all h = record { others = rest; rest = refl; parts = sym (same_Some _ _ h) }
are_behind es None all h = cc

pub first_spelled : (r : Result (List Event × Enc) CodecFault) (o : Enc → Option (List Entry)) (all : List Entry) → with_spelled r o ≡ Some all → IsFirstSpelled r o all
first_spelled (Ok (es, next)) o all h =
    let b = are_behind es (o next) all h in
    record { events = es; next = next; behind = b.others; read = refl; rest = b.rest; parts = b.parts }
first_spelled (Err f) o all h = cc

pub with_first : (r : Result (List Event × Enc) CodecFault) (o : Enc → Option (List Entry)) (es : List Event) (next : Enc) (rest : List Entry) → r ≡ Ok (es, next) → o next ≡ Some rest
    → with_spelled r o ≡ Some (entries_by None es ++ rest)
with_first r o es next rest read behind = ap (λ (x : Result (List Event × Enc) CodecFault). with_spelled x o) read ∙ ap (λ (x : Option (List Entry)). with_events es x) behind

-- a payload alone, in encoding 2
pub entries_one : (p : List ℕ) (es : List Event) → group_of Two p ≡ Ok es → entries_from Two (p ∷ []) ≡ Some (entries_by None es)
entries_one p es read =
    with_first (spelled Two p) (λ next. entries_from next []) es Two [] (ap (λ (x : Result (List Event) CodecFault). in_encoding Two x) read) refl
    ∙ ap (λ (l : List Entry). Some l) (append-nil (entries_by None es))

-- ---- two lists, one behind the other
pub entries_append : (enc : Enc) (ps qs : List (List ℕ)) (es fs : List Entry) → entries_from enc ps ≡ Some es → entries_from (encoding_behind enc ps) qs ≡ Some fs → entries_from enc (ps ++ qs) ≡ Some (es ++ fs)
entries_append enc [] qs es fs h k = k ∙ ap (λ (l : List Entry). Some (l ++ fs)) (same_Some _ _ h)
entries_append enc (p ∷ ps) qs es fs h k =
    let f = first_spelled (spelled enc p) (λ next. entries_from next ps) es h in
    let k' = subst (λ (e : Enc). entries_from (encoding_behind e ps) qs ≡ Some fs) (after_is enc p f.events f.next f.read) k in
    with_first (spelled enc p) (λ next. entries_from next (ps ++ qs)) f.events f.next (f.behind ++ fs) f.read (entries_append f.next ps qs f.behind fs f.rest k')
    ∙ ap (λ (l : List Entry). Some l) (sym (append_assoc (entries_by None f.events) f.behind fs) ∙ ap (λ (l : List Entry). l ++ fs) (sym f.parts))

-- a payload in encoding 2 behind payloads among which is the record of the upgrade
pub entries_more : (ps : List (List ℕ)) (p : List ℕ) (before : List Entry) (es : List Event) → list_any is_upgrade ps ≡ true → entries_in ps ≡ Some before → group_of Two p ≡ Ok es
    → entries_in (ps ++ p ∷ []) ≡ Some (before ++ entries_by None es)
entries_more ps p before es upgraded h g =
    let two : encoding_behind One ps ≡ Two = behind_is ps ∙ ap (λ (b : Bool). if b then Two else One) upgraded in
    entries_append One ps (p ∷ []) before (entries_by None es) h (subst (λ (e : Enc). entries_from e (p ∷ []) ≡ Some (entries_by None es)) (sym two) (entries_one p es g))

-- the events of the first payloads, and of those behind them
pub record AreSplit (enc : Enc) (ps qs : List (List ℕ)) (all : List Entry) : Type 0 where
  pub front : List Entry
  pub behind : List Entry
  pub first : entries_from enc ps ≡ Some front
  pub last : entries_from (encoding_behind enc ps) qs ≡ Some behind
  pub parts : all ≡ front ++ behind

pub entries_split : (enc : Enc) (ps qs : List (List ℕ)) (all : List Entry) → entries_from enc (ps ++ qs) ≡ Some all → AreSplit enc ps qs all
entries_split enc [] qs all h = record { front = []; behind = all; first = refl; last = h; parts = refl }
entries_split enc (p ∷ ps) qs all h =
    let f = first_spelled (spelled enc p) (λ next. entries_from next (ps ++ qs)) all h in
    let s = entries_split f.next ps qs f.behind f.rest in
    record {
      front = entries_by None f.events ++ s.front;
      behind = s.behind;
      first = with_first (spelled enc p) (λ next. entries_from next ps) f.events f.next s.front f.read s.first;
      last = subst (λ (e : Enc). entries_from (encoding_behind e ps) qs ≡ Some s.behind) (sym (after_is enc p f.events f.next f.read)) s.last;
      parts = f.parts ∙ ap (λ (l : List Entry). entries_by None f.events ++ l) s.parts ∙ sym (append_assoc (entries_by None f.events) s.front s.behind);
    }

-- the record of the upgrade adds no events
pub entries_upgraded : (ps : List (List ℕ)) (es : List Entry) → list_any is_upgrade ps ≡ false → entries_in ps ≡ Some es → entries_in (ps ++ upgrade_code ∷ []) ≡ Some es
entries_upgraded ps es none h =
    let one : encoding_behind One ps ≡ One = behind_is ps ∙ ap (λ (b : Bool). if b then Two else One) none in
    let nothing = subst (λ (e : Enc). entries_from e (upgrade_code ∷ []) ≡ Some []) (sym one) refl in
    entries_append One ps (upgrade_code ∷ []) es [] h nothing ∙ ap (λ (l : List Entry). Some l) (append-nil es)

-- ---- the events of a journal are of no worker
abbrev pub IsOfNobody : Entry → Type 0
IsOfNobody e = e.worker ≡ None

of_nobody_before : (es : List Event) (rest : List Entry) → AllByRecursion IsOfNobody rest → AllByRecursion IsOfNobody (entries_by None es ++ rest)
of_nobody_before [] rest all = all
of_nobody_before (e ∷ es) rest all = (refl, of_nobody_before es rest all)

from_of_nobody : (enc : Enc) (ps : List (List ℕ)) (es : List Entry) → entries_from enc ps ≡ Some es → AllByRecursion IsOfNobody es
from_of_nobody enc [] es h = subst (AllByRecursion IsOfNobody) (same_Some _ _ h) tt
from_of_nobody enc (p ∷ ps) es h =
    let f = first_spelled (spelled enc p) (λ next. entries_from next ps) es h in
    subst (AllByRecursion IsOfNobody) (sym f.parts) (of_nobody_before f.events f.behind (from_of_nobody f.next ps f.behind f.rest))

pub read_of_nobody : (ps : List (List ℕ)) (es : List Entry) → entries_in ps ≡ Some es → AllByRecursion IsOfNobody es
read_of_nobody ps es h = from_of_nobody One ps es h
