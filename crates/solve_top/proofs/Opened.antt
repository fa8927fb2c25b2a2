-- What a command keeps of its journal, from the first moment on: before it is opened, while it is, and while it is searched.
use Rattle.std.specs.Prelude.{◌≡◌, ◌⊎◌, ℕ, ◌+◌, ◌≤◌, ◌<◌, ℤ, pos, Bool, true, false, List, [], ◌∷◌, ◌++◌, length, take, Option, Some, None, option_map, slice_get, refl}
use Rattle.std.specs.Option.{ForSome}
use Rattle.std.proofs.Common.{arith, sym, ◌∙◌, ap, subst, inl, inr, length-append}
use Rattle.std.proofs.lemmas.Bool.{cases_lt}
use Rattle.std.proofs.lemmas.List.{take_all}
use Rattle.std.proofs.lemmas.Option.{same_Some, slice_get-get_or, slice_get_within}
use Rattle.std.proofs.lemmas.Int.{ints}
use Rattle.outside.specs.Faults.{Counts, Rose}
use Rattle.outside.specs.Images.{IsImage, AtRest, LeavesOnly, NoMomentPasses}
use Rattle.outside.specs.Lemmas.Passing.{started, stays_on, weaker}
use Rattle.outside.specs.declared.moment.Moment.{Moment}
use Rattle.problem.specs.Problem.{Problem}
use Rattle.mps_reader.specs.Reading.{Reads}
use Rattle.mps_reader.specs.Refusals.{IsModestUpper}
use Rattle.event_codec.specs.Models.{model_code, IsUpper}
use Rattle.event_core.specs.declared.entry.Entry.{Entry}
use Rattle.node_journal.specs.Records.{Records, Intact, Foreign, BrokenAt, payloads_held, records}
use Rattle.node_journal.specs.History.{Anything, BeginsWith, EachFrom, IsHistory, IsPrefixOf, KeepsHistory}
use Rattle.node_journal.specs.Lemmas.Histories.{continued, get_seam, history_begins, remains_stands, run_each, some_stands}
use Rattle.node_journal.specs.Whole.{payloads_in}
use Rattle.node_pool.specs.Payloads.{model_in, with_upgrade}
use Rattle.resume.specs.Crashes.{upgraded, IsAsBefore, IsAsBeforeOrBegun}
use Rattle.resume.specs.Lemmas.Histories.{histories_joined, keeps_joined}
use Rattle.resume.specs.Models.{bound_of, IsTextOf, IsModelOf}
use Rattle.resume.specs.Journals.{StandsFor, StandsForSome, WasOpened, IsFreshOrOf, IsFreshOrStands}
use Rattle.resume.specs.declared.fault.ResumeFault.{ResumeFault}
use Rattle.resume.specs.declared.fault.ResumeFault.TheVariants as fault
use Rattle.resume.specs.Refusals.{is_disk, is_refusal}
use Rattle.resume.specs.Lemmas.Standing.{model_upgraded, stands_alone, stands_upgraded, upgraded_is}
use Rattle.solve_top.specs.Statuses.{refusal_of}
use Rattle.solve_top.specs.declared.request.Request.{Request}
use Rattle.solve_top.specs.declared.request.Request.TheVariants.{Solve, Resume, Show, Drill}
use Rattle.solve_top.specs.Changes.{SourceChange, DiskChange, IsUntouched, Rises, disk_change}
use Rattle.solve_top.specs.Journals.{BeginsAtMost, HasNoNewEvent, IsKept, IsKeptUnopened, IsOpened, IsUnopened, KeepsJournal}
use Rattle.solve_top.specs.Models.{IsFreshOrWith, StandsWith, model_before, record_of}

-- ---- the record of a model
same_bound : (upper : Option ℕ) → bound_of (option_map pos upper) ≡ upper
same_bound None = refl
same_bound (Some u) = refl

bounded : (upper : Option ℕ) → IsModestUpper upper → ForSome (option_map pos upper) IsUpper
bounded None h x e = absurd cc
bounded (Some u) h x e = let same : pos u ≡ x = cc in subst IsUpper same (grind (arith, ints), grind (arith, ints))

pub is_text : (text : List ℕ) (upper : Option ℕ) (p : Problem) → IsModestUpper upper → Reads text upper p → IsTextOf text (option_map pos upper) p
is_text text upper p modest reads = record { bounded = bounded upper modest; reads = subst (λ (u : Option ℕ). Reads text u p) (sym (same_bound upper)) reads }

pub is_model : (text : List ℕ) (upper : Option ℕ) (p : Problem) → IsModestUpper upper → Reads text upper p → IsModelOf (record_of text upper) p
is_model text upper p modest reads = record { text = text; upper = option_map pos upper; written = refl; is = is_text text upper p modest reads }

-- ---- what crashes leave while it is opened
-- What was fresh or stood for the problem, does so with the record of the upgrade.
stands_same : (p : Problem) (r : Records) (c : List ℕ) → IsAsBefore r c → (r ≡ Intact []) ⊎ ((ps : List (List ℕ)) × (es : List Entry) × (r ≡ Intact ps) × StandsFor p ps es) → IsFreshOrStands p c
stands_same p r c (inl same) (inl fresh) = inl (same ∙ fresh)
stands_same p r c (inl same) (inr s) = inr (s.0, s.1, same ∙ s.2, s.3)
stands_same p r c (inr more) (inl fresh) = inl (more ∙ ap upgraded fresh)
stands_same p r c (inr more) (inr s) = inr (with_upgrade s.0, s.1, more ∙ ap upgraded s.2 ∙ upgraded_is p s.0 s.1 s.3, stands_upgraded p s.0 s.1 s.3)

stands_before : (p : Problem) (b model c : List ℕ) → IsModelOf model p → IsFreshOrStands p b → IsAsBeforeOrBegun (records b) model c → IsFreshOrStands p c
stands_before p b model c is stands (inl same) = stands_same p (records b) c same stands
stands_before p b model c is stands (inr begun) = stands_same p (Intact (model ∷ [])) c begun.1 (inr (model ∷ [], [], refl, stands_alone p model is))

-- the same, by this record of the model
of_same : (p : Problem) (r : Records) (c model : List ℕ) → IsAsBefore r c → (r ≡ Intact []) ⊎ ((ps : List (List ℕ)) × (es : List Entry) × (r ≡ Intact ps) × (model_in ps ≡ model) × StandsFor p ps es) → IsFreshOrOf model p c
of_same p r c model (inl same) (inl fresh) = inl (same ∙ fresh)
of_same p r c model (inl same) (inr s) = inr (s.0, s.1, same ∙ s.2, s.3, s.4)
of_same p r c model (inr more) (inl fresh) = inl (more ∙ ap upgraded fresh)
of_same p r c model (inr more) (inr s) = inr (with_upgrade s.0, s.1, more ∙ ap upgraded s.2 ∙ upgraded_is p s.0 s.1 s.4, model_upgraded p s.0 s.1 s.4 ∙ s.3, stands_upgraded p s.0 s.1 s.4)

begun_before : (p : Problem) (b model c : List ℕ) → IsModelOf model p → IsFreshOrOf model p b → IsAsBeforeOrBegun (records b) model c → IsFreshOrOf model p c
begun_before p b model c is held (inl same) = of_same p (records b) c model same held
begun_before p b model c is held (inr begun) = of_same p (Intact (model ∷ [])) c model begun.1 (inr (model ∷ [], [], refl, refl, stands_alone p model is))

-- ---- payloads that begin those of a moment
first_held : (ps : List (List ℕ)) (r : Records) → BeginsWith ps r → take (length ps) (payloads_held r) ≡ ps
first_held ps (Intact rs) begins = ap payloads_held begins
first_held ps Foreign begins = absurd cc
first_held ps (BrokenAt place) begins = absurd cc

first_payloads : (now : Moment) (ps : List (List ℕ)) → BeginsWith ps (records now.seen) → take (length ps) (payloads_in now) ≡ ps
unfolding payloads_in
first_payloads now ps begins = first_held ps (records now.seen) begins

-- two lists of which one begins the other, have the same first payload
same_first : (ps qs ps' qs' : List (List ℕ)) (x y : List ℕ) → ps ≡ x ∷ ps' → qs ≡ y ∷ qs' → take (length ps) qs ≡ ps → y ≡ x
same_first ps qs ps' qs' x y e f g = ap model_in ((λ i. take (length (sym e i)) (sym f i)) ∙ g ∙ e)

of_first : (p : Problem) (model : List ℕ) (ps rest : List (List ℕ)) (c : List ℕ) → ps ≡ model_in ps ∷ rest → model_in ps ≡ model → BeginsWith ps (records c) → IsFreshOrStands p c → IsFreshOrOf model p c
of_first p model ps rest c parts of_model begins (inl fresh) = inl fresh
of_first p model ps rest c parts of_model begins (inr s) =
    let first : take (length ps) s.0 ≡ ps = ap (take (length ps)) (sym (ap payloads_held s.2)) ∙ first_held ps (records c) begins in
    inr (s.0, s.1, s.2, same_first ps s.0 rest s.3.rest (model_in ps) (model_in s.0) parts s.3.parts first ∙ of_model, s.3)

held_payloads : (now : Moment) (ps : List (List ℕ)) → records now.seen ≡ Intact ps → payloads_in now ≡ ps
unfolding payloads_in
held_payloads now ps held = ap payloads_held held

prefix_of_all : (ps qs : List (List ℕ)) (r : Records) → r ≡ Intact ps → qs ≡ ps → IsPrefixOf qs r
prefix_of_all ps qs r held same =
    subst (λ (x : Records). IsPrefixOf qs x) (sym held) (ap Intact (sym (take_all (length ps) ps (omega arith)) ∙ ap (λ (l : List (List ℕ)). take (length ps) l) (sym same)))

-- ---- a journal that was opened and searched
pub model_opened : (model : List ℕ) (p : Problem) (es : List Entry) (opened : ℕ) (d : DiskChange) → IsOpened model p es opened d → IsModelOf model p
model_opened model p es opened d first = subst (λ (l : List ℕ). IsModelOf l p) first.of_model first.stands.model

which : (from i : ℕ) → from ≤ i → (i ≡ from) ⊎ (from + 1 ≤ i)
which from i le = grind (arith, le)

module _ {D : Type 0} (tells : Bool) (past : D → List Moment) (now : D → Moment) (count : D → ℕ) (a b e : D) (model : List ℕ) (p : Problem) (es : List Entry) (opened : ℕ)
    (first : IsOpened model p es opened (disk_change tells past now count a b)) (then : IsKept opened p (disk_change tells past now count b e)) (there : IsImage (now e) (now e).seen) (rests : AtRest (now a)) where
  abbrev ms : List Moment
  ms = past e ++ now e ∷ []

  -- the moment before the call
  entry : slice_get ms (length (past a)) ≡ Some (now a)
  entry = then.extends (length (past a)) (now a)
      (continued (past a) (now a) (past b) (now b) (IsAsBeforeOrBegun (records (now a).seen) model) (first.any_moment rests) (length (past a)) (now a) (get_seam (past a) (now a) []))

  -- the moment at which it was opened
  last_opened : slice_get ms (length (past b)) ≡ Some (now b)
  last_opened = then.extends (length (past b)) (now b) (get_seam (past b) (now b) [])

  before_end : length (past b) ≤ length (past e)
  before_end = omega (arith, slice_get_within ms (length (past b)) (now b) last_opened, length-append (past e) (now e ∷ []))

  history_whole : IsHistory (length (past a)) ms
  history_whole = histories_joined (length (past a)) opened (past b) (past e) (now b) (now e) (payloads_in (now b)) (first.kept rests) first.all then.extends first.begun then.history

  -- where the disk did not fail, it holds at the end what it held when it was opened, and more
  begins : take (length (payloads_in (now b))) (payloads_in (now e)) ≡ payloads_in (now b)
  begins = first_payloads (now e) (payloads_in (now b))
      (then.history.lasting (length (past b)) (length (past e)) (now b) (now e) (payloads_in (now b)) first.begun before_end last_opened (get_seam (past e) (now e) []) first.all (now e).seen there)

  kept_since : ¬ Rises (record { before = count b; after = count e }) → KeepsHistory opened (past e) (now e) (payloads_in (now e)) None
  kept_since calm = record { begun = omega (arith, first.begun, before_end); history = then.history; prefixes = λ sound. then.prefixes calm }

  prefixes_whole : ¬ Rises (record { before = count b; after = count e }) → EachFrom (length (past a)) ms (λ c. IsPrefixOf (payloads_in (now e)) (records c))
  prefixes_whole calm =
      (keeps_joined (length (past a)) opened (past b) (past e) (now b) (now e) (payloads_in (now b)) (first.kept rests) first.all then.extends first.begun (payloads_in (now e)) None (kept_since calm) (λ sound. begins)).prefixes refl

  stands_whole : IsFreshOrStands p (now a).seen → EachFrom (length (past a)) ms (IsFreshOrStands p)
  stands_whole stands i m c ge at is = elim (which (length (past a)) i ge) [
    | inl same ↦
        let x : m ≡ now a = same_Some m (now a) (sym at ∙ ap (λ (k : ℕ). slice_get ms k) same ∙ entry) in
        subst (λ (l : List ℕ). IsFreshOrStands p l) (sym (rests c (subst (λ (y : Moment). IsImage y c) x is))) stands
    | inr more ↦ then.stands i m c (omega (arith, more, first.next)) at is
  ]

  -- a moment of the opening
  of_opening : (i : ℕ) (m : Moment) → i < length (past b) + 1 → slice_get ms i ≡ Some m → slice_get (past b ++ now b ∷ []) i ≡ Some m
  of_opening i m less at =
      let within : i < length (past b ++ now b ∷ []) = omega (arith, less, length-append (past b) (now b ∷ [])) in
      let there = slice_get-get_or (past b ++ now b ∷ []) i (now b) within in
      there ∙ ap Some (same_Some _ m (sym (then.extends i _ there) ∙ at))

  begun_whole : IsFreshOrOf model p (now a).seen → EachFrom (length (past a)) ms (IsFreshOrOf model p)
  begun_whole held i m c ge at is = elim (cases_lt i (length (past b) + 1)) [
    | inl less ↦
        begun_before p (now a).seen model c (model_opened model p es opened (disk_change tells past now count a b) first) held
        (run_each (past a) (now a) (past b) (now b) (IsAsBeforeOrBegun (records (now a).seen) model) (first.any_moment rests) i m c ge (of_opening i m less at) is)
    | inr more ↦
        of_first p model (payloads_in (now b)) first.stands.rest c first.stands.parts first.of_model
        (then.history.lasting (length (past b)) i (now b) m (payloads_in (now b)) first.begun (omega (arith, more)) last_opened at first.all c is)
        (then.stands i m c (omega (arith, more, first.begun)) at is)
  ]

  -- the opening counted no fault
  unless_before : count b ≡ count a → ¬ Rises (record { before = count a; after = count e }) → ¬ Rises (record { before = count b; after = count e })
  unless_before same calm rose = calm (subst (λ (n : ℕ). Rises (record { before = n; after = count e })) same rose)

  -- whatever else is asked of the problem makes it this one
  pub kept_whole : (IsOwn : List ℕ → Problem → Type 0) → ((l : List ℕ) (o : Problem) → IsOwn l o → (o ≡ p) × (l ≡ model)) → count b ≡ count a → KeepsJournal (disk_change tells past now count a e) IsOwn
  kept_whole IsOwn one same = record {
    extends = λ i m at. then.extends i m (continued (past a) (now a) (past b) (now b) (IsAsBeforeOrBegun (records (now a).seen) model) (first.any_moment rests) i m at);
    history = λ ps held. history_whole;
    prefixes = λ ps held calm. prefixes_whole (unless_before same calm);
    stands = λ l o own stands.
        subst (λ (x : Problem). EachFrom (length (past a)) ms (IsFreshOrStands x)) (sym (one l o own).0)
        (stands_whole (subst (λ (x : Problem). IsFreshOrStands x (now a).seen) (one l o own).0 stands));
    begun = λ l o own held.
        subst (λ (x : Problem × List ℕ). EachFrom (length (past a)) ms (IsFreshOrOf x.1 x.0)) (λ i. (sym (one l o own).0 i, sym (one l o own).1 i))
        (begun_whole (subst (λ (x : Problem × List ℕ). IsFreshOrOf x.1 x.0 (now a).seen) (λ i. ((one l o own).0 i, (one l o own).1 i)) held));
    rests = λ calm. then.rests (unless_before same calm);
  }

-- ---- one that was not opened
pub kept_unopened : (model : List ℕ) (d : DiskChange) (IsOwn : List ℕ → Problem → Type 0) → IsKeptUnopened model d → ((l : List ℕ) (o : Problem) → IsOwn l o → IsModelOf model o × (l ≡ model)) → KeepsJournal d IsOwn
kept_unopened model d IsOwn kept own = record {
  extends = continued d.past_before d.now_before d.past_after d.now_after (IsAsBeforeOrBegun (records d.now_before.seen) model) kept.any_moment;
  history = kept.history;
  prefixes = kept.prefixes;
  stands = λ l o is stands i m c ge at image.
      stands_before o d.now_before.seen model c (own l o is).0 stands
      (run_each d.past_before d.now_before d.past_after d.now_after (IsAsBeforeOrBegun (records d.now_before.seen) model) kept.any_moment i m c ge at image);
  begun = λ l o is held i m c ge at image.
      subst (λ (x : List ℕ). IsFreshOrOf x o c) (sym (own l o is).1)
      (begun_before o d.now_before.seen model c (own l o is).0 (subst (λ (x : List ℕ). IsFreshOrOf x o d.now_before.seen) (own l o is).1 held)
      (run_each d.past_before d.now_before d.past_after d.now_after (IsAsBeforeOrBegun (records d.now_before.seen) model) kept.any_moment i m c ge at image));
  rests = kept.rests;
}

-- ---- one that was left alone
module _ {D : Type 0} (tells : Bool) (past : D → List Moment) (now : D → Moment) (count : D → ℕ) (a e : D) (none : NoMomentPasses (past a) (now a) (past e) (now e)) (rests : AtRest (now a)) where
  -- crashes leave what was there
  leaves_seen : (P : List ℕ → Type 0) → P (now a).seen → LeavesOnly (past a) (now a) (past e) (now e) P
  leaves_seen P here = stays_on (past a) (past a) (past e) (now a) (now a) (now e) P (started (past a) (now a) P (λ c is. subst P (sym (rests c is)) here)) none

  pub kept_untouched : (IsOwn : List ℕ → Problem → Type 0) → KeepsJournal (disk_change tells past now count a e) IsOwn
  kept_untouched IsOwn = record {
    extends = continued (past a) (now a) (past e) (now e) Anything (leaves_seen Anything tt);
    history = λ ps held. history_begins (past a) (now a) (past e) (now e) ps (leaves_seen (λ c. records c ≡ Intact ps) held) (some_stands (past a) (now a) (past e) (now e) (λ c. records c ≡ Intact ps) none)
        (λ qs. remains_stands (past a) (now a) (past e) (now e) (λ c. BeginsWith qs (records c)) none);
    prefixes = λ ps held calm. run_each (past a) (now a) (past e) (now e) (λ c. IsPrefixOf (payloads_in (now e)) (records c))
        (leaves_seen (λ c. IsPrefixOf (payloads_in (now e)) (records c))
        (prefix_of_all ps (payloads_in (now e)) (records (now a).seen) held (ap payloads_in none.same ∙ held_payloads (now a) ps held)));
    stands = λ l o own stands. run_each (past a) (now a) (past e) (now e) (IsFreshOrStands o) (leaves_seen (IsFreshOrStands o) stands);
    begun = λ l o own held. run_each (past a) (now a) (past e) (now e) (IsFreshOrOf l o) (leaves_seen (IsFreshOrOf l o) held);
    rests = λ calm. subst AtRest (sym none.same) rests;
  }

pub begins_untouched : (model : List ℕ) (d : DiskChange) → IsUntouched d → AtRest d.now_before → BeginsAtMost model d
begins_untouched model d none rests =
    stays_on d.past_before d.past_before d.past_after d.now_before d.now_before d.now_after (IsAsBeforeOrBegun (records d.now_before.seen) model)
    (started d.past_before d.now_before (IsAsBeforeOrBegun (records d.now_before.seen) model) (λ c is. inl (inl (ap records (rests c is))))) none

pub no_new_event : (q : Request) (m : SourceChange) (d : DiskChange) → IsUntouched d → HasNoNewEvent q m d
no_new_event (Solve limits upper) m d none = λ told tells rests. begins_untouched (record_of m.text upper) d none rests
no_new_event (Resume limits) m d none = λ tells rests. begins_untouched (model_before d) d none rests
no_new_event Show m d none = none
no_new_event (Drill seed limits) m d none = none

-- ---- by the clauses of its opening
-- the record of the model stays
pub same_before : (p : Problem) (es : List Entry) (a b : Moment) (was : WasOpened a.seen p es (payloads_in b)) → model_in was.payloads ≡ model_in (payloads_in a)
same_before p es a b was = ap model_in (sym (held_payloads a was.payloads was.held))

pub same_model : (p : Problem) (es : List Entry) (a b : Moment) → WasOpened a.seen p es (payloads_in b) → model_in (payloads_in b) ≡ model_in (payloads_in a)
same_model p es a b was = ap model_in was.is_now ∙ model_upgraded p was.payloads es was.stands ∙ same_before p es a b was

pub before_or_begun : (past : List Moment) (now : Moment) (past' : List Moment) (now' : Moment) (before : Records) (model : List ℕ) → LeavesOnly past now past' now' (IsAsBefore before)
    → LeavesOnly past now past' now' (IsAsBeforeOrBegun before model)
before_or_begun past now past' now' before model run = weaker past now past' now' (IsAsBefore before) (IsAsBeforeOrBegun before model) (λ c h. inl h) run

pub not_by_disk : (b : Bool) (x y : ℕ) → Counts x y b → ¬ Rose x y → b ≡ false
not_by_disk true x y h calm = absurd (calm h.1)
not_by_disk false x y h calm = refl

pub record_is : (text : List ℕ) (u : Option ℤ) (upper : Option ℕ) → u ≡ option_map pos upper → model_code text u ≡ record_of text upper
record_is text u upper same = ap (λ (v : Option ℤ). model_code text v) same

pub held_events : (model : List ℕ) (p : Problem) (es : List Entry) (b : List ℕ) (ps : List (List ℕ)) → WasOpened b p es ps ⊎ ((records b ≡ Intact []) × (es ≡ [])) → model_in ps ≡ model → IsFreshOrWith model p es b
held_events model p es b ps (inl was) of_model = inr (was.payloads, was.held, sym (model_upgraded p was.payloads es was.stands) ∙ ap model_in (sym was.is_now) ∙ of_model, was.stands)
held_events model p es b ps (inr fresh) of_model = inl fresh

pub stands_some : (p : Problem) (es : List Entry) (b : List ℕ) → StandsWith p es b → StandsForSome b
stands_some p es b stood = (p, (stood.0, es, stood.1, stood.2))

-- what it held is fresh or of the model
pub own_content : (model : List ℕ) (p : Problem) (es : List Entry) (b : List ℕ) → IsFreshOrWith model p es b → IsFreshOrOf model p b
own_content model p es b (inl fresh) = inl fresh.0
own_content model p es b (inr held) = inr (held.0, es, held.1, held.2, held.3)

pub unopened_by : (P : ResumeFault → Type 0) (d : DiskChange) (f : ResumeFault) → (d.tells ≡ true → P f) → Counts d.faults.before d.faults.after (is_disk f) → (is_refusal f ≡ true → IsUntouched d)
    → IsUnopened P d (refusal_of f)
unopened_by P d fault.NotAJournal refused cause untouched = (refl, refused, cause, untouched refl)
unopened_by P d (fault.Damaged at) refused cause untouched = (refl, refused, cause, untouched refl)
unopened_by P d (fault.OtherModel at) refused cause untouched = (refl, refused, cause, untouched refl)
unopened_by P d fault.NoModel refused cause untouched = (refl, refused, cause, untouched refl)
unopened_by P d fault.Disk refused cause untouched = cause.1
unopened_by P d fault.Memory refused cause untouched = cause
