-- What crashes leave of a pool's journal.
use Rattle.std.specs.Prelude.{◌≡◌, ◌≤◌, ℕ, true, List, [], ◌∷◌, ◌++◌, length, take, Option, Some, None, Ok, refl}
use Rattle.std.proofs.Common.{sym, ap, ◌∙◌, subst, inl, inr, arith, ⊎_elim, length-take}
use Rattle.std.proofs.lemmas.List.{take_all}
use Rattle.outside.specs.Images.{IsImage, Leaves, LeavesOnly, NoMomentPasses}
use Rattle.outside.specs.Lemmas.Passing.{started}
use Rattle.outside.specs.declared.moment.Moment.{Moment}
use Rattle.node_events.specs.declared.event.Event.{Event}
use Rattle.event_core.specs.declared.entry.Entry.{Entry}
use Rattle.event_core.specs.Histories.{journaled}
use Rattle.event_codec.specs.declared.enc.Enc.TheVariants.{Two}
use Rattle.event_codec.specs.Groups.{group_of}
use Rattle.node_journal.specs.Appends.{IsWithOrWithout}
use Rattle.node_journal.specs.History.{first_of, count_of, BeginsWith, IsPrefixOf, Keeps, EachFrom, KeepsHistory}
use Rattle.node_journal.specs.Records.{Records, Intact, payloads_held, records}
use Rattle.node_journal.specs.Whole.{payloads_in}
use Rattle.node_journal.specs.Lemmas.Histories.{get_seam}
use Rattle.node_pool.specs.declared.halt.Halt.{Halt}
use Rattle.node_pool.specs.declared.halt.Halt.TheVariants as halt
use Rattle.node_pool.specs.Payloads.{is_upgraded, events_given, model_in, journal_entries, IsJournalOf, IsJournalAfter, IsBeginningOf, LeavesBeginnings}
use Rattle.node_pool.proofs.Spelling.{journal_more, upgraded_more, beginning_sound, beginning_failed, model_stays}

-- ---- since the journal was opened
-- while the journal is sound, each crash leaves a beginning of what stands on the disk
pub leaves_sound : (from : ℕ) (past : List Moment) (now : Moment) (history : List Entry) (h : Option Halt) → KeepsHistory from past now (payloads_in now) None → IsJournalOf (payloads_in now) history
    → events_given history h ≡ journaled history → LeavesBeginnings from past now history h
leaves_sound from past now history h kept stands given i m c ge at is = beginning_sound (payloads_in now) history h (records c) stands given (kept.prefixes refl i m c ge at is)

-- where the disk failed while events were added, perhaps with all of them
pub leaves_failed : (from : ℕ) (now : Moment) (past' : List Moment) (now' : Moment) (history : List Entry) (n : ℕ) (es : List Event) (payload : List ℕ) → is_upgraded (payloads_in now) ≡ true → group_of Two payload ≡ Ok es → IsJournalOf (payloads_in now) history
    → model_in (payloads_in now') ≡ model_in (payloads_in now) → EachFrom from (past' ++ now' ∷ []) (λ c. IsPrefixOf (payloads_in now ++ payload ∷ []) (records c))
    → LeavesBeginnings from past' now' history (Some (halt.Disk n es))
leaves_failed from now past' now' history n es payload upgraded read stands same since i m c ge at is =
    subst (λ (model : List ℕ). IsBeginningOf model history (Some (halt.Disk n es)) (records c)) (sym same)
    (beginning_failed (payloads_in now) payload history es (Some (halt.Disk n es)) upgraded stands read refl (records c) (since i m c ge at is))

-- no moment went by
pub leaves_stands : (from : ℕ) (past : List Moment) (now : Moment) (past' : List Moment) (now' : Moment) (es : List Entry) (h : Option Halt) → NoMomentPasses past now past' now' → LeavesBeginnings from past now es h
    → LeavesBeginnings from past' now' es h
leaves_stands from past now past' now' es h stands all =
    subst (λ (m : Moment). LeavesBeginnings from past' m es h) (sym stands.same) (subst (λ (l : List Moment). LeavesBeginnings from l now es h) (sym stands.none) all)

-- ---- while one event is added
-- a prefix of payloads that begins with all of them is all of them
exact : (ps : List (List ℕ)) (r : Records) → IsPrefixOf ps r → BeginsWith ps r → r ≡ Intact ps
exact ps r prefix begins = prefix ∙ ap Intact (sym (take_all (length ps) (take (count_of r) ps) short) ∙ whole)
  where
    short : length (take (count_of r) ps) ≤ length ps
    short = omega (arith, length-take (count_of r) ps)

    whole : take (length ps) (take (count_of r) ps) ≡ ps
    whole = ap payloads_held (sym (ap (λ (x : Records). first_of (length ps) x) prefix) ∙ begins)

-- where no call is made, a crash leaves the payloads that are there
pub none_added : (from : ℕ) (past : List Moment) (now : Moment) (fault : Option ℕ) (p : List ℕ) → KeepsHistory from past now (payloads_in now) fault → fault ≡ None → Keeps (payloads_in now) now
    → LeavesOnly past now past now (IsWithOrWithout (payloads_in now) p)
none_added from past now fault p kept sound keeps =
    started past now (IsWithOrWithout (payloads_in now) p)
    (λ c is. inl (exact (payloads_in now) (records c) (kept.prefixes sound (length past) now c kept.begun (get_seam past now []) is) (keeps c is)))

-- the last moment of a run
last_of : Moment → List Moment → Moment
last_of m [] = m
last_of m (n ∷ ns) = last_of n ns

last_push : (d : Moment) (ms : List Moment) (n : Moment) → last_of d (ms ++ n ∷ []) ≡ n
unfolding last_of
last_push d [] n = refl
last_push d (m ∷ ms) n = last_push m ms n

last_behind : (d : Moment) (ms : List Moment) (n : Moment) (ns : List Moment) → last_of d (ms ++ n ∷ ns) ≡ last_of n ns
unfolding last_of
last_behind d [] n ns = refl
last_behind d (m ∷ ms) n ns = last_behind m ms n ns

leaves_last : (P : List ℕ → Type 0) (m : Moment) (ms : List Moment) → Leaves P (m ∷ ms) → (c : List ℕ) → IsImage (last_of m ms) c → P c
unfolding last_of
leaves_last P m [] all c is = all.0 c is
leaves_last P m (n ∷ ns) all c is = leaves_last P n ns all.1 c is

run_last : (past : List Moment) (now : Moment) (past' : List Moment) (now' : Moment) (P : List ℕ → Type 0) → LeavesOnly past now past' now' P → (c : List ℕ) → IsImage now' c → P c
run_last past now past' now' P run c is =
    leaves_last P now run.moments run.each c
    (subst (λ (m : Moment). IsImage m c) (sym (last_push now past' now') ∙ ap (λ (l : List Moment). last_of now l) run.passed ∙ last_behind now past now run.moments) is)

-- What a read gives is as before, or with the new payload: so the model's record stays.
module _ (past : List Moment) (now : Moment) (past' : List Moment) (now' : Moment) (history : List Entry) (p : List ℕ) (stands : IsJournalOf (payloads_in now) history) where
  pub model_kept : LeavesOnly past now past' now' (IsWithOrWithout (payloads_in now) p) → IsImage now' now'.seen → model_in (payloads_in now') ≡ model_in (payloads_in now)
  unfolding payloads_in
  model_kept run is = ⊎_elim
      (λ old. ap (λ (r : Records). model_in (payloads_held r)) old)
      (λ new. ap (λ (r : Records). model_in (payloads_held r)) new ∙ model_stays (payloads_in now) p (journaled history) stands)
      (run_last past now past' now' (IsWithOrWithout (payloads_in now) p) run now'.seen is)

  -- the disk failed while the payload was added
  pub stands_failed : (n : ℕ) (es : List Event) → is_upgraded (payloads_in now) ≡ true → group_of Two p ≡ Ok es → LeavesOnly past now past' now' (IsWithOrWithout (payloads_in now) p) → IsImage now' now'.seen
      → IsJournalAfter (payloads_in now') history (Some (halt.Disk n es))
  unfolding payloads_in
  stands_failed n es upgraded read run is = ∣ ⊎_elim
      (λ old. inl (ap (λ (r : Records). journal_entries (payloads_held r)) old ∙ stands))
      (λ new. inr (ap (λ (r : Records). journal_entries (payloads_held r)) new ∙ journal_more (payloads_in now) p (journaled history) es upgraded stands read))
      (run_last past now past' now' (IsWithOrWithout (payloads_in now) p) run now'.seen is) ∣₁

-- What a read gives has the record of the upgrade still.
pub upgraded_kept : (past : List Moment) (now : Moment) (past' : List Moment) (now' : Moment) (p : List ℕ) → is_upgraded (payloads_in now) ≡ true
    → LeavesOnly past now past' now' (IsWithOrWithout (payloads_in now) p) → IsImage now' now'.seen → is_upgraded (payloads_in now') ≡ true
unfolding payloads_in
upgraded_kept past now past' now' p upgraded run is = ⊎_elim
    (λ old. ap (λ (r : Records). is_upgraded (payloads_held r)) old ∙ upgraded)
    (λ new. ap (λ (r : Records). is_upgraded (payloads_held r)) new ∙ upgraded_more (payloads_in now) p upgraded)
    (run_last past now past' now' (IsWithOrWithout (payloads_in now) p) run now'.seen is)
