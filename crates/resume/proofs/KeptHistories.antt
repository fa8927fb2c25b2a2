-- What a disk keeps from the first moment of a call that opens its journal.
use Rattle.std.specs.Prelude.{◌≡◌, ℕ, ◌≤◌, Bool, true, false, List, [], ◌∷◌, ◌++◌, length, take, Option, Some, None, refl}
use Rattle.std.proofs.Common.{arith, sym, ◌∙◌, ap, subst, length-append}
use Rattle.std.proofs.lemmas.Option.{slice_get_within}
use Rattle.outside.specs.Images.{IsImage, AtRest, LeavesOnly, NoMomentPasses}
use Rattle.outside.specs.declared.moment.Moment.{Moment}
use Rattle.node_journal.specs.History.{SomeFrom, BeginsWith, IsPrefixOf, Keeps, ExtendsMoments, IsHistory, KeepsHistory}
use Rattle.node_journal.specs.Records.{Records, Intact, Foreign, BrokenAt, payloads_held, records}
use Rattle.node_journal.specs.Whole.{payloads_in}
use Rattle.node_journal.specs.Lemmas.Histories.{get_seam, some_stands, remains_each, remains_stands}
use Rattle.node_journal.specs.Lemmas.Opening.{kept_opened}
use Rattle.resume.specs.Crashes.{LeavesHistory}
use Rattle.resume.specs.Lemmas.Histories.{keeps_joined}
use Rattle.resume.proofs.Recovering.{untouched}

-- at each moment a crash left what was there
pub unchanged : (past past' : List Moment) (now now' : Moment) (ps qs : List (List ℕ)) → records now.seen ≡ Intact ps → qs ≡ ps → LeavesOnly past now past' now' (λ c. records c ≡ records now.seen)
    → SomeFrom (length past) past' (λ c. records c ≡ records now.seen) → IsImage now' now'.seen → KeepsHistory (length past) past' now' qs None
unchanged past past' now now' ps qs holds same run some seen =
    kept_opened (length past) past now past' now' qs (records now.seen) (holds ∙ ap Intact (sym same)) refl run some (remains_each past now past' now' (records now.seen) run some seen)

-- what a call leaves whose disk did not fail
pub leaves : (from : ℕ) (past : List Moment) (now : Moment) (ps : List (List ℕ)) (failed : Bool) → ps ≡ payloads_in now → KeepsHistory from past now ps None → LeavesHistory from past now failed
leaves from past now ps failed same kept = record {
  history = kept.history;
  prefixes = λ sound i m c ge at is. subst (λ (l : List (List ℕ)). IsPrefixOf l (records c)) same (kept.prefixes refl i m c ge at is);
}

-- and of one whose disk did
pub leaves_failed : (from : ℕ) (past : List Moment) (now : Moment) → IsHistory from (past ++ now ∷ []) → LeavesHistory from past now true
leaves_failed from past now history = record { history = history; prefixes = λ sound. absurd cc }

held_there : (now : Moment) (ps : List (List ℕ)) → records now.seen ≡ Intact ps → ps ≡ payloads_in now
unfolding payloads_in
held_there now ps holds = sym (ap payloads_held holds)

-- no moment went by
pub untouched_history : (past past' : List Moment) (now now' : Moment) (ps : List (List ℕ)) (failed : Bool) → AtRest now → records now.seen ≡ Intact ps → NoMomentPasses past now past' now'
    → LeavesHistory (length past) past' now' failed
untouched_history past past' now now' ps failed rests holds stands =
    leaves (length past) past' now' ps failed (held_there now ps holds ∙ ap payloads_in (sym stands.same))
    (kept_opened (length past) past now past' now' ps (records now.seen) holds refl (untouched past past' now now' (λ c. records c ≡ records now.seen) rests refl stands)
    (some_stands past now past' now' (λ c. records c ≡ records now.seen) stands) (λ qs. remains_stands past now past' now' (λ c. BeginsWith qs (records c)) stands))

-- what the disk of a sound journal holds, each crash leaves
pub held_exactly : (now : Moment) → AtRest now → Keeps (payloads_in now) now → (c : List ℕ) → IsImage now c → records c ≡ Intact (payloads_in now)
unfolding payloads_in
held_exactly now rests keeps c is = ap records (rests c is) ∙ exact (records now.seen) (subst (λ (b : List ℕ). BeginsWith (payloads_held (records now.seen)) (records b)) (rests c is) (keeps c is))
  where
    exact : (r : Records) → BeginsWith (payloads_held r) r → r ≡ Intact (payloads_held r)
    exact (Intact ps) begins = refl
    exact Foreign begins = begins
    exact (BrokenAt place) begins = begins

-- ---- one call behind another
-- what each crash left before the second call, is there at its end
module _ (from since : ℕ) (past past' : List Moment) (now now' : Moment) (ps : List (List ℕ)) (first : KeepsHistory from past now ps None) (all : Keeps ps now)
    (extends : ExtendsMoments (past ++ now ∷ []) (past' ++ now' ∷ [])) (begun : since ≤ length past) (seen : IsImage now' now'.seen) where
  longer : length past ≤ length past'
  longer = omega (arith, slice_get_within (past' ++ now' ∷ []) (length past) now (extends (length past) now (get_seam past now [])), length-append past' (now' ∷ []))

  still_there : IsHistory since (past' ++ now' ∷ []) → take (length ps) (payloads_in now') ≡ ps
  unfolding payloads_in
  still_there history = begins (records now'.seen) (history.lasting (length past) (length past') now now' ps begun longer (extends (length past) now (get_seam past now [])) (get_seam past' now' []) all now'.seen seen)
    where
      begins : (r : Records) → BeginsWith ps r → take (length ps) (payloads_held r) ≡ ps
      begins (Intact qs) is = ap payloads_held is
      begins Foreign is = cc
      begins (BrokenAt place) is = cc

  pub kept_joined : (fault : Option ℕ) → KeepsHistory since past' now' (payloads_in now') fault → KeepsHistory from past' now' (payloads_in now') fault
  kept_joined fault next = keeps_joined from since past past' now now' ps first all extends begun (payloads_in now') fault next (λ sound. still_there next.history)

  pub leaves_joined : (failed : Bool) → LeavesHistory since past' now' failed → LeavesHistory from past' now' failed
  leaves_joined failed next = joined failed refl
    where
      -- as of a journal that failed, or did not
      kept : (fault : Option ℕ) → (fault ≡ None → failed ≡ false) → KeepsHistory from past' now' (payloads_in now') fault
      kept fault sound = kept_joined fault (record { begun = omega (arith, begun, longer); history = next.history; prefixes = λ none. next.prefixes (sound none) })

      joined : (b : Bool) → failed ≡ b → LeavesHistory from past' now' failed
      joined true is = let k = kept (Some 0) (λ none. absurd cc) in record { history = k.history; prefixes = λ sound. absurd cc }
      joined false is = let k = kept None (λ none. is) in record { history = k.history; prefixes = λ sound. k.prefixes refl }

pub sound_history : (from : ℕ) (past : List Moment) (now : Moment) (ps : List (List ℕ)) (fault : Option ℕ) → fault ≡ None → KeepsHistory from past now ps fault → KeepsHistory from past now ps None
sound_history from past now ps fault sound kept = subst (λ (f : Option ℕ). KeepsHistory from past now ps f) sound kept
