-- What a journal keeps, over one call.
use Rattle.std.specs.Prelude.{◌≡◌, ℕ, ◌≤◌, true, List, [], ◌∷◌, ◌++◌, length, Option, Some, None}
use Rattle.std.proofs.Common.{arith, ap, refl, subst, sym, ◌∙◌}
use Rattle.std.proofs.lemmas.List.{append-nil, take_all}
use Rattle.std.proofs.lemmas.Option.{none-some}
use Rattle.std.specs.List.{list_all}
use Rattle.outside.specs.Images.{IsImage, LeavesOnly, NoMomentPasses, resting}
use Rattle.outside.specs.Lemmas.SeenIsImage.{rests}
use Rattle.outside.specs.declared.moment.Moment.{Moment}
use Rattle.node_journal.specs.Appends.{IsWithOrWithout}
use Rattle.node_journal.specs.Frames.{file_of, has_small_length}
use Rattle.node_journal.specs.History.{EachFrom, SomeFrom, RemainsFrom, BeginsWith, IsPrefixOf, Keeps, IsHistory, KeepsHistory}
use Rattle.node_journal.specs.Lemmas.Histories.{prefix_more, longer, prefixes_grow, history_grows, kept_stands}
use Rattle.node_journal.specs.Records.{Intact, records}
use Rattle.node_journal.proofs.Ends.{before_records}
use Rattle.node_journal.specs.Lemmas.Resting.{rested}

module _ (from : ℕ) (past : List Moment) (now : Moment) (file : List ℕ) (ps : List (List ℕ)) (p : List ℕ) (small : list_all has_small_length ps ≡ true)
    (whole : file ≡ file_of ps) (rest : now ≡ resting file) (kept : KeepsHistory from past now ps None) where
  here : (c : List ℕ) × IsImage now c × (records c ≡ Intact ps)
  here = (file, subst (λ m. IsImage m file) (sym rest) (rests file), before_records ps file file small whole ([], sym (append-nil file)))

  -- the call was made
  module _ (past' : List Moment) (now' : Moment) (run : LeavesOnly past now past' now' (IsWithOrWithout ps p)) (without : SomeFrom (length past) past' (λ c. records c ≡ Intact ps)) where
    pub since : EachFrom from (past' ++ now' ∷ []) (λ c. IsPrefixOf (ps ++ p ∷ []) (records c))
    since = prefixes_grow from past now past' now' ps p kept.history (kept.prefixes refl) kept.begun run without here

    still : from ≤ length past'
    still = omega (arith, kept.begun, longer past now past' now' (IsWithOrWithout ps p) run)

    module _ (remains : RemainsFrom (length past) (past' ++ now' ∷ []) (λ c. records c ≡ Intact (ps ++ p ∷ []))) (seen : IsImage now' now'.seen) where
      grows : IsHistory from (past' ++ now' ∷ [])
      grows = history_grows from past now past' now' ps p kept.history (kept.prefixes refl) kept.begun run without here remains seen

      pub kept_added : (ps' : List (List ℕ)) (fault : Option ℕ) → ps' ≡ ps ++ p ∷ [] → KeepsHistory from past' now' ps' fault
      kept_added ps' fault added = record {
        begun = still;
        history = grows;
        prefixes = λ sound. subst (λ (l : List (List ℕ)). EachFrom from (past' ++ now' ∷ []) (λ c. IsPrefixOf l (records c))) (sym added) since;
      }

      pub kept_failed : (ps' : List (List ℕ)) (n : ℕ) → KeepsHistory from past' now' ps' (Some n)
      kept_failed ps' n = record { begun = still; history = grows; prefixes = λ sound. absurd (none-some n (sym sound)) }

  -- it was not
  pub since_none : (past' : List Moment) (now' : Moment) → NoMomentPasses past now past' now' → EachFrom from (past' ++ now' ∷ []) (λ c. IsPrefixOf (ps ++ p ∷ []) (records c))
  since_none past' now' stands i m c ge at is = prefix_more ps (p ∷ []) (records c) ((kept_stands from past now past' now' ps None kept stands).prefixes refl i m c ge at is)

-- A journal at rest keeps all of its payloads.
pub all_held : (now : Moment) (file : List ℕ) (ps : List (List ℕ)) → list_all has_small_length ps ≡ true → file ≡ file_of ps → now ≡ resting file → Keeps ps now
all_held now file ps small whole rest c is = subst (λ r. BeginsWith ps r) (sym (before_records ps file c small whole ([], same ∙ sym (append-nil file)))) (ap Intact (take_all (length ps) ps (omega arith)))
  where
    same : c ≡ file
    same = rested file c (subst (λ m. IsImage m c) rest is)
