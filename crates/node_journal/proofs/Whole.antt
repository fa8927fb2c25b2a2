-- A file of payloads, kept whole.
use Rattle.std.specs.Prelude.{◌≡◌, ℕ, true, List, [], ◌∷◌, ◌++◌, take, refl}
use Rattle.std.proofs.Common.{ap, sym, ◌∙◌}
use Rattle.std.specs.List.{list_all}
use Rattle.node_journal.specs.Records.{mark}
use Rattle.node_journal.specs.Frames.{file_of, places_from, payloads_at, has_small_length}
use Rattle.node_journal.proofs.Framing.{payloads_are}
use Rattle.node_journal.specs.Index.{IsIndexed}

-- what stands behind the last open gate is replaced by a closed one
module _ (file places file' : List ℕ) (end : ℕ) (is : IsIndexed file places end) (cut : file' ≡ take end file ++ 0 ∷ []) where
  abbrev pub ps : List (List ℕ)
  ps = payloads_at file places

  is_file : file' ≡ file_of ps
  is_file = cut ∙ ap (λ (l : List ℕ). l ++ 0 ∷ []) is.prefix

  pub same : payloads_at file' places ≡ ps
  same = ap (λ (l : List ℕ). payloads_at l places) is_file ∙ ap (λ (l : List ℕ). payloads_at (file_of ps) l) is.places_are ∙ payloads_are mark ps (0 ∷ []) 8 refl is.small

  pub whole : file' ≡ file_of (payloads_at file' places)
  whole = is_file ∙ sym (ap file_of same)

  pub placed : places ≡ places_from 8 (payloads_at file' places)
  placed = is.places_are ∙ sym (ap (λ (l : List (List ℕ)). places_from 8 l) same)

  pub small : list_all has_small_length (payloads_at file' places) ≡ true
  small = ap (λ (l : List (List ℕ)). list_all has_small_length l) same ∙ is.small
