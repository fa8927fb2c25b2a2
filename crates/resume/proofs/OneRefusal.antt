-- What is refused is refused for one reason.
use Rattle.std.specs.Prelude.{◌≡◌, ◌⊎◌, ℕ, zero, suc, ◌<◌, true, List, [], ◌∷◌, take, slice_get, slice_index, Some, refl}
use Rattle.std.proofs.Common.{arith, sym, ◌∙◌, ap, subst, inl, inr}
use Rattle.std.proofs.lemmas.Bool.{cases_order}
use Rattle.std.proofs.lemmas.List.{take-take}
use Rattle.std.proofs.lemmas.Option.{same_Some}
use Rattle.event_codec.specs.Laws.{RecordsTellApart}
use Rattle.node_journal.specs.Frames.{places_from}
use Rattle.node_journal.specs.Records.{Records, Intact, Foreign, BrokenAt, records}
use Rattle.node_pool.specs.Payloads.{entries_in, model_in}
use Rattle.resume.specs.declared.fault.ResumeFault.{ResumeFault}
use Rattle.resume.specs.declared.fault.ResumeFault.TheVariants as fault
use Rattle.resume.specs.Models.{IsModelOf, IsOtherModel, DiffersFirstAt}
use Rattle.resume.specs.Journals.{StandsFor, IsDamagedAt, IsDamagedModel, IsDamagedEvent}
use Rattle.resume.specs.Refusals.{is_refusal, IsDamagedFor, Refuses, RefusesPayloads, RefusesPayloadsFor}
use Rattle.resume.specs.Laws.{StandsForOne, OneRefusal}
use Rattle.resume.specs.Lemmas.OneModel.{one_model}
use Rattle.resume.proofs.Prefixes.{model_of_front}
use Rattle.resume.proofs.Unrefused.{same_payloads, no_other, none_inside, damaged_at}

-- ---- one search
pub stands_for_one : RecordsTellApart → StandsForOne
stands_for_one law ps p q es fs a b =
    let whole : model_in ps ∷ a.rest ≡ model_in ps ∷ b.rest = sym a.parts ∙ b.parts in
    let rest : b.rest ≡ a.rest = cc in
    (one_model law (model_in ps) p q a.model b.model, same_Some es fs (sym a.read.written ∙ subst (λ (l : List (List ℕ)). entries_in l ≡ Some fs) rest b.read.written))

-- ---- the first of a list
get_take : (xs : List ℕ) (m n : ℕ) → n < m → slice_get (take m xs) n ≡ slice_get xs n
get_take [] zero n lt = refl
get_take [] (suc m) n lt = refl
get_take (x ∷ xs) zero n lt = absurd (omega (arith, lt))
get_take (x ∷ xs) (suc m) zero lt = refl
get_take (x ∷ xs) (suc m) (suc n) lt = get_take xs m n (omega (arith, lt))

-- ---- one place at which two payloads differ first
no_earlier : (a b : List ℕ) (at later : ℕ) → at < later → DiffersFirstAt a b at → DiffersFirstAt a b later → ⊥
no_earlier a b at later lt here there = here.differs (sym (get_take a later at lt) ∙ ap (λ (l : List ℕ). slice_get l at) there.same ∙ get_take b later at lt)

one_difference : (a b : List ℕ) (at at2 : ℕ) → DiffersFirstAt a b at → DiffersFirstAt a b at2 → at ≡ at2
one_difference a b at at2 x y = elim (cases_order at at2) [
  | inl same ↦ same
  | inr other ↦ elim other [ inl lt ↦ absurd (no_earlier a b at at2 lt x y) | inr gt ↦ absurd (no_earlier a b at2 at gt y x) ]
]

-- ---- one damaged payload
model_or_event : (ps : List (List ℕ)) (at at2 : ℕ) → IsDamagedModel ps at → IsDamagedEvent ps at2 → ⊥
model_or_event ps at at2 m e = m.none e.problem (subst (λ (l : List ℕ). IsModelOf l e.problem) (model_of_front ps e.number e.problem e.events e.before) e.before.model)

no_earlier_event : RecordsTellApart → (ps : List (List ℕ)) (at at2 : ℕ) (e : IsDamagedEvent ps at) (f : IsDamagedEvent ps at2) → e.number < f.number → ⊥
no_earlier_event law ps at at2 e f lt =
    damaged_at law f.problem e.problem (take f.number ps) f.events e.events e.number f.before
    (subst (λ (l : List (List ℕ)). StandsFor e.problem l e.events) (sym (take-take e.number f.number ps (omega (arith, lt)))) e.before)
    (λ gs stands. e.none gs (subst (λ (l : List (List ℕ)). StandsFor e.problem l gs) (take-take (suc e.number) f.number ps (omega (arith, lt))) stands))

one_event : RecordsTellApart → (ps : List (List ℕ)) (at at2 : ℕ) → IsDamagedEvent ps at → IsDamagedEvent ps at2 → at ≡ at2
one_event law ps at at2 e f = elim (cases_order e.number f.number) [
  | inl same ↦ e.place ∙ ap (λ (n : ℕ). slice_index (places_from 8 ps) n) same ∙ sym f.place
  | inr other ↦ elim other [ inl lt ↦ absurd (no_earlier_event law ps at at2 e f lt) | inr gt ↦ absurd (no_earlier_event law ps at2 at f e gt) ]
]

one_damage : RecordsTellApart → (ps : List (List ℕ)) (at at2 : ℕ) → IsDamagedAt ps at → IsDamagedAt ps at2 → at ≡ at2
one_damage law ps at at2 (inl a) (inl b) = a.place ∙ sym b.place
one_damage law ps at at2 (inl a) (inr b) = absurd (model_or_event ps at at2 a b)
one_damage law ps at at2 (inr a) (inl b) = absurd (model_or_event ps at2 at b a)
one_damage law ps at at2 (inr a) (inr b) = one_event law ps at at2 a b

damaged_for : (model : List ℕ) (ps : List (List ℕ)) (at : ℕ) → IsDamagedFor model ps at → IsDamagedAt ps at
damaged_for model ps at (inl m) = inl m
damaged_for model ps at (inr e) = inr e.1

none_damaged : (ps : List (List ℕ)) (at : ℕ) → ps ≡ [] → IsDamagedAt ps at → ⊥
none_damaged ps at none (inl m) = none_inside ps 0 none m.some
none_damaged ps at none (inr e) = none_inside ps e.number none e.inside

not_both : (model : List ℕ) (ps : List (List ℕ)) (at at2 : ℕ) → IsOtherModel model (model_in ps) at → IsDamagedFor model ps at2 → ⊥
not_both model ps at at2 o (inl m) = m.none o.problem o.is
not_both model ps at at2 o (inr e) = no_other model (model_in ps) at e.0 o

-- ---- one refusal
damage_places : (P : List (List ℕ) → ℕ → Type 0) → ((ps : List (List ℕ)) (at at2 : ℕ) → P ps at → P ps at2 → at ≡ at2) → (r : Records) (at at2 : ℕ)
    → (r ≡ BrokenAt at) ⊎ ((ps : List (List ℕ)) × (r ≡ Intact ps) × P ps at) → (r ≡ BrokenAt at2) ⊎ ((ps : List (List ℕ)) × (r ≡ Intact ps) × P ps at2) → at ≡ at2
damage_places P one r at at2 (inl a) (inl b) = let same : BrokenAt at ≡ BrokenAt at2 = sym a ∙ b in cc
damage_places P one r at at2 (inl a) (inr b) = let same : BrokenAt at ≡ Intact b.0 = sym a ∙ b.1 in absurd cc
damage_places P one r at at2 (inr a) (inl b) = let same : BrokenAt at2 ≡ Intact a.0 = sym b ∙ a.1 in absurd cc
damage_places P one r at at2 (inr a) (inr b) = one a.0 at at2 a.2 (subst (λ (l : List (List ℕ)). P l at2) (same_payloads a.0 b.0 r a.1 b.1) b.2)

module _ (law : RecordsTellApart) where
  one_of_any : (r : Records) (f g : ResumeFault) → is_refusal f ≡ true → is_refusal g ≡ true → Refuses RefusesPayloads f r → Refuses RefusesPayloads g r → f ≡ g
  one_of_any r fault.Disk g is is2 h k = absurd cc
  one_of_any r fault.Memory g is is2 h k = absurd cc
  one_of_any r f fault.Disk is is2 h k = absurd cc
  one_of_any r f fault.Memory is is2 h k = absurd cc
  one_of_any r (fault.OtherModel at) g is is2 h k = absurd h.2
  one_of_any r f (fault.OtherModel at) is is2 h k = absurd k.2
  one_of_any r fault.NotAJournal fault.NotAJournal is is2 h k = refl
  one_of_any r fault.NoModel fault.NoModel is is2 h k = refl
  one_of_any r fault.NotAJournal fault.NoModel is is2 h k = let same : Foreign ≡ Intact k.0 = sym h ∙ k.1 in absurd cc
  one_of_any r fault.NoModel fault.NotAJournal is is2 h k = let same : Foreign ≡ Intact h.0 = sym k ∙ h.1 in absurd cc
  one_of_any r fault.NotAJournal (fault.Damaged at) is is2 h (inl k) = let same : Foreign ≡ BrokenAt at = sym h ∙ k in absurd cc
  one_of_any r fault.NotAJournal (fault.Damaged at) is is2 h (inr k) = let same : Foreign ≡ Intact k.0 = sym h ∙ k.1 in absurd cc
  one_of_any r (fault.Damaged at) fault.NotAJournal is is2 (inl h) k = let same : Foreign ≡ BrokenAt at = sym k ∙ h in absurd cc
  one_of_any r (fault.Damaged at) fault.NotAJournal is is2 (inr h) k = let same : Foreign ≡ Intact h.0 = sym k ∙ h.1 in absurd cc
  one_of_any r fault.NoModel (fault.Damaged at) is is2 h (inl k) = let same : BrokenAt at ≡ Intact h.0 = sym k ∙ h.1 in absurd cc
  one_of_any r fault.NoModel (fault.Damaged at) is is2 h (inr k) = absurd (none_damaged k.0 at (same_payloads h.0 k.0 r h.1 k.1 ∙ h.2) k.2)
  one_of_any r (fault.Damaged at) fault.NoModel is is2 (inl h) k = let same : BrokenAt at ≡ Intact k.0 = sym h ∙ k.1 in absurd cc
  one_of_any r (fault.Damaged at) fault.NoModel is is2 (inr h) k = absurd (none_damaged h.0 at (same_payloads k.0 h.0 r k.1 h.1 ∙ k.2) h.2)
  one_of_any r (fault.Damaged at) (fault.Damaged at2) is is2 h k = ap fault.Damaged (damage_places IsDamagedAt (one_damage law) r at at2 h k)

  one_place : (model : List ℕ) (ps : List (List ℕ)) (at at2 : ℕ) → IsDamagedFor model ps at → IsDamagedFor model ps at2 → at ≡ at2
  one_place model ps at at2 a b = one_damage law ps at at2 (damaged_for model ps at a) (damaged_for model ps at2 b)

  one_of_own : (model : List ℕ) (r : Records) (f g : ResumeFault) → is_refusal f ≡ true → is_refusal g ≡ true → Refuses (RefusesPayloadsFor model) f r → Refuses (RefusesPayloadsFor model) g r → f ≡ g
  one_of_own model r fault.Disk g is is2 h k = absurd cc
  one_of_own model r fault.Memory g is is2 h k = absurd cc
  one_of_own model r f fault.Disk is is2 h k = absurd cc
  one_of_own model r f fault.Memory is is2 h k = absurd cc
  one_of_own model r fault.NoModel g is is2 h k = absurd h.2
  one_of_own model r f fault.NoModel is is2 h k = absurd k.2
  one_of_own model r fault.NotAJournal fault.NotAJournal is is2 h k = refl
  one_of_own model r fault.NotAJournal (fault.Damaged at) is is2 h (inl k) = let same : Foreign ≡ BrokenAt at = sym h ∙ k in absurd cc
  one_of_own model r fault.NotAJournal (fault.Damaged at) is is2 h (inr k) = let same : Foreign ≡ Intact k.0 = sym h ∙ k.1 in absurd cc
  one_of_own model r (fault.Damaged at) fault.NotAJournal is is2 (inl h) k = let same : Foreign ≡ BrokenAt at = sym k ∙ h in absurd cc
  one_of_own model r (fault.Damaged at) fault.NotAJournal is is2 (inr h) k = let same : Foreign ≡ Intact h.0 = sym k ∙ h.1 in absurd cc
  one_of_own model r fault.NotAJournal (fault.OtherModel at) is is2 h k = let same : Foreign ≡ Intact k.0 = sym h ∙ k.1 in absurd cc
  one_of_own model r (fault.OtherModel at) fault.NotAJournal is is2 h k = let same : Foreign ≡ Intact h.0 = sym k ∙ h.1 in absurd cc
  one_of_own model r (fault.OtherModel at) (fault.Damaged at2) is is2 h (inl k) = let same : BrokenAt at2 ≡ Intact h.0 = sym k ∙ h.1 in absurd cc
  one_of_own model r (fault.OtherModel at) (fault.Damaged at2) is is2 h (inr k) =
      absurd (not_both model h.0 at at2 h.2.1 (subst (λ (l : List (List ℕ)). IsDamagedFor model l at2) (same_payloads h.0 k.0 r h.1 k.1) k.2))
  one_of_own model r (fault.Damaged at) (fault.OtherModel at2) is is2 (inl h) k = let same : BrokenAt at ≡ Intact k.0 = sym h ∙ k.1 in absurd cc
  one_of_own model r (fault.Damaged at) (fault.OtherModel at2) is is2 (inr h) k =
      absurd (not_both model k.0 at2 at k.2.1 (subst (λ (l : List (List ℕ)). IsDamagedFor model l at) (same_payloads k.0 h.0 r k.1 h.1) h.2))
  one_of_own model r (fault.OtherModel at) (fault.OtherModel at2) is is2 h k =
      let differs : DiffersFirstAt (model_in h.0) model at2 = subst (λ (l : List (List ℕ)). DiffersFirstAt (model_in l) model at2) (same_payloads h.0 k.0 r h.1 k.1) k.2.1.differs in
      ap fault.OtherModel (one_difference (model_in h.0) model at at2 h.2.1.differs differs)
  one_of_own model r (fault.Damaged at) (fault.Damaged at2) is is2 h k = ap fault.Damaged (damage_places (IsDamagedFor model) (one_place model) r at at2 h k)

  pub one_refusal : OneRefusal
  one_refusal = record { any = λ c. one_of_any (records c); own = λ model c. one_of_own model (records c) }
