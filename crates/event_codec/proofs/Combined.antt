-- Fields behind one another, and what stands behind a tag.
use Rattle.std.proofs.Common.{◌≡◌, ℕ, Bool, cond, eqb, List, [], ◌∷◌, ◌++◌, Ok, refl, ap, subst, ◌∙◌, append_assoc, ◌⊎◌, inl, inr}
use Rattle.std.proofs.lemmas.Bool.Decides.{eqb_tells}
use Rattle.event_codec.specs.Places.{Place}
use Rattle.event_codec.specs.ReadResults.{Read, ◌>>=◌}
use Rattle.event_codec.proofs.Binds.{bind_ok, ok_then}
use Rattle.event_codec.proofs.Numbers.{IsBytes}
use Rattle.event_codec.proofs.Fields.{Takes, Takes-then, IsField, at_place}

-- what was taken behind a tag, with the tag
abbrev pub TakesBehind : {B : Type 0} → ℕ → (B → List ℕ) → (B → Type 0) → Place → Place → B → Type 0
TakesBehind tag spell Is p q y = Takes (tag ∷ p.rest) (spell y) q.rest × Is y

pub with_tag : (tag : ℕ) (bytes text rest : List ℕ) → Takes bytes text rest → Takes (tag ∷ bytes) (tag ∷ text) rest
with_tag tag bytes text rest t = record { parts = ap (λ (x : List ℕ). tag ∷ x) t.parts; rest_fits = t.rest_fits }

-- ---- one field, of which f makes the value
module _ {A B : Type 0} (r : Place → Read A) (s : A → List ℕ) (P : A → Type 0) (one : IsField r s P) (f : A → B) where
  abbrev pub made_of : Place → Read B
  made_of p = r p >>= λ a. Ok (f a.0, a.1)

  pub made_takes : (tag : ℕ) (spell : B → List ℕ) (Is : B → Type 0) → ((a : A) → spell (f a) ≡ tag ∷ s a) → ((a : A) → P a → Is (f a))
      → (p q : Place) (y : B) → IsBytes p.rest → made_of p ≡ Ok (y, q) → TakesBehind tag spell Is p q y
  made_takes tag spell Is spelled holds p q y fits e =
      let a = bind_ok (r p) (λ (x : A × Place). Ok (f x.0, x.1)) (y, q) e in
      let t = one.takes p a.0.1 a.0.0 fits a.1 in
      let taken : Takes (tag ∷ p.rest) (spell (f a.0.0)) a.0.1.rest = rw spelled (with_tag tag p.rest (s a.0.0) a.0.1.rest t.0) in
      ok_then (λ (x : B × Place). Takes (tag ∷ p.rest) (spell x.0) x.1.rest × Is x.0) (f a.0.0, a.0.1) (y, q) a.2 (taken, holds a.0.0 t.1)

  pub made_again : (a : A) (place : ℕ) (rest : List ℕ) → P a → (to : ℕ) × (made_of (at_place place (s a ++ rest)) ≡ Ok (f a, at_place to rest))
  made_again a place rest is = let t = one.again a place rest is in (t.0, rw t.1 refl)

-- ---- two fields
module _ {A B C : Type 0} (r : Place → Read A) (s : A → List ℕ) (P : A → Type 0) (one : IsField r s P)
    (r' : Place → Read B) (s' : B → List ℕ) (P' : B → Type 0) (two : IsField r' s' P') (f : A → B → C) where
  abbrev pub made_of_both : Place → Read C
  made_of_both p = r p >>= λ a. r' a.1 >>= λ b. Ok (f a.0 b.0, b.1)

  pub both_take : (tag : ℕ) (spell : C → List ℕ) (Is : C → Type 0) → ((a : A) (b : B) → spell (f a b) ≡ tag ∷ (s a ++ s' b)) → ((a : A) (b : B) → P a → P' b → Is (f a b))
      → (p q : Place) (y : C) → IsBytes p.rest → made_of_both p ≡ Ok (y, q) → TakesBehind tag spell Is p q y
  both_take tag spell Is spelled holds p q y fits e =
      let a = bind_ok (r p) (λ (x : A × Place). r' x.1 >>= λ b. Ok (f x.0 b.0, b.1)) (y, q) e in
      let b = bind_ok (r' a.0.1) (λ (x : B × Place). Ok (f a.0.0 x.0, x.1)) (y, q) a.2 in
      let t = one.takes p a.0.1 a.0.0 fits a.1 in
      let u = two.takes a.0.1 b.0.1 b.0.0 t.0.rest_fits b.1 in
      let joined = Takes-then p.rest (s a.0.0) a.0.1.rest (s' b.0.0) b.0.1.rest t.0 u.0 in
      let taken : Takes (tag ∷ p.rest) (spell (f a.0.0 b.0.0)) b.0.1.rest = rw spelled (with_tag tag p.rest (s a.0.0 ++ s' b.0.0) b.0.1.rest joined) in
      ok_then (λ (x : C × Place). Takes (tag ∷ p.rest) (spell x.0) x.1.rest × Is x.0) (f a.0.0 b.0.0, b.0.1) (y, q) b.2 (taken, holds a.0.0 b.0.0 t.1 u.1)

  pub both_again : (a : A) (b : B) (place : ℕ) (rest : List ℕ) → P a → P' b → (to : ℕ) × (made_of_both (at_place place ((s a ++ s' b) ++ rest)) ≡ Ok (f a b, at_place to rest))
  both_again a b place rest is is' =
      let t = one.again a place (s' b ++ rest) is in
      let u = two.again b t.0 rest is' in
      (u.0, rw (append_assoc (s a) (s' b) rest, t.1, u.1) refl)

-- ---- the test of a tag

-- the reader of this tag, or that of the others
pub tag_cases : {A : Type 0} (n k : ℕ) (here others : Read A) (y : A × Place) → cond (eqb n k) here others ≡ Ok y → ((n ≡ k) × (here ≡ Ok y)) ⊎ (others ≡ Ok y)
tag_cases n k here others y e = elim (eqb_tells n k) [
  | inl t ↦ inl (t.1, subst (λ (b : Bool). cond b here others ≡ Ok y) t.0 e)
  | inr t ↦ inr (subst (λ (b : Bool). cond b here others ≡ Ok y) t.0 e)
]

-- what was taken with its tag
pub at_tag : {B : Type 0} (spell : B → List ℕ) (Is : B → Type 0) (p p' q : Place) (n k : ℕ) (y : B) → Takes p.rest (n ∷ []) p'.rest → n ≡ k → TakesBehind k spell Is p' q y → Takes p.rest (spell y) q.rest × Is y
at_tag spell Is p p' q n k y t e behind =
    (record { parts = t.parts ∙ ap (λ (m : ℕ). m ∷ p'.rest) e ∙ behind.0.parts; rest_fits = behind.0.rest_fits }, behind.1)
