-- Nodes that are open, one by one.
use Rattle.std.specs.Prelude.{◌≡◌, ◌⊎◌, ◌<◌, ◌+◌, ℕ, zero, suc, Bool, true, false, not, cond, List, [], ◌∷◌, ◌++◌, length, slice_set, refl}
use Rattle.std.proofs.Common.{ap, ◌∙◌, inl, inr, arith}
use Rattle.std.proofs.lemmas.List.Sums.{sum_by-cons}
use Rattle.event_core.specs.Lemmas.Ended.{is_left, count, count-ended}

-- a node that ends is open no more
pub not_left : (es : List Bool) (i : ℕ) → is_left (slice_set es i true) i ≡ true → ⊥
not_left [] i h = cc
not_left (e ∷ es) zero h = cc
not_left (e ∷ es) (suc i) h = not_left es i h

-- what is open after a node has ended was open before
pub left_before : (es : List Bool) (i k : ℕ) → is_left (slice_set es i true) k ≡ true → is_left es k ≡ true
left_before [] i k h = h
left_before (e ∷ es) zero zero h = cc
left_before (e ∷ es) zero (suc k) h = h
left_before (e ∷ es) (suc i) zero h = h
left_before (e ∷ es) (suc i) (suc k) h = left_before es i k h

-- two nodes more
pub first_left : (es fs : List Bool) (n : ℕ) → length es ≡ n → is_left (es ++ false ∷ fs) n ≡ true
first_left [] fs zero h = refl
first_left [] fs (suc n) h = absurd (omega (arith, h))
first_left (e ∷ es) fs zero h = absurd (omega (arith, h))
first_left (e ∷ es) fs (suc n) h = first_left es fs n (omega (arith, h))

pub second_left : (es : List Bool) (n : ℕ) → length es ≡ n → is_left (es ++ false ∷ false ∷ []) (n + 1) ≡ true
second_left es n h = ap (λ k. is_left (es ++ false ∷ false ∷ []) k) (let e : n + 1 ≡ suc n = omega arith in e) ∙ behind es n h
  where
    behind : (es : List Bool) (n : ℕ) → length es ≡ n → is_left (es ++ false ∷ false ∷ []) (suc n) ≡ true
    behind [] zero h = refl
    behind [] (suc n) h = absurd (omega (arith, h))
    behind (e ∷ es) zero h = absurd (omega (arith, h))
    behind (e ∷ es) (suc n) h = behind es n (omega (arith, h))

pub which_left : (es : List Bool) (n k : ℕ) → length es ≡ n → is_left (es ++ false ∷ false ∷ []) k ≡ true → is_left es k ≡ true ⊎ ((k ≡ n) ⊎ (k ≡ n + 1))
which_left [] n zero l h = inr (inl (omega (arith, l)))
which_left [] n (suc zero) l h = inr (inr (omega (arith, l)))
which_left [] n (suc (suc k)) l h = cc
which_left (e ∷ es) zero k l h = absurd (omega (arith, l))
which_left (e ∷ es) (suc n) zero l h = inl h
which_left (e ∷ es) (suc n) (suc k) l h = elim (which_left es n k (omega (arith, l)) h) [
  | inl q ↦ inl q
  | inr q ↦ inr (elim q [ inl a ↦ inl (omega (arith, a)) | inr a ↦ inr (omega (arith, a)) ])
]

-- ---- how many
pub none_open : (es : List Bool) → ((k : ℕ) → is_left es k ≡ true → ⊥) → count es ≡ 0
none_open [] h = refl
none_open (false ∷ es) h = absurd (h zero refl)
none_open (true ∷ es) h =
    let c = sum_by-cons (λ (b : Bool). cond (not b) 1 0) true es in
    let r = none_open es (λ k q. h (suc k) q) in
    omega (arith, c, r)

pub some_open : (es : List Bool) (i : ℕ) → is_left es i ≡ true → 0 < count es
some_open es i h = omega (arith, count-ended es i h)
