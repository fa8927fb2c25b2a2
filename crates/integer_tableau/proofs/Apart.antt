-- Where variables are after a pivot: each column is still that of one variable, which is at its place of the nonbasic ones.
use Rattle.std.proofs.Common.{◌≡◌, ◌≢◌, ℕ, ◌<◌, arith, ap, sym, ◌∙◌, ◌⊎◌, List, length, get_or, set, inl, inr, get_or-set_other, get_or-set_same}
use Rattle.std.proofs.lemmas.Bool.{cases_eq}
use Rattle.std.proofs.lemmas.List.{length-set}
use Rattle.integer_tableau.proofs.Exchanges.{positions_exchanged}
use Rattle.integer_tableau.specs.Positions.{AreNonbasic, IsColumnOf}
use Rattle.integer_tableau.specs.declared.position.Position.{Position}
use Rattle.integer_tableau.specs.declared.position.Position.TheVariants.{InBasis, InColumn}

module _ (positions : List Position) (r c k : ℕ) (at_c : get_or positions c InBasis ≡ InColumn k) (at_r : get_or positions r InBasis ≡ InBasis) (c_there : c < length positions) (r_there : r < length positions) where
  abbrev after : List Position
  after = positions_exchanged r c k positions

  pub they_differ : c ≢ r
  they_differ e = let f : InBasis ≡ InColumn k = sym at_r ∙ ap (λ v. get_or positions v InBasis) (sym e) ∙ at_c in cc

  pub other_stays : (v : ℕ) → v ≢ r → v ≢ c → get_or after v InBasis ≡ get_or positions v InBasis
  other_stays v m n = get_or-set_other (set positions r (InColumn k)) c v InBasis InBasis n ∙ get_or-set_other positions r v (InColumn k) InBasis m

  pub entering_basic : get_or after c InBasis ≡ InBasis
  entering_basic = get_or-set_same (set positions r (InColumn k)) c InBasis InBasis (omega (arith, c_there, length-set positions r (InColumn k)))

  pub leaving_there : get_or after r InBasis ≡ InColumn k
  leaving_there = get_or-set_other (set positions r (InColumn k)) c r InBasis InBasis (λ e. they_differ (sym e)) ∙ get_or-set_same positions r (InColumn k) InBasis r_there

  pub in_column : (v j : ℕ) → get_or after v InBasis ≡ InColumn j → ((v ≡ r) × (j ≡ k)) ⊎ ((v ≢ r) × (v ≢ c) × (get_or positions v InBasis ≡ InColumn j))
  in_column v j q = elim (cases_eq v c) [
    | inl e ↦ absurd (let f : InBasis ≡ InColumn j = sym entering_basic ∙ ap (λ u. get_or after u InBasis) (sym e) ∙ q in cc)
    | inr n ↦ elim (cases_eq v r) [
      | inl e ↦ inl (e, let f : InColumn k ≡ InColumn j = sym leaving_there ∙ ap (λ u. get_or after u InBasis) (sym e) ∙ q in cc)
      | inr m ↦ inr (m, n, sym (other_stays v m n) ∙ q)
    ]
  ]

  pub apart_after : ((v j : ℕ) → get_or positions v InBasis ≡ InColumn j → IsColumnOf positions v j) → (v j : ℕ) → get_or after v InBasis ≡ InColumn j → IsColumnOf after v j
  apart_after apart v j q u h = elim (in_column v j q) [
    | inl a ↦ elim (in_column u j h) [
      | inl e ↦ e.0 ∙ sym a.0
      | inr e ↦ absurd (e.1 (apart c k at_c u (e.2 ∙ ap InColumn a.1)))
    ]
    | inr a ↦ elim (in_column u j h) [
      | inl e ↦ absurd (a.1 (apart c k at_c v (a.2 ∙ ap InColumn e.1)))
      | inr e ↦ apart v j a.2 u e.2
    ]
  ]

  -- the leaving variable is written in the place of the entering one
  pub nonbasic_after : (nonbasic : List ℕ) → AreNonbasic positions nonbasic → AreNonbasic after (set nonbasic k r)
  nonbasic_after nonbasic are = record { there = there; all = all }
    where
      same_width : length (set nonbasic k r) ≡ length nonbasic
      same_width = length-set nonbasic k r

      at_k : get_or (set nonbasic k r) k 0 ≡ r
      at_k = get_or-set_same nonbasic k r 0 (are.all c k at_c).0

      others : (j : ℕ) → j ≢ k → get_or (set nonbasic k r) j 0 ≡ get_or nonbasic j 0
      others j n = get_or-set_other nonbasic k j r 0 n

      stays : (j : ℕ) → j ≢ k → j < length nonbasic → get_or after (get_or nonbasic j 0) InBasis ≡ InColumn j
      stays j n l =
          let old = are.there j l in
          other_stays (get_or nonbasic j 0)
          (λ e. let f : InBasis ≡ InColumn j = sym at_r ∙ ap (λ v. get_or positions v InBasis) (sym e) ∙ old in cc)
          (λ e. n (let f : InColumn j ≡ InColumn k = sym old ∙ ap (λ v. get_or positions v InBasis) e ∙ at_c in cc)) ∙ old

      there : (j : ℕ) → j < length (set nonbasic k r) → get_or after (get_or (set nonbasic k r) j 0) InBasis ≡ InColumn j
      there j l = elim (cases_eq j k) [
        | inl e ↦ ap (λ v. get_or after v InBasis) (ap (λ i. get_or (set nonbasic k r) i 0) e ∙ at_k) ∙ leaving_there ∙ ap InColumn (sym e)
        | inr n ↦ ap (λ v. get_or after v InBasis) (others j n) ∙ stays j n (omega (arith, l, same_width))
      ]

      all : (v j : ℕ) → get_or after v InBasis ≡ InColumn j → (j < length (set nonbasic k r)) × (get_or (set nonbasic k r) j 0 ≡ v)
      all v j q = elim (in_column v j q) [
        | inl e ↦ (let l = (are.all c k at_c).0 in omega (arith, l, same_width, e.1), ap (λ i. get_or (set nonbasic k r) i 0) e.1 ∙ at_k ∙ sym e.0)
        | inr e ↦
            let old = are.all v j e.2 in
            (omega (arith, old.0, same_width), others j (λ m. e.1 (sym old.1 ∙ ap (λ i. get_or nonbasic i 0) m ∙ (are.all c k at_c).1)) ∙ old.1)
      ]
