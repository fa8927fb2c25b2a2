-- The laws of reasons and proofs as fields.
use Rattle.std.proofs.Common.{◌≡◌, ℕ, Bool, cond, eqb, List, ◌++◌, Ok, Err, refl, inl, inr}
use Rattle.std.specs.List.{AllByRecursion}
use Rattle.fraction.specs.Rational.{ℚ}
use Rattle.fraction.specs.Fits.{FitsFraction}
use Rattle.problem.specs.Linear.{Multipliers}
use Rattle.node_events.specs.declared.reason.Reason.{Reason}
use Rattle.node_events.specs.declared.reason.Reason.TheVariants.{Fractional, Cramped, Stalled}
use Rattle.node_events.specs.declared.proof.Proof.{Proof}
use Rattle.node_events.specs.declared.proof.Proof.TheVariants.{Empty, Refute, Bound}
use Rattle.event_codec.specs.declared.enc.Enc.{Enc}
use Rattle.event_codec.specs.declared.fault.CodecFault.TheVariants.{BadTag}
use Rattle.event_codec.specs.Places.{Place}
use Rattle.event_codec.specs.Codes.{u32_code, flag_code, fraction_code, list_code, mult_code, reason_code, proof_code, IsShort, IsCodableReason, IsCodableProof}
use Rattle.event_codec.specs.Types.{FitsU32, IsMult, IsReason, IsProof}
use Rattle.event_codec.specs.Reading.{byte_at, flag_at, u32_at, rational_point_at, mult_at, fractional_at, cramped_at, stalled_at, reason_at, refute_at, bound_at, empty_at, proof_at}
use Rattle.event_codec.proofs.Binds.{bind_ok}
use Rattle.event_codec.proofs.Numbers.{IsBytes}
use Rattle.event_codec.proofs.Fields.{Takes, IsField, at_place, byte_field, flag_field, u32_field}
use Rattle.event_codec.proofs.Lists.{rational_point_field, mult_field}
use Rattle.event_codec.proofs.Combined.{TakesBehind, made_takes, made_again, both_take, both_again, tag_cases, at_tag}

-- ---- what holds of those that are spelled
abbrev pub IsWholeReason : Reason → Type 0
IsWholeReason r = IsCodableReason r × IsReason r

abbrev AreShortFractions : List ℚ → Type 0
AreShortFractions x = IsShort x × AllByRecursion FitsFraction x

abbrev pub IsWholeProof : Proof → Type 0
IsWholeProof r = IsCodableProof r × IsProof r

abbrev AreShortMult : Multipliers → Type 0
AreShortMult ms = IsShort ms × IsMult ms

abbrev bound_of : Bool → Multipliers → Proof
bound_of rounded mult = Bound mult rounded

module _ (enc : Enc) where
  -- ---- reasons
  fractional_takes : (p q : Place) (y : Reason) → IsBytes p.rest → fractional_at enc p ≡ Ok (y, q) → TakesBehind 0 (reason_code enc) IsWholeReason p q y
  unfolding fractional_at reason_code
  fractional_takes p q y fits e = both_take (u32_at enc) (u32_code enc) FitsU32 (u32_field enc) (rational_point_at enc) (list_code enc (fraction_code enc)) AreShortFractions (rational_point_field enc) Fractional 0 (reason_code enc) IsWholeReason (λ a b. refl) (λ a b is is'. (is'.0, (is, is'.1))) p q y fits e

  cramped_takes : (p q : Place) (y : Reason) → IsBytes p.rest → cramped_at enc p ≡ Ok (y, q) → TakesBehind 1 (reason_code enc) IsWholeReason p q y
  unfolding cramped_at reason_code
  cramped_takes p q y fits e = both_take (u32_at enc) (u32_code enc) FitsU32 (u32_field enc) (u32_at enc) (u32_code enc) FitsU32 (u32_field enc) Cramped 1 (reason_code enc) IsWholeReason (λ a b. refl) (λ a b is is'. (tt, (is, is'))) p q y fits e

  stalled_takes : (p q : Place) (y : Reason) → IsBytes p.rest → stalled_at enc p ≡ Ok (y, q) → TakesBehind 2 (reason_code enc) IsWholeReason p q y
  unfolding stalled_at reason_code
  stalled_takes p q y fits e = made_takes (u32_at enc) (u32_code enc) FitsU32 (u32_field enc) Stalled 2 (reason_code enc) IsWholeReason (λ a. refl) (λ a is. (tt, is)) p q y fits e

  reason_takes : (p q : Place) (y : Reason) → IsBytes p.rest → reason_at enc p ≡ Ok (y, q) → Takes p.rest (reason_code enc y) q.rest × IsWholeReason y
  unfolding reason_at
  reason_takes p q y fits e =
      let b = bind_ok (byte_at p) (λ (tag : ℕ × Place). cond (eqb tag.0 0) (fractional_at enc tag.1) (cond (eqb tag.0 1) (cramped_at enc tag.1) (cond (eqb tag.0 2) (stalled_at enc tag.1) (Err (BadTag p.at))))) (y, q) e in
      let n = b.0.0 in
      let p' = b.0.1 in
      let t = (byte_field.takes p p' n fits b.1).0 in
      elim (tag_cases n 0 (fractional_at enc p') (cond (eqb n 1) (cramped_at enc p') (cond (eqb n 2) (stalled_at enc p') (Err (BadTag p.at)))) (y, q) b.2) [
        | inl h ↦ at_tag (reason_code enc) IsWholeReason p p' q n 0 y t h.0 (fractional_takes p' q y t.rest_fits h.1)
        | inr h ↦ elim (tag_cases n 1 (cramped_at enc p') (cond (eqb n 2) (stalled_at enc p') (Err (BadTag p.at))) (y, q) h) [
          | inl h ↦ at_tag (reason_code enc) IsWholeReason p p' q n 1 y t h.0 (cramped_takes p' q y t.rest_fits h.1)
          | inr h ↦ elim (tag_cases n 2 (stalled_at enc p') (Err (BadTag p.at)) (y, q) h) [
            | inl h ↦ at_tag (reason_code enc) IsWholeReason p p' q n 2 y t h.0 (stalled_takes p' q y t.rest_fits h.1)
            | inr h ↦ absurd cc
          ]
        ]
      ]

  fractional_again : (cuts : ℕ) (point : List ℚ) (place : ℕ) (rest : List ℕ) → FitsU32 cuts → AreShortFractions point → (to : ℕ) × (fractional_at enc (at_place place ((u32_code enc cuts ++ list_code enc (fraction_code enc) point) ++ rest)) ≡ Ok (Fractional cuts point, at_place to rest))
  unfolding fractional_at
  fractional_again cuts point place rest is is' = both_again (u32_at enc) (u32_code enc) FitsU32 (u32_field enc) (rational_point_at enc) (list_code enc (fraction_code enc)) AreShortFractions (rational_point_field enc) Fractional cuts point place rest is is'

  cramped_again : (cuts pivots : ℕ) (place : ℕ) (rest : List ℕ) → FitsU32 cuts → FitsU32 pivots → (to : ℕ) × (cramped_at enc (at_place place ((u32_code enc cuts ++ u32_code enc pivots) ++ rest)) ≡ Ok (Cramped cuts pivots, at_place to rest))
  unfolding cramped_at
  cramped_again cuts pivots place rest is is' = both_again (u32_at enc) (u32_code enc) FitsU32 (u32_field enc) (u32_at enc) (u32_code enc) FitsU32 (u32_field enc) Cramped cuts pivots place rest is is'

  stalled_again : (cuts : ℕ) (place : ℕ) (rest : List ℕ) → FitsU32 cuts → (to : ℕ) × (stalled_at enc (at_place place (u32_code enc cuts ++ rest)) ≡ Ok (Stalled cuts, at_place to rest))
  unfolding stalled_at
  stalled_again cuts place rest is = made_again (u32_at enc) (u32_code enc) FitsU32 (u32_field enc) Stalled cuts place rest is

  reason_again : (r : Reason) (place : ℕ) (rest : List ℕ) → IsWholeReason r → (to : ℕ) × (reason_at enc (at_place place (reason_code enc r ++ rest)) ≡ Ok (r, at_place to rest))
  unfolding reason_at reason_code
  reason_again (Fractional cuts point) place rest is =
      let b = byte_field.again 0 place ((u32_code enc cuts ++ list_code enc (fraction_code enc) point) ++ rest) tt in
      let v = fractional_again cuts point b.0 rest is.1.0 (is.0, is.1.1) in
      (v.0, rw b.1 v.1)
  reason_again (Cramped cuts pivots) place rest is =
      let b = byte_field.again 1 place ((u32_code enc cuts ++ u32_code enc pivots) ++ rest) tt in
      let v = cramped_again cuts pivots b.0 rest is.1.0 is.1.1 in
      (v.0, rw b.1 v.1)
  reason_again (Stalled cuts) place rest is =
      let b = byte_field.again 2 place (u32_code enc cuts ++ rest) tt in
      let v = stalled_again cuts b.0 rest is.1 in
      (v.0, rw b.1 v.1)

  pub reason_field : IsField (reason_at enc) (reason_code enc) IsWholeReason
  reason_field = record { takes = reason_takes; again = reason_again }

  -- ---- proofs
  refute_takes : (p q : Place) (y : Proof) → IsBytes p.rest → refute_at enc p ≡ Ok (y, q) → TakesBehind 0 (proof_code enc) IsWholeProof p q y
  unfolding refute_at proof_code
  refute_takes p q y fits e = made_takes (mult_at enc) (mult_code enc) AreShortMult (mult_field enc) Refute 0 (proof_code enc) IsWholeProof (λ a. refl) (λ a is. is) p q y fits e

  bound_takes : (p q : Place) (y : Proof) → IsBytes p.rest → bound_at enc p ≡ Ok (y, q) → TakesBehind 1 (proof_code enc) IsWholeProof p q y
  unfolding bound_at proof_code
  bound_takes p q y fits e = both_take flag_at flag_code (λ b. Unit {0}) flag_field (mult_at enc) (mult_code enc) AreShortMult (mult_field enc) bound_of 1 (proof_code enc) IsWholeProof (λ a b. refl) (λ a b is is'. is') p q y fits e

  empty_takes : (p q : Place) (y : Proof) → IsBytes p.rest → empty_at enc p ≡ Ok (y, q) → TakesBehind 2 (proof_code enc) IsWholeProof p q y
  unfolding empty_at proof_code
  empty_takes p q y fits e = made_takes (u32_at enc) (u32_code enc) FitsU32 (u32_field enc) Empty 2 (proof_code enc) IsWholeProof (λ a. refl) (λ a is. (tt, is)) p q y fits e

  proof_takes : (p q : Place) (y : Proof) → IsBytes p.rest → proof_at enc p ≡ Ok (y, q) → Takes p.rest (proof_code enc y) q.rest × IsWholeProof y
  unfolding proof_at
  proof_takes p q y fits e =
      let b = bind_ok (byte_at p) (λ (tag : ℕ × Place). cond (eqb tag.0 0) (refute_at enc tag.1) (cond (eqb tag.0 1) (bound_at enc tag.1) (cond (eqb tag.0 2) (empty_at enc tag.1) (Err (BadTag p.at))))) (y, q) e in
      let n = b.0.0 in
      let p' = b.0.1 in
      let t = (byte_field.takes p p' n fits b.1).0 in
      elim (tag_cases n 0 (refute_at enc p') (cond (eqb n 1) (bound_at enc p') (cond (eqb n 2) (empty_at enc p') (Err (BadTag p.at)))) (y, q) b.2) [
        | inl h ↦ at_tag (proof_code enc) IsWholeProof p p' q n 0 y t h.0 (refute_takes p' q y t.rest_fits h.1)
        | inr h ↦ elim (tag_cases n 1 (bound_at enc p') (cond (eqb n 2) (empty_at enc p') (Err (BadTag p.at))) (y, q) h) [
          | inl h ↦ at_tag (proof_code enc) IsWholeProof p p' q n 1 y t h.0 (bound_takes p' q y t.rest_fits h.1)
          | inr h ↦ elim (tag_cases n 2 (empty_at enc p') (Err (BadTag p.at)) (y, q) h) [
            | inl h ↦ at_tag (proof_code enc) IsWholeProof p p' q n 2 y t h.0 (empty_takes p' q y t.rest_fits h.1)
            | inr h ↦ absurd cc
          ]
        ]
      ]

  refute_again : (ms : Multipliers) (place : ℕ) (rest : List ℕ) → AreShortMult ms → (to : ℕ) × (refute_at enc (at_place place (mult_code enc ms ++ rest)) ≡ Ok (Refute ms, at_place to rest))
  unfolding refute_at
  refute_again ms place rest is = made_again (mult_at enc) (mult_code enc) AreShortMult (mult_field enc) Refute ms place rest is

  bound_again : (rounded : Bool) (ms : Multipliers) (place : ℕ) (rest : List ℕ) → AreShortMult ms → (to : ℕ) × (bound_at enc (at_place place ((flag_code rounded ++ mult_code enc ms) ++ rest)) ≡ Ok (Bound ms rounded, at_place to rest))
  unfolding bound_at
  bound_again rounded ms place rest is = both_again flag_at flag_code (λ b. Unit {0}) flag_field (mult_at enc) (mult_code enc) AreShortMult (mult_field enc) bound_of rounded ms place rest tt is

  empty_again : (column : ℕ) (place : ℕ) (rest : List ℕ) → FitsU32 column → (to : ℕ) × (empty_at enc (at_place place (u32_code enc column ++ rest)) ≡ Ok (Empty column, at_place to rest))
  unfolding empty_at
  empty_again column place rest is = made_again (u32_at enc) (u32_code enc) FitsU32 (u32_field enc) Empty column place rest is

  proof_again : (r : Proof) (place : ℕ) (rest : List ℕ) → IsWholeProof r → (to : ℕ) × (proof_at enc (at_place place (proof_code enc r ++ rest)) ≡ Ok (r, at_place to rest))
  unfolding proof_at proof_code
  proof_again (Refute mult) place rest is =
      let b = byte_field.again 0 place (mult_code enc mult ++ rest) tt in
      let v = refute_again mult b.0 rest is in
      (v.0, rw b.1 v.1)
  proof_again (Bound mult rounded) place rest is =
      let b = byte_field.again 1 place ((flag_code rounded ++ mult_code enc mult) ++ rest) tt in
      let v = bound_again rounded mult b.0 rest is in
      (v.0, rw b.1 v.1)
  proof_again (Empty column) place rest is =
      let b = byte_field.again 2 place (u32_code enc column ++ rest) tt in
      let v = empty_again column b.0 rest is.1 in
      (v.0, rw b.1 v.1)

  pub proof_field : IsField (proof_at enc) (proof_code enc) IsWholeProof
  proof_field = record { takes = proof_takes; again = proof_again }
