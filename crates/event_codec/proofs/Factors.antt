-- The rows of multipliers that are read rise, and no factor is 0.
use Rattle.std.proofs.Common.{◌≡◌, ℕ, zero, suc, ◌≤◌, List, [], ◌∷◌, Ok}
use Rattle.std.specs.Prelude.{pos, nat_le}
use Rattle.std.specs.List.{AllByRecursion}
use Rattle.std.proofs.lemmas.Bool.{leb-true}
use Rattle.std.proofs.lemmas.List.Elements.{All-from_recursion}
use Rattle.fraction.specs.Rational.{ℚ, whole}
use Rattle.problem.specs.Rising.{RiseFrom, AreRising, AreNonzero}
use Rattle.event_codec.specs.declared.enc.Enc.{Enc}
use Rattle.event_codec.specs.declared.fault.CodecFault.TheVariants.{BadValue}
use Rattle.event_codec.specs.Places.{Place}
use Rattle.event_codec.specs.ReadResults.{◌>>=◌, test}
use Rattle.event_codec.specs.Reading.{is_factor, u32_at, fraction_at, factor_at, factors_at}
use Rattle.event_codec.proofs.Binds.{bind_ok, test_ok, ok_then}
use Rattle.event_codec.proofs.Fractions.{nonzero, factor_passes, passed_num}

module _ (enc : Enc) where
  factor_kept : (least : ℕ) (p : Place) (y : (ℕ × ℚ) × Place) → factor_at enc least p ≡ Ok y → (least ≤ y.0.0) × (y.0.1 ≡ whole (pos 0) → ⊥)
  unfolding factor_at
  factor_kept least p y e =
      let a = bind_ok (u32_at enc p) (λ (row : ℕ × Place). test (nat_le least row.0) (BadValue p.at) >>= λ u. fraction_at enc is_factor row.1 >>= λ factor. Ok ((row.0, factor.0), factor.1)) y e in
      let t = test_ok (nat_le least a.0.0) (BadValue p.at) (fraction_at enc is_factor a.0.1 >>= λ factor. Ok ((a.0.0, factor.0), factor.1)) y a.2 in
      let b = bind_ok (fraction_at enc is_factor a.0.1) (λ (factor : ℚ × Place). Ok ((a.0.0, factor.0), factor.1)) y t.1 in
      let some = nonzero b.0.0 (factor_passes b.0.0.num (passed_num enc is_factor a.0.1 b.0 b.1)).1 in
      ok_then (λ (x : (ℕ × ℚ) × Place). (least ≤ x.0.0) × (x.0.1 ≡ whole (pos 0) → ⊥)) ((a.0.0, b.0.0), b.0.1) y b.2 (leb-true _ _ t.0, some)

  factors_kept : (n least : ℕ) (p : Place) (y : List (ℕ × ℚ) × Place) → factors_at enc least n p ≡ Ok y → RiseFrom least y.0 × AllByRecursion (λ t. t.1 ≡ whole (pos 0) → ⊥) y.0
  unfolding factors_at
  factors_kept zero least p y e = ok_then (λ (x : List (ℕ × ℚ) × Place). RiseFrom least x.0 × AllByRecursion (λ t. t.1 ≡ whole (pos 0) → ⊥) x.0) ([], p) y e (tt, tt)
  factors_kept (suc n) least p y e =
      let a = bind_ok (factor_at enc least p) (λ (first : (ℕ × ℚ) × Place). factors_at enc (suc first.0.0) n first.1 >>= λ others. Ok (first.0 ∷ others.0, others.1)) y e in
      let b = bind_ok (factors_at enc (suc a.0.0.0) n a.0.1) (λ (others : List (ℕ × ℚ) × Place). Ok (a.0.0 ∷ others.0, others.1)) y a.2 in
      let first = factor_kept least p a.0 a.1 in
      let second = factors_kept n (suc a.0.0.0) a.0.1 b.0 b.1 in
      ok_then (λ (x : List (ℕ × ℚ) × Place). RiseFrom least x.0 × AllByRecursion (λ t. t.1 ≡ whole (pos 0) → ⊥) x.0) (a.0.0 ∷ b.0.0, b.0.1) y b.2 ((first.0, second.0), (first.1, second.1))

  pub factors_rise : (n : ℕ) (p : Place) (ms : List (ℕ × ℚ)) (q : Place) → factors_at enc 0 n p ≡ Ok (ms, q) → AreRising ms
  factors_rise n p ms q e = (factors_kept n 0 p (ms, q) e).0

  pub factors_nonzero : (n : ℕ) (p : Place) (ms : List (ℕ × ℚ)) (q : Place) → factors_at enc 0 n p ≡ Ok (ms, q) → AreNonzero ms
  factors_nonzero n p ms q e = All-from_recursion (λ t. t.1 ≡ whole (pos 0) → ⊥) ms (factors_kept n 0 p (ms, q) e).1
