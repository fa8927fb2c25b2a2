-- Lemmas: the problem from the reader's tables, and the checks of its limits.
use Rattle.std.specs.Prelude.{◌≡◌, ℕ, ◌*◌, ◌<◌, ◌≤◌, ◌%◌, true, false, ◌&&◌, ◌==◌, not, nat_le, nat_lt, List, ◌∷◌, All, pos, nat_abs, suc, []}
use Rattle.std.specs.Option.{unwrap_or}
use Rattle.std.proofs.Common.{ap, ◌∙◌, arith}
use Rattle.std.proofs.lemmas.List.Elements.{All-nil, All-cons}
use Rattle.std.proofs.lemmas.Bool.{eqb-true, and_parts}
use Rattle.std.proofs.lemmas.Nat.Gcd.{dvd_of_mod-eq-zero}
use Rattle.fraction.specs.Rational.{ℚ, whole}
use Rattle.fraction.specs.Bounds.{Within}
use Rattle.fraction.specs.Lemmas.Bounds.{whole_parts}
use Rattle.problem.specs.Modest.{IsModest}
use Rattle.problem.specs.Rising.{RiseFrom, AreNonzero}
use Rattle.problem.specs.Limited.{AreLimited}
use Rattle.problem.specs.Limits.{largest_bound, finest}
use Rattle.mps_reader.specs.Words.{value_under}
use Rattle.mps_reader.specs.Meaning.{is_zero}
use Rattle.mps_reader.specs.Lemmas.Limits.{is_modest, limited_from}

pub modest_within : (q : ℚ) → is_modest q ≡ true → Within finest (largest_bound * finest) q
modest_within q h =
    let a = and_parts (nat_le q.den finest) ((finest % q.den == 0) && nat_le (nat_abs q.num) (largest_bound * q.den)) h in
    let b = and_parts (finest % q.den == 0) (nat_le (nat_abs q.num) (largest_bound * q.den)) a.1 in
    let le : nat_le (nat_abs q.num) (largest_bound * q.den) ≡ true = b.1 in
    let l : nat_abs q.num ≤ largest_bound * q.den = grind arith in
    record { divides = dvd_of_mod-eq-zero q.den (eqb-true _ 0 b.0); size = omega (arith, l) }

pub limited_is : (n k : ℕ) (ts : List (ℕ × ℚ)) → limited_from n k ts ≡ true
    → (All (λ t. t.0 < n) ts) × RiseFrom k ts × AreNonzero ts × All (λ t. IsModest t.1) ts
limited_is n k [] h = (All-nil (λ (t : ℕ × ℚ). t.0 < n), tt, All-nil (λ (t : ℕ × ℚ). t.1 ≡ whole (pos 0) → ⊥), All-nil (λ (t : ℕ × ℚ). IsModest t.1))
limited_is n k (t ∷ ts) h =
    let a = and_parts (nat_lt t.0 n) _ h in
    let b = and_parts (nat_le k t.0) _ a.1 in
    let c = and_parts (is_modest t.1) _ b.1 in
    let d = and_parts (not (is_zero t.1)) _ c.1 in
    let r = limited_is n (suc t.0) ts d.1 in
    let l : t.0 < n = grind (arith, a.0) in
    let m : k ≤ t.0 = grind (arith, b.0) in
    (All-cons (λ (t : ℕ × ℚ). t.0 < n) t ts l r.0, (m, r.1), All-cons (λ (t : ℕ × ℚ). t.1 ≡ whole (pos 0) → ⊥) t ts (nonzero t.1 d.0) r.2, All-cons (λ (t : ℕ × ℚ). IsModest t.1) t ts (modest_within t.1 c.0) r.3)
  where
    nonzero : (q : ℚ) → not (is_zero q) ≡ true → q ≡ whole (pos 0) → ⊥
    nonzero q h e = let z : not (nat_abs q.num == 0) ≡ false = ap (λ (x : ℚ). not (nat_abs x.num == 0)) e ∙ ap (λ n. not (nat_abs n == 0)) (whole_parts (pos 0)).0 in cc

pub are_limited : (n : ℕ) (ts : List (ℕ × ℚ)) → limited_from n 0 ts ≡ true → AreLimited n ts
are_limited n ts h = let r = limited_is n 0 ts h in record { below = r.0; rising = r.1; nonzero = r.2; modest = r.3 }

-- ---- rows
abbrev pub side_in : List (List ℕ × ℚ) → List ℕ → ℚ
side_in sides name = unwrap_or (value_under sides name) (whole (pos 0))
