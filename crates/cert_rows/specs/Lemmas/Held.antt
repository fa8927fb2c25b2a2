-- Facts on lists of assumptions.
use Rattle.std.specs.Prelude.{◌≡◌, ℕ, Bool, true, false, cond, List, [], ◌∷◌, All, refl, nat_lt, eqb}
use Rattle.std.proofs.Common.{sym, subst}
use Rattle.std.proofs.lemmas.Bool.{eqb-true}
use Rattle.std.proofs.lemmas.List.Elements.{All-nil, All-cons, All-head, All-tail}
use Rattle.fraction.specs.Rational.{ℚ}
use Rattle.cert_rows.specs.Lines.{CertLine, assumed_by}
use Rattle.cert_rows.specs.Assumptions.{inserted, union, without, assumed_by_all}

inserted_step : (P : ℕ → Type 0) (n k : ℕ) (ks : List ℕ) (b c : Bool) → (c ≡ true → n ≡ k) → (All P (inserted n ks) → P n × All P ks)
    → All P (cond b (n ∷ k ∷ ks) (cond c (k ∷ ks) (k ∷ inserted n ks))) → P n × All P (k ∷ ks)
inserted_step P n k ks true c e ih h = (All-head P n (k ∷ ks) h, All-tail P n (k ∷ ks) h)
inserted_step P n k ks false true e ih h = (subst P (sym (e refl)) (All-head P k ks h), h)
inserted_step P n k ks false false e ih h =
    let r = ih (All-tail P k (inserted n ks) h) in (r.0, All-cons P k ks (All-head P k (inserted n ks) h) r.1)

pub All-inserted : (P : ℕ → Type 0) (n : ℕ) (ks : List ℕ) → All P (inserted n ks) → P n × All P ks
All-inserted P n [] h = (All-head P n [] h, All-nil P)
All-inserted P n (k ∷ ks) h = inserted_step P n k ks (nat_lt n k) (eqb n k) (eqb-true n k) (All-inserted P n ks) h

pub All-union : (P : ℕ → Type 0) (ns ks : List ℕ) → All P (union ns ks) → All P ns × All P ks
All-union P [] ks h = (All-nil P, h)
All-union P (n ∷ ns) ks h =
    let r = All-inserted P n (union ns ks) h in
    let s = All-union P ns ks r.1 in (All-cons P n ns r.0 s.0, s.1)

without_step : (P : ℕ → Type 0) (n k : ℕ) (ks : List ℕ) (b : Bool) → (b ≡ true → n ≡ k) → P n → (All P (without n ks) → All P ks)
    → All P (cond b (without n ks) (k ∷ without n ks)) → All P (k ∷ ks)
without_step P n k ks true e p ih h = All-cons P k ks (subst P (e refl) p) (ih h)
without_step P n k ks false e p ih h = All-cons P k ks (All-head P k (without n ks) h) (ih (All-tail P k (without n ks) h))

pub All-without : (P : ℕ → Type 0) (n : ℕ) (ks : List ℕ) → P n → All P (without n ks) → All P ks
All-without P n [] p h = All-nil P
All-without P n (k ∷ ks) p h = without_step P n k ks (eqb n k) (eqb-true n k) p (All-without P n ks p) h

pub All-assumed : (P : ℕ → Type 0) (ls : List CertLine) (mult : List (ℕ × ℚ)) → All P (assumed_by_all ls mult) → All (λ m. All P (assumed_by ls m.0)) mult
All-assumed P ls [] h = All-nil (λ (m : ℕ × ℚ). All P (assumed_by ls m.0))
All-assumed P ls (m ∷ ms) h =
    let r = All-union P (assumed_by ls m.0) (assumed_by_all ls ms) h in
    All-cons (λ (m : ℕ × ℚ). All P (assumed_by ls m.0)) m ms r.0 (All-assumed P ls ms r.1)
