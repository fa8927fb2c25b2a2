-- Lemmas: where the ratio test finds no variable, none is eligible.
use Rattle.fraction.specs.Lemmas.Bounds.{was_some}
use Rattle.std.proofs.Common.{◌≡◌, ℕ, ◌+◌, refl, Bool, true, false, Option, Some, None, List, [], ◌∷◌}
use Rattle.std.specs.Prelude.{pos, slice_index_or, if◌then◌else◌, ◌&&◌}
use Rattle.std.specs.Ordering.{is_lt}
use Rattle.std.specs.Option.{option_map}
use Rattle.fraction.specs.Checked.{abs_ℚ, compare, div_checked}
use Rattle.fraction.specs.Rational.{whole, ℚ}
use Rattle.tableau.specs.Entering.{better, entering_from, is_eligible, with_ratio}
use Rattle.tableau.specs.Leaving.{bounds_differ}
use Rattle.tableau.specs.declared.bounds.Bounds.{Bounds}
use Rattle.tableau.specs.declared.bounds.Direction.{Direction}
use Rattle.tableau.specs.declared.status.BasisStatus.{BasisStatus}

abbrev pub NoneEligible : ℕ → Direction → List BasisStatus → List Bounds → List ℚ → List ℚ → Type 0
NoneEligible j w [] bs ds row = Unit {0}
NoneEligible j w (s ∷ ss) [] ds row = Unit {0}
NoneEligible j w (s ∷ ss) (b ∷ bs) [] row = Unit {0}
NoneEligible j w (s ∷ ss) (b ∷ bs) (d ∷ ds) row =
    ((is_eligible w s (slice_index_or row j (whole (pos 0))) && bounds_differ b) ≡ false) × NoneEligible (j + 1) w ss bs ds row

better_some : (j : ℕ) (q : ℚ) (best : Option (ℕ × ℚ)) → (b : ℕ × ℚ) × (better j q best ≡ Some b)
better_some j q None = ((j, q), refl)
better_some j q (Some b) = chosen (is_lt (compare q b.1))
  where
    chosen : (t : Bool) → (c : ℕ × ℚ) × ((if t then Some (j, q) else Some b) ≡ Some c)
    chosen true = ((j, q), refl)
    chosen false = (b, refl)

-- the best so far is never given up
kept_best : (t : Bool) (j : ℕ) (q : Option ℚ) (b : ℕ × ℚ) (c : Option (ℕ × ℚ)) → (if t then option_map (λ q. better j q (Some b)) q else Some (Some b)) ≡ Some c → (d : ℕ × ℚ) × (c ≡ Some d)
kept_best true j None b c e = cc
kept_best true j (Some q) b c e = let f = better_some j q (Some b) in (f.0, cc)
kept_best false j q b c e = (b, cc)

never_none : (j : ℕ) (w : Direction) (b : ℕ × ℚ) (ss : List BasisStatus) (bs : List Bounds) (ds row : List ℚ) → entering_from j w (Some b) ss bs ds row ≡ Some None → ⊥
never_none j w b [] bs ds row e = cc
never_none j w b (s ∷ ss) [] ds row e = cc
never_none j w b (s ∷ ss) (c ∷ bs) [] row e = cc
never_none j w b (s ∷ ss) (c ∷ bs) (d ∷ ds) row e =
    let t = slice_index_or row j (whole (pos 0)) in
    let a = was_some (λ best. entering_from (j + 1) w best ss bs ds row) (with_ratio j w (Some b) s c d t) None e in
    let k = kept_best (is_eligible w s t && bounds_differ c) j (div_checked (abs_ℚ d) (abs_ℚ t)) b a.0 a.1 in
    never_none (j + 1) w k.0 ss bs ds row (rw k.1 at a.2)

first_best : (t : Bool) (j : ℕ) (q : Option ℚ) (c : Option (ℕ × ℚ)) → (if t then option_map (λ q. better j q None) q else Some None) ≡ Some c → ((d : ℕ × ℚ) → c ≡ Some d → ⊥) → (t ≡ false) × (c ≡ None)
first_best true j None c e h = cc
first_best true j (Some q) c e h = absurd (h (j, q) (cc))
first_best false j q c e h = (refl, cc)

pub none_eligible : (j : ℕ) (w : Direction) (ss : List BasisStatus) (bs : List Bounds) (ds row : List ℚ) → entering_from j w None ss bs ds row ≡ Some None → NoneEligible j w ss bs ds row
none_eligible j w [] bs ds row e = tt
none_eligible j w (s ∷ ss) [] ds row e = tt
none_eligible j w (s ∷ ss) (c ∷ bs) [] row e = tt
none_eligible j w (s ∷ ss) (c ∷ bs) (d ∷ ds) row e =
    let t = slice_index_or row j (whole (pos 0)) in
    let a = was_some (λ best. entering_from (j + 1) w best ss bs ds row) (with_ratio j w None s c d t) None e in
    let k = first_best (is_eligible w s t && bounds_differ c) j (div_checked (abs_ℚ d) (abs_ℚ t)) a.0 a.1
    (λ b f. never_none (j + 1) w b ss bs ds row (rw f at a.2)) in
    (k.0, none_eligible (j + 1) w ss bs ds row (rw k.1 at a.2))
