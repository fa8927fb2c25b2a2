-- Boxes that are met: of two boxes, the numbers that lie in both.
use Rattle.std.specs.Prelude.{◌≡◌, ℕ, zero, suc, ℤ, ◌≤ℤ◌, ◌<ℤ◌, List, [], ◌∷◌, length, Some, slice_get, refl}
use Rattle.std.specs.Option.{ForSome}
use Rattle.std.specs.Int.{int_min, int_max}
use Rattle.std.proofs.Common.{ap, arith}
use Rattle.std.proofs.lemmas.Int.{ints, clamps}
use Rattle.problem_box.specs.declared.span.Span.{Span}
use Rattle.node_tree.specs.declared.branch.Side.{Side}
use Rattle.node_tree.specs.declared.branch.Side.TheVariants.{Low, High}
use Rattle.node_tree.specs.Paths.{bound_on}
use Rattle.node_tree.specs.Cuts.{IsCutInside, cut_on}
use Rattle.node_tree.specs.Walks.{tighter, tightened_on}

abbrev pub met_span : Span → Span → Span
met_span s t = record { lo = int_max s.lo t.lo; hi = int_min s.hi t.hi }

abbrev pub meet : List Span → List Span → List Span
meet ss [] = []
meet [] (t ∷ ts) = []
meet (s ∷ ss) (t ∷ ts) = met_span s t ∷ meet ss ts

-- the first box lies in the second
abbrev pub IsSpanIn : Span → Span → Type 0
IsSpanIn s t = (t.lo ≤ℤ s.lo) × (s.hi ≤ℤ t.hi)

abbrev pub IsBoxIn : List Span → List Span → Type 0
IsBoxIn [] [] = Unit {0}
IsBoxIn [] (t ∷ ts) = ⊥
IsBoxIn (s ∷ ss) [] = ⊥
IsBoxIn (s ∷ ss) (t ∷ ts) = IsSpanIn s t × IsBoxIn ss ts

-- ---- numbers
max_step : (a b p : ℤ) → p <ℤ b → int_max (int_max a b) p ≡ int_max a b
max_step a b p h = omega (arith, ints, clamps, h)

min_step : (a b p : ℤ) → b <ℤ p → int_min (int_min a b) p ≡ int_min a b
min_step a b p h = omega (arith, ints, clamps, h)

max_first : (a p : ℤ) → p ≤ℤ a → int_max a p ≡ a
max_first a p h = omega (arith, ints, clamps, h)

min_first : (a p : ℤ) → a ≤ℤ p → int_min a p ≡ a
min_first a p h = omega (arith, ints, clamps, h)

max_last : (a p : ℤ) → a ≤ℤ p → int_max a p ≡ p
max_last a p h = omega (arith, ints, clamps, h)

min_last : (a p : ℤ) → p ≤ℤ a → int_min a p ≡ p
min_last a p h = omega (arith, ints, clamps, h)

max_above : (a b c : ℤ) → c ≤ℤ a → c ≤ℤ int_max a b
max_above a b c h = omega (arith, ints, clamps, h)

min_below : (a b c : ℤ) → a ≤ℤ c → int_min a b ≤ℤ c
min_below a b c h = omega (arith, ints, clamps, h)

-- ---- a tighter bound may come first: where a cut lies inside a box, to meet what is tightened by it is to meet what it cuts
pub meet_step : (side : Side) (xs ps : List Span) (j : ℕ) (b : ℤ) → ForSome (slice_get ps j) (IsCutInside side b) → meet (tightened_on side xs j b) ps ≡ meet xs (cut_on side ps j b)
meet_step Low xs [] j b h = refl
meet_step High xs [] j b h = refl
meet_step Low [] (p ∷ ps) zero b h = refl
meet_step Low [] (p ∷ ps) (suc j) b h = refl
meet_step High [] (p ∷ ps) zero b h = refl
meet_step High [] (p ∷ ps) (suc j) b h = refl
meet_step Low (a ∷ xs) (p ∷ ps) zero b h = let e = max_step a.lo b p.lo (h p refl).0 in λ k. record { lo = e k; hi = int_min a.hi p.hi } ∷ meet xs ps
meet_step High (a ∷ xs) (p ∷ ps) zero b h = let e = min_step a.hi b p.hi (h p refl).1 in λ k. record { lo = int_max a.lo p.lo; hi = e k } ∷ meet xs ps
meet_step Low (a ∷ xs) (p ∷ ps) (suc j) b h = ap (λ ss. met_span a p ∷ ss) (meet_step Low xs ps j b h)
meet_step High (a ∷ xs) (p ∷ ps) (suc j) b h = ap (λ ss. met_span a p ∷ ss) (meet_step High xs ps j b h)

pub meet_in : (xs cs : List Span) → IsBoxIn xs cs → meet xs cs ≡ xs
meet_in [] [] h = refl
meet_in [] (c ∷ cs) h = absurd h
meet_in (a ∷ xs) [] h = absurd h
meet_in (a ∷ xs) (c ∷ cs) h =
    let low = max_first a.lo c.lo h.0.0 in
    let high = min_first a.hi c.hi h.0.1 in
    let rest = meet_in xs cs h.1 in
    λ k. record { lo = low k; hi = high k } ∷ rest k

pub in_meet : (bs cs : List Span) → IsBoxIn bs cs → meet cs bs ≡ bs
in_meet [] [] h = refl
in_meet [] (c ∷ cs) h = absurd h
in_meet (b ∷ bs) [] h = absurd h
in_meet (b ∷ bs) (c ∷ cs) h =
    let low = max_last c.lo b.lo h.0.0 in
    let high = min_last c.hi b.hi h.0.1 in
    let rest = in_meet bs cs h.1 in
    λ k. record { lo = low k; hi = high k } ∷ rest k

-- ---- what lies in what
pub box_in_itself : (ss : List Span) → IsBoxIn ss ss
box_in_itself [] = tt
box_in_itself (s ∷ ss) = ((omega (arith, ints), omega (arith, ints)), box_in_itself ss)

pub length-box_in : (xs cs : List Span) → IsBoxIn xs cs → length xs ≡ length cs
length-box_in [] [] h = refl
length-box_in [] (c ∷ cs) h = absurd h
length-box_in (a ∷ xs) [] h = absurd h
length-box_in (a ∷ xs) (c ∷ cs) h = ap suc (length-box_in xs cs h.1)

pub box_in_box : (xs bs cs : List Span) → IsBoxIn xs bs → IsBoxIn bs cs → IsBoxIn xs cs
box_in_box [] [] [] h k = tt
box_in_box [] [] (c ∷ cs) h k = absurd k
box_in_box [] (b ∷ bs) cs h k = absurd h
box_in_box (a ∷ xs) [] cs h k = absurd h
box_in_box (a ∷ xs) (b ∷ bs) [] h k = absurd k
box_in_box (a ∷ xs) (b ∷ bs) (c ∷ cs) h k = ((omega (arith, ints, h.0.0, k.0.0), omega (arith, ints, h.0.1, k.0.1)), box_in_box xs bs cs h.1 k.1)

pub tightened_in : (side : Side) (xs cs : List Span) (j : ℕ) (b : ℤ) → IsBoxIn xs cs → IsBoxIn (tightened_on side xs j b) cs
tightened_in side [] cs j b h = h
tightened_in side (a ∷ xs) [] j b h = absurd h
tightened_in Low (a ∷ xs) (c ∷ cs) zero b h = ((max_above a.lo b c.lo h.0.0, h.0.1), h.1)
tightened_in High (a ∷ xs) (c ∷ cs) zero b h = ((h.0.0, min_below a.hi b c.hi h.0.1), h.1)
tightened_in side (a ∷ xs) (c ∷ cs) (suc j) b h = (h.0, tightened_in side xs cs j b h.1)

pub cut_in : (side : Side) (ps : List Span) (j : ℕ) (b : ℤ) → ForSome (slice_get ps j) (IsCutInside side b) → IsBoxIn (cut_on side ps j b) ps
cut_in Low [] j b h = tt
cut_in High [] j b h = tt
cut_in Low (p ∷ ps) zero b h = let l = (h p refl).0 in ((omega (arith, ints, l), omega (arith, ints)), box_in_itself ps)
cut_in High (p ∷ ps) zero b h = let l = (h p refl).1 in ((omega (arith, ints), omega (arith, ints, l)), box_in_itself ps)
cut_in Low (p ∷ ps) (suc j) b h = ((omega (arith, ints), omega (arith, ints)), cut_in Low ps j b h)
cut_in High (p ∷ ps) (suc j) b h = ((omega (arith, ints), omega (arith, ints)), cut_in High ps j b h)

-- a bound that is set back leaves the box that was cut
pub cut_back : (side : Side) (ps : List Span) (j : ℕ) (b z : ℤ) → ForSome (slice_get ps j) (λ s. z ≡ bound_on side s) → cut_on side (cut_on side ps j b) j z ≡ ps
cut_back Low [] j b z h = refl
cut_back High [] j b z h = refl
cut_back Low (p ∷ ps) zero b z h = let e = h p refl in λ k. record { lo = e k; hi = p.hi } ∷ ps
cut_back High (p ∷ ps) zero b z h = let e = h p refl in λ k. record { lo = p.lo; hi = e k } ∷ ps
cut_back Low (p ∷ ps) (suc j) b z h = ap (λ ss. p ∷ ss) (cut_back Low ps j b z h)
cut_back High (p ∷ ps) (suc j) b z h = ap (λ ss. p ∷ ss) (cut_back High ps j b z h)

-- a bound is tightened by setting the tighter one
pub tightened_by_setting : (side : Side) (ss : List Span) (j : ℕ) (b : ℤ) (s : Span) → slice_get ss j ≡ Some s → cut_on side ss j (tighter side (bound_on side s) b) ≡ tightened_on side ss j b
tightened_by_setting Low [] j b s h = refl
tightened_by_setting High [] j b s h = refl
tightened_by_setting Low (t ∷ ts) zero b s h = let e : s ≡ t = cc in λ k. record { lo = int_max (e k).lo b; hi = t.hi } ∷ ts
tightened_by_setting High (t ∷ ts) zero b s h = let e : s ≡ t = cc in λ k. record { lo = t.lo; hi = int_min (e k).hi b } ∷ ts
tightened_by_setting Low (t ∷ ts) (suc j) b s h = ap (λ ss. t ∷ ss) (tightened_by_setting Low ts j b s h)
tightened_by_setting High (t ∷ ts) (suc j) b s h = ap (λ ss. t ∷ ss) (tightened_by_setting High ts j b s h)
