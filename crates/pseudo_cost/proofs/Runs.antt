-- What runs of notes leave.
use Rattle.std.proofs.Common.{◌≡◌, ◌≢◌, ℕ, ◌+◌, ◌<◌, ◌≤◌, List, [], ◌∷◌, ◌++◌, length, take, refl, sym, ap, subst, ◌∙◌, append_assoc, arith, length-append}
use Rattle.std.specs.Prelude.{◌^◌, Bool, true, false, eqb, nat_lt, ◌&&◌, if◌then◌else◌, sum, replicate}
use Rattle.std.proofs.Math.Seq.{take-nil}
use Rattle.std.proofs.lemmas.Bool.{eqb-true, eqb-false, ltb-true, ltb-false, cond_below, cond_above}
use Rattle.std.proofs.lemmas.List.{get_or-set_same, get_or-set_other, get_or-replicate, length-set, length-replicate, length-take, take-append-le, take_all, append-nil}
use Rattle.std.proofs.lemmas.List.Sums.{fold-append}
use Rattle.pseudo_cost.specs.declared.side.Side.{Side}
use Rattle.pseudo_cost.specs.declared.side.Side.TheVariants.{Down, Up}
use Rattle.pseudo_cost.specs.declared.column_gains.ColumnGains.{ColumnGains}
use Rattle.pseudo_cost.specs.declared.column_gains.SideGains.{SideGains}
use Rattle.pseudo_cost.specs.SideGains.{with_gain}
use Rattle.pseudo_cost.specs.ColumnGains.{no_column_gains, gains_on, gains_at, noted, noted_on}
use Rattle.pseudo_cost.specs.Notes.{Note, all_noted, is_same_side, gains_of, most_notes, side_gains_of}

-- a side that takes a list of gains, the oldest first
abbrev pub taken : SideGains → List ℕ → SideGains
taken s [] = s
taken s (g ∷ gs) = taken (with_gain g s) gs

-- ---- one note
on_same : (s side : Side) (g : ℕ) (c : ColumnGains) → is_same_side s side ≡ true → gains_on side (noted_on s g c) ≡ with_gain g (gains_on side c)
on_same Down Down g c e = refl
on_same Down Up g c e = cc
on_same Up Down g c e = cc
on_same Up Up g c e = refl

on_other : (s side : Side) (g : ℕ) (c : ColumnGains) → is_same_side s side ≡ false → gains_on side (noted_on s g c) ≡ gains_on side c
on_other Down Down g c e = cc
on_other Down Up g c e = refl
on_other Up Down g c e = refl
on_other Up Up g c e = cc

-- what a side keeps after a gain that is its own, or another's
abbrev after : Bool → ℕ → SideGains → SideGains
after t g s = if t then with_gain g s else s

noted_here : (cs : List ColumnGains) (j : ℕ) (s side : Side) (g : ℕ) → j < length cs → (t : Bool) → is_same_side s side ≡ t
    → gains_on side (gains_at (noted j s g cs) j) ≡ after t g (gains_on side (gains_at cs j))
noted_here cs j s side g h true e = ap (gains_on side) (get_or-set_same cs j _ _ h) ∙ on_same s side g (gains_at cs j) e
noted_here cs j s side g h false e = ap (gains_on side) (get_or-set_same cs j _ _ h) ∙ on_other s side g (gains_at cs j) e

noted_at : (cs : List ColumnGains) (i j : ℕ) (s side : Side) (g : ℕ) → j < length cs → (t u : Bool) → eqb i j ≡ t → is_same_side s side ≡ u
    → gains_on side (gains_at (noted i s g cs) j) ≡ after (t && u) g (gains_on side (gains_at cs j))
noted_at cs i j s side g h true u e f =
    let q : i ≡ j = eqb-true i j e in
    subst (λ k. gains_on side (gains_at (noted k s g cs) j) ≡ after u g (gains_on side (gains_at cs j))) (sym q) (noted_here cs j s side g h u f)
noted_at cs i j s side g h false u e f =
    let other : j ≢ i = λ q. eqb-false i j e (sym q) in
    ap (gains_on side) (get_or-set_other cs i j _ _ other)

-- ---- a run of notes
taken_more : (t : Bool) (g : ℕ) (s : SideGains) (gs : List ℕ) → taken (after t g s) gs ≡ taken s (if t then g ∷ gs else gs)
taken_more true g s gs = refl
taken_more false g s gs = refl

-- each side takes its own gains of a run
pub run_at : (cs : List ColumnGains) (ns : List Note) (j : ℕ) (side : Side) → j < length cs
    → gains_on side (gains_at (all_noted cs ns) j) ≡ taken (gains_on side (gains_at cs j)) (gains_of ns j side)
run_at cs [] j side h = refl
run_at cs (n ∷ ns) j side h =
    let same : length (noted n.column n.side n.gain cs) ≡ length cs = length-set cs n.column _ in
    let there : j < length (noted n.column n.side n.gain cs) = subst (λ m. j < m) (sym same) h in
    run_at (noted n.column n.side n.gain cs) ns j side there
    ∙ ap (λ s. taken s (gains_of ns j side)) (noted_at cs n.column j n.side side n.gain h (eqb n.column j) (is_same_side n.side side) refl refl)
    ∙ taken_more (eqb n.column j && is_same_side n.side side) n.gain (gains_on side (gains_at cs j)) (gains_of ns j side)

-- ---- the list of its gains, of which a side takes the first L
at_limit : (L : ℕ) (gs : List ℕ) (g : ℕ) → L ≤ length (take L gs) → take L (gs ++ g ∷ []) ≡ take L gs
at_limit L gs g h = take-append-le L gs (g ∷ []) (omega (arith, length-take L gs))

below_limit : (L : ℕ) (gs : List ℕ) (g : ℕ) → length (take L gs) < L → take L (gs ++ g ∷ []) ≡ take L gs ++ g ∷ []
below_limit L gs g h =
    take_all L (gs ++ g ∷ []) (omega (arith, length-take L gs, length-append gs (g ∷ [])))
    ∙ ap (λ l. l ++ g ∷ []) (sym (take_all L gs (omega (arith, length-take L gs))))

-- a side that has this list of gains
abbrev kept : List ℕ → SideGains
kept gs = record { count = length gs; sum = sum gs }

kept_more : (gs : List ℕ) (g : ℕ) → length gs < 2 ^ 32 → with_gain g (kept gs) ≡ kept (gs ++ g ∷ [])
kept_more gs g h =
    let longer : length gs + 1 ≡ length (gs ++ g ∷ []) = sym (length-append gs (g ∷ [])) in
    let greater : sum gs + g ≡ sum (gs ++ g ∷ []) = sym (fold-append ◌+◌ 0 gs (g ∷ [])) in
    sym (cond_below (length gs) (2 ^ 32) _ _ h) ∙ (λ i. record { count = longer i; sum = greater i })

kept_full : (gs : List ℕ) (g : ℕ) → 2 ^ 32 ≤ length gs → with_gain g (kept gs) ≡ kept gs
kept_full gs g h = sym (cond_above (length gs) (2 ^ 32) _ _ _ h refl)

limit : most_notes ≡ 2 ^ 32
unfolding most_notes
limit = refl

with_gain_of : (gs : List ℕ) (g : ℕ) → with_gain g (side_gains_of gs) ≡ side_gains_of (gs ++ g ∷ [])
with_gain_of gs g = by (nat_lt (length (take most_notes gs)) most_notes) refl
  where
    by : (t : Bool) → nat_lt (length (take most_notes gs)) most_notes ≡ t → with_gain g (side_gains_of gs) ≡ side_gains_of (gs ++ g ∷ [])
    by true e =
        let h : length (take most_notes gs) < most_notes = ltb-true _ _ e in
        kept_more (take most_notes gs) g (subst (λ m. length (take most_notes gs) < m) limit h) ∙ ap kept (sym (below_limit most_notes gs g h))
    by false e =
        let h : most_notes ≤ length (take most_notes gs) = ltb-false _ _ e in
        kept_full (take most_notes gs) g (subst (λ m. m ≤ length (take most_notes gs)) limit h) ∙ ap kept (sym (at_limit most_notes gs g h))

pub taken_of : (gs hs : List ℕ) → taken (side_gains_of gs) hs ≡ side_gains_of (gs ++ hs)
taken_of gs [] = ap side_gains_of (sym (append-nil gs))
taken_of gs (h ∷ hs) = ap (λ s. taken s hs) (with_gain_of gs h) ∙ taken_of (gs ++ h ∷ []) hs ∙ ap side_gains_of (append_assoc gs (h ∷ []) hs)

-- nothing is noted at first
nothing_on : (side : Side) → gains_on side no_column_gains ≡ side_gains_of []
nothing_on Down = ap kept (sym (take-nil most_notes))
nothing_on Up = ap kept (sym (take-nil most_notes))

pub run_from_nothing : (m : ℕ) (ns : List Note) (j : ℕ) (side : Side) → j < m
    → gains_on side (gains_at (all_noted (replicate m no_column_gains) ns) j) ≡ side_gains_of (gains_of ns j side)
run_from_nothing m ns j side h =
    let there : j < length (replicate m no_column_gains) = subst (λ n. j < n) (sym (length-replicate m no_column_gains)) h in
    run_at (replicate m no_column_gains) ns j side there
    ∙ ap (λ s. taken s (gains_of ns j side)) (ap (gains_on side) (get_or-replicate m j no_column_gains no_column_gains h) ∙ nothing_on side)
    ∙ taken_of [] (gains_of ns j side)
