-- Lemmas on lists of events that pass a budget of nodes.
use Rattle.std.specs.Prelude.{◌≡◌, ◌+◌, ◌||◌, ◌&&◌, nat_lt, ℕ, Bool, true, false, List, [], ◌∷◌, length, refl, ◌≤◌, max}
use Rattle.std.specs.List.{list_any}
use Rattle.std.proofs.Common.{arith}
use Rattle.node_events.specs.declared.event.Event.{Event}
use Rattle.event_core.specs.Frames.{is_split}
use Rattle.node_pool.specs.Halting.{passes_budget, spends}

pub or_false : (b : Bool) → (b || false) ≡ true → b ≡ true
or_false true e = refl
or_false false e = cc

-- one of them is a split
pub some_split : (budget nodes : ℕ) (es : List Event) → spends budget nodes es ≡ true → list_any is_split es ≡ true
some_split budget nodes [] e = cc
some_split budget nodes (f ∷ es) e = step (is_split f) (nat_lt budget (nodes + 2)) (spends budget nodes es) (some_split budget nodes es) e
  where
    step : (a b c : Bool) → (c ≡ true → list_any is_split es ≡ true) → ((a && b) || c) ≡ true → (a || list_any is_split es) ≡ true
    step true b c more h = refl
    step false b c more h = more h

-- a single event passes it by itself
pub over_alone : (budget nodes : ℕ) (es : List Event) → length es ≡ 1 → spends budget nodes es ≡ true → (e : Event) × (es ≡ e ∷ []) × (passes_budget budget nodes e ≡ true)
over_alone budget nodes [] size h = cc
over_alone budget nodes (e ∷ []) size h = (e, refl, or_false (passes_budget budget nodes e) h)
over_alone budget nodes (e ∷ f ∷ es) size h = absurd (omega (arith, size))

-- what stays within a limit, or grows no further past it, does so over two steps
pub joined_most : (limit a b c : ℕ) → b ≤ max limit a → c ≤ max limit b → c ≤ max limit a
joined_most limit a b c h k = grind arith
