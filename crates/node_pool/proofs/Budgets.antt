-- Lists of events within a budget of nodes.
use Rattle.std.specs.Prelude.{◌≡◌, ◌≤◌, ◌+◌, ◌*◌, ◌++◌, ◌||◌, ◌&&◌, nat_lt, max, ℕ, Bool, true, false, cond, List, [], ◌∷◌, length, Option, Some, option_to_list, refl}
use Rattle.std.specs.List.{list_any}
use Rattle.std.proofs.Common.{sym, ap, ◌∙◌, subst, arith, length-append}
use Rattle.std.proofs.lemmas.Bool.{ltb-false}
use Rattle.node_events.specs.declared.event.Event.{Event}
use Rattle.event_core.specs.Frames.{is_split}
use Rattle.event_core.specs.Rooms.{split_count}
use Rattle.event_core.specs.Lemmas.Counting.{splits_are}
use Rattle.node_pool.specs.Free.{SplitsAlone}
use Rattle.node_pool.specs.Halting.{passes_budget, spends}
use Rattle.node_pool.specs.Lemmas.Budgets.{or_false, some_split}

or_left : (a b : Bool) → (a || b) ≡ false → a ≡ false
or_left true b e = cc
or_left false b e = refl

or_right : (a b : Bool) → (a || b) ≡ false → b ≡ false
or_right true b e = cc
or_right false b e = e

-- no node is split
none_split : (es : List Event) → list_any is_split es ≡ false → split_count es ≡ 0
none_split [] e = refl
none_split (f ∷ es) e = splits_are f es ∙ step (is_split f) (or_left (is_split f) (list_any is_split es) e) (none_split es (or_right (is_split f) (list_any is_split es) e))
  where
    step : (b : Bool) → b ≡ false → split_count es ≡ 0 → cond b 1 0 + split_count es ≡ 0
    step true h r = cc
    step false h r = omega (arith, r)

-- a split that is alone
one_split : (budget nodes : ℕ) (es : List Event) → length es ≡ 1 → list_any is_split es ≡ true → spends budget nodes es ≡ false → nodes + 2 * split_count es ≤ budget
one_split budget nodes [] size some e = cc
one_split budget nodes (f ∷ []) size some e = subst (λ (n : ℕ). nodes + 2 * n ≤ budget) (sym (splits_are f [])) (step (is_split f) (or_false (is_split f) some) (or_left (passes_budget budget nodes f) false e))
  where
    step : (b : Bool) → b ≡ true → (b && nat_lt budget (nodes + 2)) ≡ false → nodes + 2 * (cond b 1 0 + 0) ≤ budget
    step true h w = let room = ltb-false budget (nodes + 2) w in omega (arith, room)
    step false h w = cc
one_split budget nodes (f ∷ g ∷ es) size some e = absurd (omega (arith, size))

-- within the budget the nodes stay few enough
pub within_budget : (budget nodes : ℕ) (es : List Event) → SplitsAlone es → spends budget nodes es ≡ false → nodes + 2 * split_count es ≤ max budget nodes
within_budget budget nodes es alone within = step (list_any is_split es) refl
  where
    step : (b : Bool) → list_any is_split es ≡ b → nodes + 2 * split_count es ≤ max budget nodes
    step true e = let some = one_split budget nodes es (alone e) e within in omega (arith, some)
    step false e = let none = none_split es e in omega (arith, none)

-- ---- past the budget
-- the event that is taken out of the list is the split
pub split_taken : (budget nodes : ℕ) (es rest : List Event) (o : Option Event) (e : Event) → SplitsAlone es → spends budget nodes es ≡ true → es ≡ rest ++ option_to_list o → o ≡ Some e
    → (es ≡ e ∷ []) × (passes_budget budget nodes e ≡ true)
split_taken budget nodes es rest o e alone over items taken = found rest (items ∙ ap (λ (p : Option Event). rest ++ option_to_list p) taken)
  where
    size : length es ≡ 1
    size = alone (some_split budget nodes es over)

    found : (xs : List Event) → es ≡ xs ++ e ∷ [] → (es ≡ e ∷ []) × (passes_budget budget nodes e ≡ true)
    found [] q = (q, or_false (passes_budget budget nodes e) (subst (λ (l : List Event). spends budget nodes l ≡ true) q over))
    found (x ∷ xs) q = absurd (omega (arith, size, ap (λ (l : List Event). length l) q, length-append xs (e ∷ [])))
