-- One more of a kind, drawn behind the others.
use Rattle.std.specs.Prelude.{◌≡◌, ◌+◌, ℕ, zero, suc, List, [], ◌∷◌, ◌++◌, refl}
use Rattle.std.proofs.Common.{ap, ◌∙◌, arith}
use Rattle.drill_instance.specs.Draws.{Drawn, draw_each}

-- these, and one more behind them
abbrev with_next : {A : Type 0} → (ℕ → Drawn A) → Drawn (List A) → Drawn (List A)
with_next kind before =
    let next = kind before.state in
    record { value = before.value ++ next.value ∷ []; state = next.state }

next_drawn : {A : Type 0} (kind : ℕ → Drawn A) (count s : ℕ) → draw_each kind (suc count) s ≡ with_next kind (draw_each kind count s)
unfolding draw_each
next_drawn kind zero s = refl
next_drawn kind (suc count) s =
    let first = kind s in
    ap (λ others. record { value = first.value ∷ others.value; state = others.state }) (next_drawn kind count first.state)

one_more : {A : Type 0} (kind : ℕ → Drawn A) (count s : ℕ) → draw_each kind (count + 1) s ≡ with_next kind (draw_each kind count s)
one_more kind count s = ap (λ n. draw_each kind n s) (let e : count + 1 ≡ suc count = omega arith in e) ∙ next_drawn kind count s

pub none_drawn : {A : Type 0} (kind : ℕ → Drawn A) (s : ℕ) → (draw_each kind 0 s).value ≡ []
unfolding draw_each
none_drawn kind s = refl

pub state_of_none : {A : Type 0} (kind : ℕ → Drawn A) (s : ℕ) → (draw_each kind 0 s).state ≡ s
unfolding draw_each
state_of_none kind s = refl

pub one_more_drawn : {A : Type 0} (kind : ℕ → Drawn A) (count s : ℕ)
    → (draw_each kind (count + 1) s).value ≡ (draw_each kind count s).value ++ (kind (draw_each kind count s).state).value ∷ []
one_more_drawn kind count s = ap (λ d. d.value) (one_more kind count s)

pub state_of_one_more : {A : Type 0} (kind : ℕ → Drawn A) (count s : ℕ) → (draw_each kind (count + 1) s).state ≡ (kind (draw_each kind count s).state).state
state_of_one_more kind count s = ap (λ d. d.state) (one_more kind count s)

pub ruleset drawn = (none_drawn, state_of_none, one_more_drawn, state_of_one_more)
