-- Numbers that look like random ones, by a linear congruential generator: Knuth's multiplier and an increment, modulo 2^64.
use Rattle.std.specs.Prelude.{ℕ, zero, suc, ◌+◌, ◌*◌, ◌/◌, ◌%◌, ◌^◌, List, [], ◌∷◌}

-- what is drawn, and the generator's state behind it
pub record Drawn (A : Type 0) : Type 0 where
  pub value : A
  pub state : ℕ

-- the state after this one
abbrev pub next_state : ℕ → ℕ
next_state s = (s * 6_364_136_223_846_793_005 + 1_442_695_040_888_963_407) % 2 ^ 64

-- one of so many numbers, from 0: the remainder of the upper 31 bits of the next state
abbrev pub draw : ℕ → ℕ → Drawn ℕ
draw choices s = record { value = next_state s / 2 ^ 33 % choices; state = next_state s }

-- a number from 1 to this one
abbrev pub draw_positive : ℕ → ℕ → Drawn ℕ
draw_positive most s = let drawn = draw most s in record { value = 1 + drawn.value; state = drawn.state }

-- so many of one kind: the first, and then the others, from the state behind it
unfoldable pub draw_each : {A : Type 0} → (ℕ → Drawn A) → ℕ → ℕ → Drawn (List A)
draw_each kind zero s = record { value = []; state = s }
draw_each kind (suc count) s =
    let first = kind s in
    let others = draw_each kind count first.state in
    record { value = first.value ∷ others.value; state = others.state }
