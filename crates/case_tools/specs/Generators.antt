-- A linear congruential generator: Knuth's multiplier and an increment, modulo 2^64.
use Rattle.std.specs.Prelude.{ℕ, ◌+◌, ◌*◌, ◌/◌, ◌%◌, ◌^◌}

-- the state after this one
abbrev pub stepped : ℕ → ℕ
stepped s = (s * 6_364_136_223_846_793_005 + 1_442_695_040_888_963_407) % 2 ^ 64

-- the number that a state gives, of 31 bits
abbrev pub number_of : ℕ → ℕ
number_of s = s / 2 ^ 33
