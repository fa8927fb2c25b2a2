-- How large whole numbers over one denominator may be, so that no sum of a price has more than 127 bits.
use Rattle.std.specs.Prelude.{ℕ, ◌^◌}

-- denominators are smaller than this
abbrev pub denominator_limit : ℕ
denominator_limit = 2 ^ 62

-- the largest numerator that a combination leaves of a column
abbrev pub largest_left : ℕ
largest_left = 2 ^ 84

-- the largest bound that such a numerator is multiplied with
abbrev pub largest_price_bound : ℕ
largest_price_bound = 2 ^ 30

-- the largest addend of a price: the product of the two, or the numerator of the right side
abbrev pub largest_addend : ℕ
largest_addend = 2 ^ 114
