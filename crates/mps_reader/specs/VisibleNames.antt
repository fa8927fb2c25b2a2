-- Names that are visible.
use Rattle.std.specs.Prelude.{ℕ, Bool, ◌&&◌, nat_le, List}
use Rattle.std.specs.List.{list_all}

-- each byte is visible ASCII
abbrev pub is_visible : List ℕ → Bool
is_visible name = list_all (λ b. nat_le 33 b && nat_le b 126) name
