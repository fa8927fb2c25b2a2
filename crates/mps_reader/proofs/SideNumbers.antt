-- Names with texts, and with the numbers that the texts spell.
use Rattle.std.specs.Prelude.{◌≡◌, ℕ, Bool, true, false, cond, List, ◌∷◌, map, Option, Some, None, option_map, is_some, []}
use Rattle.std.specs.Str.{bytes_eq}
use Rattle.std.proofs.Common.{refl, ap, ◌∙◌}
use Rattle.fraction.specs.Rational.{ℚ}
use Rattle.mps_reader.specs.Words.{value_under}
use Rattle.mps_reader.specs.Sections.{number}

-- texts with their numbers
abbrev pub numbers_of : List (List ℕ × List ℕ) → List (List ℕ × ℚ)
numbers_of pairs = map (λ p. (p.0, number p.1)) pairs

pub value_under_numbers : (pairs : List (List ℕ × List ℕ)) (name : List ℕ) → value_under (numbers_of pairs) name ≡ option_map number (value_under pairs name)
value_under_numbers [] name = refl
value_under_numbers (p ∷ pairs) name = step (bytes_eq name p.0) (value_under_numbers pairs name)
  where
    step : (b : Bool) → value_under (numbers_of pairs) name ≡ option_map number (value_under pairs name)
        → cond b (Some (number p.1)) (value_under (numbers_of pairs) name) ≡ option_map number (cond b (Some p.1) (value_under pairs name))
    step true h = refl
    step false h = h

is_some_map : {A B : Type 0} (f : A → B) (o : Option A) → is_some (option_map f o) ≡ is_some o
is_some_map f None = refl
is_some_map f (Some a) = refl

-- a name is there with a number where it is there with a text
pub is_named_numbers : (pairs : List (List ℕ × List ℕ)) (name : List ℕ) → is_some (value_under (numbers_of pairs) name) ≡ is_some (value_under pairs name)
is_named_numbers pairs name = ap is_some (value_under_numbers pairs name) ∙ is_some_map number (value_under pairs name)
