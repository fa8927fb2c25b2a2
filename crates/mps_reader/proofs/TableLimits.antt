-- What follows from the limits that the reader's tables keep to.
use Rattle.std.specs.Prelude.{◌≡◌, ℕ, Bool, true, false, ◌&&◌, nat_le, cond, List, ◌∷◌, Option, Some, None, is_some, length, All, zero, suc, pos, []}
use Rattle.std.specs.List.{list_all}
use Rattle.std.specs.Option.{option_map, unwrap_or}
use Rattle.std.specs.Str.{bytes_eq, IsAscii}
use Rattle.std.proofs.Common.{refl, arith}
use Rattle.std.proofs.lemmas.Bool.{and_parts}
use Rattle.std.proofs.lemmas.List.Elements.{All-nil, All-cons}
use denote.Ref.{Bor}
use Rattle.fraction.specs.Rational.{ℚ, whole}
use Rattle.problem.specs.Limited.{AreLimited}
use Rattle.mps_reader.proofs.SideNumbers.{numbers_of}
use Rattle.mps_reader.proofs.BuildingLemmas.{are_limited, side_in}
use Rattle.mps_reader.specs.VisibleNames.{is_visible}
use Rattle.mps_reader.specs.Lemmas.LinesWithinLimits.{reach_le, limited_wider}
use Rattle.mps_reader.specs.Meaning.{objective_terms, terms_of}
use Rattle.mps_reader.specs.Lemmas.Modest.{modest_zero}
use Rattle.mps_reader.specs.Sections.{Entry, number}
use Rattle.mps_reader.specs.Tables.{table}
use Rattle.mps_reader.specs.Words.{value_under}
use Rattle.mps_reader.specs.declared.kinds.Column.{Column}
use Rattle.mps_reader.specs.Lemmas.Limits.{is_modest, KeepsEntries, reach, are_modest_sides}
use Rattle.mps_reader.specs.Lemmas.Placing.{terms_in}

pub side_modest : (pairs : List (List ℕ × List ℕ)) (name : List ℕ) → are_modest_sides pairs ≡ true → is_modest (side_in (numbers_of pairs) name) ≡ true
side_modest [] name h = modest_zero
side_modest (p ∷ pairs) name h = let a = and_parts (is_modest (number p.1)) (are_modest_sides pairs) h in by (side_modest pairs name a.1) (bytes_eq name p.0) a.0
  where
    by : is_modest (side_in (numbers_of pairs) name) ≡ true → (b : Bool) → is_modest (number p.1) ≡ true → is_modest (unwrap_or (cond b (Some (number p.1)) (value_under (numbers_of pairs) name)) (whole (pos 0))) ≡ true
    by rest true m = m
    by rest false m = rest

-- the terms of a row
module _ (cs : List (List ℕ × Column)) (run : List (List ℕ × ℚ)) (last : Option (List ℕ)) (ts : List (List ℕ × (ℕ × ℚ))) (h : KeepsEntries cs run last ts) where
  pub keeps_limited : (name : List ℕ) → AreLimited (length cs) (terms_in name ts)
  keeps_limited name = are_limited (length cs) (terms_in name ts)
      (limited_wider (reach (value_under run name) (length cs)) (length cs) 0 (terms_in name ts) (reach_le (value_under run name) (length cs)) (h.terms name))

-- visible names are ASCII
ascii_of : (name : List ℕ) → is_visible name ≡ true → IsAscii name
ascii_of [] h i = omega arith
ascii_of (b ∷ name) h zero =
    let a = and_parts (nat_le 33 b && nat_le b 126) _ h in
    let c = and_parts (nat_le 33 b) (nat_le b 126) a.0 in
    grind (arith, c.1)
ascii_of (b ∷ name) h (suc i) = ascii_of name (and_parts (nat_le 33 b && nat_le b 126) _ h).1 i

pub names_ascii : (es : List (Bor (List ℕ) × Column)) → list_all (λ c. is_visible c.0) (table es) ≡ true → All (λ e. IsAscii e.0.now) es
names_ascii [] h = All-nil (λ (e : Bor (List ℕ) × Column). IsAscii e.0.now)
names_ascii (e ∷ es) h =
    let a = and_parts (is_visible e.0.now) _ h in
    All-cons (λ (e : Bor (List ℕ) × Column). IsAscii e.0.now) e es (ascii_of e.0.now a.0) (names_ascii es a.1)

pub objective_by : (entries : List Entry) (o : Option (List ℕ)) (objective : List (ℕ × ℚ)) → Some objective ≡ option_map (λ name. terms_of name entries) o
    → (is_some o ≡ true) × (objective ≡ objective_terms o entries)
objective_by entries None objective e = cc
objective_by entries (Some name) objective e = (refl, same objective _ e)
  where
    same : (a b : List (ℕ × ℚ)) → Some a ≡ Some b → a ≡ b
    same a b h = cc
