-- Entries by the places of their columns.
use Rattle.std.specs.Prelude.{◌≡◌, ℕ, ◌&&◌, not, if◌then◌else◌, List, ◌∷◌, ◌++◌, []}
use Rattle.std.specs.Str.{bytes_eq}
use Rattle.std.proofs.Common.{refl, sym, ap, ◌∙◌, append_assoc, append-nil}
use Rattle.fraction.specs.Rational.{ℚ}
use Rattle.mps_reader.specs.Sections.{Entry, columns_of, number}
use Rattle.mps_reader.specs.Meaning.{is_zero, place, terms_of}
use Rattle.problem.specs.Linear.{Terms}

-- the entries in order
abbrev pub placed_of : List Entry → List (List ℕ × (ℕ × ℚ))
placed_of [] = []
placed_of (e ∷ earlier) = placed_of earlier ++ (e.row, (place (columns_of (e ∷ earlier)) e.column, number e.value)) ∷ []

-- the terms of a row
abbrev pub term_in : List ℕ → List ℕ × (ℕ × ℚ) → Terms
term_in name t = if bytes_eq t.0 name && not (is_zero t.1.1) then (t.1.0, t.1.1) ∷ [] else []

abbrev pub terms_in : List ℕ → List (List ℕ × (ℕ × ℚ)) → Terms
terms_in name [] = []
terms_in name (t ∷ ts) = term_in name t ++ terms_in name ts

pub terms_in-append : (name : List ℕ) (ts us : List (List ℕ × (ℕ × ℚ))) → terms_in name (ts ++ us) ≡ terms_in name ts ++ terms_in name us
terms_in-append name [] us = refl
terms_in-append name (t ∷ ts) us = ap (λ r. term_in name t ++ r) (terms_in-append name ts us) ∙ sym (append_assoc (term_in name t) (terms_in name ts) (terms_in name us))

pub terms_placed : (name : List ℕ) (entries : List Entry) → terms_of name entries ≡ terms_in name (placed_of entries)
terms_placed name [] = refl
terms_placed name (e ∷ earlier) =
    let t : List ℕ × (ℕ × ℚ) = (e.row, (place (columns_of (e ∷ earlier)) e.column, number e.value)) in
    (λ i. terms_placed name earlier i ++ sym (append-nil (term_in name t)) i) ∙ sym (terms_in-append name (placed_of earlier) (t ∷ []))
