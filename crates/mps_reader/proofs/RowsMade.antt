-- Lemmas: the rows and the objective of a problem from the rows of the text and their terms.
use Rattle.std.specs.Prelude.{◌≡◌, ℕ, ◌+◌, suc, Bool, true, if◌then◌else◌, List, ◌∷◌, ◌++◌, map, Option, Some, None, All, length, drop, slice_get, []}
use Rattle.std.specs.List.{flat_map}
use Rattle.std.specs.Option.{option_map, option_or, unwrap_or}
use Rattle.std.proofs.Common.{refl, sym, ap, ◌∙◌, ◌<◌, arith, add-one, append_assoc, append-nil, get_or, subst}
use Rattle.std.proofs.Math.Seq.{drop-cons}
use Rattle.std.proofs.lemmas.List.{length-drop}
use Rattle.std.proofs.lemmas.Slice.Eq.{bytes_eq-Decides}
use Rattle.std.proofs.lemmas.List.Elements.{All-head, All-tail}
use Rattle.std.proofs.lemmas.Option.{slice_get_within, get_or_from_slice_get}
use Rattle.fraction.specs.Rational.{ℚ}
use Rattle.problem.specs.declared.row.Row.{Row}
use Rattle.problem.specs.Rising.{AreNonzero, AreRising}
use Rattle.mps_reader.specs.Building.{objective_with, side_of}
use Rattle.mps_reader.specs.Meaning.{objective_name, rows_at, rows_from, terms_of}
use Rattle.mps_reader.proofs.RowsSoFar.{or_none}
use Rattle.mps_reader.specs.RowsSoFar.{row_so_far}
use Rattle.mps_reader.specs.Sections.{Entry, is_same}
use Rattle.mps_reader.specs.SideLines.{side_so_far}
use Rattle.mps_reader.specs.declared.kinds.RowType.{RowType}
use Rattle.mps_reader.specs.declared.kinds.RowType.TheVariants as row
use Rattle.mps_reader.specs.RowState.{RowState, kept_terms, bare_row}
use Rattle.mps_reader.specs.RowsMade.{made_rows, made_objective}

-- the numbers from an index on are those of these rows
abbrev pub AreSides : List (Option ℚ) → List (List ℕ × List ℕ) → ℕ → List (List ℕ × RowType) → Type 0
AreSides sides pairs i rows = (k : ℕ) → get_or sides (k + i) None ≡ get_or (map (side_so_far pairs) rows) k None

-- they are those of the entries
module _ (entries : List Entry) (objective : Option (List ℕ)) where
  row_is : (rhs ranges : List (List ℕ × List ℕ)) (name : List ℕ) (type : RowType)
      → rows_from type (side_of (side_so_far rhs (name, type))) (side_so_far ranges (name, type)) (kept_terms (row_so_far objective entries (name, type))) ≡ rows_at entries rhs ranges (name, type)
  row_is rhs ranges name row.N = refl
  row_is rhs ranges name row.L = refl
  row_is rhs ranges name row.G = refl
  row_is rhs ranges name row.E = refl

  pub rows_made : (sides others : List (Option ℚ)) (rhs ranges : List (List ℕ × List ℕ)) (i : ℕ) (rows : List (List ℕ × RowType)) → AreSides sides rhs i rows → AreSides others ranges i rows
      → made_rows sides others i rows (map (row_so_far objective entries) rows) ≡ flat_map (rows_at entries rhs ranges) rows
  rows_made sides others rhs ranges i [] h k = refl
  rows_made sides others rhs ranges i (r ∷ rows) h k =
      (λ j. rows_from r.1 (side_of (here sides rhs h j)) (here others ranges k j) (kept_terms (row_so_far objective entries r)) ++ rows_made sides others rhs ranges (suc i) rows (behind sides rhs h) (behind others ranges k) j)
      ∙ ap (λ rs. rs ++ flat_map (rows_at entries rhs ranges) rows) (row_is rhs ranges r.0 r.1)
    where
      here : (sides : List (Option ℚ)) (pairs : List (List ℕ × List ℕ)) → AreSides sides pairs i (r ∷ rows) → get_or sides i None ≡ side_so_far pairs r
      here sides pairs h = let n : i ≡ 0 + i = omega arith in ap (λ n. get_or sides n None) n ∙ h 0

      behind : (sides : List (Option ℚ)) (pairs : List (List ℕ × List ℕ)) → AreSides sides pairs i (r ∷ rows) → AreSides sides pairs (suc i) rows
      behind sides pairs h k = let n : k + suc i ≡ suc k + i = omega arith in ap (λ n. get_or sides n None) n ∙ h (suc k)

  pub objective_made : (rows : List (List ℕ × RowType)) → objective_name rows ≡ objective → made_objective rows (map (row_so_far objective entries) rows) ≡ option_map (λ name. terms_of name entries) objective
  objective_made [] h = ap (option_map (λ name. terms_of name entries)) h
  objective_made ((name, row.N) ∷ rows) h =
      let s : is_same objective name ≡ true = ap (λ o. is_same o name) (sym h) ∙ (bytes_eq-Decides name name).1 refl in
      ap (λ (b : Bool). Some (unwrap_or (if b then Some (terms_of name entries) else None) [])) s ∙ ap (option_map (λ name. terms_of name entries)) h
  objective_made ((name, row.L) ∷ rows) h = objective_made rows h
  objective_made ((name, row.G) ∷ rows) h = objective_made rows h
  objective_made ((name, row.E) ∷ rows) h = objective_made rows h

-- ---- the rows so far
option_or-assoc : {A : Type 0} (a b c : Option A) → option_or (option_or a b) c ≡ option_or a (option_or b c)
option_or-assoc None b c = refl
option_or-assoc (Some a) b c = refl

rows_left : (rows : List (List ℕ × RowType)) (i : ℕ) (r : List ℕ × RowType) → slice_get rows i ≡ Some r → drop i rows ≡ r ∷ drop (i + 1) rows
rows_left rows i r h = drop-cons rows i r (slice_get_within rows i r h) ∙ (λ j. get_or_from_slice_get rows i r r h j ∷ drop (sym (add-one i) j) rows)

-- the terms that are left are a row's and those behind it
module _ (terms : List RowState) (i n : ℕ) (count : i + length (drop i terms) ≡ n) (l : i < n) where
  pub left_within : i < length terms
  left_within = omega (arith, count, l, length-drop i terms)

  pub left_from : drop i terms ≡ get_or terms i bare_row ∷ drop (i + 1) terms
  left_from = drop-cons terms i bare_row left_within ∙ (λ j. get_or terms i bare_row ∷ drop (sym (add-one i) j) terms)

-- the rows and the objective so far, and the terms that are left
pub record HasRows (sides ranges : List (Option ℚ)) (rows : List (List ℕ × RowType)) (terms : List RowState) (done : List Row) (o : Option (List (ℕ × ℚ))) (i : ℕ) (left : List RowState) : Type 0 where
  pub rows_are : done ++ made_rows sides ranges i (drop i rows) left ≡ made_rows sides ranges 0 rows terms
  pub objective_is : option_or o (made_objective (drop i rows) left) ≡ made_objective rows terms
  pub count : i + length left ≡ length rows
  pub rising : All (λ t. AreRising (kept_terms t)) left
  pub nonzero : All (λ t. AreNonzero (kept_terms t)) left

module _ (sides ranges : List (Option ℚ)) (rows : List (List ℕ × RowType)) (terms : List RowState) (done : List Row) (o : Option (List (ℕ × ℚ))) (i : ℕ) (left : List RowState)
    (h : HasRows sides ranges rows terms done o i left) where
  pub next_limits : (t : RowState) (rest : List RowState) → left ≡ t ∷ rest → AreRising (kept_terms t) × AreNonzero (kept_terms t)
  next_limits t rest e = (
    All-head (λ (t : RowState). AreRising (kept_terms t)) t rest (subst (λ ts. All (λ (t : RowState). AreRising (kept_terms t)) ts) e h.rising),
    All-head (λ (t : RowState). AreNonzero (kept_terms t)) t rest (subst (λ ts. All (λ (t : RowState). AreNonzero (kept_terms t)) ts) e h.nonzero),
  )

  pub rows_next : (t : RowState) (rest : List RowState) (r : List ℕ × RowType) (new : List Row) (p : Option (List (ℕ × ℚ))) → left ≡ t ∷ rest → slice_get rows i ≡ Some r
      → new ≡ done ++ rows_from r.1 (side_of (get_or sides i None)) (get_or ranges i None) (kept_terms t) → p ≡ option_or o (objective_with r.1 (kept_terms t)) → HasRows sides ranges rows terms new p (i + 1) rest
  rows_next t rest r new p e s n q = record {
    rows_are = ap (λ rs. rs ++ made_rows sides ranges (i + 1) (drop (i + 1) rows) rest) n
        ∙ append_assoc done (rows_from r.1 (side_of (get_or sides i None)) (get_or ranges i None) (kept_terms t)) (made_rows sides ranges (i + 1) (drop (i + 1) rows) rest)
        ∙ (λ j. done ++ (rows_from r.1 (side_of (get_or sides i None)) (get_or ranges i None) (kept_terms t) ++ made_rows sides ranges (add-one i j) (drop (i + 1) rows) rest))
        ∙ (λ j. done ++ made_rows sides ranges i (sym (rows_left rows i r s) j) (sym e j)) ∙ h.rows_are;
    objective_is = ap (λ x. option_or x (made_objective (drop (i + 1) rows) rest)) q ∙ option_or-assoc o (objective_with r.1 (kept_terms t)) (made_objective (drop (i + 1) rows) rest)
        ∙ (λ j. option_or o (made_objective (sym (rows_left rows i r s) j) (sym e j))) ∙ h.objective_is;
    count = omega (arith, h.count, ap length e);
    rising = All-tail (λ (t : RowState). AreRising (kept_terms t)) t rest (subst (λ ts. All (λ (t : RowState). AreRising (kept_terms t)) ts) e h.rising);
    nonzero = All-tail (λ (t : RowState). AreNonzero (kept_terms t)) t rest (subst (λ ts. All (λ (t : RowState). AreNonzero (kept_terms t)) ts) e h.nonzero);
  }

  pub rows_done : left ≡ [] → (done ≡ made_rows sides ranges 0 rows terms) × (o ≡ made_objective rows terms)
  rows_done e = (
    sym (append-nil done) ∙ ap (λ rs. done ++ rs) (sym (no_rows (drop i rows))) ∙ (λ j. done ++ made_rows sides ranges i (drop i rows) (sym e j)) ∙ h.rows_are,
    sym (or_none o) ∙ ap (option_or o) (sym (no_objective (drop i rows))) ∙ (λ j. option_or o (made_objective (drop i rows) (sym e j))) ∙ h.objective_is,
  )
    where
      no_rows : (rs : List (List ℕ × RowType)) → made_rows sides ranges i rs [] ≡ []
      no_rows [] = refl
      no_rows (r ∷ rs) = refl

      no_objective : (rs : List (List ℕ × RowType)) → made_objective rs [] ≡ None
      no_objective [] = refl
      no_objective (r ∷ rs) = refl
