-- What contracts see of dictionaries that share lists.
use Rattle.std.proofs.Common.{◌≡◌, ℕ, zero, suc, ◌+◌, ◌<◌, arith, refl, ap, sym, subst, ◌∙◌, List, [], ◌∷◌, ◌++◌, length, get_or, map, replicate}
use Rattle.std.specs.Prelude.{ℤ}
use Rattle.std.proofs.lemmas.List.{get_or-map, length-append, length-map, length-replicate}
use Rattle.integer_tableau.proofs.Arenas.{positions_are, positions_many, rising_once, rows_many}
use Rattle.integer_tableau.proofs.BasicColumns.{column_within, columns_rise}
use Rattle.integer_tableau.proofs.StartFromCode.{start_nonbasic_are}
use Rattle.integer_tableau.proofs.Starting.{length_columns}
use Rattle.integer_tableau.specs.Arena.{positions_by}
use Rattle.integer_tableau.specs.Exits.{IsOnceEach}
use Rattle.integer_tableau.specs.Kept.{IsKept, KeptDictionaries, KeptDictionary, kept_at, kept_in}
use Rattle.integer_tableau.specs.Start.{columns_from}
use Rattle.integer_tableau.specs.declared.dictionary.Dictionary.{Dictionary}
use Rattle.integer_tableau.specs.declared.exits.Edge.{Edge}
use Rattle.integer_tableau.specs.declared.exits.Exit.{Exit}
use Rattle.integer_tableau.specs.declared.position.Position.TheVariants.{InBasis}

module _ (variables width : ℕ) (ns : List ℤ) (bs vs : List ℕ) where
  -- that at a place is made of its piece of each list
  pub kept_is : (ds : List Dictionary) (p : ℕ) (d : Dictionary) → p < length ds → d ≡ get_or ds p d → kept_at (map (kept_in variables width ns bs vs) ds) p ≡ kept_in variables width ns bs vs d
  kept_is ds p d l at = get_or-map (kept_in variables width ns bs vs) ds p d _ l ∙ sym (ap (kept_in variables width ns bs vs) at)

  -- so that what holds of each such one holds of that at a place
  pub each_kept : (P : KeptDictionary → Type 0) → ((d : Dictionary) → P (kept_in variables width ns bs vs d)) → (ds : List Dictionary) (p : ℕ) → p < length (map (kept_in variables width ns bs vs) ds)
      → P (kept_at (map (kept_in variables width ns bs vs) ds) p)
  each_kept P each [] p l = absurd (omega (arith, l))
  each_kept P each (d ∷ ds) zero l = each d
  each_kept P each (d ∷ ds) (suc p) l = each_kept P each ds p (omega (arith, l))

  -- and what holds of the one that a dictionary makes holds of that at its place
  pub at_place : (ds : List Dictionary) (xs : List Exit) (es : List Edge) (k : KeptDictionaries) → record { variables = variables; width = width; all = map (kept_in variables width ns bs vs) ds; exits = xs; edges = es } ≡ k
      → (P : ℕ → KeptDictionary → Type 0) (p : ℕ) (d : Dictionary) → p < length k.all → d ≡ get_or ds p d → P width (kept_in variables width ns bs vs d) → P k.width (kept_at k.all p)
  at_place ds xs es k e P p d l at h = subst (λ (k : KeptDictionaries). p < length k.all → P k.width (kept_at k.all p)) e
      (λ l. subst (P width) (sym (kept_is ds p d (omega (arith, l, length-map ds (kept_in variables width ns bs vs))) at)) h) l

-- a dictionary has a position for each variable, by the variables of its columns, and a row for each column
pub record IsViewed (variables width : ℕ) (d : KeptDictionary) : Type 0 where
  pub positions : d.positions ≡ positions_by variables d.nonbasic
  pub variables_many : length d.positions ≡ variables
  pub rows_many : length d.rows ≡ width

pub are_viewed : (variables width : ℕ) (ns : List ℤ) (bs vs : List ℕ) (ds : List Dictionary) (xs : List Exit) (es : List Edge) (k : KeptDictionaries)
    → record { variables = variables; width = width; all = map (kept_in variables width ns bs vs) ds; exits = xs; edges = es } ≡ k
    → (p : ℕ) → p < length k.all → IsViewed k.variables k.width (kept_at k.all p)
are_viewed variables width ns bs vs ds xs es k e = subst (λ (k : KeptDictionaries). (p : ℕ) → p < length k.all → IsViewed k.variables k.width (kept_at k.all p)) e
    (each_kept variables width ns bs vs (IsViewed variables width) (λ d. record { positions = refl; variables_many = positions_many variables _; rows_many = rows_many width _ _ }) ds)

-- ---- one that is kept
module _ (ps : List (List ℤ)) (weight : ℕ) (costs : List ℤ) (d : KeptDictionary) (kept : IsKept ps weight costs d) where
  pub basic_within : (p : ℕ) → p < length d.basic_columns → get_or d.basic_columns p 0 < length d.rows
  basic_within p l =
      let within = column_within 0 (length d.rows) d.positions p (omega (arith, l, ap length kept.basic)) in
      omega (arith, ap (λ bs. get_or bs p 0) kept.basic, within)

  pub basic_once : IsOnceEach d.basic_columns
  basic_once = subst IsOnceEach (sym kept.basic) (rising_once _ (columns_rise 0 (length d.rows) d.positions))

-- ---- that of the rows' values
pub start_positions_are : (n m : ℕ) (nonbasic : List ℕ) → length nonbasic ≡ n → ((k : ℕ) → k < n → get_or nonbasic k 0 ≡ k) → positions_by (n + m) nonbasic ≡ columns_from 0 n ++ replicate m InBasis
start_positions_are n m nonbasic many each =
    positions_are (n + m) (columns_from 0 n ++ replicate m InBasis) nonbasic long (start_nonbasic_are n m _ nonbasic refl many each)
  where
    long : length (columns_from 0 n ++ replicate m InBasis) ≡ n + m
    long = length-append (columns_from 0 n) (replicate m InBasis) ∙ (λ i. length_columns 0 n i + length-replicate m InBasis i)
