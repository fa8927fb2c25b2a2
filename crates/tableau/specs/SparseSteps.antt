-- The operations on rows, entry by entry. Only contracts of the code's own parts cite what stands here.
use Rattle.std.specs.Ordering.{int_eq}
use Rattle.std.specs.Prelude.{◌≡◌, Bool, false, ◌<◌, ◌≤◌, ◌++◌, drop, length, ℕ, pos, nat_lt, nat_eq, List, [], ◌∷◌, Option, Some, None, MatchOption, slice_index_or, if◌then◌else◌}
use Rattle.std.specs.Option.{option_and_then, option_map}
use Rattle.fraction.specs.Rational.{ℚ}
use Rattle.fraction.specs.Checked.{mul_checked}
use Rattle.problem.specs.Linear.{Terms}
use Rattle.tableau.specs.declared.bounds.Bounds.{Bounds}
use Rattle.tableau.specs.declared.bounds.Direction.{Direction}
use Rattle.tableau.specs.declared.status.BasisStatus.{BasisStatus}
use Rattle.tableau.specs.declared.status.BasisStatus.TheVariants.{Basic}
use Rattle.tableau.specs.Elimination.{Coefficients, entry, add_multiple, substituted, negative_quotient, solved_for}
use Rattle.tableau.specs.Pivot.{rows_eliminated}
use Rattle.tableau.specs.Leaving.{unbounded}
use Rattle.tableau.specs.Entering.{with_ratio}
use Rattle.tableau.specs.Sparse.{with_entry}

-- ---- the place of a variable
-- so many entries are of variables before v
pub record IsPosition (v : ℕ) (es : Terms) (p : ℕ) : Type 0 where
  pub there : p ≤ length es
  pub before : (k : ℕ) (d : ℕ × ℚ) → k < p → (slice_index_or es k d).0 < v
  pub from : (k : ℕ) (d : ℕ × ℚ) → p ≤ k → k < length es → v ≤ (slice_index_or es k d).0

-- ---- entries behind others
-- `new` with what the rest of the work gives is `old` with what all of it gives
abbrev pub Continues : Terms → Terms → Option Terms → Option Terms → Type 0
Continues old new all rest = option_map (λ es. new ++ es) rest ≡ option_map (λ es. old ++ es) all

-- the same after the first entries of the source, r of them, unless the work is cramped; `next` is the rest of it
abbrev pub ContinuesAfter : Option ℕ → Terms → Terms → Option Terms → (Terms → Option Terms) → Terms → Type 0
ContinuesAfter r old new all next source = MatchOption r (all ≡ None) (λ n. Continues old new all (next (drop n source)))

-- the entry of v, if it is there, before the rest
abbrev pub entry_then : ℕ → Option ℚ → Option Terms → Option Terms
entry_then v entry rest = option_and_then (λ x. option_map (with_entry v x) rest) entry

-- ---- the merge of two rows
-- q times the entries of variables below k, and then what `next` gives for the others
abbrev pub products_below : ℚ → ℕ → (Terms → Option Terms) → Terms → Option Terms
products_below q k next [] = next []
products_below q k next (s ∷ ss) =
    if nat_lt s.0 k then entry_then s.0 (mul_checked q s.1) (products_below q k next ss) else next (s ∷ ss)

-- the first entry is of this variable
abbrev pub begins_with : Terms → ℕ → Bool
begins_with [] v = false
begins_with (e ∷ es) v = nat_eq e.0 v

-- entry t, with q times that of the same variable if this comes first, and then what `next` gives for the others
abbrev pub met : ℚ → ℕ × ℚ → (Terms → Option Terms) → Terms → Option Terms
met q t next [] = option_map (λ es. t ∷ es) (next [])
met q t next (s ∷ ss) =
    if nat_eq s.0 t.0 then entry_then t.0 (add_multiple q t.1 s.1) (next ss)
    else option_map (λ es. t ∷ es) (next (s ∷ ss))

-- the entries of a row of this width, with q times those of a second one
abbrev pub merged : ℕ → ℚ → Terms → Terms → Option Terms
merged w q [] = products_below q w (λ ss. Some [])
merged w q (t ∷ ts) = products_below q t.0 (met q t (merged w q ts))

-- ---- the quotients of a solved row
-- the entries, each divided by the pivot, with the other sign
abbrev pub entry_quotients : ℚ → Terms → Option Terms
entry_quotients p [] = Some []
entry_quotients p (e ∷ es) = entry_then e.0 (negative_quotient p e.1) (entry_quotients p es)

-- ---- a sum of products
-- on from the sum s
abbrev pub sum_over_entries : ℚ → Terms → List ℚ → Option ℚ
sum_over_entries s [] xs = Some s
sum_over_entries s (e ∷ es) xs = option_and_then (λ t. sum_over_entries t es xs) (add_multiple e.1 s (entry xs e.0))

-- ---- the ratio test
-- the ratio test over the entries of the leaving row alone
abbrev pub entering_by_entries : Direction → Option (ℕ × ℚ) → List BasisStatus → List Bounds → Coefficients → Terms → Option (Option (ℕ × ℚ))
entering_by_entries w best ss bs ds [] = Some best
entering_by_entries w best ss bs ds (e ∷ es) =
    option_and_then (λ best. entering_by_entries w best ss bs ds es)
    (with_ratio e.0 w best (slice_index_or ss e.0 Basic) (slice_index_or bs e.0 unbounded) (entry ds e.0) e.1)

-- ---- a row with a substitution that is ready
-- where the row has variable c, the row that is ready for it, else the row itself
abbrev pub next_row : ℕ → Coefficients → Coefficients → Coefficients
next_row c row ready = if int_eq (entry row c).num (pos 0) then row else ready

-- the reduced costs with the solved row of a pivot of r and c in all rows: none where a row or they are cramped
abbrev pub costs_eliminated : ℕ → ℕ → List Coefficients → Coefficients → Option Coefficients
costs_eliminated r c rows costs = option_and_then (λ rs. substituted c (slice_index_or rs r []) costs) (rows_eliminated r c rows)

-- all that a pivot of r and c puts in place of rows and reduced costs is ready
pub record IsPivotPrepared (r c : ℕ) (rows : List Coefficients) (costs new : Coefficients) (ready : List Coefficients) (ready_costs : Coefficients) : Type 0 where
  pub is_solved : solved_for r c (slice_index_or rows r []) ≡ Some new
  pub others : (k : ℕ) → k < length rows → (k ≡ r → ⊥)
      → substituted c new (slice_index_or rows k []) ≡ Some (next_row c (slice_index_or rows k []) (slice_index_or ready k []))
  pub are_costs : substituted c new costs ≡ Some ready_costs
  pub room : length rows ≤ length ready
