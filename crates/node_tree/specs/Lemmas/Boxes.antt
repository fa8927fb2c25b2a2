-- Lemmas: the boxes of paths, one branch further down.
use Rattle.std.specs.Prelude.{◌≡◌, ◌<◌, ◌+◌, ℕ, zero, suc, ℤ, ◌&&◌, cond, List, [], ◌∷◌, length, refl}
use Rattle.std.proofs.Common.{sym, ap, ◌∙◌, arith}
use Rattle.std.proofs.lemmas.Bool.{eq-eqb, ne_eqb}
use Rattle.problem_box.specs.declared.span.Span.{Span}
use Rattle.node_tree.specs.declared.branch.Side.{Side}
use Rattle.node_tree.specs.declared.branch.Side.TheVariants.{Low, High}
use Rattle.node_tree.specs.declared.branch.Branch.{Branch}
use Rattle.node_tree.specs.Paths.{is_same_side, deepest, box_along}
use Rattle.node_tree.specs.Cuts.{cut_on, cut_by}

-- no path, no change
pub box_of_root : (j : ℕ) (ss : List Span) → box_along [] j ss ≡ ss
box_of_root j [] = refl
box_of_root j (r ∷ rs) = ap (λ ss. r ∷ ss) (box_of_root (j + 1) rs)

pub length-box : (path : List (ℕ × Branch)) (j : ℕ) (ss : List Span) → length (box_along path j ss) ≡ length ss
length-box path j [] = refl
length-box path j (r ∷ rs) = ap suc (length-box path (j + 1) rs)

module _ (i : ℕ) (b : Branch) (path : List (ℕ × Branch)) where
  -- a bound of another column stays
  other_column : (j : ℕ) (side : Side) (root : ℤ) → (j ≡ b.column → ⊥) → deepest j side root ((i, b) ∷ path) ≡ deepest j side root path
  other_column j side root h = ap (λ t. cond (t && is_same_side side b.side) b.bound (deepest j side root path)) (ne_eqb j b.column h)

  -- in the branch's column, the bound of its side changes
  at_column : (j : ℕ) (side : Side) (root : ℤ) → j ≡ b.column → deepest j side root ((i, b) ∷ path) ≡ cond (is_same_side side b.side) b.bound (deepest j side root path)
  at_column j side root h = ap (λ t. cond (t && is_same_side side b.side) b.bound (deepest j side root path)) (eq-eqb j b.column h)

  -- columns behind the branch's stay
  box_behind : (j : ℕ) (ss : List Span) → b.column < j → box_along ((i, b) ∷ path) j ss ≡ box_along path j ss
  box_behind j [] h = refl
  box_behind j (r ∷ rs) h =
      let n : j ≡ b.column → ⊥ = λ e. omega arith in
      λ k. record { lo = other_column j Low r.lo n k; hi = other_column j High r.hi n k } ∷ box_behind (j + 1) rs (omega arith) k

  first_cut : (j : ℕ) (r : Span) (rs : List Span) → j ≡ b.column → box_along ((i, b) ∷ path) j (r ∷ rs) ≡ cut_on b.side (box_along path j (r ∷ rs)) zero b.bound
  first_cut j r rs e =
      (λ k. record { lo = at_column j Low r.lo e k; hi = at_column j High r.hi e k } ∷ box_behind (j + 1) rs (omega arith) k) ∙ on_side b.side
    where
      on_side : (side : Side) → record { lo = cond (is_same_side Low side) b.bound (deepest j Low r.lo path); hi = cond (is_same_side High side) b.bound (deepest j High r.hi path) } ∷ box_along path (j + 1) rs
          ≡ cut_on side (box_along path j (r ∷ rs)) zero b.bound
      on_side Low = refl
      on_side High = refl

  later_cut : (side : Side) (r : Span) (rs : List Span) (k : ℕ) (z : ℤ) → cut_on side (r ∷ rs) (suc k) z ≡ r ∷ cut_on side rs k z
  later_cut Low r rs k z = refl
  later_cut High r rs k z = refl

  none_cut : (side : Side) (k : ℕ) (z : ℤ) → [] ≡ cut_on side [] k z
  none_cut Low k z = refl
  none_cut High k z = refl

  box_cut_from : (j k : ℕ) (ss : List Span) → j + k ≡ b.column → box_along ((i, b) ∷ path) j ss ≡ cut_on b.side (box_along path j ss) k b.bound
  box_cut_from j k [] e = none_cut b.side k b.bound
  box_cut_from j zero (r ∷ rs) e = first_cut j r rs (omega arith)
  box_cut_from j (suc k) (r ∷ rs) e =
      let n : j ≡ b.column → ⊥ = λ q. omega arith in
      (λ m. record { lo = other_column j Low r.lo n m; hi = other_column j High r.hi n m } ∷ box_cut_from (j + 1) k rs (omega arith) m)
      ∙ sym (later_cut b.side (record { lo = deepest j Low r.lo path; hi = deepest j High r.hi path }) (box_along path (j + 1) rs) k b.bound)

  -- one more branch cuts the box
  pub box_cut : (ss : List Span) → box_along ((i, b) ∷ path) 0 ss ≡ cut_by b (box_along path 0 ss)
  box_cut ss = box_cut_from 0 b.column ss (omega arith)
