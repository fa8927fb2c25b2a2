-- Who set a bound, and what it is.
use Rattle.std.specs.Prelude.{◌≡◌, ◌+◌, ℕ, zero, suc, ℤ, ◌&&◌, cond, eqb, Bool, true, false, List, [], ◌∷◌, Some, slice_get, refl}
use Rattle.std.specs.Option.{option_map, option_map_or}
use Rattle.std.proofs.Common.{sym, ap, ◌∙◌, arith}
use Rattle.problem_box.specs.declared.span.Span.{Span}
use Rattle.node_tree.specs.declared.branch.Side.{Side}
use Rattle.node_tree.specs.declared.branch.Side.TheVariants.{Low, High}
use Rattle.node_tree.specs.declared.branch.Branch.{Branch}
use Rattle.node_tree.specs.Paths.{is_same_side, setter, setting, deepest, box_along, bound_on}

module _ (j : ℕ) (side : Side) where
  pub setter-setting : (ss : List (ℕ × Branch)) → setter j side ss ≡ option_map (λ (s : ℕ × Branch). s.0) (setting j side ss)
  setter-setting [] = refl
  setter-setting (s ∷ ss) = step (setter-setting ss) (eqb j s.1.column && is_same_side side s.1.side)
    where
      step : setter j side ss ≡ option_map (λ (s : ℕ × Branch). s.0) (setting j side ss) → (t : Bool)
          → cond t (Some s.0) (setter j side ss) ≡ option_map (λ (s : ℕ × Branch). s.0) (cond t (Some s) (setting j side ss))
      step ih true = refl
      step ih false = ih

  pub deepest-setting : (root : ℤ) (ss : List (ℕ × Branch)) → deepest j side root ss ≡ option_map_or (λ (s : ℕ × Branch). s.1.bound) (setting j side ss) root
  deepest-setting root [] = refl
  deepest-setting root (s ∷ ss) = step (deepest-setting root ss) (eqb j s.1.column && is_same_side side s.1.side)
    where
      step : deepest j side root ss ≡ option_map_or (λ (s : ℕ × Branch). s.1.bound) (setting j side ss) root → (t : Bool)
          → cond t s.1.bound (deepest j side root ss) ≡ option_map_or (λ (s : ℕ × Branch). s.1.bound) (cond t (Some s) (setting j side ss)) root
      step ih true = refl
      step ih false = ih

-- a bound of a column of the box that a path leaves, where the list starts with column j
pub bound_along : (side : Side) (path : List (ℕ × Branch)) (j k n : ℕ) (ss : List Span) (r s : Span) → n ≡ j + k → slice_get ss k ≡ Some r → slice_get (box_along path j ss) k ≡ Some s
    → bound_on side s ≡ deepest n side (bound_on side r) path
bound_along side path j k n [] r s e g h = let f : ⊥ = cc in absurd f
bound_along Low path j zero n (q ∷ qs) r s e g h =
    let z : q ≡ r = cc in
    let first : Span = record { lo = deepest j Low q.lo path; hi = deepest j High q.hi path } in
    let y : first ≡ s = cc in
    let m : j ≡ n = omega (arith, e) in
    sym (ap (λ (s : Span). s.lo) y) ∙ (λ i. deepest (m i) Low (z i).lo path)
bound_along High path j zero n (q ∷ qs) r s e g h =
    let z : q ≡ r = cc in
    let first : Span = record { lo = deepest j Low q.lo path; hi = deepest j High q.hi path } in
    let y : first ≡ s = cc in
    let m : j ≡ n = omega (arith, e) in
    sym (ap (λ (s : Span). s.hi) y) ∙ (λ i. deepest (m i) High (z i).hi path)
bound_along side path j (suc k) n (q ∷ qs) r s e g h = bound_along side path (j + 1) k n qs r s (omega (arith, e)) g h
