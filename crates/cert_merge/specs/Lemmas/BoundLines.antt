-- Lemmas: the lines that state bounds are apart from each other, and from rows and cuts.
use Rattle.std.specs.Prelude.{◌≡◌, ◌⊎◌, ◌<◌, ◌≤◌, ◌+◌, ℕ, pos, int_lt, Bool, true, false, cond, List, [], ◌∷◌, length, All, Some, refl}
use Rattle.std.proofs.Common.{sym, ap, ◌∙◌, subst, inl, inr, arith}
use Rattle.std.proofs.lemmas.Bool.{false≢true}
use Rattle.std.proofs.lemmas.Bool.Decides.{Decides-int_eq}
use Rattle.std.proofs.lemmas.List.Elements.{All-nil, All-cons, All-weaker, All-contains}
use Rattle.fraction.specs.Rational.{ℚ, whole}
use Rattle.fraction.specs.Lemmas.Bounds.{whole_parts}
use Rattle.problem_box.specs.declared.span.Span.{Span}
use Rattle.problem.specs.Problem.{Problem}
use Rattle.problem.specs.Rising.{AreNonzero}
use Rattle.node_tree.specs.declared.branch.Side.{Side}
use Rattle.node_tree.specs.declared.branch.Side.TheVariants.{Low, High}
use Rattle.node_tree.specs.declared.branch.Branch.{Branch}
use Rattle.node_tree.specs.Nodes.{branch_at}
use Rattle.node_tree.specs.Paths.{path_at}
use Rattle.node_tree.specs.Trees.{IsTree}
use Rattle.node_tree.specs.Lemmas.Insides.{reached_by}
use Rattle.derivation_book.specs.Known.{known_lines, first_cut}
use Rattle.derivation_book.specs.Rounded.{is_zero}
use Rattle.derivation_book.specs.Legal.{NamesRowOrCut, AreProofMultipliers}
use Rattle.derivation_book.specs.Lemmas.Numbering.{known_length}
use Rattle.event_core.specs.States.{State, tree_of}
use Rattle.cert_merge.specs.Closing.{bound_multipliers}
use Rattle.cert_merge.specs.Numbers.{bound_line, assumption_line, set_line, line_of_bound, sources_from}
use Rattle.cert_merge.specs.Lemmas.Setting.{LeadsTo, on_path, found}
use Rattle.cert_merge.specs.Lemmas.Placing.{AreFresh}

-- the assumption of a node whose branch set the bound
pub record IsSetLine (s : State) (j : ℕ) (side : Side) (l : ℕ) : Type 0 where
  pub node : ℕ
  pub branch : Branch
  pub there : branch_at (tree_of s) node ≡ Some branch
  pub column : branch.column ≡ j
  pub on_side : branch.side ≡ side
  pub line : l ≡ assumption_line s node

-- that, or the row of the bound
abbrev pub IsBoundLine : State → ℕ → Side → ℕ → Type 0
IsBoundLine s j side l = (l ≡ bound_line s.problem j side) ⊎ IsSetLine s j side l

pub is_bound_line : (s : State) (i j : ℕ) (side : Side) → IsBoundLine s j side (line_of_bound s i j side)
is_bound_line s i j side = elim (found j side (pos 0) (path_at (tree_of s) i)) [
  | inl u ↦ inl (ap (set_line s j side) u.unset)
  | inr f ↦ inr (record {
    node = f.step.0;
    branch = f.step.1;
    there = All-contains (LeadsTo (branch_at (tree_of s))) (path_at (tree_of s) i) f.step (on_path (tree_of s) i) f.on;
    column = f.column;
    on_side = f.on_side;
    line = ap (set_line s j side) f.set_by;
  })
]

-- ---- apart
-- one column and one side
pub record AreSame (j k : ℕ) (a b : Side) : Type 0 where
  pub column : j ≡ k
  pub side : a ≡ b

same_row : (p : Problem) (j k : ℕ) (a b : Side) → bound_line p j a ≡ bound_line p k b → AreSame j k a b
same_row p j k Low Low e = record { column = omega (arith, e); side = refl }
same_row p j k High High e = record { column = omega (arith, e); side = refl }
same_row p j k Low High e = absurd (omega (arith, e))
same_row p j k High Low e = absurd (omega (arith, e))

pub row_below : (p : Problem) (j : ℕ) (a : Side) → j < length p.spans → (length p.rows ≤ bound_line p j a) × (bound_line p j a < first_cut p)
row_below p j Low l = (omega arith, omega (arith, l))
row_below p j High l = (omega arith, omega (arith, l))

module _ (s : State) (tree : IsTree (tree_of s)) where
  set_above : (j : ℕ) (a : Side) (l : ℕ) → IsSetLine s j a l → first_cut s.problem + length s.cuts ≤ l
  set_above j a l h = omega (arith, h.line)

  same_set : (j k : ℕ) (a b : Side) (l : ℕ) → IsSetLine s j a l → IsSetLine s k b l → AreSame j k a b
  same_set j k a b l g h =
      let m = (reached_by (tree_of s) tree g.node g.branch g.there).above in
      let n = (reached_by (tree_of s) tree h.node h.branch h.there).above in
      let node : g.node ≡ h.node = omega (arith, m, n, g.line, h.line) in
      let both : Some g.branch ≡ Some h.branch = sym g.there ∙ ap (branch_at (tree_of s)) node ∙ h.there in
      let branch : g.branch ≡ h.branch = cc in
      record { column = sym g.column ∙ ap (λ (b : Branch). b.column) branch ∙ h.column; side = sym g.on_side ∙ ap (λ (b : Branch). b.side) branch ∙ h.on_side }

  pub apart : (j k : ℕ) (a b : Side) (l : ℕ) → j < length s.problem.spans → k < length s.problem.spans → IsBoundLine s j a l → IsBoundLine s k b l → AreSame j k a b
  apart j k a b l m n (inl g) (inl h) = same_row s.problem j k a b (sym g ∙ h)
  apart j k a b l m n (inr g) (inr h) = same_set j k a b l g h
  apart j k a b l m n (inl g) (inr h) = absurd (omega (arith, (row_below s.problem j a m).1, set_above k b l h, g))
  apart j k a b l m n (inr g) (inl h) = absurd (omega (arith, (row_below s.problem k b n).1, set_above j a l g, h))

  -- no row, and no cut
  pub not_named : (j : ℕ) (a : Side) (l i : ℕ) → j < length s.problem.spans → IsBoundLine s j a l → NamesRowOrCut s.problem i → i < length (known_lines s.problem s.cuts) → l ≡ i → ⊥
  not_named j a l i m (inl g) (inl h) k e = let r = row_below s.problem j a m in omega (arith, r.0, g, h, e)
  not_named j a l i m (inl g) (inr h) k e = let r = row_below s.problem j a m in omega (arith, r.1, g, h, e)
  not_named j a l i m (inr g) h k e = omega (arith, set_above j a l g, k, e, known_length s.problem s.cuts)

-- ---- all bound multipliers
-- a line of a bound of a column from j on
pub record IsBoundFrom (s : State) (j : ℕ) (l : ℕ) : Type 0 where
  pub column : ℕ
  pub side : Side
  pub from : j ≤ column
  pub below : column < length s.problem.spans
  pub line : IsBoundLine s column side l

abbrev HasBoundFrom : State → ℕ → ℕ × ℚ → Type 0
HasBoundFrom s j m = IsBoundFrom s j m.0

earlier : (s : State) (j : ℕ) (l : ℕ) → IsBoundFrom s (j + 1) l → IsBoundFrom s j l
earlier s j l h = record { column = h.column; side = h.side; from = omega (arith, h.from); below = h.below; line = h.line }

module _ (s : State) (i : ℕ) (r : ℕ → ℚ) where
  this_bound : (j : ℕ) → j < length s.problem.spans → (b : Bool) → IsBoundFrom s j (cond b (line_of_bound s i j Low) (line_of_bound s i j High))
  this_bound j l true = record { column = j; side = Low; from = omega arith; below = l; line = is_bound_line s i j Low }
  this_bound j l false = record { column = j; side = High; from = omega arith; below = l; line = is_bound_line s i j High }

  pub bounds_from : (j : ℕ) (ss : List Span) → j + length ss ≤ length s.problem.spans → All (HasBoundFrom s j) (bound_multipliers r j (sources_from s i j ss))
  bounds_from j [] l = All-nil (HasBoundFrom s j)
  bounds_from j (b ∷ bs) l = step (is_zero (r j)) (int_lt (pos 0) (r j).num) (bounds_from (j + 1) bs (omega (arith, l)))
    where
      step : (z c : Bool) → All (HasBoundFrom s (j + 1)) (bound_multipliers r (j + 1) (sources_from s i (j + 1) bs))
          → All (HasBoundFrom s j) (cond z (bound_multipliers r (j + 1) (sources_from s i (j + 1) bs)) ((cond c (line_of_bound s i j Low) (line_of_bound s i j High), r j) ∷ bound_multipliers r (j + 1) (sources_from s i (j + 1) bs)))
      step true c h = All-weaker (HasBoundFrom s (j + 1)) (HasBoundFrom s j) (λ m g. earlier s j m.0 g) (bound_multipliers r (j + 1) (sources_from s i (j + 1) bs)) h
      step false c h =
          All-cons (HasBoundFrom s j) (cond c (line_of_bound s i j Low) (line_of_bound s i j High), r j) (bound_multipliers r (j + 1) (sources_from s i (j + 1) bs))
          (this_bound j (omega (arith, l)) c)
          (All-weaker (HasBoundFrom s (j + 1)) (HasBoundFrom s j) (λ m g. earlier s j m.0 g) (bound_multipliers r (j + 1) (sources_from s i (j + 1) bs)) h)

  -- none is 0
  pub bounds_nonzero : (j : ℕ) (ss : List Span) → AreNonzero (bound_multipliers r j (sources_from s i j ss))
  bounds_nonzero j [] = All-nil (λ (m : ℕ × ℚ). m.1 ≡ whole (pos 0) → ⊥)
  bounds_nonzero j (b ∷ bs) = step (is_zero (r j)) refl (int_lt (pos 0) (r j).num) (bounds_nonzero (j + 1) bs)
    where
      not_zero : is_zero (r j) ≡ false → r j ≡ whole (pos 0) → ⊥
      not_zero e f = false≢true (sym e ∙ (Decides-int_eq (r j).num (pos 0)).1 (ap (λ (x : ℚ). x.num) f ∙ (whole_parts (pos 0)).0))

      step : (z : Bool) → is_zero (r j) ≡ z → (c : Bool) → AreNonzero (bound_multipliers r (j + 1) (sources_from s i (j + 1) bs))
          → AreNonzero (cond z (bound_multipliers r (j + 1) (sources_from s i (j + 1) bs)) ((cond c (line_of_bound s i j Low) (line_of_bound s i j High), r j) ∷ bound_multipliers r (j + 1) (sources_from s i (j + 1) bs)))
      step true e c h = h
      step false e c h =
          All-cons (λ (m : ℕ × ℚ). m.1 ≡ whole (pos 0) → ⊥) (cond c (line_of_bound s i j Low) (line_of_bound s i j High), r j) (bound_multipliers r (j + 1) (sources_from s i (j + 1) bs)) (not_zero e) h

  -- no two have one number, and none has that of a row or a cut
  module _ (tree : IsTree (tree_of s)) (mult : List (ℕ × ℚ)) (proof : AreProofMultipliers s.problem s.cuts mult) where
    pub bounds_fresh : (j : ℕ) (ss : List Span) → j + length ss ≤ length s.problem.spans → AreFresh (bound_multipliers r j (sources_from s i j ss)) mult
    bounds_fresh j [] l = tt
    bounds_fresh j (b ∷ bs) l = step (is_zero (r j)) (int_lt (pos 0) (r j).num) (bounds_fresh (j + 1) bs (omega (arith, l))) (bounds_from (j + 1) bs (omega (arith, l)))
      where
        this_line : (c : Bool) → IsBoundLine s j (cond c Low High) (cond c (line_of_bound s i j Low) (line_of_bound s i j High))
        this_line true = is_bound_line s i j Low
        this_line false = is_bound_line s i j High

        step : (z c : Bool) → AreFresh (bound_multipliers r (j + 1) (sources_from s i (j + 1) bs)) mult → All (HasBoundFrom s (j + 1)) (bound_multipliers r (j + 1) (sources_from s i (j + 1) bs))
            → AreFresh (cond z (bound_multipliers r (j + 1) (sources_from s i (j + 1) bs)) ((cond c (line_of_bound s i j Low) (line_of_bound s i j High), r j) ∷ bound_multipliers r (j + 1) (sources_from s i (j + 1) bs))) mult
        step true c h k = h
        step false c h k =
            let l' : ℕ = cond c (line_of_bound s i j Low) (line_of_bound s i j High) in
            let below : j < length s.problem.spans = omega (arith, l) in (
              All-weaker (HasBoundFrom s (j + 1)) (λ (m : ℕ × ℚ). l' ≡ m.0 → ⊥)
                  (λ m g e. omega (arith, g.from, (apart s tree j g.column (cond c Low High) g.side m.0 below g.below (subst (IsBoundLine s j (cond c Low High)) e (this_line c)) g.line).column))
                  (bound_multipliers r (j + 1) (sources_from s i (j + 1) bs)) k,
              λ q d m e. not_named s tree j (cond c Low High) l' _ below (this_line c) (proof.names q d m) (proof.combined.earlier q d m) e,
              h,
            )
