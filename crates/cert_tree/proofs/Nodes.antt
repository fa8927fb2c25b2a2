-- The nodes of a finished search are the lines of a finished tree.
use Rattle.std.specs.Prelude.{◌≡◌, ◌⊎◌, ◌<◌, ◌≤◌, ◌+◌, ◌-◌, ℕ, zero, suc, ℤ, pos, ◌+ℤ◌, Bool, true, false, List, [], ◌∷◌, ◌++◌, length, map, slice_index_or, All, Option, Some, None, option_map, refl}
use Rattle.std.specs.List.{Contains}
use Rattle.std.proofs.Common.{sym, ap, ◌∙◌, subst, inl, inr, arith, length-append}
use Rattle.std.proofs.Math.Seq.{get_or-append_seam}
use Rattle.std.proofs.lemmas.Int.{ints}
use Rattle.std.proofs.lemmas.Bool.{cases_lt}
use Rattle.std.proofs.lemmas.List.{get_or_append_left}
use Rattle.std.proofs.lemmas.List.Elements.{All-nil, All-cons}
use Rattle.fraction.specs.Rational.{ℚ, whole, ◌≤ℚ◌}
use Rattle.fraction.specs.Order.{◌<ℚ◌}
use Rattle.fraction.specs.Whole.{IsWhole}
use Rattle.fraction.specs.Lemmas.Bounds.{whole_parts}
use Rattle.fraction.specs.Lemmas.Whole.{whole-+}
use Rattle.problem.specs.declared.row.Sense.TheVariants.{G}
use Rattle.problem.specs.declared.row.Row.{Row}
use Rattle.problem.specs.Limited.{IsLimited}
use Rattle.cert_rows.specs.Lines.{CertLine, row_at}
use Rattle.cert_rows.specs.Assumptions.{assumed_by_all}
use Rattle.cert_rows.specs.Validity.{IsCombination, Follows, IsSplit, lower_row, upper_row, objective_row}
use Rattle.node_events.specs.declared.proof.Proof.{Proof}
use Rattle.node_events.specs.declared.proof.Proof.TheVariants.{Empty, Refute, Bound}
use Rattle.node_tree.specs.declared.branch.Side.TheVariants.{Low, High}
use Rattle.node_tree.specs.declared.branch.Branch.{Branch}
use Rattle.node_tree.specs.Nodes.{node_at, branch_at, children_at}
use Rattle.node_tree.specs.Paths.{path_at}
use Rattle.node_tree.specs.Splits.{left_branch, right_branch}
use Rattle.node_tree.specs.Lemmas.Paths.{path_child}
use Rattle.node_tree.specs.Lemmas.Boxes.{length-box}
use Rattle.node_tree.specs.Lemmas.Insides.{reached_by, downwards}
use Rattle.derivation_book.specs.Known.{known_lines}
use Rattle.derivation_book.specs.Price.{price, exact_price}
use Rattle.derivation_book.specs.Legal.{IsLegalProof, rounded_if}
use Rattle.derivation_book.specs.Lemmas.Numbering.{known_length}
use Rattle.derivation_book.specs.Lemmas.Exact.{price_exact}
use Rattle.event_core.specs.declared.entry.Entry.{Entry}
use Rattle.event_core.specs.States.{State, tree_of, box_of, cutoff, best_value}
use Rattle.cert_merge.specs.Endings.{proof_of}
use Rattle.cert_merge.specs.Numbers.{assumption_line, node_line, line_of_bound}
use Rattle.cert_merge.specs.Merged.{node_multipliers, goal_row, branch_row, closed_line, split_line, line_by, node_of, node_lines}
use Rattle.cert_merge.specs.Laws.{Closes}
use Rattle.cert_merge.specs.Lemmas.Negated.{assumed_directed}
use Rattle.cert_merge.specs.Tree.{NodeLine, derived_of, IsChild, IsNodeLine, AreNodeLines, paths_with}
use Rattle.cert_merge.specs.Lemmas.Closings.{follows-bound, follows-rounded, follows-refute}
use Rattle.cert_merge.specs.Lemmas.Finished.{IsDone}
use Rattle.cert_tree.proofs.Assumed.{AreLines}
use Rattle.cert_tree.proofs.Paths.{path_lines}
use Rattle.cert_tree.proofs.Sources.{assumption_there, assumption_is, column_stated}
use Rattle.cert_tree.proofs.Closed.{whole_coefficients, absurd_dominates, goal_itself, crossed_linear, crossed_within, node_closes, node_within}
use Rattle.problem.specs.Directions.{aim, directed, directed_value}
use Rattle.problem.specs.Lemmas.Directions.{limited_aim}

-- ---- a split
split_rows : (j : ℕ) (b : ℤ) → IsSplit (upper_row j (record { lo = b; hi = b })) (lower_row j (record { lo = b +ℤ pos 1; hi = b +ℤ pos 1 }))
split_rows j b = record {
  at_most = refl;
  at_least = refl;
  terms = λ k. refl;
  whole_terms = λ k. whole_coefficients ((j, whole (pos 1)) ∷ []) (All-cons (λ (t : ℕ × ℚ). IsWhole t.1) (j, whole (pos 1)) [] (whole_parts (pos 1)).1 (All-nil (λ (t : ℕ × ℚ). IsWhole t.1))) k;
  whole_rhs = (whole_parts b).1;
  next_rhs = sym (whole-+ b (pos 1) ∙ ap whole (omega (arith, ints)));
}

-- ---- the paths of the nodes from the greatest number down to k
record ArePaths (s : State) (k : ℕ) (paths : List (List ℕ)) : Type 0 where
  long : length paths + k ≡ length s.nodes
  path : (q : ℕ) → q < length paths → slice_index_or paths q [] ≡ path_lines s (length s.nodes - 1 - q)

next_paths : (s : State) (i : ℕ) (paths : List (List ℕ)) → ArePaths s (suc i) paths → ArePaths s i (paths ++ path_lines s i ∷ [])
next_paths s i paths h = record {
  long = (let e = length-append paths (path_lines s i ∷ []) in omega (arith, h.long, e));
  path = λ q l. at q l (cases_lt q (length paths));
}
  where
    at : (q : ℕ) → q < length (paths ++ path_lines s i ∷ []) → (q < length paths) ⊎ (length paths ≤ q) → slice_index_or (paths ++ path_lines s i ∷ []) q [] ≡ path_lines s (length s.nodes - 1 - q)
    at q l (inl g) = get_or_append_left paths (path_lines s i ∷ []) [] q g ∙ h.path q g
    at q l (inr g) =
        let e = length-append paths (path_lines s i ∷ []) in
        let z : q ≡ length paths = omega (arith, e, l, g) in
        let y : i ≡ length s.nodes - 1 - q = omega (arith, h.long, z) in
        ap (λ n. slice_index_or (paths ++ path_lines s i ∷ []) n []) z ∙ get_or-append_seam paths (path_lines s i) [] [] ∙ ap (path_lines s) y

-- the lines of the nodes below k, with their paths
abbrev pub node_line_of : State → List Entry → ℕ → NodeLine
node_line_of s es i = record { row = (node_of s es i).0; why = (node_of s es i).1; path = path_lines s i }

abbrev pub tree_lines : State → List Entry → ℕ → List NodeLine
tree_lines s es zero = []
tree_lines s es (suc i) = node_line_of s es i ∷ tree_lines s es i

pub tree_derived : (s : State) (es : List Entry) (k : ℕ) → derived_of (tree_lines s es k) ≡ node_lines s es k
tree_derived s es zero = refl
tree_derived s es (suc i) = ap (λ ds. node_of s es i ∷ ds) (tree_derived s es i)

all_paths : (s : State) (es : List Entry) (k : ℕ) (paths : List (List ℕ)) → ArePaths s k paths → ArePaths s 0 (paths_with paths (tree_lines s es k))
all_paths s es zero paths h = h
all_paths s es (suc i) paths h = all_paths s es i (paths ++ path_lines s i ∷ []) (next_paths s i paths h)

no_paths : (s : State) → ArePaths s (length s.nodes) []
no_paths s = record { long = omega arith; path = λ q l. absurd (omega (arith, l)) }

-- there is a path, and the last one is node 0's, which is empty
pub root_path : (s : State) (es : List Entry) → 0 < length s.nodes
    → (0 < length (paths_with [] (tree_lines s es (length s.nodes)))) × (slice_index_or (paths_with [] (tree_lines s es (length s.nodes))) (length (paths_with [] (tree_lines s es (length s.nodes))) - 1) [] ≡ [])
root_path s es h =
    let r = all_paths s es (length s.nodes) [] (no_paths s) in
    let n = length (paths_with [] (tree_lines s es (length s.nodes))) in (
      omega (arith, r.long, h),
      r.path (n - 1) (omega (arith, r.long, h)) ∙ ap (path_lines s) (let z : length s.nodes - 1 - (n - 1) ≡ 0 = omega (arith, r.long) in z),
    )

-- ---- each node
module _ (s : State) (es : List Entry) (f : IsDone s es) (limited : IsLimited s.problem) (ls : List CertLine) (lines : AreLines s ls) where
  abbrev goal : Row
  goal = goal_row s.problem (best_value s)

  -- a node that was reached from node i is a child of node i
  is_child : (i k : ℕ) (b : Branch) (paths : List (List ℕ)) → ArePaths s (suc i) paths → branch_at (tree_of s) k ≡ Some b → b.parent ≡ i → IsChild ls paths (path_lines s i) (node_line s k) (assumption_line s k)
  is_child i k b paths h e q =
      let t = reached_by (tree_of s) f.sound.tree k b e in
      let place : ℕ = length s.nodes - 1 - k in
      let there : place < length paths = omega (arith, h.long, t.above, t.there, t.downwards, q) in
      record {
        place = place;
        there = there;
        line = omega (arith, lines.long, known_length s.problem s.cuts);
        path_is = h.path place there ∙ ap (path_lines s) (let z : length s.nodes - 1 - place ≡ k = omega (arith, t.there) in z)
            ∙ ap (map (λ (e : ℕ × Branch). assumption_line s e.0)) (path_child (branch_at (tree_of s)) (downwards (tree_of s) f.sound.tree) k b e) ∙ ap (λ n. assumption_line s k ∷ path_lines s n) q;
        is_assumption = record { earlier = assumption_there s f.sound.tree ls lines k b e; itself = ap (λ (l : CertLine). l.assumes) (assumption_is s f.sound.tree ls lines k b e) };
      }

  assumption_row : (k : ℕ) (b : Branch) → branch_at (tree_of s) k ≡ Some b → row_at ls (assumption_line s k) ≡ branch_row b
  assumption_row k b e = ap (λ (l : CertLine). l.row) (assumption_is s f.sound.tree ls lines k b e)

  -- a node that was split
  parted : (i k : ℕ) (paths : List (List ℕ)) → ArePaths s (suc i) paths → (node_at (tree_of s) i).first_child ≡ Some k → IsNodeLine ls goal paths (split_line s (k, k + 1)).0 (path_lines s i) (split_line s (k, k + 1)).1
  parted i k paths h e =
      let x = f.sound.tree.children i k e in
      record {
        row_is = refl;
        first = is_child i k (left_branch i x.column x.bound) paths h x.left refl;
        second = is_child i (k + 1) (right_branch i x.column x.bound) paths h x.right refl;
        split = subst (λ (r : Row). IsSplit r (row_at ls (assumption_line s (k + 1)))) (sym (assumption_row k (left_branch i x.column x.bound) x.left))
            (subst (λ (r : Row). IsSplit (branch_row (left_branch i x.column x.bound)) r) (sym (assumption_row (k + 1) (right_branch i x.column x.bound) x.right)) (split_rows x.column x.bound));
      }

  -- a node that was closed
  exact : (i : ℕ) (target mult : List (ℕ × ℚ)) (v : ℚ) → price s.problem s.cuts (box_of s i) target mult ≡ Some v → v ≡ exact_price (known_lines s.problem s.cuts) target mult (box_of s i)
  exact i target mult v e = price_exact s.problem s.cuts (box_of s i) target mult v (length-box (path_at (tree_of s) i) 0 s.problem.spans) e

  aim_closes : (i : ℕ) (mult : List (ℕ × ℚ)) → IsCombination (known_lines s.problem s.cuts) G mult
      → Closes ls (aim s.problem) (exact_price (known_lines s.problem s.cuts) (aim s.problem) mult (box_of s i)) (node_multipliers s i (aim s.problem) mult)
  aim_closes i mult c = node_closes s f.sound.tree ls lines limited f.sound.cuts i (aim s.problem) mult c (limited_aim s.problem limited).below

  -- negated multipliers assume no more
  aim_within : (i : ℕ) (mult : List (ℕ × ℚ)) → IsCombination (known_lines s.problem s.cuts) G mult
      → All (Contains (path_lines s i)) (assumed_by_all ls (directed s.problem.sense (node_multipliers s i (aim s.problem) mult)))
  aim_within i mult c =
      subst (All (Contains (path_lines s i))) (sym (assumed_directed s.problem.sense ls (node_multipliers s i (aim s.problem) mult)))
      (node_within s f.sound.tree ls lines limited f.sound.cuts i (aim s.problem) mult c)

  -- a bound of what is minimised that the price reaches, as it is or rounded up: the line bounds the own objective
  bounded : (i : ℕ) (mult : List (ℕ × ℚ)) (rounded : Bool) (x : IsLegalProof s.problem s.cuts (box_of s i) (cutoff s) (Bound mult rounded))
      → Follows ls (objective_row s.problem (directed_value s.problem.sense x.limit)) (closed_line s i (Bound mult rounded)).1
  bounded i mult false x =
      let p = s.problem in
      follows-bound p.sense ls p.objective (exact_price (known_lines p s.cuts) (aim p) mult (box_of s i)) x.limit (node_multipliers s i (aim p) mult)
      (aim_closes i mult x.multipliers.combined) (subst (λ v. x.limit ≤ℚ v) (exact i (aim p) mult x.value x.priced) x.reached)
  bounded i mult true x =
      let p = s.problem in
      follows-rounded p.sense ls p.objective (exact_price (known_lines p s.cuts) (aim p) mult (box_of s i)) x.limit (node_multipliers s i (aim p) mult)
      (aim_closes i mult x.multipliers.combined) (whole_coefficients (aim p) (x.whole_objective refl))
      (subst (λ v. x.limit ≤ℚ rounded_if true v) (exact i (aim p) mult x.value x.priced) x.reached)

  -- the limit is the aim at the incumbent
  limited_by : (i : ℕ) (proof : Proof) (z : ℚ) → cutoff s ≡ Some z → Follows ls (objective_row s.problem (directed_value s.problem.sense z)) (closed_line s i proof).1 → Follows ls goal (closed_line s i proof).1
  limited_by i proof z e h = subst (λ o. Follows ls (goal_row s.problem (option_map (λ v. directed_value s.problem.sense v) o)) (closed_line s i proof).1) (sym e) h

  closed : (i : ℕ) (proof : Proof) (paths : List (List ℕ)) → IsLegalProof s.problem s.cuts (box_of s i) (cutoff s) proof → IsNodeLine ls goal paths (closed_line s i proof).0 (path_lines s i) (closed_line s i proof).1
  closed i (Empty j) paths x =
      let c = column_stated s f.sound.tree ls lines i j x.span x.there in
      record {
        follows = crossed_linear ls (path_lines s i) j (line_of_bound s i j Low) (line_of_bound s i j High) x.span.lo x.span.hi c.lower c.upper x.crossed;
        dominates = absurd_dominates goal;
        within = crossed_within ls (path_lines s i) j (line_of_bound s i j Low) (line_of_bound s i j High) x.span.lo x.span.hi c.lower c.upper x.crossed;
      }
  closed i (Refute mult) paths x =
      let c = node_closes s f.sound.tree ls lines limited f.sound.cuts i [] mult x.multipliers.combined (All-nil (λ (t : ℕ × ℚ). t.0 < length s.problem.spans)) in
      record {
        follows = follows-refute ls (exact_price (known_lines s.problem s.cuts) [] mult (box_of s i)) (node_multipliers s i [] mult) c (subst (λ v. whole (pos 0) <ℚ v) (exact i [] mult x.value x.priced) x.above);
        dominates = absurd_dominates goal;
        within = node_within s f.sound.tree ls lines limited f.sound.cuts i [] mult x.multipliers.combined;
      }
  closed i (Bound mult false) paths x =
      record { follows = limited_by i (Bound mult false) x.limit x.limited (bounded i mult false x); dominates = goal_itself s.problem (best_value s); within = aim_within i mult x.multipliers.combined }
  closed i (Bound mult true) paths x =
      record { follows = limited_by i (Bound mult true) x.limit x.limited (bounded i mult true x); dominates = goal_itself s.problem (best_value s); within = aim_within i mult x.multipliers.combined }

  -- whether it has children or not
  ended : (i : ℕ) (paths : List (List ℕ)) → i < length s.nodes → ArePaths s (suc i) paths
      → IsNodeLine ls goal paths (line_by s i (children_at (tree_of s) i) (proof_of es i)).0 (path_lines s i) (line_by s i (children_at (tree_of s) i) (proof_of es i)).1
  ended i paths l h = step (node_at (tree_of s) i).first_child refl
    where
      step : (o : Option ℕ) → (node_at (tree_of s) i).first_child ≡ o
          → IsNodeLine ls goal paths (line_by s i (option_map (λ k. (k, k + 1)) o) (proof_of es i)).0 (path_lines s i) (line_by s i (option_map (λ k. (k, k + 1)) o) (proof_of es i)).1
      step (Some k) e = parted i k paths h e
      step None e =
          let r = f.proved i l (ap (option_map (λ (k : ℕ). (k, k + 1))) e) in
          subst (λ (o : Option Proof). IsNodeLine ls goal paths (line_by s i None o).0 (path_lines s i) (line_by s i None o).1) (sym r.found) (closed i r.proof paths r.legal)

  are_node_lines : (k : ℕ) (paths : List (List ℕ)) → ArePaths s k paths → AreNodeLines ls goal paths (tree_lines s es k)
  are_node_lines zero paths h = tt
  are_node_lines (suc i) paths h = (ended i paths (omega (arith, h.long)) h, are_node_lines i (paths ++ path_lines s i ∷ []) (next_paths s i paths h))

  pub tree_is : AreNodeLines ls goal [] (tree_lines s es (length s.nodes))
  tree_is = are_node_lines (length s.nodes) [] (no_paths s)
