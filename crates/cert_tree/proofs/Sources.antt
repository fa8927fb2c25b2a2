-- The lines that state the bounds of a node's box, and what they assume.
use Rattle.std.specs.Prelude.{◌≡◌, ◌<◌, ◌+◌, ℕ, zero, suc, ℤ, List, [], ◌∷◌, length, All, slice_index_or, slice_get, Some, refl}
use Rattle.std.specs.List.{Contains}
use Rattle.std.proofs.Common.{sym, ap, ◌∙◌, subst, inl, inr, arith}
use Rattle.std.proofs.lemmas.List.Elements.{All-nil, All-cons, All-contains}
use Rattle.problem_box.specs.declared.span.Span.{Span}
use Rattle.cert_rows.specs.Lines.{CertLine, row_at, assumed_by, no_cert_line}
use Rattle.cert_merge.specs.Closing.{BoundSource, AreSources}
use Rattle.node_tree.specs.declared.branch.Side.{Side}
use Rattle.node_tree.specs.declared.branch.Side.TheVariants.{Low, High}
use Rattle.node_tree.specs.declared.branch.Branch.{Branch}
use Rattle.node_tree.specs.Nodes.{branch_at}
use Rattle.node_tree.specs.Paths.{path_at, deepest, box_along, bound_on}
use Rattle.node_tree.specs.Trees.{IsTree}
use Rattle.node_tree.specs.Lemmas.Insides.{reached_by}
use Rattle.derivation_book.specs.Known.{known_lines}
use Rattle.derivation_book.specs.Places.{no_span}
use Rattle.derivation_book.specs.Lemmas.Numbering.{known_length}
use Rattle.event_core.specs.States.{State, tree_of, box_of}
use Rattle.cert_merge.specs.Numbers.{bound_line, assumption_line, set_line, line_of_bound, sources_from, sources_of}
use Rattle.cert_merge.specs.Merged.{branch_row}
use Rattle.cert_merge.specs.Lemmas.LongerLines.{BeginsWith, same_row, same_assumed}
use Rattle.cert_merge.specs.Lemmas.Setting.{LeadsTo, on_path, IsSetter, found}
use Rattle.cert_tree.proofs.Base.{side_row, known_assumed, bound_line_there, bound_line_row}
use Rattle.cert_tree.proofs.Assumed.{assumed_line, AreLines}
use Rattle.cert_tree.proofs.Paths.{path_lines, Contains-map}

-- a branch states its bound
branch_states : (b : Branch) → branch_row b ≡ side_row b.side b.column b.bound
branch_states b = stated b.side
  where
    stated : (side : Side) → branch_row (record b { side = side }) ≡ side_row side b.column b.bound
    stated Low = refl
    stated High = refl

-- line l states a bound, and assumes no more than the path does
pub record IsStated (ls : List CertLine) (path : List ℕ) (l : ℕ) (side : Side) (j : ℕ) (z : ℤ) : Type 0 where
  pub there : l < length ls
  pub row : row_at ls l ≡ side_row side j z
  pub within : All (Contains path) (assumed_by ls l)

module _ (s : State) (tree : IsTree (tree_of s)) (ls : List CertLine) (lines : AreLines s ls) where
  pub begins : BeginsWith (known_lines s.problem s.cuts) ls
  begins = record { longer = omega (arith, lines.long); same = lines.same }

  pub base_assumes : (q : ℕ) → q < length (known_lines s.problem s.cuts) → assumed_by ls q ≡ []
  base_assumes q h = same_assumed (known_lines s.problem s.cuts) ls begins q h ∙ known_assumed s.problem s.cuts q

  -- the assumption of a node with a branch is there
  pub assumption_there : (k : ℕ) (b : Branch) → branch_at (tree_of s) k ≡ Some b → assumption_line s k < length ls
  assumption_there k b e = let h = reached_by (tree_of s) tree k b e in omega (arith, lines.long, known_length s.problem s.cuts, h.above, h.there)

  -- what the assumption of a node is
  pub assumption_is : (k : ℕ) (b : Branch) → branch_at (tree_of s) k ≡ Some b → slice_index_or ls (assumption_line s k) no_cert_line ≡ assumed_line (assumption_line s k) b
  assumption_is k b e = lines.line k b (reached_by (tree_of s) tree k b e).above e

  by_root : (i j : ℕ) (side : Side) → j < length s.problem.spans → IsStated ls (path_lines s i) (bound_line s.problem j side) side j (bound_on side (slice_index_or s.problem.spans j no_span))
  by_root i j side h =
      let l = bound_line_there s.problem s.cuts j side h in
      record {
        there = omega (arith, l, lines.long);
        row = same_row (known_lines s.problem s.cuts) ls begins (bound_line s.problem j side) l ∙ bound_line_row s.problem s.cuts j side h;
        within = subst (All (Contains (path_lines s i))) (sym (base_assumes (bound_line s.problem j side) l)) (All-nil (Contains (path_lines s i)));
      }

  by_branch : (i j : ℕ) (side : Side) (root : ℤ) (f : IsSetter j side root (path_at (tree_of s) i)) → IsStated ls (path_lines s i) (assumption_line s f.step.0) side j f.step.1.bound
  by_branch i j side root f =
      let k = f.step.0 in
      let b = f.step.1 in
      let e : branch_at (tree_of s) k ≡ Some b = All-contains (LeadsTo (branch_at (tree_of s))) (path_at (tree_of s) i) f.step (on_path (tree_of s) i) f.on in
      let line = assumption_is k b e in
      record {
        there = assumption_there k b e;
        row = ap (λ (l : CertLine). l.row) line ∙ branch_states b ∙ (λ n. side_row (f.on_side n) (f.column n) b.bound);
        within = subst (All (Contains (path_lines s i))) (sym (ap (λ (l : CertLine). l.assumes) line))
            (All-cons (Contains (path_lines s i)) (assumption_line s k) [] (Contains-map (λ (e : ℕ × Branch). assumption_line s e.0) (path_at (tree_of s) i) f.step f.on) (All-nil (Contains (path_lines s i))));
      }

  -- the line of a bound states the bound of the node's box
  is_stated : (i j : ℕ) (side : Side) (r : Span) → j < length s.problem.spans → slice_index_or s.problem.spans j no_span ≡ r
      → IsStated ls (path_lines s i) (line_of_bound s i j side) side j (deepest j side (bound_on side r) (path_at (tree_of s) i))
  is_stated i j side r h q = elim (found j side (bound_on side r) (path_at (tree_of s) i)) [
    | inl u ↦
        subst (λ l. IsStated ls (path_lines s i) l side j (deepest j side (bound_on side r) (path_at (tree_of s) i))) (sym (ap (set_line s j side) u.unset))
        (subst (IsStated ls (path_lines s i) (bound_line s.problem j side) side j) (ap (bound_on side) q ∙ sym u.number) (by_root i j side h))
    | inr f ↦
        subst (λ l. IsStated ls (path_lines s i) l side j (deepest j side (bound_on side r) (path_at (tree_of s) i))) (sym (ap (set_line s j side) f.set_by))
        (subst (IsStated ls (path_lines s i) (assumption_line s f.step.0) side j) (sym f.number) (by_branch i j side (bound_on side r) f))
  ]

  -- columns c, c + 1 and so on have these spans at the root
  abbrev AreSpansFrom : ℕ → List Span → Type 0
  AreSpansFrom c ss = (j k : ℕ) → j ≡ c + k → k < length ss → (j < length s.problem.spans) × (slice_index_or s.problem.spans j no_span ≡ slice_index_or ss k no_span)

  later : (c : ℕ) (r : Span) (rs : List Span) → AreSpansFrom c (r ∷ rs) → AreSpansFrom (c + 1) rs
  later c r rs h j k e l = h j (suc k) (omega arith) (omega arith)

  -- the sources of a node state the bounds of its box
  stated_from : (i c : ℕ) (ss : List Span) → AreSpansFrom c ss → AreSources ls c (box_along (path_at (tree_of s) i) c ss) (sources_from s i c ss)
  stated_from i c [] h = tt
  stated_from i c (r ∷ rs) h =
      let q = h c 0 (omega arith) (omega arith) in
      let a = is_stated i c Low r q.0 q.1 in
      let b = is_stated i c High r q.0 q.1 in
      (record { lower_there = a.there; upper_there = b.there; lower = a.row; upper = b.row }, stated_from i (c + 1) rs (later c r rs h))

  -- and assume no more than its path
  within_from : (i c : ℕ) (ss : List Span) → AreSpansFrom c ss
      → All (λ (o : BoundSource). All (Contains (path_lines s i)) (assumed_by ls o.lower) × All (Contains (path_lines s i)) (assumed_by ls o.upper)) (sources_from s i c ss)
  within_from i c [] h = All-nil (λ (o : BoundSource). All (Contains (path_lines s i)) (assumed_by ls o.lower) × All (Contains (path_lines s i)) (assumed_by ls o.upper))
  within_from i c (r ∷ rs) h =
      let q = h c 0 (omega arith) (omega arith) in
      All-cons (λ (o : BoundSource). All (Contains (path_lines s i)) (assumed_by ls o.lower) × All (Contains (path_lines s i)) (assumed_by ls o.upper))
      (record { lower = line_of_bound s i c Low; upper = line_of_bound s i c High }) (sources_from s i (c + 1) rs)
      ((is_stated i c Low r q.0 q.1).within, (is_stated i c High r q.0 q.1).within) (within_from i (c + 1) rs (later c r rs h))

  all_spans : AreSpansFrom 0 s.problem.spans
  all_spans j k e l = (omega arith, ap (λ n. slice_index_or s.problem.spans n no_span) (let z : j ≡ k = omega arith in z))

  pub are_sources : (i : ℕ) → AreSources ls 0 (box_of s i) (sources_of s i)
  are_sources i = stated_from i 0 s.problem.spans all_spans

  pub sources_within : (i : ℕ) → All (λ (o : BoundSource). All (Contains (path_lines s i)) (assumed_by ls o.lower) × All (Contains (path_lines s i)) (assumed_by ls o.upper)) (sources_of s i)
  sources_within i = within_from i 0 s.problem.spans all_spans

  -- the sources of one column
  pub record AreStated (i j : ℕ) (b : Span) : Type 0 where
    pub lower : IsStated ls (path_lines s i) (line_of_bound s i j Low) Low j b.lo
    pub upper : IsStated ls (path_lines s i) (line_of_bound s i j High) High j b.hi

  stated_at : (i c : ℕ) (ss : List Span) → AreSpansFrom c ss → (j k : ℕ) (b : Span) → j ≡ c + k → slice_get (box_along (path_at (tree_of s) i) c ss) k ≡ Some b → AreStated i j b
  stated_at i c [] h j k b e g = let f : ⊥ = cc in absurd f
  stated_at i c (r ∷ rs) h j zero b e g =
      let q = h c 0 (omega arith) (omega arith) in
      let z : c ≡ j = omega arith in
      let box : Span = record { lo = deepest c Low r.lo (path_at (tree_of s) i); hi = deepest c High r.hi (path_at (tree_of s) i) } in
      let y : box ≡ b = cc in
      subst (λ n. AreStated i n b) z (subst (AreStated i c) y (record { lower = is_stated i c Low r q.0 q.1; upper = is_stated i c High r q.0 q.1 }))
  stated_at i c (r ∷ rs) h j (suc k) b e g = stated_at i (c + 1) rs (later c r rs h) j k b (omega arith) g

  pub column_stated : (i j : ℕ) (b : Span) → slice_get (box_of s i) j ≡ Some b → AreStated i j b
  column_stated i j b g = stated_at i 0 s.problem.spans all_spans j j b (omega arith) g
