-- The lines of a merged certificate from a place on.
use Rattle.std.specs.Prelude.{◌≡◌, ◌<◌, ◌+◌, ◌-◌, ℕ, zero, suc, List, [], ◌∷◌, ◌++◌, length, drop, slice_get, slice_index_or, Option, Some, None, option_map, IsSome, is_some, codes, refl}
use Rattle.std.proofs.Common.{ap, sym, ◌∙◌, arith}
use Rattle.std.proofs.lemmas.List.{length-append}
use Rattle.cert_rows.specs.declared.line.CertRow.{CertRow}
use Rattle.cert_rows.specs.declared.line.Why.{Why}
use Rattle.cert_rows.specs.declared.line.Why.TheVariants.{Asm}
use Rattle.node_tree.specs.declared.branch.Branch.{Branch}
use Rattle.node_tree.specs.declared.branch.Node.{Node}
use Rattle.node_tree.specs.Nodes.{no_node}
use Rattle.node_tree.specs.Trees.{IsTree}
use Rattle.derivation_book.specs.declared.cut.Cut.{Cut}
use Rattle.event_core.specs.declared.entry.Entry.{Entry}
use Rattle.event_core.specs.States.{State, tree_of}
use Rattle.cert_merge.specs.Layout.{layout_of}
use Rattle.cert_merge.specs.Merged.{label_of, labelled, branch_row, cut_line, cut_lines, assumption_of, assumption_lines, node_lines, certificate_of}
use Rattle.cert_merge.specs.FeedLines.{nodes_behind}
use Rattle.cert_merge.proofs.Parts.{next_cut}

-- ---- cuts
pub cut_first : (cs : List Cut) (i : ℕ) (l : CertRow × Why) (x : List (CertRow × Why)) → option_map (cut_line i) (slice_get cs i) ≡ Some l → slice_get (cut_lines i (drop i cs) ++ x) 0 ≡ Some l
cut_first cs i l x h = ap (λ t. slice_get (t ++ x) 0) (sym (next_cut cs i l [] h))

pub cuts_rest : (cs : List Cut) (i j : ℕ) (x : List (CertRow × Why)) → i < length cs → drop 1 (cut_lines j (drop i cs) ++ x) ≡ cut_lines (j + 1) (drop (i + 1) cs) ++ x
cuts_rest [] i j x l = absurd (omega (arith, l))
cuts_rest (c ∷ cs) zero j x l = refl
cuts_rest (c ∷ cs) (suc i) j x l = cuts_rest cs i j x (omega (arith, l)) ∙ ap (λ k. cut_lines (j + 1) (drop k (c ∷ cs)) ++ x) (let z : suc (i + 1) ≡ suc i + 1 = omega arith in z)

-- ---- assumptions
-- the line of a node's assumption
abbrev assumed : ℕ → Branch → CertRow × Why
assumed i b = (labelled (label_of (codes "A") i) (branch_row b), Asm)

pub assumptions_at : (ns : List Node) (i j : ℕ) (b : Branch) → i < length ns → (slice_index_or ns i no_node).branch ≡ Some b
    → assumption_lines j (drop i ns) ≡ assumed j b ∷ assumption_lines (j + 1) (drop (i + 1) ns)
assumptions_at [] i j b l e = absurd (omega (arith, l))
assumptions_at (n ∷ ns) zero j b l e = ap (λ o. assumption_of j o ++ assumption_lines (j + 1) ns) e
assumptions_at (n ∷ ns) (suc i) j b l e =
    assumptions_at ns i j b (omega (arith, l)) e ∙ ap (λ k. assumed j b ∷ assumption_lines (j + 1) (drop k (n ∷ ns))) (let z : suc (i + 1) ≡ suc i + 1 = omega arith in z)

-- ---- places of a state
module _ (s : State) (es : List Entry) where
  pub assumptions_rest : IsTree (tree_of s) → (i : ℕ) → 0 < i → i < length s.nodes
      → drop 1 (assumption_lines i (drop i s.nodes) ++ nodes_behind s es) ≡ assumption_lines (i + 1) (drop (i + 1) s.nodes) ++ nodes_behind s es
  assumptions_rest tree i above l = let r = tree.reached i above l in ap (λ t. drop 1 (t ++ nodes_behind s es)) (assumptions_at s.nodes i i r.branch l r.reached)

  -- ---- how many there are
  cuts_count : (i : ℕ) (cs : List Cut) → length (cut_lines i cs) ≡ length cs
  cuts_count i [] = refl
  cuts_count i (c ∷ cs) = ap suc (cuts_count (i + 1) cs)

  nodes_count : (n : ℕ) → length (node_lines s es n) ≡ n
  nodes_count zero = refl
  nodes_count (suc n) = ap suc (nodes_count n)

  branched_count : (i : ℕ) (ns : List Node) → ((k : ℕ) → k < length ns → IsSome (slice_index_or ns k no_node).branch) → length (assumption_lines i ns) ≡ length ns
  branched_count i [] h = refl
  branched_count i (n ∷ ns) h = step n.branch (h 0 (omega arith)) ∙ ap suc (branched_count (i + 1) ns (λ k l. h (suc k) (omega (arith, l))))
    where
      step : (o : Option Branch) → IsSome o → length (assumption_of i o ++ assumption_lines (i + 1) ns) ≡ suc (length (assumption_lines (i + 1) ns))
      step None q = cc
      step (Some b) q = refl

  assumptions_count : (ns : List Node) → 0 < length ns → (slice_index_or ns 0 no_node).branch ≡ None → ((k : ℕ) → 0 < k → k < length ns → IsSome (slice_index_or ns k no_node).branch)
      → length (assumption_lines 0 ns) ≡ length ns - 1
  assumptions_count [] l e h = absurd (omega (arith, l))
  assumptions_count (n ∷ ns) l e h =
      ap (λ o. length (assumption_of 0 o ++ assumption_lines 1 ns)) e ∙ branched_count 1 ns (λ k m. h (suc k) (omega arith) (omega (arith, m))) ∙ (let z : length ns ≡ suc (length ns) - 1 = omega arith in z)

  pub lines_count : IsTree (tree_of s) → (layout_of s).lines - (layout_of s).cuts ≡ length (certificate_of s es).lines
  lines_count tree =
      let a = assumptions_count s.nodes tree.root_there tree.root (λ k above l. ap is_some (tree.reached k above l).reached) in
      omega (
        arith,
        a,
        cuts_count 0 s.cuts,
        nodes_count (length s.nodes),
        length-append (cut_lines 0 s.cuts ++ assumption_lines 0 s.nodes) (node_lines s es (length s.nodes)),
        length-append (cut_lines 0 s.cuts) (assumption_lines 0 s.nodes),
        tree.root_there,
      )
