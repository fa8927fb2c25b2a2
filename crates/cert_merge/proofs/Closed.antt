-- The proofs of closed nodes, and the children of those that were split.
use Rattle.std.specs.Prelude.{◌≡◌, ◌<◌, ◌+◌, ℕ, Bool, List, [], length, Option, Some, None, IsSome, option_map, slice_index, slice_index_or, refl, is_some}
use Rattle.std.proofs.Common.{sym, ap, ◌∙◌, subst, arith}
use Rattle.std.proofs.lemmas.Option.{slice_get_within, same_Some}
use Rattle.fraction.specs.Rational.{ℚ}
use Rattle.node_events.specs.declared.proof.Proof.{Proof}
use Rattle.node_events.specs.declared.proof.Proof.TheVariants.{Empty, Refute, Bound}
use Rattle.node_tree.specs.declared.branch.Node.{Node}
use Rattle.node_tree.specs.Nodes.{Tree, no_node, node_at, children_at}
use Rattle.node_tree.specs.Paths.{path_at}
use Rattle.node_tree.specs.Trees.{IsTree}
use Rattle.node_tree.specs.Lemmas.Boxes.{length-box}
use Rattle.node_tree.specs.Lemmas.Insides.{reached_by}
use Rattle.derivation_book.specs.Legal.{IsLegalProof}
use Rattle.derivation_book.specs.Price.{HasPrice}
use Rattle.event_core.specs.declared.entry.Entry.{Entry}
use Rattle.event_core.specs.States.{State, tree_of, box_of, cutoff}
use Rattle.cert_merge.specs.Endings.{proof_of, proof_at, AreClosings}
use Rattle.cert_merge.specs.Merged.{closed_line, line_by, for_node, node_of}
use Rattle.cert_merge.specs.Lemmas.Finished.{IsDone}
use Rattle.problem.specs.Directions.{aim}

-- ---- legal proofs
abbrev IsLegalAt : State → ℕ → Proof → Type 0
IsLegalAt s i proof = IsLegalProof s.problem s.cuts (box_of s i) (cutoff s) proof

columns_of : (s : State) (i : ℕ) → length (box_of s i) ≡ length s.problem.spans
columns_of s i = length-box (path_at (tree_of s) i) 0 s.problem.spans

pub crossed_there : (s : State) (i : ℕ) (proof : Proof) (j : ℕ) → proof ≡ Empty j → IsLegalAt s i proof → j < length s.problem.spans
crossed_there s i proof j e h =
    let k = subst (IsLegalAt s i) e h in
    omega (arith, slice_get_within (box_of s i) j k.span k.there, columns_of s i)

pub refuted_price : (s : State) (i : ℕ) (proof : Proof) (mult : List (ℕ × ℚ)) → proof ≡ Refute mult → IsLegalAt s i proof → HasPrice s.problem s.cuts [] mult
refuted_price s i proof mult e h =
    let k = subst (IsLegalAt s i) e h in
    record { box = box_of s i; columns = columns_of s i; value = k.value; priced = k.priced }

pub bounded_price : (s : State) (i : ℕ) (proof : Proof) (mult : List (ℕ × ℚ)) (rounded : Bool) → proof ≡ Bound mult rounded → IsLegalAt s i proof → HasPrice s.problem s.cuts (aim s.problem) mult
bounded_price s i proof mult rounded e h =
    let k = subst (IsLegalAt s i) e h in
    record { box = box_of s i; columns = columns_of s i; value = k.value; priced = k.priced }

-- ---- children
pub same_children : (t : Tree) (s : State) (i : ℕ) → t.nodes ≡ s.nodes → children_at t i ≡ children_at (tree_of s) i
same_children t s i e = ap (λ (ns : List Node). option_map (λ (k : ℕ). (k, k + 1)) (slice_index_or ns i no_node).first_child) e

pub children_there : (t : Tree) → IsTree t → (i : ℕ) (c : ℕ × ℕ) → children_at t i ≡ Some c → (c.0 < length t.nodes) × (c.1 < length t.nodes)
children_there t tree i c e = step (node_at t i).first_child refl e
  where
    step : (o : Option ℕ) → (node_at t i).first_child ≡ o → option_map (λ k. (k, k + 1)) o ≡ Some c → (c.0 < length t.nodes) × (c.1 < length t.nodes)
    step None f q = cc
    step (Some k) f q =
        let z : (k, k + 1) ≡ c = same_Some (k, k + 1) c q in
        let a = tree.children i k f in
        (subst (λ (p : ℕ × ℕ). p.0 < length t.nodes) z (reached_by t tree k _ a.left).there, subst (λ (p : ℕ × ℕ). p.1 < length t.nodes) z (reached_by t tree (k + 1) _ a.right).there)

-- ---- a closed node by the table
module _ (s : State) (es : List Entry) (done : IsDone s es) (i : ℕ) (l : i < length s.nodes) (none : children_at (tree_of s) i ≡ None) (places : List ℕ) (all : length places ≡ length s.nodes) (closings : AreClosings es places) where
  at : proof_at es (slice_index places i) i ≡ proof_of es i
  at = let h = done.proved i l none in closings i (omega (arith, l, all)) (ap is_some h.found)

  pub closed_there : IsSome (proof_at es (slice_index places i) i)
  closed_there = let h = done.proved i l none in ap is_some (at ∙ h.found)

  module _ (proof : Proof) (e : proof_at es (slice_index places i) i ≡ Some proof) where
    pub closed_legal : IsLegalAt s i proof
    closed_legal =
        let h = done.proved i l none in
        subst (IsLegalAt s i) (same_Some h.proof proof (sym h.found ∙ sym at ∙ e)) h.legal

    pub closed_is : for_node i (closed_line s i proof) ≡ node_of s es i
    closed_is =
        let f : proof_of es i ≡ Some proof = sym at ∙ e in
        λ k. for_node i (line_by s i (sym none k) (sym f k))
