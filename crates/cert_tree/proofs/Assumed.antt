-- The lines of assumptions: each is the row of a node's branch, and assumes itself.
use Rattle.std.specs.Prelude.{◌≡◌, ◌<◌, ◌+◌, ◌-◌, ℕ, zero, suc, List, [], ◌∷◌, ◌++◌, length, slice_index_or, Option, Some, None, refl}
use Rattle.std.proofs.Common.{sym, ap, ◌∙◌, subst, arith, length-append}
use Rattle.std.proofs.Math.Seq.{get_or-append_seam}
use Rattle.std.proofs.lemmas.List.{get_or_append_left}
use Rattle.cert_rows.specs.Lines.{CertLine, no_cert_line}
use Rattle.cert_rows.specs.Validity.{with_derived, AllFollow}
use Rattle.node_tree.specs.declared.branch.Branch.{Branch}
use Rattle.node_tree.specs.declared.branch.Node.{Node}
use Rattle.node_tree.specs.Nodes.{no_node, branch_at}
use Rattle.node_tree.specs.Trees.{IsReached}
use Rattle.derivation_book.specs.Known.{known_lines}
use Rattle.derivation_book.specs.Lemmas.Numbering.{known_length}
use Rattle.event_core.specs.States.{State, tree_of}
use Rattle.cert_merge.specs.Numbers.{assumption_line}
use Rattle.cert_merge.specs.Merged.{branch_row, assumption_of, assumption_lines}

-- the row of a branch, assumed as line n
abbrev pub assumed_line : ℕ → Branch → CertLine
assumed_line n b = record { row = branch_row b; assumes = n ∷ [] }

-- behind the lines ls stands, for each of the nodes, the row of its branch
record AreAssumed (ls : List CertLine) (ns : List Node) (ds : List CertLine) : Type 0 where
  long : length ds ≡ length ls + length ns
  same : (q : ℕ) → q < length ls → slice_index_or ds q no_cert_line ≡ slice_index_or ls q no_cert_line
  line : (k : ℕ) (b : Branch) → (slice_index_or ns k no_node).branch ≡ Some b → slice_index_or ds (length ls + k) no_cert_line ≡ assumed_line (length ls + k) b

-- each node has a branch
abbrev HaveBranches : List Node → Type 0
HaveBranches ns = (k : ℕ) → k < length ns → (b : Branch) × ((slice_index_or ns k no_node).branch ≡ Some b)

-- that all of it goes through, where node i has the branch o and the rest come behind it
Goes : List CertLine → List Node → ℕ → Option Branch → List Node → Type 0
Goes ls ns i o rest = AllFollow ls (assumption_of i o ++ assumption_lines (i + 1) rest) × AreAssumed ls ns (with_derived ls (assumption_of i o ++ assumption_lines (i + 1) rest))

one_more : (i : ℕ) (ls : List CertLine) (n : Node) (ns : List Node) (b : Branch) → n.branch ≡ Some b
    → AllFollow (ls ++ assumed_line (length ls) b ∷ []) (assumption_lines (i + 1) ns)
    → AreAssumed (ls ++ assumed_line (length ls) b ∷ []) ns (with_derived (ls ++ assumed_line (length ls) b ∷ []) (assumption_lines (i + 1) ns))
    → Goes ls (n ∷ ns) i (Some b) ns
unfolding Goes
one_more i ls n ns b e f r =
    let y = assumed_line (length ls) b in
    let l : length (ls ++ y ∷ []) ≡ length ls + 1 = length-append ls (y ∷ []) in (
      (tt, f),
      record {
        long = omega (arith, r.long, l);
        same = λ q h. r.same q (omega (arith, l)) ∙ get_or_append_left ls (y ∷ []) no_cert_line q h;
        line = λ k. line k;
      },
    )
  where
    line : (k : ℕ) (c : Branch) → (slice_index_or (n ∷ ns) k no_node).branch ≡ Some c
        → slice_index_or (with_derived (ls ++ assumed_line (length ls) b ∷ []) (assumption_lines (i + 1) ns)) (length ls + k) no_cert_line ≡ assumed_line (length ls + k) c
    line zero c h =
        let ds = with_derived (ls ++ assumed_line (length ls) b ∷ []) (assumption_lines (i + 1) ns) in
        let l : length (ls ++ assumed_line (length ls) b ∷ []) ≡ length ls + 1 = length-append ls (assumed_line (length ls) b ∷ []) in
        let z : length ls ≡ length ls + 0 = omega arith in
        let q : b ≡ c = cc in
        ap (λ m. slice_index_or ds m no_cert_line) (sym z) ∙ r.same (length ls) (omega (arith, l)) ∙ get_or-append_seam ls (assumed_line (length ls) b) [] no_cert_line
        ∙ (λ j. assumed_line (z j) (q j))
    line (suc k) c h =
        let ds = with_derived (ls ++ assumed_line (length ls) b ∷ []) (assumption_lines (i + 1) ns) in
        let l : length (ls ++ assumed_line (length ls) b ∷ []) ≡ length ls + 1 = length-append ls (assumed_line (length ls) b ∷ []) in
        let z : length (ls ++ assumed_line (length ls) b ∷ []) + k ≡ length ls + suc k = omega (arith, l) in
        subst (λ m. slice_index_or ds m no_cert_line ≡ assumed_line m c) z (r.line k c h)

assumed : (i : ℕ) (ls : List CertLine) (ns : List Node) → HaveBranches ns → AllFollow ls (assumption_lines i ns) × AreAssumed ls ns (with_derived ls (assumption_lines i ns))
unfolding Goes
assumed i ls [] h = (tt, record { long = omega arith; same = λ q l. refl; line = λ k b e. let f : ⊥ = cc in absurd f })
assumed i ls (n ∷ ns) h =
    let b = (h 0 (omega arith)).0 in
    let e : n.branch ≡ Some b = (h 0 (omega arith)).1 in
    let r = assumed (i + 1) (ls ++ assumed_line (length ls) b ∷ []) ns (λ k l. h (suc k) (omega arith)) in
    subst (λ o. Goes ls (n ∷ ns) i o ns) (sym e) (one_more i ls n ns b e r.0 r.1)

-- the lines before the nodes: known lines, and assumptions at their numbers
pub record AreLines (s : State) (ds : List CertLine) : Type 0 where
  pub long : length ds ≡ length (known_lines s.problem s.cuts) + (length s.nodes - 1)
  pub same : (q : ℕ) → q < length (known_lines s.problem s.cuts) → slice_index_or ds q no_cert_line ≡ slice_index_or (known_lines s.problem s.cuts) q no_cert_line
  pub line : (k : ℕ) (b : Branch) → 0 < k → branch_at (tree_of s) k ≡ Some b → slice_index_or ds (assumption_line s k) no_cert_line ≡ assumed_line (assumption_line s k) b

-- those of a search whose nodes all have branches but node 0
pub lines_are : (s : State) (n : Node) (ns : List Node) → s.nodes ≡ n ∷ ns → n.branch ≡ None → ((i : ℕ) → 0 < i → i < length s.nodes → IsReached (tree_of s) i)
    → AllFollow (known_lines s.problem s.cuts) (assumption_lines 0 s.nodes) × AreLines s (with_derived (known_lines s.problem s.cuts) (assumption_lines 0 s.nodes))
lines_are s n ns e root reached =
    let B = known_lines s.problem s.cuts in
    let start : assumption_lines 0 s.nodes ≡ assumption_lines 1 ns = ap (assumption_lines 0) e ∙ ap (λ o. assumption_of 0 o ++ assumption_lines 1 ns) root in
    let count : length s.nodes ≡ suc (length ns) = ap length e in
    let r = assumed 1 B ns (λ k l. let h = reached (suc k) (omega arith) (omega (arith, count)) in (h.branch, ap (λ ms. (slice_index_or ms (suc k) no_node).branch) (sym e) ∙ h.reached)) in (
      subst (AllFollow B) (sym start) r.0,
      subst (AreLines s) (ap (with_derived B) (sym start)) (record {
        long = r.1.long ∙ (let z : length B + length ns ≡ length B + (length s.nodes - 1) = omega (arith, count) in z);
        same = r.1.same;
        line = line (with_derived B (assumption_lines 1 ns)) r.1;
      }),
    )
  where
    line : (ds : List CertLine) → AreAssumed (known_lines s.problem s.cuts) ns ds → (k : ℕ) (b : Branch) → 0 < k → branch_at (tree_of s) k ≡ Some b
        → slice_index_or ds (assumption_line s k) no_cert_line ≡ assumed_line (assumption_line s k) b
    line ds r zero b l h = absurd (omega (arith, l))
    line ds r (suc k) b l h =
        let z : length (known_lines s.problem s.cuts) + k ≡ assumption_line s (suc k) = omega (arith, known_length s.problem s.cuts) in
        subst (λ m. slice_index_or ds m no_cert_line ≡ assumed_line m b) z (r.line k b (ap (λ ms. (slice_index_or ms (suc k) no_node).branch) (sym e) ∙ h))
