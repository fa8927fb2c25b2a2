-- The multipliers of a node by the table of its setters are those of its box.
use Rattle.std.specs.Prelude.{◌≡◌, ◌<◌, ◌+◌, ℕ, suc, pos, int_lt, Bool, true, false, cond, List, [], ◌∷◌, ◌++◌, length, drop, slice_index_or, Result, Ok, Err, IfOk, refl}
use Rattle.std.specs.List.Sorted.{IsPermutation, IsNonDecreasingBy}
use Rattle.std.proofs.Common.{sym, ap, ◌∙◌, subst, arith}
use Rattle.std.proofs.Math.Seq.{drop-cons}
use Rattle.fraction.specs.Rational.{ℚ, whole}
use Rattle.problem_box.specs.declared.span.Span.{Span}
use Rattle.problem.specs.Rising.{AreRising}
use Rattle.node_tree.specs.declared.branch.Side.TheVariants.{Low, High}
use Rattle.node_tree.specs.declared.branch.Node.{Node}
use Rattle.node_tree.specs.Nodes.{Tree}
use Rattle.node_tree.specs.Paths.{setter, path_at}
use Rattle.node_tree.specs.Trees.{IsTree}
use Rattle.derivation_book.specs.Known.{known_lines}
use Rattle.derivation_book.specs.Rounded.{is_zero}
use Rattle.derivation_book.specs.Price.{reduced_cost}
use Rattle.derivation_book.specs.Legal.{AreProofMultipliers}
use Rattle.cert_rows.specs.Combination.{combined_terms}
use Rattle.event_core.specs.States.{State, tree_of}
use Rattle.cert_merge.specs.declared.setters.Setter.{Setter}
use Rattle.cert_merge.specs.Closing.{BoundSource, bound_multipliers}
use Rattle.cert_merge.specs.Numbers.{set_line, sources_from, sources_of}
use Rattle.cert_merge.specs.Merged.{node_multipliers}
use Rattle.cert_merge.specs.declared.path_setters.PathSetters.{PathSetters}
use Rattle.cert_merge.specs.Setters.{no_setter, set_at, AreSetters, NameNodes, AreSettersOf, sources_by}
use Rattle.cert_merge.specs.Kept.{AreKept}
use Rattle.cert_merge.specs.Lemmas.Placing.{sorted_is}
use Rattle.cert_merge.specs.Lemmas.BoundLines.{bounds_fresh}
use Rattle.cert_merge.proofs.Keeping.{kept_named}

-- ---- setters of a tree with the same nodes
pub same_setters : (t : Tree) (s : State) (i : ℕ) (ts : List Setter) → t.nodes ≡ s.nodes → AreSetters t i ts → AreSetters (tree_of s) i ts
same_setters t s i ts e h = subst (λ ns. AreSetters (record { root = s.problem.spans; nodes = ns; room = 0 }) i ts) e h

-- what is kept for a node is the table of the node of a state, where the tree is the state's
pub kept_of : (t : Tree) → IsTree t → (s : State) (k : PathSetters) (i : ℕ) → t.root ≡ s.problem.spans → t.nodes ≡ s.nodes → AreKept t k → k.place ≡ i → AreSettersOf s i k.table
kept_of t tree s k i root nodes h e = record {
  columns = h.columns ∙ ap (λ (ss : List Span). length ss) root;
  nodes = subst (λ n. NameNodes n k.table) (ap (λ (ns : List Node). length ns) nodes) (kept_named t tree k h);
  setters = same_setters t s i k.table nodes (subst (λ j. AreSetters t j k.table) e h.setters);
}

-- ---- sources
-- the table from column j on
source_step : (s : State) (i j : ℕ) (t : Setter) → t.low ≡ setter j Low (path_at (tree_of s) i) → t.high ≡ setter j High (path_at (tree_of s) i) → (os ps : List BoundSource) → os ≡ ps
    → record { lower = set_line s j Low t.low; upper = set_line s j High t.high } ∷ os
    ≡ record { lower = set_line s j Low (setter j Low (path_at (tree_of s) i)); upper = set_line s j High (setter j High (path_at (tree_of s) i)) } ∷ ps
source_step s i j t a b os ps e = λ k. record { lower = set_line s j Low (a k); upper = set_line s j High (b k) } ∷ e k

sources_are : (s : State) (i j : ℕ) (ts : List Setter) (ss : List Span) → length ts ≡ length ss
    → ((k : ℕ) → k < length ts → (slice_index_or ts k no_setter).low ≡ setter (j + k) Low (path_at (tree_of s) i))
    → ((k : ℕ) → k < length ts → (slice_index_or ts k no_setter).high ≡ setter (j + k) High (path_at (tree_of s) i))
    → sources_by s j ts ≡ sources_from s i j ss
sources_are s i j [] [] l a b = refl
sources_are s i j [] (c ∷ ss) l a b = absurd (omega (arith, l))
sources_are s i j (t ∷ ts) [] l a b = absurd (omega (arith, l))
sources_are s i j (t ∷ ts) (c ∷ ss) l a b =
    let z : j + 0 ≡ j = omega arith in
    source_step s i j t (a 0 (omega arith) ∙ ap (λ n. setter n Low (path_at (tree_of s) i)) z) (b 0 (omega arith) ∙ ap (λ n. setter n High (path_at (tree_of s) i)) z)
    (sources_by s (j + 1) ts) (sources_from s i (j + 1) ss)
    (sources_are s i (j + 1) ts ss (omega (arith, l))
    (λ k m. a (suc k) (omega (arith, m)) ∙ ap (λ n. setter n Low (path_at (tree_of s) i)) (let y : j + suc k ≡ j + 1 + k = omega arith in y))
    (λ k m. b (suc k) (omega (arith, m)) ∙ ap (λ n. setter n High (path_at (tree_of s) i)) (let y : j + suc k ≡ j + 1 + k = omega arith in y)))

pub sources_by-of : (s : State) (i : ℕ) (ts : List Setter) → AreSettersOf s i ts → sources_by s 0 ts ≡ sources_of s i
sources_by-of s i ts h =
    sources_are s i 0 ts s.problem.spans h.columns
    (λ k m. h.setters k Low m ∙ ap (λ n. setter n Low (path_at (tree_of s) i)) (let y : k ≡ 0 + k = omega arith in y))
    (λ k m. h.setters k High m ∙ ap (λ n. setter n High (path_at (tree_of s) i)) (let y : k ≡ 0 + k = omega arith in y))

-- ---- bound multipliers
-- numbers that are the same at each of the columns
same_bounds : (f g : ℕ → ℚ) (j : ℕ) (os : List BoundSource) → ((k : ℕ) → k < length os → f (j + k) ≡ g (j + k)) → bound_multipliers f j os ≡ bound_multipliers g j os
same_bounds f g j [] h = refl
same_bounds f g j (o ∷ os) h =
    let z : j + 0 ≡ j = omega arith in
    let here : f j ≡ g j = ap f (sym z) ∙ h 0 (omega arith) ∙ ap g z in
    let rest : bound_multipliers f (j + 1) os ≡ bound_multipliers g (j + 1) os =
    same_bounds f g (j + 1) os (λ k m. ap f (let y : j + 1 + k ≡ j + suc k = omega arith in y) ∙ h (suc k) (omega (arith, m)) ∙ ap g (let y : j + suc k ≡ j + 1 + k = omega arith in y)) in
    λ i. cond (is_zero (here i)) (rest i) ((cond (int_lt (pos 0) (here i).num) o.lower o.upper, here i) ∷ rest i)

length-sources_by : (s : State) (j : ℕ) (ts : List Setter) → length (sources_by s j ts) ≡ length ts
length-sources_by s j [] = refl
length-sources_by s j (t ∷ ts) = ap suc (length-sources_by s (j + 1) ts)

-- one column more
module _ (s : State) (ts : List Setter) (cs : List ℚ) where
  abbrev at : ℕ → ℚ
  at j = slice_index_or cs j (whole (pos 0))

  abbrev from : ℕ → List (ℕ × ℚ)
  from j = bound_multipliers at j (sources_by s j (drop j ts))

  abbrev this : ℕ → ℚ → ℕ × ℚ
  this j v = (cond (int_lt (pos 0) v.num) (set_line s j Low (set_at ts j Low)) (set_line s j High (set_at ts j High)), v)

  first : (j : ℕ) → j < length ts → from j ≡ cond (is_zero (at j)) (from (j + 1)) (this j (at j) ∷ from (j + 1))
  first j l =
      let z : suc j ≡ j + 1 = omega arith in
      ap (λ us. bound_multipliers at j (sources_by s j us)) (drop-cons ts j no_setter l ∙ ap (λ n. slice_index_or ts j no_setter ∷ drop n ts) z)

  pub next_bound : (j : ℕ) (v : ℚ) (items more : List (ℕ × ℚ)) → j < length ts → v ≡ at j → more ≡ cond (is_zero v) items (items ++ this j v ∷ []) → more ++ from (j + 1) ≡ items ++ from j
  next_bound j v items more l e m = step (is_zero v) m ∙ ap (λ xs. items ++ xs) (ap (λ w. cond (is_zero w) (from (j + 1)) (this j w ∷ from (j + 1))) e ∙ sym (first j l))
    where
      assoc : (xs : List (ℕ × ℚ)) → (xs ++ this j v ∷ []) ++ from (j + 1) ≡ xs ++ (this j v ∷ from (j + 1))
      assoc [] = refl
      assoc (x ∷ xs) = ap (λ ys. x ∷ ys) (assoc xs)

      step : (b : Bool) → more ≡ cond b items (items ++ this j v ∷ []) → more ++ from (j + 1) ≡ items ++ cond b (from (j + 1)) (this j v ∷ from (j + 1))
      step true q = ap (λ xs. xs ++ from (j + 1)) q
      step false q = ap (λ xs. xs ++ from (j + 1)) q ∙ assoc items

-- ---- all multipliers of a node
-- what was sorted is what the table of lines says
module _ (s : State) (tree : IsTree (tree_of s)) (i : ℕ) (ts : List Setter) (h : AreSettersOf s i ts) (target mult : List (ℕ × ℚ)) (proof : AreProofMultipliers s.problem s.cuts mult) (rising : AreRising mult) where
  abbrev costs : ℕ → ℚ
  costs = reduced_cost target (combined_terms (known_lines s.problem s.cuts) mult)

  bounds_are : (cs : List ℚ) → ((j : ℕ) → j < length s.problem.spans → slice_index_or cs j (whole (pos 0)) ≡ costs j)
      → bound_multipliers (λ j. slice_index_or cs j (whole (pos 0))) 0 (sources_by s 0 ts) ≡ bound_multipliers costs 0 (sources_of s i)
  bounds_are cs e =
      same_bounds (λ j. slice_index_or cs j (whole (pos 0))) costs 0 (sources_by s 0 ts)
      (λ k m.
      let z : 0 + k ≡ k = omega arith in
      let there : k < length s.problem.spans = omega (arith, m, length-sources_by s 0 ts, h.columns) in
      ap (λ n. slice_index_or cs n (whole (pos 0))) z ∙ e k there ∙ ap costs (sym z))
      ∙ ap (bound_multipliers costs 0) (sources_by-of s i ts h)

  pub multipliers_are : (cs : List ℚ) (bs items ys : List (ℕ × ℚ)) → ((j : ℕ) → j < length s.problem.spans → slice_index_or cs j (whole (pos 0)) ≡ costs j)
      → bs ≡ bound_multipliers (λ j. slice_index_or cs j (whole (pos 0))) 0 (sources_by s 0 ts) → items ≡ bs ++ mult → IsPermutation items ys → IsNonDecreasingBy (λ (m : ℕ × ℚ). m.0) ys
      → ys ≡ node_multipliers s i target mult
  multipliers_are cs bs items ys e b c p o =
      let all : items ≡ bound_multipliers costs 0 (sources_of s i) ++ mult = c ∙ ap (λ xs. xs ++ mult) (b ∙ bounds_are cs e) in
      sorted_is (bound_multipliers costs 0 (sources_of s i)) mult ys (subst (λ xs. IsPermutation xs ys) all p) o
      (bounds_fresh s i costs tree mult proof 0 s.problem.spans (omega arith)) rising

-- ---- results that say more
pub if_same : {A E : Type 0} (r : Result A E) (P : A → Type 0) (x : A) → P x → IfOk r (λ a. a ≡ x) → IfOk r P
if_same (Ok a) P x h e = subst P (sym e) h
if_same (Err e) P x h q = tt

pub if_both : {A E : Type 0} (r : Result A E) (P Q R : A → Type 0) → ((a : A) → P a → Q a → R a) → IfOk r P → IfOk r Q → IfOk r R
if_both (Ok a) P Q R f h k = f a h k
if_both (Err e) P Q R f h k = tt
