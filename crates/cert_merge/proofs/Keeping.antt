-- The setters of a node, one step up or down.
use Rattle.std.specs.Prelude.{◌≡◌, ◌≢◌, ◌<◌, ℕ, zero, suc, Bool, true, false, cond, eqb, ◌&&◌, List, [], ◌∷◌, ◌++◌, length, All, Option, Some, None, slice_index_or, slice_set, refl}
use Rattle.std.proofs.Common.{ap, sym, subst, ◌∙◌, arith}
use Rattle.std.specs.Option.{option_map}
use Rattle.std.proofs.lemmas.Option.{same_Some}
use Rattle.std.proofs.lemmas.Bool.{eqb-true, eqb-false, and_parts}
use Rattle.std.proofs.lemmas.List.{length-set, get_or-set_same, get_or-set_other}
use Rattle.std.proofs.lemmas.List.Elements.{All-nil, All-cons, All-head, All-tail}
use Rattle.node_tree.specs.declared.branch.Side.{Side}
use Rattle.node_tree.specs.declared.branch.Side.TheVariants.{Low, High}
use Rattle.node_tree.specs.declared.branch.Branch.{Branch}
use Rattle.node_tree.specs.Nodes.{Tree, branch_at, parent_at}
use Rattle.node_tree.specs.Paths.{path_of, path_at, is_same_side, setter}
use Rattle.node_tree.specs.Trees.{IsTree}
use Rattle.node_tree.specs.Lemmas.Paths.{path_end, path_up, path_child}
use Rattle.node_tree.specs.Lemmas.Boxes.{length-box}
use Rattle.node_tree.specs.Lemmas.Insides.{reached_by, downwards}
use Rattle.cert_merge.specs.declared.setters.Setter.{Setter}
use Rattle.cert_merge.specs.declared.path_setters.PathSetters.{PathSetters}
use Rattle.cert_merge.specs.Setters.{no_setter, set_by, set_at, with_setter, with_set, NameNodes}
use Rattle.cert_merge.specs.Kept.{AreReplaced, AreKept, IsWay}
use Rattle.cert_merge.specs.Lemmas.Setting.{same_side}

-- ---- what an entry changes
length-with_set : (ts : List Setter) (k : ℕ) (on : Side) (o : Option ℕ) → length (with_set ts k on o) ≡ length ts
length-with_set ts k on o = length-set ts k (with_setter on o (slice_index_or ts k no_setter))

with_side : (side on : Side) (o : Option ℕ) (t : Setter) → set_by side (with_setter on o t) ≡ cond (is_same_side side on) o (set_by side t)
with_side Low Low o t = refl
with_side Low High o t = refl
with_side High Low o t = refl
with_side High High o t = refl

set_there : (ts : List Setter) (k : ℕ) (on : Side) (o : Option ℕ) (j : ℕ) (side : Side) → j < length ts → set_at (with_set ts k on o) j side ≡ cond (eqb j k && is_same_side side on) o (set_at ts j side)
set_there ts k on o j side l = step (eqb j k) refl
  where
    step : (v : Bool) → eqb j k ≡ v → set_at (with_set ts k on o) j side ≡ cond (v && is_same_side side on) o (set_at ts j side)
    step true e =
        let at : j ≡ k = eqb-true j k e in
        let there : k < length ts = subst (λ i. i < length ts) at l in
        ap (λ i. set_at (with_set ts k on o) i side) at
        ∙ ap (set_by side) (get_or-set_same ts k (with_setter on o (slice_index_or ts k no_setter)) no_setter there)
        ∙ with_side side on o (slice_index_or ts k no_setter)
        ∙ ap (λ i. cond (is_same_side side on) o (set_at ts i side)) (sym at)
    step false e = ap (set_by side) (get_or-set_other ts k j (with_setter on o (slice_index_or ts k no_setter)) no_setter (eqb-false j k e))

-- ---- tables along a path
-- the table of the end of a path
abbrev AreAlong : List (ℕ × Branch) → List Setter → Type 0
AreAlong path ts = (j : ℕ) (side : Side) → j < length ts → set_at ts j side ≡ setter j side path

-- one branch further down
down_along : (k : ℕ) (b : Branch) (path : List (ℕ × Branch)) (ts : List Setter) → AreAlong path ts → AreAlong ((k, b) ∷ path) (with_set ts b.column b.side (Some k))
down_along k b path ts h j side l =
    let before : j < length ts = subst (λ n. j < n) (length-with_set ts b.column b.side (Some k)) l in
    set_there ts b.column b.side (Some k) j side before ∙ ap (cond (eqb j b.column && is_same_side side b.side) (Some k)) (h j side before)

-- one branch further up, by what the branch replaced
up_along : (k : ℕ) (b : Branch) (path : List (ℕ × Branch)) (ts : List Setter) (o : Option ℕ) → o ≡ setter b.column b.side path → AreAlong ((k, b) ∷ path) ts
    → AreAlong path (with_set ts b.column b.side o)
up_along k b path ts o e h j side l = set_there ts b.column b.side o j side before ∙ step (eqb j b.column && is_same_side side b.side) refl (h j side before)
  where
    before : j < length ts
    before = subst (λ n. j < n) (length-with_set ts b.column b.side o) l

    step : (v : Bool) → (eqb j b.column && is_same_side side b.side) ≡ v → set_at ts j side ≡ cond v (Some k) (setter j side path) → cond v o (set_at ts j side) ≡ setter j side path
    step true q r =
        let both = and_parts (eqb j b.column) (is_same_side side b.side) q in
        e ∙ (λ i. setter (sym (eqb-true j b.column both.0) i) (same_side side b.side both.1 i) path)
    step false q r = r

-- ---- numbers of nodes
-- the node has a number below m
abbrev IsBelow : ℕ → ℕ × Branch → Type 0
IsBelow m s = s.0 < m

-- the nodes of a path have no greater number than the one that it leads to
path_below : (f : ℕ → Option Branch) → ((i : ℕ) (b : Branch) → f i ≡ Some b → b.parent < i) → (m n i : ℕ) → i < m → All (IsBelow m) (path_of f n i)
path_below f down m zero i l = All-nil (IsBelow m)
path_below f down m (suc n) i l = step (path_below f down m n) (f i) refl
  where
    step : ((j : ℕ) → j < m → All (IsBelow m) (path_of f n j)) → (o : Option Branch) → f i ≡ o → All (IsBelow m) (path_of f (suc n) i)
    step ih None e = subst (All (IsBelow m)) (sym (path_end f (suc n) i e)) (All-nil (IsBelow m))
    step ih (Some b) e = subst (All (IsBelow m)) (sym (path_up f n i b e)) (All-cons (IsBelow m) (i, b) (path_of f n b.parent) l (ih b.parent (omega (arith, down i b e, l))))

setter_below : (m j : ℕ) (side : Side) (k : ℕ) (path : List (ℕ × Branch)) → All (IsBelow m) path → setter j side path ≡ Some k → k < m
setter_below m j side k [] h e = let f : ⊥ = cc in absurd f
setter_below m j side k (s ∷ ss) h e = step (setter_below m j side k ss (All-tail (IsBelow m) s ss h)) (eqb j s.1.column && is_same_side side s.1.side) e
  where
    step : (setter j side ss ≡ Some k → k < m) → (v : Bool) → cond v (Some s.0) (setter j side ss) ≡ Some k → k < m
    step ih true q = let z : s.0 ≡ k = cc in subst (λ n. n < m) z (All-head (IsBelow m) s ss h)
    step ih false q = ih q

-- ---- what branches replaced
-- an entry for a node leaves those of the nodes above it
still_replaced : (rs : List (Option ℕ)) (k : ℕ) (o : Option ℕ) (path : List (ℕ × Branch)) → All (IsBelow k) path → AreReplaced rs path → AreReplaced (slice_set rs k o) path
still_replaced rs k o [] l h = tt
still_replaced rs k o (s ∷ ss) l h =
    let below : s.0 < k = All-head (IsBelow k) s ss l in
    let other : s.0 ≢ k = λ e. omega (arith, e, below) in
    (get_or-set_other rs k s.0 o None other ∙ h.0, still_replaced rs k o ss (All-tail (IsBelow k) s ss l) h.1)

-- ---- ways
pub parent_by : (t : Tree) (i : ℕ) (b : Branch) → branch_at t i ≡ Some b → parent_at t i ≡ Some b.parent
parent_by t i b e = ap (option_map (λ (b : Branch). b.parent)) e

-- one node more, the parent of what stood above
pub way_longer : (t : Tree) (top i p : ℕ) (ks : List ℕ) → IsWay t top i ks → parent_at t top ≡ Some p → IsWay t p i (ks ++ top ∷ [])
way_longer t top i p [] h e = (p, sym h, e, refl)
way_longer t top i p (k ∷ ks) h e = (h.0, h.1, h.2, way_longer t top h.0 p ks h.3 e)

-- the first step down
pub way_next : (t : Tree) (top i k : ℕ) (ks : List ℕ) → IsWay t top i (ks ++ k ∷ []) → (parent_at t k ≡ Some top) × IsWay t k i ks
way_next t top i k [] h = (h.2 ∙ ap Some h.3, sym h.1)
way_next t top i k (n ∷ ks) h = let rest = way_next t top h.0 k ks h.3 in (rest.0, (h.0, h.1, h.2, rest.1))

-- ---- what is kept
module _ (t : Tree) (tree : IsTree t) where
  -- only node 0 has no branch
  pub reached : (i : ℕ) → 0 < i → i < length t.nodes → None ≡ branch_at t i → ⊥
  reached i below there e = let r = tree.reached i below there in let z : None ≡ Some r.branch = e ∙ r.reached in cc

  pub parent_below : (i : ℕ) (b : Branch) → branch_at t i ≡ Some b → b.parent < i
  parent_below i b e = downwards t tree i b e

  -- a node that has a parent
  pub child_there : (i p : ℕ) → parent_at t i ≡ Some p → (0 < i) × (i < length t.nodes)
  child_there i p e = step (branch_at t i) refl e
    where
      step : (o : Option Branch) → branch_at t i ≡ o → option_map (λ (b : Branch). b.parent) o ≡ Some p → (0 < i) × (i < length t.nodes)
      step None q r = absurd (let f : ⊥ = cc in f)
      step (Some b) q r = let h = reached_by t tree i b q in (h.above, h.there)

  pub parent_is : (i p : ℕ) (b : Branch) → parent_at t i ≡ Some p → branch_at t i ≡ Some b → b.parent ≡ p
  parent_is i p b e q = same_Some b.parent p (sym (parent_by t i b q) ∙ e)

  path_down : (i : ℕ) (b : Branch) → branch_at t i ≡ Some b → path_at t i ≡ (i, b) ∷ path_at t b.parent
  path_down i b e = path_child (branch_at t) (downwards t tree) i b e

  pub column_there : (i : ℕ) (b : Branch) → branch_at t i ≡ Some b → b.column < length t.root
  column_there i b e = omega (arith, (reached_by t tree i b e).inside.there, length-box (path_at t b.parent) 0 t.root)

  -- the bound that a branch set is set back
  pub kept_up : (s z : PathSetters) (b : Branch) → AreKept t s → branch_at t s.place ≡ Some b → z.place ≡ b.parent
      → z.table ≡ with_set s.table b.column b.side (slice_index_or s.replaced.items s.place None) → z.replaced.items ≡ s.replaced.items → AreKept t z
  kept_up s z b h e place table same =
      let r = reached_by t tree s.place b e in
      let down : path_at t s.place ≡ (s.place, b) ∷ path_at t b.parent = path_down s.place b e in
      let o : Option ℕ = slice_index_or s.replaced.items s.place None in
      let replaced : AreReplaced s.replaced.items ((s.place, b) ∷ path_at t b.parent) = subst (AreReplaced s.replaced.items) down h.replaced in
      let along : AreAlong ((s.place, b) ∷ path_at t b.parent) s.table = subst (λ ss. AreAlong ss s.table) down h.setters in
      let above : AreAlong (path_at t b.parent) (with_set s.table b.column b.side o) = up_along s.place b (path_at t b.parent) s.table o replaced.0 along in
      record {
        there = omega (arith, place, r.downwards, r.there);
        columns = ap (λ (ts : List Setter). length ts) table ∙ length-with_set s.table b.column b.side o ∙ h.columns;
        nodes = ap (λ (rs : List (Option ℕ)). length rs) same ∙ h.nodes;
        setters = subst (λ i. AreAlong (path_at t i) z.table) (sym place) (subst (AreAlong (path_at t b.parent)) (sym table) above);
        replaced = subst (λ i. AreReplaced z.replaced.items (path_at t i)) (sym place) (subst (λ rs. AreReplaced rs (path_at t b.parent)) (sym same) replaced.1);
      }

  -- a branch sets its bound, and what it replaces is kept
  pub kept_down : (s z : PathSetters) (i : ℕ) (b : Branch) → AreKept t s → branch_at t i ≡ Some b → b.parent ≡ s.place → z.place ≡ i
      → z.table ≡ with_set s.table b.column b.side (Some i) → z.replaced.items ≡ slice_set s.replaced.items i (set_at s.table b.column b.side) → AreKept t z
  kept_down s z i b h e parent place table entered =
      let r = reached_by t tree i b e in
      let o : Option ℕ = set_at s.table b.column b.side in
      let rs : List (Option ℕ) = slice_set s.replaced.items i o in
      let down : path_at t i ≡ (i, b) ∷ path_at t s.place = path_down i b e ∙ ap (λ k. (i, b) ∷ path_at t k) parent in
      let column : b.column < length s.table = omega (arith, column_there i b e, h.columns) in
      let there : i < length s.replaced.items = omega (arith, r.there, h.nodes) in
      let below : All (IsBelow i) (path_at t s.place) = path_below (branch_at t) (downwards t tree) i s.place s.place (omega (arith, r.downwards, parent)) in
      let first : slice_index_or rs i None ≡ setter b.column b.side (path_at t s.place) = get_or-set_same s.replaced.items i o None there ∙ h.setters b.column b.side column in
      let replaced : AreReplaced rs ((i, b) ∷ path_at t s.place) = (first, still_replaced s.replaced.items i o (path_at t s.place) below h.replaced) in
      let along : AreAlong ((i, b) ∷ path_at t s.place) (with_set s.table b.column b.side (Some i)) = down_along i b (path_at t s.place) s.table h.setters in
      record {
        there = omega (arith, place, r.there);
        columns = ap (λ (ts : List Setter). length ts) table ∙ length-with_set s.table b.column b.side (Some i) ∙ h.columns;
        nodes = ap (λ (rs : List (Option ℕ)). length rs) entered ∙ length-set s.replaced.items i o ∙ h.nodes;
        setters = subst (λ k. AreAlong (path_at t k) z.table) (sym place) (subst (λ ss. AreAlong ss z.table) (sym down) (subst (AreAlong ((i, b) ∷ path_at t s.place)) (sym table) along));
        replaced = subst (λ k. AreReplaced z.replaced.items (path_at t k)) (sym place)
            (subst (λ ss. AreReplaced z.replaced.items ss) (sym down) (subst (λ qs. AreReplaced qs ((i, b) ∷ path_at t s.place)) (sym entered) replaced));
      }

  -- the table names nodes that are there
  pub kept_named : (s : PathSetters) → AreKept t s → NameNodes (length t.nodes) s.table
  kept_named s h j side k l e =
      setter_below (length t.nodes) j side k (path_at t s.place) (path_below (branch_at t) (downwards t tree) (length t.nodes) s.place s.place h.there) (sym (h.setters j side l) ∙ e)
