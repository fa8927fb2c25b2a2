-- Lemmas: who set a bound on the way to a node, and what the bound is.
use Rattle.std.specs.Prelude.{◌≡◌, ◌⊎◌, ℕ, zero, suc, ℤ, Bool, true, false, cond, eqb, ◌&&◌, List, [], ◌∷◌, All, Option, Some, None, refl}
use Rattle.std.specs.List.{Contains}
use Rattle.std.proofs.Common.{sym, ap, ◌∙◌, subst, inl, inr, arith}
use Rattle.std.proofs.lemmas.Bool.{false≢true, eqb-true, and_parts}
use Rattle.std.proofs.lemmas.List.Elements.{All-nil, All-cons}
use Rattle.node_tree.specs.declared.branch.Side.{Side}
use Rattle.node_tree.specs.declared.branch.Side.TheVariants.{Low, High}
use Rattle.node_tree.specs.declared.branch.Branch.{Branch}
use Rattle.node_tree.specs.Nodes.{Tree, branch_at}
use Rattle.node_tree.specs.Paths.{path_of, path_at, is_same_side, setter, deepest}
use Rattle.node_tree.specs.Lemmas.Paths.{path_end, path_up}

-- the branch leads to the node
abbrev pub LeadsTo : (ℕ → Option Branch) → ℕ × Branch → Type 0
LeadsTo f e = f e.0 ≡ Some e.1

-- each branch of a path is that of its node
on_path_of : (f : ℕ → Option Branch) (n i : ℕ) → All (LeadsTo f) (path_of f n i)
on_path_of f zero i = All-nil (LeadsTo f)
on_path_of f (suc n) i = step (on_path_of f n) (f i) refl
  where
    step : ((j : ℕ) → All (LeadsTo f) (path_of f n j)) → (o : Option Branch) → f i ≡ o → All (LeadsTo f) (path_of f (suc n) i)
    step ih None e = subst (All (LeadsTo f)) (sym (path_end f (suc n) i e)) (All-nil (LeadsTo f))
    step ih (Some b) e = subst (All (LeadsTo f)) (sym (path_up f n i b e)) (All-cons (LeadsTo f) (i, b) (path_of f n b.parent) e (ih b.parent))

pub on_path : (t : Tree) (i : ℕ) → All (LeadsTo (branch_at t)) (path_at t i)
on_path t i = on_path_of (branch_at t) i i

pub same_side : (a b : Side) → is_same_side a b ≡ true → b ≡ a
same_side Low Low e = refl
same_side High High e = refl
same_side Low High e = absurd (false≢true e)
same_side High Low e = absurd (false≢true e)

-- the step of a path that set the bound
pub record IsSetter (j : ℕ) (side : Side) (root : ℤ) (ss : List (ℕ × Branch)) : Type 0 where
  pub step : ℕ × Branch
  pub on : Contains ss step
  pub set_by : setter j side ss ≡ Some step.0
  pub number : deepest j side root ss ≡ step.1.bound
  pub column : step.1.column ≡ j
  pub on_side : step.1.side ≡ side

-- no step set it
pub record IsUnset (j : ℕ) (side : Side) (root : ℤ) (ss : List (ℕ × Branch)) : Type 0 where
  pub unset : setter j side ss ≡ None
  pub number : deepest j side root ss ≡ root

set_or_not : (j : ℕ) (side : Side) (root : ℤ) (s : ℕ × Branch) (ss : List (ℕ × Branch)) → IsUnset j side root ss ⊎ IsSetter j side root ss
    → (t : Bool) → (eqb j s.1.column && is_same_side side s.1.side) ≡ t → IsUnset j side root (s ∷ ss) ⊎ IsSetter j side root (s ∷ ss)
set_or_not j side root s ss r true e =
    let both = and_parts (eqb j s.1.column) (is_same_side side s.1.side) e in
    inr (record {
      step = s;
      on = (0, omega arith, refl);
      set_by = ap (λ t. cond t (Some s.0) (setter j side ss)) e;
      number = ap (λ t. cond t s.1.bound (deepest j side root ss)) e;
      column = sym (eqb-true j s.1.column both.0);
      on_side = same_side side s.1.side both.1;
    })
set_or_not j side root s ss (inl u) false e = inl (record {
  unset = ap (λ t. cond t (Some s.0) (setter j side ss)) e ∙ u.unset;
  number = ap (λ t. cond t s.1.bound (deepest j side root ss)) e ∙ u.number;
})
set_or_not j side root s ss (inr f) false e = inr (record {
  step = f.step;
  on = (suc f.on.0, omega (arith, f.on.1), f.on.2);
  set_by = ap (λ t. cond t (Some s.0) (setter j side ss)) e ∙ f.set_by;
  number = ap (λ t. cond t s.1.bound (deepest j side root ss)) e ∙ f.number;
  column = f.column;
  on_side = f.on_side;
})

pub found : (j : ℕ) (side : Side) (root : ℤ) (ss : List (ℕ × Branch)) → IsUnset j side root ss ⊎ IsSetter j side root ss
found j side root [] = inl (record { unset = refl; number = refl })
found j side root (s ∷ ss) = set_or_not j side root s ss (found j side root ss) (eqb j s.1.column && is_same_side side s.1.side) refl
