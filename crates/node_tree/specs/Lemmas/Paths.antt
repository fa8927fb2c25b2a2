-- Lemmas: the branches on the way to a node.
use Rattle.std.specs.Prelude.{◌≡◌, ◌<◌, ◌≤◌, ℕ, zero, suc, [], ◌∷◌, Option, Some, None, refl}
use Rattle.std.proofs.Common.{sym, ap, ◌∙◌, arith}
use Rattle.node_tree.specs.declared.branch.Branch.{Branch}
use Rattle.node_tree.specs.Paths.{path_of}

-- ---- one step up
module _ (f : ℕ → Option Branch) where
  pub path_end : (n i : ℕ) → f i ≡ None → path_of f n i ≡ []
  path_end zero i e = refl
  path_end (suc n) i e = rw e

  pub path_up : (n i : ℕ) (b : Branch) → f i ≡ Some b → path_of f (suc n) i ≡ (i, b) ∷ path_of f n b.parent
  path_up n i b e = rw e

-- ---- branches that come from smaller numbers
module _ (f : ℕ → Option Branch) (down : (i : ℕ) (b : Branch) → f i ≡ Some b → b.parent < i) where
  path_at_zero : (m i : ℕ) → i ≤ 0 → path_of f m i ≡ []
  path_at_zero m i h = step (f i) refl
    where
      step : (o : Option Branch) → f i ≡ o → path_of f m i ≡ []
      step None e = path_end f m i e
      step (Some b) e = absurd (omega (arith, down i b e, h))

  -- more steps than the number add nothing
  path_enough : (n m i : ℕ) → i ≤ n → i ≤ m → path_of f n i ≡ path_of f m i
  path_enough zero m i h k = path_at_zero zero i h ∙ sym (path_at_zero m i h)
  path_enough (suc n) zero i h k = path_at_zero (suc n) i k
  path_enough (suc n) (suc m) i h k = step (path_enough n m) (f i) refl
    where
      step : ((j : ℕ) → j ≤ n → j ≤ m → path_of f n j ≡ path_of f m j) → (o : Option Branch) → f i ≡ o → path_of f (suc n) i ≡ path_of f (suc m) i
      step ih None e = path_end f (suc n) i e ∙ sym (path_end f (suc m) i e)
      step ih (Some b) e =
          let l = down i b e in
          path_up f n i b e ∙ ap (λ ss. (i, b) ∷ ss) (ih b.parent (omega (arith, l)) (omega (arith, l))) ∙ sym (path_up f m i b e)

  -- the path of a node is its branch before its parent's path
  pub path_child : (k : ℕ) (b : Branch) → f k ≡ Some b → path_of f k k ≡ (k, b) ∷ path_of f b.parent b.parent
  path_child zero b e = absurd (omega (arith, down zero b e))
  path_child (suc k) b e =
      let l = down (suc k) b e in
      path_up f k (suc k) b e ∙ ap (λ ss. (suc k, b) ∷ ss) (path_enough k b.parent b.parent (omega (arith, l)) (omega arith))

  -- where other branches are the same below some number, so are the paths
  pub same_path : (g : ℕ → Option Branch) (limit : ℕ) → ((k : ℕ) → k < limit → g k ≡ f k) → (n i : ℕ) → i < limit → path_of g n i ≡ path_of f n i
  same_path g limit same zero i h = refl
  same_path g limit same (suc n) i h = step (same_path g limit same n) (f i) refl
    where
      step : ((j : ℕ) → j < limit → path_of g n j ≡ path_of f n j) → (o : Option Branch) → f i ≡ o → path_of g (suc n) i ≡ path_of f (suc n) i
      step ih None e = path_end g (suc n) i (same i h ∙ e) ∙ sym (path_end f (suc n) i e)
      step ih (Some b) e =
          path_up g n i b (same i h ∙ e) ∙ ap (λ ss. (i, b) ∷ ss) (ih b.parent (omega (arith, h, down i b e))) ∙ sym (path_up f n i b e)
