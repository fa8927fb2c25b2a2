-- The lines of closed nodes follow, and assume no more than the path to the node.
use Rattle.std.specs.Prelude.{◌≡◌, ◌<◌, ◌+◌, ℕ, ℤ, pos, negsuc, ◌+ℤ◌, ◌*ℤ◌, ◌<ℤ◌, int_lt, nat_lt, eqb, Bool, true, false, cond, List, [], ◌∷◌, ◌++◌, length, All, Option, Some, None, refl}
use Rattle.std.specs.List.{Contains}
use Rattle.std.specs.Ordering.{int_eq}
use Rattle.std.proofs.Common.{sym, ap, ◌∙◌, subst, inl, inr, arith}
use Rattle.std.proofs.lemmas.Int.{ints}
use Rattle.std.proofs.lemmas.List.Elements.{All-nil, All-cons, All-head, All-tail, All-weaker}
use Rattle.fraction.specs.Gcd.{gcd, gcd_within}
use Rattle.fraction.specs.Rational.{ℚ, whole, frac, ◌+ℚ◌, ◌*ℚ◌}
use Rattle.fraction.specs.Lemmas.Rational.{≤ℚ_refl, +ℚ_comm, one-*ℚ}
use Rattle.fraction.specs.Order.{◌<ℚ◌}
use Rattle.fraction.specs.Lemmas.Order.{either_order, whole-≤ℚ, ≤ℚ-whole}
use Rattle.fraction.specs.Lemmas.Bounds.{whole_parts}
use Rattle.problem.specs.declared.row.Sense.TheVariants.{G}
use Rattle.problem.specs.declared.row.Row.{Row}
use Rattle.problem.specs.declared.objective_sense.ObjectiveSense.{ObjectiveSense}
use Rattle.problem.specs.declared.objective_sense.ObjectiveSense.TheVariants.{Minimise, Maximise}
use Rattle.problem.specs.Linear.{coefficient, at_column, scaled}
use Rattle.fraction.specs.Lemmas.Ring.{+ℚ-zero}
use Rattle.problem.specs.Problem.{Problem}
use Rattle.problem.specs.Limited.{IsLimited}
use Rattle.cert_rows.specs.Lines.{CertLine, row_at, assumed_by}
use Rattle.cert_rows.specs.Combination.{HasRightSign, combination, combined_terms, combined_rhs}
use Rattle.cert_rows.specs.Domination.{IsAsTight, Dominates}
use Rattle.cert_rows.specs.Assumptions.{assumed_by_all}
use Rattle.cert_rows.specs.Validity.{IsCombination, IsLinear, bound_sense}
use Rattle.node_tree.specs.declared.branch.Side.TheVariants.{Low, High}
use Rattle.node_tree.specs.Paths.{path_at}
use Rattle.node_tree.specs.Trees.{IsTree}
use Rattle.node_tree.specs.Lemmas.Boxes.{length-box}
use Rattle.derivation_book.specs.Known.{known_lines}
use Rattle.derivation_book.specs.Price.{reduced_cost, bounds_price, exact_price}
use Rattle.derivation_book.specs.Cuts.{AreCutsOf}
use Rattle.event_core.specs.States.{State, tree_of, box_of}
use Rattle.cert_merge.specs.Closing.{BoundSource, AreBelow, bound_multipliers, placed, all_placed}
use Rattle.cert_merge.specs.Numbers.{sources_of}
use Rattle.cert_merge.specs.Merged.{node_multipliers, absurd_row, goal_row}
use Rattle.cert_merge.specs.Laws.{Closes}
use Rattle.cert_merge.specs.Lemmas.Closings.{all_hold}
use Rattle.cert_merge.specs.Lemmas.Filling.{All-placed, All-all_placed, closes}
use Rattle.cert_merge.specs.Lemmas.LongerLines.{same_terms, same_rhs, still_combined}
use Rattle.cert_tree.proofs.Base.{combined_over}
use Rattle.cert_tree.proofs.Assumed.{AreLines}
use Rattle.cert_tree.proofs.Paths.{path_lines}
use Rattle.cert_tree.proofs.Sources.{IsStated, begins, base_assumes, are_sources, sources_within}
use Rattle.fraction.specs.Whole.{IsWhole}
use Rattle.fraction.specs.Lemmas.Whole.{integer_from_whole, whole-+, whole-*}

-- ---- what holds of the lines of multipliers
All-bound_multipliers : (P : ℕ → Type 0) (r : ℕ → ℚ) (j : ℕ) (os : List BoundSource) → All (λ o. P o.lower × P o.upper) os → All (λ m. P m.0) (bound_multipliers r j os)
All-bound_multipliers P r j [] h = All-nil (λ (m : ℕ × ℚ). P m.0)
All-bound_multipliers P r j (o ∷ os) h =
    step (int_eq (r j).num (pos 0)) (int_lt (pos 0) (r j).num) (All-head (λ (o : BoundSource). P o.lower × P o.upper) o os h) (All-bound_multipliers P r (j + 1) os (All-tail (λ (o : BoundSource). P o.lower × P o.upper) o os h))
  where
    step : (b c : Bool) → P o.lower × P o.upper → All (λ (m : ℕ × ℚ). P m.0) (bound_multipliers r (j + 1) os)
        → All (λ (m : ℕ × ℚ). P m.0) (cond b (bound_multipliers r (j + 1) os) ((cond c o.lower o.upper, r j) ∷ bound_multipliers r (j + 1) os))
    step true c q ih = ih
    step false true q ih = All-cons (λ (m : ℕ × ℚ). P m.0) (o.lower, r j) (bound_multipliers r (j + 1) os) q.0 ih
    step false false q ih = All-cons (λ (m : ℕ × ℚ). P m.0) (o.upper, r j) (bound_multipliers r (j + 1) os) q.1 ih

-- ---- numbers
pub positive : (z : ℤ) → pos 0 <ℤ z → whole (pos 0) <ℚ whole z
positive z h = elim (either_order (whole z) (whole (pos 0))) [
  | inl l ↦ absurd (let k = ≤ℚ-whole z (pos 0) l in omega (arith, ints))
  | inr l ↦ l
]

whole_sum : (x y : ℚ) → IsWhole x → IsWhole y → IsWhole (x +ℚ y)
whole_sum x y h k =
    let a = integer_from_whole x h in
    let b = integer_from_whole y k in
    subst IsWhole (sym ((λ i. a.1 i +ℚ b.1 i) ∙ whole-+ a.0 b.0)) (whole_parts (a.0 *ℤ pos 1 +ℤ b.0 *ℤ pos 1)).1

whole_column : (k j : ℕ) (a : ℚ) → IsWhole a → IsWhole (at_column k a j)
whole_column k j a h = step (eqb k j)
  where
    step : (b : Bool) → IsWhole (cond b a (whole (pos 0)))
    step true = h
    step false = (whole_parts (pos 0)).1

-- terms with whole numbers have whole coefficients
pub whole_coefficients : (ts : List (ℕ × ℚ)) → All (λ t. IsWhole t.1) ts → (j : ℕ) → IsWhole (coefficient ts j)
whole_coefficients [] h j = (whole_parts (pos 0)).1
whole_coefficients (t ∷ ts) h j =
    whole_sum (at_column t.0 t.1 j) (coefficient ts j) (whole_column t.0 j t.1 (All-head (λ (t : ℕ × ℚ). IsWhole t.1) t ts h))
    (whole_coefficients ts (All-tail (λ (t : ℕ × ℚ). IsWhole t.1) t ts h) j)

-- ---- goals
pub absurd_dominates : (r : Row) → Dominates absurd_row r
absurd_dominates r = inl (record { no_terms = λ j. refl; excludes = positive (pos 1) (omega (arith, ints)) })

tight_itself : (s : ObjectiveSense) (v : ℚ) → IsAsTight (bound_sense s) v v
tight_itself Minimise v = ≤ℚ_refl v
tight_itself Maximise v = ≤ℚ_refl v

pub goal_itself : (p : Problem) (o : Option ℚ) → Dominates (goal_row p o) (goal_row p o)
goal_itself p (Some x) = inr (record { sense = refl; terms = λ j. refl; rhs = tight_itself p.sense x })
goal_itself p None = absurd_dominates absurd_row

-- ---- bounds that cross
cancels : (j k : ℕ) → at_column j (whole (pos 1) *ℚ whole (pos 1)) k +ℚ (at_column j (whole (negsuc 0) *ℚ whole (pos 1)) k +ℚ whole (pos 0)) ≡ whole (pos 0)
unfolding frac gcd gcd_within ◌+ℚ◌ ◌*ℚ◌
cancels j k = step (eqb j k)
  where
    step : (b : Bool) → cond b (whole (pos 1) *ℚ whole (pos 1)) (whole (pos 0)) +ℚ (cond b (whole (negsuc 0) *ℚ whole (pos 1)) (whole (pos 0)) +ℚ whole (pos 0)) ≡ whole (pos 0)
    step true = refl
    step false = refl

cancels_back : (j k : ℕ) → at_column j (whole (negsuc 0) *ℚ whole (pos 1)) k +ℚ (at_column j (whole (pos 1) *ℚ whole (pos 1)) k +ℚ whole (pos 0)) ≡ whole (pos 0)
unfolding frac gcd gcd_within ◌+ℚ◌ ◌*ℚ◌
cancels_back j k = step (eqb j k)
  where
    step : (b : Bool) → cond b (whole (negsuc 0) *ℚ whole (pos 1)) (whole (pos 0)) +ℚ (cond b (whole (pos 1) *ℚ whole (pos 1)) (whole (pos 0)) +ℚ whole (pos 0)) ≡ whole (pos 0)
    step true = refl
    step false = refl

-- lower less upper
gap : (lo hi : ℤ) → hi <ℤ lo → whole (pos 0) <ℚ (whole (pos 1) *ℚ whole lo +ℚ (whole (negsuc 0) *ℚ whole hi +ℚ whole (pos 0)))
gap lo hi h =
    let e : whole (pos 1) *ℚ whole lo +ℚ (whole (negsuc 0) *ℚ whole hi +ℚ whole (pos 0)) ≡ whole (lo *ℤ pos 1 +ℤ (negsuc 0 *ℤ hi) *ℤ pos 1) =
    (λ i. one-*ℚ (whole lo) i +ℚ (+ℚ-zero _ ∙ whole-* (negsuc 0) hi) i) ∙ whole-+ lo (negsuc 0 *ℤ hi) in
    subst (λ v. whole (pos 0) <ℚ v) (sym e) (positive (lo *ℤ pos 1 +ℤ (negsuc 0 *ℤ hi) *ℤ pos 1) (omega (arith, ints)))

gap_back : (lo hi : ℤ) → hi <ℤ lo → whole (pos 0) <ℚ (whole (negsuc 0) *ℚ whole hi +ℚ (whole (pos 1) *ℚ whole lo +ℚ whole (pos 0)))
gap_back lo hi h =
    subst (λ v. whole (pos 0) <ℚ v)
    (ap (λ v. whole (pos 1) *ℚ whole lo +ℚ v) (+ℚ-zero _) ∙ +ℚ_comm _ _ ∙ ap (λ v. whole (negsuc 0) *ℚ whole hi +ℚ v) (sym (+ℚ-zero _))) (gap lo hi h)

-- the lower bound's line less the upper bound's is absurd
module _ (ls : List CertLine) (path : List ℕ) (j l u : ℕ) (lo hi : ℤ) (a : IsStated ls path l Low j lo) (b : IsStated ls path u High j hi) (h : hi <ℤ lo) where
  abbrev lower_part : ℕ × ℚ
  lower_part = (l, whole (pos 1))

  abbrev upper_part : ℕ × ℚ
  upper_part = (u, whole (negsuc 0))

  sign_lower : HasRightSign G (row_at ls l).sense (whole (pos 1))
  sign_lower = subst (λ (r : Row). HasRightSign G r.sense (whole (pos 1))) (sym a.row) (whole-≤ℚ (pos 0) (pos 1) (omega (arith, ints)))

  sign_upper : HasRightSign G (row_at ls u).sense (whole (negsuc 0))
  sign_upper = subst (λ (r : Row). HasRightSign G r.sense (whole (negsuc 0))) (sym b.row) (whole-≤ℚ (negsuc 0) (pos 0) (omega (arith, ints)))

  pub crossed_linear : IsLinear ls absurd_row (placed lower_part (upper_part ∷ []))
  crossed_linear = record { combined = combined; dominates = absurd_as (nat_lt l u) }
    where
      combined : IsCombination ls G (placed lower_part (upper_part ∷ []))
      combined = record {
        earlier = All-placed (λ (m : ℕ × ℚ). m.0 < length ls) lower_part (upper_part ∷ []) a.there (All-cons (λ (m : ℕ × ℚ). m.0 < length ls) upper_part [] b.there (All-nil (λ (m : ℕ × ℚ). m.0 < length ls)));
        signs = All-placed (λ (m : ℕ × ℚ). HasRightSign G (row_at ls m.0).sense m.1) lower_part (upper_part ∷ []) sign_lower
            (All-cons (λ (m : ℕ × ℚ). HasRightSign G (row_at ls m.0).sense m.1) upper_part [] sign_upper (All-nil (λ (m : ℕ × ℚ). HasRightSign G (row_at ls m.0).sense m.1)));
      }

      absurd_as : (t : Bool) → Dominates (combination G ls (cond t (lower_part ∷ upper_part ∷ []) (upper_part ∷ lower_part ∷ []))) absurd_row
      absurd_as true = inl (record {
        no_terms = λ k. ap (λ ts. coefficient ts k) (λ i. scaled (whole (pos 1)) (a.row i).terms ++ (scaled (whole (negsuc 0)) (b.row i).terms ++ [])) ∙ cancels j k;
        excludes = subst (λ v. whole (pos 0) <ℚ v) (λ i. whole (pos 1) *ℚ (sym a.row i).rhs +ℚ (whole (negsuc 0) *ℚ (sym b.row i).rhs +ℚ whole (pos 0))) (gap lo hi h);
      })
      absurd_as false = inl (record {
        no_terms = λ k. ap (λ ts. coefficient ts k) (λ i. scaled (whole (negsuc 0)) (b.row i).terms ++ (scaled (whole (pos 1)) (a.row i).terms ++ [])) ∙ cancels_back j k;
        excludes = subst (λ v. whole (pos 0) <ℚ v) (λ i. whole (negsuc 0) *ℚ (sym b.row i).rhs +ℚ (whole (pos 1) *ℚ (sym a.row i).rhs +ℚ whole (pos 0))) (gap_back lo hi h);
      })

  pub crossed_within : All (Contains path) (assumed_by_all ls (placed lower_part (upper_part ∷ [])))
  crossed_within =
      all_hold (Contains path) ls (placed lower_part (upper_part ∷ []))
      (All-placed (λ (m : ℕ × ℚ). All (Contains path) (assumed_by ls m.0)) lower_part (upper_part ∷ []) a.within
      (All-cons (λ (m : ℕ × ℚ). All (Contains path) (assumed_by ls m.0)) upper_part [] b.within (All-nil (λ (m : ℕ × ℚ). All (Contains path) (assumed_by ls m.0)))))

-- ---- a combination that is filled up
module _ (s : State) (tree : IsTree (tree_of s)) (ls : List CertLine) (lines : AreLines s ls) (limited : IsLimited s.problem) (cuts : AreCutsOf s.problem s.cuts) where
  abbrev B : List CertLine
  B = known_lines s.problem s.cuts

  -- the target and the price, at other names of the combination's terms and right side
  Given : ℕ → List (ℕ × ℚ) → List (ℕ × ℚ) → List (ℕ × ℚ) → ℚ → Type 0
  Given i target mult ts v =
      Closes ls target (v +ℚ bounds_price (reduced_cost target ts) 0 (box_of s i)) (all_placed (bound_multipliers (reduced_cost target ts) 0 (sources_of s i)) mult)

  pub node_closes : (i : ℕ) (target mult : List (ℕ × ℚ)) → IsCombination B G mult → AreBelow (length s.problem.spans) target
      → Closes ls target (exact_price B target mult (box_of s i)) (node_multipliers s i target mult)
  unfolding Given
  node_closes i target mult c t =
      let w = begins s tree ls lines in
      let n : length s.problem.spans ≡ length (box_of s i) = sym (length-box (path_at (tree_of s) i) 0 s.problem.spans) in
      let e = same_terms B ls w mult c.earlier in
      let over : AreBelow (length s.problem.spans) (combined_terms ls mult) = subst (AreBelow (length s.problem.spans)) (sym e) (combined_over s.problem s.cuts mult limited cuts) in
      let r = closes ls target mult (box_of s i) (sources_of s i) (are_sources s tree ls lines i) (still_combined B ls w G mult c)
      (subst (λ k. AreBelow k target) n t) (subst (λ k. AreBelow k (combined_terms ls mult)) n over) in
      subst (λ ts. Given i target mult ts (combined_rhs B mult)) e (subst (Given i target mult (combined_terms ls mult)) (same_rhs B ls w mult c.earlier) r)

  pub node_within : (i : ℕ) (target mult : List (ℕ × ℚ)) → IsCombination B G mult → All (Contains (path_lines s i)) (assumed_by_all ls (node_multipliers s i target mult))
  node_within i target mult c =
      let P : ℕ → Type 0 = λ l. All (Contains (path_lines s i)) (assumed_by ls l) in
      all_hold (Contains (path_lines s i)) ls (node_multipliers s i target mult)
      (All-all_placed (λ (m : ℕ × ℚ). P m.0) (bound_multipliers (reduced_cost target (combined_terms B mult)) 0 (sources_of s i)) mult
      (All-bound_multipliers P (reduced_cost target (combined_terms B mult)) 0 (sources_of s i) (sources_within s tree ls lines i))
      (All-weaker (λ (m : ℕ × ℚ). m.0 < length B) (λ (m : ℕ × ℚ). P m.0)
      (λ m h. subst (All (Contains (path_lines s i))) (sym (base_assumes s tree ls lines m.0 h)) (All-nil (Contains (path_lines s i)))) mult c.earlier))
