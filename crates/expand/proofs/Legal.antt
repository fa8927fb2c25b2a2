-- The proofs that verdicts on a box give are legal.
use Rattle.std.specs.Prelude.{◌≡◌, ◌<◌, ◌≤◌, ℕ, ℤ, pos, negsuc, ◌≤ℤ◌, true, false, List, [], ◌∷◌, All, length, Option, Some, None, slice_get, refl}
use Rattle.std.proofs.Common.{sym, ap, ◌∙◌, subst, inl, arith}
use Rattle.std.proofs.lemmas.Int.{ints}
use Rattle.std.proofs.lemmas.Bool.{false≢true}
use Rattle.std.proofs.lemmas.List.Elements.{All-nil, All-cons, All-head, All-tail, All-get_or}
use Rattle.std.proofs.lemmas.Option.{slice_get_within, get_or_from_slice_get}
use Rattle.fraction.specs.Rational.{ℚ, whole, ◌≤ℚ◌}
use Rattle.fraction.specs.Order.{◌<ℚ◌}
use Rattle.fraction.specs.Lemmas.Rational.{≤ℚ_trans}
use Rattle.problem_box.specs.declared.span.Span.{Span}
use Rattle.problem_box.specs.Boxes.{IsInBox}
use Rattle.problem_box.specs.Changes.{IsFirstEmpty, IsFixed}
use Rattle.problem.specs.declared.row.Sense.TheVariants.{G}
use Rattle.problem.specs.declared.row.Row.{Row}
use Rattle.problem.specs.Problem.{Problem}
use Rattle.problem.specs.Limited.{IsModestSpan, IsLimited, IsLimitedRow}
use Rattle.problem.specs.Limits.{most_columns}
use Rattle.row_activity.specs.declared.verdict.Sign.{Sign}
use Rattle.row_activity.specs.declared.verdict.Sign.TheVariants.{Plus, Minus}
use Rattle.row_activity.specs.declared.verdict.Verdict.{Verdict}
use Rattle.row_activity.specs.declared.verdict.Verdict.TheVariants.{Empty, Refuted, Priced, Point as OnePoint, Unsettled}
use Rattle.row_activity.specs.Activity.{low_of, IsNonempty}
use Rattle.row_activity.specs.Verdicts.{first_empty, first_of_all, refuted_from, reaches, is_fixed, verdict}
use Rattle.row_activity.specs.Meaning.{IsRefuted, IsOnePoint, Tells}
use Rattle.row_activity.specs.Lemmas.Extremes.{low_of-≤ℚ}
use Rattle.row_activity.specs.Lemmas.Laws.{first_empty_tells, verdict_tells}
use Rattle.cert_rows.specs.Lines.{row_at}
use Rattle.cert_rows.specs.Combination.{HasRightSign}
use Rattle.node_events.specs.declared.proof.Proof.{Proof}
use Rattle.node_events.specs.declared.proof.Proof.TheVariants.{Empty as Crossed, Refute, Bound}
use Rattle.derivation_book.specs.declared.cut.Cut.{Cut}
use Rattle.derivation_book.specs.Known.{known_lines}
use Rattle.derivation_book.specs.Price.{price}
use Rattle.derivation_book.specs.Legal.{NamesRowOrCut, is_legal_proof, reaches as is_reached}
use Rattle.derivation_book.specs.Lemmas.Deciding.{decides-at_most, decides-legal}
use Rattle.derivation_book.specs.Lemmas.Exact.{price_exact}
use Rattle.expand.specs.Verdicts.{multiplier, corner, verdict_proof}
use Rattle.expand.proofs.Prices.{row_is, row_combined, row_above, bare_price}
use Rattle.expand.proofs.Fitting.{limited_modest, bare_price_there, row_price_there}
use Rattle.problem.specs.Directions.{aim_at, aim}
use Rattle.problem.specs.Lemmas.Directions.{limited_aim}

-- ---- fixed boxes
pub corner_inside : (ss : List Span) → IsFixed ss → IsInBox ss (corner ss)
corner_inside [] h = tt
corner_inside (s ∷ ss) h =
    let e : s.lo ≡ s.hi = All-head (λ (s : Span). s.lo ≡ s.hi) s ss h in
    ((omega (arith, ints), omega (arith, ints, e)), corner_inside ss (All-tail (λ (s : Span). s.lo ≡ s.hi) s ss h))

pub corner_is : (p : Problem) (box : List Span) (c : Option ℚ) (h : IsOnePoint p box c) → corner box ≡ h.point
corner_is p box c h = h.only (corner box) (corner_inside box h.fixed)

-- the corner is the only point of a fixed box
only_corner : (ss : List Span) (x : List ℤ) → IsFixed ss → IsInBox ss x → x ≡ corner ss
only_corner [] [] h b = refl
only_corner [] (y ∷ x) h b = absurd b
only_corner (s ∷ ss) [] h b = absurd b
only_corner (s ∷ ss) (y ∷ x) h b =
    let e : s.lo ≡ s.hi = All-head (λ (s : Span). s.lo ≡ s.hi) s ss h in
    let here : y ≡ s.lo = same s.lo y s.hi b.0.0 b.0.1 e in
    λ i. here i ∷ only_corner ss x (All-tail (λ (s : Span). s.lo ≡ s.hi) s ss h) b.1 i
  where
    same : (lo z hi : ℤ) → lo ≤ℤ z → z ≤ℤ hi → lo ≡ hi → z ≡ lo
    same lo z hi h k e = omega (arith, ints, h, k, e)

fixed_nonempty : (ss : List Span) → IsFixed ss → IsNonempty ss
fixed_nonempty ss h = λ k d l. let e = h k d l in omega (arith, ints, e)

-- a box that isn't found empty has a number in each column
nonempty : (p : Problem) (box : List Span) (c : Option ℚ) → ((j : ℕ) → verdict p box c ≡ Empty j → ⊥) → IsNonempty box
nonempty p box c n = by_first (first_empty box) refl
  where
    by_first : (o : Option ℕ) → first_empty box ≡ o → IsNonempty box
    by_first (Some j) e = absurd (n j (ap (λ o. first_of_all o (refuted_from 0 box p.rows) (reaches (low_of box (aim p)) c) (is_fixed box)) e))
    by_first None e = first_empty_tells box None e

-- ---- proofs
module _ (p : Problem) (cs : List Cut) (box : List Span) (limits : IsLimited p) (columns : length box ≡ length p.spans) (modest : All IsModestSpan box) where
  few : length box ≤ most_columns
  few = omega (arith, columns, limits.few_columns)

  crossed_legal : (cutoff : Option ℚ) (j : ℕ) → IsFirstEmpty box j → is_legal_proof p cs box cutoff (Crossed j) ≡ true
  crossed_legal cutoff j h = (decides-legal p cs box cutoff (Crossed j)).1 (record { span = h.span; there = h.there; crossed = h.empty })

  row_limited : (i : ℕ) (r : Row) → slice_get p.rows i ≡ Some r → IsLimitedRow (length p.spans) (row_at (known_lines p cs) i)
  row_limited i r e =
      let here = subst (IsLimitedRow (length p.spans)) (get_or_from_slice_get p.rows i r r e) (All-get_or (IsLimitedRow (length p.spans)) p.rows i r (slice_get_within p.rows i r e) limits.rows) in
      subst (IsLimitedRow (length p.spans)) (sym (row_is p cs i r e)) here

  signed_price : (i : ℕ) (r : Row) (s : Sign) → slice_get p.rows i ≡ Some r → (v : ℚ) × (price p cs box [] ((i, multiplier s) ∷ []) ≡ Some v)
  signed_price i r Plus e = row_price_there p cs box i (pos 1) (length p.spans) (omega (arith, ints)) few modest (row_limited i r e)
  signed_price i r Minus e = row_price_there p cs box i (negsuc 0) (length p.spans) (omega (arith, ints)) few modest (row_limited i r e)

  refuted_legal : (cutoff : Option ℚ) (i : ℕ) (s : Sign) → IsNonempty box → IsRefuted p box i s → is_legal_proof p cs box cutoff (Refute ((i, multiplier s) ∷ [])) ≡ true
  refuted_legal cutoff i s n h =
      let mult : List (ℕ × ℚ) = (i, multiplier s) ∷ [] in
      let priced = signed_price i h.row s h.there in
      let names = All-cons (λ (m : ℕ × ℚ). NamesRowOrCut p m.0) (i, multiplier s) [] (inl (slice_get_within p.rows i h.row h.there)) (All-nil (λ (m : ℕ × ℚ). NamesRowOrCut p m.0)) in
      (decides-legal p cs box cutoff (Refute mult)).1 (record {
        multipliers = record { names = names; combined = row_combined p cs i h.row h.there s box h.missed };
        value = priced.0;
        priced = priced.1;
        above = subst (λ v. whole (pos 0) <ℚ v) (sym (price_exact p cs box [] mult priced.0 columns priced.1)) (row_above p cs i h.row s box h.there n h.missed);
      })

  bounded_legal : (z : ℚ) (cutoff : Option ℚ) → cutoff ≡ Some z → IsNonempty box → ((x : List ℤ) → IsInBox box x → z ≤ℚ aim_at p x) → is_legal_proof p cs box cutoff (Bound [] false) ≡ true
  bounded_legal z cutoff e n least =
      let ls = known_lines p cs in
      let priced = bare_price_there p cs box (aim p) few modest (limited_modest (length p.spans) (aim p) (limited_aim p limits)) in
      let at = bare_price ls (aim p) box n in
      (decides-legal p cs box cutoff (Bound [] false)).1 (record {
        multipliers = record {
          names = All-nil (λ (m : ℕ × ℚ). NamesRowOrCut p m.0);
          combined = record { earlier = All-nil (λ (m : ℕ × ℚ). m.0 < length ls); signs = All-nil (λ (m : ℕ × ℚ). HasRightSign G (row_at ls m.0).sense m.1) };
        };
        whole_objective = λ q. absurd (false≢true q);
        limit = z;
        limited = e;
        value = priced.0;
        priced = priced.1;
        reached = subst (λ v. z ≤ℚ v) (sym (price_exact p cs box (aim p) [] priced.0 columns priced.1 ∙ at.2)) (least at.0 at.1);
      })

  -- the proof of a verdict
  abbrev IsLegal : Option ℚ → Option Proof → Type 0
  IsLegal cutoff None = Unit {0}
  IsLegal cutoff (Some proof) = is_legal_proof p cs box cutoff proof ≡ true

  verdict_legal : (cutoff : Option ℚ) (v : Verdict) → verdict p box cutoff ≡ v → Tells p box cutoff v → IsLegal cutoff (verdict_proof v)
  verdict_legal cutoff (Empty j) e t = crossed_legal cutoff j t.0
  verdict_legal cutoff (Refuted i s) e t = refuted_legal cutoff i s (nonempty p box cutoff (λ j f. let bad : Refuted i s ≡ Empty j = sym e ∙ f in cc)) t
  verdict_legal cutoff Priced e t = bounded_legal t.bound cutoff t.given (nonempty p box cutoff (λ j f. let bad : Priced ≡ Empty j = sym e ∙ f in cc)) t.least
  verdict_legal cutoff OnePoint e t = tt
  verdict_legal cutoff Unsettled e t = tt

  pub by_verdict : (cutoff : Option ℚ) (proof : Proof) → verdict_proof (verdict p box cutoff) ≡ Some proof → is_legal_proof p cs box cutoff proof ≡ true
  by_verdict cutoff proof e = subst (IsLegal cutoff) e (verdict_legal cutoff (verdict p box cutoff) refl (verdict_tells p box cutoff))

  -- a box of one point is closed where the aim there is at least the cutoff
  pub corner_closes : (x : List ℤ) (z : ℚ) → IsFixed box → corner box ≡ x → z ≤ℚ aim_at p x → is_legal_proof p cs box (Some z) (Bound [] false) ≡ true
  corner_closes x z fixed e l =
      bounded_legal z (Some z) refl (fixed_nonempty box fixed) (λ y b. subst (λ w. z ≤ℚ aim_at p w) (sym (only_corner box y fixed b ∙ e)) l)

  -- and a box whose least aim is
  pub low_closes : (cutoff : Option ℚ) → IsNonempty box → is_reached cutoff false (Some (low_of box (aim p))) ≡ true → is_legal_proof p cs box cutoff (Bound [] false) ≡ true
  low_closes None n e = cc
  low_closes (Some z) n e =
      let l = (decides-at_most z (low_of box (aim p))).0 e in
      bounded_legal z (Some z) refl n (λ y b. ≤ℚ_trans _ _ _ l (low_of-≤ℚ box (aim p) y b))
