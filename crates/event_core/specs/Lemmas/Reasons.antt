-- Lemmas: the test of reasons says what they mean.
use Rattle.std.specs.Prelude.{◌≡◌, ℕ, suc, ℤ, ◌≤ℤ◌, ◌<ℤ◌, ◌+ℤ◌, ◌+◌, int_le, Bool, true, false, not, ◌&&◌, nat_eq, nat_le, is_some, List, [], ◌∷◌, length, take, drop, All, Option, Some, None, slice_get, refl}
use Rattle.std.specs.Bool.{Decides, one_answer}
use Rattle.std.specs.List.{list_all}
use Rattle.std.specs.Option.{ForSome}
use Rattle.std.specs.Ordering.{is_le, int_eq}
use Rattle.std.proofs.Common.{sym, ap, subst, inl, inr, arith}
use Rattle.std.proofs.lemmas.Int.{ints}
use Rattle.std.proofs.lemmas.Bool.{false≢true, leb-true, le-leb}
use Rattle.std.proofs.lemmas.Bool.Decides.{Decides-like, Decides-and, Decides-not, Decides-eqb, Decides-int_eq}
use Rattle.std.proofs.lemmas.List.Elements.{All-get_or}
use Rattle.std.proofs.lemmas.List.{drop_all}
use Rattle.std.proofs.lemmas.Option.{same_Some, none-some, slice_get_within, get_or_from_slice_get}
use Rattle.fraction.specs.Rational.{ℚ, whole, floor, floor_div, ◌≤ℚ◌}
use Rattle.fraction.specs.Order.{◌<ℚ◌}
use Rattle.fraction.specs.Checked.{compare}
use Rattle.fraction.specs.Whole.{IsWhole}
use Rattle.fraction.specs.Lemmas.Order.{not_both, either_order}
use Rattle.problem_box.specs.declared.span.Span.{Span}
use Rattle.problem_box.specs.Changes.{IsFirstEmpty}
use Rattle.problem_box.specs.Lemmas.Boxes.{Decides-int_le}
use Rattle.problem.specs.declared.row.Row.{Row}
use Rattle.problem.specs.Rows.{Compares}
use Rattle.problem.specs.Problem.{Problem}
use Rattle.cert_rows.specs.Lemmas.Decider.{never, always, decides-all}
use Rattle.node_events.specs.declared.reason.Reason.{Reason}
use Rattle.node_events.specs.declared.reason.Reason.TheVariants.{Fractional, Cramped, Stalled}
use Rattle.derivation_book.specs.declared.cut.Cut.{Cut}
use Rattle.derivation_book.specs.Legal.{has_whole_objective, rounded_if, reaches}
use Rattle.derivation_book.specs.Lemmas.Deciding.{decides-at_most}
use Rattle.derivation_book.specs.Lemmas.OptionChains.{next_item}
use Rattle.dual_simplex.specs.declared.answer.Answer.{Answer}
use Rattle.dual_simplex.specs.declared.answer.Answer.TheVariants.{Infeasible, Optimal, Cramped as CrampedRun, Stalled as StalledRun}
use Rattle.dual_simplex.specs.Relaxation.{RationalPoint, rational_at, rational_value, LiesInBox, SatisfiesRow}
use Rattle.dual_simplex.specs.PointSums.{checked_sum, sums_fit}
use Rattle.dual_simplex.specs.Answers.{answer}
use Rattle.dual_simplex.specs.Lemmas.RationalValues.{sum_exact}
use Rattle.event_core.specs.Relaxed.{lies_in, lies_in_box, sum_stands, satisfies_row, is_relaxed, is_below_cutoff}
use Rattle.event_core.specs.Splits.{cuts_of, IsFractional, IsMiddle, IsGiven, IsReason, is_between, is_fractional, is_first_free, is_half, is_middle, is_cramped, is_stalled, is_given, is_reason}
use Rattle.event_core.specs.Lemmas.Points.{stands_tells}
use Rattle.event_core.specs.Lemmas.Boxes.{first_at, free_at}
use Rattle.problem.specs.Directions.{aim}

-- ---- the box
pub decides-nonempty : (box : List Span) → Decides (list_all (λ (s : Span). int_le s.lo s.hi) box) (All (λ (s : Span). s.lo ≤ℤ s.hi) box)
decides-nonempty box = decides-all (λ (s : Span). int_le s.lo s.hi) (λ (s : Span). s.lo ≤ℤ s.hi) (λ s. Decides-int_le s.lo s.hi) box

decides-lies_in : (s : Span) (x : ℚ) → Decides (lies_in s x) ((whole s.lo ≤ℚ x) × (x ≤ℚ whole s.hi))
decides-lies_in s x = Decides-and (is_le (compare (whole s.lo) x)) (is_le (compare x (whole s.hi))) (decides-at_most (whole s.lo) x) (decides-at_most x (whole s.hi))

pub decides-in_box : (ss : List Span) (x : RationalPoint) → Decides (lies_in_box ss x) (LiesInBox ss x)
decides-in_box [] [] = always tt
decides-in_box [] (x ∷ xs) = never (λ h. h)
decides-in_box (s ∷ ss) [] = never (λ h. h)
decides-in_box (s ∷ ss) (x ∷ xs) =
    Decides-like _ (λ h. (h.0.0, h.0.1, h.1)) (λ h. ((h.0, h.1), h.2)) (Decides-and (lies_in s x) (lies_in_box ss xs) (decides-lies_in s x) (decides-in_box ss xs))

pub empty_fails : (box : List Span) (j : ℕ) → IsFirstEmpty box j → false ≡ list_all (λ (s : Span). int_le s.lo s.hi) box
empty_fails box j h = one_answer false (list_all (λ (s : Span). int_le s.lo s.hi) box) (never clash) (decides-nonempty box)
  where
    crossed : (s : Span) → s.hi <ℤ s.lo → s.lo ≤ℤ s.hi → ⊥
    crossed s e f = omega (arith, ints, e, f)

    clash : All (λ (s : Span). s.lo ≤ℤ s.hi) box → ⊥
    clash a =
        crossed h.span h.empty
        (subst (λ (s : Span). s.lo ≤ℤ s.hi) (get_or_from_slice_get box j h.span h.span h.there)
        (All-get_or (λ (s : Span). s.lo ≤ℤ s.hi) box j h.span (slice_get_within box j h.span h.there) a))

pub nonempty_passes : (box : List Span) → All (λ (s : Span). s.lo ≤ℤ s.hi) box → true ≡ list_all (λ (s : Span). int_le s.lo s.hi) box
nonempty_passes box h = sym ((decides-nonempty box).1 h)

-- ---- the box, column by column
pub box_from : (ss : List Span) (xs : RationalPoint) (i : ℕ) (s : Span) (x : ℚ) → slice_get ss i ≡ Some s → slice_get xs i ≡ Some x
    → lies_in_box (drop i ss) (drop i xs) ≡ (lies_in s x && lies_in_box (drop (i + 1) ss) (drop (i + 1) xs))
box_from ss xs i s x e f =
    let a = next_item ss i s (slice_get_within ss i s e) (sym (get_or_from_slice_get ss i s s e)) in
    let b = next_item xs i x (slice_get_within xs i x f) (sym (get_or_from_slice_get xs i x x f)) in
    λ k. lies_in_box (a k) (b k)

pub other_length : (ss : List Span) (xs : RationalPoint) → (length ss ≡ length xs → ⊥) → false ≡ lies_in_box ss xs
other_length [] [] n = absurd (n refl)
other_length [] (x ∷ xs) n = refl
other_length (s ∷ ss) [] n = refl
other_length (s ∷ ss) (x ∷ xs) n = sym (by_rest (lies_in s x) (lies_in_box ss xs) (other_length ss xs (λ e. n (ap suc e))))
  where
    by_rest : (a b : Bool) → false ≡ b → (a && b) ≡ false
    by_rest true b e = sym e
    by_rest false b e = refl

pub past_all : (ss : List Span) (xs : RationalPoint) (n : ℕ) → n ≡ length ss → length ss ≡ length xs → lies_in_box (drop n ss) (drop n xs) ≡ true
past_all ss xs n e f =
    let a : drop n ss ≡ [] = drop_all n ss (omega (arith, e)) in
    let b : drop n xs ≡ [] = drop_all n xs (omega (arith, e, f)) in
    λ k. lies_in_box (a k) (b k)

-- ---- rows
-- the row's sum is there, and the point satisfies it
abbrev IsMet : RationalPoint → Row → Type 0
IsMet x r = (is_some (checked_sum r.terms x) ≡ true) × SatisfiesRow x r

decides-sum : (x : RationalPoint) (r : Row) (o : Option ℚ) → checked_sum r.terms x ≡ o → Decides (sum_stands r o) ((is_some o ≡ true) × SatisfiesRow x r)
decides-sum x r None e = never (λ h. absurd (false≢true h.0))
decides-sum x r (Some v) e =
    let exact : v ≡ rational_value r.terms x = sum_exact r.terms x v e in
    Decides-like _ (λ h. (refl, subst (Compares r.sense r.rhs) exact h)) (λ h. subst (Compares r.sense r.rhs) (sym exact) h.1) (stands_tells r.sense v r.rhs (compare v r.rhs) refl)

decides-row : (x : RationalPoint) (r : Row) → Decides (satisfies_row x r) (IsMet x r)
decides-row x r = decides-sum x r (checked_sum r.terms x) refl

abbrev AreMet : Problem → List Cut → List Span → RationalPoint → Type 0
AreMet p cs box x = (LiesInBox box x × All (λ (r : Row). IsMet x r) p.rows) × All (λ (c : Cut). IsMet x c.row) cs

decides-relaxed : (p : Problem) (cs : List Cut) (box : List Span) (x : RationalPoint) → Decides (is_relaxed p cs box x) (AreMet p cs box x)
decides-relaxed p cs box x =
    let rows = decides-all (λ (r : Row). satisfies_row x r) (λ (r : Row). IsMet x r) (decides-row x) p.rows in
    let cuts = decides-all (λ (c : Cut). satisfies_row x c.row) (λ (c : Cut). IsMet x c.row) (λ c. decides-row x c.row) cs in
    Decides-and (lies_in_box box x && list_all (λ (r : Row). satisfies_row x r) p.rows) (list_all (λ (c : Cut). satisfies_row x c.row) cs)
    (Decides-and (lies_in_box box x) (list_all (λ (r : Row). satisfies_row x r) p.rows) (decides-in_box box x) rows) cuts

-- ---- the objective
decides-below : (p : Problem) (cutoff : Option ℚ) (v : ℚ)
    → Decides (not (reaches cutoff (has_whole_objective p) (Some v))) (ForSome cutoff (λ z. rounded_if (has_whole_objective p) v <ℚ z))
decides-below p None v = always (λ z e. absurd (none-some z e))
decides-below p (Some z) v =
    let b = rounded_if (has_whole_objective p) v in
    Decides-like _ (λ n w e. subst (λ y. b <ℚ y) (same_Some z w e) (elim (either_order z b) [ inl l ↦ absurd (n l) | inr l ↦ l ])) (λ h l. not_both z b l (h z refl))
    (Decides-not (is_le (compare z b)) (decides-at_most z b))

decides-objective : (p : Problem) (cutoff : Option ℚ) (x : RationalPoint) (o : Option ℚ) → checked_sum (aim p) x ≡ o
    → Decides (is_below_cutoff p cutoff o) ((is_some o ≡ true) × ForSome cutoff (λ z. rounded_if (has_whole_objective p) (rational_value (aim p) x) <ℚ z))
decides-objective p cutoff x None e = never (λ h. absurd (false≢true h.0))
decides-objective p cutoff x (Some v) e =
    let exact : v ≡ rational_value (aim p) x = sum_exact (aim p) x v e in
    let P : ℚ → Type 0 = λ w. ForSome cutoff (λ z. rounded_if (has_whole_objective p) w <ℚ z) in
    Decides-like _ (λ h. (refl, subst P exact h)) (λ h. subst P (sym exact) h.1) (decides-below p cutoff v)

-- ---- the sums
decides-some : (o : Option ℚ) → Decides (is_some o) (is_some o ≡ true)
decides-some o = (λ e. e, λ e. e)

abbrev AreThere : Problem → List Cut → RationalPoint → Type 0
AreThere p cs x =
    ((is_some (checked_sum (aim p) x) ≡ true) × All (λ (r : Row). is_some (checked_sum r.terms x) ≡ true) p.rows) × All (λ (c : Cut). is_some (checked_sum c.row.terms x) ≡ true) cs

decides-sums : (p : Problem) (cs : List Cut) (x : RationalPoint) → Decides (sums_fit p cs x) (AreThere p cs x)
decides-sums p cs x =
    let rows = decides-all (λ (r : Row). is_some (checked_sum r.terms x)) (λ (r : Row). is_some (checked_sum r.terms x) ≡ true) (λ r. decides-some (checked_sum r.terms x)) p.rows in
    let cuts = decides-all (λ (c : Cut). is_some (checked_sum c.row.terms x)) (λ (c : Cut). is_some (checked_sum c.row.terms x) ≡ true) (λ c. decides-some (checked_sum c.row.terms x)) cs in
    Decides-and (is_some (checked_sum (aim p) x) && list_all (λ (r : Row). is_some (checked_sum r.terms x)) p.rows) (list_all (λ (c : Cut). is_some (checked_sum c.row.terms x)) cs)
    (Decides-and (is_some (checked_sum (aim p) x)) (list_all (λ (r : Row). is_some (checked_sum r.terms x)) p.rows) (decides-some (checked_sum (aim p) x)) rows) cuts

-- ---- fractional points
decides-between : (x : ℚ) (b : ℤ) → Decides (is_between x b) ((IsWhole x → ⊥) × (floor x ≡ b))
decides-between x b = Decides-and (not (nat_eq x.den 1)) (int_eq (floor x) b) (Decides-not (nat_eq x.den 1) (Decides-eqb x.den 1)) (Decides-int_eq (floor x) b)

abbrev AreTests : Problem → List Cut → List Span → Option ℚ → ℕ → ℤ → RationalPoint → Type 0
AreTests p cs box cutoff j b x =
    (((IsWhole (rational_at x j) → ⊥) × (floor (rational_at x j) ≡ b)) × AreMet p cs box x)
    × ((is_some (checked_sum (aim p) x) ≡ true) × ForSome cutoff (λ z. rounded_if (has_whole_objective p) (rational_value (aim p) x) <ℚ z))

pub decides-fractional : (p : Problem) (cs : List Cut) (box : List Span) (cutoff : Option ℚ) (j : ℕ) (b : ℤ) (x : RationalPoint)
    → Decides (is_fractional p cs box cutoff j b x) (IsFractional p cs box cutoff j b x)
decides-fractional p cs box cutoff j b x =
    Decides-like _ forth back
    (Decides-and (is_between (rational_at x j) b && is_relaxed p cs box x) (is_below_cutoff p cutoff (checked_sum (aim p) x))
    (Decides-and (is_between (rational_at x j) b) (is_relaxed p cs box x) (decides-between (rational_at x j) b) (decides-relaxed p cs box x))
    (decides-objective p cutoff x (checked_sum (aim p) x) refl))
  where
    forth : AreTests p cs box cutoff j b x → IsFractional p cs box cutoff j b x
    forth h = record {
      relaxed = record { in_box = h.0.1.0.0; rows = λ k d l. (h.0.1.0.1 k d l).1; cuts = λ k d l. (h.0.1.1 k d l).1 };
      sums = (decides-sums p cs x).1 ((h.1.0, λ k d l. (h.0.1.0.1 k d l).0), λ k d l. (h.0.1.1 k d l).0);
      below = h.1.1;
      not_whole = h.0.0.0;
      bound = h.0.0.1;
    }

    back : IsFractional p cs box cutoff j b x → AreTests p cs box cutoff j b x
    back h =
        let s = (decides-sums p cs x).0 h.sums in
        (((h.not_whole, h.bound), ((h.relaxed.in_box, λ k d l. (s.0.1 k d l, h.relaxed.rows k d l)), λ k d l. (s.1 k d l, h.relaxed.cuts k d l))), (s.0.0, h.below))

-- ---- the middle
decides-half : (o : Option Span) (b : ℤ) (s : Span) → o ≡ Some s → Decides (is_half o b) (b ≡ floor_div (s.lo +ℤ s.hi) 2)
decides-half None b s e = absurd (none-some s e)
decides-half (Some t) b s e = subst (λ (u : Span). Decides (is_half (Some t) b) (b ≡ floor_div (u.lo +ℤ u.hi) 2)) (same_Some t s e) (Decides-int_eq b (floor_div (t.lo +ℤ t.hi) 2))

decides-middle : (box : List Span) (j : ℕ) (b : ℤ) → Decides (is_middle box j b) (IsMiddle box j b)
decides-middle box j b = (forth, back)
  where
    both : (c d : Bool) → (c && d) ≡ true → (c ≡ true) × (d ≡ true)
    both true d e = (refl, e)
    both false d e = cc

    join : (c d : Bool) → c ≡ true → d ≡ true → (c && d) ≡ true
    join true d e f = f
    join false d e f = cc

    forth : is_middle box j b ≡ true → IsMiddle box j b
    forth e =
        let h = both (is_first_free box j) (is_half (slice_get box j) b) e in
        let free = free_at box j h.0 in
        record { free = free; bound = (decides-half (slice_get box j) b free.span free.there).0 h.1 }

    back : IsMiddle box j b → is_middle box j b ≡ true
    back h = join (is_first_free box j) (is_half (slice_get box j) b) (first_at box j h.free) ((decides-half (slice_get box j) b h.free.span h.free.there).1 h.bound)

-- ---- answers
pub decides-cramped : (n : ℕ) (a : Answer) → Decides (is_cramped n a) (a ≡ CrampedRun n)
decides-cramped n (Infeasible mult) = never (λ e. cc)
decides-cramped n (Optimal x mult v) = never (λ e. cc)
decides-cramped n (CrampedRun pivots) = Decides-like _ (ap CrampedRun) same (Decides-eqb pivots n)
  where
    same : CrampedRun pivots ≡ CrampedRun n → pivots ≡ n
    same e = cc
decides-cramped n StalledRun = never (λ e. cc)

pub decides-stalled : (a : Answer) → Decides (is_stalled a) (a ≡ StalledRun)
decides-stalled (Infeasible mult) = never (λ e. cc)
decides-stalled (Optimal x mult v) = never (λ e. cc)
decides-stalled (CrampedRun pivots) = never (λ e. cc)
decides-stalled StalledRun = always refl

-- ---- reasons
decides-given : (p : Problem) (cs : List Cut) (box : List Span) (cutoff : Option ℚ) (j : ℕ) (b : ℤ) (r : Reason) → Decides (is_given p cs box cutoff j b r) (IsGiven p cs box cutoff j b r)
decides-given p cs box cutoff j b (Fractional k x) = decides-fractional p (take k cs) box cutoff j b x
decides-given p cs box cutoff j b (Cramped k n) =
    Decides-like _ (λ h. (h.1, h.0)) (λ h. (h.1, h.0)) (Decides-and (is_middle box j b) (is_cramped n (answer p (take k cs) box)) (decides-middle box j b) (decides-cramped n (answer p (take k cs) box)))
decides-given p cs box cutoff j b (Stalled k) =
    Decides-like _ (λ h. (h.1, h.0)) (λ h. (h.1, h.0)) (Decides-and (is_middle box j b) (is_stalled (answer p (take k cs) box)) (decides-middle box j b) (decides-stalled (answer p (take k cs) box)))

pub decides-reason : (p : Problem) (cs : List Cut) (box : List Span) (cutoff : Option ℚ) (j : ℕ) (b : ℤ) (r : Reason) → Decides (is_reason p cs box cutoff j b r) (IsReason p cs box cutoff j b r)
decides-reason p cs box cutoff j b r =
    Decides-like _ (λ h. record { nonempty = h.0.0; few_cuts = h.0.1; given = h.1 }) (λ h. ((h.nonempty, h.few_cuts), h.given))
    (Decides-and (list_all (λ (s : Span). int_le s.lo s.hi) box && nat_le (cuts_of r) (length cs)) (is_given p cs box cutoff j b r)
    (Decides-and (list_all (λ (s : Span). int_le s.lo s.hi) box) (nat_le (cuts_of r) (length cs)) (decides-nonempty box) (leb-true (cuts_of r) (length cs), le-leb (cuts_of r) (length cs)))
    (decides-given p cs box cutoff j b r))
