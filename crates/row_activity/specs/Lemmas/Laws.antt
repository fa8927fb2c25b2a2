-- Each verdict tells of the points of the box what it means.
use Rattle.std.specs.Prelude.{◌≡◌, ◌+◌, ℕ, zero, suc, ℤ, pos, ◌≤ℤ◌, int_lt, Bool, true, false, not, cond, List, [], ◌∷◌, All, take, Option, Some, None, slice_get, refl}
use Rattle.std.specs.Option.{ForSome, option_map_or}
use Rattle.std.specs.List.{position_from, list_all}
use Rattle.std.specs.Ordering.{is_lt, int_eq}
use Rattle.std.specs.declared.cmp.Ordering.{Ordering}
use Rattle.std.specs.declared.cmp.Ordering.TheVariants.{Less, Equal, Greater}
use Rattle.std.specs.Bool.{Decides}
use Rattle.std.proofs.Common.{sym, ap, ◌∙◌, subst, arith}
use Rattle.std.proofs.lemmas.Int.{ints}
use Rattle.std.proofs.lemmas.Bool.{false≢true}
use Rattle.std.proofs.lemmas.Bool.Decides.{Decides-by_and, Decides-int_eq}
use Rattle.std.proofs.lemmas.List.Elements.{All-nil, All-cons, All-head, All-tail, All-get_or}
use Rattle.std.proofs.lemmas.Option.{slice_get_within, get_or_from_slice_get}
use Rattle.fraction.specs.Rational.{ℚ, whole, ◌+ℚ◌, ◌*ℚ◌, ◌≤ℚ◌}
use Rattle.fraction.specs.Lemmas.Rational.{≤ℚ_trans, ≤ℚ_antisymm}
use Rattle.fraction.specs.Order.{◌<ℚ◌}
use Rattle.fraction.specs.Lemmas.Order.{less, equal, greater, less_at_most, not_both, same_le, less_only}
use Rattle.fraction.specs.Checked.{compare}
use Rattle.problem_box.specs.declared.span.Span.{Span}
use Rattle.problem_box.specs.Boxes.{IsWithin, IsInBox}
use Rattle.problem_box.specs.Lemmas.Boxes.{crossed-no_point}
use Rattle.problem_box.specs.Changes.{IsFirstEmpty, IsFixed}
use Rattle.problem.specs.declared.row.Sense.{Sense}
use Rattle.problem.specs.declared.row.Sense.TheVariants.{G, L, E}
use Rattle.problem.specs.declared.row.Row.{Row}
use Rattle.problem.specs.Problem.{Problem}
use Rattle.problem.specs.Linear.{value}
use Rattle.problem.specs.Rows.{Compares, Satisfies}
use Rattle.problem.specs.Feasible.{IsFeasible}
use Rattle.row_activity.specs.declared.verdict.Sign.{Sign}
use Rattle.row_activity.specs.declared.verdict.Sign.TheVariants.{Plus, Minus}
use Rattle.row_activity.specs.Activity.{span_at, low_end, high_end, low_of, high_of, IsNonempty}
use Rattle.row_activity.specs.Lemmas.Extremes.{low_of-≤ℚ, ≤ℚ-high_of}
use Rattle.row_activity.specs.Verdicts.{is_less, sign_of, refuting_sign, refuted_from, first_empty, reaches, is_fixed, first_of_all, verdict}
use Rattle.row_activity.specs.Meaning.{HasNoPoint, IsMissed, IsRefuted, IsPriced, IsOnePoint, IsOpen, Tells}
use Rattle.problem.specs.Directions.{aim_at, aim}

-- ---- comparisons

pub is_less_tells : (x y : ℚ) → is_less x y ≡ true → x <ℚ y
is_less_tells x y e = less x y (less_only (compare x y) e)

pub not_less_tells : (x y : ℚ) → is_less x y ≡ false → y ≤ℚ x
not_less_tells x y e = step (compare x y) refl e
  where
    step : (o : Ordering) → compare x y ≡ o → is_lt o ≡ false → y ≤ℚ x
    step Less p q = absurd (false≢true (sym q))
    step Equal p q = same_le y x (sym (equal x y (sym p)))
    step Greater p q = less_at_most y x (greater x y (sym p))

-- ---- empty boxes
pub HasNoPoint-empty : (ss : List Span) (j : ℕ) → IsFirstEmpty ss j → HasNoPoint ss
HasNoPoint-empty ss j h x b = crossed-no_point ss j h.span x h.there h.empty b

-- what the first empty column is, from the list's start at column n
abbrev FirstFrom : ℕ → List Span → Option ℕ → Type 0
FirstFrom n ss None = IsNonempty ss
FirstFrom n ss (Some j) = (k : ℕ) × (j ≡ n + k) × IsFirstEmpty ss k

first_from : (n : ℕ) (ss : List Span) → FirstFrom n ss (position_from (λ (s : Span). int_lt s.hi s.lo) n ss)
first_from n [] = All-nil (λ (s : Span). s.lo ≤ℤ s.hi)
first_from n (s ∷ ss) = step (int_lt s.hi s.lo) refl (position_from (λ (s : Span). int_lt s.hi s.lo) (n + 1) ss) (first_from (n + 1) ss)
  where
    fits : int_lt s.hi s.lo ≡ false → s.lo ≤ℤ s.hi
    fits e = grind (arith, ints)

    step : (b : Bool) → int_lt s.hi s.lo ≡ b → (o : Option ℕ) → FirstFrom (n + 1) ss o → FirstFrom n (s ∷ ss) (cond b (Some n) o)
    step true e o h = (0, omega arith, record { span = s; there = refl; empty = grind (arith, ints); before = All-nil (λ (s : Span). s.lo ≤ℤ s.hi) })
    step false e None h = All-cons (λ (s : Span). s.lo ≤ℤ s.hi) s ss (fits e) h
    step false e (Some j) h = (
      suc h.0,
      omega (arith, h.1),
      record {
        span = h.2.span;
        there = h.2.there;
        empty = h.2.empty;
        before = All-cons (λ (s : Span). s.lo ≤ℤ s.hi) s (take h.0 ss) (fits e) h.2.before;
      },
    )

pub first_empty_tells : (ss : List Span) (o : Option ℕ) → first_empty ss ≡ o → FirstFrom 0 ss o
first_empty_tells ss o e = subst (FirstFrom 0 ss) e (first_from 0 ss)

-- ---- rows that refute
-- what each answer of a row's signs tells
abbrev pub SignTells : Sense → Bool → Bool → Option Sign → Type 0
SignTells s short past None = ((s ≡ L → ⊥) → short ≡ false) × ((s ≡ G → ⊥) → past ≡ false)
SignTells s short past (Some Plus) = (s ≡ L → ⊥) × (short ≡ true)
SignTells s short past (Some Minus) = (s ≡ G → ⊥) × (past ≡ true)

sign_tells : (s : Sense) (short past : Bool) → SignTells s short past (sign_of s short past)
sign_tells G true past = (λ e. cc, refl)
sign_tells G false past = (λ _. refl, λ n. absurd (n refl))
sign_tells L short true = (λ e. cc, refl)
sign_tells L short false = (λ n. absurd (n refl), λ _. refl)
sign_tells E true past = (λ e. cc, refl)
sign_tells E false true = (λ e. cc, refl)
sign_tells E false false = (λ _. refl, λ _. refl)

missed : (ss : List Span) (r : Row) (s : Sign) → refuting_sign ss r ≡ Some s → IsMissed ss r s
missed ss r s e =
    made s (subst (SignTells r.sense (is_less (high_of ss r.terms) r.rhs) (is_less r.rhs (low_of ss r.terms))) e (sign_tells r.sense _ _))
  where
    made : (s : Sign) → SignTells r.sense (is_less (high_of ss r.terms) r.rhs) (is_less r.rhs (low_of ss r.terms)) (Some s) → IsMissed ss r s
    made Plus h = (h.0, is_less_tells _ _ h.1)
    made Minus h = (h.0, is_less_tells _ _ h.1)

-- no point of the box satisfies a row that is missed
below_all : (s : Sense) (rhs v high : ℚ) → (s ≡ L → ⊥) → high <ℚ rhs → v ≤ℚ high → Compares s rhs v → ⊥
below_all G rhs v high n h l k = not_both rhs high (≤ℚ_trans rhs v high k l) h
below_all L rhs v high n h l k = n refl
below_all E rhs v high n h l k = not_both rhs high (≤ℚ_trans rhs v high (same_le rhs v (sym k)) l) h

above_all : (s : Sense) (rhs v low : ℚ) → (s ≡ G → ⊥) → rhs <ℚ low → low ≤ℚ v → Compares s rhs v → ⊥
above_all G rhs v low n h l k = n refl
above_all L rhs v low n h l k = not_both low rhs (≤ℚ_trans low v rhs l k) h
above_all E rhs v low n h l k = not_both low rhs (≤ℚ_trans low v rhs l (same_le v rhs k)) h

pub never_satisfied : (ss : List Span) (r : Row) (s : Sign) → IsMissed ss r s → (x : List ℤ) → IsInBox ss x → Satisfies x r → ⊥
never_satisfied ss r Plus h x b k = below_all r.sense r.rhs (value r.terms x) (high_of ss r.terms) h.0 h.1 (≤ℚ-high_of ss r.terms x b) k
never_satisfied ss r Minus h x b k = above_all r.sense r.rhs (value r.terms x) (low_of ss r.terms) h.0 h.1 (low_of-≤ℚ ss r.terms x b) k

-- what the first row that refutes is, from the list's start at row n
abbrev RefutedFrom : ℕ → List Span → List Row → Option (ℕ × Sign) → Type 0
RefutedFrom n ss rs None = All (λ r. refuting_sign ss r ≡ None) rs
RefutedFrom n ss rs (Some q) = (k : ℕ) × (q.0 ≡ n + k) × ((r : Row) × (slice_get rs k ≡ Some r) × (refuting_sign ss r ≡ Some q.1))

refuted_first : (n : ℕ) (ss : List Span) (rs : List Row) → RefutedFrom n ss rs (refuted_from n ss rs)
refuted_first n ss [] = All-nil (λ (r : Row). refuting_sign ss r ≡ None)
refuted_first n ss (r ∷ rs) = step (refuting_sign ss r) refl (refuted_from (n + 1) ss rs) (refuted_first (n + 1) ss rs)
  where
    step : (o : Option Sign) → refuting_sign ss r ≡ o → (q : Option (ℕ × Sign)) → RefutedFrom (n + 1) ss rs q → RefutedFrom n ss (r ∷ rs) (option_map_or (λ s. Some (n, s)) o q)
    step (Some s) e q h = (0, omega arith, (r, refl, e))
    step None e None h = All-cons (λ (r : Row). refuting_sign ss r ≡ None) r rs e h
    step None e (Some q) h = (suc h.0, omega (arith, h.1), h.2)

pub refuted_tells : (p : Problem) (ss : List Span) (q : ℕ × Sign) → refuted_from 0 ss p.rows ≡ Some q → IsRefuted p ss q.0 q.1
refuted_tells p ss q e =
    let h = subst (RefutedFrom 0 ss p.rows) e (refuted_first 0 ss p.rows) in
    let m = missed ss h.2.0 q.1 h.2.2 in
    record { row = h.2.0; there = ap (slice_get p.rows) (let k : q.0 ≡ h.0 = omega (arith, h.1) in k) ∙ h.2.1; missed = m; never = never_satisfied ss h.2.0 q.1 m }

-- ---- the objective
priced_tells : (p : Problem) (ss : List Span) (c : Option ℚ) → reaches (low_of ss (aim p)) c ≡ true → IsPriced p ss c
priced_tells p ss None e = absurd (false≢true e)
priced_tells p ss (Some z) e = step (is_less (low_of ss (aim p)) z) refl e
  where
    step : (b : Bool) → is_less (low_of ss (aim p)) z ≡ b → not b ≡ true → IsPriced p ss (Some z)
    step true f g = absurd (false≢true g)
    step false f g =
        let l = not_less_tells (low_of ss (aim p)) z f in
        record { bound = z; given = refl; reached = l; least = λ x b. ≤ℚ_trans z (low_of ss (aim p)) (aim_at p x) l (low_of-≤ℚ ss (aim p) x b) }

below_cutoff : (v : ℚ) (c : Option ℚ) → reaches v c ≡ false → ForSome c (λ z. v <ℚ z)
below_cutoff v None e = λ z g. cc
below_cutoff v (Some y) e = λ z g. let same : y ≡ z = cc in subst (λ w. v <ℚ w) same (step (is_less v y) refl e)
  where
    step : (b : Bool) → is_less v y ≡ b → not b ≡ false → v <ℚ y
    step true f h = is_less_tells v y f
    step false f h = absurd (false≢true (sym h))

-- ---- fixed boxes
pub Decides-is_fixed : (ss : List Span) → Decides (is_fixed ss) (IsFixed ss)
Decides-is_fixed ss = Decides-by_and (λ (s : Span). int_eq s.lo s.hi) (λ (s : Span). s.lo ≡ s.hi) (list_all (λ (s : Span). int_eq s.lo s.hi)) (λ s. Decides-int_eq s.lo s.hi) refl (λ _ _. refl) ss

-- the lower bounds
abbrev lows : List Span → List ℤ
lows [] = []
lows (s ∷ ss) = s.lo ∷ lows ss

lows_inside : (ss : List Span) → IsFixed ss → IsInBox ss (lows ss)
lows_inside [] h = tt
lows_inside (s ∷ ss) h = (within (All-head (λ (s : Span). s.lo ≡ s.hi) s ss h), lows_inside ss (All-tail (λ (s : Span). s.lo ≡ s.hi) s ss h))
  where
    within : s.lo ≡ s.hi → IsWithin s s.lo
    within e = (omega (arith, ints), omega (arith, ints))

lows_only : (ss : List Span) → IsFixed ss → (x : List ℤ) → IsInBox ss x → x ≡ lows ss
lows_only [] h [] b = refl
lows_only [] h (x ∷ xs) b = absurd b
lows_only (s ∷ ss) h [] b = absurd b
lows_only (s ∷ ss) h (x ∷ xs) b =
    let e = All-head (λ (s : Span). s.lo ≡ s.hi) s ss h in
    let same : x ≡ s.lo = omega (arith, ints, b.0.0, b.0.1) in
    λ i. same i ∷ lows_only ss (All-tail (λ (s : Span). s.lo ≡ s.hi) s ss h) xs b.1 i

span_fixed : (ss : List Span) (j : ℕ) → IsFixed ss → (span_at ss j).lo ≡ (span_at ss j).hi
span_fixed [] j h = refl
span_fixed (s ∷ ss) zero h = All-head (λ (s : Span). s.lo ≡ s.hi) s ss h
span_fixed (s ∷ ss) (suc j) h = span_fixed ss j (All-tail (λ (s : Span). s.lo ≡ s.hi) s ss h)

one_end : (c : ℚ) (s : Span) → s.lo ≡ s.hi → low_end c s ≡ high_end c s
one_end c s e = step (int_lt (pos 0) c.num)
  where
    step : (b : Bool) → cond b s.lo s.hi ≡ cond b s.hi s.lo
    step true = e
    step false = sym e

low_is_high : (ss : List Span) (ts : List (ℕ × ℚ)) → IsFixed ss → low_of ss ts ≡ high_of ss ts
low_is_high ss [] h = refl
low_is_high ss (t ∷ ts) h = λ i. t.1 *ℚ whole (one_end t.1 (span_at ss t.0) (span_fixed ss t.0 h) i) +ℚ low_is_high ss ts h i

-- over a fixed box the least value is that at its point
pub value-fixed : (ss : List Span) (ts : List (ℕ × ℚ)) (x : List ℤ) → IsFixed ss → IsInBox ss x → value ts x ≡ low_of ss ts
value-fixed ss ts x h b =
    ≤ℚ_antisymm (value ts x) (low_of ss ts) (subst (λ v. value ts x ≤ℚ v) (sym (low_is_high ss ts h)) (≤ℚ-high_of ss ts x b)) (low_of-≤ℚ ss ts x b)

compares : (s : Sense) (rhs v : ℚ) → ((s ≡ L → ⊥) → rhs ≤ℚ v) → ((s ≡ G → ⊥) → v ≤ℚ rhs) → Compares s rhs v
compares G rhs v h k = h (λ e. cc)
compares L rhs v h k = k (λ e. cc)
compares E rhs v h k = ≤ℚ_antisymm v rhs (k (λ e. cc)) (h (λ e. cc))

-- over a fixed box, a row that doesn't refute is satisfied
satisfied : (ss : List Span) (r : Row) (x : List ℤ) → IsFixed ss → IsInBox ss x → refuting_sign ss r ≡ None → Satisfies x r
satisfied ss r x h b e =
    let t = subst (SignTells r.sense (is_less (high_of ss r.terms) r.rhs) (is_less r.rhs (low_of ss r.terms))) e (sign_tells r.sense _ _) in
    let low : low_of ss r.terms ≡ value r.terms x = sym (value-fixed ss r.terms x h b) in
    let high : high_of ss r.terms ≡ value r.terms x = sym (low_is_high ss r.terms h) ∙ low in
    compares r.sense r.rhs (value r.terms x)
    (λ n. subst (λ v. r.rhs ≤ℚ v) high (not_less_tells _ _ (t.0 n)))
    (λ n. subst (λ v. v ≤ℚ r.rhs) low (not_less_tells _ _ (t.1 n)))

point_tells : (p : Problem) (ss : List Span) (c : Option ℚ) → refuted_from 0 ss p.rows ≡ None → reaches (low_of ss (aim p)) c ≡ false → is_fixed ss ≡ true → IsOnePoint p ss c
point_tells p ss c e f g =
    let h : IsFixed ss = (Decides-is_fixed ss).0 g in
    let b = lows_inside ss h in
    let clear = subst (RefutedFrom 0 ss p.rows) e (refuted_first 0 ss p.rows) in
    record {
      fixed = h;
      point = lows ss;
      inside = b;
      only = lows_only ss h;
      rows = λ i d l. satisfied ss _ (lows ss) h b (clear i d l);
      below = subst (λ v. ForSome c (λ z. v <ℚ z)) (sym (value-fixed ss (aim p) (lows ss) h b)) (below_cutoff (low_of ss (aim p)) c f);
    }

open_tells : (ss : List Span) → first_empty ss ≡ None → is_fixed ss ≡ false → IsOpen ss
open_tells ss e f = record { nonempty = first_empty_tells ss None e; free = λ h. false≢true (sym f ∙ (Decides-is_fixed ss).1 h) }

-- ---- the verdict
pub verdict_tells : (p : Problem) (ss : List Span) (c : Option ℚ) → Tells p ss c (verdict p ss c)
verdict_tells p ss c = step (first_empty ss) refl (refuted_from 0 ss p.rows) refl (reaches (low_of ss (aim p)) c) refl (is_fixed ss) refl
  where
    step : (a : Option ℕ) → first_empty ss ≡ a → (b : Option (ℕ × Sign)) → refuted_from 0 ss p.rows ≡ b → (d : Bool) → reaches (low_of ss (aim p)) c ≡ d → (f : Bool) → is_fixed ss ≡ f
        → Tells p ss c (first_of_all a b d f)
    step (Some j) u b v d w f x =
        let h = first_empty_tells ss (Some j) u in
        let k = subst (IsFirstEmpty ss) (let e : h.0 ≡ j = omega (arith, h.1) in e) h.2 in (k, HasNoPoint-empty ss j k)
    step None u (Some q) v d w f x = refuted_tells p ss q v
    step None u None v true w f x = priced_tells p ss c w
    step None u None v false w true x = point_tells p ss c v w x
    step None u None v false w false x = open_tells ss u x

-- no point of a refuted box is feasible
pub refuted_box : (p : Problem) (ss : List Span) (i : ℕ) (s : Sign) → IsRefuted p ss i s → (x : List ℤ) → IsInBox ss x → IsFeasible p x → ⊥
refuted_box p ss i s h x b f =
    h.never x b
    (subst (Satisfies x) (get_or_from_slice_get p.rows i h.row h.row h.there) (All-get_or (Satisfies x) p.rows i h.row (slice_get_within p.rows i h.row h.there) f.rows))

-- the one point of a box that is left is feasible where the box lies in the program's
pub feasible_point : (p : Problem) (ss : List Span) (c : Option ℚ) (h : IsOnePoint p ss c) → IsInBox p.spans h.point → IsFeasible p h.point
feasible_point p ss c h b = record { in_box = b; rows = h.rows }
