-- One more term in a sum over ends of spans.
use Rattle.std.specs.Prelude.{◌≡◌, ◌<◌, ◌≤◌, ◌+◌, ◌-◌, ℕ, ℤ, pos, nat_abs, int_lt, Bool, true, false, cond, List, take, drop, length, Some, slice_get}
use Rattle.std.proofs.Common.{sym, ap, ◌∙◌, subst, arith, get_or}
use Rattle.std.proofs.lemmas.List.{at_drop_more, at_drop_all, get_or-drop, length-drop, take_rest}
use Rattle.std.proofs.lemmas.List.Elements.{All-get_or}
use Rattle.std.proofs.lemmas.Option.{slice_get_within, get_or_from_slice_get}
use Rattle.fraction.specs.Rational.{ℚ, whole, ◌+ℚ◌, ◌*ℚ◌}
use Rattle.fraction.specs.Lemmas.Rational.{+ℚ_assoc}
use Rattle.fraction.specs.Lemmas.Ring.{+ℚ-zero}
use Rattle.problem_box.specs.declared.span.Span.{Span}
use Rattle.problem.specs.Modest.{IsModest}
use Rattle.problem.specs.Lemmas.Modest.{IsSumOf, product_fits, sum_fits, sum_within}
use Rattle.problem.specs.Limited.{IsModestSpan, AreLimited}
use Rattle.problem.specs.Lemmas.Limited.{are_modest}
use Rattle.problem.specs.Limits.{most_columns, largest_bound}
use Rattle.row_activity.specs.declared.activity.Extreme.{Extreme}
use Rattle.row_activity.specs.declared.activity.Extreme.TheVariants.{Least, Greatest}
use Rattle.row_activity.specs.Activity.{span_at, end_for, sum_of_ends, IsLimitedBox}
use Rattle.row_activity.specs.Fitting.{FitsWithProduct}

-- an end of a modest span is modest
modest_end : (a : Extreme) (c : ℚ) (s : Span) → IsModestSpan s → nat_abs (end_for a c s) ≤ largest_bound
modest_end Least c s h = step (int_lt (pos 0) c.num)
  where
    step : (b : Bool) → nat_abs (cond b s.lo s.hi) ≤ largest_bound
    step true = h.0
    step false = h.1
modest_end Greatest c s h = step (int_lt (pos 0) c.num)
  where
    step : (b : Bool) → nat_abs (cond b s.hi s.lo) ≤ largest_bound
    step true = h.1
    step false = h.0

-- the total of the first i terms, with the others, is the whole sum
pub record IsTotal (a : Extreme) (ss : List Span) (ts : List (ℕ × ℚ)) (i : ℕ) (total : ℚ) : Type 0 where
  pub size : IsSumOf i total
  pub rest : total +ℚ sum_of_ends (end_for a) ss (drop i ts) ≡ sum_of_ends (end_for a) ss ts

-- nothing is left to add behind the last term
pub all_terms : {a : Extreme} {ss : List Span} {ts : List (ℕ × ℚ)} {i : ℕ} {total : ℚ} → length ts ≤ i → IsTotal a ss ts i total → total ≡ sum_of_ends (end_for a) ss ts
all_terms {a = a} {ss = ss} {ts = ts} {i = i} {total = total} l h = sym (+ℚ-zero total) ∙ ap (λ r. total +ℚ r) (sym (at_drop_all (sum_of_ends (end_for a) ss) ts i l)) ∙ h.rest

-- the next term, and the span of its column
pub record IsNext (ss : List Span) (ts : List (ℕ × ℚ)) (i : ℕ) (t : ℕ × ℚ) (s : Span) : Type 0 where
  pub limited : AreLimited (length ss) ts
  pub area : IsLimitedBox ss
  pub within : i < length ts
  pub item : t ≡ get_or ts i t
  pub there : slice_get ss t.0 ≡ Some s

module _ {a : Extreme} {ss : List Span} {ts : List (ℕ × ℚ)} {i : ℕ} {total : ℚ} {t : ℕ × ℚ} {s : Span} (n : IsNext ss ts i t s) (so_far : IsTotal a ss ts i total) where
  abbrev z : ℤ
  z = end_for a t.1 s

  modest : IsModest t.1
  modest = subst (λ (v : ℕ × ℚ). IsModest v.1) (sym n.item) (All-get_or (λ (v : ℕ × ℚ). IsModest v.1) ts i t n.within n.limited.modest)

  bounded : nat_abs z ≤ largest_bound
  bounded = modest_end a t.1 s (subst IsModestSpan (get_or_from_slice_get ss t.0 s s n.there) (All-get_or IsModestSpan ss t.0 s (slice_get_within ss t.0 s n.there) n.area.modest))

  pub few : i < most_columns
  few = omega (arith, n.within, (are_modest (length ss) ts n.area.few_columns n.limited).few)

  pub room : FitsWithProduct total t.1 z
  room = record { product = product_fits t.1 z modest bounded; sum = sum_fits total t.1 z i few so_far.size modest bounded }

  rest_more : (total +ℚ t.1 *ℚ whole z) +ℚ sum_of_ends (end_for a) ss (drop (i + 1) ts) ≡ total +ℚ sum_of_ends (end_for a) ss (drop i ts)
  rest_more =
      let e = end_for a in
      let rest = sum_of_ends e ss (drop (i + 1) ts) in
      let placed : z ≡ e t.1 (span_at ss t.0) = ap (e t.1) (sym (get_or_from_slice_get ss t.0 s (record { lo = pos 0; hi = pos 0 }) n.there)) in
      +ℚ_assoc total (t.1 *ℚ whole z) rest
      ∙ ap (λ v. total +ℚ v)
      (ap (λ v. t.1 *ℚ whole v +ℚ rest) placed ∙ ap (λ (v : ℕ × ℚ). v.1 *ℚ whole (e v.1 (span_at ss v.0)) +ℚ rest) n.item
      ∙ sym (at_drop_more (sum_of_ends e ss) ts i t n.within))

  pub one_more : {next : ℚ} → next ≡ total +ℚ t.1 *ℚ whole z → IsTotal a ss ts (i + 1) next
  one_more e = subst (IsTotal a ss ts (i + 1)) (sym e) record { size = sum_within total t.1 z i so_far.size modest bounded; rest = rest_more ∙ so_far.rest }

-- ---- the terms behind the first k
-- the slice from there to the end
pub rest_of_slice : (ts us : List (ℕ × ℚ)) (k : ℕ) → us ≡ ts → take (length us - k) (drop k us) ≡ drop k ts
rest_of_slice ts us k e = take_rest us k ∙ ap (drop k) e

pub next_behind : (ss : List Span) (ts us : List (ℕ × ℚ)) (k j : ℕ) (t r : ℕ × ℚ) (s : Span) → AreLimited (length ss) ts → IsLimitedBox ss
    → us ≡ drop k ts → j < length us → t ≡ r → r ≡ get_or us j r → slice_get ss t.0 ≡ Some s → IsNext ss ts (k + j) t s
next_behind ss ts us k j t r s h b e l f g there = record {
  limited = h;
  area = b;
  within = omega (arith, l, ap length e, length-drop k ts);
  item = subst (λ (v : ℕ × ℚ). v ≡ get_or ts (k + j) v) (sym f) (g ∙ ap (λ vs. get_or vs j r) e ∙ get_or-drop k ts j r);
  there = there;
}

pub all_behind : {a : Extreme} {ss : List Span} {ts : List (ℕ × ℚ)} {total : ℚ} (us : List (ℕ × ℚ)) (k j : ℕ) → us ≡ drop k ts → length us ≤ j → IsTotal a ss ts (k + j) total → total ≡ sum_of_ends (end_for a) ss ts
all_behind {ts = ts} us k j e l h = all_terms (omega (arith, l, ap length e, length-drop k ts)) h

pub one_more_behind : {a : Extreme} {ss : List Span} {ts : List (ℕ × ℚ)} {total next : ℚ} (k j : ℕ) {t : ℕ × ℚ} {s : Span} → IsNext ss ts (k + j) t s → IsTotal a ss ts (k + j) total → next ≡ total +ℚ t.1 *ℚ whole (end_for a t.1 s)
    → IsTotal a ss ts (k + (j + 1)) next
one_more_behind {a = a} {ss = ss} {ts = ts} {next = next} k j n h e = subst (λ m. IsTotal a ss ts m next) (omega arith) (one_more n h e)
