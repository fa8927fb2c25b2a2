-- Lemmas: a closed node's multipliers give its target and its price.
use Rattle.std.specs.Prelude.{◌≡◌, ◌⊎◌, ◌<◌, ◌≤◌, ℕ, suc, ◌+◌, ℤ, pos, int_lt, nat_lt, eqb, Bool, true, false, cond, List, [], ◌∷◌, length, All, refl}
use Rattle.std.specs.Ordering.{int_eq}
use Rattle.std.proofs.Common.{sym, ap, ◌∙◌, subst, inl, inr, arith}
use Rattle.std.proofs.lemmas.Int.{ints}
use Rattle.std.proofs.lemmas.Bool.{cases_lt}
use Rattle.std.proofs.lemmas.Bool.Decides.{Decides-int_eq}
use Rattle.std.proofs.lemmas.List.Elements.{All-nil, All-cons, All-head, All-tail}
use Rattle.fraction.specs.Rational.{ℚ, whole, ◌+ℚ◌, ◌*ℚ◌, neg_ℚ}
use Rattle.fraction.specs.Lemmas.Rational.{+ℚ_assoc, +ℚ_comm, *ℚ_comm, one-*ℚ, zero-*ℚ, zero-+ℚ, neg-+ℚ}
use Rattle.fraction.specs.Lemmas.Ring.{+ℚ_left_comm, +ℚ-zero}
use Rattle.fraction.specs.Lemmas.Order.{at_least_zero, at_most_zero, zero_from_num}
use Rattle.problem_box.specs.declared.span.Span.{Span}
use Rattle.problem.specs.declared.row.Sense.TheVariants.{G}
use Rattle.problem.specs.declared.row.Row.{Row}
use Rattle.problem.specs.Linear.{coefficient, at_column, scaled}
use Rattle.problem.specs.Lemmas.Linear.{coefficient-append, at_other, at_same, beyond}
use Rattle.cert_rows.specs.Lines.{CertLine, row_at}
use Rattle.cert_rows.specs.Combination.{HasRightSign, AllSigned, combined_terms, combined_rhs}
use Rattle.derivation_book.specs.Price.{reduced_cost, bounds_price}
use Rattle.cert_merge.specs.Closing.{BoundSource, StatesBounds, AreSources, bound_multipliers, placed, all_placed}
use Rattle.cert_merge.specs.Laws.{ClosingsClose}

-- ---- what holds of each multiplier
pub All-placed : (P : ℕ × ℚ → Type 0) (m : ℕ × ℚ) (ms : List (ℕ × ℚ)) → P m → All P ms → All P (placed m ms)
All-placed P m [] p h = All-cons P m [] p h
All-placed P m (n ∷ ns) p h = step (nat_lt m.0 n.0) (All-placed P m ns p (All-tail P n ns h))
  where
    step : (b : Bool) → All P (placed m ns) → All P (cond b (m ∷ n ∷ ns) (n ∷ placed m ns))
    step true ih = All-cons P m (n ∷ ns) p h
    step false ih = All-cons P n (placed m ns) (All-head P n ns h) ih

pub All-all_placed : (P : ℕ × ℚ → Type 0) (ms ns : List (ℕ × ℚ)) → All P ms → All P ns → All P (all_placed ms ns)
All-all_placed P [] ns h k = k
All-all_placed P (m ∷ ms) ns h k = All-placed P m (all_placed ms ns) (All-head P m ms h) (All-all_placed P ms ns (All-tail P m ms h) k)

-- ---- the order of multipliers changes nothing
module _ (ls : List CertLine) where
  -- the coefficient of a combination
  abbrev C : List (ℕ × ℚ) → ℕ → ℚ
  C ms k = coefficient (combined_terms ls ms) k

  C-cons : (m : ℕ × ℚ) (ms : List (ℕ × ℚ)) (k : ℕ) → C (m ∷ ms) k ≡ coefficient (scaled m.1 (row_at ls m.0).terms) k +ℚ C ms k
  C-cons m ms k = coefficient-append (scaled m.1 (row_at ls m.0).terms) (combined_terms ls ms) k

  C-placed : (m : ℕ × ℚ) (ms : List (ℕ × ℚ)) (k : ℕ) → C (placed m ms) k ≡ coefficient (scaled m.1 (row_at ls m.0).terms) k +ℚ C ms k
  C-placed m [] k = C-cons m [] k
  C-placed m (n ∷ ns) k = step (nat_lt m.0 n.0) (C-placed m ns k)
    where
      step : (b : Bool) → C (placed m ns) k ≡ coefficient (scaled m.1 (row_at ls m.0).terms) k +ℚ C ns k → C (cond b (m ∷ n ∷ ns) (n ∷ placed m ns)) k ≡ coefficient (scaled m.1 (row_at ls m.0).terms) k +ℚ C (n ∷ ns) k
      step true ih = C-cons m (n ∷ ns) k
      step false ih = C-cons n (placed m ns) k ∙ ap (λ v. coefficient (scaled n.1 (row_at ls n.0).terms) k +ℚ v) ih ∙ +ℚ_left_comm _ _ _
          ∙ ap (λ v. coefficient (scaled m.1 (row_at ls m.0).terms) k +ℚ v) (sym (C-cons n ns k))

  C-all_placed : (ms ns : List (ℕ × ℚ)) (k : ℕ) → C (all_placed ms ns) k ≡ C ms k +ℚ C ns k
  C-all_placed [] ns k = sym (zero-+ℚ _)
  C-all_placed (m ∷ ms) ns k = C-placed m (all_placed ms ns) k ∙ ap (λ v. coefficient (scaled m.1 (row_at ls m.0).terms) k +ℚ v) (C-all_placed ms ns k) ∙ sym (+ℚ_assoc _ _ _)
      ∙ ap (λ v. v +ℚ C ns k) (sym (C-cons m ms k))

  rhs-placed : (m : ℕ × ℚ) (ms : List (ℕ × ℚ)) → combined_rhs ls (placed m ms) ≡ m.1 *ℚ (row_at ls m.0).rhs +ℚ combined_rhs ls ms
  rhs-placed m [] = refl
  rhs-placed m (n ∷ ns) = step (nat_lt m.0 n.0) (rhs-placed m ns)
    where
      step : (b : Bool) → combined_rhs ls (placed m ns) ≡ m.1 *ℚ (row_at ls m.0).rhs +ℚ combined_rhs ls ns → combined_rhs ls (cond b (m ∷ n ∷ ns) (n ∷ placed m ns)) ≡ m.1 *ℚ (row_at ls m.0).rhs +ℚ combined_rhs ls (n ∷ ns)
      step true ih = refl
      step false ih = ap (λ v. n.1 *ℚ (row_at ls n.0).rhs +ℚ v) ih ∙ +ℚ_left_comm _ _ _

  rhs-all_placed : (ms ns : List (ℕ × ℚ)) → combined_rhs ls (all_placed ms ns) ≡ combined_rhs ls ms +ℚ combined_rhs ls ns
  rhs-all_placed [] ns = sym (zero-+ℚ _)
  rhs-all_placed (m ∷ ms) ns = rhs-placed m (all_placed ms ns) ∙ ap (λ v. m.1 *ℚ (row_at ls m.0).rhs +ℚ v) (rhs-all_placed ms ns) ∙ sym (+ℚ_assoc _ _ _)

-- ---- columns
-- each number from column j on stands at its column
abbrev spread : (ℕ → ℚ) → ℕ → List BoundSource → ℕ → ℚ
spread r j [] k = whole (pos 0)
spread r j (o ∷ os) k = at_column j (r j) k +ℚ spread r (j + 1) os k

spread-before : (r : ℕ → ℚ) (j : ℕ) (os : List BoundSource) (k : ℕ) → k < j → spread r j os k ≡ whole (pos 0)
spread-before r j [] k h = refl
spread-before r j (o ∷ os) k h = (λ i. at_other j (r j) k (λ e. omega arith) i +ℚ spread-before r (j + 1) os k (omega arith) i) ∙ zero-+ℚ _

spread-behind : (r : ℕ → ℚ) (j : ℕ) (os : List BoundSource) (k : ℕ) → j + length os ≤ k → spread r j os k ≡ whole (pos 0)
spread-behind r j [] k h = refl
spread-behind r j (o ∷ os) k h = (λ i. at_other j (r j) k (λ e. omega arith) i +ℚ spread-behind r (j + 1) os k (omega arith) i) ∙ zero-+ℚ _

spread-at : (r : ℕ → ℚ) (j : ℕ) (os : List BoundSource) (k : ℕ) → j ≤ k → k < j + length os → spread r j os k ≡ r k
spread-at r j [] k h l = absurd (omega arith)
spread-at r j (o ∷ os) k h l = elim (cases_lt j k) [
  | inl g ↦ (λ i. at_other j (r j) k (λ e. omega arith) i +ℚ spread-at r (j + 1) os k (omega arith) (omega arith) i) ∙ zero-+ℚ _
  | inr g ↦ (let e : j ≡ k = omega arith in (λ i. (at_same j (r j) k e ∙ ap r e) i +ℚ spread-before r (j + 1) os k (omega arith) i) ∙ +ℚ-zero _)
]

-- ---- the bound multipliers
-- one filling is its column's number, at the price of its bound
record Fills (ls : List CertLine) (j : ℕ) (a : ℚ) (bound : ℤ) (i : ℕ) : Type 0 where
  there : i < length ls
  terms : (row_at ls i).terms ≡ (j, whole (pos 1)) ∷ []
  rhs : (row_at ls i).rhs ≡ whole bound
  sign : HasRightSign G (row_at ls i).sense a

fills : (ls : List CertLine) (j : ℕ) (s : Span) (o : BoundSource) (a : ℚ) → StatesBounds ls j s o
    → Fills ls j a (cond (int_lt (pos 0) a.num) s.lo s.hi) (cond (int_lt (pos 0) a.num) o.lower o.upper)
fills ls j s o a h = step (int_lt (pos 0) a.num) refl
  where
    step : (b : Bool) → int_lt (pos 0) a.num ≡ b → Fills ls j a (cond b s.lo s.hi) (cond b o.lower o.upper)
    step true e = record {
      there = h.lower_there;
      terms = ap (λ (r : Row). r.terms) h.lower;
      rhs = ap (λ (r : Row). r.rhs) h.lower;
      sign = subst (λ (r : Row). HasRightSign G r.sense a) (sym h.lower) (at_least_zero a (grind (arith, ints)));
    }
    step false e = record {
      there = h.upper_there;
      terms = ap (λ (r : Row). r.terms) h.upper;
      rhs = ap (λ (r : Row). r.rhs) h.upper;
      sign = subst (λ (r : Row). HasRightSign G r.sense a) (sym h.upper) (at_most_zero a (grind (arith, ints)));
    }

-- what the bound multipliers are together
record AreFillings (ls : List CertLine) (r : ℕ → ℚ) (j : ℕ) (ss : List Span) (os : List BoundSource) (ms : List (ℕ × ℚ)) : Type 0 where
  there : All (λ m. m.0 < length ls) ms
  signs : AllSigned G ls ms
  terms : (k : ℕ) → C ls ms k ≡ spread r j os k
  rhs : combined_rhs ls ms ≡ bounds_price r j ss

nowhere : (j k : ℕ) (a : ℚ) → a ≡ whole (pos 0) → at_column j a k ≡ whole (pos 0)
nowhere j k a z = both (eqb j k)
  where
    both : (b : Bool) → cond b a (whole (pos 0)) ≡ whole (pos 0)
    both true = z
    both false = refl

one_filled : (ls : List CertLine) (r : ℕ → ℚ) (j : ℕ) (s : Span) (o : BoundSource) (ss : List Span) (os : List BoundSource)
    → Fills ls j (r j) (cond (int_lt (pos 0) (r j).num) s.lo s.hi) (cond (int_lt (pos 0) (r j).num) o.lower o.upper)
    → AreFillings ls r (j + 1) ss os (bound_multipliers r (j + 1) os) → (b : Bool) → int_eq (r j).num (pos 0) ≡ b
    → AreFillings ls r j (s ∷ ss) (o ∷ os) (cond b (bound_multipliers r (j + 1) os) ((cond (int_lt (pos 0) (r j).num) o.lower o.upper, r j) ∷ bound_multipliers r (j + 1) os))
one_filled ls r j s o ss os one rest true e =
    let z : r j ≡ whole (pos 0) = zero_from_num (r j) ((Decides-int_eq (r j).num (pos 0)).0 e) in
    record {
      there = rest.there;
      signs = rest.signs;
      terms = λ k. rest.terms k ∙ sym (ap (λ v. v +ℚ spread r (j + 1) os k) (nowhere j k (r j) z) ∙ zero-+ℚ _);
      rhs = rest.rhs ∙ sym (ap (λ v. v +ℚ bounds_price r (j + 1) ss) (ap (λ v. v *ℚ whole (cond (int_lt (pos 0) (r j).num) s.lo s.hi)) z ∙ zero-*ℚ _) ∙ zero-+ℚ _);
    }
one_filled ls r j s o ss os one rest false e =
    let m : ℕ × ℚ = (cond (int_lt (pos 0) (r j).num) o.lower o.upper, r j) in
    record {
      there = All-cons (λ (m : ℕ × ℚ). m.0 < length ls) m (bound_multipliers r (j + 1) os) one.there rest.there;
      signs = All-cons (λ (m : ℕ × ℚ). HasRightSign G (row_at ls m.0).sense m.1) m (bound_multipliers r (j + 1) os) one.sign rest.signs;
      terms = λ k. C-cons ls m (bound_multipliers r (j + 1) os) k
          ∙ (λ i. (ap (λ ts. coefficient (scaled (r j) ts) k) one.terms ∙ +ℚ-zero _ ∙ ap (λ v. at_column j v k) (*ℚ_comm (r j) _ ∙ one-*ℚ (r j))) i +ℚ rest.terms k i);
      rhs = λ i. r j *ℚ one.rhs i +ℚ rest.rhs i;
    }

filled : (ls : List CertLine) (r : ℕ → ℚ) (j : ℕ) (ss : List Span) (os : List BoundSource) → AreSources ls j ss os → AreFillings ls r j ss os (bound_multipliers r j os)
filled ls r j [] [] h = record { there = All-nil (λ (m : ℕ × ℚ). m.0 < length ls); signs = All-nil (λ (m : ℕ × ℚ). HasRightSign G (row_at ls m.0).sense m.1); terms = λ k. refl; rhs = refl }
filled ls r j [] (o ∷ os) h = absurd h
filled ls r j (s ∷ ss) [] h = absurd h
filled ls r j (s ∷ ss) (o ∷ os) h =
    one_filled ls r j s o ss os (fills ls j s o (r j) h.0) (filled ls r (j + 1) ss os h.1) (int_eq (r j).num (pos 0)) refl

-- ---- a closed node
length-sources : (ls : List CertLine) (j : ℕ) (ss : List Span) (os : List BoundSource) → AreSources ls j ss os → length os ≡ length ss
length-sources ls j [] [] h = refl
length-sources ls j [] (o ∷ os) h = absurd h
length-sources ls j (s ∷ ss) [] h = absurd h
length-sources ls j (s ∷ ss) (o ∷ os) h = ap suc (length-sources ls (j + 1) ss os h.1)

restored : (a b : ℚ) → (a +ℚ neg_ℚ b) +ℚ b ≡ a
restored a b = +ℚ_assoc _ _ _ ∙ ap (λ v. a +ℚ v) (neg-+ℚ b) ∙ +ℚ-zero a

pub closes : ClosingsClose
closes ls target mult ss os h c t u =
    let r = reduced_cost target (combined_terms ls mult) in
    let f = filled ls r 0 ss os h in
    record {
      combined = record {
        earlier = All-all_placed (λ (m : ℕ × ℚ). m.0 < length ls) (bound_multipliers r 0 os) mult f.there c.earlier;
        signs = All-all_placed (λ (m : ℕ × ℚ). HasRightSign G (row_at ls m.0).sense m.1) (bound_multipliers r 0 os) mult f.signs c.signs;
      };
      terms = λ k. C-all_placed ls (bound_multipliers r 0 os) mult k ∙ ap (λ v. v +ℚ C ls mult k) (f.terms k) ∙ column k (cases_lt k (length ss));
      rhs = rhs-all_placed ls (bound_multipliers r 0 os) mult ∙ ap (λ v. v +ℚ combined_rhs ls mult) f.rhs ∙ +ℚ_comm _ _;
    }
  where
    column : (k : ℕ) → (k < length ss) ⊎ (length ss ≤ k) → spread (reduced_cost target (combined_terms ls mult)) 0 os k +ℚ C ls mult k ≡ coefficient target k
    column k (inl l) = ap (λ v. v +ℚ C ls mult k) (spread-at (reduced_cost target (combined_terms ls mult)) 0 os k (omega arith) (omega (arith, length-sources ls 0 ss os h))) ∙ restored (coefficient target k) (C ls mult k)
    column k (inr l) = (λ i. spread-behind (reduced_cost target (combined_terms ls mult)) 0 os k (omega (arith, length-sources ls 0 ss os h)) i +ℚ beyond (length ss) (combined_terms ls mult) k u l i)
        ∙ zero-+ℚ _ ∙ sym (beyond (length ss) target k t l)
