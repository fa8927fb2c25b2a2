-- Lemmas: the exact algebra of one row in a pivot.
use Rattle.std.proofs.Common.{◌≡◌, ℕ, zero, suc, ◌<◌, arith, refl, ap, sym, ◌∙◌, Bool, true, false, Option, Some, None, List, [], ◌∷◌, length, get_or, set}
use Rattle.std.specs.Prelude.{ℤ, pos, negsuc, nat_abs, if◌then◌else◌}
use Rattle.std.specs.Option.{option_map}
use Rattle.std.proofs.lemmas.Grind.{common_steps}
use Rattle.std.proofs.lemmas.List.{length-set, get_or-set_other}
use Rattle.std.specs.Ordering.{int_eq}
use Rattle.fraction.specs.Checked.{add_checked, mul_checked}
use Rattle.fraction.specs.Lemmas.Bounds.{dot_value, value_from_add, value_from_mul, was_some, was_mapped}
use Rattle.fraction.specs.Lemmas.Rational.{*ℚ_assoc, *ℚ_comm, +ℚ_assoc, +ℚ_comm, lit_one, mul-inv_ℚ, neg-+ℚ, neg_ℚ-frac, one-*ℚ, zero-*ℚ, zero-+ℚ, divided}
use Rattle.fraction.specs.Lemmas.Ring.{+ℚ-mul, ring_ℚ, +ℚ-zero, *ℚ-zero}
use Rattle.fraction.specs.Rational.{inv_ℚ, neg_ℚ, whole, ℚ, ◌*ℚ◌, ◌+ℚ◌}
use Rattle.tableau.specs.Elimination.{add_multiple, add_multiple_of_row, negative_quotient, negative_quotients, solved_for, substituted, zero_ℚ}

-- the number minus one
abbrev pub minus_one : ℚ
minus_one = whole (negsuc 0)

-- ---- algebra
pub cancelled : (a b d : ℚ) → a +ℚ d ≡ zero_ℚ → d +ℚ b ≡ zero_ℚ → a ≡ b
cancelled a b d e f = sym (+ℚ-zero a) ∙ ap (λ z. a +ℚ z) (sym f) ∙ sym (+ℚ_assoc a d b) ∙ ap (λ z. z +ℚ b) e ∙ zero-+ℚ b

-- ---- operations that aren't cramped are exact
pub add_multiple_is : (q t s d : ℚ) → add_multiple q t s ≡ Some d → d ≡ t +ℚ q *ℚ s
add_multiple_is q t s d e =
    let a = was_some (λ p. add_checked t p) (mul_checked q s) d e in
    sym (value_from_add t a.0 d a.2) ∙ ap (λ z. t +ℚ z) (sym (value_from_mul q s a.0 a.1))

pub negative_quotient_is : (p t d : ℚ) → 0 < nat_abs p.num → negative_quotient p t ≡ Some d → d *ℚ p +ℚ t ≡ zero_ℚ
negative_quotient_is p t d h e =
    ap (λ z. z *ℚ p +ℚ t) (sym (value_from_mul (neg_ℚ t) (inv_ℚ p) d e))
    ∙ ap (λ z. z +ℚ t) (*ℚ_assoc (neg_ℚ t) (inv_ℚ p) p ∙ ap (λ z. neg_ℚ t *ℚ z) (*ℚ_comm (inv_ℚ p) p ∙ mul-inv_ℚ p h) ∙ *ℚ_comm _ _ ∙ one-*ℚ (neg_ℚ t))
    ∙ neg-+ℚ t

one_less : whole (pos 1) +ℚ minus_one ≡ zero_ℚ
one_less = ap (λ z. z +ℚ minus_one) (sym (neg_less)) ∙ neg-+ℚ minus_one
  where
    neg_less : neg_ℚ minus_one ≡ whole (pos 1)
    neg_less = neg_ℚ-frac (negsuc 0) 1 lit_one

pub less_one : minus_one +ℚ whole (pos 1) ≡ zero_ℚ
less_one = +ℚ_comm _ _ ∙ one_less

-- ---- sums over a row
front : (v y r t : ℚ) → (v *ℚ y +ℚ r) +ℚ t *ℚ y ≡ (t *ℚ y +ℚ r) +ℚ v *ℚ y
front v y r t = simp ring_ℚ

-- one coefficient of the row changed
pub dot-set : (row x : List ℚ) (c : ℕ) (v : ℚ) → length row ≡ length x → c < length row
    → dot_value (set row c v) x +ℚ get_or row c zero_ℚ *ℚ get_or x c zero_ℚ ≡ dot_value row x +ℚ v *ℚ get_or x c zero_ℚ
dot-set [] x c v l h = absurd (omega arith)
dot-set (t ∷ ts) [] c v l h = absurd (omega arith)
dot-set (t ∷ ts) (y ∷ ys) zero v l h = front v y (dot_value ts ys) t
dot-set (t ∷ ts) (y ∷ ys) (suc c) v l h =
    +ℚ_assoc (t *ℚ y) _ _ ∙ ap (λ z. t *ℚ y +ℚ z) (dot-set ts ys c v (omega arith) (omega arith)) ∙ sym (+ℚ_assoc (t *ℚ y) _ _)

pub dot-add_multiple : (q : ℚ) (ts ss ds x : List ℚ) → length ts ≡ length ss → add_multiple_of_row q ts ss ≡ Some ds → dot_value ds x ≡ dot_value ts x +ℚ q *ℚ dot_value ss x
dot-add_multiple q [] [] ds x l e = let f : [] ≡ ds = cc in rw (← f) (sym (ap (λ z. zero_ℚ +ℚ z) (*ℚ-zero q) ∙ zero-+ℚ zero_ℚ))
dot-add_multiple q [] (s ∷ ss) ds x l e = absurd (omega arith)
dot-add_multiple q (t ∷ ts) [] ds x l e = absurd (omega arith)
dot-add_multiple q (t ∷ ts) (s ∷ ss) ds x l e =
    let a = was_some (λ d. option_map (λ ds. d ∷ ds) (add_multiple_of_row q ts ss)) (add_multiple q t s) ds e in
    let b = was_mapped (λ ds. a.0 ∷ ds) (add_multiple_of_row q ts ss) ds a.2 in
    rw (← b.2) (at t s a.0 ts ss b.0 x (add_multiple_is q t s a.0 a.1) (λ x. dot-add_multiple q ts ss b.0 x (omega arith) b.1))
  where
    sums : (t s y u v : ℚ) → (t +ℚ q *ℚ s) *ℚ y +ℚ (u +ℚ q *ℚ v) ≡ (t *ℚ y +ℚ u) +ℚ q *ℚ (s *ℚ y +ℚ v)
    sums t s y u v = simp ring_ℚ

    at : (t s d : ℚ) (ts ss ds x : List ℚ) → d ≡ t +ℚ q *ℚ s → ((x : List ℚ) → dot_value ds x ≡ dot_value ts x +ℚ q *ℚ dot_value ss x)
        → dot_value (d ∷ ds) x ≡ dot_value (t ∷ ts) x +ℚ q *ℚ dot_value (s ∷ ss) x
    at t s d ts ss ds [] e h = sym (ap (λ z. zero_ℚ +ℚ z) (*ℚ-zero q) ∙ zero-+ℚ zero_ℚ)
    at t s d ts ss ds (y ∷ ys) e h = rw (e, h ys) (sums t s y (dot_value ts ys) (dot_value ss ys))

pub dot-negative_quotients : (p : ℚ) (ts ds x : List ℚ) → 0 < nat_abs p.num → negative_quotients p ts ≡ Some ds → dot_value ds x *ℚ p +ℚ dot_value ts x ≡ zero_ℚ
dot-negative_quotients p [] ds x h e = let f : [] ≡ ds = cc in rw (← f) (ap (λ z. z +ℚ zero_ℚ) (zero-*ℚ p) ∙ zero-+ℚ zero_ℚ)
dot-negative_quotients p (t ∷ ts) ds x h e =
    let a = was_some (λ d. option_map (λ ds. d ∷ ds) (negative_quotients p ts)) (negative_quotient p t) ds e in
    let b = was_mapped (λ ds. a.0 ∷ ds) (negative_quotients p ts) ds a.2 in
    rw (← b.2) (at t a.0 ts b.0 x (negative_quotient_is p t a.0 h a.1) (λ x. dot-negative_quotients p ts b.0 x h b.1))
  where
    parts : (d t y u v : ℚ) → (d *ℚ y +ℚ u) *ℚ p +ℚ (t *ℚ y +ℚ v) ≡ (d *ℚ p +ℚ t) *ℚ y +ℚ (u *ℚ p +ℚ v)
    parts d t y u v = simp ring_ℚ

    at : (t d : ℚ) (ts ds x : List ℚ) → d *ℚ p +ℚ t ≡ zero_ℚ → ((x : List ℚ) → dot_value ds x *ℚ p +ℚ dot_value ts x ≡ zero_ℚ)
        → dot_value (d ∷ ds) x *ℚ p +ℚ dot_value (t ∷ ts) x ≡ zero_ℚ
    at t d ts ds [] e h = ap (λ z. z +ℚ zero_ℚ) (zero-*ℚ p) ∙ zero-+ℚ zero_ℚ
    at t d ts ds (y ∷ ys) e h = parts _ _ y _ _ ∙ (λ i. e i *ℚ y +ℚ h ys i) ∙ ap (λ z. z +ℚ zero_ℚ) (zero-*ℚ y) ∙ zero-+ℚ zero_ℚ

-- ---- the two steps of a pivot
-- where `new` says of x what x_c is, the substitution keeps what a row says
pub substituted_keeps : (c : ℕ) (new row row' x : List ℚ) → length row ≡ length x → length new ≡ length x → c < length row
    → dot_value new x ≡ get_or x c zero_ℚ → substituted c new row ≡ Some row' → dot_value row' x ≡ dot_value row x
substituted_keeps c new row row' x l m h n e =
    dot-add_multiple (get_or row c zero_ℚ) (set row c zero_ℚ) new row' x (length_set row c zero_ℚ ∙ l ∙ sym m) e
    ∙ ap (λ z. dot_value (set row c zero_ℚ) x +ℚ get_or row c zero_ℚ *ℚ z) n
    ∙ dot-set row x c zero_ℚ l h ∙ ap (λ z. dot_value row x +ℚ z) (zero-*ℚ _) ∙ +ℚ-zero _
  where
    length_set : (row : List ℚ) (c : ℕ) (v : ℚ) → length (set row c v) ≡ length row
    length_set row c v = grind (arith, common_steps)

pub length-negative_quotients : (p : ℚ) (ts ds : List ℚ) → negative_quotients p ts ≡ Some ds → length ds ≡ length ts
length-negative_quotients p [] ds e = let f : [] ≡ ds = cc in ap length (sym f)
length-negative_quotients p (t ∷ ts) ds e =
    let a = was_some (λ d. option_map (λ ds. d ∷ ds) (negative_quotients p ts)) (negative_quotient p t) ds e in
    let b = was_mapped (λ ds. a.0 ∷ ds) (negative_quotients p ts) ds a.2 in
    rw (← b.2) (ap suc (length-negative_quotients p ts b.0 b.1))

-- the row of r, in which r itself has no part, solved for c: with D the sum before the division, E that of the new row
-- D + p x_c = row - x_r,  E p + D = 0
new_from_row : (p dd ee row xr xc : ℚ) → 0 < nat_abs p.num → ee *ℚ p +ℚ dd ≡ zero_ℚ → dd +ℚ p *ℚ xc ≡ row +ℚ whole (negsuc 0) *ℚ xr → row +ℚ whole (negsuc 0) *ℚ xr ≡ zero_ℚ → ee ≡ xc
new_from_row p dd ee row xr xc h e f g = divided p ee xc h (cancelled (ee *ℚ p) (xc *ℚ p) dd e (ap (λ z. dd +ℚ z) (*ℚ_comm xc p) ∙ f ∙ g))

row_from_new : (p dd ee row xr xc : ℚ) → ee *ℚ p +ℚ dd ≡ zero_ℚ → dd +ℚ p *ℚ xc ≡ row +ℚ whole (negsuc 0) *ℚ xr → ee ≡ xc → row +ℚ whole (negsuc 0) *ℚ xr ≡ zero_ℚ
row_from_new p dd ee row xr xc e f g = sym f ∙ +ℚ_comm dd _ ∙ ap (λ z. z +ℚ dd) (*ℚ_comm p xc ∙ ap (λ z. z *ℚ p) (sym g)) ∙ e

pub nonzero : (z : ℤ) → int_eq z (pos 0) ≡ false → 0 < nat_abs z
nonzero (pos zero) e = cc
nonzero (pos (suc n)) e = omega arith
nonzero (negsuc n) e = omega arith

unless : {A : Type 0} (b : Bool) (o : Option A) (v : A) → (if b then None else o) ≡ Some v → (b ≡ false) × (o ≡ Some v)
unless true o v e = cc
unless false o v e = (refl, e)

pub solved_for_parts : (r c : ℕ) (row new : List ℚ) → solved_for r c row ≡ Some new
    → (0 < nat_abs (get_or row c zero_ℚ).num) × (negative_quotients (get_or row c zero_ℚ) (set (set row r minus_one) c zero_ℚ) ≡ Some new)
solved_for_parts r c row new e =
    let u = unless (int_eq (get_or row c zero_ℚ).num (pos 0)) (negative_quotients (get_or row c zero_ℚ) (set (set row r minus_one) c zero_ℚ)) new e in
    (nonzero (get_or row c zero_ℚ).num u.0, u.1)

-- what is divided, at x
solving_sum : (r c : ℕ) (row x : List ℚ) → length row ≡ length x → r < length row → c < length row → (c ≡ r → ⊥) → get_or row r zero_ℚ ≡ zero_ℚ
    → dot_value (set (set row r minus_one) c zero_ℚ) x +ℚ get_or row c zero_ℚ *ℚ get_or x c zero_ℚ ≡ dot_value row x +ℚ minus_one *ℚ get_or x r zero_ℚ
solving_sum r c row x l h k d z =
    let a = dot-set (set row r minus_one) x c zero_ℚ (length-set row r minus_one ∙ l) (rw length-set k) in
    let b = dot-set row x r minus_one l h in
    ap (λ w. dot_value (set (set row r minus_one) c zero_ℚ) x +ℚ w *ℚ get_or x c zero_ℚ) (sym (get_or-set_other row r c minus_one zero_ℚ d))
    ∙ a ∙ ap (λ w. dot_value (set row r minus_one) x +ℚ w) (zero-*ℚ _) ∙ ap (λ w. dot_value (set row r minus_one) x +ℚ w) (sym (zero-*ℚ (get_or x r zero_ℚ)))
    ∙ ap (λ w. dot_value (set row r minus_one) x +ℚ w *ℚ get_or x r zero_ℚ) (sym z) ∙ b

-- the new row says of x what x_c is, exactly where the old one says what x_r is
pub solved_for_says : (r c : ℕ) (row new x : List ℚ) → length row ≡ length x → r < length row → c < length row → (c ≡ r → ⊥) → get_or row r zero_ℚ ≡ zero_ℚ
    → solved_for r c row ≡ Some new → dot_value row x ≡ get_or x r zero_ℚ → dot_value new x ≡ get_or x c zero_ℚ
solved_for_says r c row new x l h k d z e s =
    let p = solved_for_parts r c row new e in
    new_from_row (get_or row c zero_ℚ) _ (dot_value new x) (dot_value row x) (get_or x r zero_ℚ) (get_or x c zero_ℚ) p.0
    (dot-negative_quotients _ _ new x p.0 p.1) (solving_sum r c row x l h k d z) (gone (dot_value row x) (get_or x r zero_ℚ) s)
  where
    gone : (a b : ℚ) → a ≡ b → a +ℚ minus_one *ℚ b ≡ zero_ℚ
    gone a b e = ap (λ z. z +ℚ minus_one *ℚ b) (e ∙ sym (one-*ℚ b)) ∙ sym (+ℚ-mul _ minus_one b) ∙ ap (λ z. z *ℚ b) one_less ∙ zero-*ℚ b

pub row_says : (r c : ℕ) (row new x : List ℚ) → length row ≡ length x → r < length row → c < length row → (c ≡ r → ⊥) → get_or row r zero_ℚ ≡ zero_ℚ
    → solved_for r c row ≡ Some new → dot_value new x ≡ get_or x c zero_ℚ → dot_value row x ≡ get_or x r zero_ℚ
row_says r c row new x l h k d z e s =
    let p = solved_for_parts r c row new e in
    cancelled (dot_value row x) (get_or x r zero_ℚ) (minus_one *ℚ get_or x r zero_ℚ)
    (row_from_new (get_or row c zero_ℚ) _ (dot_value new x) (dot_value row x) (get_or x r zero_ℚ) (get_or x c zero_ℚ)
    (dot-negative_quotients _ _ new x p.0 p.1) (solving_sum r c row x l h k d z) s)
    (gone (get_or x r zero_ℚ))
  where
    gone : (b : ℚ) → minus_one *ℚ b +ℚ b ≡ zero_ℚ
    gone b = ap (λ z. minus_one *ℚ b +ℚ z) (sym (one-*ℚ b)) ∙ sym (+ℚ-mul minus_one _ b) ∙ ap (λ z. z *ℚ b) less_one ∙ zero-*ℚ b
