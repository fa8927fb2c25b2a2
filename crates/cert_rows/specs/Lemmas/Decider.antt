-- Validity is decided by a test that computes.
use Rattle.std.specs.Prelude.{◌≡◌, ◌⊎◌, ◌<◌, ◌++◌, ℕ, zero, suc, ℤ, pos, ◌*ℤ◌, ◌≤ℤ◌, ◌<ℤ◌, int_le, Bool, true, false, cond, not, ◌&&◌, ◌||◌, nat_lt, eqb, List, [], ◌∷◌, map, length, All, Any, slice_index_or, refl}
use Rattle.std.specs.List.{list_all, list_any}
use Rattle.std.specs.Bool.{Decides}
use Rattle.std.specs.Ordering.{int_eq}
use Rattle.std.proofs.Common.{sym, ap, ◌∙◌, subst, inl, inr, arith}
use Rattle.std.proofs.lemmas.Int.{ints}
use Rattle.std.proofs.lemmas.Bool.{eqb-true, false≢true}
use Rattle.std.proofs.lemmas.Bool.Decides.{Decides-like, Decides-not, Decides-and, Decides-or, Decides-eqb, Decides-ltb, Decides-by_and}
use Rattle.std.proofs.lemmas.List.Elements.{All-head, All-tail}
use Rattle.fraction.specs.Gcd.{gcd, gcd_within}
use Rattle.fraction.specs.Rational.{ℚ, whole, frac, ◌+ℚ◌, ◌≤ℚ◌}
use Rattle.fraction.specs.Lemmas.Rational.{ℚ_equal, zero-+ℚ}
use Rattle.fraction.specs.Order.{◌<ℚ◌}
use Rattle.problem_box.specs.Boxes.{is_in_box}
use Rattle.problem_box.specs.Lemmas.Boxes.{Decides-int_le, Decides-in_box}
use Rattle.problem.specs.declared.row.Sense.{Sense}
use Rattle.problem.specs.declared.row.Sense.TheVariants.{G, L, E}
use Rattle.problem.specs.declared.row.Row.{Row}
use Rattle.problem.specs.declared.objective_sense.ObjectiveSense.{ObjectiveSense}
use Rattle.problem.specs.declared.objective_sense.ObjectiveSense.TheVariants.{Minimise, Maximise}
use Rattle.problem.specs.Linear.{value, coefficient, SameCoefficients}
use Rattle.problem.specs.Rows.{Compares, Satisfies}
use Rattle.problem.specs.Problem.{Problem}
use Rattle.problem.specs.Feasible.{IsFeasible, objective_at}
use Rattle.cert_rows.specs.declared.line.CertRow.{CertRow}
use Rattle.cert_rows.specs.declared.line.Why.{Why}
use Rattle.cert_rows.specs.declared.line.Why.TheVariants.{Asm, Lin, Rnd, Uns}
use Rattle.cert_rows.specs.declared.certificate.Goal.{Goal}
use Rattle.cert_rows.specs.declared.certificate.Goal.TheVariants.{Infeas, Range}
use Rattle.cert_rows.specs.declared.certificate.Cert.{Cert}
use Rattle.cert_rows.specs.Lines.{CertLine, row_of, row_at, assumed_by}
use Rattle.cert_rows.specs.Combination.{HasRightSign, combination}
use Rattle.cert_rows.specs.Domination.{ExcludesZero, IsAbsurd, IsAsTight, IsStronger, Dominates}
use Rattle.cert_rows.specs.Validity.{IsCombination, HasWholeCoefficients, rounded, IsAssumption, IsSplit, IsLinear, IsRounded, IsInequality, IsUnsplit, Follows, derived_line_of, AllFollow, bound_rows, given_lines, last_row, last_assumed, objective_row, ShowsRange, ShowsClaim, IsValid}
use Rattle.fraction.specs.Whole.{IsWhole}

pub never : {P : Type 0} → (P → ⊥) → Decides false P
never f = (λ e. absurd (false≢true e), λ p. absurd (f p))

pub always : {P : Type 0} → P → Decides true P
always p = (λ _. p, λ _. refl)

-- ---- numbers
abbrev q_le : ℚ → ℚ → Bool
q_le x y = int_le (x.num *ℤ pos y.den) (y.num *ℤ pos x.den)

decides-q_le : (x y : ℚ) → Decides (q_le x y) (x ≤ℚ y)
unfolding ◌≤ℚ◌
decides-q_le x y = Decides-int_le _ _

abbrev q_lt : ℚ → ℚ → Bool
q_lt x y = not (q_le y x)

lt_from_not : (a b : ℤ) → (b ≤ℤ a → ⊥) → a <ℤ b
lt_from_not a b h = elim (either a b) [ inl k ↦ absurd (h k) | inr k ↦ k ]
  where
    either : (a b : ℤ) → (b ≤ℤ a) ⊎ (a <ℤ b)
    either a b = grind (arith, ints)

decides-q_lt : (x y : ℚ) → Decides (q_lt x y) (x <ℚ y)
unfolding ◌<ℚ◌ ◌≤ℚ◌
decides-q_lt x y = Decides-like _ (λ h. lt_from_not _ _ h) (λ k h. omega (arith, ints)) (Decides-not (q_le y x) (decides-q_le y x))

abbrev q_eq : ℚ → ℚ → Bool
q_eq x y = int_eq x.num y.num && eqb x.den y.den

-- ---- lists
abbrev lists_eq : {A : Type 0} → (A → A → Bool) → List A → List A → Bool
lists_eq eq [] [] = true
lists_eq eq [] (y ∷ ys) = false
lists_eq eq (x ∷ xs) [] = false
lists_eq eq (x ∷ xs) (y ∷ ys) = eq x y && lists_eq eq xs ys

decides-lists : {A : Type 0} (eq : A → A → Bool) → ((x y : A) → Decides (eq x y) (x ≡ y)) → (xs ys : List A) → Decides (lists_eq eq xs ys) (xs ≡ ys)
decides-lists eq each [] [] = always refl
decides-lists eq each [] (y ∷ ys) = never (λ e. cc)
decides-lists eq each (x ∷ xs) [] = never (λ e. cc)
decides-lists eq each (x ∷ xs) (y ∷ ys) =
    Decides-like _ (λ p. λ i. p.0 i ∷ p.1 i) (λ e. ((cc), (cc))) (Decides-and (eq x y) (lists_eq eq xs ys) (each x y) (decides-lists eq each xs ys))

pub decides-all : {A : Type 0} (p : A → Bool) (P : A → Type 0) → ((x : A) → Decides (p x) (P x)) → (xs : List A) → Decides (list_all p xs) (All P xs)
decides-all p P each xs = Decides-by_and p P (list_all p) each refl (λ _ _. refl) xs

decides-any : {A : Type 0} (p : A → Bool) (P : A → Type 0) → ((x : A) → Decides (p x) (P x)) → (xs : List A) → Decides (list_any p xs) (Any P xs)
decides-any p P each [] = never (λ a. absurd (omega (arith, a.2)))
decides-any {A = A} p P each (x ∷ xs) = Decides-like _ forth back (Decides-or (p x) (list_any p xs) (each x) (decides-any p P each xs))
  where
    forth : P x ⊎ Any P xs → Any P (x ∷ xs)
    forth (inl h) = (zero, x, omega arith, refl, h)
    forth (inr a) = (suc a.0, a.1, omega (arith, a.2), a.3, a.4)

    here : (k : ℕ) (y : A) → k < length (x ∷ xs) → slice_index_or (x ∷ xs) k y ≡ y → P y → P x ⊎ Any P xs
    here zero y l e h = inl (subst P (sym e) h)
    here (suc k) y l e h = inr (k, y, omega (arith, l), e, h)

    back : Any P (x ∷ xs) → P x ⊎ Any P xs
    back a = here a.0 a.1 a.2 a.3 a.4

-- ---- rows
abbrev sense_eq : Sense → Sense → Bool
sense_eq G G = true
sense_eq L L = true
sense_eq E E = true
sense_eq s t = false

decides-sense : (s t : Sense) → Decides (sense_eq s t) (s ≡ t)
decides-sense G G = always refl
decides-sense G L = never (λ e. cc)
decides-sense G E = never (λ e. cc)
decides-sense L G = never (λ e. cc)
decides-sense L L = always refl
decides-sense L E = never (λ e. cc)
decides-sense E G = never (λ e. cc)
decides-sense E L = never (λ e. cc)
decides-sense E E = always refl

abbrev term_eq : ℕ × ℚ → ℕ × ℚ → Bool
term_eq t u = eqb t.0 u.0 && q_eq t.1 u.1

decides-term : (t u : ℕ × ℚ) → Decides (term_eq t u) (t ≡ u)
decides-term t u = Decides-like _ (λ p. λ i. (p.0 i, p.1 i)) (λ e. (ap (λ (v : ℕ × ℚ). v.0) e, ap (λ (v : ℕ × ℚ). v.1) e))
    (Decides-and (eqb t.0 u.0) (q_eq t.1 u.1) (Decides-eqb t.0 u.0) (ℚ_equal t.1 u.1))

abbrev terms_eq : List (ℕ × ℚ) → List (ℕ × ℚ) → Bool
terms_eq = lists_eq term_eq

abbrev row_eq : Row → Row → Bool
row_eq a b = sense_eq a.sense b.sense && (q_eq a.rhs b.rhs && terms_eq a.terms b.terms)

decides-row : (a b : Row) → Decides (row_eq a b) (a ≡ b)
decides-row a b = Decides-like _ (λ p. λ i. record { sense = p.0 i; rhs = p.1.0 i; terms = p.1.1 i })
    (λ e. (ap (λ (r : Row). r.sense) e, (ap (λ (r : Row). r.rhs) e, ap (λ (r : Row). r.terms) e)))
    (Decides-and (sense_eq a.sense b.sense) (q_eq a.rhs b.rhs && terms_eq a.terms b.terms) (decides-sense a.sense b.sense)
    (Decides-and (q_eq a.rhs b.rhs) (terms_eq a.terms b.terms) (ℚ_equal a.rhs b.rhs) (decides-lists term_eq decides-term a.terms b.terms)))

abbrev compares : Sense → ℚ → ℚ → Bool
compares G rhs v = q_le rhs v
compares L rhs v = q_le v rhs
compares E rhs v = q_eq v rhs

decides-compares : (s : Sense) (rhs v : ℚ) → Decides (compares s rhs v) (Compares s rhs v)
decides-compares G rhs v = decides-q_le rhs v
decides-compares L rhs v = decides-q_le v rhs
decides-compares E rhs v = ℚ_equal v rhs

-- what holds at the columns of terms, or the coefficient is 0
at_columns : (P : ℕ → Type 0) (vs : List (ℕ × ℚ)) → All (λ t. P t.0) vs → (j : ℕ) → P j ⊎ (coefficient vs j ≡ whole (pos 0))
at_columns P [] h j = inr refl
at_columns P (t ∷ vs) h j =
    step (eqb t.0 j) (eqb-true t.0 j) (All-head (λ (t : ℕ × ℚ). P t.0) t vs h) (at_columns P vs (All-tail (λ (t : ℕ × ℚ). P t.0) t vs h) j)
  where
    step : (b : Bool) → (b ≡ true → t.0 ≡ j) → P t.0 → P j ⊎ (coefficient vs j ≡ whole (pos 0)) → P j ⊎ (cond b t.1 (whole (pos 0)) +ℚ coefficient vs j ≡ whole (pos 0))
    step true e p r = inl (subst P (e refl) p)
    step false e p (inl q) = inl q
    step false e p (inr z) = inr (zero-+ℚ _ ∙ z)

abbrev same_at : List (ℕ × ℚ) → List (ℕ × ℚ) → ℕ × ℚ → Bool
same_at ts us t = q_eq (coefficient ts t.0) (coefficient us t.0)

abbrev SameAt : List (ℕ × ℚ) → List (ℕ × ℚ) → ℕ → Type 0
SameAt ts us j = coefficient ts j ≡ coefficient us j

abbrev same_coefficients : List (ℕ × ℚ) → List (ℕ × ℚ) → Bool
same_coefficients ts us = list_all (same_at ts us) ts && list_all (same_at ts us) us

decides-same : (ts us : List (ℕ × ℚ)) → Decides (same_coefficients ts us) (SameCoefficients ts us)
decides-same ts us = Decides-like _ forth back
    (Decides-and (list_all (same_at ts us) ts) (list_all (same_at ts us) us)
    (decides-all (same_at ts us) (λ t. SameAt ts us t.0) (λ t. ℚ_equal _ _) ts) (decides-all (same_at ts us) (λ t. SameAt ts us t.0) (λ t. ℚ_equal _ _) us))
  where
    forth : All (λ (t : ℕ × ℚ). SameAt ts us t.0) ts × All (λ (t : ℕ × ℚ). SameAt ts us t.0) us → SameCoefficients ts us
    forth h j = elim (at_columns (SameAt ts us) ts h.0 j) [ inl e ↦ e | inr z ↦ elim (at_columns (SameAt ts us) us h.1 j) [ inl e ↦ e | inr y ↦ z ∙ sym y ] ]

    back : SameCoefficients ts us → All (λ (t : ℕ × ℚ). SameAt ts us t.0) ts × All (λ (t : ℕ × ℚ). SameAt ts us t.0) us
    back h = ((λ k d l. h _), (λ k d l. h _))

whole_zero : IsWhole (whole (pos 0))
unfolding frac gcd gcd_within
whole_zero = refl

abbrev whole_coefficients : Row → Bool
whole_coefficients r = list_all (λ t. eqb (coefficient r.terms t.0).den 1) r.terms

decides-whole : (r : Row) → Decides (whole_coefficients r) (HasWholeCoefficients r)
decides-whole r = Decides-like _ forth back (decides-all (λ t. eqb (coefficient r.terms t.0).den 1) (λ t. IsWhole (coefficient r.terms t.0)) (λ t. Decides-eqb _ _) r.terms)
  where
    forth : All (λ (t : ℕ × ℚ). IsWhole (coefficient r.terms t.0)) r.terms → HasWholeCoefficients r
    forth h j = elim (at_columns (λ j. IsWhole (coefficient r.terms j)) r.terms h j) [ inl e ↦ e | inr z ↦ subst IsWhole (sym z) whole_zero ]

    back : HasWholeCoefficients r → All (λ (t : ℕ × ℚ). IsWhole (coefficient r.terms t.0)) r.terms
    back h = λ k d l. h _

-- ---- combination and domination
abbrev right_sign : Sense → Sense → ℚ → Bool
right_sign G G m = q_le (whole (pos 0)) m
right_sign G L m = q_le m (whole (pos 0))
right_sign L L m = q_le (whole (pos 0)) m
right_sign L G m = q_le m (whole (pos 0))
right_sign s E m = true
right_sign E s m = false

decides-sign : (s t : Sense) (m : ℚ) → Decides (right_sign s t m) (HasRightSign s t m)
decides-sign G G m = decides-q_le _ _
decides-sign G L m = decides-q_le _ _
decides-sign G E m = always tt
decides-sign L G m = decides-q_le _ _
decides-sign L L m = decides-q_le _ _
decides-sign L E m = always tt
decides-sign E G m = never (λ h. h)
decides-sign E L m = never (λ h. h)
decides-sign E E m = always tt

abbrev excludes_zero : Sense → ℚ → Bool
excludes_zero G rhs = q_lt (whole (pos 0)) rhs
excludes_zero L rhs = q_lt rhs (whole (pos 0))
excludes_zero E rhs = false

decides-excludes : (s : Sense) (rhs : ℚ) → Decides (excludes_zero s rhs) (ExcludesZero s rhs)
decides-excludes G rhs = decides-q_lt _ _
decides-excludes L rhs = decides-q_lt _ _
decides-excludes E rhs = never (λ h. h)

abbrev is_absurd : Row → Bool
is_absurd r = same_coefficients r.terms [] && excludes_zero r.sense r.rhs

decides-absurd : (r : Row) → Decides (is_absurd r) (IsAbsurd r)
decides-absurd r = Decides-like _ (λ p. record { no_terms = p.0; excludes = p.1 }) (λ h. (h.no_terms, h.excludes))
    (Decides-and (same_coefficients r.terms []) (excludes_zero r.sense r.rhs) (decides-same r.terms []) (decides-excludes r.sense r.rhs))

abbrev as_tight : Sense → ℚ → ℚ → Bool
as_tight G a b = q_le b a
as_tight L a b = q_le a b
as_tight E a b = false

decides-tight : (s : Sense) (a b : ℚ) → Decides (as_tight s a b) (IsAsTight s a b)
decides-tight G a b = decides-q_le b a
decides-tight L a b = decides-q_le a b
decides-tight E a b = never (λ h. h)

abbrev is_stronger : Row → Row → Bool
is_stronger a b = sense_eq a.sense b.sense && (same_coefficients a.terms b.terms && as_tight b.sense a.rhs b.rhs)

decides-stronger : (a b : Row) → Decides (is_stronger a b) (IsStronger a b)
decides-stronger a b = Decides-like _ (λ p. record { sense = p.0; terms = p.1.0; rhs = p.1.1 }) (λ h. (h.sense, (h.terms, h.rhs)))
    (Decides-and (sense_eq a.sense b.sense) (same_coefficients a.terms b.terms && as_tight b.sense a.rhs b.rhs) (decides-sense a.sense b.sense)
    (Decides-and (same_coefficients a.terms b.terms) (as_tight b.sense a.rhs b.rhs) (decides-same a.terms b.terms) (decides-tight b.sense a.rhs b.rhs)))

abbrev dominates : Row → Row → Bool
dominates a b = is_absurd a || is_stronger a b

decides-dominates : (a b : Row) → Decides (dominates a b) (Dominates a b)
decides-dominates a b = Decides-or (is_absurd a) (is_stronger a b) (decides-absurd a) (decides-stronger a b)

-- ---- lines
abbrev is_combination : List CertLine → Sense → List (ℕ × ℚ) → Bool
is_combination ls s mult = list_all (λ m. nat_lt m.0 (length ls)) mult && list_all (λ m. right_sign s (row_at ls m.0).sense m.1) mult

decides-combination : (ls : List CertLine) (s : Sense) (mult : List (ℕ × ℚ)) → Decides (is_combination ls s mult) (IsCombination ls s mult)
decides-combination ls s mult = Decides-like _ (λ p. record { earlier = p.0; signs = p.1 }) (λ h. (h.earlier, h.signs))
    (Decides-and (list_all (λ (m : ℕ × ℚ). nat_lt m.0 (length ls)) mult) (list_all (λ (m : ℕ × ℚ). right_sign s (row_at ls m.0).sense m.1) mult)
    (decides-all (λ (m : ℕ × ℚ). nat_lt m.0 (length ls)) (λ m. m.0 < length ls) (λ m. Decides-ltb _ _) mult)
    (decides-all (λ (m : ℕ × ℚ). right_sign s (row_at ls m.0).sense m.1) (λ m. HasRightSign s (row_at ls m.0).sense m.1) (λ m. decides-sign s (row_at ls m.0).sense m.1) mult))

abbrev pub is_linear : List CertLine → Row → List (ℕ × ℚ) → Bool
is_linear ls r mult = is_combination ls r.sense mult && dominates (combination r.sense ls mult) r

pub decides-linear : (ls : List CertLine) (r : Row) (mult : List (ℕ × ℚ)) → Decides (is_linear ls r mult) (IsLinear ls r mult)
decides-linear ls r mult = Decides-like _ (λ p. record { combined = p.0; dominates = p.1 }) (λ h. (h.combined, h.dominates))
    (Decides-and (is_combination ls r.sense mult) (dominates (combination r.sense ls mult) r) (decides-combination ls r.sense mult) (decides-dominates (combination r.sense ls mult) r))

abbrev is_rounded : List CertLine → Row → List (ℕ × ℚ) → Bool
is_rounded ls r mult = is_combination ls r.sense mult && (whole_coefficients (combination r.sense ls mult) && dominates (rounded (combination r.sense ls mult)) r)

decides-rounded : (ls : List CertLine) (r : Row) (mult : List (ℕ × ℚ)) → Decides (is_rounded ls r mult) (IsRounded ls r mult)
decides-rounded ls r mult =
    let c = combination r.sense ls mult in
    Decides-like _ (λ p. record { combined = p.0; whole_terms = p.1.0; dominates = p.1.1 }) (λ h. (h.combined, (h.whole_terms, h.dominates)))
    (Decides-and (is_combination ls r.sense mult) (whole_coefficients c && dominates (rounded c) r) (decides-combination ls r.sense mult)
    (Decides-and (whole_coefficients c) (dominates (rounded c) r) (decides-whole c) (decides-dominates (rounded c) r)))

abbrev is_assumption : List CertLine → ℕ → Bool
is_assumption ls i = nat_lt i (length ls) && lists_eq eqb (assumed_by ls i) (i ∷ [])

decides-assumption : (ls : List CertLine) (i : ℕ) → Decides (is_assumption ls i) (IsAssumption ls i)
decides-assumption ls i = Decides-like _ (λ p. record { earlier = p.0; itself = p.1 }) (λ h. (h.earlier, h.itself))
    (Decides-and (nat_lt i (length ls)) (lists_eq eqb (assumed_by ls i) (i ∷ [])) (Decides-ltb i (length ls)) (decides-lists eqb Decides-eqb (assumed_by ls i) (i ∷ [])))

abbrev pub is_split : Row → Row → Bool
is_split a b = sense_eq a.sense L && (sense_eq b.sense G && (same_coefficients a.terms b.terms && (whole_coefficients a && (eqb a.rhs.den 1 && q_eq b.rhs (a.rhs +ℚ whole (pos 1))))))

pub decides-split : (a b : Row) → Decides (is_split a b) (IsSplit a b)
decides-split a b = Decides-like _ (λ p. record { at_most = p.0; at_least = p.1.0; terms = p.1.1.0; whole_terms = p.1.1.1.0; whole_rhs = p.1.1.1.1.0; next_rhs = p.1.1.1.1.1 })
    (λ h. (h.at_most, (h.at_least, (h.terms, (h.whole_terms, (h.whole_rhs, h.next_rhs))))))
    (Decides-and _ _ (decides-sense a.sense L) (Decides-and _ _ (decides-sense b.sense G) (Decides-and _ _ (decides-same a.terms b.terms)
    (Decides-and _ _ (decides-whole a) (Decides-and _ _ (Decides-eqb a.rhs.den 1) (ℚ_equal b.rhs (a.rhs +ℚ whole (pos 1))))))))

abbrev is_inequality : Sense → Bool
is_inequality G = true
is_inequality L = true
is_inequality E = false

decides-inequality : (s : Sense) → Decides (is_inequality s) (IsInequality s)
decides-inequality G = always tt
decides-inequality L = always tt
decides-inequality E = never (λ h. h)

abbrev is_unsplit : List CertLine → Row → ℕ → ℕ → ℕ → ℕ → Bool
is_unsplit ls r i1 l1 i2 l2 =
    is_inequality r.sense && (nat_lt i1 (length ls) && (nat_lt i2 (length ls) && (dominates (row_at ls i1) r && (dominates (row_at ls i2) r
    && (is_assumption ls l1 && (is_assumption ls l2 && is_split (row_at ls l1) (row_at ls l2)))))))

decides-unsplit : (ls : List CertLine) (r : Row) (i1 l1 i2 l2 : ℕ) → Decides (is_unsplit ls r i1 l1 i2 l2) (IsUnsplit ls r i1 l1 i2 l2)
decides-unsplit ls r i1 l1 i2 l2 = Decides-like _
    (λ p. record { inequality = p.0; first_earlier = p.1.0; second_earlier = p.1.1.0; first_dominates = p.1.1.1.0; second_dominates = p.1.1.1.1.0; first_assumption = p.1.1.1.1.1.0; second_assumption = p.1.1.1.1.1.1.0; split = p.1.1.1.1.1.1.1 })
    (λ h. (h.inequality, (h.first_earlier, (h.second_earlier, (h.first_dominates, (h.second_dominates, (h.first_assumption, (h.second_assumption, h.split))))))))
    (Decides-and _ _ (decides-inequality r.sense) (Decides-and _ _ (Decides-ltb i1 (length ls)) (Decides-and _ _ (Decides-ltb i2 (length ls))
    (Decides-and _ _ (decides-dominates (row_at ls i1) r) (Decides-and _ _ (decides-dominates (row_at ls i2) r)
    (Decides-and _ _ (decides-assumption ls l1) (Decides-and _ _ (decides-assumption ls l2) (decides-split (row_at ls l1) (row_at ls l2)))))))))

abbrev follows : List CertLine → Row → Why → Bool
follows ls r Asm = true
follows ls r (Lin mult) = is_linear ls r mult
follows ls r (Rnd mult) = is_rounded ls r mult
follows ls r (Uns i1 l1 i2 l2) = is_unsplit ls r i1 l1 i2 l2

decides-follows : (ls : List CertLine) (r : Row) (w : Why) → Decides (follows ls r w) (Follows ls r w)
decides-follows ls r Asm = always tt
decides-follows ls r (Lin mult) = decides-linear ls r mult
decides-follows ls r (Rnd mult) = decides-rounded ls r mult
decides-follows ls r (Uns i1 l1 i2 l2) = decides-unsplit ls r i1 l1 i2 l2

abbrev all_follow : List CertLine → List (CertRow × Why) → Bool
all_follow ls [] = true
all_follow ls (d ∷ ds) = follows ls (row_of d.0) d.1 && all_follow (ls ++ derived_line_of ls d ∷ []) ds

decides-all_follow : (ls : List CertLine) (ds : List (CertRow × Why)) → Decides (all_follow ls ds) (AllFollow ls ds)
decides-all_follow ls [] = always tt
decides-all_follow ls (d ∷ ds) =
    Decides-and (follows ls (row_of d.0) d.1) (all_follow (ls ++ derived_line_of ls d ∷ []) ds) (decides-follows ls (row_of d.0) d.1) (decides-all_follow (ls ++ derived_line_of ls d ∷ []) ds)

-- ---- the certificate
abbrev is_feasible : Problem → List ℤ → Bool
is_feasible p x = is_in_box p.spans x && list_all (λ r. compares r.sense r.rhs (value r.terms x)) p.rows

decides-feasible : (p : Problem) (x : List ℤ) → Decides (is_feasible p x) (IsFeasible p x)
decides-feasible p x = Decides-like _ (λ h. record { in_box = h.0; rows = h.1 }) (λ h. (h.in_box, h.rows))
    (Decides-and (is_in_box p.spans x) (list_all (λ r. compares r.sense r.rhs (value r.terms x)) p.rows) (Decides-in_box p.spans x)
    (decides-all (λ r. compares r.sense r.rhs (value r.terms x)) (Satisfies x) (λ r. decides-compares r.sense r.rhs (value r.terms x)) p.rows))

abbrev directions_eq : ObjectiveSense → ObjectiveSense → Bool
directions_eq Minimise Minimise = true
directions_eq Maximise Maximise = true
directions_eq s t = false

decides-direction : (s t : ObjectiveSense) → Decides (directions_eq s t) (s ≡ t)
decides-direction Minimise Minimise = always refl
decides-direction Minimise Maximise = never (λ e. cc)
decides-direction Maximise Minimise = never (λ e. cc)
decides-direction Maximise Maximise = always refl

abbrev shows_range : ObjectiveSense → Problem → Cert → ℚ → ℚ → Bool
shows_range Minimise p c lb ub = dominates (last_row c) (objective_row p lb) && list_any (λ x. q_le (objective_at p x) ub) c.points
shows_range Maximise p c lb ub = dominates (last_row c) (objective_row p ub) && list_any (λ x. q_le lb (objective_at p x)) c.points

decides-range : (s : ObjectiveSense) (p : Problem) (c : Cert) (lb ub : ℚ) → Decides (shows_range s p c lb ub) (ShowsRange s p c lb ub)
decides-range Minimise p c lb ub =
    Decides-and (dominates (last_row c) (objective_row p lb)) (list_any (λ x. q_le (objective_at p x) ub) c.points) (decides-dominates (last_row c) (objective_row p lb))
    (decides-any (λ x. q_le (objective_at p x) ub) (λ x. objective_at p x ≤ℚ ub) (λ x. decides-q_le (objective_at p x) ub) c.points)
decides-range Maximise p c lb ub =
    Decides-and (dominates (last_row c) (objective_row p ub)) (list_any (λ x. q_le lb (objective_at p x)) c.points) (decides-dominates (last_row c) (objective_row p ub))
    (decides-any (λ x. q_le lb (objective_at p x)) (λ x. lb ≤ℚ objective_at p x) (λ x. decides-q_le lb (objective_at p x)) c.points)

abbrev shows_claim : Problem → Cert → Goal → Bool
shows_claim p c Infeas = is_absurd (last_row c)
shows_claim p c (Range lb ub) = shows_range p.sense p c lb ub

decides-claim : (p : Problem) (c : Cert) (g : Goal) → Decides (shows_claim p c g) (ShowsClaim p c g)
decides-claim p c Infeas = decides-absurd (last_row c)
decides-claim p c (Range lb ub) = decides-range p.sense p c lb ub

abbrev pub is_valid : Problem → Cert → Bool
is_valid p c =
    lists_eq (lists_eq eqb) c.part.names p.names && (terms_eq c.part.objective p.objective && (directions_eq c.part.sense p.sense
    && (lists_eq row_eq (map row_of c.part.rows) (p.rows ++ bound_rows 0 p.spans) && (list_all (is_feasible p) c.points
    && (all_follow (given_lines c.part.rows) c.lines && (lists_eq eqb (last_assumed c) [] && shows_claim p c c.claim))))))

-- the test is true exactly where the certificate is valid
pub IsValid-decided : (p : Problem) (c : Cert) → Decides (is_valid p c) (IsValid p c)
IsValid-decided p c = Decides-like _
    (λ h. record { names = h.0; objective = h.1.0; sense = h.1.1.0; rows = h.1.1.1.0; solutions = h.1.1.1.1.0; lines = h.1.1.1.1.1.0; unconditional = h.1.1.1.1.1.1.0; claim = h.1.1.1.1.1.1.1 })
    (λ v. (v.names, (v.objective, (v.sense, (v.rows, (v.solutions, (v.lines, (v.unconditional, v.claim))))))))
    (Decides-and _ _ (decides-lists (lists_eq eqb) (decides-lists eqb Decides-eqb) c.part.names p.names)
    (Decides-and _ _ (decides-lists term_eq decides-term c.part.objective p.objective)
    (Decides-and _ _ (decides-direction c.part.sense p.sense)
    (Decides-and _ _ (decides-lists row_eq decides-row (map row_of c.part.rows) (p.rows ++ bound_rows 0 p.spans))
    (Decides-and _ _ (decides-all (is_feasible p) (IsFeasible p) (decides-feasible p) c.points)
    (Decides-and _ _ (decides-all_follow (given_lines c.part.rows) c.lines)
    (Decides-and _ _ (decides-lists eqb Decides-eqb (last_assumed c) []) (decides-claim p c c.claim))))))))
