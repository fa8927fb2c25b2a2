-- A word can be split off a text, and the number that it spells is the only one.
use Rattle.std.specs.Prelude.{◌≡◌, ◌≤◌, ◌<◌, ℕ, suc, ℤ, pos, negsuc, nat_abs, Bool, true, false, cond, eqb, List, [], ◌∷◌, ◌++◌, All, drop, get_or, refl}
use Rattle.std.proofs.Common.{sym, ap, ap₂, ◌∙◌, subst, append_assoc, append-nil, arith}
use Rattle.std.proofs.lemmas.Bool.{eqb-true}
use Rattle.std.proofs.lemmas.Fmt.{decimal_is_IsNumeral_wide}
use Rattle.std.proofs.lemmas.List.Elements.{All-nil, All-cons, All-head, All-tail, All-append}
use Rattle.std.specs.Fmt.{decimal, signed_decimal}
use Rattle.std.specs.Str.Parse.{digits_value}
use Rattle.fraction.specs.Rational.{ℚ}
use Rattle.fraction.specs.Spelling.{fraction_text}
use Rattle.vipr_print.specs.Lemmas.Numerals.{decimal_all, decimal_word}
use Rattle.vipr_print.specs.Unique.{IsWord, IsShort, IsShortFraction}
use Rattle.fraction.specs.Lemmas.Rational.{same_by_parts}

-- ---- splitting
-- the text ends, or goes on with another byte
abbrev Leaves : (ℕ → Type 0) → List ℕ → Type 0
Leaves P [] = Unit {0}
Leaves P (b ∷ bs) = P b → ⊥

split : (P : ℕ → Type 0) (u v r s : List ℕ) → All P u → All P v → Leaves P r → Leaves P s → u ++ r ≡ v ++ s → (u ≡ v) × (r ≡ s)
split P [] [] r s p q l m e = (refl, e)
split P [] (y ∷ v) r s p q l m e = absurd (subst (Leaves P) e l (All-head P y v q))
split P (x ∷ u) [] r s p q l m e = absurd (subst (Leaves P) (sym e) m (All-head P x u p))
split P (x ∷ u) (y ∷ v) r s p q l m e =
    let k = split P u v r s (All-tail P x u p) (All-tail P y v q) l m (ap (drop 1) e) in
    (ap₂ (λ b bs. b ∷ bs) (ap (λ t. get_or t 0 0) e) k.0, k.1)

-- the text ends, or goes on with a blank or a line feed
abbrev pub Stops : List ℕ → Type 0
Stops [] = Unit {0}
Stops (b ∷ bs) = b ≤ 32

leaves_word : (r : List ℕ) → Stops r → Leaves (λ b. 32 < b) r
leaves_word [] h = tt
leaves_word (b ∷ r) h = λ k. omega (arith, h, k)

-- what is spelled can be split off a text that goes on so
abbrev pub SplitsOff : {X : Type 0} → (X → Type 0) → (List ℕ → Type 0) → (X → List ℕ) → Type 0
SplitsOff {X} P Q f = (a b : X) (r s : List ℕ) → P a → P b → Q r → Q s → f a ++ r ≡ f b ++ s → (a ≡ b) × (r ≡ s)

pub word_splits : SplitsOff IsWord Stops (λ u. u)
word_splits u v r s p q l m e = split (λ b. 32 < b) u v r s p q (leaves_word r l) (leaves_word s m) e

-- ---- natural numbers
decimal_same : (m n : ℕ) → IsShort m → IsShort n → decimal m ≡ decimal n → m ≡ n
decimal_same m n p q e = sym (decimal_is_IsNumeral_wide m p).1 ∙ ap (digits_value 10) e ∙ (decimal_is_IsNumeral_wide n q).1

pub decimal_splits : SplitsOff IsShort Stops decimal
decimal_splits m n r s p q l k e =
    let w = word_splits (decimal m) (decimal n) r s (decimal_word m) (decimal_word n) l k e in (decimal_same m n p q w.0, w.1)

-- ---- integers
signed_all : (P : ℕ → Type 0) → P 45 → ((c : ℕ) → 48 ≤ c → P c) → (z : ℤ) → All P (signed_decimal z)
signed_all P m f (pos n) = decimal_all P f n
signed_all P m f (negsuc n) = All-cons P 45 (decimal (suc n)) m (decimal_all P f (suc n))

not_minus : (n : ℕ) (ds : List ℕ) → decimal n ≡ 45 ∷ ds → ⊥
not_minus n ds e = omega (arith, All-head (λ c. 48 ≤ c) 45 ds (subst (All (λ c. 48 ≤ c)) e (decimal_all (λ c. 48 ≤ c) (λ c h. h) n)))

signed_same : (y z : ℤ) → IsShort (nat_abs y) → IsShort (nat_abs z) → signed_decimal y ≡ signed_decimal z → y ≡ z
signed_same (pos m) (pos n) p q e = ap pos (decimal_same m n p q e)
signed_same (pos m) (negsuc n) p q e = absurd (not_minus m _ e)
signed_same (negsuc m) (pos n) p q e = absurd (not_minus n _ (sym e))
signed_same (negsuc m) (negsuc n) p q e = ap negsuc (omega (arith, decimal_same (suc m) (suc n) p q (ap (drop 1) e)))

signed_word : (z : ℤ) → IsWord (signed_decimal z)
signed_word z = signed_all (λ b. 32 < b) (omega arith) (λ c k. omega (arith, k)) z

pub signed_splits : SplitsOff (λ z. IsShort (nat_abs z)) Stops signed_decimal
signed_splits y z r s p q l k e =
    let w = word_splits (signed_decimal y) (signed_decimal z) r s (signed_word y) (signed_word z) l k e in (signed_same y z p q w.0, w.1)

-- ---- fractions
-- what stands behind the numerator
abbrev over : ℕ → List ℕ
over d = cond (eqb d 1) [] (47 ∷ decimal d)

fraction_by : (b : Bool) (u v : List ℕ) → cond b u (u ++ 47 ∷ [] ++ v) ≡ u ++ cond b [] (47 ∷ v)
fraction_by true u v = sym (append-nil u)
fraction_by false u v = append_assoc u (47 ∷ []) v

fraction_is : (x : ℚ) → fraction_text x ≡ signed_decimal x.num ++ over x.den
fraction_is x = fraction_by (eqb x.den 1) (signed_decimal x.num) (decimal x.den)

over_leaves : (b : Bool) (d : ℕ) → Leaves (λ c. c ≡ 47 → ⊥) (cond b [] (47 ∷ decimal d))
over_leaves true d = tt
over_leaves false d = λ k. k refl

over_word : (b : Bool) (d : ℕ) → IsWord (cond b [] (47 ∷ decimal d))
over_word true d = All-nil (λ b. 32 < b)
over_word false d = All-cons (λ b. 32 < b) 47 (decimal d) (omega arith) (decimal_word d)

over_same : (b c : Bool) (m n : ℕ) → eqb m 1 ≡ b → eqb n 1 ≡ c → IsShort m → IsShort n → cond b [] (47 ∷ decimal m) ≡ cond c [] (47 ∷ decimal n) → m ≡ n
over_same true true m n i j p q e = eqb-true m 1 i ∙ sym (eqb-true n 1 j)
over_same true false m n i j p q e = absurd (omega (arith, ap (λ t. get_or t 0 0) e))
over_same false true m n i j p q e = absurd (omega (arith, ap (λ t. get_or t 0 0) e))
over_same false false m n i j p q e = decimal_same m n p q (ap (drop 1) e)

fraction_same : (x y : ℚ) → IsShortFraction x → IsShortFraction y → fraction_text x ≡ fraction_text y → x ≡ y
fraction_same x y p q e =
    let k = split (λ c. c ≡ 47 → ⊥) (signed_decimal x.num) (signed_decimal y.num) (over x.den) (over y.den)
    (signed_all (λ c. c ≡ 47 → ⊥) (λ h. omega (arith, h)) (λ c h i. omega (arith, h, i)) x.num)
    (signed_all (λ c. c ≡ 47 → ⊥) (λ h. omega (arith, h)) (λ c h i. omega (arith, h, i)) y.num)
    (over_leaves (eqb x.den 1) x.den) (over_leaves (eqb y.den 1) y.den) (sym (fraction_is x) ∙ e ∙ fraction_is y) in
    same_by_parts x y (signed_same x.num y.num p.num q.num k.0) (over_same (eqb x.den 1) (eqb y.den 1) x.den y.den refl refl p.den q.den k.1)

fraction_word : (x : ℚ) → IsWord (fraction_text x)
fraction_word x = subst IsWord (sym (fraction_is x)) (All-append (λ b. 32 < b) (signed_decimal x.num) (over x.den) (signed_word x.num) (over_word (eqb x.den 1) x.den))

pub fraction_splits : SplitsOff IsShortFraction Stops fraction_text
fraction_splits x y r s p q l k e =
    let w = word_splits (fraction_text x) (fraction_text y) r s (fraction_word x) (fraction_word y) l k e in (fraction_same x y p q w.0, w.1)
