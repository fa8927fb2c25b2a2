-- The sums of rows at the start: they change with the columns' values.
use Rattle.std.proofs.Common.{◌≡◌, ◌≢◌, ℕ, zero, suc, ◌<◌, ◌≤◌, arith, refl, ap, sym, ◌∙◌, true, false, List, [], ◌∷◌, get_or, length, replicate, set, w64}
use Rattle.std.specs.Prelude.{ℤ, pos, neg_ℤ, ◌+ℤ◌, ◌-ℤ◌, ◌*ℤ◌, Result, Ok, Err, OnOk}
use Rattle.std.specs.Int.{int_wrap}
use Rattle.std.specs.Result.{is_ok}
use lib.IntN.{*ℤ_comm}
use Rattle.std.proofs.lemmas.Int.{ints, int_wrap-add_right, int_wrap-add_same, int_wrap-mul_left}
use Rattle.fraction.specs.Lemmas.Integers.{add-mul_ℤ, neg-mul_ℤ}
use Rattle.integer_tableau.proofs.RowSums.{all_nonbasic}
use Rattle.integer_tableau.proofs.Sums.{products-set_right}
use Rattle.integer_tableau.specs.Numbers.{number_at}
use Rattle.integer_tableau.specs.Positions.{products}
use Rattle.integer_tableau.specs.RowSums.{AreColumnSums, AreColumnsOf, AreRowSums}
use Rattle.integer_tableau.specs.declared.coefficient_columns.CoefficientColumns.{CoefficientColumns}
use Rattle.integer_tableau.specs.declared.position.Position.{Position}
use Rattle.integer_tableau.specs.declared.position.Position.TheVariants.{InBasis}

-- ---- a column gets another value
difference : (x y c : ℤ) → (x -ℤ y) *ℤ c ≡ c *ℤ x -ℤ c *ℤ y
difference x y c = add-mul_ℤ x (neg_ℤ y) c ∙ (λ i. *ℤ_comm x c i +ℤ (neg-mul_ℤ y c ∙ ap neg_ℤ (*ℤ_comm y c)) i)

pub column_changed : (cs values : List ℤ) (j : ℕ) (x sum new : ℤ) → length cs ≡ length values → j < length cs → int_wrap w64 sum ≡ int_wrap w64 (products cs values)
    → int_wrap w64 new ≡ int_wrap w64 (sum +ℤ int_wrap w64 (x -ℤ number_at values j) *ℤ number_at cs j) → int_wrap w64 new ≡ int_wrap w64 (products cs (set values j x))
column_changed cs values j x sum new many l before is =
    is ∙ sym (int_wrap-add_right w64 sum (int_wrap w64 (x -ℤ y) *ℤ a)) ∙ ap (λ z. int_wrap w64 (sum +ℤ z)) (int_wrap-mul_left w64 (x -ℤ y) a) ∙ int_wrap-add_right w64 sum ((x -ℤ y) *ℤ a)
    ∙ int_wrap-add_same w64 sum (products cs values) ((x -ℤ y) *ℤ a) before
    ∙ ap (int_wrap w64) (ap (λ z. products cs values +ℤ z) (difference x y a) ∙ moved (products cs (set values j x)) (products cs values) (a *ℤ x) (a *ℤ y) (products-set_right cs values j x many l))
  where
    y : ℤ
    y = number_at values j

    a : ℤ
    a = number_at cs j

    moved : (new old p q : ℤ) → new +ℤ q ≡ old +ℤ p → old +ℤ (p -ℤ q) ≡ new
    moved new old p q h = omega (arith, ints, h)

-- ---- values
pub products_of_none : (cs : List ℤ) (n : ℕ) → pos 0 ≡ products cs (replicate n (pos 0))
products_of_none [] n = refl
products_of_none (c ∷ cs) zero = refl
products_of_none (c ∷ cs) (suc n) = products_of_none cs n ∙ sym (no_term c (products cs (replicate n (pos 0))))
  where
    no_term : (x y : ℤ) → x *ℤ pos 0 +ℤ y ≡ y
    no_term x y = omega (arith, ints)

same_products : (cs xs ys : List ℤ) → length cs ≤ length xs → length cs ≤ length ys → ((j : ℕ) → j < length cs → number_at xs j ≡ number_at ys j) → products cs xs ≡ products cs ys
same_products [] xs ys l m h = refl
same_products (c ∷ cs) [] ys l m h = absurd (omega (arith, l))
same_products (c ∷ cs) (x ∷ xs) [] l m h = absurd (omega (arith, m))
same_products (c ∷ cs) (x ∷ xs) (y ∷ ys) l m h =
    (λ i. c *ℤ h 0 (omega arith) i +ℤ same_products cs xs ys (omega (arith, l)) (omega (arith, m)) (λ j o. h (suc j) (omega (arith, o))) i)

-- where no column is basic, the sums are those of the nonbasic columns
pub sums_at_start : (ps : List (List ℤ)) (columns : CoefficientColumns) (ss : List Position) (values xs sums : List ℤ) → AreColumnsOf ps columns → length values ≡ columns.width → length sums ≡ columns.rows
    → columns.width ≤ length xs → ((j : ℕ) → j < columns.width → number_at values j ≡ number_at xs j) → AreColumnSums ps values sums
    → columns.width ≤ length ss → ((j : ℕ) → j < columns.width → get_or ss j InBasis ≢ InBasis) → AreRowSums ps ss xs sums
sums_at_start ps columns ss values xs sums are count rows many same hold there apart i l =
    let cs = get_or ps i [] in
    let full : length cs ≡ columns.width = are.full i (omega (arith, l, rows, are.as_many)) in
    hold i l ∙ ap (int_wrap w64) (same_products cs values xs (omega (arith, full, count)) (omega (arith, full, many)) (λ j m. same j (omega (arith, m, full)))
    ∙ all_nonbasic cs ss xs (omega (arith, full, there)) (λ j m. apart j (omega (arith, m, full))))

-- ---- what holds where memory is there
pub holds_on_ok : {T E : Type 0} (r : Result T E) (P : Type 0) → true ≡ is_ok r → OnOk r P → P
holds_on_ok (Ok x) P is h = h
holds_on_ok (Err e) P is h = absurd (let no : true ≡ false = is in cc)
