-- How many variables are nonbasic: as many by each basis, so that two bases are the same where the nonbasic variables of the one are nonbasic by the other.
use Rattle.std.proofs.Common.{◌≡◌, ◌≢◌, ℕ, zero, suc, ◌+◌, ◌<◌, ◌≤◌, arith, refl, ap, sym, ◌∙◌, List, [], ◌∷◌, length, get_or, set, inl, inr, get_or-set_other, get_or-set_same}
use Rattle.std.specs.Prelude.{ℤ}
use Rattle.std.proofs.lemmas.Bool.{cases_eq, cases_lt}
use Rattle.std.proofs.lemmas.List.{get_or_past, length-set}
use Rattle.integer_tableau.proofs.EnteringByColumn.{variable_there}
use Rattle.integer_tableau.proofs.Exchanges.{positions_exchanged}
use Rattle.integer_tableau.proofs.Moves.{kept_of}
use Rattle.integer_tableau.proofs.RowSums.{in_some_column}
use Rattle.integer_tableau.specs.Kept.{AreKept, HaveSameBasis, IsKept, KeptDictionaries, KeptDictionary, kept_at}
use Rattle.integer_tableau.specs.Positions.{AreNonbasic}
use Rattle.integer_tableau.specs.StoredRun.{IsTurning}
use Rattle.integer_tableau.specs.declared.basic_solution.BasicSolution.{BasicSolution}
use Rattle.integer_tableau.specs.declared.position.Position.{Position}
use Rattle.integer_tableau.specs.declared.position.Position.TheVariants.{InBasis, InColumn}
use Rattle.integer_tableau.specs.declared.request.Turn.{Turn}

-- ---- the count
abbrev counted_as : Position → ℕ
counted_as InBasis = 0
counted_as (InColumn k) = 1

abbrev nonbasic_count : List Position → ℕ
nonbasic_count [] = 0
nonbasic_count (s ∷ ss) = counted_as s + nonbasic_count ss

-- one variable has another position
count_set : (ss : List Position) (v : ℕ) (s : Position) → v < length ss → nonbasic_count (set ss v s) + counted_as (get_or ss v InBasis) ≡ nonbasic_count ss + counted_as s
count_set [] v s l = absurd (omega (arith, l))
count_set (t ∷ ss) zero s l = turn (counted_as s) (nonbasic_count ss) (counted_as t)
  where
    turn : (a n b : ℕ) → (a + n) + b ≡ (b + n) + a
    turn a n b = omega arith
count_set (t ∷ ss) (suc v) s l = behind (counted_as t) (nonbasic_count (set ss v s)) (counted_as (get_or ss v InBasis)) (nonbasic_count ss) (counted_as s) (count_set ss v s (omega (arith, l)))
  where
    behind : (a m b n c : ℕ) → m + b ≡ n + c → (a + m) + b ≡ (a + n) + c
    behind a m b n c e = omega (arith, e)

-- two exchange their places
count_exchanged : (ss : List Position) (r c k j : ℕ) → r < length ss → c < length ss → get_or ss r InBasis ≡ InBasis → get_or ss c InBasis ≡ InColumn j
    → nonbasic_count (positions_exchanged r c k ss) ≡ nonbasic_count ss
count_exchanged ss r c k j r_there c_there at_r at_c =
    let apart : c ≢ r = λ q. let no : InBasis ≡ InColumn j = sym at_r ∙ ap (λ v. get_or ss v InBasis) (sym q) ∙ at_c in cc in
    let left = ap (λ s. nonbasic_count (set ss r (InColumn k)) + counted_as s) (sym at_r) ∙ count_set ss r (InColumn k) r_there in
    let entered = ap (λ s. nonbasic_count (positions_exchanged r c k ss) + counted_as s) (sym (get_or-set_other ss r c (InColumn k) InBasis apart ∙ at_c))
    ∙ count_set (set ss r (InColumn k)) c InBasis (omega (arith, c_there, length-set ss r (InColumn k))) in
    both (nonbasic_count (positions_exchanged r c k ss)) (nonbasic_count (set ss r (InColumn k))) (nonbasic_count ss) left entered
  where
    both : (new between old : ℕ) → between + 0 ≡ old + 1 → new + 1 ≡ between + 0 → new ≡ old
    both new between old e f = omega (arith, e, f)

-- ---- as many as there are columns
none_counted : (ss : List Position) → ((v k : ℕ) → get_or ss v InBasis ≢ InColumn k) → nonbasic_count ss ≡ 0
none_counted [] h = refl
none_counted (InBasis ∷ ss) h = omega (arith, none_counted ss (λ v. h (suc v)))
none_counted (InColumn k ∷ ss) h = absurd (h 0 k refl)

-- where f has the variable of each of n columns
columns_counted : (n : ℕ) (ss : List Position) (f : ℕ → ℕ) → ((k : ℕ) → k < n → get_or ss (f k) InBasis ≡ InColumn k) → ((v k : ℕ) → get_or ss v InBasis ≡ InColumn k → (k < n) × (f k ≡ v))
    → nonbasic_count ss ≡ n
columns_counted zero ss f there all = none_counted ss (λ v k e. let l = (all v k e).0 in omega (arith, l))
columns_counted (suc n) ss f there all = one_more (nonbasic_count (set ss v InBasis)) (nonbasic_count ss) n
    (columns_counted n (set ss v InBasis) f (λ k l. get_or-set_other ss v (f k) InBasis InBasis (apart k l) ∙ there k (omega (arith, l))) others)
    (ap (λ s. nonbasic_count (set ss v InBasis) + counted_as s) (sym last) ∙ count_set ss v InBasis v_there)
  where
    v : ℕ
    v = f n

    last : get_or ss v InBasis ≡ InColumn n
    last = there n (omega arith)

    v_there : v < length ss
    v_there = elim (cases_lt v (length ss)) [
      | inl l ↦ l
      | inr l ↦ absurd (let no : InBasis ≡ InColumn n = sym (get_or_past ss v InBasis l) ∙ last in cc)
    ]

    apart : (k : ℕ) → k < n → f k ≢ v
    apart k l q =
        let is : InColumn k ≡ InColumn n = sym (there k (omega (arith, l))) ∙ ap (λ v. get_or ss v InBasis) q ∙ last in
        let same : k ≡ n = cc in
        omega (arith, l, same)

    others : (u k : ℕ) → get_or (set ss v InBasis) u InBasis ≡ InColumn k → (k < n) × (f k ≡ u)
    others u k e = elim (cases_eq u v) [
      | inl q ↦ absurd (let no : InBasis ≡ InColumn k = sym (get_or-set_same ss v InBasis InBasis v_there) ∙ ap (λ u. get_or (set ss v InBasis) u InBasis) (sym q) ∙ e in cc)
      | inr m ↦
          let a = all u k (sym (get_or-set_other ss v u InBasis InBasis m) ∙ e) in
          let other : k ≢ n = λ q. m (sym a.1 ∙ ap f q) in
          (omega (arith, a.0, other), a.1)
    ]

    one_more : (new old n : ℕ) → new ≡ n → new + 1 ≡ old + 0 → old ≡ suc n
    one_more new old n e f = omega (arith, e, f)

nonbasic_counted : (ss : List Position) (nonbasic : List ℕ) → AreNonbasic ss nonbasic → nonbasic_count ss ≡ length nonbasic
nonbasic_counted ss nonbasic are = columns_counted (length nonbasic) ss (λ k. get_or nonbasic k 0) are.there are.all

-- ---- two bases
-- what is basic by ss is basic by ts
further : (s t : Position) (ss ts : List Position) → ((v : ℕ) → get_or (s ∷ ss) v InBasis ≡ InBasis → get_or (t ∷ ts) v InBasis ≡ InBasis) → (v : ℕ) → get_or ss v InBasis ≡ InBasis → get_or ts v InBasis ≡ InBasis
further s t ss ts h v = h (suc v)

count_within : (ss ts : List Position) → length ss ≡ length ts → ((v : ℕ) → get_or ss v InBasis ≡ InBasis → get_or ts v InBasis ≡ InBasis) → nonbasic_count ts ≤ nonbasic_count ss
count_within [] [] e h = omega arith
count_within [] (t ∷ ts) e h = absurd (omega (arith, e))
count_within (s ∷ ss) [] e h = absurd (omega (arith, e))
count_within (InBasis ∷ ss) (InBasis ∷ ts) e h = omega (arith, count_within ss ts (omega (arith, e)) (further InBasis InBasis ss ts h))
count_within (InBasis ∷ ss) (InColumn k ∷ ts) e h = absurd (let no : InColumn k ≡ InBasis = h 0 refl in cc)
count_within (InColumn j ∷ ss) (InBasis ∷ ts) e h = omega (arith, count_within ss ts (omega (arith, e)) (further (InColumn j) InBasis ss ts h))
count_within (InColumn j ∷ ss) (InColumn k ∷ ts) e h = omega (arith, count_within ss ts (omega (arith, e)) (further (InColumn j) (InColumn k) ss ts h))

-- no other variable is, where no more are nonbasic by ss
no_other_basic : (ss ts : List Position) → length ss ≡ length ts → ((v : ℕ) → get_or ss v InBasis ≡ InBasis → get_or ts v InBasis ≡ InBasis) → nonbasic_count ss ≤ nonbasic_count ts
    → (v : ℕ) → get_or ts v InBasis ≡ InBasis → get_or ss v InBasis ≡ InBasis
no_other_basic [] ts e h l v q = refl
no_other_basic (s ∷ ss) [] e h l v q = absurd (omega (arith, e))
no_other_basic (InBasis ∷ ss) (t ∷ ts) e h l zero q = refl
no_other_basic (InBasis ∷ ss) (InBasis ∷ ts) e h l (suc v) q = no_other_basic ss ts (omega (arith, e)) (further InBasis InBasis ss ts h) (omega (arith, l)) v q
no_other_basic (InBasis ∷ ss) (InColumn k ∷ ts) e h l (suc v) q = absurd (let no : InColumn k ≡ InBasis = h 0 refl in cc)
no_other_basic (InColumn j ∷ ss) (InBasis ∷ ts) e h l v q = absurd (omega (arith, l, count_within ss ts (omega (arith, e)) (further (InColumn j) InBasis ss ts h)))
no_other_basic (InColumn j ∷ ss) (InColumn k ∷ ts) e h l zero q = absurd (let no : InColumn k ≡ InBasis = q in cc)
no_other_basic (InColumn j ∷ ss) (InColumn k ∷ ts) e h l (suc v) q = no_other_basic ss ts (omega (arith, e)) (further (InColumn j) (InColumn k) ss ts h) (omega (arith, l)) v q

same_by_nonbasic : (ss ts : List Position) (nonbasic : List ℕ) → length ss ≡ length ts → nonbasic_count ss ≡ length nonbasic → AreNonbasic ts nonbasic
    → ((k : ℕ) → k < length nonbasic → get_or ss (get_or nonbasic k 0) InBasis ≢ InBasis) → HaveSameBasis ss ts
same_by_nonbasic ss ts nonbasic many count are apart = record { count = many; to = to; back = no_other_basic ss ts many to (omega (arith, count, nonbasic_counted ts nonbasic are)) }
  where
    by : (v : ℕ) (s : Position) → get_or ts v InBasis ≡ s → get_or ss v InBasis ≡ InBasis → s ≡ InBasis
    by v InBasis e q = refl
    by v (InColumn k) e q = let a = are.all v k e in absurd (apart k a.0 (ap (λ v. get_or ss v InBasis) a.1 ∙ q))

    to : (v : ℕ) → get_or ss v InBasis ≡ InBasis → get_or ts v InBasis ≡ InBasis
    to v = by v (get_or ts v InBasis) refl

count_of_basis : (ss ts : List Position) → HaveSameBasis ss ts → nonbasic_count ss ≡ nonbasic_count ts
count_of_basis ss ts h = omega (arith, count_within ss ts h.count h.to, count_within ts ss (sym h.count) h.back)

-- ---- a solution that has taken a turn, and another dictionary of its linear program
module _ (ps : List (List ℤ)) (weight : ℕ) (costs : List ℤ) (k : KeptDictionaries) (p : ℕ) (n : BasicSolution) (w : Turn) (size : ℤ) (m : BasicSolution) (kept : AreKept ps weight costs k) (p_there : p < length k.all)
    (t : IsTurning ps weight k p n w size m) (alike : (q : ℕ) → q < length k.all → length (kept_at k.all q).positions ≡ k.variables) (q : ℕ) (q_there : q < length k.all) where
  abbrev d : KeptDictionary
  d = kept_at k.all p

  abbrev e : KeptDictionary
  e = kept_at k.all q

  own : IsKept ps weight costs d
  own = kept_of ps weight costs k p p_there kept

  other : IsKept ps weight costs e
  other = kept_of ps weight costs k q q_there kept

  as_many : length m.positions.items ≡ length e.positions
  as_many = ap length t.turned.positions ∙ length-set (set n.positions.items w.leaving (InColumn w.column)) w.entering InBasis ∙ length-set n.positions.items w.leaving (InColumn w.column)
      ∙ t.at.basis.count ∙ alike p p_there ∙ sym (alike q q_there)

  count : nonbasic_count m.positions.items ≡ length e.nonbasic
  count =
      let ss = n.positions.items in
      let same = t.at.basis in
      let entering = in_some_column (get_or ss w.entering InBasis) (λ e. let no : InBasis ≡ InColumn w.column = sym (same.to w.entering e) ∙ t.turn.column in cc) in
      let turned = ap nonbasic_count t.turned.positions ∙ count_exchanged ss w.leaving w.entering w.column entering.0 (omega (arith, t.turn.leaving, same.count)) (omega (arith, t.turn.entering, same.count))
      (same.back w.leaving t.turn.basic) entering.1 in
      omega (
        arith,
        turned,
        count_of_basis ss d.positions same,
        nonbasic_counted d.positions d.nonbasic own.nonbasic,
        own.columns,
        other.columns,
        own.stored.compact.variables,
        other.stored.compact.variables,
        alike p p_there,
        alike q q_there,
      )

  pub nonbasic_there : (j : ℕ) → j < length e.nonbasic → get_or e.nonbasic j 0 < length m.positions.items
  nonbasic_there j l = omega (arith, as_many, variable_there e.positions e.nonbasic other.nonbasic j l)

  pub found_same : ((j : ℕ) → j < length e.nonbasic → get_or m.positions.items (get_or e.nonbasic j 0) InBasis ≢ InBasis) → HaveSameBasis m.positions.items e.positions
  found_same apart = same_by_nonbasic m.positions.items e.positions e.nonbasic as_many count other.nonbasic apart
