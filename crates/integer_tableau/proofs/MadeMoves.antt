-- The dictionary that a turn makes, behind those that are kept: it is one to keep, and the solution's move leads to it.
use Rattle.std.proofs.Common.{◌≡◌, ◌≢◌, ℕ, ◌+◌, ◌-◌, ◌<◌, arith, refl, ap, sym, ◌∙◌, subst, List, [], ◌∷◌, ◌++◌, length, get_or, set, take, All, inl, inr, get_or-set_other, get_or-set_same}
use Rattle.std.specs.Prelude.{ℤ, pos, nat_abs, ◌<ℤ◌, ◌+ℤ◌, ◌-ℤ◌, ◌*ℤ◌, slice_range}
use Rattle.std.proofs.Math.Seq.{get_or-append_seam}
use Rattle.std.proofs.lemmas.Bool.{cases_eq, cases_lt}
use Rattle.std.proofs.lemmas.List.{get_or_append_left, get_or_past, length-append, length-set}
use Rattle.std.proofs.lemmas.List.Elements.{All-nil, All-push, All-weaker}
use Rattle.std.proofs.lemmas.Slice.{between_from_start}
use Rattle.integer_tableau.proofs.Apart.{apart_after, nonbasic_after}
use Rattle.integer_tableau.proofs.Exchanges.{nonbasic_values_exchanged, positions_exchanged}
use Rattle.integer_tableau.proofs.FromCode.{pivoted_from, positive_from}
use Rattle.integer_tableau.proofs.ListedRows.{after_has_rows, basic_rows, list_after, taken_empty}
use Rattle.integer_tableau.proofs.Lists.{size_is}
use Rattle.integer_tableau.proofs.MadeKept.{made_kept}
use Rattle.integer_tableau.proofs.Moves.{behind_same, kept_of, pivot_moves, turn_there}
use Rattle.integer_tableau.specs.BasicColumns.{HaveRows, basic_from}
use Rattle.integer_tableau.specs.Combined.{combined_row, expanded_values}
use Rattle.integer_tableau.specs.Consistent.{row_width}
use Rattle.integer_tableau.specs.IntegerDictionary.{ArePositionsBehind}
use Rattle.integer_tableau.specs.IntegerTableau.{of_parts}
use Rattle.integer_tableau.specs.Kept.{AreCombinationsSmall, AreKept, HasExits, HaveSameBasis, IsDictionaryBehind, IsExitOf, IsKept, IsStartDictionary, KeptDictionaries, KeptDictionary, Leads, kept_at, row_in, tableau_at}
use Rattle.integer_tableau.specs.Numbers.{IsWithin, number_at}
use Rattle.integer_tableau.specs.Pivot.{AreSubstitutedValues, IsEliminated, IsPivoted, is_upper}
use Rattle.integer_tableau.specs.Positions.{AreNonbasic, IsColumnOf}
use Rattle.integer_tableau.specs.Range.{size_limit}
use Rattle.integer_tableau.specs.StoredRun.{IsMove, IsTurning, dictionary_at}
use Rattle.integer_tableau.specs.Substitution.{IsSolvedRow, IsSubstitutedIfFull, IsSubstitutedRow, quotient_numerator}
use Rattle.integer_tableau.specs.declared.exits.Edge.{Edge}
use Rattle.integer_tableau.specs.declared.exits.Exit.{Exit}
use Rattle.integer_tableau.specs.declared.basic_solution.BasicSolution.{BasicSolution}
use Rattle.integer_tableau.specs.declared.position.Position.{Position}
use Rattle.integer_tableau.specs.declared.position.Position.TheVariants.{InBasis, InColumn}
use Rattle.integer_tableau.specs.declared.request.Turn.{Turn}

-- ---- values by rows of which the leaving one was taken
taken_values : (r c k : ℕ) (d d' e x en en' : ℤ) (width width' : ℕ) (rows : List (List ℤ)) (values new : List ℤ) → d ≡ d' → en ≡ en' → width ≡ width' → 0 < width
    → AreSubstitutedValues c k d e x en width rows values new → AreSubstitutedValues c k d' e x en' width' (set rows r []) values new
taken_values r c k d d' e x en en' width width' rows values new f g h l v =
    subst (λ (T : Type 0). T) (λ i. AreSubstitutedValues c k (f i) e x (g i) (h i) (set rows r []) values new) record {
      put = v.put;
      others = λ u m n full. elim (cases_eq u r) [
        | inl q ↦ absurd (let z : length (get_or (set rows r []) u []) ≡ 0 = ap (λ u. length (get_or (set rows r []) u [])) q ∙ taken_empty r rows in omega (arith, z, full, l))
        | inr q ↦
            let stays : get_or (set rows r []) u [] ≡ get_or rows u [] = get_or-set_other rows r u [] [] q in
            v.others u m n (ap length (sym stays) ∙ full) ∙ ap (λ row. (number_at values u -ℤ number_at row k *ℤ x) *ℤ e +ℤ en *ℤ number_at row k) (sym stays)
      ];
      as_many = v.as_many;
    }

-- ---- the dictionary that a turn makes
module _ (ps : List (List ℤ)) (weight : ℕ) (k : KeptDictionaries) (p : ℕ) (n : BasicSolution) (w : Turn) (size : ℤ) (m : BasicSolution) (t : IsTurning ps weight k p n w size m) where
  abbrev d : KeptDictionary
  d = kept_at k.all p

  abbrev row : List ℤ
  row = row_in ps d w.leaving

  column_there : w.column < length d.rows
  column_there = omega (arith, t.at.compact.consistent.within w.entering w.column t.turn.column, t.at.compact.costs)

  pub turn_row_width : length row ≡ length d.rows
  turn_row_width = t.at.compact.consistent.widths w.leaving t.turn.leaving ∙ ap (row_width (length d.reduced_costs)) t.turn.basic ∙ t.at.compact.costs

  pub turn_column_there : (own : List ℤ) → own ≡ row → w.column < length own
  turn_column_there own e = omega (arith, column_there, turn_row_width, ap length e)

  pub turn_size_positive : pos 0 <ℤ size
  turn_size_positive = positive_from size (nat_abs w.coefficient) t.size_is t.some

  pub turn_size_small : nat_abs size < size_limit
  turn_size_small = omega (arith, ap nat_abs t.size_is, ap nat_abs t.turn.coefficient, t.at.compact.consistent.rows_within w.leaving w.column)

  module _ (costs : List ℤ) (kept : IsKept ps weight costs d) (solved : List ℤ) (e : KeptDictionary) (s : IsSolvedRow w.column (nat_abs d.denominator) row solved) (b : IsDictionaryBehind d w solved size e) where
    solved_width : length solved ≡ length d.rows
    solved_width = s.width ∙ turn_row_width

    size_here : size ≡ pos (nat_abs size)
    size_here = size_is size (positive_from size (nat_abs w.coefficient) t.size_is t.some)

    made_behind : ArePositionsBehind w.leaving w.entering d.positions e.positions
    made_behind = behind_same d.positions d.positions e.positions w.leaving w.entering w.column (same d.positions) t.turn.basic t.turn.column t.turn.leaving t.turn.entering
        (subst (λ ss. HaveSameBasis ss e.positions) b.positions (same e.positions))
      where
        same : (ss : List Position) → HaveSameBasis ss ss
        same ss = record { count = refl; to = λ v e. e; back = λ v e. e }

    eliminated : IsEliminated w.entering w.column (nat_abs d.denominator) (nat_abs size) row solved (set d.rows w.leaving []) e.rows d.reduced_costs e.reduced_costs
    eliminated = record {
      is_solved = s;
      put = λ l. b.put (omega (arith, l, length-set d.rows w.leaving []));
      others = others;
      costs = subst (λ (T : Type 0). T) (λ i. IsSubstitutedRow (size_is d.denominator kept.positive i) (size_here i) w.column solved d.reduced_costs e.reduced_costs) b.costs;
      as_many = b.count ∙ sym (length-set d.rows w.leaving []);
    }
      where
        others : (v : ℕ) → v < length (set d.rows w.leaving []) → v ≢ w.entering → IsSubstitutedIfFull (pos (nat_abs d.denominator)) (pos (nat_abs size)) w.column solved (get_or (set d.rows w.leaving []) v []) (get_or e.rows v [])
        others v l n = elim (cases_eq v w.leaving) [
          | inl q ↦
              let z : length (get_or (set d.rows w.leaving []) v []) ≡ 0 = ap (λ v. length (get_or (set d.rows w.leaving []) v [])) q ∙ taken_empty w.leaving d.rows in
              let there : w.leaving < length d.rows = omega (arith, l, q, length-set d.rows w.leaving []) in
              record {
                full = λ full. absurd (omega (arith, z, full, solved_width, column_there));
                other = λ f. ap (λ v. get_or e.rows v []) q ∙ b.left ∙ sym (ap (λ v. get_or (set d.rows w.leaving []) v []) q ∙ get_or-set_same d.rows w.leaving [] [] there);
              }
          | inr q ↦ subst (λ (T : Type 0). T) (λ i. IsSubstitutedIfFull (size_is d.denominator kept.positive i) (size_here i) w.column solved (sym (get_or-set_other d.rows w.leaving v [] [] q) i) (get_or e.rows v []))
              (b.others v (omega (arith, l, length-set d.rows w.leaving [])) n q)
        ]

    -- ---- what its combinations ask for
    pub made_many : length e.positions ≡ length e.rows + length ps
    made_many = omega (arith, made_behind.count, b.count, t.at.compact.variables)

    columns_are : e.basic_columns ≡ basic_from 0 (length d.rows) (positions_exchanged w.leaving w.entering w.column d.positions)
    columns_are = list_after (length d.rows) (length d.rows) w.leaving w.entering w.column d.positions d.basic_columns e.basic_columns kept.basic b.basic_columns refl (omega (arith, t.at.compact.variables))
        t.turn.leaving t.turn.entering t.turn.basic t.turn.column

    pub made_listed : HaveRows e.basic_columns e.rows
    made_listed = after_has_rows w.leaving w.entering w.column (nat_abs d.denominator) (nat_abs size) d.positions row solved d.rows (set d.rows w.leaving []) e.rows d.reduced_costs e.reduced_costs e.basic_columns t.turn.entering refl
        eliminated (omega (arith, t.at.compact.variables)) (basic_rows ps weight n.reach (tableau_at d n) t.at.compact) columns_are

    pub made_positive : pos 0 <ℤ e.denominator
    made_positive = subst (λ (z : ℤ). pos 0 <ℤ z) (sym b.denominator) (positive_from size (nat_abs w.coefficient) t.size_is t.some)

    pub made_apart : (v j : ℕ) → get_or e.positions v InBasis ≡ InColumn j → IsColumnOf e.positions v j
    made_apart = subst (λ ss. (v j : ℕ) → get_or ss v InBasis ≡ InColumn j → IsColumnOf ss v j) (sym b.positions)
        (apart_after d.positions w.leaving w.entering w.column t.turn.column t.turn.basic t.turn.entering t.turn.leaving t.at.compact.consistent.alone)

    pub made_nonbasic : AreNonbasic e.positions e.nonbasic
    made_nonbasic = subst (λ (T : Type 0). T) (λ i. AreNonbasic (sym b.positions i) (sym b.nonbasic i))
        (nonbasic_after d.positions w.leaving w.entering w.column t.turn.column t.turn.basic t.turn.entering t.turn.leaving d.nonbasic kept.nonbasic)

    -- ---- the pivot
    module _ (small : AreCombinationsSmall ps e) where
      small_after : (i : ℕ) → i < length ps → get_or (positions_exchanged w.leaving w.entering w.column d.positions) (length e.rows + i) InBasis ≡ InBasis
          → IsWithin (size_limit - 1) (combined_row (nat_abs size) (positions_exchanged w.leaving w.entering w.column d.positions) e.rows (get_or ps i []))
      small_after i l q = subst (λ (T : Type 0). T) (λ j. IsWithin (size_limit - 1) (combined_row (nat_abs (b.denominator j)) (b.positions j) e.rows (get_or ps i [])))
          (small i l (ap (λ ss. get_or ss (length e.rows + i) InBasis) b.positions ∙ q))

      abbrev turn_value : ℤ
      turn_value = number_at (expanded_values (nat_abs d.denominator) ps d.positions n.nonbasic_values.items n.values.items) w.leaving

      abbrev left : ℤ
      left = number_at n.nonbasic_values.items w.entering

      values : AreSubstitutedValues w.entering w.column d.denominator size left (quotient_numerator w.coefficient (turn_value -ℤ w.coefficient *ℤ left -ℤ d.denominator *ℤ t.bound))
          (length d.reduced_costs) (set d.rows w.leaving []) n.values.items m.values.items
      values = taken_values w.leaving w.entering w.column (pos (nat_abs d.denominator)) d.denominator size left _ _ (length d.rows) (length d.reduced_costs) d.rows n.values.items m.values.items (sym (size_is d.denominator kept.positive))
          (ap (λ z. quotient_numerator w.coefficient (turn_value -ℤ w.coefficient *ℤ left -ℤ z *ℤ t.bound)) (sym (size_is d.denominator kept.positive))) (sym t.at.compact.costs) (omega (arith, column_there)) t.turned.values

      pub made_pivot_is : IsPivoted ps weight n.reach w.leaving w.entering (tableau_at d n) (tableau_at e m)
      made_pivot_is =
          subst (IsPivoted ps weight n.reach w.leaving w.entering (tableau_at d n))
          (λ i. of_parts (sym t.turned.bounds i) (sym b.positions i) (sym t.turned.at_upper i) (sym t.turned.nonbasic_values i) e.rows e.reduced_costs m.values.items (sym b.denominator i) (sym t.turned.pivots i))
          (pivoted_from ps weight n.reach n.bounds.items d.positions n.at_upper.items n.nonbasic_values.items d.rows d.reduced_costs n.values.items d.denominator n.pivots w.leaving w.entering w.column w.direction t.bound
          w.coefficient turn_value (is_upper w.direction) size row (set d.rows w.leaving []) e.rows (nonbasic_values_exchanged w.leaving w.entering t.bound n.nonbasic_values.items) e.reduced_costs m.values.items
          t.at.compact kept.positive t.turn.leaving t.turn.entering refl refl refl t.turned.there t.turn.coefficient (t.size_is ∙ ap (λ z. pos (nat_abs z)) t.turn.coefficient) (solved, eliminated) values refl refl t.near small_after)

      pub made_is_kept : IsKept ps weight costs e
      made_is_kept = made_kept ps weight d e n m w.leaving w.entering made_pivot_is costs kept t.at.compact t.turn.leaving t.turn.entering (turn_there ps weight k p n w size m t) made_positive made_nonbasic
          (ap length b.nonbasic ∙ length-set d.nonbasic w.column w.leaving) (columns_are ∙ (λ i. basic_from 0 (sym b.count i) (sym b.positions i))) made_behind.count

      pub made_moves : (after : KeptDictionaries) → after.all ≡ k.all ++ e ∷ [] → IsMove ps weight (dictionary_at k p) n after (length k.all) m
      made_moves after pushed =
          pivot_moves ps weight k p n w size m t after (length k.all) (omega (arith, ap length pushed, length-append k.all (e ∷ [])))
          (subst (λ e. IsPivoted ps weight n.reach w.leaving w.entering (tableau_at d n) (tableau_at e m)) (sym at) made_pivot_is) (subst (λ (e : KeptDictionary). ArePositionsBehind w.leaving w.entering d.positions e.positions) (sym at) made_behind)
        where
          at : kept_at after.all (length k.all) ≡ e
          at = ap (λ ds. kept_at ds (length k.all)) pushed ∙ get_or-append_seam k.all e [] _

-- ---- a dictionary is put behind the others
module _ (ds : List KeptDictionary) (d : KeptDictionary) where
  pub earlier : (p : ℕ) → p < length ds → kept_at (ds ++ d ∷ []) p ≡ kept_at ds p
  earlier p l = get_or_append_left ds (d ∷ []) _ p l

  many : length (ds ++ d ∷ []) ≡ length ds + 1
  many = length-append ds (d ∷ [])

  leads_pushed : (e : Edge) → Leads ds e → Leads (ds ++ d ∷ []) e
  leads_pushed e h o = elim (cases_lt e.from (length ds)) [
    | inl l ↦ (omega (arith, many, (h o).0), subst (λ (T : Type 0). T) (λ i. ArePositionsBehind e.leaving e.entering (sym (earlier e.from l) i).positions (sym (earlier e.target (h o).0) i).positions) (h o).1)
    | inr l ↦ absurd (let none : length (kept_at ds e.from).positions ≡ 0 = ap (λ (d : KeptDictionary). length d.positions) (get_or_past ds e.from _ l) in omega (arith, none, (h o).1.leaving_there))
  ]

  exits_pushed : (ps : List (List ℤ)) (es : List Edge) (x : Exit) → (x.from < length ds) × IsExitOf ps es (kept_at ds x.from) x → (x.from < length (ds ++ d ∷ [])) × IsExitOf ps es (kept_at (ds ++ d ∷ []) x.from) x
  exits_pushed ps es x h = (omega (arith, many, h.0), subst (λ d. IsExitOf ps es d x) (sym (earlier x.from h.0)) h.1)

  no_exits : (xs : List Exit) (p : ℕ) → d.first_exit ≡ 0 → d.exits ≡ 0 → HasExits xs p d
  no_exits xs p f g = record {
    within = omega (arith, f, g);
    own = subst (All (λ (x : Exit). x.from ≡ p)) (sym ((λ i. slice_range xs (f i) (f i + g i)) ∙ between_from_start xs 0)) (All-nil (λ (x : Exit). x.from ≡ p));
  }

  has_pushed : (xs : List Exit) → d.first_exit ≡ 0 → d.exits ≡ 0 → ((p : ℕ) → p < length ds → HasExits xs p (kept_at ds p)) → (p : ℕ) → p < length (ds ++ d ∷ []) → HasExits xs p (kept_at (ds ++ d ∷ []) p)
  has_pushed xs f g h p l = elim (cases_lt p (length ds)) [
    | inl o ↦ subst (HasExits xs p) (sym (earlier p o)) (h p o)
    | inr o ↦
        let q : p ≡ length ds = omega (arith, many, l, o) in
        subst (HasExits xs p) (sym (ap (kept_at (ds ++ d ∷ [])) q ∙ get_or-append_seam ds d [] _)) (no_exits xs p f g)
  ]

first_pushed : (ps : List (List ℤ)) (costs : List ℤ) (ds : List KeptDictionary) (d : KeptDictionary) → 0 < length ds → All (IsStartDictionary ps costs) (take 1 ds)
    → All (IsStartDictionary ps costs) (take 1 (ds ++ d ∷ []))
first_pushed ps costs [] d l a = absurd (omega (arith, l))
first_pushed ps costs (x ∷ xs) d l a = a

pub all_pushed : (ps : List (List ℤ)) (weight : ℕ) (costs : List ℤ) (k l : KeptDictionaries) (d : KeptDictionary) → 0 < length k.all → l.all ≡ k.all ++ d ∷ [] → l.exits ≡ k.exits → l.edges ≡ k.edges
    → d.first_exit ≡ 0 → d.exits ≡ 0 → IsKept ps weight costs d → AreKept ps weight costs k → AreKept ps weight costs l
all_pushed ps weight costs k l d some all exits edges f g kept h =
    subst (AreKept ps weight costs) (λ i. record { variables = l.variables; width = l.width; all = sym all i; exits = sym exits i; edges = sym edges i }) record {
      each = All-push (IsKept ps weight costs) k.all d h.each kept;
      first = first_pushed ps costs k.all d some h.first;
      has_exits = has_pushed k.all d k.exits f g h.has_exits;
      exits = All-weaker (λ (x : Exit). (x.from < length k.all) × IsExitOf ps k.edges (kept_at k.all x.from) x) (λ (x : Exit). (x.from < length (k.all ++ d ∷ [])) × IsExitOf ps k.edges (kept_at (k.all ++ d ∷ []) x.from) x)
          (exits_pushed k.all d ps k.edges) k.exits h.exits;
      leads = All-weaker (Leads k.all) (Leads (k.all ++ d ∷ [])) (leads_pushed k.all d) k.edges h.leads;
    }

-- ---- as the code has it: `same` says that the dictionaries before the push are those of the turn, and k2 are those after it
module _ (ps : List (List ℤ)) (weight : ℕ) (k k1 : KeptDictionaries) (same : k1 ≡ k) (p : ℕ) (n : BasicSolution) (w : Turn) (size size' : ℤ) (m : BasicSolution) (size_same : size' ≡ size) (t : IsTurning ps weight k p n w size m)
    (there : p < length k.all) (own solved : List ℤ) (denominator : ℤ) (own_is : own ≡ row_in ps (kept_at k.all p) w.leaving) (denominator_is : denominator ≡ (kept_at k1.all p).denominator)
    (s : IsSolvedRow w.column (nat_abs denominator) own solved) (k2 : KeptDictionaries) (e : KeptDictionary) (pushed : k2.all ≡ k1.all ++ e ∷ []) (b : IsDictionaryBehind (kept_at k1.all p) w solved size' e)
    (q : ℕ) (q_is : q ≡ length k1.all) (costs : List ℤ) (h : AreKept ps weight costs k) where
  all_pushed_here : k2.all ≡ k.all ++ e ∷ []
  all_pushed_here = pushed ∙ ap (λ (k : KeptDictionaries). k.all ++ e ∷ []) same

  place_is : q ≡ length k.all
  place_is = q_is ∙ ap (λ (k : KeptDictionaries). length k.all) same

  at : e ≡ kept_at k2.all q
  at = sym ((λ i. kept_at (all_pushed_here i) (place_is i)) ∙ get_or-append_seam k.all e [] _)

  kept_here : IsKept ps weight costs (kept_at k.all p)
  kept_here = kept_of ps weight costs k p there h

  solved_here : IsSolvedRow w.column (nat_abs (kept_at k.all p).denominator) (row_in ps (kept_at k.all p) w.leaving) solved
  solved_here = subst (λ (T : Type 0). T) (λ i. IsSolvedRow w.column (nat_abs ((denominator_is ∙ ap (λ (k : KeptDictionaries). (kept_at k.all p).denominator) same) i)) (own_is i) solved) s

  behind_here : IsDictionaryBehind (kept_at k.all p) w solved size e
  behind_here = subst (λ (T : Type 0). T) (λ i. IsDictionaryBehind (kept_at (same i).all p) w solved (size_same i) e) b

  pub code_full : (i : ℕ) → i < length ps → length (get_or ps i []) ≡ length (kept_at k2.all q).rows
  code_full i l = kept_here.stored.compact.full i l ∙ sym behind_here.count ∙ ap (λ (e : KeptDictionary). length e.rows) at

  pub code_many : length (kept_at k2.all q).positions ≡ length (kept_at k2.all q).rows + length ps
  code_many = subst (λ (e : KeptDictionary). length e.positions ≡ length e.rows + length ps) at (made_many ps weight k p n w size m t costs kept_here solved e solved_here behind_here)

  pub code_apart : (v j : ℕ) → get_or (kept_at k2.all q).positions v InBasis ≡ InColumn j → IsColumnOf (kept_at k2.all q).positions v j
  code_apart = subst (λ (e : KeptDictionary). (v j : ℕ) → get_or e.positions v InBasis ≡ InColumn j → IsColumnOf e.positions v j) at (made_apart ps weight k p n w size m t costs kept_here solved e solved_here behind_here)

  pub code_nonbasic : AreNonbasic (kept_at k2.all q).positions (kept_at k2.all q).nonbasic
  code_nonbasic = subst (λ (e : KeptDictionary). AreNonbasic e.positions e.nonbasic) at (made_nonbasic ps weight k p n w size m t costs kept_here solved e solved_here behind_here)

  pub code_listed : HaveRows (kept_at k2.all q).basic_columns (kept_at k2.all q).rows
  code_listed = subst (λ (e : KeptDictionary). HaveRows e.basic_columns e.rows) at (made_listed ps weight k p n w size m t costs kept_here solved e solved_here behind_here)

  pub code_positive : pos 0 <ℤ (kept_at k2.all q).denominator
  code_positive = subst (λ (e : KeptDictionary). pos 0 <ℤ e.denominator) at (made_positive ps weight k p n w size m t costs kept_here solved e solved_here behind_here)

  module _ (k3 : KeptDictionaries) (last : k3 ≡ k2) (small : AreCombinationsSmall ps (kept_at k2.all q)) where
    small_here : AreCombinationsSmall ps e
    small_here = subst (AreCombinationsSmall ps) (sym at) small

    pub code_kept : k2.exits ≡ k1.exits → k2.edges ≡ k1.edges → AreKept ps weight costs k3
    code_kept exits edges = all_pushed ps weight costs k k3 e (omega (arith, there)) (ap (λ (k : KeptDictionaries). k.all) last ∙ all_pushed_here)
        (ap (λ (k : KeptDictionaries). k.exits) last ∙ exits ∙ ap (λ (k : KeptDictionaries). k.exits) same) (ap (λ (k : KeptDictionaries). k.edges) last ∙ edges ∙ ap (λ (k : KeptDictionaries). k.edges) same)
        behind_here.first_exit behind_here.exits (made_is_kept ps weight k p n w size m t costs kept_here solved e solved_here behind_here small_here) h

    pub code_moves : IsMove ps weight (dictionary_at k p) n k3 q m
    code_moves = subst (λ q. IsMove ps weight (dictionary_at k p) n k3 q m) (sym place_is)
        (made_moves ps weight k p n w size m t costs kept_here solved e solved_here behind_here small_here k3 (ap (λ (k : KeptDictionaries). k.all) last ∙ all_pushed_here))
