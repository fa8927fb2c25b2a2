-- What is kept stays so where something is noted of dictionaries.
use Rattle.std.proofs.Common.{◌≡◌, ℕ, ◌+◌, ◌<◌, ◌≤◌, arith, refl, ap, sym, subst, ◌∙◌, ◌⊎◌, inl, inr, List, [], ◌∷◌, ◌++◌, zero, suc, length, get_or, set, take, get_or-set_other, get_or-set_same, All}
use Rattle.std.specs.Prelude.{ℤ, map, slice_range}
use Rattle.std.proofs.Math.Seq.{map-set_same}
use Rattle.std.proofs.lemmas.Bool.{cases_eq}
use Rattle.std.proofs.lemmas.List.{get_or_default, length-append, length-set, length_push}
use Rattle.std.proofs.lemmas.List.Elements.{All-append, All-get_or, All-nil, All-push, All-set, All-weaker}
use Rattle.integer_tableau.proofs.Arenas.{piece_many, piece_of_front}
use Rattle.integer_tableau.proofs.EnteringByEdge.{aimed, alike_edges}
use Rattle.integer_tableau.proofs.ExitPieces.{all_of_piece, at_of_piece, get_or-piece, piece-append_end, piece_of_all}
use Rattle.integer_tableau.specs.Exits.{AreFirstEdges, edge_at}
use Rattle.integer_tableau.specs.IntegerDictionary.{ArePositionsBehind}
use Rattle.integer_tableau.specs.Kept.{AreKept, HasExits, IsExitOf, IsKept, IsStartDictionary, KeptDictionaries, KeptDictionary, Leads, dictionary_in, edges_of, exit_at, exits_of, kept_at, row_in}
use Rattle.integer_tableau.specs.declared.exits.Edge.{Edge}
use Rattle.integer_tableau.specs.declared.exits.Exit.{Exit}
use Rattle.integer_tableau.specs.declared.position.Position.TheVariants.{InBasis}

-- ---- exits and edges by themselves
-- an exit of the dictionaries of a list
abbrev pub IsNoted : List (List ℤ) → List Edge → List KeptDictionary → Exit → Type 0
IsNoted ps es ds x = (x.from < length ds) × IsExitOf ps es (kept_at ds x.from) x

pub no_edges : (nonbasic : List ℕ) (costs row : List ℤ) → AreFirstEdges nonbasic costs row []
no_edges nonbasic costs row = record {
  each = λ p l. absurd (omega (arith, l));
  order = λ p q l m. absurd (omega (arith, m));
  rest = λ k l o. inr (λ p m. absurd (omega (arith, m)));
}

-- that of a basic variable, of which no edge is noted yet
pub exit_begun : (ps : List (List ℤ)) (es : List Edge) (d : KeptDictionary) (x : Exit) → x.variable < length d.positions → get_or d.positions x.variable InBasis ≡ InBasis → x.first ≡ 0 → x.count ≡ 0 → IsExitOf ps es d x
exit_begun ps es d x l basic first count =
    let none : edges_of es x ≡ [] = λ i. slice_range es (first i) (first i + count i) in
    record {
      there = l;
      basic = basic;
      within = omega (arith, first, count);
      edges = subst (AreFirstEdges d.nonbasic d.reduced_costs (row_in ps d x.variable)) (sym none) (no_edges d.nonbasic d.reduced_costs (row_in ps d x.variable));
      own = subst (All (λ (e : Edge). (e.from ≡ x.from) × (e.leaving ≡ x.variable))) (sym none) (All-nil (λ (e : Edge). (e.from ≡ x.from) × (e.leaving ≡ x.variable)));
    }

-- edges are put behind all others
exit_grown : (ps : List (List ℤ)) (es more : List Edge) (d : KeptDictionary) (x : Exit) → IsExitOf ps es d x → IsExitOf ps (es ++ more) d x
exit_grown ps es more d x h =
    let same = piece_of_front es more x.first (x.first + x.count) h.within in
    record {
      there = h.there;
      basic = h.basic;
      within = omega (arith, h.within, length-append es more);
      edges = subst (AreFirstEdges d.nonbasic d.reduced_costs (row_in ps d x.variable)) (sym same) h.edges;
      own = subst (All (λ (e : Edge). (e.from ≡ x.from) × (e.leaving ≡ x.variable))) (sym same) h.own;
    }

-- ---- dictionaries of which something else is noted
abbrev pub noted : KeptDictionary → ℕ → ℕ → KeptDictionary
noted d first count = record d { first_exit = first; exits = count }

exit_same : (ps : List (List ℤ)) (es : List Edge) (d e : KeptDictionary) (x : Exit) → e ≡ noted d e.first_exit e.exits → IsExitOf ps es d x → IsExitOf ps es e x
exit_same ps es d e x same h = subst (λ e. IsExitOf ps es e x) (sym same) record { there = h.there; basic = h.basic; within = h.within; edges = h.edges; own = h.own }

module _ (ds : List KeptDictionary) (p first count : ℕ) where
  abbrev pub changed : List KeptDictionary
  changed = set ds p (noted (kept_at ds p) first count)

  same_at : (q : ℕ) → p < length ds → kept_at changed q ≡ noted (kept_at ds q) (kept_at changed q).first_exit (kept_at changed q).exits
  same_at q l = elim (cases_eq q p) [
    | inl e ↦ let here : kept_at changed q ≡ noted (kept_at ds q) first count = ap (kept_at changed) e ∙ get_or-set_same ds p (noted (kept_at ds p) first count) _ l ∙ ap (λ q. noted (kept_at ds q) first count) (sym e) in
        here ∙ (λ i. noted (kept_at ds q) (sym here i).first_exit (sym here i).exits)
    | inr e ↦ let other : kept_at changed q ≡ kept_at ds q = get_or-set_other ds p q (noted (kept_at ds p) first count) _ e in
        other ∙ (λ i. noted (kept_at ds q) (sym other i).first_exit (sym other i).exits)
  ]

  pub same_dictionaries : p < length ds → map dictionary_in changed ≡ map dictionary_in ds
  same_dictionaries l = map-set_same dictionary_in ds p (noted (kept_at ds p) first count) _ refl

first_noted : (ps : List (List ℤ)) (costs : List ℤ) (ds : List KeptDictionary) (p first count : ℕ) → p < length ds → All (IsStartDictionary ps costs) (take 1 ds) → All (IsStartDictionary ps costs) (take 1 (changed ds p first count))
first_noted ps costs [] p first count l a = a
first_noted ps costs (d ∷ ds) zero first count l a =
    let s : IsStartDictionary ps costs d = a 0 d (omega arith) in
    All-push (IsStartDictionary ps costs) [] (noted d first count) (All-nil (IsStartDictionary ps costs)) record { positions = s.positions; rows = s.rows; reduced_costs = s.reduced_costs; denominator = s.denominator }
first_noted ps costs (d ∷ ds) (suc p) first count l a = a

-- ---- an edge with another target
abbrev pub retargeted : List Edge → ℕ → ℕ → List Edge
retargeted es e target = set es e (aimed (edge_at es e) target)

-- ---- all of them
module _ (ps : List (List ℤ)) (weight : ℕ) (costs : List ℤ) (k : KeptDictionaries) (h : AreKept ps weight costs k) where
  -- one of them is one to keep
  pub kept_one : (p : ℕ) → p < length k.all → IsKept ps weight costs (kept_at k.all p)
  kept_one p l = All-get_or (IsKept ps weight costs) k.all p _ l h.each

  pub noted_one : (e : ℕ) → e < length k.exits → IsNoted ps k.edges k.all (exit_at k.exits e)
  noted_one e l = All-get_or (IsNoted ps k.edges k.all) k.exits e _ l h.exits

  -- edges are put behind all others
  pub edges_grown : (more : List Edge) → All (Leads k.all) more → AreKept ps weight costs (record k { edges = k.edges ++ more })
  edges_grown more leads = record {
    each = h.each;
    first = h.first;
    has_exits = h.has_exits;
    exits = All-weaker (IsNoted ps k.edges k.all) (IsNoted ps (k.edges ++ more) k.all) (λ x n. (n.0, exit_grown ps k.edges more (kept_at k.all x.from) x n.1)) k.exits h.exits;
    leads = All-append (Leads k.all) k.edges more h.leads leads;
  }

  -- exits are put behind all others
  pub exits_grown : (more : List Exit) → All (IsNoted ps k.edges k.all) more → AreKept ps weight costs (record k { exits = k.exits ++ more })
  exits_grown more noted = record {
    each = h.each;
    first = h.first;
    has_exits = λ p l.
        let x = h.has_exits p l in
        let d = kept_at k.all p in
        record {
          within = omega (arith, x.within, length-append k.exits more);
          own = subst (All (λ (x : Exit). x.from ≡ p)) (sym (piece_of_front k.exits more d.first_exit (d.first_exit + d.exits) x.within)) x.own;
        };
    exits = All-append (IsNoted ps k.edges k.all) k.exits more h.exits noted;
    leads = h.leads;
  }

  -- an exit gets other edges
  pub exit_changed : (e : ℕ) (y : Exit) → e < length k.exits → y.from ≡ (exit_at k.exits e).from → IsNoted ps k.edges k.all y → AreKept ps weight costs (record k { exits = set k.exits e y })
  exit_changed e y there from noted = record {
    each = h.each;
    first = h.first;
    has_exits = λ p l.
        let x = h.has_exits p l in
        let d = kept_at k.all p in
        let many = length-set k.exits e y in
        record {
          within = omega (arith, x.within, many);
          own = all_of_piece (set k.exits e y) (λ (x : Exit). x.from ≡ p) d.first_exit d.exits (omega (arith, x.within, many))
              (λ i none m. one_from (d.first_exit + i) none ∙ at_of_piece k.exits (λ (x : Exit). x.from ≡ p) d.first_exit d.exits x.within x.own i none m);
        };
    exits = All-set (IsNoted ps k.edges k.all) k.exits e y noted h.exits;
    leads = h.leads;
  }
    where
      one_from : (q : ℕ) (none : Exit) → (get_or (set k.exits e y) q none).from ≡ (get_or k.exits q none).from
      one_from q none = elim (cases_eq q e) [
        | inl r ↦ ap (λ q. (get_or (set k.exits e y) q none).from) r ∙ ap (λ (x : Exit). x.from) (get_or-set_same k.exits e y none there) ∙ from
            ∙ ap (λ (x : Exit). x.from) (get_or_default k.exits e _ none there) ∙ ap (λ q. (get_or k.exits q none).from) (sym r)
        | inr r ↦ ap (λ (x : Exit). x.from) (get_or-set_other k.exits e q y none r)
      ]

  -- the exits of a dictionary are noted elsewhere
  pub exits_moved : (p first count : ℕ) → p < length k.all → first + count ≤ length k.exits → All (λ (x : Exit). x.from ≡ p) (slice_range k.exits first (first + count))
      → AreKept ps weight costs (record k { all = changed k.all p first count })
  exits_moved p first count there within own = record {
    each = All-set (IsKept ps weight costs) k.all p (noted (kept_at k.all p) first count) kept h.each;
    first = first_noted ps costs k.all p first count there h.first;
    has_exits = λ q l. elim (cases_eq q p) [
      | inl e ↦ subst (λ q. HasExits k.exits q (kept_at (changed k.all p first count) q)) (sym e) (subst (HasExits k.exits p) (sym (get_or-set_same k.all p (noted (kept_at k.all p) first count) _ there)) record { within = within; own = own })
      | inr e ↦ subst (HasExits k.exits q) (sym (get_or-set_other k.all p q (noted (kept_at k.all p) first count) _ e)) (h.has_exits q (omega (arith, l, many)))
    ];
    exits = All-weaker (IsNoted ps k.edges k.all) (IsNoted ps k.edges (changed k.all p first count))
        (λ x n. (omega (arith, n.0, many), exit_same ps k.edges (kept_at k.all x.from) (kept_at (changed k.all p first count) x.from) x (same_at k.all p first count x.from there) n.1)) k.exits h.exits;
    leads = All-weaker (Leads k.all) (Leads (changed k.all p first count)) (λ e lead o. (omega (arith, (lead o).0, many), behind e (lead o).1)) k.edges h.leads;
  }
    where
      many : length (changed k.all p first count) ≡ length k.all
      many = length-set k.all p (noted (kept_at k.all p) first count)

      kept : IsKept ps weight costs (noted (kept_at k.all p) first count)
      kept = let d = kept_one p there in record { stored = d.stored; positive = d.positive; nonbasic = d.nonbasic; columns = d.columns; basic = d.basic }

      positions : (q : ℕ) → (kept_at (changed k.all p first count) q).positions ≡ (kept_at k.all q).positions
      positions q = ap (λ (d : KeptDictionary). d.positions) (same_at k.all p first count q there)

      behind : (e : Edge) → ArePositionsBehind e.leaving e.entering (kept_at k.all e.from).positions (kept_at k.all e.target).positions
          → ArePositionsBehind e.leaving e.entering (kept_at (changed k.all p first count) e.from).positions (kept_at (changed k.all p first count) e.target).positions
      behind e b =
          subst (λ ss. ArePositionsBehind e.leaving e.entering ss (kept_at (changed k.all p first count) e.target).positions) (sym (positions e.from))
          (subst (ArePositionsBehind e.leaving e.entering (kept_at k.all e.from).positions) (sym (positions e.target)) b)

  -- the target of an edge is noted
  pub edge_aimed : (e target : ℕ) → e < length k.edges → Leads k.all (aimed (edge_at k.edges e) target) → AreKept ps weight costs (record k { edges = retargeted k.edges e target })
  edge_aimed e target there leads = record {
    each = h.each;
    first = h.first;
    has_exits = h.has_exits;
    exits = All-weaker (IsNoted ps k.edges k.all) (IsNoted ps (retargeted k.edges e target) k.all) (λ x n. (n.0, exit_aimed (kept_at k.all x.from) x n.1)) k.exits h.exits;
    leads = All-set (Leads k.all) k.edges e (aimed (edge_at k.edges e) target) leads h.leads;
  }
    where
      many : length (retargeted k.edges e target) ≡ length k.edges
      many = length-set k.edges e (aimed (edge_at k.edges e) target)

      as_aimed : (q : ℕ) (none : Edge) → q < length k.edges → (t : ℕ) × (get_or (retargeted k.edges e target) q none ≡ aimed (get_or k.edges q none) t)
      as_aimed q none l = elim (cases_eq q e) [
        | inl r ↦ (
          target,
          ap (λ q. get_or (retargeted k.edges e target) q none) r ∙ get_or-set_same k.edges e (aimed (edge_at k.edges e) target) none there
              ∙ ap (λ e. aimed e target) (get_or_default k.edges e _ none there ∙ ap (λ q. get_or k.edges q none) (sym r)),
        )
        | inr r ↦ ((get_or k.edges q none).target, get_or-set_other k.edges e q (aimed (edge_at k.edges e) target) none r)
      ]

      exit_aimed : (d : KeptDictionary) (x : Exit) → IsExitOf ps k.edges d x → IsExitOf ps (retargeted k.edges e target) d x
      exit_aimed d x n =
          let within : x.first + x.count ≤ length (retargeted k.edges e target) = omega (arith, n.within, many) in
          let old = piece_many k.edges x.first x.count n.within in
          let new = piece_many (retargeted k.edges e target) x.first x.count within in
          record {
            there = n.there;
            basic = n.basic;
            within = within;
            edges = alike_edges d.nonbasic d.reduced_costs (row_in ps d x.variable) (edges_of k.edges x) (edges_of (retargeted k.edges e target) x) (new ∙ sym old)
                (λ q l. let m : q < x.count = omega (arith, l, old) in
                let a = as_aimed (x.first + q) _ (omega (arith, m, n.within)) in
                (a.0, get_or-piece (retargeted k.edges e target) x.first x.count q _ m ∙ a.1 ∙ ap (λ e. aimed e a.0) (sym (get_or-piece k.edges x.first x.count q _ m)))) n.edges;
            own = all_of_piece (retargeted k.edges e target) (λ (e : Edge). (e.from ≡ x.from) × (e.leaving ≡ x.variable)) x.first x.count within
                (λ q none m. subst (λ (e : Edge). (e.from ≡ x.from) × (e.leaving ≡ x.variable)) (sym (as_aimed (x.first + q) none (omega (arith, m, n.within))).1)
                (at_of_piece k.edges (λ (e : Edge). (e.from ≡ x.from) × (e.leaving ≡ x.variable)) x.first x.count n.within n.own q none m));
          }

  -- the exits of a dictionary may have been put behind all others
  pub exits_stay : (p : ℕ) (moved : List Exit) → (moved ≡ k.exits) ⊎ (moved ≡ k.exits ++ exits_of k.exits (kept_at k.all p)) → AreKept ps weight costs (record k { exits = moved })
  exits_stay p moved put = elim put [
    | inl e ↦ subst (λ xs. AreKept ps weight costs (record k { exits = xs })) (sym e) h
    | inr e ↦ subst (λ xs. AreKept ps weight costs (record k { exits = xs })) (sym e)
        (exits_grown (exits_of k.exits (kept_at k.all p)) (piece_of_all k.exits (IsNoted ps k.edges k.all) (kept_at k.all p).first_exit ((kept_at k.all p).first_exit + (kept_at k.all p).exits) h.exits))
  ]

-- an exit is put behind the others of its dictionary
pub exit_pushed : (ps : List (List ℤ)) (weight : ℕ) (costs : List ℤ) (k : KeptDictionaries) (p first : ℕ) (moved : List Exit) (x : Exit) → AreKept ps weight costs k → p < length k.all
    → (moved ≡ k.exits) ⊎ (moved ≡ k.exits ++ exits_of k.exits (kept_at k.all p)) → first + (kept_at k.all p).exits ≡ length moved
    → slice_range moved first (first + (kept_at k.all p).exits) ≡ exits_of k.exits (kept_at k.all p) → x.from ≡ p → IsExitOf ps k.edges (kept_at k.all p) x
    → AreKept ps weight costs (record k { all = changed k.all p first ((kept_at k.all p).exits + 1); exits = moved ++ x ∷ [] })
exit_pushed ps weight costs k p first moved x h there put last same from is =
    exits_moved ps weight costs (record k { exits = moved ++ x ∷ [] }) with_it p first ((kept_at k.all p).exits + 1) there (omega (arith, last, length_push moved x)) own
  where
    noted_it : IsNoted ps k.edges k.all x
    noted_it = (omega (arith, from, there), subst (λ q. IsExitOf ps k.edges (kept_at k.all q) x) (sym from) is)

    with_it : AreKept ps weight costs (record k { exits = moved ++ x ∷ [] })
    with_it = exits_grown ps weight costs (record k { exits = moved }) (exits_stay ps weight costs k h p moved put) (x ∷ []) (All-push (IsNoted ps k.edges k.all) [] x (All-nil (IsNoted ps k.edges k.all)) noted_it)

    own : All (λ (x : Exit). x.from ≡ p) (slice_range (moved ++ x ∷ []) first (first + ((kept_at k.all p).exits + 1)))
    own =
        subst (All (λ (x : Exit). x.from ≡ p)) (sym (piece-append_end moved (x ∷ []) first (kept_at k.all p).exits 1 last refl))
        (All-push (λ (x : Exit). x.from ≡ p) (slice_range moved first (first + (kept_at k.all p).exits)) x (subst (All (λ (x : Exit). x.from ≡ p)) (sym same) (h.has_exits p there).own) from)
