-- Lemmas: each node of a finished search was split, or the proof that closed it is legal as things stand in the end.
use Rattle.std.specs.Prelude.{◌≡◌, ◌≢◌, ◌<◌, ◌≤◌, ◌+◌, ℕ, zero, suc, ◌-◌, ℤ, Bool, true, false, not, cond, eqb, List, [], ◌∷◌, ◌++◌, length, Option, Some, None, slice_index_or, slice_set, refl}
use Rattle.std.specs.Option.{option_or, option_map}
use Rattle.std.proofs.Common.{sym, ap, ◌∙◌, subst, inl, inr, arith}
use Rattle.std.proofs.lemmas.Bool.{eqb-true, eqb-false, false≢true, cases_lt}
use Rattle.std.proofs.lemmas.List.{append-nil, append_assoc, length-set, get_or_append_left, get_or-append_right, get_or-set_other}
use Rattle.fraction.specs.Rational.{ℚ}
use Rattle.problem_box.specs.declared.span.Span.{Span}
use Rattle.problem.specs.declared.row.Row.{Row}
use Rattle.problem.specs.Problem.{Problem}
use Rattle.problem.specs.Limited.{IsLimited}
use Rattle.node_tree.specs.declared.branch.Node.{Node}
use Rattle.node_tree.specs.Nodes.{children_at}
use Rattle.node_tree.specs.Paths.{box_at}
use Rattle.node_tree.specs.Laws.{IsSplitAt}
use Rattle.node_tree.specs.Lemmas.Splitting.{other_node, this_node, same_or_not, split_at, length-split}
use Rattle.node_tree.specs.Limits.{most_nodes}
use Rattle.node_events.specs.declared.proof.Proof.{Proof}
use Rattle.node_events.specs.declared.reason.Reason.{Reason}
use Rattle.node_events.specs.declared.event.Event.{Event}
use Rattle.node_events.specs.declared.event.Event.TheVariants.{Claim, Release, Cut as CutEvent, Offer, Split, Close}
use Rattle.derivation_book.specs.declared.cut.Cut.{Cut}
use Rattle.derivation_book.specs.Rounded.{rounded_row}
use Rattle.derivation_book.specs.Legal.{IsLegalProof, IsAtMost}
use Rattle.derivation_book.specs.Lemmas.Deciding.{decides-legal}
use Rattle.derivation_book.specs.Lemmas.Staying.{still_legal, same_cutoff}
use Rattle.event_core.specs.declared.entry.Entry.{Entry}
use Rattle.event_core.specs.States.{State, first_state, tree_of, box_of, cutoff, is_open, open_count}
use Rattle.event_core.specs.After.{after, after_cut}
use Rattle.event_core.specs.Histories.{IsLegal, state_from, state_of, AreLegalFrom, AreLegal}
use Rattle.event_core.specs.Sound.{IsSound}
use Rattle.event_core.specs.Lemmas.Passing.{split_passed, close_passed}
use Rattle.event_core.specs.Lemmas.Running.{from-problem}
use Rattle.event_core.specs.Lemmas.Ended.{left_within, leaves-length, count-ended}
use Rattle.event_core.specs.Lemmas.Sounding.{IsKept, first_kept, kept_after, kept_sound, legal_kept, is_improvement, better_cutoff}
use Rattle.cert_merge.specs.Endings.{closing, proof_of}
use Rattle.cert_merge.specs.Numbers.{IsNumbered}
use Rattle.problem.specs.Directions.{aim_at}

-- ---- the proof of a node, one event more
or_none : (o : Option Proof) → option_or o None ≡ o
or_none None = refl
or_none (Some x) = refl

or_assoc : (o p q : Option Proof) → option_or (option_or o p) q ≡ option_or o (option_or p q)
or_assoc None p q = refl
or_assoc (Some x) p q = refl

pub proof_of-push : (es : List Entry) (e : Entry) (i : ℕ) → proof_of (es ++ e ∷ []) i ≡ option_or (closing e.event i) (proof_of es i)
proof_of-push [] e i = sym (or_none (closing e.event i))
proof_of-push (d ∷ es) e i = ap (λ o. option_or o (closing d.event i)) (proof_of-push es e i) ∙ or_assoc (closing e.event i) (proof_of es i) (closing d.event i)

-- ---- one node
-- the node was closed, by a proof that is legal
pub record IsProved (s : State) (es : List Entry) (i : ℕ) : Type 0 where
  pub proof : Proof
  pub found : proof_of es i ≡ Some proof
  pub legal : IsLegalProof s.problem s.cuts (box_of s i) (cutoff s) proof

still_proved : (s t : State) (es : List Entry) (e : Entry) (i : ℕ) (more : List Cut) → t.problem ≡ s.problem → t.cuts ≡ s.cuts ++ more → box_of t i ≡ box_of s i → IsAtMost (cutoff t) (cutoff s)
    → closing e.event i ≡ None → IsProved s es i → IsProved t (es ++ e ∷ []) i
still_proved s t es e i more p c b l n h = record {
  proof = h.proof;
  found = proof_of-push es e i ∙ ap (λ o. option_or o (proof_of es i)) n ∙ h.found;
  legal = subst (λ (q : Problem). IsLegalProof q t.cuts (box_of t i) (cutoff t) h.proof) (sym p)
      (subst (λ (cs : List Cut). IsLegalProof s.problem cs (box_of t i) (cutoff t) h.proof) (sym c)
      (subst (λ (ss : List Span). IsLegalProof s.problem (s.cuts ++ more) ss (cutoff t) h.proof) (sym b) (still_legal s.problem s.cuts more (box_of s i) (cutoff s) (cutoff t) h.proof l h.legal)));
}

-- ---- all nodes
-- each node that has ended was split, or is proved
pub AreProved : State → List Entry → Type 0
AreProved s es = (i : ℕ) → i < length s.nodes → is_open s i ≡ false → children_at (tree_of s) i ≡ None → IsProved s es i

first_proved : (p : Problem) → AreProved (first_state p) []
unfolding AreProved
first_proved p i l o c = absurd (still_open i l o)
  where
    still_open : (i : ℕ) → i < 1 → is_open (first_state p) i ≡ false → ⊥
    still_open zero l o = cc
    still_open (suc i) l o = omega (arith, l)

-- where nothing of it changes
unchanged : (s t : State) (es : List Entry) (e : Entry) → t.nodes ≡ s.nodes → t.ended ≡ s.ended → t.problem ≡ s.problem → (more : List Cut) → t.cuts ≡ s.cuts ++ more → IsAtMost (cutoff t) (cutoff s)
    → ((i : ℕ) → closing e.event i ≡ None) → AreProved s es → AreProved t (es ++ e ∷ [])
unfolding AreProved
unchanged s t es e ns ds p more c l n h i k o ch =
    still_proved s t es e i more p c (λ j. box_at (record { root = (p j).spans; nodes = ns j; room = 0 }) i) l (n i)
    (h i (subst (λ (ms : List Node). i < length ms) ns k) (subst (λ (es : List Bool). not (slice_index_or es i true) ≡ false) ds o) (subst (λ (ms : List Node). children_at (record { root = []; nodes = ms; room = 0 }) i ≡ None) ns ch))

kept_by_cut : (s : State) (es : List Entry) (e : Entry) (mult : List (ℕ × ℚ)) (o : Option Row) → ((i : ℕ) → closing e.event i ≡ None) → AreProved s es → AreProved (after_cut s mult o) (es ++ e ∷ [])
kept_by_cut s es e mult None n h = unchanged s s es e refl refl refl [] (sym (append-nil s.cuts)) (same_cutoff (cutoff s)) n h
kept_by_cut s es e mult (Some r) n h = unchanged s (after_cut s mult (Some r)) es e refl refl refl (record { row = r; mult = mult } ∷ []) refl (same_cutoff (cutoff s)) n h

not_false : (b : Bool) → not b ≡ true → not b ≡ false → ⊥
not_false true e f = false≢true e
not_false false e f = cc

-- ---- a split
module _ (s : State) (es : List Entry) (w : Option ℕ) (i j : ℕ) (b : ℤ) (reason : Reason) (k : IsKept s) (l : IsLegal s w (Split i j b reason)) where
  abbrev t : State
  t = after s w (Split i j b reason)

  there : i < length s.nodes
  there = omega (arith, left_within s.ended i (split_passed s w i j b reason l.admitted).opened, leaves-length s.ended s.nodes k.leaves)

  kept_at : IsSplitAt (tree_of s) i j b
  kept_at = split_at (tree_of s) i j b k.tree there

  length-ended : length (slice_set s.ended i true) ≡ length s.nodes
  length-ended = length-set s.ended i true ∙ leaves-length s.ended s.nodes k.leaves

  -- a new node is open
  new_open : (n : ℕ) → length s.nodes ≤ n → n < length t.nodes → is_open t n ≡ true
  new_open n g h = elim (cases_lt (length s.nodes) n) [
    | inl q ↦
        (let z : n - length s.nodes ≡ 1 = omega (arith, h, q, length-split (tree_of s) i j b) in
        ap not (get_or-append_right (slice_set s.ended i true) (false ∷ false ∷ []) (length s.nodes) n true length-ended g ∙ ap (λ m. slice_index_or (false ∷ false ∷ []) m true) z))
    | inr q ↦
        (let z : n - length s.nodes ≡ 0 = omega (arith, g, q) in
        ap not (get_or-append_right (slice_set s.ended i true) (false ∷ false ∷ []) (length s.nodes) n true length-ended g ∙ ap (λ m. slice_index_or (false ∷ false ∷ []) m true) z))
  ]

  old_open : (n : ℕ) → n < length s.nodes → n ≢ i → is_open t n ≡ is_open s n
  old_open n h o =
      ap not (get_or_append_left (slice_set s.ended i true) (false ∷ false ∷ []) true n (omega (arith, h, length-ended)) ∙ get_or-set_other s.ended i n true true o)

  old_children : (n : ℕ) → n < length s.nodes → n ≢ i → children_at (tree_of t) n ≡ children_at (tree_of s) n
  old_children n h o = ap (λ (m : Node). option_map (λ (k : ℕ). (k, k + 1)) m.first_child) (other_node (tree_of s) i j b n h o)

  parted : children_at (tree_of t) i ≡ Some (length s.nodes, length s.nodes + 1)
  parted = ap (λ (m : Node). option_map (λ (k : ℕ). (k, k + 1)) m.first_child) (this_node (tree_of s) i j b i there refl)

  was_parted : (n : ℕ) → n ≡ i → children_at (tree_of t) n ≡ None → ⊥
  was_parted n e c = let q : children_at (tree_of t) i ≡ None = subst (λ m. children_at (tree_of t) m ≡ None) e c in let z = parted in cc

  split_proved : AreProved s es → AreProved t (es ++ record { worker = w; event = Split i j b reason } ∷ [])
  unfolding AreProved
  split_proved h n m o c = elim (cases_lt n (length s.nodes)) [
    | inl g ↦ elim (same_or_not (tree_of s) i j b n) [
      | inl e ↦ absurd (was_parted n e c)
      | inr e ↦
          still_proved s t es (record { worker = w; event = Split i j b reason }) n [] refl (sym (append-nil s.cuts)) (kept_at.box_kept n g) (same_cutoff (cutoff s)) refl
          (h n g (sym (old_open n g e) ∙ o) (sym (old_children n g e) ∙ c))
    ]
    | inr g ↦ absurd (false≢true (sym o ∙ new_open n g m))
  ]

-- ---- a close
module _ (s : State) (es : List Entry) (w : Option ℕ) (i : ℕ) (proof : Proof) (l : IsLegal s w (Close i proof)) where
  abbrev e : Entry
  e = record { worker = w; event = Close i proof }

  close_proved : AreProved s es → AreProved (after s w (Close i proof)) (es ++ e ∷ [])
  unfolding AreProved
  close_proved h n m o c = step (eqb i n) refl
    where
      step : (b : Bool) → eqb i n ≡ b → IsProved (after s w (Close i proof)) (es ++ e ∷ []) n
      step true q =
          let z : i ≡ n = eqb-true i n q in
          record {
            proof = proof;
            found = proof_of-push es e n ∙ ap (λ b. option_or (cond b (Some proof) None) (proof_of es n)) q;
            legal = subst (λ k. IsLegalProof s.problem s.cuts (box_of s k) (cutoff s) proof) z ((decides-legal s.problem s.cuts (box_of s i) (cutoff s) proof).0 (close_passed s w i proof l.admitted).legal);
          }
      step false q =
          let z : n ≢ i = λ f. eqb-false i n q (sym f) in
          still_proved s (after s w (Close i proof)) es e n [] refl (sym (append-nil s.cuts)) refl (same_cutoff (cutoff s)) (ap (λ b. cond b (Some proof) None) q)
          (h n m (sym (ap not (get_or-set_other s.ended i n true true z)) ∙ o) c)

-- ---- all events
proved_after : (s : State) (es : List Entry) (w : Option ℕ) (e : Event) → IsKept s → IsLegal s w e → AreProved s es → AreProved (after s w e) (es ++ record { worker = w; event = e } ∷ [])
proved_after s es w (Claim i) k l h =
    unchanged s (after s w (Claim i)) es (record { worker = w; event = Claim i }) refl refl refl [] (sym (append-nil s.cuts)) (same_cutoff (cutoff s)) (λ n. refl) h
proved_after s es w (Release i) k l h =
    unchanged s (after s w (Release i)) es (record { worker = w; event = Release i }) refl refl refl [] (sym (append-nil s.cuts)) (same_cutoff (cutoff s)) (λ n. refl) h
proved_after s es w (CutEvent mult) k l h = kept_by_cut s es (record { worker = w; event = CutEvent mult }) mult (rounded_row s.problem s.cuts mult) (λ n. refl) h
proved_after s es w (Offer x) k l h =
    unchanged s (after s w (Offer x)) es (record { worker = w; event = Offer x }) refl refl refl [] (sym (append-nil s.cuts)) (better_cutoff s.incumbent (aim_at s.problem x) (is_improvement s w x l).better) (λ n. refl) h
proved_after s es w (Split i j b reason) k l h = split_proved s es w i j b reason k l h
proved_after s es w (Close i proof) k l h = close_proved s es w i proof l h

proved_from : (s : State) (done es : List Entry) → IsKept s → AreLegalFrom s es → AreProved s done → AreProved (state_from s es) (done ++ es)
proved_from s done [] k l h = subst (AreProved s) (sym (append-nil done)) h
proved_from s done (e ∷ es) k l h =
    subst (AreProved (state_from (after s e.worker e.event) es)) (append_assoc done (e ∷ []) es)
    (proved_from (after s e.worker e.event) (done ++ e ∷ []) es (kept_after s e.worker e.event k l.0) l.1 (proved_after s done e.worker e.event k l.0 h))

pub all_proved : (p : Problem) (es : List Entry) → AreLegal p es → AreProved (state_of p es) es
all_proved p es l = proved_from (first_state p) [] es (first_kept p) l (first_proved p)

-- ---- no node is open
none_open : (s : State) (i : ℕ) → open_count s ≡ 0 → is_open s i ≡ false
none_open s i h = step (is_open s i) refl
  where
    step : (b : Bool) → is_open s i ≡ b → is_open s i ≡ false
    step false e = e
    step true e = absurd (omega (arith, count-ended s.ended i e, h))

-- what is true of a finished search
pub record IsDone (s : State) (es : List Entry) : Type 0 where
  pub sound : IsSound s
  pub proved : (i : ℕ) → i < length s.nodes → children_at (tree_of s) i ≡ None → IsProved s es i

pub done_from : (p : Problem) (es : List Entry) → AreLegal p es → open_count (state_of p es) ≡ 0 → IsDone (state_of p es) es
unfolding AreProved
done_from p es l o = record {
  sound = kept_sound (state_of p es) (legal_kept p es l);
  proved = λ i h c. all_proved p es l i h (none_open (state_of p es) i o) c;
}

pub done_with : (p : Problem) (s : State) (es : List Entry) → s ≡ state_of p es → AreLegal p es → open_count s ≡ 0 → IsDone s es
done_with p s es e l o = subst (λ (t : State). IsDone t es) (sym e) (done_from p es l (subst (λ (t : State). open_count t ≡ 0) e o))

pub of_problem : (p : Problem) (es : List Entry) → (state_of p es).problem ≡ p
of_problem p es = from-problem (first_state p) es

-- ---- numbers of lines
pub is_numbered : (s : State) → IsSound s → IsLimited s.problem → length s.nodes ≤ most_nodes → IsNumbered s
is_numbered s h l n = omega (arith, h.few_cuts, l.few_columns, l.few_rows, n)
