-- The list of the open nodes, step by step.
use Rattle.std.specs.Prelude.{◌≡◌, ◌⊎◌, ◌<◌, ◌≤◌, ◌+◌, ◌-◌, ℕ, ℤ, pos, ◌+ℤ◌, true, false, List, [], ◌∷◌, ◌++◌, length, All, Option, Some, slice_set, option_to_list, IfSome, None, refl}
use Rattle.std.proofs.Common.{sym, ap, ◌∙◌, subst, inl, inr, arith, length-append}
use Rattle.std.proofs.lemmas.Bool.{cases_lt}
use Rattle.std.proofs.lemmas.List.{length-set, length_push}
use Rattle.std.proofs.lemmas.List.Elements.{All-nil, All-cons, All-head, All-tail, All-append, All-weaker, All-pop}
use Rattle.problem_box.specs.Changes.{cut_low, cut_high}
use Rattle.node_tree.specs.Nodes.{Tree}
use Rattle.node_tree.specs.Paths.{box_at}
use Rattle.node_tree.specs.Laws.{IsSplitAt}
use Rattle.event_core.specs.States.{State, tree_of, is_open, box_of, open_count}
use Rattle.event_core.specs.After.{after_split, after_close, after_offer}
use Rattle.event_core.specs.Lemmas.Ended.{is_left, left_kept, left_prefix, left_within}
use Rattle.core_search.specs.declared.open_node.OpenNode.{OpenNode}
use Rattle.derivation_book.specs.declared.cut.Cut.{Cut}
use Rattle.fraction.specs.Rational.{ℚ}
use Rattle.pseudo_cost.specs.declared.side.Side.{Side}
use Rattle.pseudo_cost.specs.declared.side.Side.TheVariants.{Down, Up}
use Rattle.core_search.specs.OpenNodes.{IsOpenNode, HaveRisingNumbers, IsAmong, AreOpenNodes, origin_of, children}
use Rattle.core_search.proofs.StillOpen.{not_left, left_before, first_left, second_left, which_left, none_open}

abbrev Below : ℕ → OpenNode → Type 0
Below n o = o.number < n

-- ---- rising numbers
pub rising_push : (os us : List OpenNode) (n : ℕ) → HaveRisingNumbers os → All (Below n) os → HaveRisingNumbers us → All (λ (u : OpenNode). n ≤ u.number) us → HaveRisingNumbers (os ++ us)
rising_push [] us n h b k l = k
rising_push (o ∷ os) us n h b k l =
    let here = All-head (Below n) o os b in (
      All-append (λ (p : OpenNode). o.number < p.number) os us h.0 (All-weaker (λ (u : OpenNode). n ≤ u.number) (λ (p : OpenNode). o.number < p.number) (λ u m. omega (arith, here, m)) us l),
      rising_push os us n h.1 (All-tail (Below n) o os b) k l,
    )

pub rising_parts : (os : List OpenNode) (o : OpenNode) → HaveRisingNumbers (os ++ o ∷ []) → HaveRisingNumbers os × All (Below o.number) os
rising_parts [] o h = (tt, All-nil (Below o.number))
rising_parts (p ∷ os) o h =
    let r = rising_parts os o h.1 in
    let split = All-pop (λ (q : OpenNode). p.number < q.number) (os ++ o ∷ []) os (Some o) refl h.0 in
    ((split.0, r.0), All-cons (Below o.number) p os split.1 r.1)

-- ---- which nodes they are
pub among_below : (n : ℕ) (os : List OpenNode) (k : ℕ) → All (Below n) os → IsAmong os k → k < n
among_below n [] k h a = absurd a
among_below n (o ∷ os) k h a = elim a [
  | inl e ↦ (let l = All-head (Below n) o os h in omega (arith, l, e))
  | inr r ↦ among_below n os k (All-tail (Below n) o os h) r
]

pub among_pushed : (os : List OpenNode) (us : List OpenNode) (k : ℕ) → IsAmong (os ++ us) k → IsAmong os k ⊎ IsAmong us k
among_pushed [] us k a = inr a
among_pushed (o ∷ os) us k a = elim a [
  | inl e ↦ inl (inl e)
  | inr r ↦ elim (among_pushed os us k r) [ inl q ↦ inl (inr q) | inr q ↦ inr q ]
]

pub among_first : (os us : List OpenNode) (k : ℕ) → IsAmong os k → IsAmong (os ++ us) k
among_first [] us k a = absurd a
among_first (o ∷ os) us k a = elim a [ inl e ↦ inl e | inr r ↦ inr (among_first os us k r) ]

pub among_last : (os us : List OpenNode) (k : ℕ) → IsAmong us k → IsAmong (os ++ us) k
among_last [] us k a = a
among_last (o ∷ os) us k a = inr (among_last os us k a)

-- ---- the list with a node at its end
module _ (s : State) (os : List OpenNode) (o : OpenNode) (h : AreOpenNodes s (os ++ o ∷ [])) where
  parts : All (IsOpenNode s) os × IsOpenNode s o
  parts = All-pop (IsOpenNode s) (os ++ o ∷ []) os (Some o) refl h.nodes

  pub last_node : IsOpenNode s o
  last_node = parts.1

  rising : HaveRisingNumbers os × All (Below o.number) os
  rising = rising_parts os o h.rising

  which : (k : ℕ) → is_open s k ≡ true → IsAmong os k ⊎ (o.number ≡ k)
  which k q = elim (among_pushed os (o ∷ []) k (h.listed k q)) [ inl a ↦ inl a | inr a ↦ elim a [ inl e ↦ inr e | inr n ↦ absurd n ] ]

  pub last_greatest : (k : ℕ) → is_open s k ≡ true → k ≤ o.number
  last_greatest k q = elim (which k q) [
    | inl a ↦ (let l = among_below o.number os k rising.1 a in omega (arith, l))
    | inr e ↦ omega (arith, e)
  ]

  -- the others
  others : All (λ (p : OpenNode). IsOpenNode s p × (p.number < o.number)) os
  others = λ k d l. (parts.0 k d l, rising.1 k d l)

  -- ---- the last node is closed
  pub closed_nodes : AreOpenNodes (after_close s o.number) os
  closed_nodes = record {
    nodes = All-weaker (λ (p : OpenNode). IsOpenNode s p × (p.number < o.number)) (IsOpenNode (after_close s o.number))
        (λ p q. record { opened = left_kept s.ended o.number p.number (λ e. omega (arith, q.1, e)) q.0.opened; area = q.0.area; origin = q.0.origin }) os others;
    rising = rising.0;
    listed = λ k q. elim (which k (left_before s.ended o.number k q)) [
      | inl a ↦ a
      | inr e ↦ absurd (not_left s.ended o.number (subst (λ m. is_left (slice_set s.ended o.number true) m ≡ true) (sym e) q))
    ];
  }

  -- ---- the last node is split
  module _ (j : ℕ) (b : ℤ) (value : Option ℚ) (size : length s.ended ≡ length s.nodes) (split : IsSplitAt (tree_of s) o.number j b) (within : j < length s.problem.spans) where
    abbrev n : ℕ
    n = length s.nodes

    abbrev after : State
    after = after_split s o.number j b

    abbrev two : List OpenNode
    two = children n o.area j b value

    long : length (slice_set s.ended o.number true) ≡ n
    long = length-set s.ended o.number true ∙ size

    there : (k : ℕ) → is_open s k ≡ true → k < n
    there k q = let l = left_within s.ended k q in omega (arith, l, size)

    old_boxes : All (IsOpenNode after) os
    old_boxes = All-weaker (λ (p : OpenNode). IsOpenNode s p × (p.number < o.number)) (IsOpenNode after)
        (λ p q.
        record {
          opened = left_prefix (slice_set s.ended o.number true) (false ∷ false ∷ []) p.number (left_kept s.ended o.number p.number (λ e. omega (arith, q.1, e)) q.0.opened);
          area = q.0.area ∙ sym (split.box_kept p.number (there p.number q.0.opened));
          origin = q.0.origin;
        }) os others

    abbrev left : OpenNode
    left = record { number = n; area = cut_high o.area j b; origin = origin_of j Down value }

    abbrev right : OpenNode
    right = record { number = n + 1; area = cut_low o.area j (b +ℤ pos 1); origin = origin_of j Up value }

    made_within : (side : Side) (v : Option ℚ) → IfSome (origin_of j side v) (λ g. g.column < length s.problem.spans)
    made_within side None = tt
    made_within side (Some v) = within

    left_half : IsOpenNode after left
    left_half = record {
      opened = first_left (slice_set s.ended o.number true) (false ∷ []) n long;
      area = ap (λ ss. cut_high ss j b) last_node.area ∙ sym split.left;
      origin = made_within Down value;
    }

    right_half : IsOpenNode after right
    right_half = record {
      opened = second_left (slice_set s.ended o.number true) n long;
      area = ap (λ ss. cut_low ss j (b +ℤ pos 1)) last_node.area ∙ sym split.right;
      origin = made_within Up value;
    }

    pub split_nodes : AreOpenNodes after (os ++ two)
    split_nodes = record {
      nodes = All-append (IsOpenNode after) os two old_boxes
          (All-cons (IsOpenNode after) left (right ∷ []) left_half
          (All-cons (IsOpenNode after) right [] right_half (All-nil (IsOpenNode after))));
      rising = rising_push os two n rising.0
          (All-weaker (λ (p : OpenNode). IsOpenNode s p × (p.number < o.number)) (Below n) (λ p q. there p.number q.0.opened) os others)
          (All-cons (λ (p : OpenNode). n < p.number) right [] (omega arith) (All-nil (λ (p : OpenNode). n < p.number)), (All-nil (λ (p : OpenNode). n + 1 < p.number), tt))
          (All-cons (λ (u : OpenNode). n ≤ u.number) left (right ∷ []) (omega arith)
          (All-cons (λ (u : OpenNode). n ≤ u.number) right [] (omega arith) (All-nil (λ (u : OpenNode). n ≤ u.number))));
      listed = λ k q. elim (which_left (slice_set s.ended o.number true) n k long q) [
        | inl a ↦ elim (which k (left_before s.ended o.number k a)) [
          | inl m ↦ among_first os two k m
          | inr e ↦ absurd (not_left s.ended o.number (subst (λ m. is_left (slice_set s.ended o.number true) m ≡ true) (sym e) a))
        ]
        | inr a ↦ among_last os two k (elim a [ inl e ↦ inl (sym e) | inr e ↦ inr (inl (sym e)) ])
      ];
    }

-- ---- states that differ in holds and incumbents
pub offered_nodes : (s : State) (x : List ℤ) (os : List OpenNode) → AreOpenNodes s os → AreOpenNodes (after_offer s x) os
offered_nodes s x os h = record { nodes = λ k d l. let b = h.nodes k d l in record { opened = b.opened; area = b.area; origin = b.origin }; rising = h.rising; listed = h.listed }

-- cuts are no matter of nodes
pub cut_nodes : (s : State) (cs : List Cut) (os : List OpenNode) → AreOpenNodes s os → AreOpenNodes (record s { cuts = cs }) os
cut_nodes s cs os h = record { nodes = λ k d l. let b = h.nodes k d l in record { opened = b.opened; area = b.area; origin = b.origin }; rising = h.rising; listed = h.listed }

-- ---- less work is left
pub less_closed : (budget n : ℕ) (os : List OpenNode) (o : OpenNode) → budget - n + length os < budget - n + length (os ++ o ∷ [])
less_closed budget n os o = omega (arith, length_push os o)

pub less_split : (budget n m : ℕ) (os us : List OpenNode) (o : OpenNode) → length us ≡ 2 → m ≡ n + 2 → n + 2 ≤ budget → budget - m + length (os ++ us) < budget - n + length (os ++ o ∷ [])
less_split budget n m os us o e q l = omega (arith, length_push os o, length-append os us, e, q, l)

-- ---- no open node is left
pub none_left : (s : State) (os : List OpenNode) → length os ≡ 0 → AreOpenNodes s os → open_count s ≡ 0
none_left s [] e h = none_open s.ended (λ k q. h.listed k q)
none_left s (o ∷ os) e h = absurd (omega (arith, e))

-- a node that was popped stood last
pub popped : (s : State) (before rest : List OpenNode) (o : Option OpenNode) (node : OpenNode) → before ≡ rest ++ option_to_list o → o ≡ Some node → AreOpenNodes s before → AreOpenNodes s (rest ++ node ∷ [])
popped s before rest o node e q h = subst (AreOpenNodes s) (e ∙ ap (λ p. rest ++ option_to_list p) q) h

-- ---- nodes that are added one after the other
-- the open nodes below n
pub record AreOpenNodesBelow (s : State) (n : ℕ) (os : List OpenNode) : Type 0 where
  pub nodes : All (IsOpenNode s) os
  pub rising : HaveRisingNumbers os
  pub below : All (λ (o : OpenNode). o.number < n) os
  pub listed : (k : ℕ) → k < n → is_open s k ≡ true → IsAmong os k

wider_below : (n : ℕ) (os : List OpenNode) → All (Below n) os → All (Below (n + 1)) os
wider_below n os h = All-weaker (Below n) (Below (n + 1)) (λ o l. omega (arith, l)) os h

pub none_below : (s : State) → AreOpenNodesBelow s 0 []
none_below s = record {
  nodes = All-nil (IsOpenNode s);
  rising = tt;
  below = All-nil (Below 0);
  listed = λ k l q. absurd (omega (arith, l));
}

pub node_more : (s : State) (n : ℕ) (os : List OpenNode) (o : OpenNode) → AreOpenNodesBelow s n os → o.number ≡ n → IsOpenNode s o → AreOpenNodesBelow s (n + 1) (os ++ o ∷ [])
node_more s n os o h e b = record {
  nodes = All-append (IsOpenNode s) os (o ∷ []) h.nodes (All-cons (IsOpenNode s) o [] b (All-nil (IsOpenNode s)));
  rising = rising_push os (o ∷ []) n h.rising h.below (All-nil (λ (p : OpenNode). o.number < p.number), tt)
      (All-cons (λ (u : OpenNode). n ≤ u.number) o [] (omega (arith, e)) (All-nil (λ (u : OpenNode). n ≤ u.number)));
  below = All-append (Below (n + 1)) os (o ∷ []) (wider_below n os h.below) (All-cons (Below (n + 1)) o [] (omega (arith, e)) (All-nil (Below (n + 1))));
  listed = λ k l q. elim (cases_lt k n) [
    | inl m ↦ among_first os (o ∷ []) k (h.listed k m q)
    | inr m ↦ among_last os (o ∷ []) k (inl (omega (arith, e, l, m)))
  ];
}

pub node_passed : (s : State) (n : ℕ) (os : List OpenNode) → AreOpenNodesBelow s n os → (is_open s n ≡ true → ⊥) → AreOpenNodesBelow s (n + 1) os
node_passed s n os h f = record {
  nodes = h.nodes;
  rising = h.rising;
  below = wider_below n os h.below;
  listed = λ k l q. elim (cases_lt k n) [
    | inl m ↦ h.listed k m q
    | inr m ↦ absurd (f (subst (λ i. is_open s i ≡ true) (let e : k ≡ n = omega (arith, l, m) in e) q))
  ];
}

pub same_box : (s : State) (t : Tree) (i : ℕ) → t.root ≡ s.problem.spans → t.nodes ≡ s.nodes → box_at t i ≡ box_of s i
same_box s t i r n = λ k. box_at (record { root = r k; nodes = n k; room = t.room }) i
