-- The boxes of the open nodes share no point, so that the nodes of a legal history are fewer than twice the root's points.
use Rattle.std.specs.Prelude.{◌≡◌, ◌<◌, ◌≤◌, ◌+◌, ◌*◌, ℕ, zero, suc, ℤ, pos, ◌+ℤ◌, Bool, true, false, not, cond, List, [], ◌∷◌, ◌++◌, length, Option, Some, None, slice_get, slice_set, refl}
use Rattle.std.proofs.Common.{ap, ◌∙◌, subst, arith}
use Rattle.std.proofs.lemmas.List.{length-set, length-append}
use Rattle.std.proofs.lemmas.List.Sums.{sum_by-cons}
use Rattle.fraction.specs.Rational.{ℚ}
use Rattle.problem_box.specs.declared.span.Span.{Span}
use Rattle.problem_box.specs.Changes.{cut_low, cut_high}
use Rattle.problem.specs.declared.row.Row.{Row}
use Rattle.problem.specs.Problem.{Problem}
use Rattle.node_tree.specs.declared.branch.Node.{Node}
use Rattle.node_tree.specs.Nodes.{Tree, no_node}
use Rattle.node_tree.specs.Paths.{box_at}
use Rattle.node_tree.specs.Splits.{with_split}
use Rattle.node_tree.specs.Lemmas.Boxes.{box_of_root}
use Rattle.node_tree.specs.Lemmas.Splitting.{length-split}
use Rattle.node_events.specs.declared.reason.Reason.{Reason}
use Rattle.node_events.specs.declared.event.Event.{Event}
use Rattle.node_events.specs.declared.event.Event.TheVariants.{Claim, Release, Cut, Offer, Split, Close}
use Rattle.derivation_book.specs.declared.cut.Cut.{Cut as MadeCut}
use Rattle.derivation_book.specs.Rounded.{rounded_row}
use Rattle.event_core.specs.declared.entry.Entry.{Entry}
use Rattle.event_core.specs.States.{State, first_state, box_of, cutoff}
use Rattle.event_core.specs.Splits.{has_both, is_reason}
use Rattle.event_core.specs.Lemmas.Reasons.{decides-reason}
use Rattle.event_core.specs.After.{after, after_cut}
use Rattle.event_core.specs.Histories.{IsLegal, state_from, AreLegalFrom, state_of}
use Rattle.event_core.specs.Lemmas.Passing.{split_passed, close_passed}
use Rattle.event_core.specs.Lemmas.Boxes.{both_tells}
use Rattle.event_core.specs.Lemmas.Ended.{is_left, left_within, count, count-ended, count-two}
use Rattle.problem_box.specs.PointCount.{point_count}
use Rattle.core_search.specs.Laws.{SplitsHavePoints}
use Rattle.event_core.specs.Lemmas.Running.{from-problem}
use Rattle.problem_box.specs.Lemmas.PointCount.{AreHalves, are_halves}
use Rattle.core_search.proofs.Growing.{AreDownwards, still_downwards, box_kept, left_box, right_box}

-- ---- a weight for each open node, numbered from j on
abbrev weight : (ℕ → ℕ) → ℕ → List Bool → ℕ
weight f j [] = 0
weight f j (e ∷ es) = cond e 0 (f j) + weight f (j + 1) es

weight-ended : (f : ℕ → ℕ) (j : ℕ) (es : List Bool) (i : ℕ) → is_left es i ≡ true → weight f j (slice_set es i true) + f (j + i) ≡ weight f j es
weight-ended f j [] i h = cc
weight-ended f j (true ∷ es) zero h = cc
weight-ended f j (false ∷ es) zero h = let e : f (j + 0) ≡ f j = ap f (omega arith) in omega (arith, e)
weight-ended f j (e ∷ es) (suc i) h =
    let r = weight-ended f (j + 1) es i h in
    let q : f (j + 1 + i) ≡ f (j + suc i) = ap f (omega arith) in
    omega (arith, r, q)

weight-two : (f : ℕ → ℕ) (j : ℕ) (es : List Bool) → weight f j (es ++ false ∷ false ∷ []) ≡ weight f j es + (f (j + length es) + f (j + length es + 1))
weight-two f j [] = let e : f (j + 0) ≡ f j = ap f (omega arith) in let q : f (j + 0 + 1) ≡ f (j + 1) = ap f (omega arith) in omega (arith, e, q)
weight-two f j (e ∷ es) =
    let r = weight-two f (j + 1) es in
    let a : f (j + 1 + length es) ≡ f (j + length (e ∷ es)) = ap f (omega arith) in
    let b : f (j + 1 + length es + 1) ≡ f (j + length (e ∷ es) + 1) = ap f (omega arith) in
    omega (arith, r, a, b)

weight-same : (f g : ℕ → ℕ) (j : ℕ) (es : List Bool) → ((k : ℕ) → k < j + length es → g k ≡ f k) → weight g j es ≡ weight f j es
weight-same f g j [] h = refl
weight-same f g j (e ∷ es) h = λ i. cond e 0 (h j (omega arith) i) + weight-same f g (j + 1) es (λ k l. h k (omega (arith, l))) i

counted : (e : Bool) (es : List Bool) → count (e ∷ es) ≡ cond e 0 1 + count es
counted true es = sum_by-cons (λ (b : Bool). cond (not b) 1 0) true es
counted false es = sum_by-cons (λ (b : Bool). cond (not b) 1 0) false es

weight-least : (f : ℕ → ℕ) → ((k : ℕ) → 1 ≤ f k) → (j : ℕ) (es : List Bool) → count es ≤ weight f j es
weight-least f h j [] = omega arith
weight-least f h j (true ∷ es) = omega (arith, weight-least f h (j + 1) es, counted true es)
weight-least f h j (false ∷ es) = omega (arith, weight-least f h (j + 1) es, counted false es, h j)

-- ---- the points of a box, and 1 where it has none
abbrev at_least_one : ℕ → ℕ
at_least_one zero = 1
at_least_one (suc n) = suc n

some_weight : (n : ℕ) → 1 ≤ at_least_one n
some_weight zero = omega arith
some_weight (suc n) = omega arith

weight_of_some : (n : ℕ) → 0 < n → at_least_one n ≡ n
weight_of_some zero h = absurd (omega (arith, h))
weight_of_some (suc n) h = refl

abbrev tree : List Span → List Node → Tree
tree root nodes = record { root = root; nodes = nodes; room = 0 }

abbrev points : List Span → List Node → ℕ → ℕ
points root nodes i = at_least_one (point_count (box_at (tree root nodes) i))

-- the nodes are the inner ones and one leaf more, and each leaf has a point of the root's of its own, but for an empty root
record IsWeighed (root : List Span) (nodes : List Node) (ended : List Bool) : Type 0 where
  down : AreDownwards (tree root nodes)
  lengths : length ended ≡ length nodes
  closed_leaves : ℕ
  leaves : length nodes + 1 ≡ 2 * (count ended + closed_leaves)
  weighed : closed_leaves + weight (points root nodes) 0 ended ≤ at_least_one (point_count root)

first_weighed : (root : List Span) → IsWeighed root (no_node ∷ []) (false ∷ [])
first_weighed root =
    let same : point_count (box_at (tree root (no_node ∷ [])) 0) ≡ point_count root = ap point_count (box_of_root 0 root) in
    let first : at_least_one (point_count (box_at (tree root (no_node ∷ [])) 0)) ≡ at_least_one (point_count root) = ap at_least_one same in
    record { down = none; lengths = refl; closed_leaves = 0; leaves = refl; weighed = omega (arith, first) }
  where
    none : AreDownwards (tree root (no_node ∷ []))
    none zero b e = cc
    none (suc i) b e = cc

-- ---- one event
module _ (root : List Span) (nodes : List Node) (ended : List Bool) (w : IsWeighed root nodes ended) (i : ℕ) (opened : is_left ended i ≡ true) where
  closed_weighed : IsWeighed root nodes (slice_set ended i true)
  closed_weighed = record {
    down = w.down;
    lengths = length-set ended i true ∙ w.lengths;
    closed_leaves = w.closed_leaves + 1;
    leaves = omega (arith, w.leaves, count-ended ended i opened);
    weighed = omega (arith, w.weighed, weight-ended (points root nodes) 0 ended i opened, some_weight (point_count (box_at (tree root nodes) (0 + i))));
  }

  there : i < length nodes
  there = omega (arith, left_within ended i opened, w.lengths)

  same_points : points root nodes (0 + i) ≡ points root nodes i
  same_points = ap (points root nodes) (omega arith)

  module _ (j : ℕ) (b : ℤ) (children : AreHalves (cut_high (box_at (tree root nodes) i) j b) (cut_low (box_at (tree root nodes) i) j (b +ℤ pos 1)) (box_at (tree root nodes) i)) where
    abbrev grown : List Node
    grown = (with_split (tree root nodes) i j b).nodes

    abbrev n : ℕ
    n = length nodes

    abbrev set : List Bool
    set = slice_set ended i true

    long : length set ≡ n
    long = length-set ended i true ∙ w.lengths

    kept : weight (points root grown) 0 set ≡ weight (points root nodes) 0 set
    kept = weight-same (points root nodes) (points root grown) 0 set (λ k l. ap (λ ss. at_least_one (point_count ss)) (box_kept (tree root nodes) i j b w.down there k (omega (arith, l, long))))

    left : points root grown (0 + length set) ≡ point_count (cut_high (box_at (tree root nodes) i) j b)
    left =
        ap (points root grown) (let e : 0 + length set ≡ n = omega (arith, long) in e) ∙ ap (λ ss. at_least_one (point_count ss)) (left_box (tree root nodes) i j b w.down there)
        ∙ weight_of_some _ children.left_some

    right : points root grown (0 + length set + 1) ≡ point_count (cut_low (box_at (tree root nodes) i) j (b +ℤ pos 1))
    right =
        ap (points root grown) (let e : 0 + length set + 1 ≡ n + 1 = omega (arith, long) in e) ∙ ap (λ ss. at_least_one (point_count ss)) (right_box (tree root nodes) i j b w.down there)
        ∙ weight_of_some _ children.right_some

    whole : points root nodes i ≡ point_count (box_at (tree root nodes) i)
    whole = weight_of_some _ (omega (arith, children.together, children.left_some))

    split_weighed : IsWeighed root grown (set ++ false ∷ false ∷ [])
    split_weighed = record {
      down = still_downwards (tree root nodes) i j b w.down there;
      lengths = omega (arith, length-append set (false ∷ false ∷ []), long, length-split (tree root nodes) i j b);
      closed_leaves = w.closed_leaves;
      leaves = omega (arith, w.leaves, count-ended ended i opened, count-two set, length-split (tree root nodes) i j b);
      weighed = omega (arith, w.weighed, weight-ended (points root nodes) 0 ended i opened, same_points, weight-two (points root grown) 0 set, kept, left, right, whole, children.together);
    }

    -- where a box has two points, the leaves are fewer than the root's points
    fewer : w.closed_leaves + count ended + 1 ≤ at_least_one (point_count root)
    fewer =
        let least = weight-least (points root nodes) (λ k. some_weight (point_count (box_at (tree root nodes) k))) 0 set in
        omega (arith, w.weighed, weight-ended (points root nodes) 0 ended i opened, same_points, count-ended ended i opened, least, whole, children.together, children.left_some, children.right_some)

    split_points : n + 2 < 2 * point_count root
    split_points = by_root (point_count root) (omega (arith, fewer, count-ended ended i opened)) (omega (arith, fewer, w.leaves))
      where
        by_root : (m : ℕ) → 2 ≤ at_least_one m → n + 2 < 2 * at_least_one m → n + 2 < 2 * m
        by_root zero l h = absurd (omega (arith, l))
        by_root (suc m) l h = h

-- ---- splits that are admitted
span_there : (o : Option Span) (b : ℤ) → has_both o b ≡ true → (t : Span) × (o ≡ Some t)
span_there None b e = cc
span_there (Some t) b e = (t, refl)

admitted_halves : (p : Problem) (cs : List MadeCut) (box : List Span) (c : Option ℚ) (j : ℕ) (b : ℤ) (r : Reason) → has_both (slice_get box j) b ≡ true → is_reason p cs box c j b r ≡ true
    → AreHalves (cut_high box j b) (cut_low box j (b +ℤ pos 1)) box
admitted_halves p cs box c j b r h e =
    let t = span_there (slice_get box j) b h in
    let k = both_tells (slice_get box j) b h t.0 t.1 in
    are_halves box j b t.0 t.1 k.0 k.1 ((decides-reason p cs box c j b r).0 e).nonempty

-- ---- histories
abbrev IsWeighedState : State → Type 0
IsWeighedState s = IsWeighed s.problem.spans s.nodes s.ended

cut_weighed : (s : State) (mult : List (ℕ × ℚ)) (o : Option Row) → IsWeighedState s → IsWeighedState (after_cut s mult o)
cut_weighed s mult None h = h
cut_weighed s mult (Some r) h = h

after_weighed : (s : State) (w : Option ℕ) (e : Event) → IsWeighedState s → IsLegal s w e → IsWeighedState (after s w e)
after_weighed s w (Claim i) h l = h
after_weighed s w (Release i) h l = h
after_weighed s w (Cut mult) h l = cut_weighed s mult (rounded_row s.problem s.cuts mult) h
after_weighed s w (Offer x) h l = h
after_weighed s w (Split i j b r) h l =
    let p = split_passed s w i j b r l.admitted in
    split_weighed s.problem.spans s.nodes s.ended h i p.opened j b (admitted_halves s.problem s.cuts (box_of s i) (cutoff s) j b r p.both p.reason)
after_weighed s w (Close i proof) h l = closed_weighed s.problem.spans s.nodes s.ended h i (close_passed s w i proof l.admitted).opened

from_weighed : (s : State) (es : List Entry) → IsWeighedState s → AreLegalFrom s es → IsWeighedState (state_from s es)
from_weighed s [] h l = h
from_weighed s (e ∷ es) h l = from_weighed (after s e.worker e.event) es (after_weighed s e.worker e.event h l.0) l.1

pub splits_points : (p : Problem) → SplitsHavePoints p
splits_points p es l a =
    let s : State = state_of p es in
    let w : IsWeighedState s = from_weighed (first_state p) es (first_weighed p.spans) l in
    let q = split_passed s None a.node a.column a.bound a.reason a.admitted in
    let h = split_points s.problem.spans s.nodes s.ended w a.node q.opened a.column a.bound (admitted_halves s.problem s.cuts (box_of s a.node) (cutoff s) a.column a.bound a.reason q.both q.reason) in
    subst (λ (o : Problem). length s.nodes + 2 < 2 * point_count o.spans) (from-problem (first_state p) es) h
