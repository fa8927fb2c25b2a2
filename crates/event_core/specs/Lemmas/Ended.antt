-- Lemmas: nodes that have ended.
use Rattle.std.specs.Prelude.{◌≡◌, ◌<◌, ◌+◌, ℕ, zero, suc, Bool, true, false, not, cond, List, [], ◌∷◌, ◌++◌, length, Option, Some, None, slice_get, slice_index_or, slice_set, refl}
use Rattle.std.specs.List.{count_by}
use Rattle.std.proofs.Common.{sym, ap, subst, arith}
use Rattle.std.proofs.lemmas.Bool.{not-true}
use Rattle.std.proofs.lemmas.List.Sums.{sum_by-cons}
use Rattle.node_tree.specs.declared.branch.Node.{Node}
use Rattle.node_tree.specs.Nodes.{no_node}
use Rattle.node_events.specs.declared.event.Event.{Event}
use Rattle.node_events.specs.declared.event.Event.TheVariants.{Claim, Release, Cut, Offer, Split, Close}
use Rattle.derivation_book.specs.Rounded.{rounded_row}
use Rattle.problem.specs.declared.row.Row.{Row}
use Rattle.fraction.specs.Rational.{ℚ}
use Rattle.problem.specs.Problem.{Problem}
use Rattle.event_core.specs.declared.entry.Entry.{Entry}
use Rattle.event_core.specs.States.{State, first_state}
use Rattle.event_core.specs.After.{after, after_cut}
use Rattle.event_core.specs.Histories.{state_from, state_of, AreLegal}
use Rattle.event_core.specs.Laws.{IsBeginning}
use Rattle.event_core.specs.Lemmas.Running.{state_from-append, legal_prefix}

-- the node is there and has not ended
abbrev pub is_left : List Bool → ℕ → Bool
is_left es i = not (slice_index_or es i true)

pub left_within : (es : List Bool) (i : ℕ) → is_left es i ≡ true → i < length es
left_within [] i h = cc
left_within (e ∷ es) zero h = omega arith
left_within (e ∷ es) (suc i) h = let l = left_within es i h in omega (arith, l)

-- where another node ends, the open ones stay open
pub left_kept : (es : List Bool) (i k : ℕ) → (k ≡ i → ⊥) → is_left es k ≡ true → is_left (slice_set es i true) k ≡ true
left_kept [] i k n h = cc
left_kept (e ∷ es) zero zero n h = absurd (n refl)
left_kept (e ∷ es) zero (suc k) n h = h
left_kept (e ∷ es) (suc i) zero n h = h
left_kept (e ∷ es) (suc i) (suc k) n h = left_kept es i k (λ q. n (ap suc q)) h

pub left_prefix : (es fs : List Bool) (k : ℕ) → is_left es k ≡ true → is_left (es ++ fs) k ≡ true
left_prefix [] fs k h = cc
left_prefix (e ∷ es) fs zero h = h
left_prefix (e ∷ es) fs (suc k) h = left_prefix es fs k h

-- ---- open nodes are leaves
abbrev pub AreLeaves : List Bool → List Node → Type 0
AreLeaves [] [] = Unit {0}
AreLeaves [] (n ∷ ns) = ⊥
AreLeaves (e ∷ es) [] = ⊥
AreLeaves (e ∷ es) (n ∷ ns) = (e ≡ false → n.first_child ≡ None) × AreLeaves es ns

pub leaves-length : (es : List Bool) (ns : List Node) → AreLeaves es ns → length es ≡ length ns
leaves-length [] [] h = refl
leaves-length [] (n ∷ ns) h = absurd h
leaves-length (e ∷ es) [] h = absurd h
leaves-length (e ∷ es) (n ∷ ns) h = ap suc (leaves-length es ns h.1)

pub leaf_at : (es : List Bool) (ns : List Node) (i : ℕ) → AreLeaves es ns → is_left es i ≡ true → (slice_index_or ns i no_node).first_child ≡ None
leaf_at [] [] i h l = refl
leaf_at [] (n ∷ ns) i h l = absurd h
leaf_at (e ∷ es) [] i h l = absurd h
leaf_at (e ∷ es) (n ∷ ns) zero h l = h.0 (not-true e l)
leaf_at (e ∷ es) (n ∷ ns) (suc i) h l = leaf_at es ns i h.1 l

pub leaves-ended : (es : List Bool) (ns : List Node) (i : ℕ) → AreLeaves es ns → AreLeaves (slice_set es i true) ns
leaves-ended [] [] i h = tt
leaves-ended [] (n ∷ ns) i h = absurd h
leaves-ended (e ∷ es) [] i h = absurd h
leaves-ended (e ∷ es) (n ∷ ns) zero h = (λ q. cc, h.1)
leaves-ended (e ∷ es) (n ∷ ns) (suc i) h = (h.0, leaves-ended es ns i h.1)

pub leaves-parted : (es : List Bool) (ns : List Node) (i : ℕ) (v : Node) → AreLeaves es ns → AreLeaves (slice_set es i true) (slice_set ns i v)
leaves-parted [] [] i v h = tt
leaves-parted [] (n ∷ ns) i v h = absurd h
leaves-parted (e ∷ es) [] i v h = absurd h
leaves-parted (e ∷ es) (n ∷ ns) zero v h = (λ q. cc, h.1)
leaves-parted (e ∷ es) (n ∷ ns) (suc i) v h = (h.0, leaves-parted es ns i v h.1)

pub leaves-two : (es : List Bool) (ns : List Node) (a b : Node) → AreLeaves es ns → a.first_child ≡ None → b.first_child ≡ None → AreLeaves (es ++ false ∷ false ∷ []) (ns ++ a ∷ b ∷ [])
leaves-two [] [] a b h p q = (λ _. p, (λ _. q, tt))
leaves-two [] (n ∷ ns) a b h p q = absurd h
leaves-two (e ∷ es) [] a b h p q = absurd h
leaves-two (e ∷ es) (n ∷ ns) a b h p q = (h.0, leaves-two es ns a b h.1 p q)

-- ---- how many are open
abbrev pub count : List Bool → ℕ
count es = count_by not es

count-cons : (e : Bool) (es : List Bool) → count (e ∷ es) ≡ cond (not e) 1 0 + count es
count-cons e es = sum_by-cons (λ (b : Bool). cond (not b) 1 0) e es

pub count-ended : (es : List Bool) (i : ℕ) → is_left es i ≡ true → count (slice_set es i true) + 1 ≡ count es
count-ended [] i h = cc
count-ended (true ∷ es) zero h = cc
count-ended (false ∷ es) zero h = let a = count-cons true es in let b = count-cons false es in omega (arith, a, b)
count-ended (e ∷ es) (suc i) h =
    let a = count-cons e (slice_set es i true) in
    let b = count-cons e es in
    let r = count-ended es i h in
    omega (arith, a, b, r)

pub count-two : (es : List Bool) → count (es ++ false ∷ false ∷ []) ≡ count es + 2
count-two [] = refl
count-two (e ∷ es) =
    let a = count-cons e (es ++ false ∷ false ∷ []) in
    let b = count-cons e es in
    let r = count-two es in
    omega (arith, a, b, r)

-- ---- nodes that have ended stay ended
abbrev HasEnded : List Bool → ℕ → Type 0
HasEnded es k = slice_get es k ≡ Some true

ended-set : (es : List Bool) (i k : ℕ) → HasEnded es k → HasEnded (slice_set es i true) k
ended-set [] i k h = h
ended-set (e ∷ es) zero zero h = refl
ended-set (e ∷ es) zero (suc k) h = h
ended-set (e ∷ es) (suc i) zero h = h
ended-set (e ∷ es) (suc i) (suc k) h = ended-set es i k h

ended-prefix : (es fs : List Bool) (k : ℕ) → HasEnded es k → HasEnded (es ++ fs) k
ended-prefix [] fs k h = cc
ended-prefix (e ∷ es) fs zero h = h
ended-prefix (e ∷ es) fs (suc k) h = ended-prefix es fs k h

ended-cut : (s : State) (mult : List (ℕ × ℚ)) (o : Option Row) (k : ℕ) → HasEnded s.ended k → HasEnded (after_cut s mult o).ended k
ended-cut s mult None k h = h
ended-cut s mult (Some r) k h = h

pub ended-after : (s : State) (w : Option ℕ) (e : Event) (k : ℕ) → HasEnded s.ended k → HasEnded (after s w e).ended k
ended-after s w (Claim i) k h = h
ended-after s w (Release i) k h = h
ended-after s w (Cut mult) k h = ended-cut s mult (rounded_row s.problem s.cuts mult) k h
ended-after s w (Offer x) k h = h
ended-after s w (Split i j b r) k h = ended-prefix (slice_set s.ended i true) (false ∷ false ∷ []) k (ended-set s.ended i k h)
ended-after s w (Close i proof) k h = ended-set s.ended i k h

pub ended-from : (s : State) (es : List Entry) (k : ℕ) → HasEnded s.ended k → HasEnded (state_from s es).ended k
ended-from s [] k h = h
ended-from s (e ∷ es) k h = ended-from (after s e.worker e.event) es k (ended-after s e.worker e.event k h)

pub beginnings_legal : (p : Problem) (es more : List Entry) → AreLegal p (es ++ more) → IsBeginning p es more
beginnings_legal p es more h = record {
  legal = legal_prefix (first_state p) es more h;
  ended = λ k e. subst (λ (s : State). slice_get s.ended k ≡ Some true) (sym (state_from-append (first_state p) es more)) (ended-from (state_of p es) more k e);
}
