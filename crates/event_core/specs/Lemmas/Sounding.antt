-- Lemmas: what is true of each state that legal events led to.
use Rattle.std.specs.Prelude.{◌≡◌, ◌<◌, ◌≤◌, ◌+◌, ℕ, zero, suc, ℤ, Bool, true, false, not, nat_eq, ◌||◌, List, [], ◌∷◌, ◌++◌, length, All, Option, Some, None, slice_get, slice_set, refl}
use Rattle.std.specs.Option.{option_map}
use Rattle.std.proofs.Common.{subst, arith}
use Rattle.std.proofs.lemmas.Bool.{eqb-false}
use Rattle.std.proofs.lemmas.Option.{same_Some}
use Rattle.std.proofs.lemmas.List.{length_push}
use Rattle.std.proofs.lemmas.List.Elements.{All-nil, All-weaker, All-push}
use Rattle.fraction.specs.Rational.{ℚ}
use Rattle.fraction.specs.Lemmas.Order.{less_at_most}
use Rattle.problem.specs.declared.row.Row.{Row}
use Rattle.problem.specs.Problem.{Problem}
use Rattle.problem.specs.Limits.{most_cuts}
use Rattle.node_tree.specs.Nodes.{node_at}
use Rattle.node_tree.specs.Paths.{path_at}
use Rattle.node_tree.specs.Splits.{with_split}
use Rattle.node_tree.specs.Trees.{AreChildrenOf, IsTree}
use Rattle.node_tree.specs.Lemmas.Boxes.{length-box}
use Rattle.node_tree.specs.Lemmas.Splitting.{split_is_tree}
use Rattle.node_events.specs.declared.reason.Reason.{Reason}
use Rattle.node_events.specs.declared.event.Event.{Event}
use Rattle.node_events.specs.declared.event.Event.TheVariants.{Claim, Release, Cut as CutEvent, Offer, Split, Close}
use Rattle.derivation_book.specs.Rounded.{rounded_row}
use Rattle.derivation_book.specs.Cuts.{AreCutsOf}
use Rattle.derivation_book.specs.Lemmas.Rounded.{one_more}
use Rattle.derivation_book.specs.Legal.{IsAtMost}
use Rattle.incumbent.specs.declared.best.Best.{Best}
use Rattle.incumbent.specs.Offers.{IsIncumbentOf, IsPointOf, IsImprovement, offered, IsBetter, cutoff_of}
use Rattle.incumbent.specs.Lemmas.Offers.{Decides-better}
use Rattle.event_core.specs.declared.entry.Holder.{Holder}
use Rattle.event_core.specs.declared.entry.Entry.{Entry}
use Rattle.event_core.specs.States.{State, first_state, tree_of, box_of}
use Rattle.event_core.specs.Holds.{is_held, is_holding, without_hold}
use Rattle.event_core.specs.After.{after, after_cut}
use Rattle.event_core.specs.Histories.{IsLegal, state_from, AreLegalFrom, AreLegal, state_of}
use Rattle.event_core.specs.Sound.{AreApart, IsSound}
use Rattle.event_core.specs.Lemmas.Passing.{claim_passed, cut_passed, offer_passed, split_passed}
use Rattle.event_core.specs.Lemmas.Holds.{All-without_hold, AreApart-without_hold, AreApart-push}
use Rattle.event_core.specs.Lemmas.Ended.{AreLeaves, leaves-length, leaf_at, leaves-ended, leaves-parted, leaves-two, left_within, left_kept, left_prefix, is_left}
use Rattle.event_core.specs.Lemmas.Points.{Decides-feasible}
use Rattle.event_core.specs.Lemmas.Boxes.{both_within, both_tells}
use Rattle.problem.specs.Directions.{aim_at}

-- ---- points
pub improvement : (p : Problem) (i : Option Best) (s : State) (x : List ℤ) → s.problem ≡ p → s.incumbent ≡ i → IsImprovement p i x → IsIncumbentOf p (offered p x)
improvement p i s x e f h = λ b q. subst (IsPointOf p) (same_Some _ b q) (record { feasible = h.feasible; value = refl })

pub better_cutoff : (i : Option Best) (v : ℚ) → IsBetter i v → IsAtMost (Some v) (cutoff_of i)
better_cutoff None v h = tt
better_cutoff (Some b) v h = less_at_most v b.value (h b refl)

-- ---- holds of open nodes
abbrev pub HoldsOpen : List Bool → Holder → Type 0
HoldsOpen es h = is_left es h.node ≡ true

other : (a b : ℕ) → nat_eq a b ≡ false → a ≡ b → ⊥
other a b e = eqb-false a b e

holds_other : (es : List Bool) (i : ℕ) (hs : List Holder) → All (HoldsOpen es) hs → All (HoldsOpen es) (without_hold i hs)
holds_other es i hs a = All-weaker (λ (h : Holder). HoldsOpen es h × (nat_eq h.node i ≡ false)) (HoldsOpen es) (λ h q. q.0) (without_hold i hs) (All-without_hold (HoldsOpen es) i hs a)

holds_closed : (es : List Bool) (i : ℕ) (hs : List Holder) → All (HoldsOpen es) hs → All (HoldsOpen (slice_set es i true)) (without_hold i hs)
holds_closed es i hs a =
    All-weaker (λ (h : Holder). HoldsOpen es h × (nat_eq h.node i ≡ false)) (HoldsOpen (slice_set es i true))
    (λ h q. left_kept es i h.node (other h.node i q.1) q.0)
    (without_hold i hs)
    (All-without_hold (HoldsOpen es) i hs a)

holds_prefix : (es fs : List Bool) (hs : List Holder) → All (HoldsOpen es) hs → All (HoldsOpen (es ++ fs)) hs
holds_prefix es fs hs a = All-weaker (HoldsOpen es) (HoldsOpen (es ++ fs)) (λ h q. left_prefix es fs h.node q) hs a

-- ---- the tree
no_children : (o : Option ℕ) → o ≡ None → option_map {U = ℕ × ℕ} (λ k. (k, k + 1)) o ≡ None
no_children None e = refl
no_children (Some k) e = cc

first_tree : (p : Problem) → IsTree (tree_of (first_state p))
first_tree p = record { root_there = omega arith; root = refl; reached = λ i h l. absurd (omega (arith, h, l)); children = none }
  where
    none : (i k : ℕ) → (node_at (tree_of (first_state p)) i).first_child ≡ Some k → AreChildrenOf (tree_of (first_state p)) i k
    none zero k e = cc
    none (suc i) k e = cc

-- ---- all of it
pub record IsKept (s : State) : Type 0 where
  pub tree : IsTree (tree_of s)
  pub leaves : AreLeaves s.ended s.nodes
  pub cuts : AreCutsOf s.problem s.cuts
  pub few_cuts : length s.cuts ≤ most_cuts
  pub incumbent : IsIncumbentOf s.problem s.incumbent
  pub holds_open : All (HoldsOpen s.ended) s.holds
  pub apart : AreApart s.holds

pub first_kept : (p : Problem) → IsKept (first_state p)
first_kept p = record {
  tree = first_tree p;
  leaves = (λ _. refl, tt);
  cuts = tt;
  few_cuts = omega arith;
  incumbent = λ b e. cc;
  holds_open = All-nil (HoldsOpen (false ∷ []));
  apart = tt;
}

neither : (a b : Bool) → not (a || b) ≡ true → (a ≡ false) × (b ≡ false)
neither true b e = cc
neither false true e = cc
neither false false e = (refl, refl)

kept_claim : (s : State) (w : Option ℕ) (i : ℕ) → IsKept s → IsLegal s w (Claim i) → IsKept (after s w (Claim i))
kept_claim s None i k l = cc
kept_claim s (Some w) i k l =
    let p = claim_passed s (Some w) i l.admitted in
    let n = neither (is_held s i) (is_holding s w) p.unheld in
    record {
      tree = k.tree;
      leaves = k.leaves;
      cuts = k.cuts;
      few_cuts = k.few_cuts;
      incumbent = k.incumbent;
      holds_open = All-push (HoldsOpen s.ended) s.holds (record { worker = w; node = i }) k.holds_open p.opened;
      apart = AreApart-push s.holds (record { worker = w; node = i }) k.apart n.1 n.0;
    }

kept_cut : (s : State) (mult : List (ℕ × ℚ)) (o : Option Row) → rounded_row s.problem s.cuts mult ≡ o → length s.cuts < most_cuts → IsKept s → IsKept (after_cut s mult o)
kept_cut s mult None e f k = k
kept_cut s mult (Some r) e f k = record {
  tree = k.tree;
  leaves = k.leaves;
  cuts = one_more s.problem [] s.cuts (record { row = r; mult = mult }) k.cuts e;
  few_cuts = (let n = length_push s.cuts (record { row = r; mult = mult }) in omega (arith, n, f));
  incumbent = k.incumbent;
  holds_open = k.holds_open;
  apart = k.apart;
}

pub is_improvement : (s : State) (w : Option ℕ) (x : List ℤ) → IsLegal s w (Offer x) → IsImprovement s.problem s.incumbent x
is_improvement s w x l =
    let p = offer_passed s x l.admitted in
    record { feasible = (Decides-feasible s.problem x).0 p.feasible; better = (Decides-better s.incumbent (aim_at s.problem x)).0 p.better }

split_tree : (s : State) (w : Option ℕ) (i j : ℕ) (b : ℤ) (r : Reason) → IsKept s → IsLegal s w (Split i j b r) → IsTree (with_split (tree_of s) i j b)
split_tree s w i j b r k l =
    let p = split_passed s w i j b r l.admitted in
    let there = left_within s.ended i p.opened in
    let column = both_within (box_of s i) j b p.both in
    split_is_tree (tree_of s) i j b k.tree (omega (arith, there, leaves-length s.ended s.nodes k.leaves))
    (no_children (node_at (tree_of s) i).first_child (leaf_at s.ended s.nodes i k.leaves p.opened))
    (omega (arith, column, length-box (path_at (tree_of s) i) 0 s.problem.spans)) (both_tells (slice_get (box_of s i) j) b p.both)

pub kept_after : (s : State) (w : Option ℕ) (e : Event) → IsKept s → IsLegal s w e → IsKept (after s w e)
kept_after s w (Claim i) k l = kept_claim s w i k l
kept_after s w (Release i) k l = record {
  tree = k.tree;
  leaves = k.leaves;
  cuts = k.cuts;
  few_cuts = k.few_cuts;
  incumbent = k.incumbent;
  holds_open = holds_other s.ended i s.holds k.holds_open;
  apart = AreApart-without_hold i s.holds k.apart;
}
kept_after s w (CutEvent mult) k l = kept_cut s mult (rounded_row s.problem s.cuts mult) refl (cut_passed s mult l.admitted).few k
kept_after s w (Offer x) k l = record {
  tree = k.tree;
  leaves = k.leaves;
  cuts = k.cuts;
  few_cuts = k.few_cuts;
  incumbent = improvement s.problem s.incumbent s x refl refl (is_improvement s w x l);
  holds_open = k.holds_open;
  apart = k.apart;
}
kept_after s w (Split i j b r) k l = record {
  tree = split_tree s w i j b r k l;
  leaves = leaves-two _ _ _ _ (leaves-parted s.ended s.nodes i (record (node_at (tree_of s) i) { first_child = Some (length s.nodes) }) k.leaves) refl refl;
  cuts = k.cuts;
  few_cuts = k.few_cuts;
  incumbent = k.incumbent;
  holds_open = holds_prefix (slice_set s.ended i true) (false ∷ false ∷ []) (without_hold i s.holds) (holds_closed s.ended i s.holds k.holds_open);
  apart = AreApart-without_hold i s.holds k.apart;
}
kept_after s w (Close i proof) k l = record {
  tree = k.tree;
  leaves = leaves-ended s.ended s.nodes i k.leaves;
  cuts = k.cuts;
  few_cuts = k.few_cuts;
  incumbent = k.incumbent;
  holds_open = holds_closed s.ended i s.holds k.holds_open;
  apart = AreApart-without_hold i s.holds k.apart;
}

pub kept_from : (s : State) (es : List Entry) → IsKept s → AreLegalFrom s es → IsKept (state_from s es)
kept_from s [] k h = k
kept_from s (e ∷ es) k h = kept_from (after s e.worker e.event) es (kept_after s e.worker e.event k h.0) h.1

pub legal_kept : (p : Problem) (es : List Entry) → AreLegal p es → IsKept (state_of p es)
legal_kept p es h = kept_from (first_state p) es (first_kept p) h

-- ---- as it is promised
pub kept_sound : (s : State) → IsKept s → IsSound s
kept_sound s k = record {
  lengths = leaves-length s.ended s.nodes k.leaves;
  tree = k.tree;
  leaves = λ i o. no_children (node_at (tree_of s) i).first_child (leaf_at s.ended s.nodes i k.leaves o);
  cuts = k.cuts;
  few_cuts = k.few_cuts;
  incumbent = k.incumbent;
  holds_open = k.holds_open;
  apart = k.apart;
}

pub legal_sound : (p : Problem) (es : List Entry) → AreLegal p es → IsSound (state_of p es)
legal_sound p es h = kept_sound (state_of p es) (legal_kept p es h)
