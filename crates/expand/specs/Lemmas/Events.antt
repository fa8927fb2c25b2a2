-- Lemmas: the events that settle a node are legal.
use Rattle.std.specs.Prelude.{◌≡◌, ◌<◌, ℕ, ℤ, true, false, nat_lt, All, List, [], ◌∷◌, ◌++◌, map, length, Option, Some, slice_get, refl}
use Rattle.std.specs.List.{list_any}
use Rattle.std.proofs.Common.{sym, ap, ◌∙◌, subst, arith}
use Rattle.std.proofs.lemmas.Bool.{false≢true}
use Rattle.std.proofs.lemmas.Bool.Decides.{Decides-ltb}
use Rattle.std.proofs.lemmas.List.{length_push, length-map}
use Rattle.std.proofs.lemmas.List.Elements.{All-nil, All-cons, All-head, All-tail, All-weaker}
use Rattle.problem_box.specs.declared.span.Span.{Span}
use Rattle.problem.specs.declared.row.Row.{Row}
use Rattle.problem.specs.Linear.{Point, Multipliers}
use Rattle.problem.specs.Feasible.{IsFeasible}
use Rattle.problem.specs.Limits.{most_cuts}
use Rattle.node_events.specs.declared.proof.Proof.{Proof}
use Rattle.node_events.specs.declared.reason.Reason.{Reason}
use Rattle.node_events.specs.declared.event.Event.{Event}
use Rattle.node_events.specs.declared.event.Event.TheVariants.{Cut, Offer, Split, Close}
use Rattle.derivation_book.specs.declared.cut.Cut.{Cut as MadeCut}
use Rattle.derivation_book.specs.Rounded.{rounded_row}
use Rattle.derivation_book.specs.Legal.{is_legal_proof}
use Rattle.derivation_book.specs.Lemmas.Staying.{still_rounded}
use Rattle.incumbent.specs.Offers.{is_better, IsBetter}
use Rattle.incumbent.specs.Lemmas.Offers.{Decides-better}
use Rattle.event_core.specs.declared.admit.Admit.TheVariants.{Yes, NotOpen, NotYours, BadCut, BadPoint, NotBetter, BadSplit, BadReason, BadProof, Full}
use Rattle.event_core.specs.States.{State, is_open, box_of, cutoff}
use Rattle.event_core.specs.Holds.{is_yours, holds_node}
use Rattle.event_core.specs.Feasibility.{is_feasible}
use Rattle.event_core.specs.Judging.{has_row}
use Rattle.event_core.specs.Splits.{has_both, is_reason}
use Rattle.event_core.specs.After.{after, after_cut, after_offer}
use Rattle.event_core.specs.Frames.{is_split}
use Rattle.event_core.specs.Histories.{is_journaled, IsLegal, AreLegalFrom}
use Rattle.event_core.specs.Lemmas.Passing.{passing}
use Rattle.event_core.specs.Lemmas.Points.{Decides-feasible}
use Rattle.expand.specs.declared.settlement.Settlement.{Settlement}
use Rattle.expand.specs.declared.settlement.Settlement.TheVariants.{Separated, Closed, Improved, Branched}
use Rattle.expand.specs.Findings.{HasRow}
use Rattle.expand.specs.Settlements.{events_of, AreNewCuts, IsSettlement}
use Rattle.expand.specs.Laws.{entries_of, FitOnePayload}
use Rattle.problem.specs.Directions.{aim_at}

-- ---- one event
offer_legal : (s : State) (w : ℕ) (x : Point) → IsFeasible s.problem x → IsBetter s.incumbent (aim_at s.problem x) → IsLegal s (Some w) (Offer x)
offer_legal s w x feasible better = record {
  admitted = passing (is_feasible s.problem x) BadPoint _ ((Decides-feasible s.problem x).1 feasible)
      (passing (is_better s.incumbent (aim_at s.problem x)) NotBetter Yes ((Decides-better s.incumbent (aim_at s.problem x)).1 better) refl);
  stands = tt;
}

cut_legal : (s : State) (w : ℕ) (mult : Multipliers) → length s.cuts < most_cuts → HasRow s.problem s.cuts mult → IsLegal s (Some w) (Cut mult)
cut_legal s w mult few row = record {
  admitted = passing (nat_lt (length s.cuts) most_cuts) Full _ ((Decides-ltb (length s.cuts) most_cuts).1 few) (passing (has_row (rounded_row s.problem s.cuts mult)) BadCut Yes (ap has_row row.1) refl);
  stands = tt;
}

module _ (s : State) (w i : ℕ) (opened : is_open s i ≡ true) (held : holds_node s w i ≡ true) where
  close_legal : (proof : Proof) → is_legal_proof s.problem s.cuts (box_of s i) (cutoff s) proof ≡ true → IsLegal s (Some w) (Close i proof)
  close_legal proof e = record {
    admitted = passing (is_open s i) NotOpen _ opened
        (passing (is_yours s (Some w) i) NotYours _ held (passing (is_legal_proof s.problem s.cuts (box_of s i) (cutoff s) proof) BadProof Yes e refl));
    stands = tt;
  }

  split_legal : (j : ℕ) (b : ℤ) (r : Reason) → has_both (slice_get (box_of s i) j) b ≡ true → is_reason s.problem s.cuts (box_of s i) (cutoff s) j b r ≡ true → IsLegal s (Some w) (Split i j b r)
  split_legal j b r e q = record {
    admitted = passing (is_open s i) NotOpen _ opened
        (passing (is_yours s (Some w) i) NotYours _ held
        (passing (has_both (slice_get (box_of s i) j) b) BadSplit _ e (passing (is_reason s.problem s.cuts (box_of s i) (cutoff s) j b r) BadReason Yes q refl)));
    stands = tt;
  }

-- ---- cuts, one after another
-- the other cuts after the first one
module _ (s : State) (mult : Multipliers) (mults : List Multipliers) (h : AreNewCuts s (mult ∷ mults)) where
  row : HasRow s.problem s.cuts mult
  row = All-head (HasRow s.problem s.cuts) mult mults h.rows

  abbrev made : MadeCut
  made = record { row = row.0; mult = mult }

  first_few : length s.cuts < most_cuts
  first_few = let k = h.few in omega (arith, k)

  first_row : HasRow s.problem s.cuts mult
  first_row = row

  still : (m : Multipliers) → HasRow s.problem s.cuts m → HasRow s.problem (s.cuts ++ made ∷ []) m
  still m r = (r.0, still_rounded s.problem s.cuts (made ∷ []) m r.0 r.1)

  others_new : (w : ℕ) → AreNewCuts (after s (Some w) (Cut mult)) mults
  others_new w = subst (λ (o : Option Row). AreNewCuts (after_cut s mult o) mults) (sym row.1) (record {
    rows = All-weaker (HasRow s.problem s.cuts) (HasRow s.problem (s.cuts ++ made ∷ [])) still mults (All-tail (HasRow s.problem s.cuts) mult mults h.rows);
    few_together = let k = h.few_together in omega (arith, k);
    few = let k = h.few in omega (arith, k, length_push s.cuts made);
  })

pub cuts_legal : (s : State) (w : ℕ) (mults : List Multipliers) → AreNewCuts s mults → AreLegalFrom s (entries_of w (map Cut mults))
cuts_legal s w [] h = tt
cuts_legal s w (m ∷ ms) h = (cut_legal s w m (first_few s m ms h) (first_row s m ms h), cuts_legal (after s (Some w) (Cut m)) w ms (others_new s m ms h w))

-- ---- all events of a settlement
pub settlement_legal : (s : State) (w i : ℕ) (g : Settlement) → is_open s i ≡ true → holds_node s w i ≡ true → IsSettlement s (box_of s i) g → AreLegalFrom s (entries_of w (events_of i g))
settlement_legal s w i (Separated mults) o k h = cuts_legal s w mults h
settlement_legal s w i (Closed proof) o k h = (close_legal s w i o k proof h, tt)
settlement_legal s w i (Improved x proof) o k h = (offer_legal s w x h.feasible h.better, (close_legal (after_offer s x) w i o k proof h.closes, tt))
settlement_legal s w i (Branched b) o k h = (split_legal s w i o k b.place.column b.place.bound b.reason h.both h.holds, tt)

-- ---- one payload
cuts_journaled : (mults : List Multipliers) → All (λ (e : Event). is_journaled e ≡ true) (map Cut mults)
cuts_journaled [] = All-nil (λ (e : Event). is_journaled e ≡ true)
cuts_journaled (m ∷ ms) = All-cons (λ (e : Event). is_journaled e ≡ true) (Cut m) (map Cut ms) refl (cuts_journaled ms)

cuts_split_none : (mults : List Multipliers) → list_any is_split (map Cut mults) ≡ false
cuts_split_none [] = refl
cuts_split_none (m ∷ ms) = cuts_split_none ms

one_journaled : (e : Event) → is_journaled e ≡ true → All (λ (f : Event). is_journaled f ≡ true) (e ∷ [])
one_journaled e h = All-cons (λ (f : Event). is_journaled f ≡ true) e [] h (All-nil (λ (f : Event). is_journaled f ≡ true))

pub settlement_fits : (s : State) (box : List Span) (i : ℕ) (g : Settlement) → IsSettlement s box g → FitOnePayload (events_of i g)
settlement_fits s box i (Separated mults) h = record {
  few = (let n = h.few_together in omega (arith, n, length-map mults Cut));
  journaled = cuts_journaled mults;
  alone = λ e. absurd (false≢true (sym (cuts_split_none mults) ∙ e));
}
settlement_fits s box i (Closed proof) h = record { few = omega arith; journaled = one_journaled (Close i proof) refl; alone = λ e. refl }
settlement_fits s box i (Improved x proof) h = record {
  few = omega arith;
  journaled = All-cons (λ (e : Event). is_journaled e ≡ true) (Offer x) (Close i proof ∷ []) refl (one_journaled (Close i proof) refl);
  alone = λ e. cc;
}
settlement_fits s box i (Branched b) h = record { few = omega arith; journaled = one_journaled (Split i b.place.column b.place.bound b.reason) refl; alone = λ e. refl }
