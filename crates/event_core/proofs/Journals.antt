-- The events that a journal has.
use Rattle.std.specs.Prelude.{◌≡◌, ℕ, ℤ, Bool, true, false, cond, List, [], ◌∷◌, Option, Some, None, slice_get, refl}
use Rattle.std.proofs.Common.{sym, subst}
use Rattle.problem.specs.Problem.{Problem}
use Rattle.problem.specs.declared.row.Row.{Row}
use Rattle.fraction.specs.Rational.{ℚ}
use Rattle.node_events.specs.declared.proof.Proof.{Proof}
use Rattle.node_events.specs.declared.reason.Reason.{Reason}
use Rattle.node_events.specs.declared.event.Event.{Event}
use Rattle.node_events.specs.declared.event.Event.TheVariants.{Claim, Release, Cut, Offer, Split, Close}
use Rattle.derivation_book.specs.Rounded.{rounded_row}
use Rattle.derivation_book.specs.Legal.{is_legal_proof}
use Rattle.event_core.specs.declared.entry.Entry.{Entry}
use Rattle.event_core.specs.declared.admit.Admit.TheVariants.{Yes, NotOpen, NotYours, BadSplit, BadReason, BadProof}
use Rattle.event_core.specs.States.{State, first_state, box_of, cutoff, is_open}
use Rattle.event_core.specs.Splits.{has_both, is_reason}
use Rattle.event_core.specs.Judging.{judged, judged_split, judged_close}
use Rattle.event_core.specs.After.{after, after_cut}
use Rattle.event_core.specs.Histories.{is_journaled, state_from, AreLegalFrom, AreLegal, journaled}
use Rattle.event_core.specs.Laws.{unheld, AreJournaled}
use Rattle.event_core.specs.Lemmas.Passing.{passing, split_passed, close_passed}
use Rattle.event_core.specs.Lemmas.Frames.{unheld_other}

unheld_split : (s : State) (w : Option ℕ) (i j : ℕ) (b : ℤ) (r : Reason) → judged_split s w i j b r ≡ Yes → judged_split (unheld s) None i j b r ≡ Yes
unheld_split s w i j b r e =
    let p = split_passed s w i j b r e in
    passing (is_open s i) NotOpen _ p.opened
    (passing true NotYours _ refl (passing (has_both (slice_get (box_of s i) j) b) BadSplit _ p.both (passing (is_reason s.problem s.cuts (box_of s i) (cutoff s) j b r) BadReason Yes p.reason refl)))

unheld_close : (s : State) (w : Option ℕ) (i : ℕ) (proof : Proof) → judged_close s w i proof ≡ Yes → judged_close (unheld s) None i proof ≡ Yes
unheld_close s w i proof e =
    let p = close_passed s w i proof e in
    passing (is_open s i) NotOpen _ p.opened (passing true NotYours _ refl (passing (is_legal_proof s.problem s.cuts (box_of s i) (cutoff s) proof) BadProof Yes p.legal refl))

-- an event that a journal has is admitted also where nobody holds a node
pub unheld_judged : (s : State) (w : Option ℕ) (e : Event) → is_journaled e ≡ true → judged s w e ≡ Yes → judged (unheld s) None e ≡ Yes
unheld_judged s w (Claim i) j h = cc
unheld_judged s w (Release i) j h = cc
unheld_judged s w (Cut mult) j h = h
unheld_judged s w (Offer x) j h = h
unheld_judged s w (Split i k b r) j h = unheld_split s w i k b r h
unheld_judged s w (Close i proof) j h = unheld_close s w i proof h

unheld_cut : (s : State) (mult : List (ℕ × ℚ)) (o : Option Row) → after_cut (unheld s) mult o ≡ unheld (after_cut s mult o)
unheld_cut s mult None = refl
unheld_cut s mult (Some r) = refl

-- and changes the same
pub unheld_after : (s : State) (w : Option ℕ) (e : Event) → is_journaled e ≡ true → after (unheld s) None e ≡ unheld (after s w e)
unheld_after s w (Claim i) j = cc
unheld_after s w (Release i) j = cc
unheld_after s w (Cut mult) j = unheld_cut s mult (rounded_row s.problem s.cuts mult)
unheld_after s w (Offer x) j = refl
unheld_after s w (Split i k b r) j = refl
unheld_after s w (Close i proof) j = refl

-- the entries, with one in front where a journal has it
abbrev prefix : Bool → Event → List Entry → List Entry
prefix b e es = cond b (record { worker = None; event = e } ∷ es) es

abbrev AreFrom : State → List Entry → State → Type 0
AreFrom s es t = AreLegalFrom s es × (state_from s es ≡ t)

one_more : (s : State) (w : Option ℕ) (e : Event) (es : List Entry) (t : State) (b : Bool) → is_journaled e ≡ b → judged s w e ≡ Yes
    → AreFrom (unheld (after s w e)) es t → AreFrom (unheld s) (prefix b e es) t
one_more s w e es t true j h r =
    let same : unheld (after s w e) ≡ after (unheld s) None e = sym (unheld_after s w e j) in
    let moved = subst (λ (v : State). AreFrom v es t) same r in
    ((record { admitted = unheld_judged s w e j h; stands = (refl, j) }, moved.0), moved.1)
one_more s w e es t false j h r = subst (λ (v : State). AreFrom v es t) (unheld_other s w e j) r

pub are_journaled : (s : State) (es : List Entry) → AreLegalFrom s es → AreFrom (unheld s) (journaled es) (unheld (state_from s es))
are_journaled s [] h = (tt, refl)
are_journaled s (e ∷ es) h =
    one_more s e.worker e.event (journaled es) (unheld (state_from s (e ∷ es))) (is_journaled e.event) refl h.0.admitted (are_journaled (after s e.worker e.event) es h.1)

pub journals_legal : (p : Problem) (es : List Entry) → AreLegal p es → AreJournaled p es
journals_legal p es h = let j = are_journaled (first_state p) es h in record { legal = j.0; same = j.1 }
