-- Lemmas: histories that go on.
use Rattle.std.specs.Prelude.{◌≡◌, ℕ, List, [], ◌∷◌, ◌++◌, Option, Some, None, refl}
use Rattle.std.proofs.Common.{◌∙◌}
use Rattle.fraction.specs.Rational.{ℚ}
use Rattle.problem.specs.declared.row.Row.{Row}
use Rattle.node_events.specs.declared.event.Event.{Event}
use Rattle.node_events.specs.declared.event.Event.TheVariants.{Claim, Release, Cut, Offer, Split, Close}
use Rattle.derivation_book.specs.Rounded.{rounded_row}
use Rattle.event_core.specs.declared.entry.Entry.{Entry}
use Rattle.event_core.specs.States.{State}
use Rattle.event_core.specs.After.{after, after_cut}
use Rattle.event_core.specs.Histories.{state_from, AreLegalFrom, IsLegal}

pub state_from-append : (s : State) (es fs : List Entry) → state_from s (es ++ fs) ≡ state_from (state_from s es) fs
state_from-append s [] fs = refl
state_from-append s (e ∷ es) fs = state_from-append (after s e.worker e.event) es fs

pub legal_prefix : (s : State) (es fs : List Entry) → AreLegalFrom s (es ++ fs) → AreLegalFrom s es
legal_prefix s [] fs h = tt
legal_prefix s (e ∷ es) fs h = (h.0, legal_prefix (after s e.worker e.event) es fs h.1)

pub legal_back : (s : State) (es fs : List Entry) → AreLegalFrom s (es ++ fs) → AreLegalFrom (state_from s es) fs
legal_back s [] fs h = h
legal_back s (e ∷ es) fs h = legal_back (after s e.worker e.event) es fs h.1

-- legal lists, one behind the other
pub legal_both : (s : State) (es fs : List Entry) → AreLegalFrom s es → AreLegalFrom (state_from s es) fs → AreLegalFrom s (es ++ fs)
legal_both s [] fs h k = k
legal_both s (e ∷ es) fs h k = (h.0, legal_both (after s e.worker e.event) es fs h.1 k)

pub legal_more : (s : State) (es : List Entry) (e : Entry) → AreLegalFrom s es → IsLegal (state_from s es) e.worker e.event → AreLegalFrom s (es ++ e ∷ [])
legal_more s [] e h k = (k, tt)
legal_more s (f ∷ es) e h k = (h.0, legal_more (after s f.worker f.event) es e h.1 k)

-- ---- the problem stays
cut_problem : (s : State) (mult : List (ℕ × ℚ)) (o : Option Row) → (after_cut s mult o).problem ≡ s.problem
cut_problem s mult None = refl
cut_problem s mult (Some r) = refl

pub after-problem : (s : State) (w : Option ℕ) (e : Event) → (after s w e).problem ≡ s.problem
after-problem s w (Claim i) = refl
after-problem s w (Release i) = refl
after-problem s w (Cut mult) = cut_problem s mult (rounded_row s.problem s.cuts mult)
after-problem s w (Offer x) = refl
after-problem s w (Split i j b r) = refl
after-problem s w (Close i proof) = refl

pub from-problem : (s : State) (es : List Entry) → (state_from s es).problem ≡ s.problem
from-problem s [] = refl
from-problem s (e ∷ es) = from-problem (after s e.worker e.event) es ∙ after-problem s e.worker e.event
