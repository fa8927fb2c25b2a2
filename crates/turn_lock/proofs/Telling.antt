-- A seat is told what the rule knows of its joined view.
use Rattle.std.proofs.Common.{◌≡◌, ℕ, List, [], set, Option, get_or, refl, sym, ◌∙◌, ap, subst}
use mathlib.Core.Option.{some}
use lib.ListN.{get_elem?}
use Rattle.atomic_table.specs.Table.{State, Me, Act, Allows, keeps, Valid, stepped, Step, carried_after}
use Rattle.atomic_table.proofs.Lists.{set_again}
use Rattle.turn_lock.specs.Lists.{GoesOn}
use Rattle.turn_lock.specs.SeatSteps.{Told, joined}
use Rattle.turn_lock.specs.Turns.{TakesTurns, word_of}
use Rattle.turn_lock.specs.declared.board.View.{View}
use Rattle.turn_lock.proofs.Joining.{of_both}

module _ {V E : Type 0} (list : V → List E) (name : E → Option ℕ) (weight : ℕ) (s : State (Option V) (View E)) (r : TakesTurns list name weight s) (id : ℕ) (v : View E) (at : get_elem? s.views id ≡ some v) where
  same_words : set s.words 0 (word_of r.issued) ≡ s.words
  same_words = ap (λ (ws : List ℕ). set ws 0 (word_of r.issued)) r.words ∙ sym r.words

  still : TakesTurns list name weight record { words = set s.words 0 (word_of r.issued); homes = s.homes; views = set s.views id v }
  still = subst (λ (ws : List ℕ). TakesTurns list name weight record { words = ws; homes = s.homes; views = set s.views id v }) (sym same_words)
      (subst (λ (vs : List (View E)). TakesTurns list name weight record { words = s.words; homes = s.homes; views = vs }) (sym (set_again s.views id v at)) r)

  pub told : (st : Step (Option V)) (found : ℕ) → found ≡ word_of r.issued → (w : View E) × (a : Act (Option V)) × Valid s.homes [] a × TakesTurns list name weight (stepped s 0 found id [] w a) × Told name st (v, []) found (w, carried_after [] a)
  told st found is = subst (λ (k : ℕ). (w : View E) × (a : Act (Option V)) × Valid s.homes [] a × TakesTurns list name weight (stepped s 0 k id [] w a) × Told name st (v, []) k (w, carried_after [] a)) (sym is)
      (v, keeps, tt, still, (refl, (r.each id v at).part))

module _ {V E : Type 0} (list : V → List E) (name : E → Option ℕ) (weight : ℕ) where
  pub tells : (slots id : ℕ) (v : View E) (st : Step (Option V)) (me : Me (Option V) (View E)) → me ≡ (v, []) → Allows (TakesTurns list name weight) slots id me 0 (λ n. n) (Told name st me)
  tells slots id v st me is = subst (λ (m : Me (Option V) (View E)). Allows (TakesTurns list name weight) slots id m 0 (λ n. n) (Told name st m)) (sym is)
      (λ s r deep at low. told list name weight s r id v at st (get_or s.words 0 0) (ap (λ (ws : List ℕ). get_or ws 0 0) r.words))

-- what a joined seat is told, of each of its parts
module _ {V E : Type 0} (v w : View E) {before : Me (Option V) (View E)} {carried : List (ℕ × Option V)} (is : before ≡ (joined v w, carried)) where
  pub at_joined : carried ≡ [] → before ≡ (joined v w, [])
  at_joined bare = is ∙ ap (λ cs. (joined v w, cs)) bare

  pub parts_go_on : (name : E → Option ℕ) {after : Me (Option V) (View E)} → after ≡ before → GoesOn name before.0.less_names before.0.less before.0.seen
      → GoesOn name v.names v.seen after.0.seen × GoesOn name w.names w.seen after.0.seen
  parts_go_on name same told =
      subst (λ (m : Me (Option V) (View E)). GoesOn name v.names v.seen m.0.seen × GoesOn name w.names w.seen m.0.seen) (sym (same ∙ is))
      (of_both name v.seen w.seen v.names w.names (subst (λ (m : Me (Option V) (View E)). GoesOn name m.0.less_names m.0.less m.0.seen) is told))
