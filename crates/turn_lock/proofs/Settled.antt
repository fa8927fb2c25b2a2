-- A step after which each seat stands as it stood, or has neither a ticket nor the value.
use Rattle.std.proofs.Common.{◌≡◌, ◌≢◌, ◌⊎◌, inl, inr, ℕ, ◌+◌, true, false, List, Option, Some, None, sym, ◌∙◌, ap}
use Rattle.std.specs.Prelude.{Contains}
use mathlib.Core.Option.{some, some-injective}
use lib.ListN.{get_elem?}
use Rattle.atomic_table.specs.Table.{State}
use Rattle.turn_lock.specs.Turns.{TakesTurns, Seated, tickets_in, weight_in, Known}
use Rattle.turn_lock.specs.declared.board.View.{View}

pub record AreSettled {E : Type 0} (old new : List (View E)) : Type 0 where
  pub came : (by : ℕ) (u : View E) → get_elem? new by ≡ some u → ((u.ticket ≡ None) × (u.out ≡ false)) ⊎ (get_elem? old by ≡ some u)
  pub still_out : (by : ℕ) (u : View E) → get_elem? old by ≡ some u → u.out ≡ true → get_elem? new by ≡ some u

-- a seat that has the value out is none that hasn't
pub is_other : {E : Type 0} (views : List (View E)) (k : ℕ) (z : View E) → get_elem? views k ≡ some z → z.out ≡ false → (by : ℕ) (u : View E) → get_elem? views by ≡ some u → u.out ≡ true → by ≢ k
is_other {E = E} views k z at_k in_k by u e out same =
    let one : some u ≡ some z = sym e ∙ ap (λ j. get_elem? views j) same ∙ at_k in
    let bad : true ≡ false = sym out ∙ ap (λ (x : View E). x.out) (some-injective u z one) ∙ in_k in cc

module _ {V E : Type 0} (list : V → List E) (name : E → Option ℕ) (weight : ℕ) (s : State (Option V) (View E)) (r : TakesTurns list name weight s) (views : List (View E)) (settled : AreSettled s.views views) where
  ticketed : (by : ℕ) (u : View E) (t : ℕ) → get_elem? views by ≡ some u → u.ticket ≡ Some t → get_elem? s.views by ≡ some u
  ticketed by u t e is = elim (settled.came by u e) [
    | inl p ↦ (let bad : None ≡ Some t = sym p.0 ∙ is in cc)
    | inr p ↦ p
  ]

  in_before : (by : ℕ) (u : View E) → ((k : ℕ) (x : View E) → get_elem? s.views k ≡ some x → x.out ≡ false) → get_elem? views by ≡ some u → u.out ≡ false
  in_before by u all e = elim (settled.came by u e) [
    | inl p ↦ p.1
    | inr p ↦ all by u p
  ]

  -- the rule still holds
  pub turns_go_on : r.served + tickets_in views ≡ r.issued → ((by : ℕ) (u : View E) → get_elem? views by ≡ some u → Seated name r.issued r.served r.noted u)
      → ((a b : ℕ) (u x : View E) (n : ℕ) → get_elem? views a ≡ some u → get_elem? views b ≡ some x → Contains u.names n → Contains x.names n → a ≡ b)
      → weight_in views ≡ weight → Known r.noted views → TakesTurns list name weight record { words = s.words; homes = s.homes; views = views }
  turns_go_on tickets each names weights longest = record {
    issued = r.issued;
    served = r.served;
    noted = r.noted;
    words = r.words;
    small = r.small;
    tickets = tickets;
    each = each;
    apart = λ a b u x t ea eb ta tb. r.apart a b u x t (ticketed a u t ea ta) (ticketed b x t eb tb) ta tb;
    names = names;
    weights = weights;
    longest = longest;
    home = elim r.home [
      | inl h ↦ inl (h.0, h.1, h.2, λ by u e. in_before by u h.3 e)
      | inr h ↦ inr (h.0, h.1, h.2, settled.still_out h.1 h.2 h.3 h.4, h.4)
    ];
  }
