-- A history with one event more.
use Rattle.std.specs.Prelude.{◌≡◌, ◌≤◌, ◌+◌, ℕ, ℤ, List, [], ◌∷◌, ◌++◌, length, Option, Some, None, refl}
use Rattle.std.proofs.Common.{sym, ap, ◌∙◌, subst, arith}
use Rattle.std.proofs.lemmas.List.{length_push}
use Rattle.fraction.specs.Rational.{ℚ}
use Rattle.problem.specs.declared.row.Row.{Row}
use Rattle.problem.specs.Problem.{Problem}
use Rattle.node_events.specs.declared.event.Event.{Event}
use Rattle.node_events.specs.declared.event.Event.TheVariants.{Claim, Release, Cut, Offer, Split, Close}
use Rattle.derivation_book.specs.Rounded.{rounded_row}
use Rattle.derivation_book.specs.declared.cut.Cut.{Cut as MadeCut}
use Rattle.incumbent.specs.Offers.{IsImprovement}
use Rattle.event_core.specs.declared.entry.Entry.{Entry}
use Rattle.event_core.specs.declared.entry.Holder.{Holder}
use Rattle.event_core.specs.States.{State, first_state}
use Rattle.event_core.specs.After.{after, after_cut}
use Rattle.event_core.specs.Histories.{IsLegal, state_of, AreLegal}
use Rattle.event_core.specs.Rooms.{HasEntryRoom}
use Rattle.event_core.specs.declared.made.Made.{Made}
use Rattle.event_core.specs.declared.made.Made.TheVariants as made
use Rattle.event_core.specs.Made.{made_cut, made_for}
use Rattle.problem.specs.Linear.{Multipliers}
use Rattle.event_core.specs.Sound.{IsSound}
use Rattle.event_core.specs.Lemmas.Passing.{release_passed}
use Rattle.event_core.specs.Lemmas.Running.{state_from-append, legal_more, after-problem}
use Rattle.event_core.specs.Lemmas.Holds.{length-without_hold, fewer-without_hold}
use Rattle.event_core.specs.Lemmas.Sounding.{legal_sound, is_improvement}

-- what a state and its history keep, with room for so many entries
pub record IsHistoryOf (s : State) (es : List Entry) (n : ℕ) : Type 0 where
  pub state : s ≡ state_of s.problem es
  pub legal : AreLegal s.problem es
  pub room : length s.holds ≤ n

pub sound_history : (s : State) (es : List Entry) → s ≡ state_of s.problem es → AreLegal s.problem es → IsSound s
sound_history s es e l = subst IsSound (sym e) (legal_sound s.problem es l)

-- the point that was made for an offer is better than the incumbent
pub offer_made : (s : State) (w : Option ℕ) (e : Event) (x y : List ℤ) (m : Made) → e ≡ Offer x → IsLegal s w e → m ≡ made_for s.problem s.cuts e → m ≡ made.Point y
    → IsImprovement s.problem s.incumbent y
offer_made s w e x y m p l is q =
    let made : m ≡ made.Point x = is ∙ ap (λ (f : Event). made_for s.problem s.cuts f) p in
    let same : x ≡ y = same_point x y (sym made ∙ q) in
    subst (IsImprovement s.problem s.incumbent) same (is_improvement s w x (subst (IsLegal s w) p l))
  where
    point_of : Made → List ℤ
    point_of made.Nothing = []
    point_of (made.Cut c) = []
    point_of (made.Point z) = z

    same_point : (a b : List ℤ) → made.Point a ≡ made.Point b → a ≡ b
    same_point a b h = ap point_of h

-- the cut that was made for an event is the rounded row of its multipliers
pub cut_made : (s : State) (e : Event) (mult : Multipliers) (m : Made) (c : MadeCut) → e ≡ Cut mult → m ≡ made_for s.problem s.cuts e → m ≡ made.Cut c
    → (c.mult ≡ mult) × (rounded_row s.problem s.cuts mult ≡ Some c.row)
cut_made s e mult m c p is q = step (rounded_row s.problem s.cuts mult) (sym (is ∙ ap (λ (f : Event). made_for s.problem s.cuts f) p) ∙ q)
  where
    step : (o : Option Row) → made_cut mult o ≡ made.Cut c → (c.mult ≡ mult) × (o ≡ Some c.row)
    step None h = cc
    step (Some r) h = (ap mult_of (sym h), ap (λ (d : MadeCut). Some d.row) (cut_of_made h))
      where
        cut_in : Made → MadeCut
        cut_in made.Nothing = c
        cut_in (made.Cut d) = d
        cut_in (made.Point z) = c

        mult_of : Made → Multipliers
        mult_of x = (cut_in x).mult

        cut_of_made : made.Cut (record { row = r; mult = mult }) ≡ made.Cut c → record { row = r; mult = mult } ≡ c
        cut_of_made g = ap cut_in g

-- ---- room for the releases
-- a cut leaves the holds
pub cut_holds : (s : State) (mult : List (ℕ × ℚ)) (o : Option Row) → (after_cut s mult o).holds ≡ s.holds
cut_holds s mult None = refl
cut_holds s mult (Some r) = refl

-- the releases that may come after an event fit, and the event's entry too
pub entries_fit : (s : State) (w : Option ℕ) (e : Event) (n : ℕ) → IsLegal s w e → HasEntryRoom s n e → length s.holds ≤ n → length (after s w e).holds + 1 ≤ n
entries_fit s None (Claim i) n l h r = cc
entries_fit s (Some w) (Claim i) n l h r = let p = length_push s.holds (record { worker = w; node = i }) in omega (arith, p, h)
entries_fit s None (Release i) n l h r = cc
entries_fit s (Some w) (Release i) n l h r =
    let p = release_passed s (Some w) i l.admitted in
    let f = fewer-without_hold w i s.holds p.yours in
    omega (arith, f, r)
entries_fit s w (Cut mult) n l h r = let e = ap (λ (hs : List Holder). length hs) (cut_holds s mult (rounded_row s.problem s.cuts mult)) in omega (arith, e, h)
entries_fit s w (Offer x) n l h r = omega (arith, h)
entries_fit s w (Split i j b q) n l h r = let f = length-without_hold i s.holds in omega (arith, f, h)
entries_fit s w (Close i proof) n l h r = let f = length-without_hold i s.holds in omega (arith, f, h)

-- ---- one event more
pub more_history : (s t : State) (es : List Entry) (w : Option ℕ) (e : Event) (n m : ℕ)
    → s ≡ state_of s.problem es → AreLegal s.problem es → length s.holds ≤ n → IsLegal s w e → HasEntryRoom s n e → t ≡ after s w e → m + 1 ≡ n
    → IsHistoryOf t (es ++ record { worker = w; event = e } ∷ []) m
more_history s t es w e n m same legal room l h q k =
    let p : t.problem ≡ s.problem = ap (λ (v : State). v.problem) q ∙ after-problem s w e in
    let step : after s w e ≡ state_of s.problem (es ++ record { worker = w; event = e } ∷ []) =
    ap (λ (v : State). after v w e) same ∙ sym (state_from-append (first_state s.problem) es (record { worker = w; event = e } ∷ []))
    in
    let fits = entries_fit s w e n l h room in
    let holds = ap (λ (v : State). length v.holds) q in
    record {
      state = q ∙ step ∙ ap (λ (p : Problem). state_of p (es ++ record { worker = w; event = e } ∷ [])) (sym p);
      legal = subst (λ (p : Problem). AreLegal p (es ++ record { worker = w; event = e } ∷ [])) (sym p)
          (legal_more (first_state s.problem) es (record { worker = w; event = e }) legal (subst (λ (v : State). IsLegal v w e) same l));
      room = omega (arith, fits, holds, k);
    }
