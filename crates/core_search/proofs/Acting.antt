-- The worker claims and releases nodes.
use Rattle.std.specs.Prelude.{◌≡◌, ℕ, true, not, nat_eq, ◌&&◌, ◌||◌, false, cond, List, [], ◌∷◌, ◌++◌, Some, refl}
use Rattle.std.specs.List.{list_any}
use Rattle.std.proofs.Common.{ap, ◌∙◌}
use Rattle.std.proofs.lemmas.Bool.{eq-eqb}
use Rattle.event_core.specs.declared.entry.Holder.{Holder}
use Rattle.event_core.specs.States.{State, is_open}
use Rattle.event_core.specs.Holds.{is_yours, without_hold}
use Rattle.event_core.specs.After.{after_claim, after_release}
use Rattle.event_core.specs.Laws.{unheld}
use Rattle.core_search.specs.Holding.{IsHeldAlone}

abbrev hold : ℕ → Holder
hold i = record { worker = 0; node = i }

itself : (i : ℕ) → nat_eq i i ≡ true
itself i = eq-eqb i i refl

-- ---- claims and releases
pub claimed : (s : State) (i : ℕ) → s.holds ≡ [] → is_open s i ≡ true → IsHeldAlone (after_claim s (Some 0) i) i
claimed s i e o = record { held = ap (λ (hs : List Holder). hs ++ hold i ∷ []) e; opened = o }

pub yours : (s : State) (i : ℕ) → IsHeldAlone s i → is_yours s (Some 0) i ≡ true
yours s i h =
    ap (λ (hs : List Holder). list_any (λ (k : Holder). nat_eq k.worker 0 && nat_eq k.node i) hs) h.held ∙ ap (λ b. b || false) (itself i)

pub given_back : (s : State) (i : ℕ) → IsHeldAlone s i → without_hold i s.holds ≡ []
given_back s i h = ap (without_hold i) h.held ∙ ap (λ b. cond (not b) (hold i ∷ []) []) (itself i)

pub released : (s : State) (i : ℕ) → IsHeldAlone s i → after_release s i ≡ unheld s
released s i h = ap (λ (hs : List Holder). record s { holds = hs }) (given_back s i h)
