-- What a crash may leave of a disk: the model of a disk whose writes reach it in any order and in parts until it is
-- synced (own).
use Rattle.std.specs.Prelude.{◌≡◌, ◌⊎◌, ℕ, ◌+◌, ◌≤◌, ◌<◌, min, max, Bool, false, ◌&&◌, nat_le, nat_lt, List, [], ◌∷◌, ◌++◌, length, take, drop, slice_index}
use Rattle.std.specs.List.{list_any}
use Rattle.outside.specs.declared.moment.Moment.{Moment}

-- the place lies in one of the ranges
abbrev pub is_in_ranges : List (ℕ × ℕ) → ℕ → Bool
is_in_ranges ranges i = list_any (λ r. nat_le r.0 i && nat_lt i (r.0 + r.1)) ranges

-- A crash at this moment may leave these bytes: any in the ranges that were written since the last sync, any or none past
-- the least length since, up to the greatest, and elsewhere what was there at that sync (docs/DECISIONS.md, entry 6).
pub record IsImage (m : Moment) (c : List ℕ) : Type 0 where
  pub no_shorter : m.least ≤ length c
  pub no_longer : length c ≤ m.most
  pub elsewhere : (i : ℕ) → i < m.least → is_in_ranges m.ranges i ≡ false → slice_index c i ≡ slice_index m.kept i

-- the bytes with others written over them from a place on
abbrev pub overwritten : ℕ → List ℕ → List ℕ → List ℕ
overwritten at bytes old = take at old ++ bytes ++ drop (at + length bytes) old

-- the moment after a write, a cut and a sync that succeed
abbrev pub moment_after_write : ℕ → List ℕ → Moment → Moment
moment_after_write at bytes m = record { seen = overwritten at bytes m.seen; kept = m.kept; ranges = m.ranges ++ (at, length bytes) ∷ []; least = m.least; most = max m.most (at + length bytes) }

-- a truncation: what lies behind the size may be gone after a crash
abbrev pub moment_after_cut : ℕ → Moment → Moment
moment_after_cut size m = record { seen = take size m.seen; kept = m.kept; ranges = m.ranges; least = min m.least size; most = m.most }

-- a disk of which a crash leaves these bytes and nothing else
abbrev pub resting : List ℕ → Moment
resting bytes = record { seen = bytes; kept = bytes; ranges = []; least = length bytes; most = length bytes }

-- a sync: all that was seen is kept
abbrev pub moment_after_sync : Moment → Moment
moment_after_sync m = resting m.seen

-- A crash leaves what a read gives, and nothing else.
abbrev pub AtRest : Moment → Type 0
AtRest m = (c : List ℕ) → IsImage m c → c ≡ m.seen

-- no moment went by
pub record NoMomentPasses (past : List Moment) (now : Moment) (past' : List Moment) (now' : Moment) : Type 0 where
  pub none : past' ≡ past
  pub same : now' ≡ now

-- one moment went by, and this is the next
pub record OneMomentPasses (past : List Moment) (now : Moment) (past' : List Moment) (now' next : Moment) : Type 0 where
  pub passed : past' ≡ past ++ now ∷ []
  pub came : now' ≡ next

-- A call failed that would have led to a moment. What a crash may leave is what it might have left before, or what it may leave then.
pub record Fails (past : List Moment) (now : Moment) (past' : List Moment) (now' done : Moment) : Type 0 where
  pub passed : (past' ≡ past) × (now' ≡ now) ⊎ (past' ≡ past ++ now ∷ [])
  pub images : (c : List ℕ) → IsImage now' c → IsImage now c ⊎ IsImage done c

-- each crash at one of these moments leaves bytes that have P
abbrev pub Leaves : (List ℕ → Type 0) → List Moment → Type 0
Leaves P [] = Unit {0}
Leaves P (m ∷ ms) = ((c : List ℕ) → IsImage m c → P c) × Leaves P ms

-- Between two states of a disk time went on, and a crash at any moment from the first on leaves bytes that have P.
-- The moments between stand behind the first one.
pub record LeavesOnly (past : List Moment) (now : Moment) (past' : List Moment) (now' : Moment) (P : List ℕ → Type 0) : Type 0 where
  pub moments : List Moment
  pub passed : past' ++ now' ∷ [] ≡ past ++ now ∷ moments
  pub each : Leaves P (now ∷ moments)
