-- What a read gives is always one of the images.
use Rattle.std.specs.Prelude.{◌≡◌, ◌⊎◌, ℕ, ◌+◌, ◌≤◌, ◌<◌, min, max, Bool, true, false, ◌||◌, ◌&&◌, nat_le, nat_lt, List, [], ◌∷◌, ◌++◌, length, take, slice_index, refl}
use Rattle.std.proofs.Common.{arith, sym, ◌∙◌, length-take, ⊎_elim}
use Rattle.std.proofs.lemmas.Grind.{common_steps}
use Rattle.std.proofs.lemmas.List.Folds.{list_any-append}
use Rattle.std.proofs.lemmas.Bool.Decides.{nat_tests}
use Rattle.outside.specs.Images.{IsImage, is_in_ranges, overwritten, resting}
use Rattle.outside.specs.Replay.{moment_after_call, replay}
use Rattle.outside.specs.declared.moment.Moment.{Moment}
use Rattle.outside.specs.declared.mem_disk.Call.{Call}
use Rattle.outside.specs.declared.mem_disk.Call.TheVariants.{Write, Cut, Sync}

pub rests : (bytes : List ℕ) → IsImage (resting bytes) bytes
rests bytes = record { no_shorter = omega arith; no_longer = omega arith; elsewhere = λ i lt out. refl }

pub longer : (at : ℕ) (bytes old : List ℕ) → length old ≤ length (overwritten at bytes old)
longer at bytes old = grind (arith, common_steps)

pub no_longer : (at : ℕ) (bytes old : List ℕ) → length (overwritten at bytes old) ≤ max (length old) (at + length bytes)
no_longer at bytes old = grind (arith, common_steps)

pub index_before : (at : ℕ) (bytes old : List ℕ) (i : ℕ) → i < length old → i < at → slice_index (overwritten at bytes old) i ≡ slice_index old i
index_before at bytes old i lt away = grind (arith, common_steps)

pub index_behind : (at : ℕ) (bytes old : List ℕ) (i : ℕ) → i < length old → at + length bytes ≤ i → slice_index (overwritten at bytes old) i ≡ slice_index old i
index_behind at bytes old i lt away = grind (arith, common_steps)

pub index_taken : (size : ℕ) (old : List ℕ) (i : ℕ) → i < size → slice_index (take size old) i ≡ slice_index old i
index_taken size old i lt = grind (arith, common_steps)

or_false : (a b : Bool) → (a || b) ≡ false → (a ≡ false) × (b ≡ false)
or_false true b h = cc
or_false false b h = (refl, h)

-- outside of a list's ranges and of one more
pub apart : (ranges : List (ℕ × ℕ)) (at n i : ℕ) → is_in_ranges (ranges ++ (at, n) ∷ []) i ≡ false → (is_in_ranges ranges i ≡ false) × ((nat_le at i && nat_lt i (at + n)) ≡ false)
apart ranges at n i out =
    let parts = or_false (is_in_ranges ranges i) (is_in_ranges ((at, n) ∷ []) i) (sym (list_any-append (λ r. nat_le r.0 i && nat_lt i (r.0 + r.1)) ranges ((at, n) ∷ [])) ∙ out) in
    (parts.0, (or_false _ _ parts.1).0)

pub elsewhere : (at : ℕ) (bytes : List ℕ) (m : Moment) (i : ℕ) → i < length m.seen → (nat_le at i && nat_lt i (at + length bytes)) ≡ false → slice_index (overwritten at bytes m.seen) i ≡ slice_index m.seen i
elsewhere at bytes m i lt out = ⊎_elim (λ below. index_before at bytes m.seen i lt below) (λ behind. index_behind at bytes m.seen i lt behind) (side out)
  where
    side : (nat_le at i && nat_lt i (at + length bytes)) ≡ false → (i < at) ⊎ (at + length bytes ≤ i)
    side h = grind (arith, nat_tests)

pub stays : (m : Moment) (c : Call) → IsImage m m.seen → IsImage (moment_after_call m c) (moment_after_call m c).seen
stays m (Write at bytes) is = record {
  no_shorter = omega (arith, is.no_shorter, longer at bytes.items m.seen);
  no_longer = omega (arith, is.no_longer, no_longer at bytes.items m.seen);
  elsewhere = λ i lt out. let parts = apart m.ranges at (length bytes.items) i out in elsewhere at bytes.items m i (omega (arith, lt, is.no_shorter)) parts.1 ∙ is.elsewhere i lt parts.0;
}
stays m (Cut size) is = record {
  no_shorter = let n : length (take size m.seen) ≡ min size (length m.seen) = length-take size m.seen in omega (arith, n, is.no_shorter);
  no_longer = let n : length (take size m.seen) ≡ min size (length m.seen) = length-take size m.seen in omega (arith, n, is.no_longer);
  elsewhere = λ i lt out. index_taken size m.seen i (omega (arith, lt)) ∙ is.elsewhere i (omega (arith, lt)) out;
}
stays m Sync is = rests m.seen

pub replay_is : (m : Moment) (cs : List Call) → IsImage m m.seen → IsImage (replay m cs) (replay m cs).seen
replay_is m [] is = is
replay_is m (c ∷ cs) is = replay_is (moment_after_call m c) cs (stays m c is)
