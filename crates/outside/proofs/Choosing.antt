-- The moment that is worked out anew, and the image of it that is closest to a wish.
use Rattle.std.specs.Prelude.{◌≡◌, ℕ, ◌+◌, ◌≤◌, ◌<◌, Bool, true, false, ◌||◌, nat_le, List, [], ◌∷◌, ◌++◌, length, take, slice_index, if◌then◌else◌, refl}
use Rattle.std.proofs.Common.{arith, ap, sym, ◌∙◌, get_or}
use Rattle.std.proofs.lemmas.Bool.Decides.{nat_tests}
use Rattle.std.proofs.lemmas.List.{ext_get_or, take_more}
use Rattle.outside.specs.Replay.{moment_after_call, replay}
use Rattle.outside.specs.Lemmas.Replay.{replay_push}
use Rattle.outside.specs.Images.{IsImage, is_in_ranges}
use Rattle.outside.specs.Choice.{chosen}
use Rattle.outside.specs.declared.moment.Moment.{Moment}
use Rattle.outside.specs.declared.mem_disk.Call.{Call}

or_false : (a b : Bool) → (a || b) ≡ false → (a ≡ false) × (b ≡ false)
or_false true b h = cc
or_false false b h = (refl, h)

-- where the wish is an image, each byte is the wish's
pub chosen_is : (m : Moment) (wish : List ℕ) → IsImage m wish → (i : ℕ) → chosen m wish i ≡ slice_index wish i
chosen_is m wish is i = pick (nat_le m.least i || is_in_ranges m.ranges i) refl
  where
    below : (a b : ℕ) → nat_le a b ≡ false → b < a
    below a b h = grind (arith, nat_tests)

    pick : (b : Bool) → (nat_le m.least i || is_in_ranges m.ranges i) ≡ b → (if b then slice_index wish i else slice_index m.kept i) ≡ slice_index wish i
    pick true e = refl
    pick false e = let parts = or_false (nat_le m.least i) (is_in_ranges m.ranges i) e in sym (is.elsewhere i (below m.least i parts.0) parts.1)

pub closest : (m : Moment) (wish image : List ℕ) → IsImage m wish → length image ≡ length wish → ((i : ℕ) → i < length image → slice_index image i ≡ chosen m wish i) → image ≡ wish
closest m wish image is len each = ext_get_or 0 image wish len (λ i lt. each i lt ∙ chosen_is m wish is i)

pub ordered : (m n : Moment) → n ≡ m → IsImage m m.seen → n.least ≤ n.most
ordered m n e is = omega (arith, ap (λ (k : Moment). k.least) e, ap (λ (k : Moment). k.most) e, is.no_shorter, is.no_longer)

-- the moment after one more of the calls
pub replay_more : (first : Moment) (calls : List Call) (i : ℕ) (call : Call) (now : Moment) → i < length calls → call ≡ get_or calls i call → now ≡ replay first (take i calls) → moment_after_call now call ≡ replay first (take (i + 1) calls)
replay_more first calls i call now lt is e =
    ap (λ m. moment_after_call m call) e ∙ sym (replay_push first (take i calls) call) ∙ ap (λ c. replay first (take i calls ++ c ∷ [])) is ∙ ap (λ l. replay first l) (sym (take_more calls i call lt))
