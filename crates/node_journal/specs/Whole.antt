-- What a disk holds as a journal.
use Rattle.std.specs.Prelude.{◌≡◌, ℕ, true, List}
use Rattle.std.specs.List.{list_all}
use Rattle.outside.specs.Images.{resting}
use Rattle.outside.specs.declared.moment.Moment.{Moment}
use Rattle.node_journal.specs.Records.{payloads_held, records}
use Rattle.node_journal.specs.Frames.{file_of, end_of, has_small_length}

-- the payloads that a read gives
unfoldable pub payloads_in : Moment → List (List ℕ)
payloads_in m = payloads_held (records m.seen)

-- At rest the disk holds the whole file of its payloads. The gate at its end stands at this place.
pub record IsWhole (m : Moment) (end : ℕ) : Type 0 where
  pub rests : m ≡ resting (file_of (payloads_in m))
  pub end_is : end ≡ end_of (payloads_in m)
  pub small : list_all has_small_length (payloads_in m) ≡ true
