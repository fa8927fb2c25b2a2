-- The image of a moment that is closest to a wish.
use Rattle.std.specs.Prelude.{ℕ, List, ◌||◌, nat_le, slice_index, if◌then◌else◌}
use Rattle.outside.specs.Images.{is_in_ranges}
use Rattle.outside.specs.declared.moment.Moment.{Moment}
use Rattle.outside.specs.declared.replayed.Replayed.{Replayed}

-- the moment that a replayed disk stands for
abbrev pub moment_of : Replayed → Moment
moment_of r = record { seen = r.seen.items; kept = r.kept.items; ranges = r.ranges.items; least = r.least; most = r.most }

-- the byte at a place: where a crash may leave any, the wish's, else the one that stands
abbrev pub chosen : Moment → List ℕ → ℕ → ℕ
chosen m wish i = if nat_le m.least i || is_in_ranges m.ranges i then slice_index wish i else slice_index m.kept i
