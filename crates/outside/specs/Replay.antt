-- The moments that calls lead through.
use Rattle.std.specs.Prelude.{List, [], ◌∷◌}
use Rattle.outside.specs.Images.{moment_after_write, moment_after_cut, moment_after_sync}
use Rattle.outside.specs.declared.moment.Moment.{Moment}
use Rattle.outside.specs.declared.mem_disk.Call.{Call}
use Rattle.outside.specs.declared.mem_disk.Call.TheVariants.{Write, Cut, Sync}

-- the moment after one call
abbrev pub moment_after_call : Moment → Call → Moment
moment_after_call m (Write at bytes) = moment_after_write at bytes.items m
moment_after_call m (Cut size) = moment_after_cut size m
moment_after_call m Sync = moment_after_sync m

-- the moment after the calls
abbrev pub replay : Moment → List Call → Moment
replay m [] = m
replay m (c ∷ cs) = replay (moment_after_call m c) cs

-- the moments before each of them
abbrev pub moments : Moment → List Call → List Moment
moments m [] = []
moments m (c ∷ cs) = m ∷ moments (moment_after_call m c) cs
