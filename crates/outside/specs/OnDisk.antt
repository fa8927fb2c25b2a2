-- What a disk in memory tells.
use Rattle.std.specs.Prelude.{◌≡◌, ℕ, List, Option, Bool, ◌||◌, length}
use Rattle.outside.specs.Failing.{one_more, is_listed, is_stopped}
use Rattle.outside.specs.Images.{resting}
use Rattle.outside.specs.Replay.{replay, moments}
use Rattle.outside.specs.declared.moment.Moment.{Moment}
use Rattle.outside.specs.declared.mem_disk.MemDisk.{MemDisk}

-- the moments that a disk in memory has passed
abbrev pub disk_past : MemDisk → List Moment
disk_past d = moments (resting d.first.items) d.calls.items

-- its moment now
abbrev pub disk_now : MemDisk → Moment
disk_now d = replay (resting d.first.items) d.calls.items

-- how many calls it has had
abbrev pub disk_ticks : MemDisk → ℕ
disk_ticks d = length d.calls.items

-- how many faults it still makes
abbrev pub disk_count : MemDisk → ℕ
disk_count d = d.faults

-- how many calls were tried
abbrev pub disk_calls : MemDisk → ℕ
disk_calls d = d.tried

-- the calls that are to fail
abbrev pub disk_failing : MemDisk → List ℕ
disk_failing d = d.failing.items

-- the call from which on each fails
abbrev pub disk_stop : MemDisk → Option ℕ
disk_stop d = d.stop

-- the test for a disk whose next call is to fail
abbrev pub disk_is_to_fail : MemDisk → Bool
disk_is_to_fail d = is_stopped d.stop d.tried || is_listed d.failing.items d.tried

-- One call was tried, and the same calls are to fail as before.
abbrev pub DiskTried : MemDisk → MemDisk → Type 0
DiskTried before after = (after.tried ≡ one_more before.tried) × (after.failing.items ≡ before.failing.items) × (after.stop ≡ before.stop)
