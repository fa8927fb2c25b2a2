-- Lemmas: what a disk in memory tells.
use Rattle.std.specs.Prelude.{◌≡◌, length}
use Rattle.outside.specs.Images.{IsImage, resting}
use Rattle.outside.specs.Lemmas.Replay.{length-moments}
use Rattle.outside.specs.Lemmas.SeenIsImage.{rests, replay_is}
use Rattle.outside.specs.declared.mem_disk.MemDisk.{MemDisk}
use Rattle.outside.specs.OnDisk.{disk_past, disk_now, disk_ticks}

pub ticks_are : (d : MemDisk) → disk_ticks d ≡ length (disk_past d)
ticks_are d = length-moments (resting d.first.items) d.calls.items

pub seen_is : (d : MemDisk) → IsImage (disk_now d) (disk_now d).seen
seen_is d = replay_is (resting d.first.items) d.calls.items (rests d.first.items)
