use Rattle.std.proofs.Common.{rules}
use Rattle.outside.specs.OnDisk.{disk_now}
use Rattle.outside.specs.Lemmas.OnDisk.{seen_is}
use Rattle.outside.specs.Choice.{moment_of}
use Rattle.outside.proofs.Choosing.{ordered}
use Rattle.outside.proofs.mem_disk.MemDisk.image.Goals as goal

pub image-requires : goal.image-requires
image-requires c = ordered (disk_now c.args.self.now) (moment_of c.in_ok-now.now) (search rules) (seen_is c.args.self.now)
