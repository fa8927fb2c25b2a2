use Rattle.std.proofs.Common.{rules}
use mathlib.Core.Option.{none}
use Rattle.atomic_table.specs.Table.{step}
use Rattle.turn_lock.specs.Lists.{list_in}
use Rattle.turn_lock.proofs.Joining.{joins}
use Rattle.turn_lock.proofs.Telling.{tells, at_joined, parts_go_on}
use Rattle.turn_lock.proofs.lock.TurnLock.join.Goals as goal

pub join_seat-requires : goal.join_seat-requires
join_seat-requires g c = (
  search rules,
  search rules,
  c.requires.other.idle.bare,
  search rules,
  joins (list_in g.V.Kept.list) g.V.Kept.name c.args.self.now.table.shared.key.weight _ _ _ _ c.requires.one.idle.no_ticket c.requires.one.idle.not_out c.requires.other.idle.no_ticket c.requires.other.idle.not_out,
)

pub load-requires : goal.load-requires
load-requires g c = (
  search rules,
  search rules,
  tells (list_in g.V.Kept.list) g.V.Kept.name c.args.self.now.table.shared.key.weight _ _ _ (step 1 0 0 0 none) _ (at_joined c.args.one.place.me.0 c.args.other.place.me.0 c.join_seat.ensures.2 c.requires.one.idle.bare),
)

pub returns-clause-one_goes_on : goal.returns-clause-one_goes_on
returns-clause-one_goes_on g c = (parts_go_on c.args.one.place.me.0 c.args.other.place.me.0 c.join_seat.ensures.2 g.V.Kept.name c.load.ensures.2.0 c.load.ensures.2.1).0

pub returns-clause-other_goes_on : goal.returns-clause-other_goes_on
returns-clause-other_goes_on g c = (parts_go_on c.args.one.place.me.0 c.args.other.place.me.0 c.join_seat.ensures.2 g.V.Kept.name c.load.ensures.2.0 c.load.ensures.2.1).1
