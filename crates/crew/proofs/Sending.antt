-- What may go to another thread.
use denote.RattleType.{RattleType}
use denote.Ref.{NamedLft}
use denote.Param.Send.{IsSend, IsSync, recorded_send, view_send, struct_send, enum_send, shr_send, sendable}
use denote.Struct.Declared.{shape as struct_shape}
use denote.Enum.Declared.{shape as enum_shape}
use Rattle.std.proofs.Crossing.{crosses}
use Rattle.std.specs.contracts.option.Option.{the_field as OptionField}
use Rattle.outside.specs.declared.disk.Disk.{Ghosts}
use Rattle.problem_box.specs.contracts.int_box.IntBox.{the_row as BoxRow}
use Rattle.problem.specs.contracts.terms.Terms.{the_row as TermsRow}
use Rattle.problem.specs.contracts.row.Row.{the_row as RowRow}
use Rattle.problem.specs.contracts.point.Point.{the_row as PointRow}
use Rattle.problem.specs.contracts.names.Names.{the_row as NamesRow}
use Rattle.problem.specs.contracts.program.Problem.{the_row as ProblemRow}
use Rattle.node_tree.specs.contracts.tree.Tree.{the_row as TreeRow}
use Rattle.node_events.specs.contracts.mult.Mult.{the_row as MultRow}
use Rattle.node_events.specs.contracts.event.Event.{the_field as EventField}
use Rattle.derivation_book.specs.contracts.cut.Cut.{the_row as CutRow}
use Rattle.derivation_book.specs.contracts.book.Book.{the_row as BookRow}
use Rattle.incumbent.specs.contracts.best.Incumbent.{the_row as IncumbentRow}
use Rattle.event_core.specs.contracts.entry.Entry.{the_row as EntryRow, the_type as EntryType}
use Rattle.event_core.specs.contracts.parts.Parts.{the_row as PartsRow}
use Rattle.event_core.specs.contracts.state.State.{the_row as StateRow}
use Rattle.node_pool.specs.contracts.pool.Pool.{the_field as PoolField}
use Rattle.node_pool.specs.contracts.events.Events.{the_row as EventsRow}
use Rattle.node_pool.specs.contracts.halt.Halt.{the_row as HaltRow, the_type as HaltType}
use Rattle.turn_lock.specs.declared.kept.Kept as Kept
use Rattle.turn_lock.specs.contracts.lock.TurnLock.{the_row as LockRow}
use Rattle.turn_lock.specs.contracts.pass.Pass.{the_row as PassRow}
use Rattle.worker_gate.specs.contracts.kin.Kin.{the_row as KinRow}
use Rattle.worker_gate.specs.contracts.kin.Kin.TheInside.{the_row as InsideRow, the_type as InsideType}
use Rattle.worker_gate.specs.contracts.lock_gate.LockGate.{the_row as GateRow, the_type as GateType}
use Rattle.atomic_table.proofs.send_lease.SendLease.TheSendSync.{the_sync as lease_sync}
use Rattle.atomic_table.proofs.shared.Seat.TheSendSync.{the_send as seat_send}
use Rattle.atomic_table.proofs.shared.Shared.TheSendSync.{the_sync as shared_sync}

terms_send : IsSend TermsRow
terms_send = search (sendable, crosses) depth 40 fits 20000

point_send : IsSend PointRow
point_send = search (sendable, crosses) depth 40 fits 20000

mult_send : IsSend MultRow
mult_send = search (terms_send, sendable, crosses) depth 40 fits 20000

event_send : IsSend EventField.row
event_send = search (mult_send, point_send, sendable, crosses) depth 40 fits 20000

events_send : IsSend EventsRow
events_send = search (event_send, sendable, crosses) depth 40 fits 20000

halt_send : IsSend HaltRow
halt_send = recorded_send _ _ _ HaltType.to_one (enum_send (enum_shape HaltType) (tt, ((search (sendable, crosses) depth 20, (events_send, tt)), ((event_send, tt), tt))))

box_send : IsSend BoxRow
box_send = search (sendable, crosses) depth 40 fits 20000

row_send : IsSend RowRow
row_send = search (terms_send, sendable, crosses) depth 40 fits 20000

names_send : IsSend NamesRow
names_send = search (sendable, crosses) depth 40 fits 20000

problem_send : IsSend ProblemRow
problem_send = search (names_send, row_send, terms_send, box_send, sendable, crosses) depth 40 fits 20000

tree_send : IsSend TreeRow
tree_send = search (box_send, sendable, crosses) depth 40 fits 20000

cut_send : IsSend CutRow
cut_send = search (mult_send, sendable, crosses) depth 40 fits 20000

book_send : IsSend BookRow
book_send = search (cut_send, sendable, crosses) depth 40 fits 20000

incumbent_send : IsSend IncumbentRow
incumbent_send = search (point_send, sendable, crosses) depth 40 fits 20000

entry_send : IsSend EntryRow
entry_send = recorded_send _ _ _ EntryType.to_one (struct_send (struct_shape EntryType) (search (sendable, crosses) depth 20, (event_send, tt)))

parts_send : IsSend PartsRow
parts_send = search (problem_send, tree_send, book_send, incumbent_send, sendable, crosses) depth 40 fits 20000

state_send : IsSend StateRow
state_send = search (parts_send, entry_send, sendable, crosses) depth 40 fits 20000

module _ (V E : RattleType) (g : Kept.Ghosts V.Denot E.Denot) (s : IsSend V) where
  lock_sync : IsSync (LockRow V E g)
  lock_sync = search (shared_sync, lease_sync, sendable, crosses) depth 40 fits 20000

pass_send : (V E : RattleType) → IsSend V → IsSend (PassRow V E)
pass_send V E s = search (seat_send, sendable, crosses) depth 40 fits 20000

optional_send : (R : RattleType) → IsSend R → IsSend (OptionField R).row
optional_send R s = search sendable depth 12

module _ (D : RattleType) (d : Ghosts D.Denot) (s : IsSend D) where
  pool_send : IsSend (PoolField D d).row
  pool_send = search (state_send, halt_send, sendable, crosses) depth 40 fits 20000

  inside_send : IsSend (InsideRow D d)
  inside_send =
      recorded_send _ _ _ (InsideType D d).to_one (struct_send (struct_shape (InsideType D d)) (pool_send, (search (sendable, crosses) depth 20, (search (sendable, crosses) depth 20, (search (sendable, crosses) depth 20, (search (sendable, crosses) depth 20, (search (sendable, crosses) depth 20, tt)))))))

  kin_send : IsSend (KinRow D d)
  kin_send = view_send _ _ _ _ _ inside_send

  pub gate_send : (ℓ : NamedLft) → IsSend (GateRow ℓ D d)
  gate_send ℓ =
      recorded_send _ _ _ (GateType ℓ D d).to_one
      (struct_send (struct_shape (GateType ℓ D d)) (shr_send _ _ _ (lock_sync _ _ _ kin_send), (optional_send _ (pass_send _ _ kin_send), (search sendable, tt))))
