use Rattle.std.proofs.Common.{rules, ◌≡◌, ◌≤◌, List, ℕ, true, false, nat_lt, ltb, length, Result, Ok, Err, is_ok, cond, sym, ap, ◌∙◌, subst, arith}
use Rattle.std.specs.List.{insert}
use Rattle.std.specs.List.Sorted.{IsPartitionPoint}
use Rattle.std.specs.Result.{IsOk}
use Rattle.std.proofs.lemmas.List.Sorted.{IsPartitionPoint-from_clause, IsPartitionedBy-ltb}
use Rattle.node_pool.specs.Free.{AreRising, has_node}
use Rattle.node_pool.proofs.RisingLists.{non_decreasing, less_before, more_behind, rising-insert, has-insert}
use Rattle.node_pool.proofs.free.insert_node.Goals as goal

placed : {T E : Type 0} (r : Result T E) (now with without : List ℕ) → IsOk r → now ≡ cond (is_ok r) with without → now ≡ with
placed (Ok x) now with without ok e = e
placed (Err x) now with without ok e = cc

pub returns-clause-rising : goal.returns-clause-rising
returns-clause-rising c =
    let ns = c.args.free.now.items in
    let n = c.args.node in
    let place = c.partition_point-place.result in
    let at : c.deref.result.now ≡ ns = c.deref.ensures.value in
    let parted = IsPartitionPoint-from_clause (λ m. ltb m c.args.node) _ _ c.partition_point-place.ensures.partitioned
    (IsPartitionedBy-ltb (λ m. m) c.deref.result.now c.args.node (non_decreasing c.deref.result.now (subst (λ (ms : List ℕ). AreRising ms) (sym at) c.requires.rising))) (λ a r q k. search rules) in
    let here : IsPartitionPoint (λ m. nat_lt m n ≡ true) (λ m. nat_lt m n ≡ false) ns place = subst (λ (ms : List ℕ). IsPartitionPoint (λ m. nat_lt m n ≡ true) (λ m. nat_lt m n ≡ false) ms place) at parted in
    let within : place ≤ length ns = omega arith in
    let inserted = placed c.insert.result c.insert.new.self.items (insert ns place n) ns (c.insert.ensures.succeeds c.requires.room) c.insert.ensures.items in
    subst AreRising (sym inserted)
    (rising-insert ns n place c.requires.rising within (less_before ns n place c.requires.absent here) (more_behind ns n place c.requires.absent here))

pub returns-clause-nodes : goal.returns-clause-nodes
returns-clause-nodes c =
    let ns = c.args.free.now.items in
    let place = c.partition_point-place.result in
    let inserted = placed c.insert.result c.insert.new.self.items (insert ns place c.args.node) ns (c.insert.ensures.succeeds c.requires.room) c.insert.ensures.items in
    λ i. ap (λ (ms : List ℕ). has_node ms i) inserted ∙ has-insert ns c.args.node place i
