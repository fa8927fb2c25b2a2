use Rattle.std.proofs.Common.{◌≡◌, ◌++◌, ◌∷◌, [], List, rules, ap, ◌∙◌}
use Rattle.outside.specs.declared.mem_disk.Call.{Call}
use Rattle.outside.specs.declared.mem_disk.Call.TheVariants.{Write}
use Rattle.outside.proofs.mem_disk.note_write.Goals as goal

pub returns-clause-calls : goal.returns-clause-calls
returns-clause-calls c =
    let same : c.in_ok-copy.copy.items ≡ c.args.more.now = search rules in
    (c.in_ok-copy.copy, same, c.in_ok-push.ensures.items ∙ ap (λ (l : List Call). l ++ Write c.args.at c.in_ok-copy.copy ∷ []) c.in_ok-reserve.ensures.items)
