use Rattle.std.proofs.Common.{◌≡◌, ◌+◌, pos, replicate, set, take, ap, sym, rules, ◌∙◌, w64}
use mir.Val.{SFits}
use Rattle.std.proofs.lemmas.Int.{to_z-of_z}
use Rattle.integer_tableau.proofs.EntrySums.{entry_at}
use Rattle.integer_tableau.proofs.KeptSums.{none_spread, spread_more}
use Rattle.integer_tableau.specs.Entries.{spread}
use Rattle.integer_tableau.proofs.kept_row.spread.Goals as goal

pub loop-entry-init : goal.loop-entry-init
loop-entry-init c =
    let zeros : c.resize.new.self.items ≡ replicate c.args.width (pos 0) = search rules in
    zeros ∙ none_spread 0 c.args.width

pub loop-entry-preserved : goal.loop-entry-preserved
loop-entry-preserved c =
    let es = c.entries-entry-items.result.now in
    let i = c.loop-entry.entry-index in
    let e = entry_at es i in
    let f : SFits w64 e.number = search rules in
    ap (set c.loop-entry.into.items e.place) (to_z-of_z w64 e.number f)
    ∙ ap (λ xs. set xs e.place e.number) (c.loop-entry.invariant ∙ ap (λ n. spread 0 n (take i es)) c.requires)
    ∙ spread_more c.args.row.now es i c.entries-entry-items.ensures c.loop-entry-test.true
    ∙ ap (λ n. spread 0 n (take (i + 1) es)) (sym c.requires)
