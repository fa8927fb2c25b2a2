use Rattle.std.proofs.Common.{◌≡◌, None, Some, sym, ap, ◌∙◌, drop}
use Rattle.mps_lines.specs.Left.{seen}
use Rattle.mps_reader.specs.Faults.{word_fault}
use Rattle.mps_reader.proofs.SectionTables.{known_fine}
use Rattle.mps_reader.specs.Tables.{texts}
use Rattle.mps_reader.proofs.steps.known_line.Goals as goal

pub returns-in-None-clause-line : goal.returns-in-None-clause-line
returns-in-None-clause-line g c d w s h =
    let line = seen c.args.line.now in
    let f : word_fault s (drop 1 line.fields) (Some c.args.word) ≡ None =
    ap (λ fs. word_fault s (drop 1 (texts fs)) (Some c.args.word)) (sym c.as_slice.ensures.value) ∙ sym (c.word_fault.ensures s h.order) ∙ c.in-None.is in
    let k = known_fine c.args.tables.now c.keep_word.new.tables s line h d c.args.word w f c.keep_word.ensures in
    ((k.0, c.is_last.ensures ∙ k.1, k.2), tt)
