use Rattle.std.proofs.Common.{◌≤◌, ◌+◌}
use Rattle.mps_lines.specs.Left.{room, text_len}
use Rattle.mps_reader.proofs.TextTables.{HasFollowed}
use Rattle.mps_reader.specs.Reading.{text_limit}
use Rattle.mps_reader.specs.SectionTables.{CountsRows}
use Rattle.mps_reader.proofs.reading.read_sections.Given as goal

abbrev pub invariant-loop-line : goal.invariant-loop-line
invariant-loop-line g l = record {
  followed : HasFollowed l.text l.tables l.lines;
  count : CountsRows l.tables;
  room : room l.lines ≤ text_limit + 1;
}

abbrev pub decreases-loop-line : goal.decreases-loop-line
decreases-loop-line g l = text_len l.lines
