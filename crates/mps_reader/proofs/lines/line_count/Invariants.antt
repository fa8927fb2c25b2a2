use Rattle.std.proofs.Common.{◌≡◌, ◌+◌, ◌≤◌, length, drop}
use Rattle.mps_lines.specs.Lines.{raw_lines}
use Rattle.mps_reader.proofs.Counted.{lines_left}
use Rattle.mps_reader.proofs.lines.line_count.Given as goal

abbrev pub invariant-loop-byte : goal.invariant-loop-byte
invariant-loop-byte l = record {
  counted : l.count + lines_left l.is_open (drop l.byte-index l.text) ≡ length (raw_lines l.text);
  small : l.count ≤ l.byte-index;
}
