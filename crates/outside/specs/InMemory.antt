-- What the source and the sink in memory hold.
use Rattle.std.specs.Prelude.{◌≡◌, ℕ, List, Bool, take, drop}
use Rattle.outside.specs.Failing.{one_more, is_listed}
use Rattle.outside.specs.declared.mem_source.MemSource.{MemSource}
use Rattle.outside.specs.declared.mem_sink.MemSink.{MemSink}

-- the bytes that are left
abbrev pub source_left : MemSource → List ℕ
source_left s = drop s.at s.bytes.items

-- how often a read has failed
abbrev pub source_faults : MemSource → ℕ
source_faults s = s.faults

-- how many calls there were
abbrev pub source_calls : MemSource → ℕ
source_calls s = s.calls

-- the calls that are to fail
abbrev pub source_failing : MemSource → List ℕ
source_failing s = s.failing.items

-- the bytes that were taken
abbrev pub sink_taken : MemSink → List ℕ
sink_taken s = s.bytes.items

-- the bytes that are kept
abbrev pub sink_kept : MemSink → List ℕ
sink_kept s = take s.finished s.bytes.items

-- how often a call has failed
abbrev pub sink_faults : MemSink → ℕ
sink_faults s = s.faults

-- how many calls there were
abbrev pub sink_calls : MemSink → ℕ
sink_calls s = s.calls

-- the calls that are to fail
abbrev pub sink_failing : MemSink → List ℕ
sink_failing s = s.failing.items

-- how many bytes a read gives at most
abbrev pub source_most : MemSource → ℕ
source_most s = s.most

-- how many bytes a write takes at most
abbrev pub sink_most : MemSink → ℕ
sink_most s = s.most

-- the test for a source whose next call is to fail
abbrev pub source_is_to_fail : MemSource → Bool
source_is_to_fail s = is_listed s.failing.items s.calls

-- There was one more call, and the same calls are to fail as before.
abbrev pub SourceTried : MemSource → MemSource → Type 0
SourceTried before after = (after.calls ≡ one_more before.calls) × (after.failing.items ≡ before.failing.items) × (after.most ≡ before.most)

-- the test for a sink whose next call is to fail
abbrev pub sink_is_to_fail : MemSink → Bool
sink_is_to_fail s = is_listed s.failing.items s.calls

-- There was one more call, and the same calls are to fail as before.
abbrev pub SinkTried : MemSink → MemSink → Type 0
SinkTried before after = (after.calls ≡ one_more before.calls) × (after.failing.items ≡ before.failing.items) × (after.most ≡ before.most)
