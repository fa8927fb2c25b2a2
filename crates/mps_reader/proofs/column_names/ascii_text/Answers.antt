use Rattle.std.proofs.Common.{◌≡◌, string_bytes}
use Rattle.std.specs.Str.{IsUtf8}
use Rattle.std.proofs.lemmas.Result.{IfOk-weaker}
use Rattle.std.proofs.lemmas.Str.{IsUtf8-from_ascii}
use Rattle.mps_reader.proofs.column_names.ascii_text.Goals as goal

pub returns : goal.returns
returns c =
    let b = c.args.bytes.now in
    IfOk-weaker c.from_utf8_lossy.result (λ t. IsUtf8 b → string_bytes t ≡ b) (λ t. string_bytes t ≡ b) (λ t h. h (IsUtf8-from_ascii b c.requires)) c.from_utf8_lossy.ensures.ok
