use Rattle.std.proofs.Common.{◌≡◌, ◌+◌, ◌*◌, ◌^◌, ◌∙◌, sym, arith, length}
use Rattle.event_codec.proofs.Numbers.{two_words}
use Rattle.event_codec.proofs.cursor.two_words.Goals as goal

pub returns : goal.returns
returns c =
    let low = c.split_at.result.0.now in
    let high = c.split_at.result.1.now in
    let low_len : length low ≡ 8 = c.split_at.ensures.front_len in
    let high_len : length high ≡ 8 = omega (arith, c.split_at.ensures.back_len, c.requires) in
    (λ i. (c.from.ensures ∙ c.word.ensures.value) i + (c.from-2.ensures ∙ c.word-2.ensures.value) i * 2 ^ 64)
    ∙ sym (two_words c.args.bytes.now low high c.split_at.ensures.by_index.0 low_len high_len c.requires)
