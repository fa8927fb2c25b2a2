use Rattle.std.proofs.Common.{List, ℕ, ◌++◌, ap, sym, ◌∙◌}
use Rattle.std.specs.Prelude.{ℤ}
use Rattle.std.specs.Int.{w128}
use Rattle.std.proofs.lemmas.Int.{to_z-of_z}
use Rattle.event_codec.specs.declared.enc.Enc.{Enc}
use Rattle.event_codec.specs.declared.enc.Enc.TheVariants.{One}
use Rattle.event_codec.specs.Codes.{i128_code}
use Rattle.event_codec.proofs.put.put_i128.Goals as goal

pub returns-in_ok-extend_from_slice-in-One : goal.returns-in_ok-extend_from_slice-in-One
unfolding i128_code
returns-in_ok-extend_from_slice-in-One c =
    let before = c.args.out.now.items in
    c.in_ok-extend_from_slice-in-One.ensures.items ∙ ap (λ (x : List ℕ). before ++ x) c.to_le_bytes.ensures ∙ ap (λ (z : ℤ). before ++ i128_code One z) (to_z-of_z w128 c.args.number c.ranges.number)
    ∙ ap (λ (e : Enc). before ++ i128_code e c.args.number) (sym c.in-One.is)
