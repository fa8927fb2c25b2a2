use Rattle.std.proofs.Common.{rules, ◌≡◌}
use Rattle.fraction.specs.Rational.{◌*ℚ◌, whole}
use Rattle.fraction.specs.Lemmas.Bounds.{mul_is, add_is}
use Rattle.row_activity.proofs.activity.with_product.Goals as goal

pub unreachable-requires : goal.unreachable-requires
unreachable-requires c =
    let e : c.of.result ≡ whole c.args.number = search rules in
    let m = mul_is c.args.coefficient (whole c.args.number) c.requires.product in cc

pub unreachable-requires-in_default-add : goal.unreachable-requires-in_default-add
unreachable-requires-in_default-add c =
    let e : c.of.result ≡ whole c.args.number = search rules in
    let m = mul_is c.args.coefficient (whole c.args.number) c.requires.product in
    let p : c.in-Some.product ≡ c.args.coefficient *ℚ whole c.args.number = cc in
    let s = add_is c.args.total (c.args.coefficient *ℚ whole c.args.number) c.requires.sum in cc

pub returns : goal.returns
returns c =
    let e : c.of.result ≡ whole c.args.number = search rules in
    let m = mul_is c.args.coefficient (whole c.args.number) c.requires.product in
    let p : c.in-Some.product ≡ c.args.coefficient *ℚ whole c.args.number = cc in
    let s = add_is c.args.total (c.args.coefficient *ℚ whole c.args.number) c.requires.sum in cc
