use Rattle.std.proofs.Common.{◌≡◌, ◌++◌, ◌∙◌, ap, sym, subst, List, ℕ, length, take, get_or}
use Rattle.std.specs.List.{flat_map}
use Rattle.std.proofs.lemmas.List.Elements.{All-more}
use Rattle.std.proofs.lemmas.Option.{slice_get_within, get_or_from_slice_get}
use Rattle.fraction.specs.Fits.{FitsFraction}
use Rattle.event_codec.specs.Codes.{u32_code, fraction_code}
use Rattle.event_codec.proofs.Elements.{one_more_at, grown}
use Rattle.event_codec.proofs.put.put_rational_point.Goals as goal

pub loop-column-preserved : goal.loop-column-preserved
loop-column-preserved c =
    let i = c.loop-column.column in
    let xs = c.args.point.now in
    let x = c.get.result in
    let within = slice_get_within xs i x c.get.ensures in
    let here : x ≡ get_or xs i x = sym (get_or_from_slice_get xs i x x c.get.ensures) in
    record {
      spelled = grown c.loop-column.out.items c.args.out.now.items (u32_code c.args.enc (length xs)) (flat_map (fraction_code c.args.enc) (take i xs)) (fraction_code c.args.enc x) c.put_fraction.new.out.items c.in_ok-put_fraction.ensures.spelled c.loop-column.invariant.spelled
          ∙ ap (λ (y : List ℕ). c.args.out.now.items ++ (u32_code c.args.enc (length xs) ++ y)) (sym (one_more_at (fraction_code c.args.enc) xs i x x within here));
      typed = All-more FitsFraction xs i x within c.loop-column.invariant.typed (subst FitsFraction here c.in_ok-put_fraction.ensures.typed);
    }
