use Rattle.std.proofs.Common.{◌-◌, arith, drop, length, subst, sym, take, take_all}
use Rattle.std.specs.Prelude.{List, ℕ}
use Rattle.std.specs.Io.KnownBytes.{Appends}
use Rattle.std.proofs.KnownBytes.{Appends-trans}
use Rattle.std.proofs.Math.Seq.{take-add}
use Rattle.std.proofs.lemmas.List.{length-drop}
use Rattle.file_streams.proofs.retried.write_whole.Goals as goal

-- one piece more
pub pieces-preserved : goal.pieces-preserved
pieces-preserved g c =
    let at = c.pieces.at in
    let n = c.in_ok-count.count in
    let bs : List ℕ = c.args.bytes.now in (
      omega (arith, c.pieces.invariant.0, c.in_ok-count.ensures.bound, length-drop at bs),
      subst (λ (cs : List ℕ). Appends (g.W.Write.contents c.args.to.now) (g.W.Write.contents c.write_some.new.to) cs) (sym (take-add at n bs))
          (Appends-trans _ _ _ (take at bs) (take n (drop at bs)) c.pieces.invariant.1
          (subst (λ (cs : List ℕ). Appends (g.W.Write.contents c.pieces.to) (g.W.Write.contents c.write_some.new.to) (take n cs)) (take_all (length bs - at) (drop at bs) (omega (arith, length-drop at bs))) c.in_ok-count.ensures.bytes)),
    )
