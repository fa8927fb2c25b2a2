-- Lemmas: the moments that calls lead through.
use Rattle.std.specs.Prelude.{◌≡◌, List, [], ◌∷◌, ◌++◌, length, refl}
use Rattle.std.proofs.Common.{ap, arith}
use Rattle.outside.specs.declared.moment.Moment.{Moment}
use Rattle.outside.specs.declared.mem_disk.Call.{Call}
use Rattle.outside.specs.Replay.{moment_after_call, replay, moments}

pub replay_push : (m : Moment) (cs : List Call) (c : Call) → replay m (cs ++ c ∷ []) ≡ moment_after_call (replay m cs) c
replay_push m [] c = refl
replay_push m (d ∷ cs) c = replay_push (moment_after_call m d) cs c

pub moments_push : (m : Moment) (cs : List Call) (c : Call) → moments m (cs ++ c ∷ []) ≡ moments m cs ++ replay m cs ∷ []
moments_push m [] c = refl
moments_push m (d ∷ cs) c = ap (λ (l : List Moment). m ∷ l) (moments_push (moment_after_call m d) cs c)

pub length-moments : (m : Moment) (cs : List Call) → length cs ≡ length (moments m cs)
length-moments m [] = refl
length-moments m (d ∷ cs) = omega (arith, length-moments (moment_after_call m d) cs)
