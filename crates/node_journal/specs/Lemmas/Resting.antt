-- A disk at rest.
use Rattle.std.proofs.Common.{◌≡◌, ℕ, List, refl, sym, subst, arith}
use Rattle.std.proofs.lemmas.List.{ext_get_or}
use Rattle.outside.specs.Images.{IsImage, AtRest, resting}
use Rattle.outside.specs.declared.moment.Moment.{Moment}

-- a crash of a disk at rest leaves its bytes
pub rested : (file c : List ℕ) → IsImage (resting file) c → c ≡ file
rested file c is = ext_get_or 0 c file (omega (arith, is.no_shorter, is.no_longer)) (λ i lt. is.elsewhere i (omega (arith, lt, is.no_longer)) refl)

-- a disk that was synced is at rest
pub at_rest : (file : List ℕ) (now : Moment) → now ≡ resting file → AtRest now
at_rest file now e = subst AtRest (sym e) (λ c is. rested file c is)
