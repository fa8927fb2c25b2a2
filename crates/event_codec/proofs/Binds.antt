-- Steps that met no fault.
use Rattle.std.proofs.Common.{◌≡◌, Bool, true, false, Result, Ok, Err, refl, subst}
use Rattle.event_codec.specs.declared.fault.CodecFault.{CodecFault}
use Rattle.event_codec.specs.ReadResults.{◌>>=◌, test}

pub bind_ok : {A B : Type 0} (r : Result A CodecFault) (f : A → Result B CodecFault) (y : B) → (r >>= f) ≡ Ok y → (x : A) × (r ≡ Ok x) × (f x ≡ Ok y)
bind_ok (Ok x) f y e = (x, refl, e)
bind_ok (Err d) f y e = absurd cc

-- a test that was passed
pub test_ok : {A : Type 0} (b : Bool) (d : CodecFault) (r : Result A CodecFault) (y : A) → (test b d >>= λ u. r) ≡ Ok y → (b ≡ true) × (r ≡ Ok y)
test_ok true d r y e = (refl, e)
test_ok false d r y e = absurd cc

abbrev done : {A : Type 0} → A → Result A CodecFault
done x = Ok x

pub ok_is : {A : Type 0} (x y : A) → done x ≡ done y → x ≡ y
ok_is x y e = cc

-- what holds of the one holds of the other
pub ok_then : {A : Type 0} (P : A → Type 0) (x y : A) → done x ≡ done y → P x → P y
ok_then P x y e p = subst P (ok_is x y e) p
