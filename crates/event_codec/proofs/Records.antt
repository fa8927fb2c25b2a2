-- The laws of the record of a model.
use Rattle.std.proofs.Common.{◌≡◌, ◌∙◌, ℕ, Bool, true, false, cond, eqb, List, [], ◌∷◌, ◌++◌, Option, Some, None, Result, Ok, Err, refl, sym, ap, subst, arith}
use Rattle.std.specs.Prelude.{ℤ, pos, int_le, IfOk, IfSome}
use Rattle.std.proofs.lemmas.Bool.{eqb-true, eq-eqb}
use Rattle.std.proofs.lemmas.Int.{ints}
use Rattle.fraction.specs.Lemmas.Checked.{num_zero}
use Rattle.event_codec.specs.declared.fault.CodecFault.{CodecFault}
use Rattle.event_codec.specs.declared.fault.CodecFault.TheVariants.{BadTag, BadValue}
use Rattle.event_codec.specs.declared.model.ModelRecord.{ModelRecord}
use Rattle.event_codec.specs.declared.enc.Enc.TheVariants.{One}
use Rattle.event_codec.specs.Places.{Place, beginning}
use Rattle.event_codec.specs.ReadResults.{◌>>=◌, test}
use Rattle.event_codec.specs.Codes.{i64_code, flag_code}
use Rattle.event_codec.specs.Models.{Model, IsUpper, is_upper, upper_code, model_code, known_at, upper_at, model_of, record_of, GivesModel}
use Rattle.event_codec.specs.Reading.{byte_at, flag_at, i64_at}
use Rattle.event_codec.proofs.Binds.{bind_ok, test_ok, ok_then}
use Rattle.event_codec.proofs.Numbers.{IsBytes}
use Rattle.event_codec.proofs.Fields.{Takes, Takes-then, IsField, at_place, byte_field, flag_field, i64_field}
use Rattle.problem.specs.Limits.{largest_bound}
use Rattle.event_codec.specs.Lemmas.Uppers.{upper_fits}

-- the bound that a flag and a number say
abbrev upper_of : Bool → ℤ → Option ℤ
upper_of flag z = cond flag (Some z) None

spelled_upper : (flag : Bool) (z : ℤ) → is_upper flag z ≡ true → (upper_code (upper_of flag z) ≡ flag_code flag ++ i64_code One z) × IfSome (upper_of flag z) IsUpper
spelled_upper true z e = (refl, grind (arith, ints))
spelled_upper false z e = (ap (λ (n : ℤ). 0 ∷ i64_code One n) (sym (num_zero z e)), tt)

known_field : (n : ℕ) → IsField (known_at n) (λ u. n ∷ []) (λ u. Unit {0})
unfolding known_at
known_field n = record {
  takes = λ p q x fits e.
      let a = bind_ok (byte_at p) (λ (tag : ℕ × Place). test (eqb tag.0 n) (BadTag p.at) >>= λ u. Ok (tt, tag.1)) (x, q) e in
      let t = test_ok (eqb a.0.0 n) (BadTag p.at) (Ok (tt, a.0.1)) (x, q) a.2 in
      let byte = byte_field.takes p a.0.1 a.0.0 fits a.1 in
      let taken : Takes p.rest (n ∷ []) a.0.1.rest = subst (λ (m : ℕ). Takes p.rest (m ∷ []) a.0.1.rest) (eqb-true _ _ t.0) byte.0 in
      ok_then (λ (y : Unit {0} × Place). Takes p.rest (n ∷ []) y.1.rest × Unit {0}) (tt, a.0.1) (x, q) t.1 (taken, tt);
  again = λ x place rest is.
      let b = byte_field.again n place rest tt in
      (b.0, rw (b.1, eq-eqb n n refl) refl);
}

upper_takes : (p q : Place) (x : Option ℤ) → IsBytes p.rest → upper_at p ≡ Ok (x, q) → Takes p.rest (upper_code x) q.rest × IfSome x IsUpper
unfolding upper_at
upper_takes p q x fits e =
    let a = bind_ok (flag_at p) (λ (flag : Bool × Place). i64_at One flag.1 >>= λ upper. test (is_upper flag.0 upper.0) (BadValue flag.1.at) >>= λ u. Ok (upper_of flag.0 upper.0, upper.1)) (x, q) e in
    let b = bind_ok (i64_at One a.0.1) (λ (upper : ℤ × Place). test (is_upper a.0.0 upper.0) (BadValue a.0.1.at) >>= λ u. Ok (upper_of a.0.0 upper.0, upper.1)) (x, q) a.2 in
    let t = test_ok (is_upper a.0.0 b.0.0) (BadValue a.0.1.at) (Ok (upper_of a.0.0 b.0.0, b.0.1)) (x, q) b.2 in
    let flag = flag_field.takes p a.0.1 a.0.0 fits a.1 in
    let upper = (i64_field One).takes a.0.1 b.0.1 b.0.0 flag.0.rest_fits b.1 in
    let s = spelled_upper a.0.0 b.0.0 t.0 in
    let both = Takes-then p.rest (flag_code a.0.0) a.0.1.rest (i64_code One b.0.0) b.0.1.rest flag.0 upper.0 in
    let taken : Takes p.rest (upper_code (upper_of a.0.0 b.0.0)) b.0.1.rest = subst (λ (y : List ℕ). Takes p.rest y b.0.1.rest) (sym s.0) both in
    ok_then (λ (y : Option ℤ × Place). Takes p.rest (upper_code y.0) y.1.rest × IfSome y.0 IsUpper) (upper_of a.0.0 b.0.0, b.0.1) (x, q) t.1 (taken, s.1)

upper_again : (x : Option ℤ) (place : ℕ) (rest : List ℕ) → IfSome x IsUpper → (to : ℕ) × (upper_at (at_place place (upper_code x ++ rest)) ≡ Ok (x, at_place to rest))
unfolding upper_at
upper_again None place rest is =
    let flag = flag_field.again false place (i64_code One (pos 0) ++ rest) tt in
    let upper = (i64_field One).again (pos 0) flag.0 rest (record { sfits = omega arith }) in
    (upper.0, rw (flag.1, upper.1) refl)
upper_again (Some z) place rest is =
    let flag = flag_field.again true place (i64_code One z ++ rest) tt in
    let upper = (i64_field One).again z flag.0 rest (upper_fits z is) in
    let low : int_le (pos 0) z ≡ true = grind (arith, ints) in
    let high : int_le z (pos largest_bound) ≡ true = grind (arith, ints) in
    (upper.0, rw (flag.1, upper.1, low, high) refl)

upper_field : IsField upper_at upper_code (λ x. IfSome x IsUpper)
upper_field = record { takes = upper_takes; again = upper_again }

pub model_takes : (bytes : List ℕ) (m : Model) → IsBytes bytes → model_of bytes ≡ Ok m → IfSome m.upper IsUpper × (bytes ≡ model_code m.text m.upper)
unfolding model_of
model_takes bytes m fits e =
    let a = bind_ok (known_at 1 (beginning bytes)) (λ (tag : Unit {0} × Place). known_at 1 tag.1 >>= λ format. upper_at format.1 >>= λ upper. Ok (record { text = upper.1.rest; upper = upper.0 })) m e in
    let b = bind_ok (known_at 1 a.0.1) (λ (format : Unit {0} × Place). upper_at format.1 >>= λ upper. Ok (record { text = upper.1.rest; upper = upper.0 })) m a.2 in
    let c = bind_ok (upper_at b.0.1) (λ (upper : Option ℤ × Place). Ok (record { text = upper.1.rest; upper = upper.0 })) m b.2 in
    let t0 = (known_field 1).takes (beginning bytes) a.0.1 a.0.0 fits a.1 in
    let t1 = (known_field 1).takes a.0.1 b.0.1 b.0.0 t0.0.rest_fits b.1 in
    let t2 = upper_takes b.0.1 c.0.1 c.0.0 t1.0.rest_fits c.1 in
    let made : Model = record { text = c.0.1.rest; upper = c.0.0 } in
    let tags = Takes-then bytes (1 ∷ []) a.0.1.rest (1 ∷ []) b.0.1.rest t0.0 t1.0 in
    let all = Takes-then bytes (1 ∷ 1 ∷ []) b.0.1.rest (upper_code c.0.0) c.0.1.rest tags t2.0 in
    let whole : bytes ≡ model_code c.0.1.rest c.0.0 = all.parts in
    ok_then (λ (y : Model). IfSome y.upper IsUpper × (bytes ≡ model_code y.text y.upper)) made m c.2 (t2.1, whole)

pub model_again : (text : List ℕ) (upper : Option ℤ) → IfSome upper IsUpper → model_of (model_code text upper) ≡ Ok (record { text = text; upper = upper })
unfolding model_of
model_again text upper is =
    let t0 = (known_field 1).again tt 0 (1 ∷ (upper_code upper ++ text)) tt in
    let t1 = (known_field 1).again tt t0.0 (upper_code upper ++ text) tt in
    let t2 = upper_again upper t1.0 text is in
    rw (t0.1, t1.1, t2.1) refl

-- what reading found, or a model where it found a fault
abbrev read_model : Result Model CodecFault → Model
read_model (Ok m) = m
read_model (Err f) = record { text = []; upper = None }

pub records_apart : (text text2 : List ℕ) (upper upper2 : Option ℤ) → IfSome upper IsUpper → IfSome upper2 IsUpper → model_code text upper ≡ model_code text2 upper2 → (text ≡ text2) × (upper ≡ upper2)
records_apart text text2 upper upper2 a b same =
    let read : read_model (model_of (model_code text upper)) ≡ record { text = text; upper = upper } = ap read_model (model_again text upper a) in
    let read2 : read_model (model_of (model_code text2 upper2)) ≡ record { text = text2; upper = upper2 } = ap read_model (model_again text2 upper2 b) in
    let one : record { text = text; upper = upper } ≡ record { text = text2; upper = upper2 } = sym read ∙ ap (λ (l : List ℕ). read_model (model_of l)) same ∙ read2 in
    (ap (λ (m : Model). m.text) one, ap (λ (m : Model). m.upper) one)

pub is_found : (bytes : List ℕ) (r : Result ModelRecord CodecFault) → IsBytes bytes → GivesModel r (model_of bytes) → IfOk r (λ m. IfSome m.upper IsUpper × (bytes ≡ model_code m.text.now m.upper))
is_found bytes (Ok m) fits given = model_takes bytes (record_of m) fits given
is_found bytes (Err f) fits given = tt
