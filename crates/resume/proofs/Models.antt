-- Models of payloads.
use Rattle.std.specs.Prelude.{◌≡◌, ℕ, ℤ, pos, negsuc, nat_abs, ◌+◌, ◌≤◌, ◌<◌, ◌^◌, Bool, true, false, nat_lt, if◌then◌else◌, List, ◌∷◌, length, Option, Some, None, Result, Ok, Err, IfSome, refl}
use Rattle.std.specs.Option.{ForSome}
use Rattle.std.proofs.Common.{arith, ◌∙◌, ap, subst, length-append}
use Rattle.std.proofs.lemmas.Bool.Decides.{nat_tests}
use Rattle.std.proofs.lemmas.Int.{ints, to_z-of_z}
use Rattle.std.specs.Int.{w64, cast_unsigned, cast_signed}
use Rattle.problem.specs.Problem.{Problem}
use Rattle.problem.specs.Limits.{largest_bound}
use Rattle.event_codec.specs.declared.enc.Enc.TheVariants.{One}
use Rattle.event_codec.specs.Codes.{i64_code}
use Rattle.event_codec.specs.Models.{Model, IsUpper, upper_code, model_code}
use Rattle.event_codec.specs.declared.fault.CodecFault.{CodecFault}
use Rattle.mps_reader.specs.Reading.{Reads, IsRefused, reading, text_limit, finish, sections_in}
use Rattle.mps_reader.specs.declared.kinds.Kind.{Kind}
use Rattle.mps_reader.specs.declared.kinds.Kind.TheVariants as kind
use Rattle.resume.specs.Models.{bound_of, IsTextOf, IsModelOf, IsNoModel}
use Rattle.event_codec.specs.Lemmas.Uppers.{upper_fits}

pub for_some : {T : Type 0} (o : Option T) (P : T → Type 0) → IfSome o P → ForSome o P
for_some None P h x e = cc
for_some (Some y) P h x e = let same : y ≡ x = cc in subst P same h

pub if_some : {T : Type 0} (o : Option T) (P : T → Type 0) → ForSome o P → IfSome o P
if_some None P h = tt
if_some (Some y) P h = h y refl

-- a payload that can't be read is the record of no model
pub unread : (payload : List ℕ) (f : CodecFault) → ((text : List ℕ) (upper : Option ℤ) → IfSome upper IsUpper → payload ≡ model_code text upper → ◌≡◌ {A = Result Model CodecFault} (Ok (record { text = text; upper = upper })) (Err f))
    → IsNoModel payload
unread payload f only p m = let h : ◌≡◌ {A = Result Model CodecFault} (Ok (record { text = m.text; upper = m.upper })) (Err f) = only m.text m.upper (if_some m.upper IsUpper m.is.bounded) m.written in cc

-- nor is one whose text is refused
pub refused : (payload text : List ℕ) (upper : Option ℤ) (line : ℕ) (k : Kind)
    → ((t : List ℕ) (u : Option ℤ) → IfSome u IsUpper → payload ≡ model_code t u → ◌≡◌ {A = Result Model CodecFault} (Ok (record { text = t; upper = u })) (Ok (record { text = text; upper = upper })))
    → IsRefused text (bound_of upper) line k → IsNoModel payload
refused payload text upper line k only never p m =
    let h : ◌≡◌ {A = Result Model CodecFault} (Ok (record { text = m.text; upper = m.upper })) (Ok (record { text = text; upper = upper })) = only m.text m.upper (if_some m.upper IsUpper m.is.bounded) m.written in
    let a : m.text ≡ text = texts h in
    let b : m.upper ≡ upper = uppers h in
    let r : reading text (bound_of upper) ≡ Ok p = subst (λ (u : Option ℤ). reading text (bound_of u) ≡ Ok p) b (subst (λ (t : List ℕ). reading t (bound_of m.upper) ≡ Ok p) a m.is.reads) in
    cc
  where
    model : Result Model CodecFault → Model
    model (Ok x) = x
    model (Err f) = record { text = text; upper = upper }

    texts : {x y : Model} → ◌≡◌ {A = Result Model CodecFault} (Ok x) (Ok y) → x.text ≡ y.text
    texts h = ap (λ (r : Result Model CodecFault). (model r).text) h

    uppers : {x y : Model} → ◌≡◌ {A = Result Model CodecFault} (Ok x) (Ok y) → x.upper ≡ y.upper
    uppers h = ap (λ (r : Result Model CodecFault). (model r).upper) h

-- a text that is read is of a model
pub is_model : (payload text : List ℕ) (upper : Option ℤ) (bound : Option ℕ) (p : Problem) → payload ≡ model_code text upper → IfSome upper IsUpper → bound ≡ bound_of upper → Reads text bound p → IsModelOf payload p
is_model payload text upper bound p written bounded same reads = record {
  text = text;
  upper = upper;
  written = written;
  is = record { bounded = for_some upper IsUpper bounded; reads = subst (λ (b : Option ℕ). Reads text b p) same reads };
}

-- the record of a model is one
pub own_model : (payload text : List ℕ) (upper : Option ℤ) (p : Problem) → payload ≡ model_code text upper → IsTextOf text upper p → IsModelOf payload p
own_model payload text upper p written is = record { text = text; upper = upper; written = written; is = is }

pub length-i64_code : (z : ℤ) → length (i64_code One z) ≡ 8
unfolding i64_code
length-i64_code z = refl

length-upper_code : (u : Option ℤ) → length (upper_code u) ≡ 9
length-upper_code None = omega (arith, length-i64_code)
length-upper_code (Some z) = omega (arith, length-i64_code z)

pub length-model_code : (text : List ℕ) (u : Option ℤ) → length (model_code text u) ≡ 11 + length text
length-model_code text u = omega (arith, length-append (1 ∷ 1 ∷ upper_code u) text, length-upper_code u)

-- a test that passes
first_case : {E T : Type 0} (b : Bool) (e : E) (rest : Result T E) (x : T) → (if b then Err e else rest) ≡ Ok x → b ≡ false
first_case true e rest x h = cc
first_case false e rest x h = refl

-- a text that is read is short
pub short_text : (text : List ℕ) (upper : Option ℕ) (p : Problem) → Reads text upper p → length text ≤ text_limit
unfolding reading
short_text text upper p h =
    let far : nat_lt text_limit (length text) ≡ false = first_case (nat_lt text_limit (length text)) (0, kind.TooMany) (finish upper (sections_in text)) p h in
    not_less text_limit (length text) far
  where
    not_less : (a b : ℕ) → nat_lt a b ≡ false → b ≤ a
    not_less a b e = grind (arith, nat_tests)

pub small_model : (text : List ℕ) (upper : Option ℤ) (p : Problem) → IsTextOf text upper p → length (model_code text upper) < 2 ^ 32
small_model text upper p is = let s : length text ≤ text_limit = short_text text (bound_of upper) p is.reads in omega (arith, length-model_code text upper, s)

-- an upper bound fits the reader's type, and its own
pub small_size : (z : ℤ) → IsUpper z → nat_abs z ≤ largest_bound
small_size (pos n) h = omega (arith, ints)
small_size (negsuc n) h = absurd (omega (arith, ints))

pub read_size : (z : ℤ) (n : ℕ) → IsUpper z → n ≡ nat_abs (cast_signed w64 (cast_unsigned w64 z)) → n ≤ largest_bound
read_size z n h e = let same : cast_signed w64 (cast_unsigned w64 z) ≡ z = to_z-of_z w64 z (upper_fits z h) in let le = small_size z h in omega (arith, e ∙ ap (λ (y : ℤ). nat_abs y) same, le)
