-- The number of an option, by what `u32` reads of its text.
use Rattle.std.proofs.Common.{◌≡◌, ◌∙◌, ap, ℕ, ◌<◌, ◌≤◌, ◌^◌, Bool, true, false, cond, List, Option, Some, None, refl, sym, subst, arith}
use Rattle.std.specs.Prelude.{Result, Ok, Err}
use Rattle.std.specs.Str.Parse.{ExplainsUnsignedError, HasUnsignedDigitsIfOk, ParsesUnsigned, digits_value, without_leading_plus}
use Rattle.std.specs.declared.num.ParseIntError.{ParseIntError}
use Rattle.clap.specs.Words.{IsUnsignedIn, Text}
use Rattle.clap.specs.Matches.{TriesOne}
use Rattle.clap.specs.ValueTests.{is_unsigned_in}
use Rattle.clap.specs.declared.builder.value_parser.ValueParser.TheVariants as vp
use Rattle.clap.proofs.ValueTestLemmas.{Accepts-accepts, accepts-Accepts}
use Rattle.command_words.specs.Commands.{number_in}

number_taken : (low high n : ℕ) (t : Text) → IsUnsignedIn low high t → n ≡ digits_value 10 (without_leading_plus t)
    → number_in low high (Some t) ≡ Some (Some n)
number_taken low high n t h is =
    ap (λ (b : Bool). cond b (Some (Some (digits_value 10 (without_leading_plus t)))) None) (Accepts-accepts false (vp.Unsigned low high) t h)
    ∙ ap (λ (m : ℕ). Some (Some m)) (sym is)

number_refused : (low high : ℕ) (t : Text) → (IsUnsignedIn low high t → ⊥) → number_in low high (Some t) ≡ None
number_refused low high t out = go (is_unsigned_in low high t) refl
  where
    go : (b : Bool) → is_unsigned_in low high t ≡ b → number_in low high (Some t) ≡ None
    go true e = absurd (out (accepts-Accepts false (vp.Unsigned low high) t e))
    go false e = ap (λ (b : Bool). cond b (Some (Some (digits_value 10 (without_leading_plus t)))) None) e

-- what the reading of an option says of its number
abbrev pub Tried : {E : Type 0} → ℕ → ℕ → Option Text → Result (Option ℕ) E → Type 0
Tried low high o (Ok None) = number_in low high o ≡ Some None
Tried low high o (Ok (Some n)) = (low ≤ n → n ≤ high → number_in low high o ≡ Some (Some n)) × ((low ≤ n → n ≤ high → ⊥) → number_in low high o ≡ None)
Tried low high o (Err e) = number_in low high o ≡ None

-- how `u32` reads a text
abbrev Reads : List ℕ → Result ℕ ParseIntError → Type 0
Reads text r = ParsesUnsigned 32 10 text r × ExplainsUnsignedError 10 text r × HasUnsignedDigitsIfOk text r

pub tried : (low high : ℕ) (o : Option Text) (r : Result (Option ℕ) ParseIntError) → high < 2 ^ 32
    → (o ≡ None → r ≡ Ok None) → ((t : List ℕ) → o ≡ Some t → TriesOne Reads t r)
    → Tried low high o r
tried low high None r fits none value = subst (λ (x : Result (Option ℕ) ParseIntError). Tried low high None x) (sym (none refl)) refl
tried low high (Some t) (Ok None) fits none value = absurd (value t refl)
tried low high (Some t) (Ok (Some n)) fits none value =
    let read = (value t refl).0 in (
      λ lo hi. number_taken low high n t (read.0.0, omega (arith, read.0.1), omega (arith, read.1, lo), omega (arith, read.1, hi)) read.1,
      λ out. number_refused low high t (λ h. out (omega (arith, read.1, h.2)) (omega (arith, read.1, h.3))),
    )
tried low high (Some t) (Err e) fits none value =
    number_refused low high t (λ h. (value t refl).0 (h.0, omega (arith, h.3)))
