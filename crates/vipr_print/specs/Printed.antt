-- What a call that prints a text did to the sink.
use Rattle.std.specs.Prelude.{◌≡◌, ℕ, Bool, true, false, List, ◌++◌, Result, Ok, Err}
use Rattle.outside.specs.Faults.{Counts}
use Rattle.vipr_print.specs.declared.fault.PrintFault.{PrintFault}
use Rattle.vipr_print.specs.declared.fault.PrintFault.TheVariants as fault

-- a prefix of the text went in
pub record TakesPrefix (before after text : List ℕ) : Type 0 where
  pub prefix : List ℕ
  pub rest : List ℕ
  pub parts : text ≡ prefix ++ rest
  pub taken : after ≡ before ++ prefix

-- all of the text, or after an error a prefix of it
abbrev pub TakesText : List ℕ → List ℕ → List ℕ → Result (Unit {0}) PrintFault → Type 0
TakesText before after text (Ok u) = after ≡ before ++ text
TakesText before after text (Err e) = TakesPrefix before after text

-- the sink failed
abbrev pub is_sink_fault : Result (Unit {0}) PrintFault → Bool
is_sink_fault (Ok u) = false
is_sink_fault (Err fault.Sink) = true
is_sink_fault (Err fault.Memory) = false

-- what the sink took, if it tells, and what it counted
pub record IsPrinted (tells : Bool) (before after : List ℕ) (counted counts : ℕ) (text : List ℕ) (result : Result (Unit {0}) PrintFault) : Type 0 where
  pub bytes : tells ≡ true → TakesText before after text result
  pub cause : Counts counted counts (is_sink_fault result)
