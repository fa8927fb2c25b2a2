-- Reading by steps: each may meet a fault, and the first fault is the answer.
use Rattle.std.specs.Prelude.{◌≡◌, Bool, List, Result, Ok, Err, if◌then◌else◌}
use Rattle.std.specs.Global.{Vec}
use Rattle.event_codec.specs.declared.fault.CodecFault.{CodecFault}
use Rattle.event_codec.specs.declared.fault.CodecError.{CodecError}
use Rattle.event_codec.specs.declared.fault.CodecError.TheVariants.{Memory, Fault}
use Rattle.event_codec.specs.Places.{Place}

-- a value with the place behind it, or the first fault
abbrev pub Read : Type 0 → Type 0
Read A = Result (A × Place) CodecFault

-- what comes of the first step, or the second step with its value
infixl 10 ◌>>=◌
abbrev pub ◌>>=◌ : {A B : Type 0} → Result A CodecFault → (A → Result B CodecFault) → Result B CodecFault
(Ok x) >>= f = f x
(Err e) >>= f = Err e

-- a test, and the fault where it fails
abbrev pub test : Bool → CodecFault → Result (Unit {0}) CodecFault
test b fault = if b then Ok tt else Err fault

-- What a function returned, and the place where it left the reader, is what reading gives.
abbrev pub Reads : {A : Type 0} → Result A CodecFault → Place → Read A → Type 0
Reads (Ok x) now read = read ≡ Ok (x, now)
Reads (Err f) now read = read ≡ Err f

-- the same, unless memory ran out
abbrev pub Fails : {A : Type 0} → CodecError → Result A CodecFault → Type 0
Fails Memory read = Unit {0}
Fails (Fault f) read = read ≡ Err f

-- what is read, or why nothing is; free where memory ran out
abbrev pub ReadsUnlessMemory : {A : Type 0} → Result A CodecError → Place → Read A → Type 0
ReadsUnlessMemory (Ok x) now read = read ≡ Ok (x, now)
ReadsUnlessMemory (Err e) now read = Fails e read

-- the same of a list
abbrev pub ReadsList : {A : Type 0} → Result (Vec A) CodecError → Place → Read (List A) → Type 0
ReadsList (Ok v) now read = read ≡ Ok (v.items, now)
ReadsList (Err e) now read = Fails e read

-- What a function returned is what reading gives, unless memory ran out.
abbrev pub Gives : {A : Type 0} → Result A CodecError → Result A CodecFault → Type 0
Gives (Ok x) read = read ≡ Ok x
Gives (Err e) read = Fails e read

-- the same of a list
abbrev pub GivesList : {A : Type 0} → Result (Vec A) CodecError → Result (List A) CodecFault → Type 0
GivesList (Ok v) read = read ≡ Ok v.items
GivesList (Err e) read = Fails e read
