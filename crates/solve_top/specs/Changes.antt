-- What a call did to a source, a sink and a disk. What it says of bytes holds where the object tells them.
use Rattle.std.specs.Prelude.{◌≡◌, ◌⊎◌, ℕ, Bool, true, List, [], ◌∷◌, ◌++◌}
use Rattle.outside.specs.Faults.{Rose}
use Rattle.outside.specs.Images.{NoMomentPasses}
use Rattle.outside.specs.declared.moment.Moment.{Moment}
use Rattle.outside.specs.Stream.{AppendsPrefix}

-- how often an object had failed before the call, and after it
pub record FaultCount : Type 0 where
  pub before : ℕ
  pub after : ℕ

-- a call of it failed: the count is greater, or stands at its last value
abbrev pub Rises : FaultCount → Type 0
Rises faults = Rose faults.before faults.after

-- no call of it failed: the count is the same
abbrev pub Stays : FaultCount → Type 0
Stays faults = faults.after ≡ faults.before

-- a source: whether it tells its text, the text that it had left before the call, and its faults
pub record SourceChange : Type 0 where
  pub tells : Bool
  pub text : List ℕ
  pub faults : FaultCount

-- a sink: whether it tells what it took, all that it had taken before and after the call, what a crash leaves of that after it, and its faults
pub record SinkChange : Type 0 where
  pub tells : Bool
  pub bytes_before : List ℕ
  pub bytes_after : List ℕ
  pub kept_after : List ℕ
  pub faults : FaultCount

-- a disk: whether it tells what a crash leaves, the moments that went by before the call and the moment then, the same after the call, and its faults
pub record DiskChange : Type 0 where
  pub tells : Bool
  pub past_before : List Moment
  pub now_before : Moment
  pub past_after : List Moment
  pub now_after : Moment
  pub faults : FaultCount

-- the change of a source, by what its kind says of it
abbrev pub source_change : {A : Type 0} → Bool → (A → List ℕ) → (A → ℕ) → A → A → SourceChange
source_change tells left faults old new = record { tells = tells; text = left old; faults = record { before = faults old; after = faults new } }

-- the change of a sink, by what its kind says of it
abbrev pub sink_change : {A : Type 0} → Bool → (A → List ℕ) → (A → List ℕ) → (A → ℕ) → A → A → SinkChange
sink_change tells taken kept faults old new = record {
  tells = tells;
  bytes_before = taken old;
  bytes_after = taken new;
  kept_after = kept new;
  faults = record { before = faults old; after = faults new };
}

-- the change of a disk, by what its kind says of it
abbrev pub disk_change : {A : Type 0} → Bool → (A → List Moment) → (A → Moment) → (A → ℕ) → A → A → DiskChange
disk_change tells past now count old new = record {
  tells = tells;
  past_before = past old;
  now_before = now old;
  past_after = past new;
  now_after = now new;
  faults = record { before = count old; after = count new };
}

-- all moments up to the one before the call
abbrev pub moments_before : DiskChange → List Moment
moments_before d = d.past_before ++ d.now_before ∷ []

-- all moments up to the one after the call
abbrev pub moments_after : DiskChange → List Moment
moments_after d = d.past_after ++ d.now_after ∷ []

-- no call changed the disk
abbrev pub IsUntouched : DiskChange → Type 0
IsUntouched d = NoMomentPasses d.past_before d.now_before d.past_after d.now_after

-- it took all of the text
abbrev pub Takes : SinkChange → List ℕ → Type 0
Takes sink text = sink.tells ≡ true → sink.bytes_after ≡ sink.bytes_before ++ text

-- it took a prefix of the text
abbrev pub TakesPrefix : SinkChange → List ℕ → Type 0
TakesPrefix sink text = sink.tells ≡ true → AppendsPrefix sink.bytes_before sink.bytes_after text

-- it took no byte
abbrev pub TakesNothing : SinkChange → Type 0
TakesNothing sink = sink.tells ≡ true → sink.bytes_after ≡ sink.bytes_before

-- a crash leaves all that it has taken
abbrev pub KeepsAll : SinkChange → Type 0
KeepsAll sink = sink.tells ≡ true → sink.kept_after ≡ sink.bytes_after

-- it took all of the text and did not fail, or it took a prefix and failed
abbrev pub IsTold : SinkChange → List ℕ → Type 0
IsTold sink text = (Takes sink text × Stays sink.faults) ⊎ (TakesPrefix sink text × Rises sink.faults)
