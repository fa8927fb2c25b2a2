-- The numbers with which the program ends, and the lines of refusals.
use Rattle.std.specs.Prelude.{ℕ, List, ◌++◌, codes}
use Rattle.std.specs.Fmt.{decimal}
use Rattle.mps_reader.specs.declared.kinds.Kind.{Kind}
use Rattle.mps_reader.specs.declared.kinds.Kind.TheVariants as kind
use Rattle.resume.specs.declared.fault.ResumeFault.{ResumeFault}
use Rattle.resume.specs.declared.fault.ResumeFault.TheVariants as fault
use Rattle.solve_top.specs.Output.{number_line}
use Rattle.solve_top.specs.declared.outcome.Refusal.{Refusal}
use Rattle.solve_top.specs.declared.outcome.Refusal.TheVariants as refusal
use Rattle.solve_top.specs.declared.status.Status.{Status}
use Rattle.solve_top.specs.declared.status.Status.TheVariants as status

-- the exit number of a status
abbrev pub exit_number : Status → ℕ
exit_number status.Done = 0
exit_number status.Usage = 2
exit_number status.Model = 3
exit_number status.Journal = 4
exit_number status.ReadFault = 5
exit_number status.Disk = 6
exit_number status.Sink = 7
exit_number status.Spent = 8
exit_number status.Memory = 9

-- the names of the kinds of faults
abbrev pub kind_name : Kind → List ℕ
kind_name kind.BadSection = codes "BadSection"
kind_name kind.BadFields = codes "BadFields"
kind_name kind.ManySets = codes "ManySets"
kind_name kind.UnknownRow = codes "UnknownRow"
kind_name kind.UnknownColumn = codes "UnknownColumn"
kind_name kind.Duplicate = codes "Duplicate"
kind_name kind.TooMany = codes "TooMany"
kind_name kind.BadNumber = codes "BadNumber"
kind_name kind.Infinite = codes "Infinite"
kind_name kind.TooLarge = codes "TooLarge"
kind_name kind.TooFine = codes "TooFine"
kind_name kind.NoEnd = codes "NoEnd"
kind_name kind.NoObjective = codes "NoObjective"
kind_name kind.Continuous = codes "Continuous"
kind_name kind.NegativeUpper = codes "NegativeUpper"
kind_name kind.NoBound = codes "NoBound"

-- the line of a text that is refused, with the number of its first line at fault and the kind of the fault
abbrev pub refused_line : ℕ → Kind → List ℕ
refused_line line k = codes "refused model " ++ decimal line ++ codes " " ++ kind_name k ++ codes "\n"

-- the line of a journal that is refused; of the disk's fault and of want of memory, which say nothing of its content, that of the run
abbrev pub journal_line : ResumeFault → List ℕ
journal_line fault.NotAJournal = codes "refused journal NotAJournal\n"
journal_line (fault.Damaged at) = number_line (codes "refused journal Damaged ") at
journal_line (fault.OtherModel at) = number_line (codes "refused journal OtherModel ") at
journal_line fault.NoModel = codes "refused journal NoModel\n"
journal_line fault.Disk = codes "fault disk\n"
journal_line fault.Memory = codes "no memory\n"

-- why there is no answer, by why a journal was not opened
abbrev pub refusal_of : ResumeFault → Refusal
refusal_of fault.NotAJournal = refusal.Journal fault.NotAJournal
refusal_of (fault.Damaged at) = refusal.Journal (fault.Damaged at)
refusal_of (fault.OtherModel at) = refusal.Journal (fault.OtherModel at)
refusal_of fault.NoModel = refusal.Journal fault.NoModel
refusal_of fault.Disk = refusal.Disk
refusal_of fault.Memory = refusal.Memory

-- how a refusal ends the run
abbrev pub status_of : Refusal → Status
status_of refusal.Usage = status.Usage
status_of (refusal.Model line k) = status.Model
status_of (refusal.Journal f) = status.Journal
status_of refusal.Read = status.ReadFault
status_of refusal.Disk = status.Disk
status_of refusal.Sink = status.Sink
status_of refusal.Memory = status.Memory

-- the line that tells of it
abbrev pub refusal_line : Refusal → List ℕ
refusal_line refusal.Usage = codes "refused usage\n"
refusal_line (refusal.Model line k) = refused_line line k
refusal_line (refusal.Journal f) = journal_line f
refusal_line refusal.Read = codes "fault read\n"
refusal_line refusal.Disk = codes "fault disk\n"
refusal_line refusal.Sink = codes "fault sink\n"
refusal_line refusal.Memory = codes "no memory\n"
