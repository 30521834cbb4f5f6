-- What each outcome tells the user.
use Rattle.std.specs.Prelude.{ℕ, List, [], ◌++◌, codes}
use Rattle.std.specs.Fmt.{decimal}
use Rattle.hx_script.specs.declared.errors.Reason.{Reason}
use Rattle.hx_script.specs.declared.errors.Reason.TheVariants as a_reason
use Rattle.hx_print.specs.Printing.{actor_text}
use Rattle.hx_model.specs.Types.{Actor}
use Rattle.hx_replay.specs.declared.outcomes.Outcome.{Outcome}
use Rattle.hx_audit.specs.declared.verdicts.Clause.{Clause}
use Rattle.hx_audit.specs.Verdicts.{clause_word}
use Rattle.hx_replay.specs.declared.outcomes.Outcome.TheVariants.{Fine, Usage, Refused, TooLarge, ReadFault, WriteFault, Memory, Worn, Wrong}

-- the status with which the process ends
abbrev pub status_of : Outcome → ℕ
status_of Fine = 0
status_of Usage = 2
status_of (Refused line reason) = 3
status_of TooLarge = 3
status_of ReadFault = 4
status_of WriteFault = 5
status_of Memory = 6
status_of (Worn a) = 7
status_of (Wrong line clause) = 1

-- the word of a reason
abbrev pub reason_word : Reason → List ℕ
reason_word a_reason.Token = codes "token"
reason_word a_reason.Order = codes "order"
reason_word a_reason.Unknown = codes "unknown"
reason_word a_reason.Twice = codes "twice"
reason_word a_reason.TypeOf = codes "type"
reason_word a_reason.Bounds = codes "bounds"
reason_word a_reason.Limit = codes "limit"
reason_word a_reason.Step = codes "step"

-- `line N: R`
unfoldable pub refusal_line : ℕ → Reason → List ℕ
refusal_line line reason = codes "line " ++ decimal line ++ codes ": " ++ reason_word reason ++ codes "\n"

-- `worn A`
unfoldable pub worn_line : Actor → List ℕ
worn_line a = codes "worn " ++ actor_text a ++ codes "\n"

-- `line N: C`
unfoldable pub wrong_line : ℕ → Clause → List ℕ
wrong_line line clause = codes "line " ++ decimal line ++ codes ": " ++ clause_word clause ++ codes "\n"

-- the line on standard error
abbrev pub fault_line : Outcome → List ℕ
fault_line Fine = []
fault_line Usage = codes "usage: hx replay or run or soak or plan or share or audit\n"
fault_line (Refused line reason) = refusal_line line reason
fault_line TooLarge = codes "too large\n"
fault_line ReadFault = codes "read fault\n"
fault_line WriteFault = codes "write fault\n"
fault_line Memory = codes "no memory\n"
fault_line (Worn a) = worn_line a
fault_line (Wrong line clause) = wrong_line line clause

-- with this outcome nothing is written
abbrev pub IsSilent : Outcome → Type 0
IsSilent Fine = ⊥
IsSilent Usage = Unit {0}
IsSilent (Refused line reason) = Unit {0}
IsSilent TooLarge = Unit {0}
IsSilent ReadFault = Unit {0}
IsSilent WriteFault = ⊥
IsSilent Memory = Unit {0}
IsSilent (Worn a) = Unit {0}
IsSilent (Wrong line clause) = Unit {0}

-- a reason for which a text is refused, and not a step
abbrev pub IsOfText : Reason → Type 0
IsOfText a_reason.Token = Unit {0}
IsOfText a_reason.Order = Unit {0}
IsOfText a_reason.Unknown = Unit {0}
IsOfText a_reason.Twice = Unit {0}
IsOfText a_reason.TypeOf = Unit {0}
IsOfText a_reason.Bounds = Unit {0}
IsOfText a_reason.Limit = Unit {0}
IsOfText a_reason.Step = ⊥

-- with this outcome there is no trace
abbrev pub HasNoTraces : Outcome → Type 0
HasNoTraces Fine = ⊥
HasNoTraces Usage = Unit {0}
HasNoTraces (Refused line reason) = IsOfText reason
HasNoTraces TooLarge = Unit {0}
HasNoTraces ReadFault = Unit {0}
HasNoTraces WriteFault = ⊥
HasNoTraces Memory = Unit {0}
HasNoTraces (Worn a) = ⊥
HasNoTraces (Wrong line clause) = Unit {0}
