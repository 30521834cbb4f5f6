-- The law on soaks: the summary of each finished run of a generated script is that of its calls taken one after the other.
use Rattle.std.specs.Prelude.{◌≡◌, ◌≢◌, ℕ, ◌≤◌, List, IsSome}
use Rattle.hx_model.specs.Types.{Caller, Entry, Halt, Script}
use Rattle.hx_types.specs.declared.limits.TheConstants.{MOST_CALLS}
use Rattle.hx_types.specs.Fitting.{call_of}
use Rattle.hx_types.specs.Words.{IsIn}
use Rattle.hx_model.specs.Histories.{note_of_end}
use Rattle.hx_model.specs.Runs.{IsRun}
use Rattle.hx_soak.specs.Soaking.{script_drawn, soak}
use Rattle.hx_soak.specs.Summing.{IsSummary, tally_text}
use Rattle.hx_law_soak.specs.Sequence.{tally_in_order}

-- no server is halted
abbrev pub NoHalts : List Entry → Type 0
NoHalts trace = (x : Entry) → IsIn x trace → x.input ≢ Halt

-- each call of the script has ended
abbrev pub AllEnded : Script → List Entry → Type 0
AllEnded script trace = (c : Caller) → IsSome (call_of script c) → IsSome (note_of_end c trace)

-- a run of a generated script in which no server is halted and each call ends
pub record IsSoak (seed calls : ℕ) (trace : List Entry) : Type 0 where
  pub few : calls ≤ MOST_CALLS
  pub run : IsRun (script_drawn seed calls) trace
  pub no_halts : NoHalts trace
  pub ended : AllEnded (script_drawn seed calls) trace

-- its summary is that of the calls taken one after the other, in the order in which they are drawn
abbrev pub SoaksSumUpInOrder : Type 0
SoaksSumUpInOrder =
    (seed calls : ℕ) (trace : List Entry) → IsSoak seed calls trace
    → (bytes : List ℕ) → IsSummary (script_drawn seed calls) trace bytes
    → bytes ≡ tally_text soak (tally_in_order seed calls)
