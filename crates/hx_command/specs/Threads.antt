-- What the program makes of a script on threads, and how a call with the words of `run`, of `soak` or of `share` ends.
use Rattle.std.specs.Prelude.{◌≡◌, ◌⊎◌, ◌+◌, ◌*◌, ◌/◌, ◌<◌, ◌≤◌, ℕ, false, List, [], ◌∷◌, ◌++◌, reverse, drop, length}
use Rattle.std.specs.Prelude.{map, min, slice_get, Option, None, Some, Ok, Err, Result, IfSome, ⊤}
use Rattle.std.specs.List.{AllZip, flat_map}
use Rattle.std.specs.declared.string.String.{String}
use Rattle.std.specs.declared.alloc.Global.{Global}
use Rattle.std.specs.Io.KnownBytes.{Appends}
use Rattle.hx_io.specs.Causes.{Rose}
use Rattle.hx_io.specs.Pieces.{AppendsPrefix, ConsumesExactly}
use Rattle.hx_bundle.specs.declared.bundles.Bundle.{Bundle}
use Rattle.hx_types.specs.declared.ids.Actor.{Actor}
use Rattle.hx_types.specs.declared.limits.TheConstants.{MOST_DRIVERS}
use Rattle.hx_types.specs.declared.totals.Totals.{Totals}
use Rattle.hx_types.specs.declared.traces.Entry.{Entry}
use Rattle.hx_types.specs.declared.traces.Script.{Script}
use Rattle.hx_script.specs.declared.errors.Reason.{Reason}
use Rattle.hx_script.specs.declared.errors.ScriptError.TheVariants as a_script_error
use Rattle.hx_script.specs.Texts.{script_of}
use Rattle.hx_report.specs.BundleReporting.{IsBundleReport}
use Rattle.hx_report.specs.Reporting.{IsReport}
use Rattle.hx_clock.specs.Seats.{Seated}
use Rattle.hx_mail.specs.Boxes.{Ported}
use Rattle.hx_fate.specs.declared.fates.FateState.{FateState}
use Rattle.hx_fate.specs.declared.fates.Tuning.{Tuning}
use Rattle.hx_fate.specs.States.{tuned}
use Rattle.hx_run.specs.Ran.{HasRisen, IsRan}
use Rattle.hx_share.specs.Sharing.{IsShared}
use Rattle.hx_soak.specs.Soaking.{script_drawn, soak}
use Rattle.hx_law_soak.specs.Sequence.{tally_in_order}
use Rattle.hx_soak.specs.Summing.{tally_text, IsSummary}
use Rattle.hx_words.specs.Saying.{SaysRun, SaysShare, SaysSoak}
use Rattle.hx_words.specs.declared.commands.Run.{Run}
use Rattle.hx_words.specs.declared.commands.Share.{Share}
use Rattle.hx_words.specs.declared.commands.Soak.{Soak}
use Rattle.hx_replay.specs.declared.outcomes.Outcome.{Outcome}
use Rattle.hx_replay.specs.declared.outcomes.Outcome.TheVariants as an_outcome
use Rattle.hx_replay.specs.declared.texts.Scripted.{Scripted}
use Rattle.hx_replay.specs.declared.texts.Scripted.TheVariants.{One, Several}
use Rattle.hx_replay.specs.Causes.{ReadsText, limit}
use Rattle.hx_replay.specs.Runs.{IsLawful}
use Rattle.hx_replay.specs.Streams.{Stream}
use Rattle.hx_replay.specs.Texts.{IsRefused, scripted_of}

-- how the words of `run` tune a fate
abbrev pub tuning_of : Run → Tuning
tuning_of run = record { lose_every = run.lose; repeat_every = run.repeat }

-- there are as many fates as the words may start drivers: under `run` the script says how many spaces there are
pub record HasEnough (words : List (String Global)) (fates : ℕ) : Type 0 where
  pub run : (run : Run) → SaysRun words run → MOST_DRIVERS ≤ fates
  pub soak : (soak : Soak) → SaysSoak words soak → soak.workers ≤ fates

-- ---- what is handed back

-- of one space that threads ran; of the fates, how many
pub record SpaceRun : Type 0 where
  pub trace : List Entry
  pub seat : Seated
  pub totals : List Totals
  pub ports : List Ported
  pub fates : ℕ

-- what a call hands back beside its outcome, space after space; of the fates, how many
pub record Handed : Type 0 where
  pub traces : List (List Entry)
  pub seats : List Seated
  pub totals : List Totals
  pub ports : List Ported
  pub fates : ℕ

abbrev pub nothing : Handed
nothing = record { traces = []; seats = []; totals = []; ports = []; fates = 0 }

-- one space was run
abbrev pub handed_by : SpaceRun → Handed
handed_by r = record { traces = r.trace ∷ []; seats = r.seat ∷ []; totals = r.totals; ports = r.ports; fates = r.fates }

abbrev pub fates_of : List SpaceRun → ℕ
fates_of [] = 0
fates_of (r ∷ rest) = r.fates + fates_of rest

-- an empty trace for each of these spaces
abbrev pub no_entries : List Script → List (List Entry)
no_entries scripts = map (λ (s : Script). []) scripts

-- the first of these spaces were run, and the others not
abbrev pub handed_from : List Script → List SpaceRun → Handed
handed_from scripts runs =
    record {
      traces = map (λ (r : SpaceRun). r.trace) runs ++ no_entries (drop (length runs) scripts);
      seats = map (λ (r : SpaceRun). r.seat) runs;
      totals = flat_map (λ (r : SpaceRun). r.totals) runs;
      ports = flat_map (λ (r : SpaceRun). r.ports) runs;
      fates = fates_of runs;
    }

-- ---- how fates rose
-- the fates of the drivers of one space, in order: each was tuned so, and its counts rose by what it was asked and by what it answered
abbrev pub HaveRisen : {F : Type 0} → (F → FateState) → Tuning → Script → ℕ → List F → List F → Handed → Type 0
HaveRisen {F} state tuning script workers before after h =
    (trace : List Entry) → slice_get h.traces 0 ≡ Some trace → (i : ℕ) (f g : F) (t : Totals)
    → slice_get before i ≡ Some f → slice_get after i ≡ Some g → slice_get h.totals i ≡ Some t
    → HasRisen script workers trace i t (tuned tuning (state f)) (state g)

-- the same of each space: space k, from 0, has the fates from k times its number of threads on
abbrev pub HaveRisenInEach : {F : Type 0} → (F → FateState) → Tuning → List Script → ℕ → List F → List F → Handed → Type 0
HaveRisenInEach {F} state tuning scripts workers before after h =
    (k j : ℕ) (script : Script) (trace : List Entry) (f g : F) (t : Totals) → j < workers
    → slice_get scripts k ≡ Some script → slice_get h.traces k ≡ Some trace
    → slice_get before (k * workers + j) ≡ Some f → slice_get after (k * workers + j) ≡ Some g → slice_get h.totals (k * workers + j) ≡ Some t
    → HasRisen script workers trace j t (tuned tuning (state f)) (state g)

-- ---- runs on threads

-- so many threads ran the script, to its end or until this actor was worn, and each has its fate
pub record IsThreaded (script : Script) (workers : ℕ) (r : SpaceRun) (worn : Option Actor) : Type 0 where
  pub ran : IsRan script workers r.trace r.seat r.totals r.ports worn
  pub lawful : IsLawful script r.trace
  pub fates : r.fates ≡ workers

-- one space was run, and this holds of it
pub record IsOfOneRun (holds : SpaceRun → Type 0) (h : Handed) : Type 0 where
  pub space : SpaceRun
  pub handed : h ≡ handed_by space
  pub held : holds space

-- so many threads ran the script until this actor was worn
abbrev pub IsWornOnThreads : Script → ℕ → Handed → Actor → Type 0
IsWornOnThreads script workers h a = IsOfOneRun (λ (r : SpaceRun). IsThreaded script workers r (Some a)) h

-- the report tells of the run and of what each driver posted
pub record TellsOfRun (run : Run) (script : Script) (bytes : List ℕ) (r : SpaceRun) : Type 0 where
  pub threaded : IsThreaded script run.workers r None
  pub report_is : IsReport script (reverse r.trace) r.totals bytes run.with_trace

abbrev pub IsReported : Run → Script → Handed → List ℕ → Type 0
IsReported run script h bytes = IsOfOneRun (TellsOfRun run script bytes) h

-- the summary is that of the trace, which is that of the calls one after the other on one map, the same for every number of threads
pub record SumsUp (soaked : Soak) (bytes : List ℕ) (r : SpaceRun) : Type 0 where
  pub threaded : IsThreaded (script_drawn soaked.seed soaked.calls) soaked.workers r None
  pub of_trace : IsSummary (script_drawn soaked.seed soaked.calls) (reverse r.trace) bytes
  pub summary_is : bytes ≡ tally_text soak (tally_in_order soaked.seed soaked.calls)

abbrev pub IsSummed : Soak → Handed → List ℕ → Type 0
IsSummed soaked h bytes = IsOfOneRun (SumsUp soaked bytes) h

-- ---- runs of several spaces

-- so many of the threads that are asked for work for each space: no more than leave 16 for all
abbrev pub workers_of : Bundle → ℕ → ℕ
workers_of bundle workers = min workers (MOST_DRIVERS / length bundle.spaces)

-- these spaces were run one after the other, each to its end, but the last until this actor was worn
abbrev pub RanUntilWorn : ℕ → Actor → List Script → List SpaceRun → Type 0
RanUntilWorn workers a [] runs = ⊥
RanUntilWorn workers a (s ∷ scripts) [] = ⊥
RanUntilWorn workers a (s ∷ scripts) (r ∷ []) = IsThreaded s workers r (Some a)
RanUntilWorn workers a (s ∷ scripts) (r ∷ next ∷ rest) = IsThreaded s workers r None × RanUntilWorn workers a scripts (next ∷ rest)

-- all spaces were run, each to its end
abbrev pub RanAll : ℕ → List Script → List SpaceRun → Type 0
RanAll workers scripts runs = AllZip (λ (s : Script) (r : SpaceRun). IsThreaded s workers r None) scripts runs

-- as far as an actor was worn, or all of them
abbrev pub AreRan : ℕ → List Script → List SpaceRun → Option Actor → Type 0
AreRan workers scripts runs None = RanAll workers scripts runs
AreRan workers scripts runs (Some a) = RanUntilWorn workers a scripts runs

-- the report tells of all spaces and of what each driver posted
pub record AreReported (run : Run) (bundle : Bundle) (h : Handed) (bytes : List ℕ) : Type 0 where
  pub runs : List SpaceRun
  pub handed : h ≡ handed_from bundle.spaces runs
  pub ran : RanAll (workers_of bundle run.workers) bundle.spaces runs
  pub report_is : IsBundleReport bundle (map (λ (r : SpaceRun). reverse r.trace) runs) (map (λ (r : SpaceRun). r.totals) runs) bytes run.with_trace

-- the spaces were run until this actor of one was worn, and the traces of those after it are empty
pub record AreWornOnThreads (bundle : Bundle) (workers : ℕ) (h : Handed) (a : Actor) : Type 0 where
  pub runs : List SpaceRun
  pub handed : h ≡ handed_from bundle.spaces runs
  pub ran : RanUntilWorn (workers_of bundle workers) a bundle.spaces runs

-- ---- of one space or several
abbrev pub spaces_of : Scripted → List Script
spaces_of (One script) = script ∷ []
spaces_of (Several bundle) = bundle.spaces

abbrev pub workers_in : Scripted → ℕ → ℕ
workers_in (One script) workers = workers
workers_in (Several bundle) workers = workers_of bundle workers

abbrev pub IsRunReported : Run → Scripted → Handed → List ℕ → Type 0
IsRunReported run (One script) h bytes = IsReported run script h bytes
IsRunReported run (Several bundle) h bytes = AreReported run bundle h bytes

abbrev pub IsRunWorn : ℕ → Scripted → Handed → Actor → Type 0
IsRunWorn workers (One script) h a = IsWornOnThreads script workers h a
IsRunWorn workers (Several bundle) h a = AreWornOnThreads bundle workers h a

-- ---- how a call ends

-- these bytes were written, or a prefix of them and a fault rose
abbrev pub IsWritten : Stream → List ℕ → Outcome → Type 0
IsWritten sink bytes an_outcome.Fine = Appends sink.before sink.after bytes
IsWritten sink bytes an_outcome.Usage = ⊥
IsWritten sink bytes (an_outcome.Refused line reason) = ⊥
IsWritten sink bytes an_outcome.TooLarge = ⊥
IsWritten sink bytes an_outcome.ReadFault = ⊥
IsWritten sink bytes an_outcome.WriteFault = Rose sink.faults_before sink.faults_after × AppendsPrefix sink.before sink.after bytes
IsWritten sink bytes an_outcome.Memory = ⊥
IsWritten sink bytes (an_outcome.Worn a) = ⊥
IsWritten sink bytes (an_outcome.Wrong line clause) = ⊥

-- how a call ends whose script was read, where `good` says what an answer is and `worn` what a worn
-- actor leaves: the answer was written, or a prefix of it and a fault rose, or an actor is worn
abbrev pub EndsWith : (Handed → List ℕ → Type 0) → (Handed → Actor → Type 0) → Stream → Handed → Outcome → Type 0
EndsWith good worn sink h an_outcome.Fine = (bytes : List ℕ) × good h bytes × IsWritten sink bytes an_outcome.Fine
EndsWith good worn sink h an_outcome.Usage = ⊥
EndsWith good worn sink h (an_outcome.Refused line reason) = ⊥
EndsWith good worn sink h an_outcome.TooLarge = ⊥
EndsWith good worn sink h an_outcome.ReadFault = ⊥
EndsWith good worn sink h an_outcome.WriteFault = (bytes : List ℕ) × good h bytes × IsWritten sink bytes an_outcome.WriteFault
EndsWith good worn sink h an_outcome.Memory = h ≡ nothing
EndsWith good worn sink h (an_outcome.Worn a) = worn h a
EndsWith good worn sink h (an_outcome.Wrong line clause) = ⊥

-- what was given is handed back and its answer was written, or a prefix of it, or there was no memory to hand it back
abbrev pub IsHandedWritten : Stream → Handed → Handed → List ℕ → Outcome → Type 0
IsHandedWritten sink given h bytes outcome = ((h ≡ given) × IsWritten sink bytes outcome) ⊎ ((outcome ≡ an_outcome.Memory) × (h ≡ nothing))

-- what was given is handed back with the worn actor, or there was no memory to hand it back
abbrev pub IsHandedWorn : Handed → Handed → Actor → Outcome → Type 0
IsHandedWorn given h a outcome = ((outcome ≡ an_outcome.Worn a) × (h ≡ given)) ⊎ ((outcome ≡ an_outcome.Memory) × (h ≡ nothing))

-- how a script ends on threads
abbrev pub EndsOnThreads : (Handed → List ℕ → Type 0) → Script → ℕ → Stream → Handed → Outcome → Type 0
EndsOnThreads good script workers sink h outcome = EndsWith good (IsWornOnThreads script workers) sink h outcome

-- what a text is read as, and what it is refused for
pub record Language (A : Type 0) : Type 1 where
  pub reads : List ℕ → A → Type 0
  pub refuses : List ℕ → ℕ → Reason → Type 0

-- the scripts of one space and of several, and those of one space alone
abbrev pub any_version : Language Scripted
any_version = record { reads = λ text x. scripted_of text ≡ Ok x; refuses = IsRefused }

abbrev pub version_1 : Language Script
version_1 = record { reads = λ text x. script_of text ≡ Ok x; refuses = λ text line reason. script_of text ≡ Err (a_script_error.Refused line reason) }

-- the source was read to its end, and its text is read as this
pub record ReadsAs {A : Type 0} (language : Language A) (source : Stream) (x : A) : Type 0 where
  pub text : List ℕ
  pub reads : ReadsText source.before source.after text
  pub text_is : language.reads text x

-- why nothing was read
abbrev pub StopsReading : {A : Type 0} → Language A → Stream → Outcome → Type 0
StopsReading language source an_outcome.Fine = ⊥
StopsReading language source an_outcome.Usage = ⊥
StopsReading language source (an_outcome.Refused line reason) = (text : List ℕ) × ReadsText source.before source.after text × language.refuses text line reason
StopsReading language source an_outcome.TooLarge = ConsumesExactly source.before source.after (limit + 1)
StopsReading language source an_outcome.ReadFault = Rose source.faults_before source.faults_after
StopsReading language source an_outcome.WriteFault = ⊥
StopsReading language source an_outcome.Memory = ⊤
StopsReading language source (an_outcome.Worn a) = ⊥
StopsReading language source (an_outcome.Wrong line clause) = ⊥

-- the text is read as something
abbrev pub IsTextIn : {A : Type 0} → Language A → List ℕ → Type 0
IsTextIn {A} language text = (x : A) × language.reads text x

-- what a source that tells its bytes says of each outcome
abbrev pub IsTextJudged : {A : Type 0} → Language A → List ℕ → Outcome → Type 0
IsTextJudged language text an_outcome.Fine = (length text ≤ limit) × IsTextIn language text
IsTextJudged language text an_outcome.Usage = ⊥
IsTextJudged language text (an_outcome.Refused line reason) = (length text ≤ limit) × language.refuses text line reason
IsTextJudged language text an_outcome.TooLarge = limit < length text
IsTextJudged language text an_outcome.ReadFault = ⊤
IsTextJudged language text an_outcome.WriteFault = (length text ≤ limit) × IsTextIn language text
IsTextJudged language text an_outcome.Memory = ⊤
IsTextJudged language text (an_outcome.Worn a) = (length text ≤ limit) × IsTextIn language text
IsTextJudged language text (an_outcome.Wrong line clause) = ⊥

-- why a text that a source holds has no answer
abbrev pub IsTextFaulty : {A : Type 0} → Language A → List ℕ → Outcome → Type 0
IsTextFaulty language text an_outcome.Fine = ⊥
IsTextFaulty language text an_outcome.Usage = ⊥
IsTextFaulty language text (an_outcome.Refused line reason) = (length text ≤ limit) × language.refuses text line reason
IsTextFaulty language text an_outcome.TooLarge = limit < length text
IsTextFaulty language text an_outcome.ReadFault = ⊥
IsTextFaulty language text an_outcome.WriteFault = ⊥
IsTextFaulty language text an_outcome.Memory = ⊥
IsTextFaulty language text (an_outcome.Worn a) = ⊥
IsTextFaulty language text (an_outcome.Wrong line clause) = ⊥

-- what a source that tells its bytes says of what was read
abbrev pub IsReadAs : {A : Type 0} → Language A → List ℕ → Result A Outcome → Type 0
IsReadAs language text (Ok x) = (length text ≤ limit) × language.reads text x
IsReadAs language text (Err outcome) = IsTextJudged language text outcome

-- how a call ends that reads a text, as this where it reads one
abbrev pub EndsReading : {A : Type 0} → Language A → (Handed → List ℕ → Type 0) → (Handed → Actor → Type 0) → A → Stream → Stream → Handed → Outcome → Type 0
EndsReading language good worn x source sink h an_outcome.Fine = ReadsAs language source x × EndsWith good worn sink h an_outcome.Fine
EndsReading language good worn x source sink h an_outcome.Usage = ⊥
EndsReading language good worn x source sink h (an_outcome.Refused line reason) = (h ≡ nothing) × StopsReading language source (an_outcome.Refused line reason)
EndsReading language good worn x source sink h an_outcome.TooLarge = (h ≡ nothing) × StopsReading language source an_outcome.TooLarge
EndsReading language good worn x source sink h an_outcome.ReadFault = (h ≡ nothing) × StopsReading language source an_outcome.ReadFault
EndsReading language good worn x source sink h an_outcome.WriteFault = ReadsAs language source x × EndsWith good worn sink h an_outcome.WriteFault
EndsReading language good worn x source sink h an_outcome.Memory = h ≡ nothing
EndsReading language good worn x source sink h (an_outcome.Worn a) = ReadsAs language source x × worn h a
EndsReading language good worn x source sink h (an_outcome.Wrong line clause) = ⊥

-- how a call with the words of `run` ends
abbrev pub EndsRun : Run → Scripted → Stream → Stream → Handed → Outcome → Type 0
EndsRun run scripted source sink h outcome = EndsReading any_version (IsRunReported run scripted)
    (IsRunWorn run.workers scripted) scripted source sink h outcome

-- how a call with the words of `soak` ends
abbrev pub EndsSoak : Soak → Stream → Handed → Outcome → Type 0
EndsSoak soaked sink h outcome = EndsOnThreads (IsSummed soaked) (script_drawn soaked.seed soaked.calls) soaked.workers sink h outcome

-- for a source that tells its bytes these alone decide, but for faults, want of memory and worn actors
pub record IsDecided {A : Type 0} (language : Language A) (source sink : Stream) (outcome : Outcome) : Type 0 where
  pub judged : IfSome source.before (λ text. IsTextJudged language text outcome)
  pub faulty : (text : List ℕ) (wanted : Outcome) → source.before ≡ Some text → IsTextFaulty language text wanted
      → ¬ Rose source.faults_before source.faults_after
      → (outcome ≡ wanted) ⊎ (outcome ≡ an_outcome.Memory)
  pub complete : (text : List ℕ) → source.before ≡ Some text → length text ≤ limit → IsTextIn language text
      → ¬ Rose source.faults_before source.faults_after
      → ¬ Rose sink.faults_before sink.faults_after
      → (outcome ≡ an_outcome.Fine) ⊎ (outcome ≡ an_outcome.Memory)
      ⊎ ((a : Actor) × (outcome ≡ an_outcome.Worn a))

-- nothing but traces
abbrev pub only : List (List Entry) → Handed
only traces = record { traces = traces; seats = []; totals = []; ports = []; fates = 0 }

-- callers on threads made the calls of the script one at a time, to its end or until this actor was worn, and only the trace is handed back
pub record IsSharedBy (script : Script) (trace : List Entry) (h : Handed) (worn : Option Actor) : Type 0 where
  pub shared : IsShared script (record { trace = trace; worn = worn })
  pub lawful : IsLawful script trace
  pub alone : h ≡ only (trace ∷ [])

-- the report tells of it, without lines of drivers
pub record IsSharedReport (script : Script) (h : Handed) (bytes : List ℕ) : Type 0 where
  pub trace : List Entry
  pub shared : IsSharedBy script trace h None
  pub report_is : IsReport script (reverse trace) [] bytes false

abbrev pub IsWornShared : Script → Handed → Actor → Type 0
IsWornShared script h a = (trace : List Entry) × IsSharedBy script trace h (Some a)

-- how a call with the words of `share` ends
abbrev pub EndsShare : Script → Stream → Stream → Handed → Outcome → Type 0
EndsShare script source sink h outcome = EndsReading version_1 (IsSharedReport script) (IsWornShared script) script source sink h outcome

-- the words start no threads
pub record IsUnthreaded (words : List (String Global)) : Type 0 where
  pub no_run : (run : Run) → ¬ SaysRun words run
  pub no_soak : (soak : Soak) → ¬ SaysSoak words soak
  pub no_share : (share : Share) → ¬ SaysShare words share
