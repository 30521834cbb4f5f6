-- How a call ends that reads a script, and what decides it.
use Rattle.std.proofs.Common.{◌≡◌, ◌<◌, ◌≤◌, ◌∙◌, ◌⊎◌, inl, inr, ℕ, List, [], length, Option, Some, None, refl, sym, subst, arith}
use Rattle.std.specs.Prelude.{Ok, Err, IfSome}
use Rattle.hx_io.specs.Causes.{Rose}
use Rattle.hx_types.specs.declared.ids.Actor.{Actor}
use Rattle.hx_types.specs.declared.traces.Script.{Script}
use Rattle.hx_script.specs.declared.errors.Reason.{Reason}
use Rattle.hx_script.specs.declared.errors.ScriptError.TheVariants as a_script_error
use Rattle.hx_replay.specs.Streams.{Stream}
use Rattle.hx_replay.specs.Causes.{limit}
use Rattle.hx_replay.proofs.Lemmas.{refused_scripted}
use Rattle.hx_command.specs.Threads.{EndsReading, EndsWith, Handed, IsDecided, IsReadAs, IsTextFaulty, IsTextIn}
use Rattle.hx_command.specs.Threads.{IsTextJudged, Language, ReadsAs, StopsReading, any_version, nothing, version_1}
use Rattle.hx_replay.specs.declared.outcomes.Outcome.{Outcome}
use Rattle.hx_replay.specs.declared.outcomes.Outcome.TheVariants.{Fine, Usage, Refused, TooLarge, ReadFault, WriteFault, Memory, Worn, Wrong}
use Rattle.hx_replay.specs.declared.texts.Scripted.{Scripted}
use Rattle.hx_replay.specs.declared.texts.Scripted.TheVariants.{One}

-- a script, where there is none to name
pub no_script : Script
no_script = record {
  space = record {
    name = [];
    key_name = [];
    key_parts = 0;
    attributes = [];
    subspaces = [];
    servers = 0;
    tolerate = 0;
  };
  sessions = [];
  steps = [];
}

pub no_scripted : Scripted
no_scripted = One no_script

-- what is read isn't refused, and what is refused is so in one way
pub record IsExact {A : Type 0} (language : Language A) : Type 0 where
  pub apart : (text : List ℕ) (x : A) (line : ℕ) (reason : Reason) → language.reads text x → language.refuses text line reason → ⊥
  pub single : (text : List ℕ) (line at : ℕ) (reason why : Reason) → language.refuses text line reason
      → language.refuses text at why → Refused line reason ≡ Refused at why

pub version_1_exact : IsExact version_1
version_1_exact = record {
  apart = λ text x line reason reads refuses. let both = sym reads ∙ refuses in absurd (cc);
  single = λ text line at reason why one other. let both = sym one ∙ other in cc;
}

pub any_version_exact : IsExact any_version
any_version_exact = record {
  apart = λ text x line reason reads refuses. let both = sym reads ∙ refused_scripted text (a_script_error.Refused line reason) refuses in absurd (cc);
  single = λ text line at reason why one other. let both = sym one ∙ other in cc;
}

module _ {A : Type 0} (language : Language A) (good : Handed → List ℕ → Type 0) (worn : Handed → Actor → Type 0)
    (x : A) (source sink : Stream) (h : Handed) where
  unread_ends : (outcome : Outcome) → h ≡ nothing → StopsReading language source outcome → EndsReading language good worn x source sink h outcome
  unread_ends Fine none cause = absurd cause
  unread_ends Usage none cause = cause
  unread_ends (Refused line reason) none cause = (none, cause)
  unread_ends TooLarge none cause = (none, cause)
  unread_ends ReadFault none cause = (none, cause)
  unread_ends WriteFault none cause = absurd cause
  unread_ends Memory none cause = none
  unread_ends (Worn a) none cause = absurd cause
  unread_ends (Wrong line clause) none cause = absurd cause

  -- no script was read
  pub unread_with : (outcome shown : Outcome) → h ≡ nothing → shown ≡ outcome → StopsReading language source outcome
      → EndsReading language good worn x source sink h shown
  unread_with outcome shown none is cause = subst (λ (o : Outcome). EndsReading language good worn x source sink h o) (sym is) (unread_ends outcome none cause)

  -- a script was read
  pub read_with : (outcome : Outcome) → ReadsAs language source x → EndsWith good worn sink h outcome → EndsReading language good worn x source sink h outcome
  read_with Fine read ends = (read, ends)
  read_with Usage read ends = ends
  read_with (Refused line reason) read ends = absurd ends
  read_with TooLarge read ends = absurd ends
  read_with ReadFault read ends = absurd ends
  read_with WriteFault read ends = (read, ends)
  read_with Memory read ends = ends
  read_with (Worn a) read ends = (read, ends)
  read_with (Wrong line clause) read ends = ends

module _ (good : Handed → List ℕ → Type 0) (worn : Handed → Actor → Type 0) (sink : Stream) (h : Handed) where
  -- without a fault of the sink a run writes its report, or ends for want of memory or at a worn actor
  pub ended_well : (outcome : Outcome) → EndsWith good worn sink h outcome → (Rose sink.faults_before sink.faults_after → ⊥)
      → (outcome ≡ Fine) ⊎ (outcome ≡ Memory) ⊎ ((a : Actor) × (outcome ≡ Worn a))
  ended_well Fine ends still = inl refl
  ended_well Usage ends still = absurd ends
  ended_well (Refused line reason) ends still = absurd ends
  ended_well TooLarge ends still = absurd ends
  ended_well ReadFault ends still = absurd ends
  ended_well WriteFault ends still = absurd (still ends.2.0)
  ended_well Memory ends still = inr (inl refl)
  ended_well (Worn a) ends still = inr (inr (a, refl))
  ended_well (Wrong line clause) ends still = absurd ends

module _ {A : Type 0} (language : Language A) (exact : IsExact language) where
  at_text : (before : Option (List ℕ)) (text : List ℕ) (holds : List ℕ → Type 0) → before ≡ Some text → IfSome before holds → holds text
  at_text before text holds told h = subst (λ (o : Option (List ℕ)). IfSome o holds) told h

  module _ (good : Handed → List ℕ → Type 0) (worn : Handed → Actor → Type 0) (x : A) (source sink : Stream) (h : Handed) where
    not_faulty : (text : List ℕ) (wanted : Outcome) → IsReadAs language text (Ok x) → IsTextFaulty language text wanted → ⊥
    not_faulty text Fine read faulty = faulty
    not_faulty text Usage read faulty = faulty
    not_faulty text (Refused line reason) read faulty = exact.apart text x line reason read.1 faulty.1
    not_faulty text TooLarge read faulty = omega (arith, read.0, faulty)
    not_faulty text ReadFault read faulty = faulty
    not_faulty text WriteFault read faulty = faulty
    not_faulty text Memory read faulty = faulty
    not_faulty text (Worn a) read faulty = faulty
    not_faulty text (Wrong line clause) read faulty = faulty

    judged_ran : (text : List ℕ) (outcome : Outcome) → IsReadAs language text (Ok x) → EndsWith good worn sink h outcome → IsTextJudged language text outcome
    judged_ran text Fine read ends = (read.0, (x, read.1))
    judged_ran text Usage read ends = ends
    judged_ran text (Refused line reason) read ends = absurd ends
    judged_ran text TooLarge read ends = absurd ends
    judged_ran text ReadFault read ends = tt
    judged_ran text WriteFault read ends = (read.0, (x, read.1))
    judged_ran text Memory read ends = tt
    judged_ran text (Worn a) read ends = (read.0, (x, read.1))
    judged_ran text (Wrong line clause) read ends = absurd ends

    if_ran : (before : Option (List ℕ)) (outcome : Outcome) → IfSome before (λ text. IsReadAs language text (Ok x))
        → EndsWith good worn sink h outcome → IfSome before (λ text. IsTextJudged language text outcome)
    if_ran None outcome read ends = tt
    if_ran (Some text) outcome read ends = judged_ran text outcome read ends

    -- what decides a call whose script was read
    pub decided_ran : (outcome : Outcome) → IfSome source.before (λ text. IsReadAs language text (Ok x))
        → EndsWith good worn sink h outcome → IsDecided language source sink outcome
    decided_ran outcome read ends =
        record {
          judged = if_ran source.before outcome read ends;
          faulty = λ text wanted told faulty still. absurd
              (not_faulty text wanted (at_text source.before text (λ t. IsReadAs language t (Ok x)) told read) faulty);
          complete = λ text told short taken still well. ended_well good worn sink h outcome ends well;
        }

  module _ (source sink : Stream) (text : List ℕ) (still : Rose source.faults_before source.faults_after → ⊥) where
    as_wanted : (line : ℕ) (reason : Reason) (wanted : Outcome) → length text ≤ limit
        → language.refuses text line reason → IsTextFaulty language text wanted → Refused line reason ≡ wanted
    as_wanted line reason Fine short refused faulty = absurd faulty
    as_wanted line reason Usage short refused faulty = absurd faulty
    as_wanted line reason (Refused at why) short refused faulty = exact.single text line at reason why refused faulty.1
    as_wanted line reason TooLarge short refused faulty = absurd (omega (arith, short, faulty))
    as_wanted line reason ReadFault short refused faulty = absurd faulty
    as_wanted line reason WriteFault short refused faulty = absurd faulty
    as_wanted line reason Memory short refused faulty = absurd faulty
    as_wanted line reason (Worn a) short refused faulty = absurd faulty
    as_wanted line reason (Wrong at clause) short refused faulty = absurd faulty

    as_large : (wanted : Outcome) → limit < length text → IsTextFaulty language text wanted → TooLarge ≡ wanted
    as_large Fine large faulty = absurd faulty
    as_large Usage large faulty = absurd faulty
    as_large (Refused at why) large faulty = absurd (omega (arith, large, faulty.0))
    as_large TooLarge large faulty = refl
    as_large ReadFault large faulty = absurd faulty
    as_large WriteFault large faulty = absurd faulty
    as_large Memory large faulty = absurd faulty
    as_large (Worn a) large faulty = absurd faulty
    as_large (Wrong at clause) large faulty = absurd faulty

    unread_faulty : (outcome wanted : Outcome) → IsTextJudged language text outcome
        → StopsReading language source outcome → IsTextFaulty language text wanted → (outcome ≡ wanted) ⊎ (outcome ≡ Memory)
    unread_faulty Fine wanted judged cause faulty = absurd cause
    unread_faulty Usage wanted judged cause faulty = absurd cause
    unread_faulty (Refused line reason) wanted judged cause faulty = inl (as_wanted line reason wanted judged.0 judged.1 faulty)
    unread_faulty TooLarge wanted judged cause faulty = inl (as_large wanted judged faulty)
    unread_faulty ReadFault wanted judged cause faulty = absurd (still cause)
    unread_faulty WriteFault wanted judged cause faulty = absurd cause
    unread_faulty Memory wanted judged cause faulty = inr refl
    unread_faulty (Worn a) wanted judged cause faulty = absurd cause
    unread_faulty (Wrong line clause) wanted judged cause faulty = absurd cause

    unread_complete : (outcome : Outcome) → IsTextJudged language text outcome → StopsReading language source outcome
        → length text ≤ limit → IsTextIn language text
        → (outcome ≡ Fine) ⊎ (outcome ≡ Memory) ⊎ ((a : Actor) × (outcome ≡ Worn a))
    unread_complete Fine judged cause short taken = absurd cause
    unread_complete Usage judged cause short taken = absurd cause
    unread_complete (Refused line reason) judged cause short taken = absurd (exact.apart text taken.0 line reason taken.1 judged.1)
    unread_complete TooLarge judged cause short taken = absurd (omega (arith, short, judged))
    unread_complete ReadFault judged cause short taken = absurd (still cause)
    unread_complete WriteFault judged cause short taken = absurd cause
    unread_complete Memory judged cause short taken = inr (inl refl)
    unread_complete (Worn a) judged cause short taken = absurd cause
    unread_complete (Wrong line clause) judged cause short taken = absurd cause

  -- what decides a call that read no script
  pub decided_unread : (source sink : Stream) (outcome shown : Outcome) → shown ≡ outcome
      → IfSome source.before (λ text. IsReadAs language text (Err outcome)) → StopsReading language source outcome
      → IsDecided language source sink shown
  decided_unread source sink outcome shown is judged cause =
      subst (λ (o : Outcome). IsDecided language source sink o) (sym is) (record {
        judged = judged;
        faulty = λ text wanted told faulty still. unread_faulty source sink text still outcome wanted
            (at_text source.before text (λ t. IsReadAs language t (Err outcome)) told judged) cause faulty;
        complete = λ text told short taken still well. unread_complete source sink text still outcome
            (at_text source.before text (λ t. IsReadAs language t (Err outcome)) told judged) cause short taken;
      })
