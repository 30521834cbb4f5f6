-- Words ask for one run, one soak or one share alone; and what is told of any words where there was no memory before the call.
use Rattle.std.proofs.Common.{◌≡◌, inl, inr, ℕ, List, [], ◌∷◌, ◌<◌, length, Option, Some, None, refl, ap, subst, arith}
use Rattle.std.specs.declared.string.String.{String}
use Rattle.std.specs.declared.alloc.Global.{Global}
use Rattle.std.specs.Prelude.{IfSome}
use Rattle.hx_types.specs.declared.traces.Script.{Script}
use Rattle.hx_words.specs.Saying.{Asks, SaysAudit, SaysRun, SaysShare, SaysSoak}
use Rattle.hx_words.proofs.Lemmas.{one_request}
use Rattle.hx_words.specs.declared.commands.Question.{Question}
use Rattle.hx_words.specs.declared.commands.Request.TheVariants as a_request
use Rattle.hx_words.specs.declared.commands.Run.{Run}
use Rattle.hx_words.specs.declared.commands.Share.{Share}
use Rattle.hx_words.specs.declared.commands.Soak.{Soak}
use Rattle.std.specs.Io.KnownBytes.{Appends}
use Rattle.hx_replay.specs.Calling.{EndsAudit, Shows}
use Rattle.hx_replay.specs.Streams.{Stream}
use Rattle.hx_command.specs.Telling.{AnswersAudit, Told}
use Rattle.hx_command.specs.Threads.{EndsRun, EndsShare, EndsSoak, Handed, IsDecided, IsTextJudged, Language, any_version, nothing, version_1}
use Rattle.hx_replay.specs.declared.outcomes.Outcome.{Outcome}
use Rattle.hx_replay.specs.declared.outcomes.Outcome.TheVariants.{Fine, Memory}
use Rattle.hx_replay.specs.declared.texts.Scripted.{Scripted}
use Rattle.hx_command.proofs.Deciding.{no_script, no_scripted}

-- ---- words that ask for a run, a soak or a share ask for it alone
module _ (words : List (String Global)) where
  pub same_run : (one other : Run) → SaysRun words one → SaysRun words other → other ≡ one
  same_run one other says also = let same = one_request words (a_request.Run one) (a_request.Run other) says also in cc

  pub same_soak : (one other : Soak) → SaysSoak words one → SaysSoak words other → other ≡ one
  same_soak one other says also = let same = one_request words (a_request.Soak one) (a_request.Soak other) says also in cc

  pub same_question : (one other : Question) → Asks words one → Asks words other → other ≡ one
  same_question one other says also = let same = one_request words (a_request.Question one) (a_request.Question other) says also in cc

  pub not_both : (run : Run) (soak : Soak) → SaysRun words run → SaysSoak words soak → ⊥
  not_both run soak says also = let same = one_request words (a_request.Run run) (a_request.Soak soak) says also in absurd (cc)

  pub no_run_shares : (run : Run) (share : Share) → SaysRun words run → SaysShare words share → ⊥
  no_run_shares run share says also = let same = one_request words (a_request.Run run) (a_request.Share share) says also in absurd (cc)

  pub no_soak_shares : (soak : Soak) (share : Share) → SaysSoak words soak → SaysShare words share → ⊥
  no_soak_shares soak share says also = let same = one_request words (a_request.Soak soak) (a_request.Share share) says also in absurd (cc)

-- what is shown with status 0 was written
pub shown : (sink : Stream) (text : List ℕ) (outcome : Outcome) → Shows sink text outcome → outcome ≡ Fine → Appends sink.before sink.after text
shown sink text outcome (inl whole) fine = whole.1
shown sink text outcome (inr part) fine = let fault = part.0 in absurd (cc)

-- what was written to the word `audit`
pub audit_answered : (words : List (String Global)) (source sink : Stream) (outcome : Outcome) → SaysAudit words
    → outcome ≡ Fine → EndsAudit source sink outcome → AnswersAudit words source sink
audit_answered words source sink outcome says fine ends = record { says = says; ends = subst (λ (o : Outcome). EndsAudit source sink o) fine ends }

-- how a run and a soak end that were answered
pub ran_at : (run : Run) (scripted : Scripted) (source sink : Stream) (h : Handed) (outcome : Outcome)
    → outcome ≡ Fine → EndsRun run scripted source sink h outcome → EndsRun run scripted source sink h Fine
ran_at run scripted source sink h outcome fine ends = subst (λ (o : Outcome). EndsRun run scripted source sink h o) fine ends

pub soaked_at : (soak : Soak) (sink : Stream) (h : Handed) (outcome : Outcome) → outcome ≡ Fine → EndsSoak soak sink h outcome → EndsSoak soak sink h Fine
soaked_at soak sink h outcome fine ends = subst (λ (o : Outcome). EndsSoak soak sink h o) fine ends

-- how a share ends whose report was written
pub shared_at : (script : Script) (source sink : Stream) (h : Handed) (outcome : Outcome) → outcome ≡ Fine
    → EndsShare script source sink h outcome → EndsShare script source sink h Fine
shared_at script source sink h outcome fine ends = subst (λ (o : Outcome). EndsShare script source sink h o) fine ends

-- ---- what is told of any words where there was no memory before the call
nothing_run : (run : Run) (source sink : Stream) → (scripted : Scripted) × EndsRun run scripted source sink nothing Memory
nothing_run run source sink = (no_scripted, refl)

nothing_shared : (source sink : Stream) → (script : Script) × EndsShare script source sink nothing Memory
nothing_shared source sink = (no_script, refl)

nothing_decided : {A : Type 0} (language : Language A) (source sink : Stream) → IsDecided language source sink Memory
nothing_decided language source sink =
    record {
      judged = by source.before;
      faulty = λ text wanted told faulty still. inr refl;
      complete = λ text told short taken still well. inr (inl refl);
    }
  where
    by : (o : Option (List ℕ)) → IfSome o (λ text. IsTextJudged language text Memory)
    by None = tt
    by (Some text) = tt

-- there was no memory before the call
pub nothing_told : (words : List (String Global)) (source sink : Stream) → Told words source sink Memory
nothing_told words source sink =
    record {
      h = nothing;
      alone = λ unthreaded. inl refl;
      run = λ run says. nothing_run run source sink;
      decided = λ run says. nothing_decided any_version source sink;
      soak = λ soak says. refl;
      soaked = λ soak says still. inr (inl refl);
      share = λ share says. nothing_shared source sink;
      share_decided = λ share says. nothing_decided version_1 source sink;
    }
