-- Status 0 is that of a call which went well; and each status is that of a call with some words, or of words that couldn't be read.
use Rattle.std.proofs.Common.{◌≡◌, ◌⊎◌, inl, inr, ℕ, List, refl, sym, ap, ◌∙◌}
use Rattle.std.specs.Prelude.{Result, Ok, Err, IsErrOf, OnOk}
use Rattle.std.specs.Io.KnownBytes.{Appends}
use Rattle.hx_io.specs.Causes.{Rose}
use Rattle.hx_io.specs.Pieces.{AppendsPrefix}
use Rattle.hx_replay.specs.Streams.{Stream}
use Rattle.hx_command.specs.Telling.{Prints}
use Rattle.hx_command.specs.declared.program.Unprinted.{Unprinted}
use Rattle.hx_command.specs.declared.program.Unprinted.TheVariants as a_reason
use Rattle.hx_replay.specs.Outcomes.{status_of}
use Rattle.hx_replay.specs.declared.outcomes.Outcome.{Outcome}
use Rattle.hx_replay.specs.declared.outcomes.Outcome.TheVariants.{Fine, Usage, Refused, TooLarge, ReadFault, WriteFault, Memory, Worn, Wrong}
use Rattle.hx_command.proofs.program.run.Goals as goal
use Rattle.hx_command.proofs.program.run.Goals.{in-Ok, in-Err}

fine_at_0 : (outcome : Outcome) → status_of outcome ≡ 0 → outcome ≡ Fine
fine_at_0 Fine e = refl
fine_at_0 Usage e = absurd (cc)
fine_at_0 (Refused line reason) e = absurd (cc)
fine_at_0 TooLarge e = absurd (cc)
fine_at_0 ReadFault e = absurd (cc)
fine_at_0 WriteFault e = absurd (cc)
fine_at_0 Memory e = absurd (cc)
fine_at_0 (Worn a) e = absurd (cc)
fine_at_0 (Wrong line clause) e = absurd (cc)

not_fine : (outcome : Outcome) → (outcome ≡ Memory) ⊎ (outcome ≡ Usage) → outcome ≡ Fine → ⊥
not_fine outcome (inl memory) fine = absurd (cc)
not_fine outcome (inr usage) fine = absurd (cc)

pub returns-clause-fine : goal.returns-clause-fine
returns-clause-fine g c zero =
    let fine : c.match-words_of.outcome ≡ Fine = fine_at_0 c.match-words_of.outcome (sym c.status.ensures ∙ zero) in
    elim c.match-words_of.branch [
      | in-Ok w ↦ rw (w.source-is, w.sink-is) (w.as_slice.result.now, w.command-outcome.ensures.fine (sym w.outcome-is ∙ fine))
      | in-Err w ↦ absurd (not_fine w.in-Err.outcome w.in-Err.ensures (sym w.outcome-is ∙ fine))
    ]

printed_by : {A : Type 0} (r : Result A Unprinted) (errors : Stream) (line : List ℕ)
    → OnOk r (Appends errors.before errors.after line)
    → (IsErrOf r a_reason.WriteFault → Rose errors.faults_before errors.faults_after × AppendsPrefix errors.before errors.after line)
    → (IsErrOf r a_reason.Memory → errors.after ≡ errors.before)
    → Prints errors line
printed_by (Ok x) errors line whole fault memory = inl whole
printed_by (Err a_reason.WriteFault) errors line whole fault memory = inr (inl (fault refl))
printed_by (Err a_reason.Memory) errors line whole fault memory = inr (inr (memory refl))

pub returns-clause-told : goal.returns-clause-told
returns-clause-told g c =
    let e = c.print_outcome-printed.ensures in (
      c.match-words_of.outcome,
      c.status.ensures,
      elim c.match-words_of.branch [
        | in-Ok w ↦ rw (w.source-is, w.sink-is, w.outcome-is)
            (inl (
              w.as_slice.result.now,
              record {
                asked = w.command-outcome.ensures.shown;
                called = w.command-outcome.ensures.told;
              },
            ))
        | in-Err w ↦ rw (w.source-is, w.sink-is, w.outcome-is) (inr (w.in-Err.ensures, refl, refl))
      ],
      printed_by c.print_outcome-printed.result _ _ e.printed e.fault (λ no_room. ap g.E.Sink.held (e.memory no_room)),
    )
