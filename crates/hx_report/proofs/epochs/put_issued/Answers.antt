use Rattle.std.proofs.Common.{◌++◌, ◌<◌, ℕ, Global, List, Vec, length, sym, ap, ◌∙◌, arith, append-nil}
use Rattle.std.specs.List.{flat_map}
use Rattle.std.specs.Option.{option_map}
use Rattle.hx_model.specs.Types.{Entry, Note}
use Rattle.hx_trace.specs.Entries.{entry_seen}
use Rattle.hx_trace.proofs.Lemmas.{noted_at, unnoted_at}
use Rattle.hx_report.specs.Reporting.{entry_lines, note_lines}
use Rattle.hx_report.proofs.Appending.{one_more}
use Rattle.hx_report.proofs.epochs.put_issued.Goals as goal
use Rattle.hx_report.proofs.epochs.put_issued.Goals.{in-Some+in_ok-put_notes, in_default}

pub loop-place-preserved : goal.loop-place-preserved
loop-place-preserved c =
    let t : List Entry = c.args.trace.now in
    let within : c.loop-place.place < length t = omega (arith, c.loop-place-test.true, c.len-place-end.ensures) in
    elim c.match-noted.branch [
      | in-Some+in_ok-put_notes w ↦
          let x : Entry = entry_seen w.in-Some.entry in
          ap (λ (o : Vec ℕ Global). o.items) w.out-is
          ∙ w.in_ok-put_notes.ensures
          ∙ one_more entry_lines c.loop-place.out.items c.args.out.now.items t c.loop-place.place x c.loop-place.invariant within
          (noted_at t c.loop-place.place x (ap (option_map entry_seen) (sym w.in-Some.is) ∙ c.noted.ensures))
      | in_default w ↦
          let here = unnoted_at t c.loop-place.place within (ap (option_map entry_seen) (sym w.in_default.is) ∙ c.noted.ensures) in
          ap (λ (o : Vec ℕ Global). o.items) w.out-is
          ∙ sym (append-nil c.loop-place.out.items)
          ∙ ap (λ (ns : List Note). c.loop-place.out.items ++ flat_map note_lines ns) (sym here.2)
          ∙ one_more entry_lines c.loop-place.out.items c.args.out.now.items t c.loop-place.place here.0 c.loop-place.invariant within here.1
    ]
