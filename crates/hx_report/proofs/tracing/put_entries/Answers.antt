use Rattle.std.proofs.Common.{◌≡◌, ℕ, ◌+◌, ◌<◌, ◌++◌, Global, List, Some, Vec, drop, length, ap, sym, ◌∙◌, arith}
use Rattle.std.specs.Option.{option_map}
use Rattle.std.specs.Prelude.{slice_get}
use Rattle.hx_model.specs.Types.{Entry}
use Rattle.hx_trace.specs.Entries.{entry_seen}
use Rattle.hx_report.specs.Tracing.{entries_text, posts_text}
use Rattle.hx_report.proofs.EntryLines.{entry_more, not_past}
use Rattle.hx_report.proofs.tracing.put_entries.Goals as goal
use Rattle.hx_report.proofs.tracing.put_entries.Goals.{in-Some+in_ok-put_entry+in_ok-put_posts, in_default}

pub loop-place-preserved : goal.loop-place-preserved
loop-place-preserved c =
    let within : c.loop-place.place < length c.args.trace.now = omega (arith, c.loop-place-test.true, c.len-place-end.ensures) in
    let number : ℕ = c.loop-place.place + 1 in
    let more : List ℕ = entries_text (number + 1) (drop number c.args.trace.now) in
    elim c.match-get.branch [
      | in-Some+in_ok-put_entry+in_ok-put_posts w ↦
          let x : Entry = entry_seen w.in-Some.entry in
          let found : Some x ≡ slice_get c.args.trace.now c.loop-place.place = ap (option_map entry_seen) (sym w.in-Some.is) ∙ c.get.ensures in
          ap (λ (o : Vec ℕ Global). o.items ++ more) w.out-is
          ∙ ap (λ ys. ys ++ more) (w.in_ok-put_posts.ensures ∙ ap (λ ys. ys ++ posts_text number 0 x.outputs) w.in_ok-put_entry.ensures)
          ∙ entry_more c.loop-place.out.items (c.args.out.now.items ++ entries_text 1 c.args.trace.now)
          c.args.trace.now c.loop-place.place x found c.loop-place.invariant
      | in_default w ↦ absurd (not_past c.args.trace.now c.loop-place.place within (ap (option_map entry_seen) (sym w.in_default.is) ∙ c.get.ensures))
    ]
