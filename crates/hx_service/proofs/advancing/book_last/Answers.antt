-- The newest entry of a run is a session's, whose notes are booked, or another actor's, and then there is nothing to book.
use Rattle.std.proofs.Common.{◌-◌, Some, sym, ap, ◌∙◌, arith}
use Rattle.std.proofs.lemmas.Option.{slice_get-get_or}
use Rattle.hx_trace.specs.Entries.{entry_seen}
use Rattle.hx_service.proofs.LastBooked as last
use Rattle.hx_service.proofs.advancing.book_last.Goals as goal

pub overflow_sub-place : goal.overflow_sub-place
overflow_sub-place c =
    let there = last.there c.args.world.now.script c.args.world.now.trace c.args.progress.now.items
    c.args.booked.now.items c.requires.older c.trace-trace.ensures.run
    c.trace-trace.result.now c.trace-trace.ensures.trace c.len-count.result c.len-count.ensures
    (entry_seen c.in-Some.entry) c.in-Some.ensures c.in-Session.session c.in-Session.is in
    let low = there.0 in omega (arith, low)

pub index_mut-requires : goal.index_mut-requires
index_mut-requires c =
    let within = last.within c.args.world.now.script c.args.world.now.trace c.args.progress.now.items
    c.args.booked.now.items c.requires.older c.trace-trace.ensures.run
    c.trace-trace.result.now c.trace-trace.ensures.trace c.len-count.result c.len-count.ensures
    (entry_seen c.in-Some.entry) c.in-Some.ensures c.in-Session.session c.in-Session.is in
    omega (arith, within)

pub book_notes-requires : goal.book_notes-requires
book_notes-requires c =
    let few = last.few c.args.world.now.script c.args.world.now.trace c.args.progress.now.items
    c.args.booked.now.items c.requires.older c.trace-trace.ensures.run
    c.trace-trace.result.now c.trace-trace.ensures.trace c.len-count.result c.len-count.ensures
    (entry_seen c.in-Some.entry) c.in-Some.ensures c.in-Session.session c.in-Session.is in
    let room = c.requires.room in omega (arith, few, room)

pub returns-in-Session-clause-progress : goal.returns-in-Session-clause-progress
returns-in-Session-clause-progress c =
    last.progress-now c.args.world.now.script c.args.world.now.trace c.args.progress.now.items c.args.booked.now.items
    c.requires.older c.trace-trace.ensures.run
    c.trace-trace.result.now c.trace-trace.ensures.trace c.len-count.result c.len-count.ensures
    (entry_seen c.in-Some.entry) c.in-Some.ensures c.in-Session.session c.in-Session.is
    c.index_mut.result.now c.book_notes.new.progress
    (slice_get-get_or c.args.progress.now.items (c.in-Session.session.0 - 1) _
    (last.within c.args.world.now.script c.args.world.now.trace c.args.progress.now.items c.args.booked.now.items
    c.requires.older c.trace-trace.ensures.run
    c.trace-trace.result.now c.trace-trace.ensures.trace c.len-count.result c.len-count.ensures
    (entry_seen c.in-Some.entry) c.in-Some.ensures c.in-Session.session c.in-Session.is)
    ∙ ap (λ p. Some p) (sym c.index_mut.ensures.value))
    c.book_notes.ensures.progress

pub returns-in-Session-clause-booked : goal.returns-in-Session-clause-booked
returns-in-Session-clause-booked c =
    last.booked-now c.args.world.now.script c.args.world.now.trace c.args.progress.now.items c.args.booked.now.items c.requires.older c.trace-trace.ensures.run
    c.trace-trace.result.now c.trace-trace.ensures.trace c.len-count.result c.len-count.ensures
    (entry_seen c.in-Some.entry) c.in-Some.ensures c.in-Session.session c.in-Session.is
    c.index_mut.result.now c.book_notes.new.booked.items
    (slice_get-get_or c.args.progress.now.items (c.in-Session.session.0 - 1) _
    (last.within c.args.world.now.script c.args.world.now.trace c.args.progress.now.items c.args.booked.now.items
    c.requires.older c.trace-trace.ensures.run
    c.trace-trace.result.now c.trace-trace.ensures.trace c.len-count.result c.len-count.ensures
    (entry_seen c.in-Some.entry) c.in-Some.ensures c.in-Session.session c.in-Session.is)
    ∙ ap (λ p. Some p) (sym c.index_mut.ensures.value))
    c.book_notes.ensures.booked

pub returns-in_default-actor : goal.returns-in_default-actor
returns-in_default-actor c =
    record {
      run = c.trace-trace.ensures.run;
      progress = last.progress-stays c.args.world.now.script c.args.world.now.trace c.args.progress.now.items
          c.args.booked.now.items c.requires.older c.trace-trace.ensures.run
          c.trace-trace.result.now c.trace-trace.ensures.trace c.len-count.result c.len-count.ensures
          (entry_seen c.in-Some.entry) c.in-Some.ensures c.in_default-actor.not-Session;
      booked = last.booked-stays c.args.world.now.script c.args.world.now.trace c.args.progress.now.items
          c.args.booked.now.items c.requires.older c.trace-trace.ensures.run
          c.trace-trace.result.now c.trace-trace.ensures.trace c.len-count.result c.len-count.ensures
          (entry_seen c.in-Some.entry) c.in-Some.ensures c.in_default-actor.not-Session;
    }
