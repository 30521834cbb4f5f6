use Rattle.std.proofs.Common.{◌≡◌, ◌<◌, ◌⊎◌, ◌+◌, length, arith}
use Rattle.hx_trace.specs.Entries.{entry_seen}
use Rattle.hx_history.proofs.Rows.{entry_taken, same_shape, no_row_of}
use Rattle.hx_history.proofs.call_notes.take_entry.Goals as goal

pub returns-in-Some-clause-spans : goal.returns-in-Some-clause-spans
returns-in-Some-clause-spans c =
    let within : c.in-Some.row < length c.args.table.now.items = omega (arith, c.args.table.now.ok.0, c.in-Some.ensures.found.1) in
    let is : c.in-Some.row + 1 ≡ c.in-Session.session.0 = c.in-Some.ensures.found.0 in
    entry_taken (λ row. row.items) c.args.table.now.items c.in-Some.row c.index_mut.result.now c.take_notes.new.row within c.index_mut.ensures.value
    c.in-Session.session c.args.place (entry_seen c.args.entry) is c.in-Session.is
    c.take_notes.ensures.spans

pub returns-in-Some-clause-same_shape : goal.returns-in-Some-clause-same_shape
returns-in-Some-clause-same_shape c =
    let within : c.in-Some.row < length c.args.table.now.items = omega (arith, c.args.table.now.ok.0, c.in-Some.ensures.found.1) in
    same_shape (λ row. row.items) c.args.table.now.items c.in-Some.row c.index_mut.result.now c.take_notes.new.row within c.index_mut.ensures.value
    c.take_notes.ensures.len

pub returns-in_default-place_of-clause-spans : goal.returns-in_default-place_of-clause-spans
returns-in_default-place_of-clause-spans c =
    let none : (c.in-Session.session.0 ≡ 0) ⊎ (c.len.result < c.in-Session.session.0) = c.in_default-place_of.ensures.none in
    let long : c.len.result ≡ length c.args.table.now.items = omega (arith, c.args.table.now.ok.0) in
    no_row_of (λ row. row.items) c.args.table.now.items c.len.result long c.in-Session.session c.args.place (entry_seen c.args.entry) c.in-Session.is none
