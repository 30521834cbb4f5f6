-- What an entry says, as it is lent.
use Rattle.hx_types.specs.declared.traces.Entry.{Entry}
use Rattle.hx_types.specs.declared.traces.Input.{Input}
use Rattle.hx_types.specs.declared.traces.Input.TheVariants.{Tick, Halt, Deliver}
use Rattle.hx_clock.specs.declared.lent.EntryRef.{EntryRef}
use Rattle.hx_clock.specs.declared.lent.InputRef.{InputRef}
use Rattle.hx_clock.specs.declared.lent.InputRef.TheVariants as a_ref

-- the input that is lent
abbrev pub input_seen : InputRef → Input
input_seen a_ref.Tick = Tick
input_seen a_ref.Halt = Halt
input_seen (a_ref.Deliver id from message) = Deliver id from message.now

-- the entry that is lent
abbrev pub entry_seen : EntryRef → Entry
entry_seen e = record { actor = e.actor; input = input_seen e.input; outputs = e.outputs.now; notes = e.notes.now }
