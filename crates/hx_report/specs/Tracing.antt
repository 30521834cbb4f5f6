-- The lines of a trace: each entry with its number and its input, and each of its posts with its receiver, its kind and its numbers; traces stand newest first.
use Rattle.std.specs.Prelude.{ℕ, ◌+◌, Bool, true, false, List, [], ◌∷◌, ◌++◌, reverse, codes}
use Rattle.std.specs.Fmt.{decimal}
use Rattle.hx_model.specs.Types.{Entry, Input, Message, Post}
use Rattle.hx_types.specs.declared.traces.Input.TheVariants as an_input
use Rattle.hx_types.specs.declared.messages.Message.TheVariants as a_message
use Rattle.hx_print.specs.Printing.{actor_text, post_name}

-- ` NAME N`
unfoldable pub field_text : List ℕ → ℕ → List ℕ
field_text name n = codes " " ++ name ++ codes " " ++ decimal n

-- the kind and the shown numbers of a message on configurations; the other messages don't come here
unfoldable pub reconfiguration_text : Message → List ℕ
reconfiguration_text (a_message.Seal epoch) = codes "seal" ++ field_text (codes "epoch") epoch.0
reconfiguration_text (a_message.Sealed epoch) = codes "sealed" ++ field_text (codes "epoch") epoch.0
reconfiguration_text (a_message.Install config) = codes "install" ++ field_text (codes "epoch") config.epoch.0
reconfiguration_text a_message.Die = codes "die"
reconfiguration_text a_message.Gone = codes "gone"
reconfiguration_text (a_message.StopServer number server) = codes "stop" ++ field_text (codes "number") number ++ field_text (codes "server") server.0
reconfiguration_text (a_message.AddReplica number server region) =
    codes "add" ++ field_text (codes "number") number ++ field_text (codes "server") server.0 ++ field_text (codes "region") region.0
reconfiguration_text (a_message.Outcome number answer) = codes "answer" ++ field_text (codes "number") number
reconfiguration_text (a_message.Snap epoch region snapshot pending) = codes "snap" ++ field_text (codes "epoch") epoch.0 ++ field_text (codes "region") region.0
reconfiguration_text (a_message.Ready epoch region) = codes "ready" ++ field_text (codes "epoch") epoch.0 ++ field_text (codes "region") region.0
reconfiguration_text (a_message.Poll epoch) = codes "poll" ++ field_text (codes "epoch") epoch.0
reconfiguration_text other = []

-- the kind of a message and the numbers that are shown of it
unfoldable pub message_text : Message → List ℕ
message_text (a_message.Call epoch number op) = codes "call" ++ field_text (codes "epoch") epoch.0 ++ field_text (codes "number") number
message_text (a_message.Reply number version answer) = codes "reply" ++ field_text (codes "number") number ++ field_text (codes "version") version.0
message_text (a_message.Update epoch region update) =
    codes "update" ++ field_text (codes "epoch") epoch.0 ++ field_text (codes "region") region.0 ++ field_text (codes "version") update.version.0
message_text (a_message.Ack epoch region by key version) =
    codes "ack" ++ field_text (codes "epoch") epoch.0 ++ field_text (codes "region") region.0 ++ field_text (codes "version") version.0
message_text (a_message.Ask epoch number region terms) =
    codes "ask" ++ field_text (codes "epoch") epoch.0 ++ field_text (codes "number") number ++ field_text (codes "region") region.0
message_text (a_message.Found epoch number region rows) =
    codes "found" ++ field_text (codes "epoch") epoch.0 ++ field_text (codes "number") number ++ field_text (codes "region") region.0
message_text other = reconfiguration_text other

unfoldable pub input_text : Input → List ℕ
input_text an_input.Tick = codes "tick"
input_text an_input.Halt = codes "halt"
input_text (an_input.Deliver id from message) = codes "deliver " ++ post_name id

-- `post E.P A`, with the receiver
unfoldable pub post_head : ℕ → ℕ → Post → List ℕ
post_head entry place p = codes "post " ++ post_name (record { entry = entry; place = place }) ++ codes " " ++ actor_text p.to

unfoldable pub post_line : ℕ → ℕ → Post → List ℕ
post_line entry place p = post_head entry place p ++ codes " " ++ message_text p.message ++ codes "\n"

-- the posts of an entry from a place on
unfoldable pub posts_text : ℕ → ℕ → List Post → List ℕ
posts_text entry place [] = []
posts_text entry place (p ∷ rest) = post_line entry place p ++ posts_text entry (place + 1) rest

-- `entry E A` and the input
unfoldable pub entry_line : ℕ → Entry → List ℕ
entry_line number x = codes "entry " ++ decimal number ++ codes " " ++ actor_text x.actor ++ codes " " ++ input_text x.input ++ codes "\n"

-- entries in their order from a number on, each before its posts
unfoldable pub entries_text : ℕ → List Entry → List ℕ
entries_text number [] = []
entries_text number (x ∷ rest) = entry_line number x ++ posts_text number 0 x.outputs ++ entries_text (number + 1) rest

-- the lines of a trace, oldest entry first; none where they aren't wanted
unfoldable pub trace_text : Bool → List Entry → List ℕ
trace_text false trace = []
trace_text true trace = entries_text 1 (reverse trace)
