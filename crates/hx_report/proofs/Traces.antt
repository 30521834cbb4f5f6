-- The lines of traces, by computing.
use Rattle.std.specs.Prelude.{◌≡◌, true, false, [], ◌∷◌, codes, None}
use Rattle.std.specs.Fmt.{digits}
use Rattle.hx_model.specs.Types.{Config, Get, Put, Script, Update}
use Rattle.hx_types.specs.declared.calls.Answer.TheVariants as an_answer
use Rattle.hx_types.specs.declared.messages.Message.TheVariants as a_message
use Rattle.hx_types.specs.declared.values.Value.TheVariants as a_value
use Rattle.hx_model.specs.Schedule.{scheduled}
use Rattle.hx_print.specs.Printing.{actor_text, post_name}
use Rattle.hx_report.specs.Tracing.{entries_text, entry_line, field_text, input_text, message_text, post_head}
use Rattle.hx_report.specs.Tracing.{post_line, posts_text, reconfiguration_text, trace_text}
use Rattle.hx_report.proofs.Reports.{one}
use Rattle.std.proofs.Common.{refl}

abbrev only_put : Script
only_put =
    record {
      space = one;
      sessions = (Put (codes "a") (record { attribute = 1; value = a_value.Text (codes "x") } ∷ []) ∷ []) ∷ [];
      steps = [];
    }

-- one server, a put
put_alone :
    trace_text true (scheduled only_put [] 3)
    ≡ codes "entry 1 u1 tick\npost 1.0 s1 call epoch 1 number 1\nentry 2 s1 deliver 1.0\npost 2.0 u1 reply number 1 version 1\nentry 3 u1 deliver 2.0\n"
unfolding digits actor_text post_name entries_text entry_line field_text input_text message_text post_head post_line posts_text reconfiguration_text trace_text
put_alone = refl

-- the same, where its lines aren't wanted
unwanted : trace_text false (scheduled only_put [] 3) ≡ []
unfolding trace_text
unwanted = refl

abbrev tenth : Config
tenth = record { epoch = record { 0 = 10 }; servers = []; regions = [] }

abbrev third : Update
third =
    record {
      key = codes "a";
      version = record { 0 = 3 };
      caller = record { session = record { 0 = 1 }; number = 4 };
      answer = an_answer.Done;
      changes = true;
      object = None;
      places = [];
    }

-- the messages of calls and searches, and those along chains
each_message :
    message_text (a_message.Call (record { 0 = 1 }) 2 (Get (codes "a")))
    ∷ message_text (a_message.Reply 2 (record { 0 = 3 }) an_answer.Done)
    ∷ message_text (a_message.Update (record { 0 = 1 }) (record { 0 = 0 }) third)
    ∷ message_text (a_message.Ack (record { 0 = 1 }) (record { 0 = 5 }) (record { 0 = 0 }) (codes "a") (record { 0 = 3 }))
    ∷ message_text (a_message.Ask (record { 0 = 1 }) 2 (record { 0 = 5 }) [])
    ∷ message_text (a_message.Found (record { 0 = 1 }) 2 (record { 0 = 5 }) [])
    ∷ []
    ≡ codes "call epoch 1 number 2"
    ∷ codes "reply number 2 version 3"
    ∷ codes "update epoch 1 region 0 version 3"
    ∷ codes "ack epoch 1 region 5 version 3"
    ∷ codes "ask epoch 1 number 2 region 5"
    ∷ codes "found epoch 1 number 2 region 5"
    ∷ []
unfolding digits field_text message_text
each_message = refl

-- the messages on configurations
each_reconfiguration :
    message_text (a_message.Seal (record { 0 = 1 }))
    ∷ message_text (a_message.Sealed (record { 0 = 1 }))
    ∷ message_text (a_message.Install tenth)
    ∷ message_text a_message.Die
    ∷ message_text a_message.Gone
    ∷ message_text (a_message.StopServer 2 (record { 0 = 4 }))
    ∷ message_text (a_message.AddReplica 2 (record { 0 = 4 }) (record { 0 = 5 }))
    ∷ message_text (a_message.Outcome 2 (an_answer.Member (record { 0 = 1 })))
    ∷ message_text (a_message.Snap (record { 0 = 1 }) (record { 0 = 5 }) [] (third ∷ []))
    ∷ message_text (a_message.Ready (record { 0 = 1 }) (record { 0 = 5 }))
    ∷ message_text (a_message.Poll (record { 0 = 1 }))
    ∷ []
    ≡ codes "seal epoch 1"
    ∷ codes "sealed epoch 1"
    ∷ codes "install epoch 10"
    ∷ codes "die"
    ∷ codes "gone"
    ∷ codes "stop number 2 server 4"
    ∷ codes "add number 2 server 4 region 5"
    ∷ codes "answer number 2"
    ∷ codes "snap epoch 1 region 5"
    ∷ codes "ready epoch 1 region 5"
    ∷ codes "poll epoch 1"
    ∷ []
unfolding digits field_text message_text reconfiguration_text
each_reconfiguration = refl
