-- A run of overlapping configurations, computed: a server is left out while messages of it are under way to servers of the configuration before.
use Rattle.std.specs.Prelude.{List, [], ◌∷◌, length, Some}
use Rattle.std.proofs.Common.{◌≡◌, true, refl, arith}
use Rattle.std.proofs.lemmas.List.Elements.{All-from_recursion}
use Rattle.std.specs.List.{All}
use Rattle.hx_model.specs.Types.{Config, Entry, Message, Op, Post, PostId, Script, Server, Step, Stop}
use Rattle.hx_types.specs.declared.messages.Message.TheVariants as a_message
use Rattle.hx_types.specs.Fitting.{IsScript}
use Rattle.hx_types.specs.Spaces.{Fits}
use Rattle.hx_types.specs.Words.{IsIn, post}
use Rattle.hx_model.specs.Histories.{line_of}
use Rattle.hx_model.specs.Runs.{IsRun, coordinator_of, post_named, server_of}
use Rattle.hx_model.specs.Schedule.{delivery_of, entry_by, stepped}
use Rattle.hx_model.specs.ServerSteps.{if_installed, replica_of}
use Rattle.hx_model.specs.Slots.{KeyState}
use Rattle.hx_model.proofs.Lemmas.{blue, configured, epoch, first_update, key_slot, other_slot, put_color, ready, red, region, replica}
use Rattle.hx_model.proofs.Lemmas.{second_update, server, shop, the_key, version}
use Rattle.hx_law_lemmas.specs.Words.{posts_of}
use Rattle.hx_law_lemmas.proofs.Lemmas.{arrived}
use Rattle.hx_tests.proofs.SnapshotRun.{call_by, colors_fit, deliver, its_space}
use Rattle.hx_tests.proofs.Stepped.{go_on, stepped_run}

-- two sessions put one color after another, and a third stops server 2
abbrev pub script : Script
script = record { space = shop; sessions = (put_color red ∷ []) ∷ (put_color blue ∷ []) ∷ (Stop (server 2) ∷ []) ∷ []; steps = [] }

-- red is committed by servers 3 and 2, but not yet by server 1; blue is accepted by servers 1 and 2, but not yet by server 3
abbrev puts : List Step
puts =
    call_by 1 ∷ deliver 1 0 ∷ deliver 2 0 ∷ deliver 3 0 ∷ deliver 4 0 ∷ deliver 5 0 ∷ deliver 6 0
    ∷ call_by 2 ∷ deliver 8 0 ∷ deliver 9 0 ∷ deliver 10 0 ∷ []

-- server 2 halts, and the configuration of epoch 2 is issued without it
abbrev stops : List Step
stops = call_by 3 ∷ deliver 12 0 ∷ deliver 13 0 ∷ deliver 14 0 ∷ []

abbrev pub written : List Entry
written = stepped script [] puts

abbrev pub trace : List Entry
trace = stepped script written stops

its_length : length trace ≡ 15
its_length = refl

-- ---- it is a run of a valid script

pub its_script : IsScript script
its_script = record {
  space = its_space;
  sessions = omega arith;
  calls = All-from_recursion (λ (calls : List Op). All (Fits shop) calls) script.sessions (
    All-from_recursion (Fits shop) (put_color red ∷ []) ((omega arith, colors_fit red (omega arith)), tt),
    (
      All-from_recursion (Fits shop) (put_color blue ∷ []) ((omega arith, colors_fit blue (omega arith)), tt),
      (All-from_recursion (Fits shop) (Stop (server 2) ∷ []) ((omega arith, omega arith), tt), tt),
    ),
  );
  few_calls = omega arith;
  few_steps = omega arith;
}

go_on_to_puts : go_on script [] puts ≡ true
go_on_to_puts = refl

go_on_to_stops : go_on script written stops ≡ true
go_on_to_stops = refl

pub its_run : IsRun script trace
its_run = stepped_run script written (stepped_run script [] tt puts go_on_to_puts) stops go_on_to_stops

-- ---- who has which configuration

-- that of epoch 1, which servers 1 and 3 have still
abbrev pub old : Config
old = configured 1 (1 ∷ 2 ∷ 3 ∷ []) ((ready 1 ∷ ready 2 ∷ []) ∷ (ready 2 ∷ ready 3 ∷ []) ∷ (ready 3 ∷ ready 1 ∷ []) ∷ [])

pub first_has : (server_of script (server 1) trace).config ≡ old
first_has = refl

pub third_has : (server_of script (server 3) trace).config ≡ old
third_has = refl

-- the newest, without server 2
abbrev pub newest : Config
newest = configured 2 (1 ∷ 3 ∷ []) ((ready 1 ∷ []) ∷ (ready 3 ∷ []) ∷ (ready 3 ∷ ready 1 ∷ []) ∷ [])

pub its_newest : (coordinator_of script trace).config ≡ newest
its_newest = refl

second_halted : (server_of script (server 2) trace).halted ≡ true
second_halted = refl

-- ---- what is held

-- the key's line: red, and then blue
pub its_line : line_of the_key trace ≡ second_update ∷ first_update ∷ []
its_line = refl

-- the leader has accepted both and committed neither
abbrev pub leader_slot : KeyState
leader_slot = key_slot (second_update ∷ first_update ∷ []) 0 [] []

pub its_leader : if_installed (replica_of (region 0) (server_of script (server 1) trace).replicas) ≡ Some (replica 0 (leader_slot ∷ []))
its_leader = refl

-- server 3 has committed red, and hasn't blue
abbrev pub last_slot : KeyState
last_slot = other_slot (first_update ∷ []) 1 [] []

pub its_last : if_installed (replica_of (region 1) (server_of script (server 3) trace).replicas) ≡ Some (replica 1 (last_slot ∷ []))
its_last = refl

-- ---- what is under way from server 2

-- blue to server 3
abbrev pub update : Message
update = a_message.Update (epoch 1) (region 1) second_update

update_is_sent : post_named (record { entry = 11; place = 0 }) trace ≡ Some (post (Server (server 2)) (Server (server 3)) update)
update_is_sent = refl

pub its_update : IsIn (post (Server (server 2)) (Server (server 3)) update) (posts_of trace)
its_update = arrived (record { entry = 11; place = 0 }) trace (post (Server (server 2)) (Server (server 3)) update) update_is_sent

-- that red is committed, to server 1
abbrev pub ack : Message
ack = a_message.Ack (epoch 1) (region 0) (region 0) the_key (version 1)

ack_is_sent : post_named (record { entry = 7; place = 0 }) trace ≡ Some (post (Server (server 2)) (Server (server 1)) ack)
ack_is_sent = refl

pub its_ack : IsIn (post (Server (server 2)) (Server (server 1)) ack) (posts_of trace)
its_ack = arrived (record { entry = 7; place = 0 }) trace (post (Server (server 2)) (Server (server 1)) ack) ack_is_sent

-- ---- and then server 1 adopts the newest configuration, by which server 3 follows it

abbrev pub adopting : List Entry
adopting = stepped script trace (deliver 15 0 ∷ [])

-- it sends blue to server 3, which has the old one still
abbrev pub resent : Message
resent = a_message.Update (epoch 2) (region 1) second_update

abbrev pub resent_name : PostId
resent_name = record { entry = 16; place = 1 }

abbrev resent_post : Post
resent_post = post (Server (server 1)) (Server (server 3)) resent

resent_is_sent : post_named resent_name adopting ≡ Some resent_post
resent_is_sent = refl

-- where it arrives
abbrev pub meeting : Entry
meeting = entry_by script adopting (delivery_of resent_name resent_post)

abbrev meets : List Step
meets = deliver 15 0 ∷ deliver 16 1 ∷ []

go_on_to_meets : go_on script trace meets ≡ true
go_on_to_meets = refl

pub its_meeting : IsRun script (meeting ∷ adopting)
its_meeting = stepped_run script trace its_run meets go_on_to_meets
