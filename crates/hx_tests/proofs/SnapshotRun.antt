-- A run with a snapshot under way to a joiner, computed: of the two updates of a key one is committed and one pending where the snapshot is made.
use Rattle.std.specs.Prelude.{◌≢◌, ◌<◌, ◌≤◌, ℕ, List, [], ◌∷◌, length, codes, None, Some}
use Rattle.std.proofs.Common.{◌≡◌, true, false, refl, arith}
use Rattle.std.proofs.lemmas.List.Elements.{All-from_recursion}
use Rattle.std.specs.List.{All}
use Rattle.hx_model.specs.Types.{Add, Attribute, Axis, Config, Entry, Kept, Op, Post, Script, Server, Session, Step, Update}
use Rattle.hx_types.specs.declared.calls.Answer.TheVariants as an_answer
use Rattle.hx_types.specs.declared.messages.Message.TheVariants as a_message
use Rattle.hx_types.specs.declared.traces.Step.TheVariants as a_step
use Rattle.hx_types.specs.declared.values.Value.TheVariants as a_value
use Rattle.hx_types.specs.Fitting.{IsScript}
use Rattle.hx_types.specs.Spaces.{ArePart, AssignFits, AssignsFit, Fits, IsKind, IsName, IsSpace, IsSubspaceOf, is_word}
use Rattle.hx_types.specs.Words.{IsIn, post}
use Rattle.hx_model.specs.Causes.{config_of}
use Rattle.hx_model.specs.Histories.{line_of}
use Rattle.hx_model.specs.Runs.{IsRun, coordinator_of, post_named, server_of}
use Rattle.hx_model.specs.Schedule.{stepped}
use Rattle.hx_model.specs.Slots.{KeyState}
use Rattle.hx_model.specs.ServerSteps.{if_installed, replica_of}
use Rattle.hx_model.proofs.Lemmas.{blue, configured, epoch, first_update, key_slot, mark, not_installed, other_slot}
use Rattle.hx_model.proofs.Lemmas.{put_color, ready, red, region, replica, row, second_update}
use Rattle.hx_model.proofs.Lemmas.{server, session, shop, the_key, touch, version}
use Rattle.hx_law_lemmas.specs.Words.{posts_of}
use Rattle.hx_law_lemmas.proofs.Lemmas.{arrived}
use Rattle.hx_tests.proofs.Stepped.{go_on, stepped_run}

-- two sessions put one color after another, and a third adds server 3 to the key's region
abbrev pub script : Script
script = record { space = shop; sessions = (put_color red ∷ []) ∷ (put_color blue ∷ []) ∷ (Add (server 3) (region 0) ∷ []) ∷ []; steps = [] }

abbrev pub call_by : ℕ → Step
call_by u = a_step.Tick (Session (session u))

abbrev pub deliver : ℕ → ℕ → Step
deliver entry place = a_step.Deliver (record { entry = entry; place = place })

-- the first put goes down its chain and up again, and is answered; the second is taken by both replicas of the key's region
abbrev puts : List Step
puts =
    call_by 1 ∷ deliver 1 0 ∷ deliver 2 0 ∷ deliver 3 0 ∷ deliver 4 0 ∷ deliver 5 0 ∷ deliver 6 0 ∷ deliver 7 0
    ∷ call_by 2 ∷ deliver 9 0 ∷ deliver 10 0 ∷ []

-- server 3, the joiner, and then server 2, the last that is ready, adopt the configuration of epoch 2
abbrev adds : List Step
adds = call_by 3 ∷ deliver 12 0 ∷ deliver 13 2 ∷ deliver 13 1 ∷ []

abbrev pub written : List Entry
written = stepped script [] puts

abbrev pub trace : List Entry
trace = stepped script written adds

its_length : length trace ≡ 15
its_length = refl

-- ---- it is a run of a valid script

pub colors_fit : (color : List ℕ) → length color ≤ 1 → AssignsFit shop (record { attribute = 1; value = a_value.Text color } ∷ [])
colors_fit color l = record {
  each = All-from_recursion (AssignFits shop) (record { attribute = 1; value = a_value.Text color } ∷ []) ((omega arith, omega (arith, l)), tt);
  once = (All-from_recursion (λ m. m ≢ 1) [] tt, tt);
}

a_name : (name : List ℕ) → is_word name ≡ true → length name ≤ 32 → name ≢ codes "if" → name ≢ codes "set" → IsName name
a_name name w l a b = record { word = w; short = omega (arith, l); not_if = a; not_set = b }

pub its_space : IsSpace shop
its_space = record {
  name = a_name shop.name refl (omega arith) (λ p. cc) (λ p. cc);
  key_name = a_name shop.key_name refl (omega arith) (λ p. cc) (λ p. cc);
  names = All-from_recursion (λ (a : Attribute). IsName a.name × IsKind a.kind) shop.attributes
      ((a_name (codes "color") refl (omega arith) (λ p. cc) (λ p. cc), tt), tt);
  names_differ = (
    All-from_recursion (λ (m : List ℕ). m ≢ codes "name") (codes "color" ∷ []) ((λ p. cc), tt),
    (All-from_recursion (λ (m : List ℕ). m ≢ codes "color") [] tt, tt),
  );
  attributes = omega arith;
  key_parts = (omega arith, omega arith);
  subspaces = All-from_recursion (IsSubspaceOf shop) shop.subspaces (
    record {
      some = omega arith;
      few = omega arith;
      declared = All-from_recursion (λ (a : Axis). (0 < a.attribute) × (a.attribute ≤ length shop.attributes)
          × ArePart a.parts) (record { attribute = 1; parts = 2 } ∷ [])
          ((omega arith, omega arith, (omega arith, omega arith)), tt);
      once = (All-from_recursion (λ m. m ≢ 1) [] tt, tt);
    },
    tt,
  );
  few_subspaces = omega arith;
  regions = omega arith;
  servers = (omega arith, omega arith);
  tolerate = (omega arith, omega arith);
}

pub its_script : IsScript script
its_script = record {
  space = its_space;
  sessions = omega arith;
  calls = All-from_recursion (λ (calls : List Op). All (Fits shop) calls) script.sessions (
    All-from_recursion (Fits shop) (put_color red ∷ []) ((omega arith, colors_fit red (omega arith)), tt),
    (
      All-from_recursion (Fits shop) (put_color blue ∷ []) ((omega arith, colors_fit blue (omega arith)), tt),
      (All-from_recursion (Fits shop) (Add (server 3) (region 0) ∷ []) (((omega arith, omega arith), omega arith), tt), tt),
    ),
  );
  few_calls = omega arith;
  few_steps = omega arith;
}

go_on_to_puts : go_on script [] puts ≡ true
go_on_to_puts = refl

go_on_to_adds : go_on script written adds ≡ true
go_on_to_adds = refl

pub its_run : IsRun script trace
its_run = stepped_run script written (stepped_run script [] tt puts go_on_to_puts) adds go_on_to_adds

-- ---- what is held after it

-- the key's line: red, and then blue
pub its_line : line_of the_key trace ≡ second_update ∷ first_update ∷ []
its_line = refl

-- the snapshot has what red left, and blue is pending
abbrev pub red_kept : Kept
red_kept =
    record {
      key = the_key;
      floor = version 1;
      object = Some (row the_key 1 red);
      marks = mark 1 1 1 an_answer.Done ∷ [];
      touches = touch 0 1 ∷ touch 1 1 ∷ [];
    }

abbrev pub snapshot : List Kept
snapshot = red_kept ∷ []

abbrev pub pending : List Update
pending = second_update ∷ []

-- the newest configuration has server 3 as a joiner
abbrev pub newest : Config
newest = configured 2 (1 ∷ 2 ∷ 3 ∷ []) ((ready 1 ∷ ready 2 ∷ record { server = server 3; ready = false } ∷ [])
    ∷ (ready 2 ∷ ready 3 ∷ []) ∷ (ready 3 ∷ ready 1 ∷ []) ∷ [])

pub its_newest : config_of script (epoch 2) trace ≡ Some newest
its_newest = refl

its_config : (coordinator_of script trace).config ≡ newest
its_config = refl

-- server 2 has sent it to server 3
abbrev sent : Post
sent = post (Server (server 2)) (Server (server 3)) (a_message.Snap (epoch 2) (region 0) snapshot pending)

it_is_sent : post_named (record { entry = 15; place = 0 }) trace ≡ Some sent
it_is_sent = refl

pub its_post : IsIn sent (posts_of trace)
its_post = arrived (record { entry = 15; place = 0 }) trace sent it_is_sent

-- whose replica isn't installed
its_joiner : replica_of (region 0) (server_of script (server 3) trace).replicas ≡ Some (not_installed 0)
its_joiner = refl

pub its_empty : if_installed (replica_of (region 0) (server_of script (server 3) trace).replicas) ≡ None
its_empty = refl

-- the sender's replica has both updates, of which red is committed
abbrev pub sent_slot : KeyState
sent_slot = key_slot (second_update ∷ first_update ∷ []) 1 [] []

pub its_sender : if_installed (replica_of (region 0) (server_of script (server 2) trace).replicas) ≡ Some (replica 0 (sent_slot ∷ []))
its_sender = refl

-- and so is it further down, in red's region
abbrev pub red_slot : KeyState
red_slot = other_slot (first_update ∷ []) 1 [] []

pub its_red_replica : if_installed (replica_of (region 1) (server_of script (server 2) trace).replicas) ≡ Some (replica 1 (red_slot ∷ []))
its_red_replica = refl

-- the put of red was answered
pub its_reply : IsIn (post (Server (server 1)) (Session (session 1)) (a_message.Reply 1 (version 1) an_answer.Done)) (posts_of trace)
its_reply = arrived (record { entry = 8; place = 0 }) trace (post (Server (server 1)) (Session (session 1)) (a_message.Reply 1 (version 1) an_answer.Done)) refl
