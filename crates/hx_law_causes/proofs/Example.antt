-- A run in which leaders halt, a new one tells a doubt and refuses a write, and a joiner is made ready: so the premises of the laws can be met.
use Rattle.hx_law_lemmas.proofs.Lemmas.Vocabulary.{[], Add, All, All-from_recursion, arith, Assign, AssignFits, AssignsFit, Config, config_of, Entry, Fits}
use Rattle.hx_law_lemmas.proofs.Lemmas.Vocabulary.{HasCauses, head_of, IsRun, IsScript, key_region, List, lists_joining, lists_ready, map, next_entry, None, Op}
use Rattle.hx_law_lemmas.proofs.Lemmas.Vocabulary.{option_map, pos, Put, Record, records_of, refl, scheduled, Script, Server, Session, Some, Space, stepped}
use Rattle.hx_law_lemmas.proofs.Lemmas.Vocabulary.{true, ◌∷◌, ◌≡◌, ◌≢◌}
use Rattle.hx_types.specs.declared.calls.Answer.TheVariants as an_answer
use Rattle.hx_types.specs.declared.spaces.Kind.TheVariants as a_kind
use Rattle.hx_types.specs.declared.traces.Step.TheVariants as a_step
use Rattle.hx_types.specs.declared.values.Value.TheVariants as a_value
use Rattle.hx_law_lemmas.proofs.Lemmas.{small_books_are}
use Rattle.hx_law_causes.proofs.Headline.{runs_have_causes}
use Rattle.hx_law_causes.proofs.Replaying.{scheduled-run}

-- a space of books with names of one letter: two regions of keys, four of genres, two of years, on four servers, two to a region
abbrev pub space : Space
space =
    record {
      name = 98 ∷ [];
      key_name = 110 ∷ [];
      key_parts = 2;
      attributes = record { name = 103 ∷ []; kind = a_kind.Text } ∷ record { name = 121 ∷ []; kind = a_kind.Int (pos 1900) (pos 2099) } ∷ [];
      subspaces = (record { attribute = 1; parts = 4 } ∷ []) ∷ (record { attribute = 2; parts = 2 } ∷ []) ∷ [];
      servers = 4;
      tolerate = 1;
    }

-- what is put
abbrev pub sets : List Assign
sets = record { attribute = 1; value = a_value.Text (98 ∷ []) } ∷ record { attribute = 2; value = a_value.Int (pos 1999) } ∷ []

-- two writes of keys of the second region, and a replica to be added to it
abbrev pub script : Script
script = record {
  space = space;
  sessions = (Put (98 ∷ []) sets ∷ Put (100 ∷ []) sets ∷ [])
      ∷ (Add (record { 0 = 4 }) (record { 0 = 1 }) ∷ []) ∷ [];
  steps = [];
}

-- the key's leader, server 2, assigns the first write; the next replica, server 3, takes it and passes it on; then servers 1 and 2 halt
abbrev pub first_part : List Entry
first_part = stepped script [] (
    a_step.Tick (Session (record { 0 = 1 })) ∷ a_step.Deliver (record { entry = 1; place = 0 }) ∷ a_step.Deliver (record { entry = 2; place = 0 })
    ∷ a_step.Halt (Server (record { 0 = 1 })) ∷ a_step.Halt (Server (record { 0 = 2 })) ∷ []
    )

-- then all goes by the schedule
abbrev pub trace : List Entry
trace = scheduled script first_part 60

key_is : key_region space (98 ∷ []) ≡ record { 0 = 1 }
key_is = refl

other_is : key_region space (100 ∷ []) ≡ record { 0 = 1 }
other_is = refl

-- the first write is in doubt, told by the new leader, the second refused for the lost place, and the replica added
its_answers : map (λ (r : Record). r.answer) (records_of script trace)
    ≡ Some (an_answer.Doubt (record { 0 = 4 }) (record { 0 = 3 })) ∷ Some (an_answer.Refused (record { 0 = 4 }) (record { 0 = 3 }))
    ∷ Some (an_answer.Issued (record { 0 = 4 })) ∷ []
its_answers = refl

-- the second region's leader is replaced
its_leaders : option_map (λ (c : Config). head_of c (record { 0 = 1 })) (config_of script (record { 0 = 1 }) trace) ≡ Some (Some (record { 0 = 2 }))
its_leaders = refl

its_next_leader : option_map (λ (c : Config). head_of c (record { 0 = 1 })) (config_of script (record { 0 = 3 }) trace) ≡ Some (Some (record { 0 = 3 }))
its_next_leader = refl

-- and the joiner becomes ready
its_joiner : option_map (λ (c : Config). lists_joining c (record { 0 = 1 }) (record { 0 = 4 })) (config_of script (record { 0 = 4 }) trace) ≡ Some true
its_joiner = refl

its_ready : option_map (λ (c : Config). lists_ready c (record { 0 = 1 }) (record { 0 = 4 })) (config_of script (record { 0 = 5 }) trace) ≡ Some true
its_ready = refl

-- nothing is left to be done
its_end : next_entry script trace ≡ None
its_end = refl

-- what is put fits the space
pub sets_fit : AssignsFit space sets
sets_fit = record {
  each = All-from_recursion (AssignFits space) sets ((omega arith, omega arith), ((omega arith, tt), tt));
  once = (All-from_recursion (λ m. m ≢ 1) (2 ∷ []) ((λ q. omega arith), tt), (All-from_recursion (λ m. m ≢ 2) [] tt, tt));
}

-- the script is valid
pub its_script : IsScript script
its_script = record {
  space = small_books_are (98 ∷ []) (110 ∷ []) space.attributes space.subspaces refl refl refl refl;
  sessions = omega arith;
  calls = All-from_recursion (λ (calls : List Op). All (Fits space) calls) script.sessions (
    All-from_recursion (Fits space) (Put (98 ∷ []) sets ∷ Put (100 ∷ []) sets ∷ []) ((omega arith, sets_fit), ((omega arith, sets_fit), tt)),
    (All-from_recursion (Fits space) (Add (record { 0 = 4 }) (record { 0 = 1 }) ∷ []) (((omega arith, omega arith), omega arith), tt), tt),
  );
  few_calls = omega arith;
  few_steps = omega arith;
}

-- and the trace is a run of it
pub its_start : IsRun script first_part
its_start = (
  record { actor = refl; running = refl; input = tt; made = refl; enough = refl },
  (
    record { actor = refl; running = refl; input = tt; made = refl; enough = refl },
    (
      record { actor = refl; running = refl; input = refl; made = refl; enough = refl },
      (
        record { actor = refl; running = refl; input = refl; made = refl; enough = refl },
        (record { actor = refl; running = refl; input = tt; made = refl; enough = refl }, tt),
      ),
    ),
  ),
)

its_run : IsRun script trace
its_run = scheduled-run script its_script first_part its_start 60

-- so each answer of it has its cause
its_causes : HasCauses script trace
its_causes = runs_have_causes script its_script trace its_run
