-- The plain text of a script of several spaces. It is laid out as that of one space, and in each
-- call and step the name of a space stands behind the first word.
use Rattle.std.specs.Prelude.{◌≡◌, ℕ, ◌+◌, List, [], ◌∷◌, ◌++◌, codes, drop, map, slice_get, slice_set}
use Rattle.std.specs.List.{flat_map}
use Rattle.std.specs.Fmt.{decimal}
use Rattle.hx_bundle.specs.declared.bundles.Bundle.{Bundle}
use Rattle.hx_bundle.specs.declared.bundles.BundleStep.{BundleStep}
use Rattle.hx_types.specs.declared.calls.Op.{Op}
use Rattle.hx_types.specs.declared.calls.Op.TheVariants.{Put, Get, Del, Cput, Search, Stop, Add, Atomic}
use Rattle.hx_types.specs.declared.spaces.Space.{Space}
use Rattle.hx_types.specs.declared.traces.Script.{Script}
use Rattle.hx_types.specs.declared.traces.Step.{Step}
use Rattle.hx_types.specs.declared.traces.Step.TheVariants as a_step
use Rattle.hx_types.specs.Fitting.{calls_of}
use Rattle.hx_types.specs.Words.{when_some}
use Rattle.hx_print.specs.Printing.{actor_text, assigns_text, attribute_line, edits_text, key_line, post_name, quoted}
use Rattle.hx_print.specs.Printing.{servers_line, space_line, subspace_line, terms_text, tolerate_line}

-- ---- calls

abbrev pub op_word : Op → List ℕ
op_word (Put key sets) = codes "put"
op_word (Get key) = codes "get"
op_word (Del key) = codes "del"
op_word (Cput key tests sets) = codes "cput"
op_word (Search terms) = codes "search"
op_word (Stop server) = codes "stop"
op_word (Add server region) = codes "add"
op_word (Atomic key edits) = codes "atomic"

-- what stands behind the first word, from the blank on
unfoldable pub op_rest : Space → Op → List ℕ
op_rest space (Put key sets) = codes " " ++ quoted key ++ assigns_text space sets
op_rest space (Get key) = codes " " ++ quoted key
op_rest space (Del key) = codes " " ++ quoted key
op_rest space (Cput key tests sets) = codes " " ++ quoted key ++ codes " if" ++ assigns_text space tests ++ codes " set" ++ assigns_text space sets
op_rest space (Search terms) = terms_text space terms
op_rest space (Stop server) = codes " " ++ decimal server.0
op_rest space (Add server region) = codes " " ++ decimal server.0 ++ codes " " ++ decimal region.0
op_rest space (Atomic key edits) = codes " " ++ quoted key ++ edits_text space edits

-- a call with the name of its space, and its newline
unfoldable pub space_call_line : Space → Op → List ℕ
space_call_line space op = op_word op ++ codes " " ++ space.name ++ op_rest space op ++ codes "\n"

-- a call of the space of that number
abbrev pub call_line_in : List Script → ℕ × Op → List ℕ
call_line_in spaces c = when_some (slice_get spaces c.0) [] (λ (s : Script). space_call_line s.space c.1)

-- ---- calls in the order of the turns

-- the calls of a session that are left, to each space
abbrev pub hands_of : List Script → ℕ → List (List Op)
hands_of spaces number = map (λ (s : Script). calls_of s (record { 0 = number })) spaces

abbrev pub first_call : ℕ → List Op → List (ℕ × Op)
first_call k [] = []
first_call k (op ∷ rest) = (k, op) ∷ []

abbrev pub hand_at : List (List Op) → ℕ → List Op
hand_at hands k = when_some (slice_get hands k) [] (λ (calls : List Op). calls)

-- at each turn the next call of that space, with its number
abbrev pub calls_in_turn : List (List Op) → List ℕ → List (ℕ × Op)
calls_in_turn hands [] = []
calls_in_turn hands (k ∷ turns) = first_call k (hand_at hands k) ++ calls_in_turn (slice_set hands k (drop 1 (hand_at hands k))) turns

-- the next call of a turn was appended and taken, if there is one
pub record TakesTurn (spaces : List Script) (k : ℕ) (hands left : List (List Op)) (out more : List ℕ) : Type 0 where
  pub hands_left : left ≡ slice_set hands k (drop 1 (hand_at hands k))
  pub appended : more ≡ out ++ flat_map (call_line_in spaces) (first_call k (hand_at hands k))

unfoldable pub turns_text : List Script → List (List Op) → List ℕ → List ℕ
turns_text spaces hands turns = flat_map (call_line_in spaces) (calls_in_turn hands turns)

-- the line of a session, and its calls
unfoldable pub bundle_session_text : List Script → ℕ → List ℕ → List ℕ
bundle_session_text spaces number turns = codes "session " ++ decimal number ++ codes "\n" ++ turns_text spaces (hands_of spaces number) turns

-- the sessions from a number on
unfoldable pub bundle_sessions_text : List Script → ℕ → List (List ℕ) → List ℕ
bundle_sessions_text spaces number [] = []
bundle_sessions_text spaces number (turns ∷ rest) = bundle_session_text spaces number turns ++ bundle_sessions_text spaces (number + 1) rest

-- ---- steps

abbrev pub step_word : Step → List ℕ
step_word (a_step.Deliver id) = codes "deliver"
step_word (a_step.Tick a) = codes "tick"
step_word (a_step.Halt a) = codes "halt"

-- what stands behind the first word and its blank
unfoldable pub step_rest : Step → List ℕ
step_rest (a_step.Deliver id) = post_name id
step_rest (a_step.Tick a) = actor_text a
step_rest (a_step.Halt a) = actor_text a

unfoldable pub space_step_line : List ℕ → Step → List ℕ
space_step_line name s = step_word s ++ codes " " ++ name ++ codes " " ++ step_rest s ++ codes "\n"

-- a step of the space of its number
abbrev pub step_line_in : List Script → BundleStep → List ℕ
step_line_in spaces s = when_some (slice_get spaces s.space) [] (λ (x : Script). space_step_line x.space.name s.step)

-- the last section, left out where there are no steps
unfoldable pub bundle_steps_text : List Script → List BundleStep → List ℕ
bundle_steps_text spaces [] = []
bundle_steps_text spaces (s ∷ rest) = codes "steps\n" ++ flat_map (step_line_in spaces) (s ∷ rest)

-- ---- the whole

-- the lines from `servers` to `tolerate`, which all spaces share
unfoldable pub shared_text : List Script → List ℕ
shared_text [] = []
shared_text (s ∷ rest) = servers_line s.space.servers ++ tolerate_line s.space.tolerate

-- the lines of a space that are its own
unfoldable pub own_text : Space → List ℕ
own_text space =
    space_line space.name
    ++ key_line space.key_name space.key_parts
    ++ flat_map attribute_line space.attributes
    ++ flat_map (subspace_line space) space.subspaces

abbrev pub own_lines : Script → List ℕ
own_lines s = own_text s.space

-- the whole bundle, as a script of several spaces
unfoldable pub bundle_text : Bundle → List ℕ
bundle_text b = codes "hx 2\n" ++ shared_text b.spaces ++ flat_map own_lines b.spaces
    ++ bundle_sessions_text b.spaces 1 b.turns ++ bundle_steps_text b.spaces b.steps
