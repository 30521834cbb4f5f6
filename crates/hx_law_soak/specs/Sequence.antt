-- What the calls of a generated script add up to where they are taken one after the other on one map; no server, message or trace stands in this.
use Rattle.std.specs.Prelude.{ℕ, ◌+◌, Bool, true, false, List, [], ◌∷◌, ◌++◌, map, if◌then◌else◌, Option, None, Some}
use Rattle.std.specs.List.{fold}
use Rattle.std.specs.Option.{option_map}
use Rattle.hx_model.specs.Types.{Effect, Op, Space, Value}
use Rattle.hx_types.specs.Effects.{effect_of, key_of}
use Rattle.hx_types.specs.Fitting.{is_cmp_fail, is_done, is_found, is_not_found}
use Rattle.hx_types.specs.Words.{below, list_of, same_text, text_below, when_some}
use Rattle.hx_soak.specs.Calling.{call_drawn}
use Rattle.hx_soak.specs.Drawing.{draw_of}
use Rattle.hx_soak.specs.Soaking.{session_at, soak}
use Rattle.hx_soak.specs.Tallying.{KeyObject, Tally}

-- the object of a key, if the map has one
abbrev pub object_at : List ℕ → List KeyObject → Option (List Value)
object_at key [] = None
object_at key (o ∷ rest) = if same_text o.key key then Some o.object else object_at key rest

abbrev pub keyed : List ℕ → Option (List Value) → List KeyObject
keyed key object = list_of (option_map (λ (v : List Value). record { key = key; object = v }) object)

-- the map in which a key has this object, or none; objects stand in byte order of keys
abbrev pub with_object : List ℕ → Option (List Value) → List KeyObject → List KeyObject
with_object key object [] = keyed key object
with_object key object (o ∷ rest) =
    if same_text key o.key then keyed key object ++ rest
    else if text_below key o.key then keyed key object ++ o ∷ rest
    else o ∷ with_object key object rest

abbrev pub one_if : Bool → ℕ
one_if true = 1
one_if false = 0

-- one more call on a key: its answer is counted, and its object stands in the map
abbrev pub with_effect : Tally → List ℕ → Effect → Tally
with_effect t key e =
    record {
      calls = t.calls + 1;
      done = t.done + one_if (is_done e.answer);
      not_found = t.not_found + one_if (is_not_found e.answer);
      cmp_fail = t.cmp_fail + one_if (is_cmp_fail e.answer);
      found = t.found + one_if (is_found e.answer);
      searches = t.searches;
      objects = with_object key e.object t.objects;
    }

-- one more search: it changes nothing
abbrev pub with_search : Tally → Tally
with_search t = record t { calls = t.calls + 1; searches = t.searches + 1 }

-- one more call: a generated script has searches and calls on keys alone
abbrev pub taken : Space → Tally → Op → Tally
taken space t op = when_some (key_of op) (with_search t) (λ (key : List ℕ). with_effect t key (effect_of space (object_at key t.objects) op))

-- before the first call
abbrev pub no_calls : Tally
no_calls = record { calls = 0; done = 0; not_found = 0; cmp_fail = 0; found = 0; searches = 0; objects = [] }

-- the call of a turn, from 0
abbrev pub op_at : ℕ → ℕ → Op
op_at seed turn = call_drawn (session_at turn) (draw_of seed turn)

-- the calls in the order in which they are drawn, whichever sessions they are dealt to
abbrev pub ops_drawn : ℕ → ℕ → List Op
ops_drawn seed calls = map (op_at seed) (below calls)

-- what they add up to, one after the other
abbrev pub tally_in_order : ℕ → ℕ → Tally
tally_in_order seed calls = fold (taken soak) no_calls (ops_drawn seed calls)
