-- Scripts with a call more, and what the schedule makes, computed on two sessions of the shop.
use Rattle.std.specs.Prelude.{◌≡◌, ℕ, List, [], ◌∷◌, length, None}
use Rattle.std.proofs.Common.{inl, refl, ap, arith}
use Rattle.hx_model.specs.Types.{Actor, Deliver, Entry, Get, Input, Op, PostId, Script, Server, Session, Tick}
use Rattle.hx_types.specs.declared.messages.Message.TheVariants as a_message
use Rattle.hx_model.specs.Runs.{entry_of, made_of}
use Rattle.hx_model.specs.Schedule.{next_entry, scheduled}
use Rattle.hx_model.proofs.Lemmas.{called, never, hand_made_put_color as put_color, hand_made_key as the_key, epoch, red, server, session}
use Rattle.hx_types.specs.Fitting.{calls_of}
use Rattle.hx_law_growing.specs.Alone.{IsNextCall, Made, script_made, trace_made}
use Rattle.hx_law_growing.specs.Growing.{GrowsTo, calls_in, with_call_of}
use Rattle.hx_law_growing.specs.Serving.{IsServed}

-- session 1 has a call, session 2 none
abbrev script : Script
script = called ((Get the_key ∷ []) ∷ [] ∷ [])

-- a call of session 1 stands after its first
first_has_two : with_call_of script (session 1) (put_color red) ≡ called ((Get the_key ∷ put_color red ∷ []) ∷ [] ∷ [])
first_has_two = refl

-- a call of session 2 is its first
second_has_one : with_call_of script (session 2) (put_color red) ≡ called ((Get the_key ∷ []) ∷ (put_color red ∷ []) ∷ [])
second_has_one = refl

two_calls : calls_in (with_call_of script (session 2) (put_color red)) ≡ 2
two_calls = refl

-- a script doesn't grow by a call in front of the others
abbrev key_got : Op → List ℕ
key_got (Get key) = key
key_got other = []

abbrev first_got : List Op → List ℕ
first_got [] = []
first_got (op ∷ rest) = key_got op

not_in_front : ¬ GrowsTo script (called ((put_color red ∷ Get the_key ∷ []) ∷ [] ∷ []))
not_in_front = λ g. let e = ap first_got (g.calls (session 1)).1 in absurd (cc)

-- nor by a session
no_new_session : ¬ GrowsTo script (called ((Get the_key ∷ []) ∷ [] ∷ [] ∷ []))
no_new_session = λ g. let e = g.sessions in absurd (omega (arith, e))

-- the schedule: session 1 begins its call, the leader answers, the session hears of it
abbrev whole : List Entry
whole = scheduled script [] 3

it_ends : next_entry script whole ≡ None
it_ends = refl

it_is_served : IsServed whole
it_is_served = (refl, (refl, ((1, inl refl), tt)))

-- an entry of what the actor makes of its input
abbrev made : List Entry → Actor → Input → Entry
made older a input = entry_of a input (made_of script older a input)

-- the session calls again before it is answered: that entry isn't one
no_second_tick : ¬ IsServed (made (scheduled script [] 1) (Session (session 1)) Tick ∷ scheduled script [] 1)
no_second_tick = λ s. s.0.1

-- nor is a second delivery of the call
abbrev its_name : PostId
its_name = record { entry = 1; place = 0 }

abbrev its_delivery : Input
its_delivery = Deliver its_name (Session (session 1)) (a_message.Call (epoch 1) 1 (Get the_key))

no_second_delivery : ¬ IsServed (made (scheduled script [] 2) (Server (server 1)) its_delivery ∷ scheduled script [] 2)
no_second_delivery = λ s. never s.0

-- one caller makes the call of session 1 and then that of session 2, with room for nine entries each
abbrev plan : Script
plan = called ((Get the_key ∷ []) ∷ (Get the_key ∷ []) ∷ [])

abbrev one_each : List Made
one_each = record { session = session 2; op = Get the_key; entries = 9 } ∷ record { session = session 1; op = Get the_key; entries = 9 } ∷ []

its_script : script_made plan one_each ≡ plan
its_script = refl

-- three entries a call, and then nothing is left to do
six_entries : trace_made plan one_each ≡ scheduled plan [] 6
six_entries = refl

nothing_left : next_entry plan (trace_made plan one_each) ≡ None
nothing_left = refl

-- session 2 may not come first
lower_first : ¬ IsNextCall plan [] (record { session = session 2; op = Get the_key; entries = 9 })
lower_first = λ n.
    let no : length (calls_of (script_made plan []) (session 1)) ≡ length (calls_of plan (session 1)) =
    ap (λ (l : List Op). length l) (n.lower (session 1) (omega arith)) in
    absurd (omega (arith, no))
