-- Histories that are not linear, one for each reason.
use Rattle.std.specs.Prelude.{◌≡◌, List, [], ◌∷◌, Some, ◌==◌}
use Rattle.hx_model.specs.Types.{Entry, Get, Item, Script}
use Rattle.hx_types.specs.declared.calls.Answer.TheVariants as an_answer
use Rattle.hx_types.specs.Words.{IsBefore}
use Rattle.hx_model.specs.Histories.{history_of}
use Rattle.hx_model.specs.Linear.{IsLinear}
use Rattle.std.proofs.Common.{refl, inl, inr, ap, sym}
use Rattle.hx_model.proofs.SmallSpace.{blue, caller, red, version}
use Rattle.hx_model.proofs.HandMade.{assigned, began, called, ended, of_color, put_color, finds_blue, never, put_item, the_key}

-- a put of red, a put of blue and a get, by three sessions
abbrev script : Script
script = called ((put_color red ∷ []) ∷ (put_color blue ∷ []) ∷ (Get the_key ∷ []) ∷ [])

-- a get finds what nobody wrote
abbrev found_otherwise : List Entry
found_otherwise =
    ended 3 1 1 (an_answer.Found (of_color blue)) ∷ began 3 1 ∷ ended 1 1 1 an_answer.Done ∷ assigned 1 1 1 red ∷ began 1 1 ∷ []

abbrev get_item : Item
get_item =
    record { version = version 1; caller = caller 3 1; op = Get the_key; answer = an_answer.Found (of_color blue); object = Some (of_color red) }

its_history : history_of script the_key found_otherwise ≡ get_item ∷ put_item 1 1 1 red ∷ []
its_history = refl

apart : ¬ (an_answer.Found (of_color blue) ≡ an_answer.Found (of_color red))
apart e = never (ap finds_blue e)

not_legal : ¬ IsLinear script found_otherwise the_key
not_legal = λ l. absurd (apart (l.legal.0.answer))

-- a put is answered, and stands in no history
abbrev lost_write : List Entry
lost_write = ended 1 1 1 an_answer.Done ∷ began 1 1 ∷ []

not_complete : ¬ IsLinear script lost_write the_key
not_complete = λ l.
    let x = l.answered_once (caller 1 1) an_answer.Done
    (record {
      op = put_color red;
      called = refl;
      on_key = refl;
      entry = 2;
      version = version 1;
      ended = refl;
      not_refused = refl;
    }) in
    absurd (x.1)

-- a put stands in the history that never began
abbrev never_begun : List Entry
never_begun = assigned 1 1 1 red ∷ []

not_begun : ¬ IsLinear script never_begun the_key
not_begun = λ l. never (sym ((l.honest.calls (put_item 1 1 1 red) (inl refl)).begun))

-- a put stands in the history twice
abbrev written_twice : List Entry
written_twice = ended 1 1 1 an_answer.Done ∷ assigned 2 1 1 red ∷ assigned 1 1 1 red ∷ began 1 1 ∷ []

not_once : ¬ IsLinear script written_twice the_key
not_once = λ l. absurd (l.honest.once.0 (put_item 1 1 1 red) (inl refl) refl)

-- the put of red ended before that of blue began, and stands behind it
abbrev out_of_order : List Entry
out_of_order = ended 2 1 1 an_answer.Done ∷ began 2 1 ∷ ended 1 1 2 an_answer.Done ∷ assigned 2 1 1 red ∷ began 1 1 ∷ assigned 1 2 1 blue ∷ []

their_history : history_of script the_key out_of_order ≡ put_item 2 1 1 red ∷ put_item 1 2 1 blue ∷ []
their_history = refl

behind : ¬ IsBefore (put_item 1 2 1 blue) (put_item 2 1 1 red) (put_item 2 1 1 red ∷ put_item 1 2 1 blue ∷ [])
behind (inl (e, h)) = never (ap (λ (x : Item). x.version.0 == 1) e)
behind (inr (inl (e, h))) = absurd h
behind (inr (inr h)) = absurd h

not_in_order : ¬ IsLinear script out_of_order the_key
not_in_order = λ l. absurd (behind (l.in_order (put_item 2 1 1 red) (put_item 1 2 1 blue) 5 (inl refl) (inr (inl refl)) refl refl))
