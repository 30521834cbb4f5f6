-- Finished searches of one key that are not whole or not true, one for each reason, and two that may look so and are.
use Rattle.std.specs.Prelude.{◌≡◌, ℕ, Bool, true, false, List, [], ◌∷◌, ◌==◌}
use Rattle.hx_model.specs.Types.{Entry, Equal, Row, Script, Server, Update, Version}
use Rattle.hx_types.specs.declared.calls.Answer.TheVariants as an_answer
use Rattle.hx_types.specs.declared.traces.Note.TheVariants as a_note
use Rattle.hx_types.specs.declared.values.Value.TheVariants as a_value
use Rattle.hx_types.specs.Words.{IsIn}
use Rattle.hx_model.specs.Linear.{began_before}
use Rattle.hx_model.specs.Searching.{FinishedSearch, IsSearchTrue, IsSearchWhole, IsTrueRow, ItemWithNewer, changes_object, no_change_before}
use Rattle.std.proofs.Common.{refl, inl, inr, ap, sym, ◌∙◌}
use Rattle.hx_model.proofs.SmallSpace.{blue, caller, red, server, version}
use Rattle.hx_model.proofs.HandMade.{assigned, began, called, ended, never, noted, of_color, put_color, put_item, is_blue, the_key, update_of}

-- a put of red and a put of blue by two sessions
abbrev script : Script
script = called ((put_color red ∷ []) ∷ (put_color blue ∷ []) ∷ [])

abbrev red_row : Row
red_row = record { key = the_key; version = version 1; object = of_color red }

-- a search of everything
abbrev search_of_all : ℕ → ℕ → List Row → FinishedSearch
search_of_all begin end rows = record { terms = []; begin = begin; end = end; rows = rows }

-- red was put by entry 3, and blue by entry 6
abbrev red_put : List Entry
red_put = ended 1 1 1 an_answer.Done ∷ assigned 1 1 1 red ∷ began 1 1 ∷ []

abbrev both_put : List Entry
both_put = ended 2 1 2 an_answer.Done ∷ assigned 2 2 1 blue ∷ began 2 1 ∷ red_put

-- the put ended before the search began, and isn't shown
left_out : ¬ IsSearchWhole script red_put the_key (search_of_all 4 5 [])
left_out = λ w. absurd (w refl refl)

-- it ended while the search went on: it may be left out
may_be_left_out : IsSearchWhole script red_put the_key (search_of_all 2 5 [])
may_be_left_out = λ e. absurd (never (sym e))

-- blue replaced red before the search began: red is a row no more, and blue is left out
still_red : ¬ IsSearchWhole script both_put the_key (search_of_all 7 8 (red_row ∷ []))
still_red = λ w. shown (w refl refl) where
  shown : ¬ IsIn (record { key = the_key; version = version 2; object = of_color blue }) (red_row ∷ [])
  shown (inl e) = never (sym (ap (λ (r : Row). r.version.0 == 1) e))
  shown (inr h) = absurd h

-- the cuts of a history of these puts
abbrev red_alone : List ItemWithNewer
red_alone = record { item = put_item 1 1 1 red; newer = [] } ∷ []

abbrev red_then_blue : List ItemWithNewer
red_then_blue = record { item = put_item 2 2 1 blue; newer = [] } ∷ record { item = put_item 1 1 1 red; newer = put_item 2 2 1 blue ∷ [] } ∷ []

abbrev has_version : ℕ → ItemWithNewer → Bool
has_version v c = c.item.version.0 == v

-- a row of version 1 is of the put of red
version_of : (s : FinishedSearch) (trace : List Entry) (t : IsTrueRow script trace s red_row) → has_version 1 t.cut ≡ true
version_of s trace t = ap (λ (v : Version). v.0 == 1) t.version

-- a row that was replaced before the search began
replaced : ¬ IsTrueRow script both_put (search_of_all 7 8 (red_row ∷ [])) red_row
replaced = λ t. by t t.stands where
  by : (t : IsTrueRow script both_put (search_of_all 7 8 (red_row ∷ [])) red_row) → ¬ IsIn t.cut red_then_blue
  by t (inl e) = never (sym (version_of _ _ t) ∙ ap (has_version 1) e)
  by t (inr (inl e)) = never (sym t.newest ∙ ap (λ (c : ItemWithNewer). no_change_before both_put 7 c.newer) e)
  by t (inr (inr h)) = absurd h

-- one that was replaced while the search went on is true
replaced_meanwhile : IsTrueRow script both_put (search_of_all 5 8 (red_row ∷ [])) red_row
replaced_meanwhile =
    record {
      cut = record { item = put_item 1 1 1 red; newer = put_item 2 2 1 blue ∷ [] };
      stands = inr (inl refl);
      changes = refl;
      version = refl;
      object = refl;
      match = refl;
      began = refl;
      newest = refl;
    }

-- a row of a put that began after the search had ended
too_new : ¬ IsTrueRow script red_put (search_of_all 1 1 (red_row ∷ [])) red_row
too_new = λ t. by t t.stands where
  by : (t : IsTrueRow script red_put (search_of_all 1 1 (red_row ∷ [])) red_row) → ¬ IsIn t.cut red_alone
  by t (inl e) = never (sym t.began ∙ ap (λ (c : ItemWithNewer). began_before red_put c.item.caller 1) e)
  by t (inr h) = absurd h

-- a row that doesn't match
abbrev search_of_blue : FinishedSearch
search_of_blue = record (search_of_all 4 5 (red_row ∷ [])) { terms = Equal 1 (a_value.Text blue) ∷ [] }

no_match : ¬ IsTrueRow script red_put search_of_blue red_row
no_match = λ t. never (sym t.match)

-- a row of a conditional put whose test failed
abbrev failed_update : Update
failed_update = record (update_of 1 (caller 1 1) red) { answer = an_answer.CmpFail; changes = false }

abbrev failed : List Entry
failed = ended 1 1 1 an_answer.CmpFail ∷ noted (Server (server 1)) (a_note.Assigned failed_update) ∷ began 1 1 ∷ []

abbrev failed_cut : List ItemWithNewer
failed_cut = record { item = record (put_item 1 1 1 red) { answer = an_answer.CmpFail }; newer = [] } ∷ []

no_change : ¬ IsTrueRow script failed (search_of_all 4 5 (red_row ∷ [])) red_row
no_change = λ t. by t t.stands where
  by : (t : IsTrueRow script failed (search_of_all 4 5 (red_row ∷ [])) red_row) → ¬ IsIn t.cut failed_cut
  by t (inl e) = never (sym t.changes ∙ ap (λ (c : ItemWithNewer). changes_object c.item) e)
  by t (inr h) = absurd h

-- a row of another object than was written
abbrev blue_row : Row
blue_row = record red_row { object = of_color blue }

other_object : ¬ IsTrueRow script red_put (search_of_all 4 5 (blue_row ∷ [])) blue_row
other_object = λ t. by t t.stands where
  by : (t : IsTrueRow script red_put (search_of_all 4 5 (blue_row ∷ [])) blue_row) → ¬ IsIn t.cut red_alone
  by t (inl e) = never (sym (ap is_blue t.object) ∙ ap (λ (c : ItemWithNewer). is_blue c.item.object) e)
  by t (inr h) = absurd h

-- a row of a key that nobody wrote
never_written : ¬ IsTrueRow script [] (search_of_all 4 5 (red_row ∷ [])) red_row
never_written = λ t. absurd t.stands

-- a row twice
twice : ¬ IsSearchTrue script red_put (search_of_all 4 5 (red_row ∷ red_row ∷ []))
twice = λ s. never (sym s.in_order)
