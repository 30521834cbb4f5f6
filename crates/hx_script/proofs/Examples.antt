-- Worked texts, by computing.
use Rattle.std.proofs.Common.{◌≡◌, ℕ, zero, suc, pos, List, [], ◌∷◌, ◌++◌, Ok, Err, Result, refl}
use Rattle.std.specs.Prelude.{codes}
use lib.Utf8.{encode}
use Rattle.std.specs.Str.{is_utf8, chars}
use Rattle.std.specs.Str.Lossy.{utf8_valid_len}
use Rattle.hx_lex.specs.Numbers.{number_at}
use Rattle.hx_lex.specs.Quotes.{content, inside_at, text_at}
use Rattle.hx_lex.specs.Pieces.{comment_at, piece_at}
use Rattle.hx_lex.specs.Lines.{tokens_from}
use Rattle.hx_types.specs.declared.spaces.Space.{Space}
use Rattle.hx_types.specs.declared.spaces.Kind.TheVariants as kinds
use Rattle.hx_types.specs.declared.calls.Op.{Op}
use Rattle.hx_types.specs.declared.calls.Op.TheVariants.{Put, Get, Cput, Search, Add, Atomic}
use Rattle.hx_types.specs.declared.ids.Actor.TheVariants.{Coordinator, Server}
use Rattle.hx_types.specs.declared.traces.Script.{Script}
use Rattle.hx_types.specs.declared.traces.Step.{Step}
use Rattle.hx_types.specs.declared.traces.Step.TheVariants.{Deliver, Tick, Halt}
use Rattle.hx_types.specs.declared.values.Edit.{Edit}
use Rattle.hx_types.specs.declared.values.EditKind.{EditKind}
use Rattle.hx_types.specs.declared.values.EditKind.TheVariants as an_edit
use Rattle.hx_types.specs.declared.values.Term.TheVariants as a_term
use Rattle.hx_types.specs.declared.values.Value.{Value}
use Rattle.hx_types.specs.declared.values.Value.TheVariants as a_value
use Rattle.hx_script.specs.declared.errors.ScriptError.{ScriptError}
use Rattle.hx_script.specs.declared.errors.ScriptError.TheVariants.{Refused}
use Rattle.hx_script.specs.declared.errors.Reason.TheVariants.{Token, Order, Unknown, Twice, TypeOf, Bounds, Limit}
use Rattle.hx_script.specs.Readers.{number_in, natural, number_from, steps}
use Rattle.hx_script.specs.Words.{named, name, new_name}
use Rattle.hx_script.specs.Values.{short_text, value, free_attribute, assign, one_more, some_assigns, free_known, range, term, one_more_term}
use Rattle.hx_script.specs.Edits.{edit_word, unedited_attribute, edit_value, edit, one_more_edit, some_edits}
use Rattle.hx_script.specs.Calls.{put, get, del, cput, search_call, stop, add, atomic, deliver, tick, halt}
use Rattle.hx_script.specs.Actors.{actor}
use Rattle.hx_script.specs.Axes.{free_axis, parts, axis, next_axis, subspace}
use Rattle.hx_script.specs.Grammar.{hx_line, space_line, key_line, string_attribute, int_attribute, attribute_line}
use Rattle.hx_script.specs.Grammar.{subspace_line, servers_line, tolerate_line, session_line, steps_line, call_line}
use Rattle.hx_script.specs.Grammar.{step_line, command}
use Rattle.hx_script.specs.Texts.{read_lines, script_of}

nothing : script_of [] ≡ Err (Refused 1 Order)
unfolding read_lines
nothing = refl

-- eight lines of a space, before `tolerate`
abbrev head : List ℕ
head = codes "hx 1\nspace books\nkey name 2\nstring genre\nint year 1900 2099\nsubspace genre 4\nsubspace year 2\nservers 4\n"

abbrev books : Space
books = record {
  name = codes "books";
  key_name = codes "name";
  key_parts = 2;
  attributes = record { name = codes "genre"; kind = kinds.Text } ∷ record { name = codes "year"; kind = kinds.Int (pos 1900) (pos 2099) } ∷ [];
  subspaces = (record { attribute = 1; parts = 4 } ∷ []) ∷ (record { attribute = 2; parts = 2 } ∷ []) ∷ [];
  servers = 4;
  tolerate = 1;
}

-- what the space and then these lines give
abbrev with_lines : List ℕ → Result Script ScriptError
with_lines lines = script_of (head ++ codes "tolerate 1\n" ++ lines)

-- the same, where the first of the lines is line 11, behind `session 1` or `steps`
abbrev with_call : List ℕ → Result Script ScriptError
with_call line = with_lines (codes "session 1\n" ++ line)

abbrev with_step : List ℕ → Result Script ScriptError
with_step line = with_lines (codes "steps\n" ++ line)

abbrev one_call : Op → Result Script ScriptError
one_call op = Ok (record { space = books; sessions = (op ∷ []) ∷ []; steps = [] })

abbrev one_step : Step → Result Script ScriptError
one_step step = Ok (record { space = books; sessions = []; steps = (11, step) ∷ [] })

space_alone : with_lines [] ≡ Ok (record { space = books; sessions = []; steps = [] })
unfolding tokens_from piece_at number_at text_at inside_at content comment_at utf8_valid_len is_utf8 chars encode
    read_lines number_in natural number_from steps named name new_name free_axis parts axis next_axis subspace hx_line
    space_line key_line string_attribute int_attribute attribute_line subspace_line servers_line tolerate_line
    session_line steps_line call_line step_line command short_text value free_attribute assign one_more some_assigns
    free_known range term one_more_term put get del cput search_call stop add deliver tick halt actor
space_alone = refl

too_many_failures : script_of (head ++ codes "tolerate 4") ≡ Err (Refused 9 Bounds)
unfolding tokens_from piece_at number_at text_at inside_at content comment_at utf8_valid_len is_utf8 chars encode
    read_lines number_in natural number_from steps named name new_name free_axis parts axis next_axis subspace hx_line
    space_line key_line string_attribute int_attribute attribute_line subspace_line servers_line tolerate_line
    session_line steps_line call_line step_line command short_text value free_attribute assign one_more some_assigns
    free_known range term one_more_term put get del cput search_call stop add deliver tick halt actor
too_many_failures = refl

no_tolerate : script_of head ≡ Err (Refused 9 Order)
unfolding tokens_from piece_at number_at text_at inside_at content comment_at utf8_valid_len is_utf8 chars encode
    read_lines number_in natural number_from steps named name new_name free_axis parts axis next_axis subspace hx_line
    space_line key_line string_attribute int_attribute attribute_line subspace_line servers_line tolerate_line
    session_line steps_line call_line step_line command short_text value free_attribute assign one_more some_assigns
    free_known range term one_more_term put get del cput search_call stop add deliver tick halt actor
no_tolerate = refl

puts : with_call (codes "put \"a\" genre=\"b\" year=1999")
    ≡ one_call (Put (codes "a") (record { attribute = 1; value = a_value.Text (codes "b") } ∷ record {
      attribute = 2;
      value = a_value.Int (pos 1999);
    } ∷ []))
unfolding tokens_from piece_at number_at text_at inside_at content comment_at utf8_valid_len is_utf8 chars encode
    read_lines number_in natural number_from steps named name new_name free_axis parts axis next_axis subspace hx_line
    space_line key_line string_attribute int_attribute attribute_line subspace_line servers_line tolerate_line
    session_line steps_line call_line step_line command short_text value free_attribute assign one_more some_assigns
    free_known range term one_more_term put get del cput search_call stop add deliver tick halt actor
puts = refl

tests_and_sets : with_call (codes "cput \"a\" if genre=\"b\" set year=2000")
    ≡ one_call (Cput (codes "a") (record { attribute = 1; value = a_value.Text (codes "b") } ∷ [])
    (record { attribute = 2; value = a_value.Int (pos 2000) } ∷ []))
unfolding tokens_from piece_at number_at text_at inside_at content comment_at utf8_valid_len is_utf8 chars encode
    read_lines number_in natural number_from steps named name new_name free_axis parts axis next_axis subspace hx_line
    space_line key_line string_attribute int_attribute attribute_line subspace_line servers_line tolerate_line
    session_line steps_line call_line step_line command short_text value free_attribute assign one_more some_assigns
    free_known range term one_more_term put get del cput search_call stop add deliver tick halt actor
tests_and_sets = refl

asks : with_call (codes "search year=1990..2010 name=\"a\"") ≡ one_call (Search (a_term.Range 2 (pos 1990) (pos 2010) ∷ a_term.Equal 0 (a_value.Text (codes "a")) ∷ []))
unfolding tokens_from piece_at number_at text_at inside_at content comment_at utf8_valid_len is_utf8 chars encode
    read_lines number_in natural number_from steps named name new_name free_axis parts axis next_axis subspace hx_line
    space_line key_line string_attribute int_attribute attribute_line subspace_line servers_line tolerate_line
    session_line steps_line call_line step_line command short_text value free_attribute assign one_more some_assigns
    free_known range term one_more_term put get del cput search_call stop add deliver tick halt actor
asks = refl

adds : with_call (codes "add 4 7") ≡ one_call (Add (record { 0 = 4 }) (record { 0 = 7 }))
unfolding tokens_from piece_at number_at text_at inside_at content comment_at utf8_valid_len is_utf8 chars encode
    read_lines number_in natural number_from steps named name new_name free_axis parts axis next_axis subspace hx_line
    space_line key_line string_attribute int_attribute attribute_line subspace_line servers_line tolerate_line
    session_line steps_line call_line step_line command short_text value free_attribute assign one_more some_assigns
    free_known range term one_more_term put get del cput search_call stop add deliver tick halt actor
adds = refl

abbrev edit_by : EditKind → ℕ → Value → Edit
edit_by what attribute value = record { what = what; attribute = attribute; value = value }

edits_a_number : with_call (codes "atomic \"a\" add year=1") ≡ one_call (Atomic (codes "a") (edit_by an_edit.Add 2 (a_value.Int (pos 1)) ∷ []))
unfolding tokens_from piece_at number_at text_at inside_at content comment_at utf8_valid_len is_utf8 chars encode
    read_lines number_in natural number_from steps named name new_name free_axis parts axis next_axis subspace hx_line
    space_line key_line string_attribute int_attribute attribute_line subspace_line servers_line tolerate_line
    session_line steps_line call_line step_line command short_text value free_attribute assign one_more some_assigns
    free_known range term one_more_term put get del cput search_call stop add deliver tick halt actor edit_word
    unedited_attribute edit_value edit one_more_edit some_edits atomic
edits_a_number = refl

edits_two : with_call (codes "atomic \"a\" min year=5 append genre=\"x\"")
    ≡ one_call (Atomic (codes "a") (edit_by an_edit.Min 2 (a_value.Int (pos 5)) ∷ edit_by an_edit.Append 1
    (a_value.Text (codes "x")) ∷ []))
unfolding tokens_from piece_at number_at text_at inside_at content comment_at utf8_valid_len is_utf8 chars encode
    read_lines number_in natural number_from steps named name new_name free_axis parts axis next_axis subspace hx_line
    space_line key_line string_attribute int_attribute attribute_line subspace_line servers_line tolerate_line
    session_line steps_line call_line step_line command short_text value free_attribute assign one_more some_assigns
    free_known range term one_more_term put get del cput search_call stop add deliver tick halt actor edit_word
    unedited_attribute edit_value edit one_more_edit some_edits atomic
edits_two = refl

edits_by_the_greater : with_call (codes "atomic \"a\" max year=3") ≡ one_call (Atomic (codes "a") (edit_by an_edit.Max 2 (a_value.Int (pos 3)) ∷ []))
unfolding tokens_from piece_at number_at text_at inside_at content comment_at utf8_valid_len is_utf8 chars encode
    read_lines number_in natural number_from steps named name new_name free_axis parts axis next_axis subspace hx_line
    space_line key_line string_attribute int_attribute attribute_line subspace_line servers_line tolerate_line
    session_line steps_line call_line step_line command short_text value free_attribute assign one_more some_assigns
    free_known range term one_more_term put get del cput search_call stop add deliver tick halt actor edit_word
    unedited_attribute edit_value edit one_more_edit some_edits atomic
edits_by_the_greater = refl

no_edit : with_call (codes "atomic \"a\"") ≡ Err (Refused 11 Order)
unfolding tokens_from piece_at number_at text_at inside_at content comment_at utf8_valid_len is_utf8 chars encode
    read_lines number_in natural number_from steps named name new_name free_axis parts axis next_axis subspace hx_line
    space_line key_line string_attribute int_attribute attribute_line subspace_line servers_line tolerate_line
    session_line steps_line call_line step_line command short_text value free_attribute assign one_more some_assigns
    free_known range term one_more_term put get del cput search_call stop add deliver tick halt actor edit_word
    unedited_attribute edit_value edit one_more_edit some_edits atomic
no_edit = refl

no_such_edit : with_call (codes "atomic \"a\" mul year=2") ≡ Err (Refused 11 Order)
unfolding tokens_from piece_at number_at text_at inside_at content comment_at utf8_valid_len is_utf8 chars encode
    read_lines number_in natural number_from steps named name new_name free_axis parts axis next_axis subspace hx_line
    space_line key_line string_attribute int_attribute attribute_line subspace_line servers_line tolerate_line
    session_line steps_line call_line step_line command short_text value free_attribute assign one_more some_assigns
    free_known range term one_more_term put get del cput search_call stop add deliver tick halt actor edit_word
    unedited_attribute edit_value edit one_more_edit some_edits atomic
no_such_edit = refl

edits_the_key : with_call (codes "atomic \"a\" append name=\"x\"") ≡ Err (Refused 11 Unknown)
unfolding tokens_from piece_at number_at text_at inside_at content comment_at utf8_valid_len is_utf8 chars encode
    read_lines number_in natural number_from steps named name new_name free_axis parts axis next_axis subspace hx_line
    space_line key_line string_attribute int_attribute attribute_line subspace_line servers_line tolerate_line
    session_line steps_line call_line step_line command short_text value free_attribute assign one_more some_assigns
    free_known range term one_more_term put get del cput search_call stop add deliver tick halt actor edit_word
    unedited_attribute edit_value edit one_more_edit some_edits atomic
edits_the_key = refl

edited_twice : with_call (codes "atomic \"a\" add year=1 append genre=\"x\" max year=2") ≡ Err (Refused 11 Twice)
unfolding tokens_from piece_at number_at text_at inside_at content comment_at utf8_valid_len is_utf8 chars encode
    read_lines number_in natural number_from steps named name new_name free_axis parts axis next_axis subspace hx_line
    space_line key_line string_attribute int_attribute attribute_line subspace_line servers_line tolerate_line
    session_line steps_line call_line step_line command short_text value free_attribute assign one_more some_assigns
    free_known range term one_more_term put get del cput search_call stop add deliver tick halt actor edit_word
    unedited_attribute edit_value edit one_more_edit some_edits atomic
edited_twice = refl

-- a text is no number, and no text is added to
adds_a_text : with_call (codes "atomic \"a\" add year=\"x\"") ≡ Err (Refused 11 TypeOf)
unfolding tokens_from piece_at number_at text_at inside_at content comment_at utf8_valid_len is_utf8 chars encode
    read_lines number_in natural number_from steps named name new_name free_axis parts axis next_axis subspace hx_line
    space_line key_line string_attribute int_attribute attribute_line subspace_line servers_line tolerate_line
    session_line steps_line call_line step_line command short_text value free_attribute assign one_more some_assigns
    free_known range term one_more_term put get del cput search_call stop add deliver tick halt actor edit_word
    unedited_attribute edit_value edit one_more_edit some_edits atomic
adds_a_text = refl

adds_to_a_text : with_call (codes "atomic \"a\" add genre=\"x\"") ≡ Err (Refused 11 TypeOf)
unfolding tokens_from piece_at number_at text_at inside_at content comment_at utf8_valid_len is_utf8 chars encode
    read_lines number_in natural number_from steps named name new_name free_axis parts axis next_axis subspace hx_line
    space_line key_line string_attribute int_attribute attribute_line subspace_line servers_line tolerate_line
    session_line steps_line call_line step_line command short_text value free_attribute assign one_more some_assigns
    free_known range term one_more_term put get del cput search_call stop add deliver tick halt actor edit_word
    unedited_attribute edit_value edit one_more_edit some_edits atomic
adds_to_a_text = refl

wrong_type : with_call (codes "put \"a\" year=\"x\"") ≡ Err (Refused 11 TypeOf)
unfolding tokens_from piece_at number_at text_at inside_at content comment_at utf8_valid_len is_utf8 chars encode
    read_lines number_in natural number_from steps named name new_name free_axis parts axis next_axis subspace hx_line
    space_line key_line string_attribute int_attribute attribute_line subspace_line servers_line tolerate_line
    session_line steps_line call_line step_line command short_text value free_attribute assign one_more some_assigns
    free_known range term one_more_term put get del cput search_call stop add deliver tick halt actor
wrong_type = refl

assigned_twice : with_call (codes "put \"a\" genre=\"b\" genre=\"d\"") ≡ Err (Refused 11 Twice)
unfolding tokens_from piece_at number_at text_at inside_at content comment_at utf8_valid_len is_utf8 chars encode
    read_lines number_in natural number_from steps named name new_name free_axis parts axis next_axis subspace hx_line
    space_line key_line string_attribute int_attribute attribute_line subspace_line servers_line tolerate_line
    session_line steps_line call_line step_line command short_text value free_attribute assign one_more some_assigns
    free_known range term one_more_term put get del cput search_call stop add deliver tick halt actor
assigned_twice = refl

no_such_name : with_call (codes "put \"a\" colour=\"b\"") ≡ Err (Refused 11 Unknown)
unfolding tokens_from piece_at number_at text_at inside_at content comment_at utf8_valid_len is_utf8 chars encode
    read_lines number_in natural number_from steps named name new_name free_axis parts axis next_axis subspace hx_line
    space_line key_line string_attribute int_attribute attribute_line subspace_line servers_line tolerate_line
    session_line steps_line call_line step_line command short_text value free_attribute assign one_more some_assigns
    free_known range term one_more_term put get del cput search_call stop add deliver tick halt actor
no_such_name = refl

empty_range : with_call (codes "search year=2010..1990") ≡ Err (Refused 11 Bounds)
unfolding tokens_from piece_at number_at text_at inside_at content comment_at utf8_valid_len is_utf8 chars encode
    read_lines number_in natural number_from steps named name new_name free_axis parts axis next_axis subspace hx_line
    space_line key_line string_attribute int_attribute attribute_line subspace_line servers_line tolerate_line
    session_line steps_line call_line step_line command short_text value free_attribute assign one_more some_assigns
    free_known range term one_more_term put get del cput search_call stop add deliver tick halt actor
empty_range = refl

open_text : with_call (codes "get \"a") ≡ Err (Refused 11 Token)
unfolding tokens_from piece_at number_at text_at inside_at content comment_at utf8_valid_len is_utf8 chars encode
    read_lines number_in natural number_from steps named name new_name free_axis parts axis next_axis subspace hx_line
    space_line key_line string_attribute int_attribute attribute_line subspace_line servers_line tolerate_line
    session_line steps_line call_line step_line command short_text value free_attribute assign one_more some_assigns
    free_known range term one_more_term put get del cput search_call stop add deliver tick halt actor
open_text = refl

no_such_server : with_call (codes "add 5 0") ≡ Err (Refused 11 Bounds)
unfolding tokens_from piece_at number_at text_at inside_at content comment_at utf8_valid_len is_utf8 chars encode
    read_lines number_in natural number_from steps named name new_name free_axis parts axis next_axis subspace hx_line
    space_line key_line string_attribute int_attribute attribute_line subspace_line servers_line tolerate_line
    session_line steps_line call_line step_line command short_text value free_attribute assign one_more some_assigns
    free_known range term one_more_term put get del cput search_call stop add deliver tick halt actor
no_such_server = refl

no_text : with_call (codes "get a") ≡ Err (Refused 11 Order)
unfolding tokens_from piece_at number_at text_at inside_at content comment_at utf8_valid_len is_utf8 chars encode
    read_lines number_in natural number_from steps named name new_name free_axis parts axis next_axis subspace hx_line
    space_line key_line string_attribute int_attribute attribute_line subspace_line servers_line tolerate_line
    session_line steps_line call_line step_line command short_text value free_attribute assign one_more some_assigns
    free_known range term one_more_term put get del cput search_call stop add deliver tick halt actor
no_text = refl

no_assignment : with_call (codes "cput \"a\" if genre=\"b\" set") ≡ Err (Refused 11 Order)
unfolding tokens_from piece_at number_at text_at inside_at content comment_at utf8_valid_len is_utf8 chars encode
    read_lines number_in natural number_from steps named name new_name free_axis parts axis next_axis subspace hx_line
    space_line key_line string_attribute int_attribute attribute_line subspace_line servers_line tolerate_line
    session_line steps_line call_line step_line command short_text value free_attribute assign one_more some_assigns
    free_known range term one_more_term put get del cput search_call stop add deliver tick halt actor
no_assignment = refl

delivers : with_step (codes "deliver 1.0") ≡ one_step (Deliver (record { entry = 1; place = 0 }))
unfolding tokens_from piece_at number_at text_at inside_at content comment_at utf8_valid_len is_utf8 chars encode
    read_lines number_in natural number_from steps named name new_name free_axis parts axis next_axis subspace hx_line
    space_line key_line string_attribute int_attribute attribute_line subspace_line servers_line tolerate_line
    session_line steps_line call_line step_line command short_text value free_attribute assign one_more some_assigns
    free_known range term one_more_term put get del cput search_call stop add deliver tick halt actor
delivers = refl

ticks : with_step (codes "tick c") ≡ one_step (Tick Coordinator)
unfolding tokens_from piece_at number_at text_at inside_at content comment_at utf8_valid_len is_utf8 chars encode
    read_lines number_in natural number_from steps named name new_name free_axis parts axis next_axis subspace hx_line
    space_line key_line string_attribute int_attribute attribute_line subspace_line servers_line tolerate_line
    session_line steps_line call_line step_line command short_text value free_attribute assign one_more some_assigns
    free_known range term one_more_term put get del cput search_call stop add deliver tick halt actor
ticks = refl

halts : with_step (codes "halt s4") ≡ one_step (Halt (Server (record { 0 = 4 })))
unfolding tokens_from piece_at number_at text_at inside_at content comment_at utf8_valid_len is_utf8 chars encode
    read_lines number_in natural number_from steps named name new_name free_axis parts axis next_axis subspace hx_line
    space_line key_line string_attribute int_attribute attribute_line subspace_line servers_line tolerate_line
    session_line steps_line call_line step_line command short_text value free_attribute assign one_more some_assigns
    free_known range term one_more_term put get del cput search_call stop add deliver tick halt actor
halts = refl

leading_zero : with_step (codes "halt s04") ≡ Err (Refused 11 Order)
unfolding tokens_from piece_at number_at text_at inside_at content comment_at utf8_valid_len is_utf8 chars encode
    read_lines number_in natural number_from steps named name new_name free_axis parts axis next_axis subspace hx_line
    space_line key_line string_attribute int_attribute attribute_line subspace_line servers_line tolerate_line
    session_line steps_line call_line step_line command short_text value free_attribute assign one_more some_assigns
    free_known range term one_more_term put get del cput search_call stop add deliver tick halt actor
leading_zero = refl

no_session : with_step (codes "tick u1") ≡ Err (Refused 11 Bounds)
unfolding tokens_from piece_at number_at text_at inside_at content comment_at utf8_valid_len is_utf8 chars encode
    read_lines number_in natural number_from steps named name new_name free_axis parts axis next_axis subspace hx_line
    space_line key_line string_attribute int_attribute attribute_line subspace_line servers_line tolerate_line
    session_line steps_line call_line step_line command short_text value free_attribute assign one_more some_assigns
    free_known range term one_more_term put get del cput search_call stop add deliver tick halt actor
no_session = refl

-- a text of twice as many letters
abbrev doubled : ℕ → List ℕ
doubled zero = codes "x"
doubled (suc n) = doubled n ++ doubled n

longest_text : with_call (codes "get \"" ++ doubled 10 ++ codes "\"") ≡ one_call (Get (doubled 10))
unfolding tokens_from piece_at number_at text_at inside_at content comment_at utf8_valid_len is_utf8 chars encode
    read_lines number_in natural number_from steps named name new_name free_axis parts axis next_axis subspace hx_line
    space_line key_line string_attribute int_attribute attribute_line subspace_line servers_line tolerate_line
    session_line steps_line call_line step_line command short_text value free_attribute assign one_more some_assigns
    free_known range term one_more_term put get del cput search_call stop add deliver tick halt actor
longest_text = refl

too_long : with_call (codes "get \"x" ++ doubled 10 ++ codes "\"") ≡ Err (Refused 11 Limit)
unfolding tokens_from piece_at number_at text_at inside_at content comment_at utf8_valid_len is_utf8 chars encode
    read_lines number_in natural number_from steps named name new_name free_axis parts axis next_axis subspace hx_line
    space_line key_line string_attribute int_attribute attribute_line subspace_line servers_line tolerate_line
    session_line steps_line call_line step_line command short_text value free_attribute assign one_more some_assigns
    free_known range term one_more_term put get del cput search_call stop add deliver tick halt actor
too_long = refl

appends_too_long : with_call (codes "atomic \"a\" append genre=\"x" ++ doubled 10 ++ codes "\"") ≡ Err (Refused 11 Limit)
unfolding tokens_from piece_at number_at text_at inside_at content comment_at utf8_valid_len is_utf8 chars encode
    read_lines number_in natural number_from steps named name new_name free_axis parts axis next_axis subspace hx_line
    space_line key_line string_attribute int_attribute attribute_line subspace_line servers_line tolerate_line
    session_line steps_line call_line step_line command short_text value free_attribute assign one_more some_assigns
    free_known range term one_more_term put get del cput search_call stop add deliver tick halt actor edit_word
    unedited_attribute edit_value edit one_more_edit some_edits atomic
appends_too_long = refl

-- the type is looked at before the length
adds_a_long_text : with_call (codes "atomic \"a\" add year=\"x" ++ doubled 10 ++ codes "\"") ≡ Err (Refused 11 TypeOf)
unfolding tokens_from piece_at number_at text_at inside_at content comment_at utf8_valid_len is_utf8 chars encode
    read_lines number_in natural number_from steps named name new_name free_axis parts axis next_axis subspace hx_line
    space_line key_line string_attribute int_attribute attribute_line subspace_line servers_line tolerate_line
    session_line steps_line call_line step_line command short_text value free_attribute assign one_more some_assigns
    free_known range term one_more_term put get del cput search_call stop add deliver tick halt actor edit_word
    unedited_attribute edit_value edit one_more_edit some_edits atomic
adds_a_long_text = refl
