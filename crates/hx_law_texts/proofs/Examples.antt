-- A script with each kind of line, read, printed and read back by computing.
use Rattle.hx_law_texts.proofs.Vocabulary.{[], Add, Atomic, codes, Coordinator, Cput, Del, Deliver, Equal, Get, Halt, List, negsuc, Ok, on_printed_lines, Op}
use Rattle.hx_law_texts.proofs.Vocabulary.{pos, Put, Range, refl, Script, script_of, Search, Server, Session, Space, Step, Stop, Tick, ℕ, ◌++◌, ◌∷◌, ◌≡◌}
use Rattle.std.specs.Fmt.{digits}
use lib.Utf8.{encode}
use Rattle.std.specs.Str.{is_utf8, chars}
use Rattle.std.specs.Str.Lossy.{utf8_valid_len}
use Rattle.hx_lex.specs.Lines.{tokens_from}
use Rattle.hx_lex.specs.Numbers.{number_at}
use Rattle.hx_lex.specs.Pieces.{piece_at, comment_at}
use Rattle.hx_lex.specs.Quotes.{content, inside_at, text_at}
use Rattle.hx_types.specs.declared.spaces.Kind.TheVariants as kinds
use Rattle.hx_types.specs.declared.values.EditKind.TheVariants as an_edit
use Rattle.hx_types.specs.declared.values.Value.TheVariants as values
use Rattle.hx_print.specs.Printing as printing
use Rattle.hx_script.specs.Actors.{actor}
use Rattle.hx_script.specs.Calls.{put, get, del, cput, search_call, stop, add, atomic, deliver, tick, halt}
use Rattle.hx_script.specs.Edits.{edit_word, unedited_attribute, edit_value, edit, one_more_edit, some_edits}
use Rattle.hx_script.specs.Axes.{free_axis, parts, axis, next_axis, subspace}
use Rattle.hx_script.specs.Grammar.{hx_line, space_line, key_line, string_attribute, int_attribute, attribute_line, subspace_line, servers_line, tolerate_line}
use Rattle.hx_script.specs.Grammar.{session_line, steps_line, call_line, step_line, command}
use Rattle.hx_script.specs.Readers.{number_in, natural, number_from, steps}
use Rattle.hx_script.specs.Texts.{read_lines}
use Rattle.hx_script.specs.Values.{short_text, value, free_attribute, assign, one_more, some_assigns, free_known, range, term, one_more_term}
use Rattle.hx_script.specs.Words.{named, name, new_name}
use Rattle.hx_print.specs.Printing.{script_text, space_text, sessions_text, session_text, steps_text}

-- ---- the script

abbrev books : Space
books = record {
  name = codes "books";
  key_name = codes "name";
  key_parts = 2;
  attributes = record { name = codes "genre"; kind = kinds.Text } ∷ record { name = codes "year"; kind = kinds.Int (negsuc 4) (pos 2099) } ∷ [];
  subspaces = (record { attribute = 1; parts = 4 } ∷ record { attribute = 2; parts = 2 } ∷ []) ∷ (record { attribute = 2; parts = 3 } ∷ []) ∷ [];
  servers = 4;
  tolerate = 1;
}

abbrev calls : List Op
calls =
    Put (34 ∷ []) (record { attribute = 1; value = values.Text (codes "b") } ∷ record { attribute = 2; value = values.Int (negsuc 6) } ∷ [])
    ∷ Get (codes "a")
    ∷ Del []
    ∷ Cput (codes "a") (record { attribute = 1; value = values.Text (codes "b") } ∷ []) (record { attribute = 2; value = values.Int (pos 2000) } ∷ [])
    ∷ Search (Range 2 (negsuc 6) (pos 2010) ∷ Equal 0 (values.Text (codes "a")) ∷ [])
    ∷ Stop (record { 0 = 3 })
    ∷ Add (record { 0 = 4 }) (record { 0 = 7 })
    ∷ Atomic (codes "a") (record {
      what = an_edit.Add;
      attribute = 2;
      value = values.Int (negsuc 0);
    } ∷ record { what = an_edit.Append; attribute = 1; value = values.Text (codes "b") } ∷ [])
    ∷ []

-- its steps, on four lines from one on
abbrev stepped : (a b c d : ℕ) → List (ℕ × Step)
stepped a b c d = (a, Deliver (record { entry = 1; place = 0 })) ∷ (b, Tick Coordinator) ∷ (
  c,
  Tick (Session (record { 0 = 2 })),
) ∷ (d, Halt (Server (record { 0 = 4 }))) ∷ []

abbrev script : List (ℕ × Step) → Script
script s = record { space = books; sessions = calls ∷ [] ∷ []; steps = s }

-- ---- its texts

abbrev written : List ℕ
written =
    codes "# each kind of line\nhx 01\n\tspace  books # its name\nkey name 2\n\nstring genre\nint year -5 2099\nsubspace genre 4 ,year 2\nsubspace year 3\nservers 4\ntolerate 1\nsession 1\n"
    ++ codes "put \"\\\"\"  genre = \"b\" year=-7\nget \"a\"\ndel \"\"\ncput \"a\" if genre=\"b\" set year=2000\nsearch year=-7 .. 2010 name=\"a\"\nstop 3\r\nadd 4 7\natomic \"a\" add  year =-1 append genre= \"b\"\nsession 2\n"
    ++ codes "steps\ndeliver 1 . 0\n\ntick c # the coordinator\ntick u2\nhalt s4"

abbrev plain : List ℕ
plain =
    codes "hx 1\nspace books\nkey name 2\nstring genre\nint year -5 2099\nsubspace genre 4, year 2\nsubspace year 3\nservers 4\ntolerate 1\nsession 1\n"
    ++ codes "put \"\\\"\" genre=\"b\" year=-7\nget \"a\"\ndel \"\"\ncput \"a\" if genre=\"b\" set year=2000\nsearch year=-7..2010 name=\"a\"\nstop 3\nadd 4 7\natomic \"a\" add year=-1 append genre=\"b\"\nsession 2\n"
    ++ codes "steps\ndeliver 1.0\ntick c\ntick u2\nhalt s4\n"

is_read : script_of written ≡ Ok (script (stepped 23 25 26 27))
unfolding tokens_from piece_at number_at text_at inside_at content comment_at utf8_valid_len is_utf8 chars encode
    read_lines number_in natural number_from steps named name new_name free_axis parts axis next_axis subspace hx_line
    space_line key_line string_attribute int_attribute attribute_line subspace_line servers_line tolerate_line
    session_line steps_line call_line step_line command short_text value free_attribute assign one_more some_assigns
    free_known range term one_more_term put get del cput search_call stop add atomic deliver tick halt actor edit_word
    unedited_attribute edit_value edit one_more_edit some_edits
is_read = refl

is_printed : script_text (script (stepped 23 25 26 27)) ≡ plain
unfolding digits script_text space_text sessions_text session_text steps_text printing.space_line printing.key_line
    printing.string_line printing.int_line printing.bounds_text printing.subspace_line printing.axes_text
    printing.axis_text printing.next_axis_text printing.servers_line printing.tolerate_line printing.call_line
    printing.op_text printing.cput_text printing.add_text printing.edit_text printing.quoted printing.named_text
    printing.range_text printing.value_text printing.step_line printing.step_text printing.post_name printing.actor_text
is_printed = refl

renumbered : on_printed_lines (script (stepped 23 25 26 27)) ≡ script (stepped 21 22 23 24)
renumbered = refl

is_read_back : script_of plain ≡ Ok (script (stepped 21 22 23 24))
unfolding tokens_from piece_at number_at text_at inside_at content comment_at utf8_valid_len is_utf8 chars encode
    read_lines number_in natural number_from steps named name new_name free_axis parts axis next_axis subspace hx_line
    space_line key_line string_attribute int_attribute attribute_line subspace_line servers_line tolerate_line
    session_line steps_line call_line step_line command short_text value free_attribute assign one_more some_assigns
    free_known range term one_more_term put get del cput search_call stop add atomic deliver tick halt actor edit_word
    unedited_attribute edit_value edit one_more_edit some_edits
is_read_back = refl
