-- Printed scripts, by computing.
use Rattle.std.specs.Prelude.{◌≡◌, ℕ, [], ◌∷◌, ◌++◌, pos, negsuc, codes}
use Rattle.hx_types.specs.declared.spaces.Axis.{Axis}
use Rattle.hx_types.specs.declared.values.EditKind.TheVariants as an_edit
use Rattle.hx_types.specs.declared.calls.Op.{Op}
use Rattle.hx_types.specs.declared.traces.Script.{Script}
use Rattle.hx_types.specs.declared.spaces.Space.{Space}
use Rattle.hx_types.specs.declared.spaces.Kind.TheVariants as a_kind
use Rattle.hx_types.specs.declared.values.Value.TheVariants as a_value
use Rattle.hx_types.specs.declared.traces.Step.TheVariants as a_step
use Rattle.hx_types.specs.declared.calls.Op.TheVariants.{Put, Get, Del, Cput, Search, Stop, Add, Atomic}
use Rattle.hx_types.specs.declared.values.Term.TheVariants.{Equal, Range}
use Rattle.hx_types.specs.declared.ids.Actor.TheVariants.{Coordinator, Server, Session}
use Rattle.std.specs.Fmt.{digits}
use Rattle.hx_print.specs.Printing.{actor_text, add_text, axes_text, axis_text, bounds_text, call_line, cput_text}
use Rattle.hx_print.specs.Printing.{edit_text, int_line, key_line, named_text, next_axis_text, op_text, post_name}
use Rattle.hx_print.specs.Printing.{quoted, range_text, script_text, servers_line, session_text, sessions_text}
use Rattle.hx_print.specs.Printing.{space_line, space_text, step_line, step_text, steps_text, string_line}
use Rattle.hx_print.specs.Printing.{subspace_line, tolerate_line, value_text}
use Rattle.std.proofs.Common.{refl}

abbrev axis : ℕ → ℕ → Axis
axis attribute parts = record { attribute = attribute; parts = parts }

abbrev pub books : Space
books =
    record {
      name = codes "books";
      key_name = codes "name";
      key_parts = 2;
      attributes =
          record { name = codes "genre"; kind = a_kind.Text }
          ∷ record { name = codes "year"; kind = a_kind.Int (pos 1900) (pos 2099) }
          ∷ [];
      subspaces = (axis 1 4 ∷ []) ∷ (axis 2 2 ∷ []) ∷ [];
      servers = 4;
      tolerate = 1;
    }

nine_lines :
    script_text (record { space = books; sessions = []; steps = [] })
    ≡ codes "hx 1\nspace books\nkey name 2\nstring genre\nint year 1900 2099\nsubspace genre 4\nsubspace year 2\nservers 4\ntolerate 1\n"
unfolding script_text sessions_text digits space_text space_line key_line string_line int_line bounds_text
    subspace_line axes_text axis_text next_axis_text servers_line tolerate_line steps_text
nine_lines = refl

abbrev pub put_book : Op
put_book = Put (codes "a") (record { attribute = 1; value = a_value.Text (codes "b") } ∷ record { attribute = 2; value = a_value.Int (pos 1999) } ∷ [])

put_line : op_text books put_book ≡ codes "put \"a\" genre=\"b\" year=1999"
unfolding digits op_text quoted named_text value_text
put_line = refl

cput_line :
    op_text books (Cput (codes "a") (record { attribute = 1; value = a_value.Text (codes "b") } ∷ [])
    (record { attribute = 2; value = a_value.Int (pos 2000) } ∷ []))
    ≡ codes "cput \"a\" if genre=\"b\" set year=2000"
unfolding digits op_text cput_text quoted named_text value_text
cput_line = refl

-- an edit of each kind; what an edit may be isn't asked here
edits_line :
    op_text
    books
    (Atomic
    (codes "a")
    (record { what = an_edit.Add; attribute = 2; value = a_value.Int (negsuc 0) }
    ∷ record { what = an_edit.Append; attribute = 1; value = a_value.Text (codes "b") }
    ∷ record { what = an_edit.Min; attribute = 2; value = a_value.Int (pos 5) }
    ∷ record { what = an_edit.Max; attribute = 2; value = a_value.Int (pos 3) }
    ∷ []))
    ≡ codes "atomic \"a\" add year=-1 append genre=\"b\" min year=5 max year=3"
unfolding digits op_text edit_text quoted named_text value_text
edits_line = refl

other_calls :
    op_text books (Get (codes "a"))
    ∷ op_text books (Del (codes "a"))
    ∷ op_text books (Search (Range 2 (pos 1990) (pos 2010) ∷ []))
    ∷ op_text books (Search (Equal 0 (a_value.Text (codes "b")) ∷ Equal 2 (a_value.Int (negsuc 6)) ∷ []))
    ∷ op_text books (Search [])
    ∷ op_text books (Stop (record { 0 = 3 }))
    ∷ op_text books (Add (record { 0 = 3 }) (record { 0 = 0 }))
    ∷ [] ≡ codes "get \"a\""
    ∷ codes "del \"a\""
    ∷ codes "search year=1990..2010"
    ∷ codes "search name=\"b\" year=-7"
    ∷ codes "search"
    ∷ codes "stop 3"
    ∷ codes "add 3 0"
    ∷ []
unfolding digits op_text add_text quoted named_text value_text range_text
other_calls = refl

-- a quote, a backslash, a newline, a tab, and a letter of two bytes
escapes : quoted (34 ∷ 92 ∷ 10 ∷ 9 ∷ 195 ∷ 159 ∷ []) ≡ codes "\"\\\"\\\\\\n\\t" ++ 195 ∷ 159 ∷ codes "\""
unfolding quoted
escapes = refl

abbrev library : Space
library =
    record {
      name = codes "library";
      key_name = codes "title";
      key_parts = 4;
      attributes =
          record { name = codes "author"; kind = a_kind.Text }
          ∷ record { name = codes "shelf"; kind = a_kind.Text }
          ∷ record { name = codes "year"; kind = a_kind.Int (negsuc 0) (pos 2049) }
          ∷ [];
      subspaces = (axis 2 2 ∷ axis 3 4 ∷ []) ∷ [];
      servers = 5;
      tolerate = 1;
    }

abbrev pub stepped : Script
stepped =
    record {
      space = library;
      sessions = (Get (codes "Odyssee") ∷ Search [] ∷ []) ∷ [] ∷ [];
      steps =
          (12, a_step.Tick (Session (record { 0 = 1 })))
          ∷ (13, a_step.Deliver (record { entry = 1; place = 0 }))
          ∷ (14, a_step.Halt (Server (record { 0 = 3 })))
          ∷ (15, a_step.Tick Coordinator)
          ∷ [];
    }

-- sessions, one of them without calls, two axes, and steps
sessions_and_steps :
    script_text stepped
    ≡ codes "hx 1\nspace library\nkey title 4\nstring author\nstring shelf\nint year -1 2049\nsubspace shelf 2, year 4\nservers 5\ntolerate 1\nsession 1\nget \"Odyssee\"\nsearch\nsession 2\nsteps\ntick u1\ndeliver 1.0\nhalt s3\ntick c\n"
unfolding script_text sessions_text session_text call_line steps_text step_line step_text post_name actor_text digits
    space_text space_line key_line string_line int_line bounds_text subspace_line axes_text axis_text next_axis_text
    servers_line tolerate_line op_text quoted
sessions_and_steps = refl
