-- Worked texts of several spaces, by computing.
use Rattle.std.proofs.Common.{◌≡◌, ℕ, pos, List, [], ◌∷◌, ◌++◌, Ok, Err, Result, refl}
use Rattle.std.specs.Prelude.{codes}
use lib.Utf8.{encode}
use Rattle.std.specs.Str.{is_utf8, chars}
use Rattle.std.specs.Str.Lossy.{utf8_valid_len}
use Rattle.hx_bundle.specs.declared.bundles.Bundle.{Bundle}
use Rattle.hx_lex.specs.Numbers.{number_at}
use Rattle.hx_lex.specs.Quotes.{content, inside_at, text_at}
use Rattle.hx_lex.specs.Pieces.{comment_at, piece_at}
use Rattle.hx_lex.specs.Lines.{tokens_from}
use Rattle.hx_types.specs.declared.calls.Op.TheVariants.{Get, Put}
use Rattle.hx_types.specs.declared.ids.Actor.TheVariants.{Server, Session}
use Rattle.hx_types.specs.declared.spaces.Kind.TheVariants as kinds
use Rattle.hx_types.specs.declared.spaces.Space.{Space}
use Rattle.hx_types.specs.declared.traces.Step.TheVariants.{Deliver, Halt, Tick}
use Rattle.hx_types.specs.declared.values.Value.TheVariants as a_value
use Rattle.hx_script.specs.declared.errors.ScriptError.{ScriptError}
use Rattle.hx_script.specs.declared.errors.ScriptError.TheVariants.{Refused}
use Rattle.hx_script.specs.declared.errors.Reason.TheVariants.{Order, Unknown, Twice, Bounds}
use Rattle.hx_script.specs.Actors.{actor}
use Rattle.hx_script.specs.BundleGrammar.{all_servers_line, all_steps_line, all_tolerate_line, behind_keys}
use Rattle.hx_script.specs.BundleGrammar.{bundle_command, last_space_line, new_space_name, next_session_line}
use Rattle.hx_script.specs.BundleGrammar.{next_space_line, second_hx_line, space_call_line, space_named}
use Rattle.hx_script.specs.BundleGrammar.{space_step_line}
use Rattle.hx_script.specs.BundleTexts.{bundle_of, read_bundle_lines, version_from, version_line}
use Rattle.hx_script.specs.Calls.{deliver, get, halt, put, tick}
use Rattle.hx_script.specs.Grammar.{attribute_line, call_line, command, hx_line, int_attribute, key_line, servers_line}
use Rattle.hx_script.specs.Grammar.{session_line, space_line, step_line, steps_line, string_attribute, tolerate_line}
use Rattle.hx_script.specs.Readers.{natural, number_from, number_in, steps}
use Rattle.hx_script.specs.Texts.{read_lines}
use Rattle.hx_script.specs.Values.{assign, free_attribute, one_more, short_text, value}
use Rattle.hx_script.specs.Words.{name, named, new_name}

-- nine lines of two spaces
abbrev head : List ℕ
head = codes "hx 2\nservers 2\ntolerate 1\nspace one\nkey k 1\nstring v\nspace two\nkey k 2\nint n 0 9\n"

abbrev one : Space
one = record {
  name = codes "one";
  key_name = codes "k";
  key_parts = 1;
  attributes = record { name = codes "v"; kind = kinds.Text } ∷ [];
  subspaces = [];
  servers = 2;
  tolerate = 1;
}

abbrev two : Space
two = record {
  name = codes "two";
  key_name = codes "k";
  key_parts = 2;
  attributes = record { name = codes "n"; kind = kinds.Int (pos 0) (pos 9) } ∷ [];
  subspaces = [];
  servers = 2;
  tolerate = 1;
}

no_calls : bundle_of head ≡ Ok (record {
  spaces =
      record { space = one; sessions = []; steps = [] } ∷ record { space = two; sessions = []; steps = [] } ∷ [];
  turns = [];
  steps = [];
})
unfolding tokens_from piece_at number_at text_at inside_at content comment_at utf8_valid_len is_utf8 chars encode
    number_in natural number_from steps named name new_name key_line string_attribute int_attribute attribute_line
    call_line short_text value free_attribute assign one_more put get deliver tick halt actor second_hx_line
    all_servers_line all_tolerate_line next_space_line last_space_line next_session_line all_steps_line
    space_call_line space_step_line behind_keys bundle_command space_named new_space_name version_line version_from
    read_bundle_lines
no_calls = refl

-- a session calls both, and a step of each
called : bundle_of (head ++ codes "session 1\nput two \"a\" n=5\nget one \"a\"\nget two \"b\"\nsession 2\nsteps\ntick two u2\n\nhalt one s2\ndeliver two 1.0")
    ≡ Ok (record {
      spaces = record { space = one; sessions = (Get (codes "a") ∷ []) ∷ [] ∷ []; steps = [] }
          ∷ record {
            space = two;
            sessions = (Put (codes "a")
                (record { attribute = 1; value = a_value.Int (pos 5) } ∷ []) ∷ Get (codes "b") ∷ []) ∷ [] ∷ [];
            steps = [];
          } ∷ [];
      turns = (1 ∷ 0 ∷ 1 ∷ []) ∷ [] ∷ [];
      steps = record { line = 16; space = 1; step = Tick (Session (record { 0 = 2 })) }
          ∷ record { line = 18; space = 0; step = Halt (Server (record { 0 = 2 })) }
          ∷ record { line = 19; space = 1; step = Deliver (record { entry = 1; place = 0 }) } ∷ [];
    })
unfolding tokens_from piece_at number_at text_at inside_at content comment_at utf8_valid_len is_utf8 chars encode
    number_in natural number_from steps named name new_name key_line string_attribute int_attribute attribute_line
    call_line short_text value free_attribute assign one_more put get deliver tick halt actor second_hx_line
    all_servers_line all_tolerate_line next_space_line last_space_line next_session_line all_steps_line
    space_call_line space_step_line behind_keys bundle_command space_named new_space_name version_line version_from
    read_bundle_lines
called = refl

-- a script alone is a bundle of one space
alone : bundle_of (codes "hx 1\nspace one\nkey k 1\nstring v\nservers 2\ntolerate 1\nsession 1\nget \"a\"\nsteps\ntick u1")
    ≡ Ok (record {
      spaces = record { space = one; sessions = (Get (codes "a") ∷ []) ∷ []; steps = [] } ∷ [];
      turns = (0 ∷ []) ∷ [];
      steps = record { line = 10; space = 0; step = Tick (Session (record { 0 = 1 })) } ∷ [];
    })
unfolding tokens_from piece_at number_at text_at inside_at content comment_at utf8_valid_len is_utf8 chars encode
    read_lines number_in natural number_from steps named name new_name hx_line space_line key_line string_attribute
    int_attribute attribute_line servers_line tolerate_line session_line steps_line call_line step_line command
    short_text get tick actor version_line version_from
alone = refl

no_version : bundle_of (codes "\n# nothing") ≡ Err (Refused 3 Order)
unfolding tokens_from piece_at number_at text_at inside_at content comment_at utf8_valid_len is_utf8 chars encode version_line version_from
no_version = refl

third_version : bundle_of (codes "hx 3") ≡ Err (Refused 1 Bounds)
unfolding tokens_from piece_at number_at text_at inside_at content comment_at utf8_valid_len is_utf8 chars encode number_in version_line version_from
third_version = refl

no_space : bundle_of (codes "hx 2\nservers 1\ntolerate 0") ≡ Err (Refused 4 Order)
unfolding tokens_from piece_at number_at text_at inside_at content comment_at utf8_valid_len is_utf8 chars encode
    number_in second_hx_line all_servers_line all_tolerate_line bundle_command version_line version_from read_bundle_lines
no_space = refl

no_key : bundle_of (codes "hx 2\nservers 1\ntolerate 0\nspace one\nkey k 1\nspace two") ≡ Err (Refused 7 Order)
unfolding tokens_from piece_at number_at text_at inside_at content comment_at utf8_valid_len is_utf8 chars encode
    number_in named name key_line second_hx_line all_servers_line all_tolerate_line next_space_line last_space_line
    behind_keys bundle_command new_space_name version_line version_from read_bundle_lines
no_key = refl

-- the first name stands behind the first word
abbrev refused : List ℕ → Result Bundle ScriptError
refused line = bundle_of (head ++ line)

twice : refused (codes "space one") ≡ Err (Refused 10 Twice)
unfolding tokens_from piece_at number_at text_at inside_at content comment_at utf8_valid_len is_utf8 chars encode
    number_in number_from named name new_name key_line string_attribute int_attribute attribute_line second_hx_line
    all_servers_line all_tolerate_line next_space_line last_space_line behind_keys bundle_command new_space_name
    version_line version_from read_bundle_lines
twice = refl

unknown : refused (codes "session 1\nget three \"a\"") ≡ Err (Refused 11 Unknown)
unfolding tokens_from piece_at number_at text_at inside_at content comment_at utf8_valid_len is_utf8 chars encode
    number_in number_from named name new_name key_line string_attribute int_attribute attribute_line second_hx_line
    all_servers_line all_tolerate_line next_space_line last_space_line next_session_line behind_keys bundle_command
    new_space_name space_named space_call_line version_line version_from read_bundle_lines
unknown = refl

of_another_space : refused (codes "session 1\nput two \"a\" v=\"x\"") ≡ Err (Refused 11 Unknown)
unfolding tokens_from piece_at number_at text_at inside_at content comment_at utf8_valid_len is_utf8 chars encode
    number_in number_from steps named name new_name key_line string_attribute int_attribute attribute_line call_line
    short_text value free_attribute assign one_more put second_hx_line all_servers_line all_tolerate_line
    next_space_line last_space_line next_session_line behind_keys bundle_command new_space_name space_named
    space_call_line version_line version_from read_bundle_lines
of_another_space = refl

no_session : refused (codes "steps\ntick one u1") ≡ Err (Refused 11 Bounds)
unfolding tokens_from piece_at number_at text_at inside_at content comment_at utf8_valid_len is_utf8 chars encode
    number_in number_from named name new_name key_line string_attribute int_attribute attribute_line tick actor
    second_hx_line all_servers_line all_tolerate_line next_space_line last_space_line all_steps_line behind_keys
    bundle_command new_space_name space_named space_step_line version_line version_from read_bundle_lines
no_session = refl
