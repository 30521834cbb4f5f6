-- The lines of a script of several spaces, each told by the draft of what was read before. A space
-- has a draft of its own, whose lines and calls are those of a script of one space.
use Rattle.std.specs.Prelude.{ℕ, ◌+◌, ◌-◌, Bool, true, false, not, List, [], ◌∷◌, ◌++◌, map, length, nat_le, nat_lt}
use Rattle.std.specs.Prelude.{min, position, slice_get, slice_set, Option, Some, None, Result, Ok, Err}
use Rattle.std.specs.List.{list_all, list_any}
use Rattle.std.specs.Str.{bytes_eq}
use Rattle.hx_lex.specs.Lines.{tokens_of}
use Rattle.hx_bundle.specs.declared.limits.TheConstants.{MOST_SPACES}
use Rattle.hx_types.specs.declared.limits.TheConstants.{LONGEST_NAME, MOST_CALLS, MOST_FAILURES, MOST_SERVERS, MOST_SESSIONS, MOST_STEPS}
use Rattle.hx_script.specs.declared.bundle_draft.BundleDraft.{BundleDraft}
use Rattle.hx_script.specs.declared.bundle_draft.BundleSection.{BundleSection}
use Rattle.hx_script.specs.declared.bundle_draft.BundleSection.TheVariants as stages
use Rattle.hx_script.specs.declared.draft.Draft.{Draft}
use Rattle.hx_script.specs.declared.draft.Section.{Section}
use Rattle.hx_script.specs.declared.draft.Section.TheVariants as sections
use Rattle.hx_script.specs.declared.errors.Reason.{Reason}
use Rattle.hx_script.specs.declared.errors.Reason.TheVariants.{Order, Unknown, Twice, Limit}
use Rattle.hx_script.specs.declared.keyword.CallWord.{CallWord}
use Rattle.hx_script.specs.declared.keyword.Heading.{Heading}
use Rattle.hx_script.specs.declared.keyword.Heading.TheVariants as headings
use Rattle.hx_script.specs.declared.keyword.Keyword.{Keyword}
use Rattle.hx_script.specs.declared.keyword.Keyword.TheVariants as keywords
use Rattle.hx_script.specs.declared.keyword.StepWord.{StepWord}
use Rattle.hx_script.specs.Calls.{step}
use Rattle.hx_script.specs.Grammar.{call_line, heading_line, push_to_last, toks_from}
use Rattle.hx_script.specs.Keywords.{keyword_of}
use Rattle.hx_script.specs.Readers.{◌>>=◌, on_ok, Reader, give, refuse, judged, check, word, number_in, end}
use Rattle.hx_script.specs.Texts.{empty_draft}
use Rattle.hx_script.specs.Toks.{Tok}
use Rattle.hx_script.specs.Words.{named}

-- ---- spaces by their names

abbrev pub is_space : List ℕ → Draft → Bool
is_space w d = bytes_eq d.space.name w

abbrev pub placed : Option ℕ → Result ℕ Reason
placed (Some k) = Ok k
placed None = Err Unknown

-- the space of that name, from 0
abbrev pub space_number : List Draft → List ℕ → Result ℕ Reason
space_number spaces w = placed (position (is_space w) spaces)

-- a declared space, by its name
unfoldable pub space_named : List Draft → Reader ℕ
space_named spaces = do
  w ← named
  judged (space_number spaces w)

-- a name that no space has
unfoldable pub new_space_name : List Draft → Reader (List ℕ)
new_space_name spaces = do
  w ← named
  new ← check (not (list_any (is_space w) spaces)) Twice
  short ← check (nat_le (length w) LONGEST_NAME) Limit
  give w

-- ---- lines of one space

abbrev pub in_draft : List Draft → ℕ → (Draft → Reader Draft) → Option Draft → Reader (List Draft)
in_draft spaces k line (Some d) = line d >>= (λ e. give (slice_set spaces k e))
in_draft spaces k line None = refuse Order

-- a line of the space of that number
abbrev pub in_space : List Draft → ℕ → (Draft → Reader Draft) → Reader (List Draft)
in_space spaces k line = in_draft spaces k line (slice_get spaces k)

-- the key, an attribute or a subspace of the space that was named last
abbrev pub in_last_space : List Draft → Heading → Reader (List Draft)
in_last_space spaces h = in_space spaces (length spaces - 1) (λ d. heading_line d d.section h)

abbrev pub is_keyed : Section → Bool
is_keyed sections.Keying = false
is_keyed other = true

-- the line `key` was read
abbrev pub has_key : Draft → Bool
has_key d = is_keyed d.section

abbrev pub have_keys : List Draft → Bool
have_keys spaces = list_all has_key spaces

-- a space of which only the name was read
abbrev pub named_draft : ℕ → ℕ → List ℕ → Draft
named_draft servers tolerate w = record empty_draft {
  section = sections.Keying;
  space = record empty_draft.space { name = w; servers = servers; tolerate = tolerate };
}

-- one more session has no calls yet
abbrev pub with_session : Draft → Draft
with_session d = record d { section = sections.Calls; sessions = d.sessions ++ [] ∷ [] }

-- ---- lines of all spaces

-- hx 2
unfoldable pub second_hx_line : BundleDraft → Reader BundleDraft
second_hx_line b = do
  two ← number_in 2 2
  ended ← end
  give (record b { section = stages.Serving })

-- servers I
unfoldable pub all_servers_line : BundleDraft → Reader BundleDraft
all_servers_line b = do
  n ← number_in 1 MOST_SERVERS
  ended ← end
  give (record b { section = stages.Tolerance; servers = n })

-- tolerate I
unfoldable pub all_tolerate_line : BundleDraft → Reader BundleDraft
all_tolerate_line b = do
  n ← number_in 0 (min (b.servers - 1) MOST_FAILURES)
  ended ← end
  give (record b { section = stages.Naming; tolerate = n })

-- space N
unfoldable pub next_space_line : BundleDraft → Reader BundleDraft
next_space_line b = do
  room ← check (nat_lt (length b.spaces) MOST_SPACES) Limit
  w ← new_space_name b.spaces
  ended ← end
  give (record b { section = stages.Spaces; spaces = b.spaces ++ named_draft b.servers b.tolerate w ∷ [] })

-- a line of the space that was named last
unfoldable pub last_space_line : BundleDraft → Heading → Reader BundleDraft
last_space_line b h = do
  spaces ← in_last_space b.spaces h
  give (record b { spaces = spaces })

-- session I
unfoldable pub next_session_line : BundleDraft → Reader BundleDraft
next_session_line b = do
  room ← check (nat_lt (length b.turns) MOST_SESSIONS) Limit
  n ← number_in (length b.turns + 1) (length b.turns + 1)
  ended ← end
  give (record b { section = stages.Calls; spaces = map with_session b.spaces; turns = b.turns ++ [] ∷ [] })

-- steps
unfoldable pub all_steps_line : BundleDraft → Reader BundleDraft
all_steps_line b = do
  ended ← end
  give (record b { section = stages.Steps })

-- one more call of the last session, in the space that is named behind the first word
unfoldable pub space_call_line : BundleDraft → CallWord → Reader BundleDraft
space_call_line b c = do
  room ← check (nat_lt b.calls MOST_CALLS) Limit
  k ← space_named b.spaces
  spaces ← in_space b.spaces k (λ d. call_line d c)
  give (record b { spaces = spaces; turns = push_to_last b.turns k; calls = b.calls + 1 })

-- one more step in the space that is named behind the first word, on the line of that number
unfoldable pub space_step_line : ℕ → BundleDraft → StepWord → Reader BundleDraft
space_step_line n b w = do
  room ← check (nat_lt (length b.steps) MOST_STEPS) Limit
  k ← space_named b.spaces
  s ← step b.servers (length b.turns) w
  give (record b { steps = b.steps ++ record { line = n; space = k; step = s } ∷ [] })

-- a line that may come where each space has its key
abbrev pub keyed_line : BundleDraft → Heading → Reader BundleDraft
keyed_line b headings.Space = next_space_line b
keyed_line b headings.Session = next_session_line b
keyed_line b headings.Steps = all_steps_line b
keyed_line b _ = refuse Order

unfoldable pub behind_keys : BundleDraft → Heading → Reader BundleDraft
behind_keys b h = do
  keyed ← check (have_keys b.spaces) Order
  keyed_line b h

-- a line of the space that was named last, or one behind the keys of all
abbrev pub spaces_line : BundleDraft → Heading → Reader BundleDraft
spaces_line b headings.Key = last_space_line b headings.Key
spaces_line b headings.String = last_space_line b headings.String
spaces_line b headings.Int = last_space_line b headings.Int
spaces_line b headings.Subspace = last_space_line b headings.Subspace
spaces_line b h = behind_keys b h

-- the line of the head or of a section, where it may come next
abbrev pub bundle_heading_line : BundleDraft → BundleSection → Heading → Reader BundleDraft
bundle_heading_line b stages.Start headings.Hx = second_hx_line b
bundle_heading_line b stages.Serving headings.Servers = all_servers_line b
bundle_heading_line b stages.Tolerance headings.Tolerate = all_tolerate_line b
bundle_heading_line b stages.Naming headings.Space = next_space_line b
bundle_heading_line b stages.Spaces h = spaces_line b h
bundle_heading_line b stages.Calls headings.Session = next_session_line b
bundle_heading_line b stages.Calls headings.Steps = all_steps_line b
bundle_heading_line b _ _ = refuse Order

-- the line that a word begins, where it may come next
abbrev pub bundle_line_for : ℕ → BundleDraft → BundleSection → Option Keyword → Reader BundleDraft
bundle_line_for n b s (Some (keywords.Heading h)) = bundle_heading_line b s h
bundle_line_for n b stages.Calls (Some (keywords.Call c)) = space_call_line b c
bundle_line_for n b stages.Steps (Some (keywords.Step w)) = space_step_line n b w
bundle_line_for n b _ _ = refuse Order

unfoldable pub bundle_command : ℕ → BundleDraft → Reader BundleDraft
bundle_command n b = do
  w ← word
  bundle_line_for n b b.section (keyword_of w)

-- a line without tokens says nothing
abbrev pub bundle_line_of_toks : ℕ → BundleDraft → List Tok → Result BundleDraft Reason
bundle_line_of_toks n b [] = Ok b
bundle_line_of_toks n b (t ∷ ts) = on_ok (bundle_command n b (t ∷ ts)) (λ x. Ok x.0)

-- the draft after the line of that number
abbrev pub bundle_line_of : ℕ → BundleDraft → List ℕ → Result BundleDraft Reason
bundle_line_of n b line = on_ok (toks_from line (tokens_of line)) (bundle_line_of_toks n b)
