-- The lines of a script, each told by the draft of what was read before.
use Rattle.std.specs.Prelude.{ℕ, ◌+◌, ◌-◌, List, [], ◌∷◌, ◌++◌, length, nat_lt, min, map, Option, Some, Result, Ok, Err}
use Rattle.hx_lex.specs.declared.errors.LexError.{LexError}
use Rattle.hx_lex.specs.declared.token.Token.{Token}
use Rattle.hx_lex.specs.Lines.{tokens_of}
use Rattle.hx_types.specs.declared.limits.TheConstants.{MOST_ATTRIBUTES, MOST_CALLS, MOST_FAILURES, MOST_PARTS, MOST_SERVERS, MOST_SESSIONS, MOST_STEPS}
use Rattle.hx_types.specs.declared.limits.TheConstants.{MOST_SUBSPACES}
use Rattle.hx_types.specs.declared.spaces.Attribute.{Attribute}
use Rattle.hx_types.specs.declared.spaces.Kind.TheVariants as kinds
use Rattle.hx_types.specs.declared.spaces.Space.{Space}
use Rattle.hx_script.specs.declared.draft.Draft.{Draft}
use Rattle.hx_script.specs.declared.draft.Section.{Section}
use Rattle.hx_script.specs.declared.draft.Section.TheVariants as sections
use Rattle.hx_script.specs.declared.errors.Reason.{Reason}
use Rattle.hx_script.specs.declared.errors.Reason.TheVariants.{Order, Limit, Token as TokenFault}
use Rattle.hx_script.specs.declared.keyword.CallWord.{CallWord}
use Rattle.hx_script.specs.declared.keyword.Heading.{Heading}
use Rattle.hx_script.specs.declared.keyword.Heading.TheVariants as headings
use Rattle.hx_script.specs.declared.keyword.Keyword.{Keyword}
use Rattle.hx_script.specs.declared.keyword.Keyword.TheVariants as keywords
use Rattle.hx_script.specs.declared.keyword.StepWord.{StepWord}
use Rattle.hx_script.specs.Calls.{call, step}
use Rattle.hx_script.specs.Axes.{subspace}
use Rattle.hx_script.specs.Keywords.{keyword_of}
use Rattle.hx_script.specs.Readers.{◌>>=◌, on_ok, Reader, give, refuse, check, word, number, number_in, number_from, end}
use Rattle.hx_script.specs.Toks.{Tok, meaning}
use Rattle.hx_script.specs.Words.{name, new_name}

-- hx 1
unfoldable pub hx_line : Draft → Reader Draft
hx_line d = do
  one ← number_in 1 1
  ended ← end
  give (record d { section = sections.Naming })

-- space N
unfoldable pub space_line : Draft → Reader Draft
space_line d = do
  w ← name
  ended ← end
  give (record d { section = sections.Keying; space = record d.space { name = w } })

-- key N I
unfoldable pub key_line : Draft → Reader Draft
key_line d = do
  w ← name
  parts ← number_in 1 MOST_PARTS
  ended ← end
  give (record d { section = sections.Attributes; regions = parts; space = record d.space { key_name = w; key_parts = parts } })

-- string N
unfoldable pub string_attribute : Space → Reader Attribute
string_attribute space = do
  w ← new_name space
  ended ← end
  give (record { name = w; kind = kinds.Text })

-- int N I I
unfoldable pub int_attribute : Space → Reader Attribute
int_attribute space = do
  w ← new_name space
  lo ← number
  hi ← number_from lo
  ended ← end
  give (record { name = w; kind = kinds.Int lo hi })

-- one more attribute, where there is room
unfoldable pub attribute_line : Draft → (Space → Reader Attribute) → Reader Draft
attribute_line d attribute = do
  room ← check (nat_lt (length d.space.attributes) MOST_ATTRIBUTES) Limit
  a ← attribute d.space
  give (record d { space = record d.space { attributes = d.space.attributes ++ a ∷ [] } })

-- subspace N I, N I, ..
unfoldable pub subspace_line : Draft → Reader Draft
subspace_line d = do
  room ← check (nat_lt (length d.space.subspaces) MOST_SUBSPACES) Limit
  c ← subspace d.space d.regions
  give (record d { section = sections.Subspaces; regions = d.regions + c.size; space = record d.space { subspaces = d.space.subspaces ++ c.axes ∷ [] } })

-- servers I
unfoldable pub servers_line : Draft → Reader Draft
servers_line d = do
  n ← number_in 1 MOST_SERVERS
  ended ← end
  give (record d { section = sections.Tolerance; space = record d.space { servers = n } })

-- tolerate I
unfoldable pub tolerate_line : Draft → Reader Draft
tolerate_line d = do
  n ← number_in 0 (min (d.space.servers - 1) MOST_FAILURES)
  ended ← end
  give (record d { section = sections.Sessions; space = record d.space { tolerate = n } })

-- session I
unfoldable pub session_line : Draft → Reader Draft
session_line d = do
  room ← check (nat_lt (length d.sessions) MOST_SESSIONS) Limit
  n ← number_in (length d.sessions + 1) (length d.sessions + 1)
  ended ← end
  give (record d { section = sections.Calls; sessions = d.sessions ++ [] ∷ [] })

-- steps
unfoldable pub steps_line : Draft → Reader Draft
steps_line d = do
  ended ← end
  give (record d { section = sections.Steps })

-- the last list with one more item
abbrev pub push_to_last : {A : Type 0} → List (List A) → A → List (List A)
push_to_last [] x = []
push_to_last (xs ∷ []) x = (xs ++ x ∷ []) ∷ []
push_to_last (xs ∷ ys ∷ rest) x = xs ∷ push_to_last (ys ∷ rest) x

-- one more call of the last session
unfoldable pub call_line : Draft → CallWord → Reader Draft
call_line d w = do
  room ← check (nat_lt d.calls MOST_CALLS) Limit
  op ← call d.space d.regions w
  give (record d { sessions = push_to_last d.sessions op; calls = d.calls + 1 })

-- one more step, which stands on the line of that number
unfoldable pub step_line : ℕ → Draft → StepWord → Reader Draft
step_line n d w = do
  room ← check (nat_lt (length d.steps) MOST_STEPS) Limit
  s ← step d.space.servers (length d.sessions) w
  give (record d { steps = d.steps ++ (n, s) ∷ [] })

-- the line of the head or of a section, where it may come next
abbrev pub heading_line : Draft → Section → Heading → Reader Draft
heading_line d sections.Start headings.Hx = hx_line d
heading_line d sections.Naming headings.Space = space_line d
heading_line d sections.Keying headings.Key = key_line d
heading_line d sections.Attributes headings.String = attribute_line d string_attribute
heading_line d sections.Attributes headings.Int = attribute_line d int_attribute
heading_line d sections.Attributes headings.Subspace = subspace_line d
heading_line d sections.Subspaces headings.Subspace = subspace_line d
heading_line d sections.Attributes headings.Servers = servers_line d
heading_line d sections.Subspaces headings.Servers = servers_line d
heading_line d sections.Tolerance headings.Tolerate = tolerate_line d
heading_line d sections.Sessions headings.Session = session_line d
heading_line d sections.Calls headings.Session = session_line d
heading_line d sections.Sessions headings.Steps = steps_line d
heading_line d sections.Calls headings.Steps = steps_line d
heading_line d _ _ = refuse Order

-- the line that a word begins, where it may come next
abbrev pub line_for : ℕ → Draft → Section → Option Keyword → Reader Draft
line_for n d s (Some (keywords.Heading h)) = heading_line d s h
line_for n d sections.Calls (Some (keywords.Call c)) = call_line d c
line_for n d sections.Steps (Some (keywords.Step w)) = step_line n d w
line_for n d _ _ = refuse Order

unfoldable pub command : ℕ → Draft → Reader Draft
command n d = do
  w ← word
  line_for n d d.section (keyword_of w)

abbrev pub toks_from : List ℕ → Result (List Token) LexError → Result (List Tok) Reason
toks_from line (Ok ts) = Ok (map (meaning line) ts)
toks_from line (Err e) = Err TokenFault

-- a line without tokens says nothing
abbrev pub line_of_toks : ℕ → Draft → List Tok → Result Draft Reason
line_of_toks n d [] = Ok d
line_of_toks n d (t ∷ ts) = on_ok (command n d (t ∷ ts)) (λ x. Ok x.0)

-- the draft after the line of that number
abbrev pub line_of : ℕ → Draft → List ℕ → Result Draft Reason
line_of n d line = on_ok (toks_from line (tokens_of line)) (line_of_toks n d)
