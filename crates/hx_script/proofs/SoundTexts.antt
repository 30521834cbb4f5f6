-- What is read is a script within the limits, whose calls fit its space.
use Rattle.std.proofs.Common.{◌≡◌, ℕ, ◌+◌, ◌≤◌, cond, List, [], ◌∷◌, map, length, Result, Ok, Err, refl, subst, arith}
use Rattle.std.specs.List.{AllByRecursion}
use Rattle.std.specs.Prelude.{slice_range}
use Rattle.std.proofs.lemmas.List.Elements.{All-nil, All-weaker}
use Rattle.hx_lex.specs.declared.errors.LexError.{LexError}
use Rattle.hx_lex.specs.declared.token.Token.{Token}
use Rattle.hx_lex.specs.declared.token.TokenKind.{TokenKind}
use Rattle.hx_lex.specs.declared.token.TokenKind.TheVariants as token_kinds
use Rattle.hx_lex.specs.Lines.{tokens_of}
use Rattle.hx_lex.specs.Spelling.{IsSpelled, IsTokenOf}
use Rattle.hx_lex.proofs.Lemmas.{tokens_spelled}
use Rattle.hx_types.specs.declared.limits.TheConstants.{MOST_ATTRIBUTES, MOST_REGIONS, MOST_SESSIONS}
use Rattle.hx_types.specs.declared.spaces.Attribute.{Attribute}
use Rattle.hx_types.specs.declared.traces.Script.{Script}
use Rattle.hx_types.specs.Fitting.{IsScript}
use Rattle.hx_types.specs.Spaces.{IsName, IsKind, IsSubspaceOf}
use Rattle.hx_script.specs.declared.draft.Draft.{Draft}
use Rattle.hx_script.specs.declared.draft.Section.{Section}
use Rattle.hx_script.specs.declared.draft.Section.TheVariants as sections
use Rattle.hx_script.specs.declared.errors.Reason.{Reason}
use Rattle.hx_script.specs.declared.errors.Reason.TheVariants.{Order}
use Rattle.hx_script.specs.declared.errors.ScriptError.{ScriptError}
use Rattle.hx_script.specs.declared.errors.ScriptError.TheVariants as errors
use Rattle.hx_script.specs.Toks.{Tok, tok_of, meaning}
use Rattle.hx_script.specs.Grammar.{command, toks_from, line_of_toks, line_of}
use Rattle.hx_script.specs.Texts.{empty_draft, may_end, lines_of, at_line, read_lines, script_of}
use Rattle.hx_script.proofs.Sections.{AreAxes, SpaceSoFar, CallsSoFar, Complete, BySection, Sound}
use Rattle.hx_script.proofs.SoundLines.{yields_command}
use Rattle.hx_script.proofs.Takes.{on_ok_ok, ok_is}
use Rattle.hx_script.proofs.Yields.{AllToks}

one_tok : (k : TokenKind) (bytes : List ℕ) (ts : List Tok) → IsSpelled k bytes → AllToks ts → AllToks (tok_of k bytes ∷ ts)
one_tok token_kinds.Word bytes ts is all = (is, all)
one_tok (token_kinds.Number n) bytes ts is all = all
one_tok (token_kinds.Text t) bytes ts is all = all
one_tok token_kinds.Sign bytes ts is all = all

all_toks : (line : List ℕ) (ts : List Token) → AllByRecursion (IsTokenOf line) ts → AllToks (map (meaning line) ts)
all_toks line [] all = tt
all_toks line (t ∷ ts) all = one_tok t.kind (slice_range line t.start t.end) (map (meaning line) ts) all.0.spelled (all_toks line ts all.1)

pub toks_sound : (line : List ℕ) (r : Result (List Token) LexError) (ts : List Tok) → tokens_of line ≡ r → toks_from line r ≡ Ok ts → AllToks ts
toks_sound line (Ok tokens) ts e f = subst AllToks (ok_is (map (meaning line) tokens) ts f) (all_toks line tokens (tokens_spelled line tokens e))
toks_sound line (Err e) ts f g = absurd cc

tokens_kept : (n : ℕ) (d : Draft) (ts : List Tok) (after : Draft) → Sound d → AllToks ts → line_of_toks n d ts ≡ Ok after → Sound after
tokens_kept n d [] after so all e = subst Sound (ok_is d after e) so
tokens_kept n d (t ∷ ts) after so all e =
    let o = on_ok_ok (command n d (t ∷ ts)) (λ (x : Draft × List Tok). Ok x.0) after e in
    subst Sound (ok_is o.0.0 after o.2) ((yields_command n d so).at (t ∷ ts) o.0 all o.1).0

pub line_kept : (n : ℕ) (d : Draft) (line : List ℕ) (after : Draft) → Sound d → line_of n d line ≡ Ok after → Sound after
line_kept n d line after so e =
    let o = on_ok_ok (toks_from line (tokens_of line)) (line_of_toks n d) after e in
    tokens_kept n d o.0 after so (toks_sound line (tokens_of line) o.0 refl o.1) o.2

pub a_script : (d : Draft) → SpaceSoFar d → CallsSoFar d → Complete d → IsScript (record { space = d.space; sessions = d.sessions; steps = d.steps })
a_script d s c st = record {
  space = record {
    name = st.0.0;
    key_name = st.0.1;
    names = s.names;
    names_differ = s.differ;
    attributes = s.few;
    key_parts = st.0.2;
    subspaces = All-weaker (AreAxes (length d.space.attributes)) (IsSubspaceOf d.space)
        (λ axes a. record { some = a.some; few = a.fit.few; declared = a.fit.each; once = a.fit.once }) d.space.subspaces s.axes;
    few_subspaces = s.few_subspaces;
    regions = subst (λ r. r ≤ MOST_REGIONS) s.count s.few_regions;
    servers = st.1;
    tolerate = st.2;
  };
  sessions = c.few_sessions;
  calls = st.3;
  few_calls = omega (arith, c.counted, c.few_calls);
  few_steps = c.few_steps;
}

abbrev script : Script → Result Script ScriptError
script s = Ok s

script_is : (s t : Script) → script s ≡ script t → s ≡ t
script_is s t e = cc

ends : (n : ℕ) (d : Draft) (sec : Section) (s : Script) → SpaceSoFar d → CallsSoFar d → BySection sec d
    → cond (may_end sec) (Ok (record { space = d.space; sessions = d.sessions; steps = d.steps }))
    (Err (errors.Refused n Order)) ≡ Ok s → IsScript s
ends n d sections.Start s sp c st e = absurd cc
ends n d sections.Naming s sp c st e = absurd cc
ends n d sections.Keying s sp c st e = absurd cc
ends n d sections.Attributes s sp c st e = absurd cc
ends n d sections.Subspaces s sp c st e = absurd cc
ends n d sections.Tolerance s sp c st e = absurd cc
ends n d sections.Sessions s sp c st e = subst IsScript
    (script_is (record { space = d.space; sessions = d.sessions; steps = d.steps }) s e) (a_script d sp c st)
ends n d sections.Calls s sp c st e = subst IsScript (script_is (record { space = d.space; sessions = d.sessions; steps = d.steps }) s e) (a_script d sp c st)
ends n d sections.Steps s sp c st e = subst IsScript (script_is (record { space = d.space; sessions = d.sessions; steps = d.steps }) s e) (a_script d sp c st)

at_line_ok : (n : ℕ) (r : Result Draft Reason) (f : Draft → Result Script ScriptError) (s : Script)
    → at_line n r f ≡ Ok s → (d : Draft) × (r ≡ Ok d) × (f d ≡ Ok s)
at_line_ok n (Ok d) f s e = (d, refl, e)
at_line_ok n (Err r) f s e = absurd cc

lines_sound : (ls : List (List ℕ)) (n : ℕ) (d : Draft) (s : Script) → Sound d → read_lines n d ls ≡ Ok s → IsScript s
unfolding read_lines
lines_sound [] n d s so e = ends (n + 1) d d.section s so.space so.calls so.stage e
lines_sound (l ∷ ls) n d s so e =
    let o = at_line_ok (n + 1) (line_of (n + 1) d l) (λ x. read_lines (n + 1) x ls) s e in
    lines_sound ls (n + 1) o.0 s (line_kept (n + 1) d l o.0 so o.1) o.2

pub empty_sound : Sound empty_draft
empty_sound = record {
  space = record {
    names = All-nil (λ (a : Attribute). IsName a.name × IsKind a.kind);
    differ = (All-nil (λ (m : List ℕ). m ≡ [] → ⊥), tt);
    few = omega arith;
    axes = All-nil (AreAxes 0);
    few_subspaces = omega arith;
    count = refl;
    few_regions = omega arith;
  };
  calls = record { few_sessions = omega arith; counted = omega arith; few_calls = omega arith; few_steps = omega arith };
  stage = (refl, refl, refl);
}

pub text_sound : (text : List ℕ) (s : Script) → script_of text ≡ Ok s → IsScript s
text_sound text s e = lines_sound (lines_of text) 0 empty_draft s empty_sound e

pub few_attributes : (d : Draft) → Sound d → length d.space.attributes ≤ MOST_ATTRIBUTES
few_attributes d so = so.space.few

pub few_sessions : (d : Draft) → Sound d → length d.sessions ≤ MOST_SESSIONS
few_sessions d so = so.calls.few_sessions
