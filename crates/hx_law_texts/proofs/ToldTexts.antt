-- What is read can be said.
use Rattle.hx_law_texts.proofs.Vocabulary.{[], All, All-nil, Attribute, BoundsAreSayable, CallIsSayable, cond, Draft, empty_draft, Err, IsSayableScript}
use Rattle.hx_law_texts.proofs.Vocabulary.{LexError, line_of, line_of_toks, lines_of, List, map, meaning, Ok, ok_is, on_ok_ok, Order, Reason, refl, Result}
use Rattle.hx_law_texts.proofs.Vocabulary.{Script, script_of, ScriptError, Section, slice_range, Step, StepIsSayable, subst, Tok, tok_of, Token, TokenKind}
use Rattle.hx_law_texts.proofs.Vocabulary.{tokens_of, toks_from, ℕ, ◌+◌, ◌∷◌, ◌≡◌}
use Rattle.std.specs.List.{AllByRecursion}
use Rattle.hx_lex.specs.declared.token.TokenKind.TheVariants as token_kinds
use Rattle.hx_lex.specs.Spelling.{IsSpelled, IsTokenOf}
use Rattle.hx_lex.proofs.Lemmas.{tokens_spelled}
use Rattle.hx_script.specs.declared.draft.Section.TheVariants as sections
use Rattle.hx_script.specs.declared.errors.ScriptError.TheVariants as errors
use Rattle.hx_script.specs.Grammar.{command}
use Rattle.hx_script.specs.Texts.{may_end, at_line, read_lines}
use Rattle.hx_law_texts.proofs.Told.{AllTold}
use Rattle.hx_law_texts.proofs.ToldLines.{Said, tells_command}

one_tok : (k : TokenKind) (bytes : List ℕ) (ts : List Tok) → IsSpelled k bytes → AllTold ts → AllTold (tok_of k bytes ∷ ts)
one_tok token_kinds.Word bytes ts is all = all
one_tok (token_kinds.Number n) bytes ts is all = (is, all)
one_tok (token_kinds.Text t) bytes ts is all = (is.0, all)
one_tok token_kinds.Sign bytes ts is all = all

all_toks : (line : List ℕ) (ts : List Token) → AllByRecursion (IsTokenOf line) ts → AllTold (map (meaning line) ts)
all_toks line [] all = tt
all_toks line (t ∷ ts) all = one_tok t.kind (slice_range line t.start t.end) (map (meaning line) ts) all.0.spelled (all_toks line ts all.1)

pub toks_told : (line : List ℕ) (r : Result (List Token) LexError) (ts : List Tok) → tokens_of line ≡ r → toks_from line r ≡ Ok ts → AllTold ts
toks_told line (Ok tokens) ts e f = subst AllTold (ok_is (map (meaning line) tokens) ts f) (all_toks line tokens (tokens_spelled line tokens e))
toks_told line (Err e) ts f g = absurd cc

tokens_kept : (n : ℕ) (d : Draft) (ts : List Tok) (after : Draft) → Said d → AllTold ts → line_of_toks n d ts ≡ Ok after → Said after
tokens_kept n d [] after so all e = subst Said (ok_is d after e) so
tokens_kept n d (t ∷ ts) after so all e =
    let o = on_ok_ok (command n d (t ∷ ts)) (λ (x : Draft × List Tok). Ok x.0) after e in
    subst Said (ok_is o.0.0 after o.2) ((tells_command n d so).at (t ∷ ts) o.0 all o.1).0

line_kept : (n : ℕ) (d : Draft) (line : List ℕ) (after : Draft) → Said d → line_of n d line ≡ Ok after → Said after
line_kept n d line after so e =
    let o = on_ok_ok (toks_from line (tokens_of line)) (line_of_toks n d) after e in
    tokens_kept n d o.0 after so (toks_told line (tokens_of line) o.0 refl o.1) o.2

abbrev script : Script → Result Script ScriptError
script s = Ok s

script_is : (s t : Script) → script s ≡ script t → s ≡ t
script_is s t e = cc

abbrev as_script : Draft → Script
as_script d = record { space = d.space; sessions = d.sessions; steps = d.steps }

ends : (n : ℕ) (d : Draft) (sec : Section) (s : Script) → Said d
    → cond (may_end sec) (Ok (as_script d)) (Err (errors.Refused n Order)) ≡ Ok s → IsSayableScript s
ends n d sections.Sessions s so e = subst IsSayableScript (script_is (as_script d) s e) (record { bounds = so.bounds; calls = so.calls; steps = so.steps })
ends n d sections.Calls s so e = subst IsSayableScript (script_is (as_script d) s e) (record { bounds = so.bounds; calls = so.calls; steps = so.steps })
ends n d sections.Steps s so e = subst IsSayableScript (script_is (as_script d) s e) (record { bounds = so.bounds; calls = so.calls; steps = so.steps })
ends n d sec s so e = absurd cc

at_line_ok : (n : ℕ) (r : Result Draft Reason) (f : Draft → Result Script ScriptError) (s : Script)
    → at_line n r f ≡ Ok s → (d : Draft) × (r ≡ Ok d) × (f d ≡ Ok s)
at_line_ok n (Ok d) f s e = (d, refl, e)
at_line_ok n (Err r) f s e = absurd cc

lines_told : (ls : List (List ℕ)) (n : ℕ) (d : Draft) (s : Script) → Said d → read_lines n d ls ≡ Ok s → IsSayableScript s
unfolding read_lines
lines_told [] n d s so e = ends (n + 1) d d.section s so e
lines_told (l ∷ ls) n d s so e =
    let o = at_line_ok (n + 1) (line_of (n + 1) d l) (λ x. read_lines (n + 1) x ls) s e in
    lines_told ls (n + 1) o.0 s (line_kept (n + 1) d l o.0 so o.1) o.2

empty_said : Said empty_draft
empty_said = record {
  bounds = All-nil (λ (a : Attribute). BoundsAreSayable a.kind);
  calls = All-nil (All CallIsSayable);
  steps = All-nil (λ (x : ℕ × Step). StepIsSayable 0 0 x.1);
  stage = refl;
}

-- what is read can be said
pub text_told : (text : List ℕ) (s : Script) → script_of text ≡ Ok s → IsSayableScript s
text_told text s e = lines_told (lines_of text) 0 empty_draft s empty_said e
