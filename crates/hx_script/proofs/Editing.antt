-- Edits up to the end of the line.
use Rattle.std.proofs.Common.{◌≡◌, ◌<◌, true, false, List, [], ◌∷◌, ◌++◌, length, Result, Ok, refl}
use Rattle.hx_types.specs.declared.spaces.Kind.{Kind}
use Rattle.hx_types.specs.declared.spaces.Space.{Space}
use Rattle.hx_types.specs.declared.values.Edit.{Edit}
use Rattle.hx_types.specs.declared.values.EditKind.{EditKind}
use Rattle.hx_script.specs.declared.errors.Reason.{Reason}
use Rattle.hx_script.specs.declared.errors.Stop.{Stop}
use Rattle.hx_script.specs.declared.errors.Stop.TheVariants.{Memory, Fault}
use Rattle.hx_script.specs.declared.line.Until.TheVariants as until
use Rattle.hx_script.specs.Toks.{Tok}
use Rattle.hx_script.specs.Readers.{is_at, repeat, Fails}
use Rattle.hx_script.specs.Edits.{edit_word, unedited_attribute, edit_value, edit, one_more_edit}
use Rattle.hx_script.proofs.Takes.{Consumes, goes_on, fails, ends, takes}
use Rattle.hx_script.proofs.Assigning.{named_consumes, any_value_consumes}

edit_word_consumes : Consumes edit_word
unfolding edit_word
edit_word_consumes = search takes

unedited_attribute_consumes : (space : Space) (edits : List Edit) → Consumes (unedited_attribute space edits)
unfolding unedited_attribute
unedited_attribute_consumes space edits = search (takes, named_consumes)

edit_value_consumes : (what : EditKind) (kind : Kind) → Consumes (edit_value what kind)
unfolding edit_value
edit_value_consumes what kind = search (takes, any_value_consumes)

edit_consumes : (space : Space) (edits : List Edit) → Consumes (edit space edits)
unfolding edit
edit_consumes space edits = search (takes, edit_word_consumes, unedited_attribute_consumes, edit_value_consumes) depth 8

one_more_consumes : (space : Space) (edits : List Edit) → Consumes (one_more_edit space edits)
unfolding one_more_edit
one_more_consumes space edits = search (takes, edit_consumes)

pub edits_go_on :
    (space : Space) (edits : List Edit) (ts : List Tok) (e : Edit) (rest : List Tok)
    → is_at until.End ts ≡ false
    → edit space edits ts ≡ Ok (e, rest)
    → repeat until.End (one_more_edit space) edits ts ≡ repeat until.End (one_more_edit space) (edits ++ e ∷ []) rest
unfolding one_more_edit
edits_go_on space edits ts e rest h is = goes_on until.End (one_more_edit space) (one_more_consumes space) edits ts (edits ++ e ∷ []) rest h (rw is refl)

pub edit_shrinks : (space : Space) (edits : List Edit) (ts : List Tok) (e : Edit) (rest : List Tok)
    → edit space edits ts ≡ Ok (e, rest) → length rest < length ts
edit_shrinks space edits ts e rest is = (edit_consumes space edits).at ts (e, rest) is

one_more_fails : (e : Stop) (space : Space) (edits : List Edit) (ts : List Tok) → Fails e (edit space edits ts) → Fails e (one_more_edit space edits ts)
unfolding one_more_edit
one_more_fails Memory space edits ts f = tt
one_more_fails (Fault r) space edits ts f = rw f refl

pub edits_stop :
    (e : Stop) (space : Space) (edits : List Edit) (ts : List Tok) (total : Result (List Edit × List Tok) Reason)
    → is_at until.End ts ≡ false
    → Fails e (edit space edits ts)
    → repeat until.End (one_more_edit space) edits ts ≡ total
    → Fails e total
edits_stop e space edits ts total h f so_far = fails e until.End (one_more_edit space) edits ts total h (one_more_fails e space edits ts f) so_far

pub edits_end : (space : Space) (edits : List Edit) (ts : List Tok) → is_at until.End ts ≡ true
    → repeat until.End (one_more_edit space) edits ts ≡ Ok (edits, ts)
edits_end space edits ts h = ends until.End (one_more_edit space) edits ts h
