-- The first edit that fails answers for all.
use Rattle.std.proofs.Common.{◌≡◌, List, ◌∷◌, ap, ◌∙◌, sym}
use Rattle.std.specs.Prelude.{◌-◌, Result, slice_set}
use Rattle.hx_types.specs.declared.values.Edit.{Edit}
use Rattle.hx_types.specs.declared.values.Value.{Value}
use Rattle.hx_types.specs.Effects.{and_then, edit_of, edited_from}
use Rattle.hx_rules.specs.Editing.{Fails}
use Rattle.hx_rules.specs.declared.edits.EditError.{EditError}
use Rattle.hx_rules.specs.declared.edits.EditError.TheVariants.{Memory, Overflow, TooLong}

pub fails_here : (old object : List Value) (e : Edit) (rest all : List Edit) (error : EditError)
    → edited_from old object (e ∷ rest) ≡ edited_from old old all → Fails (edit_of old e) error
    → Fails (edited_from old old all) error
fails_here old object e rest all Memory same h = tt
fails_here old object e rest all Overflow same h =
    sym same ∙ ap (λ (r : Result Value _). and_then r
    (λ (v : Value). edited_from old (slice_set object (e.attribute - 1) v) rest)) h
fails_here old object e rest all TooLong same h =
    sym same ∙ ap (λ (r : Result Value _). and_then r
    (λ (v : Value). edited_from old (slice_set object (e.attribute - 1) v) rest)) h
