-- Where no configuration was issued the entries of a trace have no lines.
use Rattle.std.proofs.Common.{◌≡◌, ℕ, List, [], ◌∷◌, ◌++◌, reverse, refl, ap, sym, ◌∙◌, append-nil}
use Rattle.std.proofs.lemmas.List.{reverse-reverse}
use Rattle.hx_types.specs.Configs.{first_config}
use Rattle.hx_model.specs.Types.{Entry, Note, Script}
use Rattle.std.specs.List.{flat_map}
use Rattle.hx_types.specs.declared.traces.Note.TheVariants as a_note
use Rattle.hx_history.specs.Issued.{issued_by, issued_in}
use Rattle.hx_report.specs.Reporting.{entry_lines, epoch_line, epochs_text, note_lines}

both_empty : {A : Type 0} (xs ys : List A) → xs ++ ys ≡ [] → (xs ≡ []) × (ys ≡ [])
both_empty [] ys e = (refl, e)
both_empty (x ∷ xs) ys e = absurd (cc)

no_lines_of : (notes : List Note) → flat_map issued_by notes ≡ [] → flat_map note_lines notes ≡ []
unfolding note_lines
no_lines_of [] e = refl
no_lines_of (a_note.Began number ∷ notes) e = no_lines_of notes e
no_lines_of (a_note.Ended number version answer ∷ notes) e = no_lines_of notes e
no_lines_of (a_note.Assigned update ∷ notes) e = no_lines_of notes e
no_lines_of (a_note.Issued config ∷ notes) e = absurd (cc)

pub no_lines : (trace : List Entry) → issued_in trace ≡ [] → flat_map entry_lines trace ≡ []
no_lines [] e = refl
no_lines (x ∷ trace) e =
    let both = both_empty (flat_map issued_by x.notes) (issued_in trace) e in
    ap (λ lines. lines ++ flat_map entry_lines trace) (no_lines_of x.notes both.0) ∙ no_lines trace both.1

-- then epoch 1 is the only one
pub only_first : (script : Script) (trace : List Entry) → issued_in trace ≡ [] → epoch_line (first_config script.space) ≡ epochs_text script (reverse trace)
unfolding epochs_text
only_first script trace none =
    sym (append-nil (epoch_line (first_config script.space)))
    ∙ ap (λ (ys : List ℕ). epoch_line (first_config script.space) ++ ys) (sym (no_lines trace none) ∙ ap (flat_map entry_lines) (sym (reverse-reverse trace)))
