-- Edits in a line.
use Rattle.std.specs.Prelude.{ℕ, Bool, true, false, not, ◌&&◌, List, [], ◌∷◌, ◌++◌, codes, ◌==◌, Result, Ok, Err, if◌then◌else◌}
use Rattle.std.specs.List.{list_any}
use Rattle.std.specs.Str.{bytes_eq}
use Rattle.hx_types.specs.declared.spaces.Kind.{Kind}
use Rattle.hx_types.specs.declared.spaces.Kind.TheVariants as kinds
use Rattle.hx_types.specs.declared.spaces.Space.{Space}
use Rattle.hx_types.specs.declared.values.Edit.{Edit}
use Rattle.hx_types.specs.declared.values.EditKind.{EditKind}
use Rattle.hx_types.specs.declared.values.EditKind.TheVariants as an_edit
use Rattle.hx_types.specs.declared.values.Value.{Value}
use Rattle.hx_types.specs.Subspaces.{kind_at}
use Rattle.hx_script.specs.declared.errors.Reason.{Reason}
use Rattle.hx_script.specs.declared.errors.Reason.TheVariants.{Order, Twice, TypeOf, Limit}
use Rattle.hx_script.specs.declared.line.Until.TheVariants as until
use Rattle.hx_script.specs.Readers.{◌>>=◌, Reader, give, judged, check, word, sign, repeat}
use Rattle.hx_script.specs.Values.{any_value, is_of, is_short}
use Rattle.hx_script.specs.Words.{named, declared_number}

abbrev pub edit_kind : List ℕ → Result EditKind Reason
edit_kind w =
    if bytes_eq w (codes "add") then Ok an_edit.Add
    else (if bytes_eq w (codes "append") then Ok an_edit.Append
    else (if bytes_eq w (codes "min") then Ok an_edit.Min
    else (if bytes_eq w (codes "max") then Ok an_edit.Max
    else Err Order)))

-- `add`, `append`, `min` or `max`
unfoldable pub edit_word : Reader EditKind
edit_word = do
  w ← word
  judged (edit_kind w)

abbrev pub has_edit : List Edit → ℕ → Bool
has_edit edits a = list_any (λ (e : Edit). e.attribute == a) edits

-- a declared attribute that isn't edited yet, by its name
unfoldable pub unedited_attribute : Space → List Edit → Reader ℕ
unedited_attribute space edits = do
  w ← named
  a ← judged (declared_number space w)
  new ← check (not (has_edit edits a)) Twice
  give a

-- texts are appended, numbers added and compared
abbrev pub is_edit_of : EditKind → Kind → Bool
is_edit_of an_edit.Append kinds.Text = true
is_edit_of an_edit.Add (kinds.Int lo hi) = true
is_edit_of an_edit.Min (kinds.Int lo hi) = true
is_edit_of an_edit.Max (kinds.Int lo hi) = true
is_edit_of _ _ = false

-- a value of the kind, by which a value of the kind can be edited so
unfoldable pub edit_value : EditKind → Kind → Reader Value
edit_value what kind = do
  v ← any_value
  fits ← check (is_edit_of what kind && is_of kind v) TypeOf
  short ← check (is_short v) Limit
  give v

-- add N=V, append N=V, min N=V or max N=V
unfoldable pub edit : Space → List Edit → Reader Edit
edit space edits = do
  what ← edit_word
  a ← unedited_attribute space edits
  equals ← sign (codes "=")
  v ← edit_value what (kind_at space a)
  give (record { what = what; attribute = a; value = v })

unfoldable pub one_more_edit : Space → List Edit → Reader (List Edit)
one_more_edit space edits = do
  e ← edit space edits
  give (edits ++ e ∷ [])

-- one edit or more, up to the end of the line
unfoldable pub some_edits : Space → Reader (List Edit)
some_edits space = do
  first ← one_more_edit space []
  repeat until.End (one_more_edit space) first
