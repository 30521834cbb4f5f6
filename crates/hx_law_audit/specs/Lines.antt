-- Which line of a report's text a verdict names.
use Rattle.std.specs.Prelude.{◌≡◌, ℕ, zero, suc, ◌+◌, ◌<◌, List, ◌∷◌, ◌++◌, map, length, codes, slice_get, Option, None, Some}
use Rattle.std.specs.List.{flat_map}
use Rattle.std.specs.Option.{option_map}
use Rattle.hx_types.specs.Words.{IsIn}
use Rattle.hx_model.specs.Types.{Space}
use Rattle.hx_report.specs.Reporting.{row_line}
use Rattle.hx_report_lines.specs.Calling.{head_text}
use Rattle.hx_report_lines.specs.Printed.{call_text, history_text, item_text, key_text}
use Rattle.hx_report_lines.specs.Unread.{report_lines}
use Rattle.hx_report_lines.specs.Values.{IsReportValue, ReportValue}
use Rattle.hx_audit.specs.declared.verdicts.Clause.{Clause}
use Rattle.hx_audit.specs.Told.{rows_told}
use Rattle.hx_audit.specs.Verdicts.{IsBrokenAt, OfCall, OfHistory, Piece, Placed, pieces_of}

-- the line of a report's text that has this number, from 1, with its newline
abbrev pub line_at : ReportValue → ℕ → Option (List ℕ)
line_at r zero = None
line_at r (suc n) = option_map (λ (line : List ℕ). line ++ codes "\n") (slice_get (report_lines r) n)

-- what is printed of a call or of a history
abbrev pub piece_text : Space → Piece → List ℕ
piece_text space (OfCall l) = call_text space l
piece_text space (OfHistory h) = history_text space h

-- the same, thing by thing: of a call what stands on its own line and then its rows, of a history its key and then its items
abbrev pub things_of : Space → Piece → List (List ℕ)
things_of space (OfCall l) = head_text space (record { call = l; rows = length (rows_told l) }) ∷ map (row_line space) (rows_told l)
things_of space (OfHistory h) = key_text h.key ∷ map (item_text space) h.items

abbrev pub things_at : Placed → List (List ℕ)
things_at p = things_of p.block.space p.piece

-- these are all that is printed of the piece, and each is one line of the text, from the piece's first line on
pub record IsCounted (r : ReportValue) (p : Placed) : Type 0 where
  pub whole : flat_map (λ (text : List ℕ). text) (things_at p) ≡ piece_text p.block.space p.piece
  pub lines : (place : ℕ) → place < length (things_at p) → line_at r (p.line + place) ≡ slice_get (things_at p) place

-- the line is that of the thing at this place of a piece
pub record IsLineOf (r : ReportValue) (line : ℕ) (p : Placed) (place : ℕ) : Type 0 where
  pub thing : List ℕ
  pub stands : slice_get (things_at p) place ≡ Some thing
  pub here : line_at r line ≡ Some thing

-- each call and history stands at the lines that are counted, and a clause is broken only at one of these
pub record LinesAreCounted : Type 0 where
  pub pieces : (r : ReportValue) → IsReportValue r → (p : Placed) → IsIn p (pieces_of r) → IsCounted r p
  pub broken : (r : ReportValue) → IsReportValue r → (line : ℕ) (clause : Clause) (b : IsBrokenAt r line clause) → IsLineOf r line b.piece b.place
