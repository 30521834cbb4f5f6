-- The verdict on a report: which clause is broken, and at which line; lines are numbered from 1 as the printer writes them.
use Rattle.std.specs.Prelude.{◌≡◌, ℕ, ◌+◌, ◌<◌, List, [], ◌∷◌, ◌++◌, length, codes}
use Rattle.hx_types.specs.Words.{IsIn}
use Rattle.hx_model.specs.Types.{Space}
use Rattle.hx_report_lines.specs.declared.blocks.Block.{Block}
use Rattle.hx_report_lines.specs.declared.calls.CallLine.{CallLine}
use Rattle.hx_report_lines.specs.declared.histories.HistoryLines.{HistoryLines}
use Rattle.hx_report_lines.specs.Values.{ReportValue}
use Rattle.hx_audit.specs.declared.verdicts.Clause.{Clause}
use Rattle.hx_audit.specs.declared.verdicts.Verdict.{Verdict}
use Rattle.hx_audit.specs.declared.verdicts.Clause.TheVariants as clauses
use Rattle.hx_audit.specs.declared.verdicts.Verdict.TheVariants as verdicts
use Rattle.hx_audit.specs.Told.{rows_told}
use Rattle.hx_audit.specs.Clauses.{KeepsInCall, KeepsInHistory}

-- the lines of a space: its name, its key, its attributes and subspaces, its servers, and how many may fail
abbrev pub space_lines : Space → ℕ
space_lines space = 4 + length space.attributes + length space.subspaces

-- the line of a call and those of its rows
abbrev pub call_lines : CallLine → ℕ
call_lines l = 1 + length (rows_told l)

-- the line of a key and those of its items
abbrev pub history_lines : HistoryLines → ℕ
history_lines h = 1 + length h.items

abbrev pub lines_of_calls : List CallLine → ℕ
lines_of_calls [] = 0
lines_of_calls (l ∷ rest) = call_lines l + lines_of_calls rest

abbrev pub lines_of_histories : List HistoryLines → ℕ
lines_of_histories [] = 0
lines_of_histories (h ∷ rest) = history_lines h + lines_of_histories rest

abbrev pub block_lines : Block → ℕ
block_lines b =
    space_lines b.space + lines_of_calls b.calls + lines_of_histories b.histories + length b.epochs + length b.raw + length b.drivers

-- a call or a history of a block
pub data Piece : Type 0 where
  OfCall : CallLine → Piece
  OfHistory : HistoryLines → Piece

-- a piece with its block and the number of its first line
pub record Placed : Type 0 where
  pub line : ℕ
  pub block : Block
  pub piece : Piece

-- calls from a line on
abbrev pub calls_from : Block → ℕ → List CallLine → List Placed
calls_from b line [] = []
calls_from b line (l ∷ rest) = record { line = line; block = b; piece = OfCall l } ∷ calls_from b (line + call_lines l) rest

-- histories from a line on
abbrev pub histories_from : Block → ℕ → List HistoryLines → List Placed
histories_from b line [] = []
histories_from b line (h ∷ rest) = record { line = line; block = b; piece = OfHistory h } ∷ histories_from b (line + history_lines h) rest

-- the calls and histories of a block whose first line has this number
abbrev pub block_from : Block → ℕ → List Placed
block_from b line =
    let first = line + space_lines b.space in
    calls_from b first b.calls ++ histories_from b (first + lines_of_calls b.calls) b.histories

-- those of blocks from a line on
abbrev pub blocks_from : ℕ → List Block → List Placed
blocks_from line [] = []
blocks_from line (b ∷ rest) = block_from b line ++ blocks_from (line + block_lines b) rest

-- those of a report, whose first line is `report` and its version
abbrev pub pieces_of : ReportValue → List Placed
pieces_of r = blocks_from 2 r.blocks

-- the clause is kept at this one of the lines of a piece
abbrev pub KeepsInPiece : Clause → Block → Piece → ℕ → Type 0
KeepsInPiece clause b (OfCall l) place = KeepsInCall clause b l place
KeepsInPiece clause b (OfHistory h) place = KeepsInHistory clause b h place

-- the clause is kept at every line
abbrev pub IsKept : ReportValue → Clause → Type 0
IsKept r clause = (p : Placed) → IsIn p (pieces_of r) → (place : ℕ) → KeepsInPiece clause p.block p.piece place

-- the clause is broken at the line
pub record IsBrokenAt (r : ReportValue) (line : ℕ) (clause : Clause) : Type 0 where
  pub piece : Placed
  pub stands : IsIn piece (pieces_of r)
  pub place : ℕ
  pub here : line ≡ piece.line + place
  pub broken : ¬ KeepsInPiece clause piece.block piece.piece place

-- clauses are judged in this order
abbrev pub rank_of : Clause → ℕ
rank_of clauses.Foreign = 0
rank_of clauses.Legal = 1
rank_of clauses.Missing = 2
rank_of clauses.Order = 3
rank_of clauses.Whole = 4
rank_of clauses.True = 5

-- the clause is broken at the line and at no lower one, and no earlier clause is broken anywhere
pub record IsFirstBroken (r : ReportValue) (line : ℕ) (clause : Clause) : Type 0 where
  pub broken : IsBrokenAt r line clause
  pub lowest : (lower : ℕ) → lower < line → ¬ IsBrokenAt r lower clause
  pub earlier : (other : Clause) → rank_of other < rank_of clause → IsKept r other

-- yes where every clause is kept at every line
abbrev pub IsVerdict : ReportValue → Verdict → Type 0
IsVerdict r verdicts.Yes = (clause : Clause) → IsKept r clause
IsVerdict r (verdicts.No line clause) = IsFirstBroken r line clause

-- the word for a clause
abbrev pub clause_word : Clause → List ℕ
clause_word clauses.Foreign = codes "foreign"
clause_word clauses.Legal = codes "legal"
clause_word clauses.Missing = codes "missing"
clause_word clauses.Order = codes "order"
clause_word clauses.Whole = codes "whole"
clause_word clauses.True = codes "true"
