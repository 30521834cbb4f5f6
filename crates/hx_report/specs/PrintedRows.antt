-- Rows that were printed, each with its line.
use Rattle.std.specs.Prelude.{◌≡◌, ◌≤◌, ℕ, List, length, slice_range}
use Rattle.std.specs.List.{All}
use Rattle.hx_model.specs.Types.{Space}
use Rattle.hx_report.specs.declared.printed_rows.PrintedRow.{PrintedRow}
use Rattle.hx_report.specs.declared.printed_rows.PrintedRows.{PrintedRows}
use Rattle.hx_report.specs.Reporting.{row_line}

-- the range of a printed row in the lines is the line of its row
pub record IsLine (space : Space) (lines : List ℕ) (printed : PrintedRow) : Type 0 where
  pub begins : printed.start ≤ printed.end
  pub ends : printed.end ≤ length lines
  pub line : slice_range lines printed.start printed.end ≡ row_line space printed.row.now

-- so is each of those that were printed
pub record IsPrinted (space : Space) (printed : PrintedRows) : Type 0 where
  pub rows : All (IsLine space printed.lines.items) printed.rows.items
  pub made : All (IsLine space printed.lines.items) printed.made.items
