-- What proofs of other crates may cite. Declares nothing.
pub use Rattle.hx_report_lines.proofs.CallsRead.{IsRow}
pub use Rattle.hx_report_lines.proofs.CallsTaken.{answer_line, call_front, row_front}
pub use Rattle.hx_report_lines.proofs.Cuts.{lines_join}
pub use Rattle.hx_report_lines.proofs.DraftsRead.{IsOneLine}
pub use Rattle.hx_report_lines.proofs.EpochsTaken.{epoch_front}
pub use Rattle.hx_report_lines.proofs.LinesTaken.{driver_front, item_line, key_line}
pub use Rattle.hx_report_lines.proofs.OneLines.{call_one, driver_one, epoch_one, item_one, key_one, row_one}
pub use Rattle.hx_report_lines.proofs.Scans.{Runs, all_run, decimal_runs, joined, name_of_runs, name_runs, nothing_runs, one_line_of, signed_runs, words_run}
pub use Rattle.hx_report_lines.proofs.TextsRead.{with_newline}
