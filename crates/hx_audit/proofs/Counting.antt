-- Nothing has no lines.
use Rattle.std.proofs.Common.{◌≡◌, List, [], ◌∷◌, length, refl, arith}
use Rattle.hx_report_lines.specs.declared.calls.CallLine.{CallLine}
use Rattle.hx_report_lines.specs.declared.histories.HistoryLines.{HistoryLines}
use Rattle.hx_audit.specs.Verdicts.{lines_of_calls, lines_of_histories}

pub no_calls : (xs : List CallLine) → length xs ≡ 0 → lines_of_calls xs ≡ 0
no_calls [] e = refl
no_calls (x ∷ xs) e = absurd (omega (arith, e))

pub no_histories : (xs : List HistoryLines) → length xs ≡ 0 → lines_of_histories xs ≡ 0
no_histories [] e = refl
no_histories (x ∷ xs) e = absurd (omega (arith, e))
