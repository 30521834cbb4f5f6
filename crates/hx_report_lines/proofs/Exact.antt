-- A report's text is read, and where a text is refused none begins with the lines up to there.
use Rattle.std.proofs.Common.{◌≡◌, ℕ, ◌+◌, ◌-◌, ◌<◌, ◌≤◌, Bool, true, cond, ◌&&◌, List, []}
use Rattle.std.proofs.Common.{length, take, drop, Ok, Err, inl, inr, sym, ap, ◌∙◌, arith}
use Rattle.std.specs.Prelude.{◌⊎◌}
use Rattle.std.proofs.lemmas.Bool.{cases_lt}
use Rattle.std.proofs.lemmas.List.{append-nil, length-take, take-append-drop}
use Rattle.hx_script.specs.Texts.{lines_of}
use Rattle.hx_report_lines.specs.declared.drafts.Draft.{Draft}
use Rattle.hx_report_lines.specs.declared.drafts.Section.TheVariants as sections
use Rattle.hx_report_lines.specs.Drafts.{draft_of, empty_draft, ends_whole, finished, is_over, read_lines}
use Rattle.hx_report_lines.specs.Printed.{text_of}
use Rattle.hx_report_lines.specs.Unread.{Begins, IsUnreadAt}
use Rattle.hx_report_lines.specs.Values.{IsReportValue, ReportValue}
use Rattle.hx_report_lines.proofs.Cuts.{begun_before}
use Rattle.hx_report_lines.proofs.Goes.{errs_later, reads_past, taken, taken_front}
use Rattle.hx_report_lines.proofs.ReportsTaken.{all_taken, whole_text}

-- behind the last line nothing is wanted
ends : (whole : Bool) (n line : ℕ) (e : Draft) → whole ≡ true → e.section ≡ sections.Over → read_lines whole n e [] ≡ Err line → ⊥
unfolding read_lines
ends whole n line e w over f =
    let over : is_over e.section ≡ true = ap is_over over in
    let q : finished whole (n + 1) e ≡ Ok e = ap (λ b. cond (b && whole) (Ok e) (Err (n + 1))) over ∙ ap (λ b. cond b (Ok e) (Err (n + 1))) w in
    never e line (sym q ∙ f)
  where
    never : (e : Draft) (line : ℕ) → Ok e ≡ Err line → ⊥
    never e line q = absurd cc

-- the text of a report is never refused
never_refused : (r : ReportValue) (line : ℕ) → IsReportValue r → draft_of (text_of r) ≡ Err line → ⊥
never_refused r line is h =
    let t = all_taken r is in
    let text : List ℕ = text_of r in
    let ls : List (List ℕ) = lines_of text in
    let past : read_lines (ends_whole text) 0 empty_draft ls ≡ read_lines (ends_whole text) (0 + length ls) t.0 [] =
    ap (read_lines (ends_whole text) 0 empty_draft) (sym (append-nil ls)) ∙ reads_past (ends_whole text) 0 empty_draft t.0 ls [] t.1 in
    ends (ends_whole text) (0 + length ls) line t.0 (whole_text r) t.2 (sym past ∙ h)

-- no report begins with the lines up to the one that is refused
none_begins : (text : List ℕ) (line : ℕ) → draft_of text ≡ Err line → line ≤ length (lines_of text) → Begins (take line (lines_of text)) → ⊥
none_begins text line h within b =
    let ls : List (List ℕ) = lines_of text in
    let front : List (List ℕ) = take line ls in
    let t = all_taken b.0 b.1 in
    let m = taken_front empty_draft t.0 front b.2.0 (ap (taken empty_draft) (sym b.2.1) ∙ t.1) in
    let past : read_lines (ends_whole text) 0 empty_draft ls ≡ read_lines (ends_whole text) (0 + length front) m.0 (drop line ls) =
    ap (read_lines (ends_whole text) 0 empty_draft) (sym (take-append-drop line ls))
    ∙ reads_past (ends_whole text) 0 empty_draft m.0 front (drop line ls) m.1 in
    let later : 0 + length front < line = errs_later (ends_whole text) (0 + length front) line m.0 (drop line ls) (sym past ∙ h) in
    absurd (omega (arith, later, within, length-take line ls))

pub unread_at : (text : List ℕ) (line : ℕ) → draft_of text ≡ Err line → IsUnreadAt text line
unread_at text line h =
    let begun = begun_before text line h in
    record {
      no_report = λ r is same. never_refused r line is (ap draft_of same ∙ h);
      within = begun.within;
      before = begun.before;
      first = by (cases_lt (length (lines_of text)) line) begun.within.1;
    }
  where
    by : ((length (lines_of text) < line) ⊎ (line ≤ length (lines_of text))) → line ≤ length (lines_of text) + 1
        → ((line ≤ length (lines_of text)) × ¬ Begins (take line (lines_of text))) ⊎ (line ≡ length (lines_of text) + 1)
    by (inl past) within = inr (omega (arith, past, within))
    by (inr here) within = inl (here, none_begins text line h here)
