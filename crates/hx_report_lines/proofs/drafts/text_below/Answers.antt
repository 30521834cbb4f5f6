use Rattle.std.proofs.Common.{List, ℕ, ap, sym, ◌∙◌}
use Rattle.std.specs.Cmp.Lexicographic.{slice_cmp}
use Rattle.std.specs.Ordering.{is_lt, nat_cmp}
use Rattle.hx_types.proofs.Lemmas.{text_below-is_lt}
use Rattle.hx_report_lines.proofs.drafts.text_below.Goals as goal

pub returns : goal.returns
returns c =
    c.lt.ensures
    ∙ ap (λ (k : List ℕ). is_lt (slice_cmp nat_cmp k c.as_str-2.result.now)) c.as_str.ensures
    ∙ ap (λ (k : List ℕ). is_lt (slice_cmp nat_cmp c.args.before.now k)) c.as_str-2.ensures
    ∙ sym (text_below-is_lt c.args.before.now c.args.after.now)
