use Rattle.std.proofs.Common.{ℕ, true, false, [], None, Option, sym, ap, ◌∙◌}
use Rattle.std.specs.List.{slice_get}
use Rattle.hx_types.specs.Words.{same_text, text_below, when_some}
use Rattle.hx_types.proofs.Lemmas.{text_below-differs, text_below-trans}
use Rattle.hx_report_lines.specs.declared.histories.HistoryLines.{HistoryLines}
use Rattle.hx_audit.proofs.Keys.{one_key}
use Rattle.hx_audit.proofs.Halving.{at_point, found_at_place}
use Rattle.hx_audit.proofs.histories.items_of.Goals as goal

pub returns-then-is_history_of : goal.returns-then-is_history_of
returns-then-is_history_of c =
    let at = at_point (λ (h : HistoryLines). h.key) text_below same_text text_below-trans text_below-differs one_key
    None c.args.histories.now c.requires c.args.key.now c.lower_histories-place.result
    c.lower_histories-place.ensures.low c.lower_histories-place.ensures.high true
    (sym c.is_history_of.ensures ∙ c.if-is_history_of.true) in
    c.items_of_place.ensures
    ∙ sym (ap (λ (o : Option HistoryLines). when_some o [] (λ (h : HistoryLines). h.items))
    (found_at_place (λ (h : HistoryLines). same_text h.key c.args.key.now) c.args.histories.now
    ∙ ap (λ (o : Option ℕ). when_some o None (slice_get c.args.histories.now)) at))

pub returns-else-is_history_of : goal.returns-else-is_history_of
returns-else-is_history_of c =
    let at = at_point (λ (h : HistoryLines). h.key) text_below same_text text_below-trans text_below-differs one_key
    None c.args.histories.now c.requires c.args.key.now c.lower_histories-place.result
    c.lower_histories-place.ensures.low c.lower_histories-place.ensures.high false
    (sym c.is_history_of.ensures ∙ c.if-is_history_of.false) in
    sym (ap (λ (o : Option HistoryLines). when_some o [] (λ (h : HistoryLines). h.items))
    (found_at_place (λ (h : HistoryLines). same_text h.key c.args.key.now) c.args.histories.now
    ∙ ap (λ (o : Option ℕ). when_some o None (slice_get c.args.histories.now)) at))
