use Rattle.std.proofs.Common.{◌≡◌, ◌<◌, List, get_or, length, refl, sym, subst}
use Rattle.std.specs.List.{All}
use Rattle.std.proofs.lemmas.List.Elements.{All-push}
use Rattle.hx_report_lines.specs.declared.histories.HistoryLines.{HistoryLines}
use Rattle.hx_audit.specs.Latest.{IsLatestIn}
use Rattle.hx_audit.proofs.Begun.{histories_more}
use Rattle.hx_audit.proofs.latest.latest_of.Goals as goal

pub loop-history-preserved : goal.loop-history-preserved
loop-history-preserved c = record {
  histories_are =
      histories_more c.args.block.now.histories c.loop-history.latest.items c.push.new.self.items _
      c.loop-history.history-index c.history-item.result c.in_ok-push.ensures.items refl
      c.loop-history.invariant.histories_are
      (subst (λ (hs : List HistoryLines). c.loop-history.history-index < length hs) c.as_slice-history-items.ensures c.loop-history-test.true)
      (subst (λ (hs : List HistoryLines). c.history-item.result
      ≡ get_or hs c.loop-history.history-index c.history-item.result) c.as_slice-history-items.ensures c.history-item.is);
  each = subst (All (IsLatestIn c.args.block.now)) (sym c.in_ok-push.ensures.items)
      (All-push (IsLatestIn c.args.block.now) c.loop-history.latest.items _ c.loop-history.invariant.each
      c.in_ok-changes.ensures);
}
