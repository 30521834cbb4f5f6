use Rattle.std.proofs.Common.{◌≡◌, ℕ, true, false, not, take, Option, sym, ap, ◌∙◌, arith}
use Rattle.std.proofs.lemmas.Bool.{false≢true}
use Rattle.hx_report_lines.specs.declared.histories.ItemLine.{ItemLine}
use Rattle.hx_audit.specs.Clauses.{is_in_time}
use Rattle.hx_audit.specs.Moments.{is_late}
use Rattle.hx_audit.specs.Told.{account_of}
use Rattle.hx_audit.proofs.Firsts.{holds_at, item_at, one_more, to_end}
use Rattle.hx_audit.proofs.Timing.{in_time_is, later_step}
use Rattle.hx_audit.proofs.times.first_late.Goals as goal

pub returns-then-is_late : goal.returns-then-is_late
returns-then-is_late c =
    let at = item_at c.args.items.now c.loop-place.place c.index-items-place.result c.loop-place-test.true c.index-items-place.is in
    let late : is_in_time (account_of c.args.block.now) (take c.loop-place.place c.args.items.now) c.index-items-place.result ≡ false =
    in_time_is c.args.block.now (take c.loop-place.place c.args.items.now) c.index-items-place.result c.loop-place.latest c.loop-place.invariant.latest
    ∙ ap not (ap (λ (o : Option ℕ). is_late o c.loop-place.latest) (sym c.end_of-end.ensures) ∙ sym c.is_late.ensures ∙ c.if-is_late.true) in (
      λ h. false≢true (sym late ∙ holds_at c.args.items.now
          (λ (x : ItemLine). is_in_time (account_of c.args.block.now) (take c.loop-place.place c.args.items.now) x
          ≡ true) c.loop-place.place c.index-items-place.result at h),
      c.loop-place.invariant.in_time,
    )

pub loop-place-preserved : goal.loop-place-preserved
loop-place-preserved c =
    let at = item_at c.args.items.now c.loop-place.place c.index-items-place.result c.loop-place-test.true c.index-items-place.is in
    let timely : is_in_time (account_of c.args.block.now) (take c.loop-place.place c.args.items.now) c.index-items-place.result ≡ true =
    in_time_is c.args.block.now (take c.loop-place.place c.args.items.now) c.index-items-place.result c.loop-place.latest c.loop-place.invariant.latest
    ∙ ap not (ap (λ (o : Option ℕ). is_late o c.loop-place.latest) (sym c.end_of-end.ensures) ∙ sym c.is_late.ensures ∙ c.if-is_late.false) in
    record {
      in_time = one_more c.args.items.now (λ k (x : ItemLine). is_in_time (account_of c.args.block.now)
          (take k c.args.items.now) x ≡ true) c.loop-place.place c.index-items-place.result at timely
          c.loop-place.invariant.in_time;
      latest = λ end. later_step c.args.block.now c.args.items.now c.loop-place.place c.index-items-place.result
          c.loop-place-test.true c.index-items-place.is c.loop-place.latest _ _ end c.begin_of.ensures
          c.later-latest.ensures (c.loop-place.invariant.latest end);
    }

pub returns : goal.returns
returns c =
    to_end c.args.items.now (λ k (x : ItemLine). is_in_time (account_of c.args.block.now) (take k c.args.items.now) x ≡ true)
    (λ k l. c.loop-place.invariant.in_time k (let test = c.loop-place-test.false in omega (arith, l, test)))
