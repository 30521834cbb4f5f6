use Rattle.std.proofs.Common.{◌≡◌, true, false, take, sym, ◌∙◌, arith}
use Rattle.std.specs.BTreeSet.{contains}
use Rattle.std.specs.Ordering.{nat_cmp}
use Rattle.std.proofs.lemmas.Bool.{false≢true, not-false, not-true}
use Rattle.hx_report_lines.specs.declared.histories.ItemLine.{ItemLine}
use Rattle.hx_audit.specs.Clauses.{is_known}
use Rattle.hx_audit.proofs.Firsts.{holds_at, item_at, one_more, to_end}
use Rattle.hx_audit.proofs.Seen.{known_by_place, more_seen, unknown}
use Rattle.hx_audit.proofs.foreign.first_foreign.Goals as goal

pub returns-in-None : goal.returns-in-None
returns-in-None c =
    let at = item_at c.args.items.now c.loop-place.place c.index-items-place.result c.loop-place-test.true c.index-items-place.is in (
      λ h. false≢true (sym (unknown c.args.calls.now c.args.key.now
          (take c.loop-place.place c.args.items.now) c.index-items-place.result (sym c.place_of.ensures ∙ c.in-None.is))
          ∙ holds_at c.args.items.now (λ (x : ItemLine). is_known c.args.calls.now c.args.key.now
          (take c.loop-place.place c.args.items.now) x ≡ true) c.loop-place.place c.index-items-place.result at h),
      c.loop-place.invariant.known,
    )

pub returns-then-not-is_call_on : goal.returns-then-not-is_call_on
returns-then-not-is_call_on c =
    let at = item_at c.args.items.now c.loop-place.place c.index-items-place.result c.loop-place-test.true c.index-items-place.is in (
      λ h. false≢true (sym (known_by_place c.args.calls.now c.args.key.now
          (take c.loop-place.place c.args.items.now) c.index-items-place.result c.in-Some.called false
          (contains nat_cmp c.loop-place.seen c.in-Some.called) (sym c.place_of.ensures ∙ c.in-Some.is)
          (sym c.is_call_on.ensures ∙ c.if-not-is_call_on.true) (sym (c.loop-place.invariant.seen c.in-Some.called)))
          ∙ holds_at c.args.items.now (λ (x : ItemLine). is_known c.args.calls.now c.args.key.now
          (take c.loop-place.place c.args.items.now) x ≡ true) c.loop-place.place c.index-items-place.result at h),
      c.loop-place.invariant.known,
    )

pub returns-then-not-added : goal.returns-then-not-added
returns-then-not-added c =
    let at = item_at c.args.items.now c.loop-place.place c.index-items-place.result c.loop-place-test.true c.index-items-place.is in
    let old : contains nat_cmp c.loop-place.seen c.in-Some.called ≡ true =
    not-false (contains nat_cmp c.loop-place.seen c.in-Some.called)
    (sym c.in_ok-added.ensures.added ∙ c.if-not-added.true) in (
      λ h. false≢true (sym (known_by_place c.args.calls.now c.args.key.now
          (take c.loop-place.place c.args.items.now) c.index-items-place.result c.in-Some.called true true
          (sym c.place_of.ensures ∙ c.in-Some.is) (sym c.is_call_on.ensures ∙ c.if-not-is_call_on.false)
          (sym (c.loop-place.invariant.seen c.in-Some.called) ∙ old))
          ∙ holds_at c.args.items.now (λ (x : ItemLine). is_known c.args.calls.now c.args.key.now
          (take c.loop-place.place c.args.items.now) x ≡ true) c.loop-place.place c.index-items-place.result at h),
      c.loop-place.invariant.known,
    )

pub loop-place-preserved : goal.loop-place-preserved
loop-place-preserved c =
    let at = item_at c.args.items.now c.loop-place.place c.index-items-place.result c.loop-place-test.true c.index-items-place.is in
    let new : contains nat_cmp c.loop-place.seen c.in-Some.called ≡ false =
    not-true (contains nat_cmp c.loop-place.seen c.in-Some.called) (sym c.in_ok-added.ensures.added ∙ c.if-not-added.false) in
    record {
      known = one_more c.args.items.now (λ k (x : ItemLine). is_known c.args.calls.now c.args.key.now
          (take k c.args.items.now) x ≡ true) c.loop-place.place c.index-items-place.result at
          (known_by_place c.args.calls.now c.args.key.now
          (take c.loop-place.place c.args.items.now) c.index-items-place.result c.in-Some.called true false
          (sym c.place_of.ensures ∙ c.in-Some.is) (sym c.is_call_on.ensures ∙ c.if-not-is_call_on.false)
          (sym (c.loop-place.invariant.seen c.in-Some.called) ∙ new))
          c.loop-place.invariant.known;
      seen = λ q. more_seen c.args.calls.now c.args.items.now c.loop-place.place c.index-items-place.result
          c.loop-place-test.true c.index-items-place.is c.in-Some.called (sym c.place_of.ensures ∙ c.in-Some.is) q _ _
          (c.loop-place.invariant.seen q) (c.in_ok-added.ensures.updates.0 q);
    }

pub returns : goal.returns
returns c =
    to_end c.args.items.now (λ k (x : ItemLine). is_known c.args.calls.now c.args.key.now (take k c.args.items.now) x ≡ true)
    (λ k l. c.loop-place.invariant.known k (let test = c.loop-place-test.false in omega (arith, l, test)))
