use Rattle.std.proofs.Common.{◌≡◌, ◌+◌, ◌++◌, ◌∷◌, [], List, ap, drop, sym, subst, ◌∙◌}
use Rattle.std.specs.Borrow.{Bor}
use Rattle.std.proofs.lemmas.List.{drop_more}
use Rattle.hx_model.specs.Types.{Row}
use Rattle.hx_session.proofs.Joining.{IsPassed, passed-earlier, passed-later, passed-next, passed-none}
use Rattle.hx_session.proofs.merging.picked.Goals.{then-not-have_same_key+in_ok-copy+in_ok-push}
use Rattle.hx_session.proofs.merging.picked.Goals.{else-not-have_same_key+then-is_as_new}
use Rattle.hx_session.proofs.merging.picked.Goals.{else-not-have_same_key+else-is_as_new}
use Rattle.hx_session.proofs.merging.picked.Goals as goal

pub loop-next-init : goal.loop-next-init
loop-next-init c =
    subst (λ (rows : List Row). IsPassed rows c.in-Some.first.now c.in-Some.rest.now c.args.sorted.now)
    (sym (c.in_ok-reserve_exact.ensures.items ∙ c.new-rows.ensures.items))
    (passed-none c.args.sorted.now c.in-Some.first.now c.in-Some.rest.now c.in-Some.ensures.cases.0 c.requires)

pub loop-next-preserved : goal.loop-next-preserved
loop-next-preserved c =
    let rows = c.loop-next.rows.items in
    let kept = c.loop-next.kept.now in
    let next = c.next-item.result in
    let i = c.loop-next.next-index in
    let rest = drop (i + 1) c.in-Some.rest.now in
    let whole = c.args.sorted.now in
    let more : drop i c.in-Some.rest.now ≡ next ∷ rest = drop_more c.in-Some.rest.now i next c.loop-next-test.true
    ∙ ap (λ (r : Row). r ∷ rest) (sym c.next-item.is) in
    let passed : IsPassed rows kept (next ∷ rest) whole = subst (λ (l : List Row). IsPassed rows kept l whole) more c.loop-next.invariant in
    elim c.if-not-have_same_key.branch [
      | then-not-have_same_key+in_ok-copy+in_ok-push w ↦
          subst (λ (lists : List Row × Bor Row). IsPassed lists.0 lists.1.now rest whole)
          (λ j. (
            sym (ap (λ v. v.items) w.rows-is ∙ w.in_ok-push.ensures.items
                ∙ ap (λ (r : Row). rows ++ r ∷ []) (w.in_ok-copy.ensures ∙ w.row.ensures)) j,
            sym w.kept-is j,
          ))
          (passed-next rows kept next rest whole passed (sym c.have_same_key.ensures ∙ w.if-not-have_same_key.true))
      | else-not-have_same_key+then-is_as_new w ↦
          subst (λ (lists : List Row × Bor Row). IsPassed lists.0 lists.1.now rest whole) (λ j. (sym (ap (λ v. v.items) w.rows-is) j, sym w.kept-is j))
          (passed-later rows kept next rest whole passed (sym c.have_same_key.ensures ∙ w.if-not-have_same_key.false)
          (sym w.is_as_new.ensures ∙ w.if-is_as_new.true))
      | else-not-have_same_key+else-is_as_new w ↦
          subst (λ (lists : List Row × Bor Row). IsPassed lists.0 lists.1.now rest whole) (λ j. (sym (ap (λ v. v.items) w.rows-is) j, sym w.kept-is j))
          (passed-earlier rows kept next rest whole passed (sym c.have_same_key.ensures ∙ w.if-not-have_same_key.false)
          (sym w.is_as_new.ensures ∙ w.if-is_as_new.false))
    ]
