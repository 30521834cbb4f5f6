use Rattle.std.proofs.Common.{◌≡◌, ◌<◌, Some, None, length, refl, ap, subst, sym, ◌∙◌, arith}
use Rattle.std.specs.Option.{option_copied}
use Rattle.std.specs.Prelude.{slice_get}
use Rattle.hx_trace.specs.Lists.{IsInputIn, delivery, entries_in}
use Rattle.hx_trace.proofs.Longer.{head_in}
use Rattle.hx_trace.proofs.Naming.{get_within, lies_in, post_filed, sent_some, unkept}
use Rattle.hx_trace.proofs.growing.sent_at.Goals as goal

pub overflow_sub-id : goal.overflow_sub-id
overflow_sub-id c = sent_some (entries_in c.args.lists.now) c.args.id _ c.requires.sent

pub unreachable-requires : goal.unreachable-requires
unreachable-requires c =
    let l = c.args.lists.now in
    let at = lies_in l c.args.id _ c.len.result c.in_ok-place.place c.requires.sent
    (c.len.ensures ∙ l.places.ok.0) c.in_ok-place.ensures.0 c.in_ok-place.ensures.1 in
    let both : None ≡ Some at.head = ap option_copied (sym c.in_default.is) ∙ c.head_at.ensures ∙ at.head_is in
    absurd (cc)

pub overflow_add-result : goal.overflow_add-result
overflow_add-result c =
    let l = c.args.lists.now in
    let at = lies_in l c.args.id _ c.len.result c.in_ok-place.place c.requires.sent
    (c.len.ensures ∙ l.places.ok.0) c.in_ok-place.ensures.0 c.in_ok-place.ensures.1 in
    let is : slice_get l.heads.items c.in_ok-place.place ≡ Some c.in-Some.head.now = sym c.head_at.ensures ∙ ap option_copied c.in-Some.is in
    let none = unkept l.wholes.items c.in-Some.head.now.input c.in_default-input.not-Whole in
    let post = post_filed l.posts.items l.notes.items l.wholes.items l.heads.items c.in_ok-place.place c.args.id.place _ c.in-Some.head.now at is none in
    omega (arith, get_within l.posts.items _ _ post, c.requires.few_posts)

pub returns-in_default-input : goal.returns-in_default-input
returns-in_default-input c =
    let l = c.args.lists.now in
    let at = lies_in l c.args.id _ c.len.result c.in_ok-place.place c.requires.sent
    (c.len.ensures ∙ l.places.ok.0) c.in_ok-place.ensures.0 c.in_ok-place.ensures.1 in
    let is : slice_get l.heads.items c.in_ok-place.place ≡ Some c.in-Some.head.now = sym c.head_at.ensures ∙ ap option_copied c.in-Some.is in
    let none = unkept l.wholes.items c.in-Some.head.now.input c.in_default-input.not-Whole in
    let post = post_filed l.posts.items l.notes.items l.wholes.items l.heads.items c.in_ok-place.place c.args.id.place _ c.in-Some.head.now at is none in
    record { filed = record { within = get_within l.posts.items _ _ post; filed = refl; input = ap (delivery c.args.id) post }; unfiled = tt }

pub returns-in-Whole-clause-unfiled : goal.returns-in-Whole-clause-unfiled
returns-in-Whole-clause-unfiled c none =
    let l = c.args.lists.now in
    let is : slice_get l.heads.items c.in_ok-place.place ≡ Some c.in-Some.head.now = sym c.head_at.ensures ∙ ap option_copied c.in-Some.is in
    let lies = head_in _ _ _ l.heads.items c.in_ok-place.place c.in-Some.head.now c.requires.whole.heads is in
    let within : c.in-Whole.at < length l.wholes.items = subst (IsInputIn (length l.posts.items) (length l.wholes.items)) c.in-Whole.is lies.input in
    omega (arith, within, none.wholes)
