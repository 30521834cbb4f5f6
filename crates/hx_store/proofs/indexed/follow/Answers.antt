use Rattle.std.proofs.Common.{Option, subst, sym, ◌∙◌}
use Rattle.hx_model.specs.Types.{Row}
use Rattle.hx_store.specs.Indexed.{IsKeptAs}
use Rattle.hx_store.proofs.Following.{at-item, forgotten, in-none, in-room, in-some, replaced}
use Rattle.hx_store.proofs.indexed.follow.Goals as goal

pub returns-in-Some-clause-kept : goal.returns-in-Some-clause-kept
returns-in-Some-clause-kept c =
    let at = at-item c.args.rows.now c.args.place c.index-rows-place.result c.requires.place c.index-rows-place.is in
    replaced c.args.rows.now c.args.place c.index-rows-place.result at c.in-Some.row c.args.index.now c.replace.new.self
    (subst (λ (o : Option Row). IsKeptAs o c.args.place c.args.rows.now c.args.index.now) c.in-Some.is c.requires.kept)
    c.replace.ensures.room (sym c.is_some-keeps.ensures ∙ c.if-keeps.true) c.replace.ensures.index c.replace.ensures.count

pub returns-in-Some-2-clause-kept : goal.returns-in-Some-2-clause-kept
returns-in-Some-2-clause-kept c =
    let at = at-item c.args.rows.now c.args.place c.index-rows-place.result c.requires.place c.index-rows-place.is in
    forgotten c.args.rows.now c.args.place c.index-rows-place.result at c.in-Some.row c.args.index.now c.forget.new.self
    (subst (λ (o : Option Row). IsKeptAs o c.args.place c.args.rows.now c.args.index.now) c.in-Some.is c.requires.kept)
    c.forget.ensures.room (sym c.is_some-keeps.ensures ∙ c.if-keeps.false) c.forget.ensures.index c.forget.ensures.count

pub add-requires-clause-room : goal.add-requires-clause-room
add-requires-clause-room c =
    let at = at-item c.args.rows.now c.args.place c.index-rows-place.result c.requires.place c.index-rows-place.is in
    in-room c.args.rows.now c.args.place c.index-rows-place.result at c.args.index.now
    (subst (λ (o : Option Row). IsKeptAs o c.args.place c.args.rows.now c.args.index.now) c.in-None.is c.requires.kept)
    (sym c.is_some-keeps.ensures ∙ c.if-keeps-2.true)

pub returns-in-None-clause-kept : goal.returns-in-None-clause-kept
returns-in-None-clause-kept c =
    let at = at-item c.args.rows.now c.args.place c.index-rows-place.result c.requires.place c.index-rows-place.is in
    in-some c.args.rows.now c.args.place c.index-rows-place.result at c.args.index.now c.add.new.self
    (subst (λ (o : Option Row). IsKeptAs o c.args.place c.args.rows.now c.args.index.now) c.in-None.is c.requires.kept)
    (sym c.is_some-keeps.ensures ∙ c.if-keeps-2.true) c.add.ensures.index c.add.ensures.count c.add.ensures.room

pub returns-else-keeps-2-clause-kept : goal.returns-else-keeps-2-clause-kept
returns-else-keeps-2-clause-kept c =
    let at = at-item c.args.rows.now c.args.place c.index-rows-place.result c.requires.place c.index-rows-place.is in
    in-none c.args.rows.now c.args.place c.index-rows-place.result at c.args.index.now
    (subst (λ (o : Option Row). IsKeptAs o c.args.place c.args.rows.now c.args.index.now) c.in-None.is c.requires.kept)
    (sym c.is_some-keeps.ensures ∙ c.if-keeps-2.false)
