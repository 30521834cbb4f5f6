use Rattle.std.proofs.Common.{arith, ◌≡◌, ◌+◌, ◌^◌, ◌<◌, sym, ap, refl, subst, ◌∙◌, length, slice_index_or, [], ◌∷◌, ◌++◌, append-nil}
use Rattle.std.proofs.Math.Facts.{Fits-of_lt}
use Rattle.hx_clock.proofs.Lemmas.{total-append}
use Rattle.hx_mail.specs.Ports.{mailed_of}
use Rattle.hx_outbox.specs.Outboxes.{kept_weight, outs_of, IsOutPort}
use Rattle.hx_outbox.proofs.Lists.{map-length}
use Rattle.hx_outbox.proofs.Places.{good-addressed, good-below}
use Rattle.hx_outbox.proofs.Outs.{both-at, both-long, both-set, kept-out, more-set, put-out, sent-kept, sent-put, sent-small, weight-kept, weight-put}
use Rattle.hx_outbox.proofs.outboxes.put_or_keep.Goals as goal

pub index_mut-requires : goal.index_mut-requires
index_mut-requires g c =
    omega (
      arith,
      c.place_of-to.ensures,
      good-below _ _ _ c.args.envelope c.args.floor.now.boxed c.requires.good,
      both-long (IsOutPort _) _ _ c.requires.out.ports,
    )

pub put-requires-clause-port : goal.put-requires-clause-port
put-requires-clause-port g c =
    (both-at (IsOutPort _) _ _ _ _ _ c.requires.out.ports
    (let lt : c.place_of-to.result < length c.args.floor.now.boxes.now =
    omega (
      arith,
      c.place_of-to.ensures,
      good-below _ _ _ c.args.envelope c.args.floor.now.boxed
          c.requires.good,
    ) in lt) c.index-boxes-to.is c.index_mut.ensures.value).of

pub index_mut-requires-in-Ok : goal.index_mut-requires-in-Ok
index_mut-requires-in-Ok g c =
    omega (
      arith,
      c.place_of-to.ensures,
      good-below _ _ _ c.args.envelope c.args.floor.now.boxed c.requires.good,
      both-long (IsOutPort _) _ _ c.requires.out.ports,
      ap length c.requires.out.counted,
      map-length (λ p. length (outs_of p)) c.args.out.now.ports.items,
    )

pub overflow_add-index_mut : goal.overflow_add-index_mut
overflow_add-index_mut g c =
    let lt : c.place_of-to.result < length c.args.out.now.ports.items =
    omega (
      arith,
      c.place_of-to.ensures,
      good-below _ _ _ c.args.envelope c.args.floor.now.boxed c.requires.good,
      both-long (IsOutPort _) _ _ c.requires.out.ports,
    ) in
    let small = sent-small c.args.out.now.ports.items c.args.out.now.sent.items c.place_of-to.result
    c.index_mut.result.now c.index_mut-in-Ok.result.now c.requires.out.counted lt c.index_mut.ensures.value
    c.index_mut-in-Ok.ensures.value c.requires.few in
    let most : c.index_mut-in-Ok.result.now + 1 < 2 ^ 64 = omega (arith, small) in
    Fits-of_lt most

pub returns-in-Ok-clause-out : goal.returns-in-Ok-clause-out
returns-in-Ok-clause-out g c =
    let lt : c.place_of-to.result < length c.args.floor.now.boxes.now =
    omega (arith, c.place_of-to.ensures, good-below _ _ _ c.args.envelope c.args.floor.now.boxed c.requires.good) in
    let at = both-at (IsOutPort _) _ _ _ _ _ c.requires.out.ports lt c.index-boxes-to.is c.index_mut.ensures.value in
    let here = subst (λ k. c.index-boxes-to.result
    ≡ slice_index_or c.args.floor.now.boxes.now k c.index-boxes-to.result) c.place_of-to.ensures c.index-boxes-to.is in
    let q = put-out _ _ _ c.put.new.port _ at c.in-Ok.ensures.port c.in-Ok.ensures.put
    (good-addressed _ _ _ c.args.envelope _ c.args.floor.now.boxed c.requires.good here).owner in
    let low : c.place_of-to.result < length c.args.out.now.ports.items = omega (arith, lt, both-long (IsOutPort _) _ _ c.requires.out.ports) in (
      record {
        ports = both-set (IsOutPort _) _ _ _ _ _ c.requires.out.ports lt c.index-boxes-to.is q.0;
        counted = sent-put _ _ _ _ _ _ _ c.requires.out.counted low c.index_mut.ensures.value c.index_mut-in-Ok.ensures.value q.1;
      },
      refl,
    )

pub returns-in-Ok-clause-more : goal.returns-in-Ok-clause-more
returns-in-Ok-clause-more g c =
    let lt : c.place_of-to.result < length c.args.floor.now.boxes.now =
    omega (arith, c.place_of-to.ensures, good-below _ _ _ c.args.envelope c.args.floor.now.boxed c.requires.good) in
    let at = both-at (IsOutPort _) _ _ _ _ _ c.requires.out.ports lt c.index-boxes-to.is c.index_mut.ensures.value in
    let here = subst (λ k. c.index-boxes-to.result
    ≡ slice_index_or c.args.floor.now.boxes.now k c.index-boxes-to.result) c.place_of-to.ensures c.index-boxes-to.is in
    let q = put-out _ _ _ c.put.new.port _ at c.in-Ok.ensures.port c.in-Ok.ensures.put
    (good-addressed _ _ _ c.args.envelope _ c.args.floor.now.boxed c.requires.good here).owner in
    more-set _ _ _ _ c.index_mut.ensures.value (mailed_of c.args.envelope ∷ [], sym q.1)

pub returns-in-Ok-clause-weight : goal.returns-in-Ok-clause-weight
returns-in-Ok-clause-weight g c h =
    let lt : c.place_of-to.result < length c.args.floor.now.boxes.now =
    omega (arith, c.place_of-to.ensures, good-below _ _ _ c.args.envelope c.args.floor.now.boxed c.requires.good) in
    let at = both-at (IsOutPort _) _ _ _ _ _ c.requires.out.ports lt c.index-boxes-to.is c.index_mut.ensures.value in
    let here = subst (λ k. c.index-boxes-to.result
    ≡ slice_index_or c.args.floor.now.boxes.now k c.index-boxes-to.result) c.place_of-to.ensures c.index-boxes-to.is in
    let q = put-out _ _ _ c.put.new.port _ at c.in-Ok.ensures.port c.in-Ok.ensures.put
    (good-addressed _ _ _ c.args.envelope _ c.args.floor.now.boxed c.requires.good here).owner in
    let low : c.place_of-to.result < length c.args.out.now.ports.items = omega (arith, lt, both-long (IsOutPort _) _ _ c.requires.out.ports) in
    omega (arith, weight-put _ _ _ c.put.new.port _ low c.index_mut.ensures.value q.1 h)

pub returns-in-Err-clause-out : goal.returns-in-Err-clause-out
returns-in-Err-clause-out g c =
    let lt : c.place_of-to.result < length c.args.floor.now.boxes.now =
    omega (arith, c.place_of-to.ensures, good-below _ _ _ c.args.envelope c.args.floor.now.boxed c.requires.good) in
    let at = both-at (IsOutPort _) _ _ _ _ _ c.requires.out.ports lt c.index-boxes-to.is c.index_mut.ensures.value in
    let q = kept-out _ _ _ c.put.new.port at c.in-Err.ensures.port c.in-Err.ensures.put.1 in
    let low : c.place_of-to.result < length c.args.out.now.ports.items = omega (arith, lt, both-long (IsOutPort _) _ _ c.requires.out.ports) in (
      record {
        ports = both-set (IsOutPort _) _ _ _ _ _ c.requires.out.ports lt c.index-boxes-to.is q.0;
        counted = sent-kept _ _ _ _ _ c.requires.out.counted low c.index_mut.ensures.value q.1;
      },
      refl,
    )

pub returns-in-Err-clause-more : goal.returns-in-Err-clause-more
returns-in-Err-clause-more g c =
    let lt : c.place_of-to.result < length c.args.floor.now.boxes.now =
    omega (arith, c.place_of-to.ensures, good-below _ _ _ c.args.envelope c.args.floor.now.boxed c.requires.good) in
    let at = both-at (IsOutPort _) _ _ _ _ _ c.requires.out.ports lt c.index-boxes-to.is c.index_mut.ensures.value in
    let q = kept-out _ _ _ c.put.new.port at c.in-Err.ensures.port c.in-Err.ensures.put.1 in
    more-set _ _ _ _ c.index_mut.ensures.value ([], append-nil _ ∙ sym q.1)

pub returns-in-Err-clause-weight : goal.returns-in-Err-clause-weight
returns-in-Err-clause-weight g c h =
    let lt : c.place_of-to.result < length c.args.floor.now.boxes.now =
    omega (arith, c.place_of-to.ensures, good-below _ _ _ c.args.envelope c.args.floor.now.boxed c.requires.good) in
    let at = both-at (IsOutPort _) _ _ _ _ _ c.requires.out.ports lt c.index-boxes-to.is c.index_mut.ensures.value in
    let q = kept-out _ _ _ c.put.new.port at c.in-Err.ensures.port c.in-Err.ensures.put.1 in
    let low : c.place_of-to.result < length c.args.out.now.ports.items = omega (arith, lt, both-long (IsOutPort _) _ _ c.requires.out.ports) in
    let kept : kept_weight h c.push_back_reserved.new.self.items
    ≡ kept_weight h (c.args.kept.now.items ++ c.in-Err.full.0 ∷ []) = ap (kept_weight h) c.push_back_reserved.ensures.items in
    omega (
      arith,
      weight-kept _ _ _ c.put.new.port low c.index_mut.ensures.value q.1 h,
      kept,
      total-append (λ e. h (mailed_of e)) c.args.kept.now.items (c.in-Err.full.0 ∷ []),
      ap (λ e. h (mailed_of e)) c.in-Err.ensures.put.0,
    )
