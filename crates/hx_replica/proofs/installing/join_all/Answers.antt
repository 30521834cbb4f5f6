use Rattle.std.proofs.Common.{List, ℕ, ap, refl, sym, ◌∙◌}
use Rattle.std.specs.Borrow.{Bor}
use Rattle.hx_model.specs.Slots.{KeyState}
use Rattle.hx_store.proofs.Lemmas.{at-map}
use Rattle.hx_replica.specs.Installing.{joining, texts}
use Rattle.hx_replica.specs.Outputs.{context_seen}
use Rattle.hx_replica.proofs.Changing.{marks_stay}
use Rattle.hx_replica.proofs.Joined.{is_fresh, join_next, none_joined, slot_marks}
use Rattle.hx_replica.proofs.Turns.{at_item}
use Rattle.hx_replica.proofs.installing.join_all.Goals as goal

pub loop-key-init : goal.loop-key-init
loop-key-init c = record {
  region = refl;
  marks = refl;
  so_far = none_joined (context_seen c.args.context.now) c.args.pending.now c.args.store.now.states c.args.posts.now
      c.requires.fresh;
}

pub join-requires-clause-fresh : goal.join-requires-clause-fresh
join-requires-clause-fresh c =
    is_fresh (context_seen c.args.context.now) c.args.pending.now c.args.store.now.states
    (texts c.args.keys.now) c.loop-key.key-index c.key-item.result.now c.args.posts.now c.loop-key.posts
    c.loop-key.store.states c.loop-key.store.keeps_marks c.in-Ok.slot.state
    c.requires.fresh c.requires.keys
    (at-map (λ (b : Bor (List ℕ)). b.now) c.args.keys.now c.loop-key.key-index c.key-item.result
    (at_item c.args.keys.now c.loop-key.key-index c.key-item.result c.loop-key-test.true c.key-item.is))
    c.loop-key.invariant.so_far (c.loop-key.invariant.marks ∙ c.requires.marks) c.in-Ok.ensures.state

pub put_slot-requires-clause-marks : goal.put_slot-requires-clause-marks
put_slot-requires-clause-marks c =
    let context = context_seen c.args.context.now in
    let kind = c.loop-key.invariant.marks ∙ c.requires.marks in
    ap (λ (s : KeyState). s.marks) c.in_ok-join.ensures.state
    ∙ marks_stay (joining context c.args.pending.now c.in-Ok.slot.state) c.in-Ok.slot.state
    ∙ slot_marks context c.args.pending.now c.args.store.now.states
    (texts c.args.keys.now) c.loop-key.key-index c.key-item.result.now c.args.posts.now c.loop-key.posts
    c.loop-key.store.states c.loop-key.store.keeps_marks c.in-Ok.slot.state
    c.requires.fresh c.requires.keys
    (at-map (λ (b : Bor (List ℕ)). b.now) c.args.keys.now c.loop-key.key-index c.key-item.result
    (at_item c.args.keys.now c.loop-key.key-index c.key-item.result c.loop-key-test.true c.key-item.is))
    c.loop-key.invariant.so_far kind c.in-Ok.ensures.state c.requires.kinds
    ∙ sym kind

pub loop-key-preserved : goal.loop-key-preserved
loop-key-preserved c = record {
  region = c.in_ok-put_slot.ensures.region ∙ c.loop-key.invariant.region;
  marks = c.in_ok-put_slot.ensures.marks ∙ c.loop-key.invariant.marks;
  so_far =
      join_next (context_seen c.args.context.now) c.args.pending.now c.args.store.now.states
      (texts c.args.keys.now) c.loop-key.key-index c.key-item.result.now c.args.posts.now c.loop-key.posts
      c.loop-key.store.states c.loop-key.store.keeps_marks c.in-Ok.slot.state
      c.requires.fresh c.requires.keys
      (at-map (λ (b : Bor (List ℕ)). b.now) c.args.keys.now c.loop-key.key-index c.key-item.result
      (at_item c.args.keys.now c.loop-key.key-index c.key-item.result c.loop-key-test.true c.key-item.is))
      c.loop-key.invariant.so_far (c.loop-key.invariant.marks ∙ c.requires.marks) c.in-Ok.ensures.state
      c.join.new.slot.state c.put_slot.new.self.states c.join.new.posts c.in_ok-join.ensures.state c.in_ok-put_slot.ensures.states c.in_ok-join.ensures.posts;
}
