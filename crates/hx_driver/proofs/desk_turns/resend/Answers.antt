use Rattle.std.proofs.Common.{arith, refl, sym, append-nil}
use Rattle.hx_outbox.proofs.Lemmas.{begins-refl, offered-none}
use Rattle.hx_driver.specs.Inboxes.{ins_of}
use Rattle.hx_driver.proofs.desk_turns.resend.Goals as goal

pub put_kept-requires-clause-few : goal.put_kept-requires-clause-few
put_kept-requires-clause-few g c = let l = c.requires.room.1.weight in omega (arith, l)

pub returns-clause-turn : goal.returns-clause-turn
returns-clause-turn g c totals f is_total = record {
  later = record { actor = refl; part = begins-refl c.args.desk.now.part.items; ins = begins-refl (ins_of c.args.desk.now.inbox) };
  part = sym (append-nil c.args.desk.now.part.items);
  out = c.put_kept.ensures.out;
  more = c.put_kept.ensures.more;
  offered = offered-none _ _ totals f c.put_kept.ensures.weight;
  total = is_total;
  one = omega arith;
  few = omega arith;
}

pub returns-clause-room : goal.returns-clause-room
returns-clause-room g c totals h =
    let l = h.weight in
    let e = c.put_kept.ensures.weight (λ m. 1) in
    record { weight = omega (arith, e, l); posts = h.posts; total = h.total }
