use Rattle.std.proofs.Common.{arith, ◌≡◌, ◌∙◌, sym, ap, subst, length, slice_set}
use Rattle.hx_law_drivers.specs.Joined.{outs_at}
use Rattle.hx_run.specs.Joined.{place_at, IsKeptPort, AreJoinedFrom}
use Rattle.hx_run.proofs.Zipped.{both-put}
use Rattle.hx_run.proofs.Joins.{place-lt, number-at, joined-at, joined-set, kept-refl, seam, seam-outs, seam-port}
use Rattle.hx_run.proofs.joining.join_last.Goals as goal

pub index_mut-requires : goal.index_mut-requires
index_mut-requires g c =
    let r = c.requires.rest in
    let at : c.len-at.result ≡ length c.pop.new.self.items = grind (arith, c.len-at.ensures) in
    let p = place-lt _ r.0 c.args.out.now.ports.items c.pop.new.self.items r.1.rest c.in-Some.port c.len-at.result
    (length c.args.owned_ports.now.items) r.1.whole c.in-Some.ensures.items r.1.all at c.requires.owned_ports.1 in
    grind (arith, p.0)

pub join_one-requires-clause-owned_port : goal.join_one-requires-clause-owned_port
join_one-requires-clause-owned_port g c =
    let r = c.requires.rest in
    let j = c.requires.joined in
    let at : c.len-at.result ≡ length c.pop.new.self.items = grind (arith, c.len-at.ensures) in
    let p = place-lt _ r.0 c.args.out.now.ports.items c.pop.new.self.items r.1.rest c.in-Some.port c.len-at.result
    (length c.args.owned_ports.now.items) r.1.whole c.in-Some.ensures.items r.1.all at c.requires.owned_ports.1 in (
      j.0,
      j.1,
      joined-at c.args.script.now j.0 c.args.boxes.now j.1 j.2 c.len-at.result c.args.owned_ports.now.items
          c.index_mut.result.now (subst (λ k. AreJoinedFrom c.args.script.now j.0 c.args.boxes.now j.1 j.2 k
          c.args.owned_ports.now.items) (sym p.1) j.3) p.0 c.index_mut.ensures.value,
    )

pub join_one-requires-clause-port : goal.join_one-requires-clause-port
join_one-requires-clause-port g c =
    let r = c.requires.rest in
    let at : c.len-at.result ≡ length c.pop.new.self.items = grind (arith, c.len-at.ensures) in
    let p = place-lt _ r.0 c.args.out.now.ports.items c.pop.new.self.items r.1.rest c.in-Some.port c.len-at.result
    (length c.args.owned_ports.now.items) r.1.whole c.in-Some.ensures.items r.1.all at c.requires.owned_ports.1 in
    let n =
    number-at c.args.script.now 0 c.args.owned_ports.now.items c.len-at.result c.index_mut.result.now
    c.requires.owned_ports.0 p.0 c.index_mut.ensures.value in (
      r.0.index,
      seam-port c.args.boxes.now r.0 c.pop.new.self.items r.1.rest c.in-Some.port _ r.1.whole
          (seam _ _ _ _ _ c.in-Some.ensures.items r.1.all) (omega (arith, n, at)) (omega (arith, n, p.0, c.requires.owned_ports.1)),
    )

pub returns-in-Some-clause-kept : goal.returns-in-Some-clause-kept
returns-in-Some-clause-kept g c = both-put IsKeptPort kept-refl c.args.owned_ports.now.items c.len-at.result
    c.index_mut.result.now c.join_one.new.owned_port c.index_mut.ensures.value c.join_one.ensures.kept

pub returns-in-Some-clause-joined : goal.returns-in-Some-clause-joined
returns-in-Some-clause-joined g c w outs o r j =
    let script = c.args.script.now in
    let at : c.len-at.result ≡ length c.pop.new.self.items = grind (arith, c.len-at.ensures) in
    let p = place-lt _ o c.args.out.now.ports.items c.pop.new.self.items r.rest c.in-Some.port c.len-at.result
    (length c.args.owned_ports.now.items) r.whole c.in-Some.ensures.items r.all at c.requires.owned_ports.1 in
    let n = number-at script 0 c.args.owned_ports.now.items c.len-at.result c.index_mut.result.now c.requires.owned_ports.0 p.0 c.index_mut.ensures.value in
    let is : place_at script c.index_mut.result.now ≡ length c.pop.new.self.items = omega (arith, n, at) in
    let one = seam _ _ _ _ _ c.in-Some.ensures.items r.all in
    let k = subst (λ m. AreJoinedFrom script w c.args.boxes.now outs o m c.args.owned_ports.now.items) (sym p.1) j in
    let e = c.join_one.ensures.joined w outs o (joined-at script w c.args.boxes.now outs o c.len-at.result
    c.args.owned_ports.now.items c.index_mut.result.now k p.0 c.index_mut.ensures.value)
    (ap (λ m. outs_at m o.ports.items) is ∙ seam-outs c.pop.new.self.items r.rest o.ports.items c.in-Some.port one)
    (seam-port c.args.boxes.now o c.pop.new.self.items r.rest c.in-Some.port _ r.whole one is (omega (arith, n, p.0, c.requires.owned_ports.1))) in
    subst (λ m. AreJoinedFrom script w c.args.boxes.now outs o m
    (slice_set c.args.owned_ports.now.items c.len-at.result c.join_one.new.owned_port)) at
    (joined-set script w c.args.boxes.now outs o c.len-at.result c.args.owned_ports.now.items
    c.join_one.new.owned_port k p.0 e)
