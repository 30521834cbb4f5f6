use Rattle.std.proofs.Common.{arith, ◌≡◌, ◌+◌, ◌<◌, ◌∙◌, sym, ap, subst, refl, length, ◌++◌, ◌∷◌, [], append_assoc, length-append}
use Rattle.hx_outbox.specs.Outboxes.{IsOutPort}
use Rattle.hx_cluster.specs.Dealt.{IsNewOutbox}
use Rattle.hx_cluster.proofs.AtEach.{at_each_map, set-long}
use Rattle.hx_cluster.proofs.Boxing.{none-left}
use Rattle.hx_cluster.proofs.Deals.{out-at, partly-more, IsPartly}
use Rattle.hx_cluster.proofs.outboxes.add_ports.Goals as goal

pub loop-port-init : goal.loop-port-init
loop-port-init c = (
  refl,
  refl,
  c.into_iter-port-iterator.ensures.into_iter_gives.0,
  λ boxes box h p i o e. record { more = λ lt. absurd (omega (arith, lt)); before = λ le. h i o e },
)

pub loop-port-preserved : goal.loop-port-preserved
loop-port-preserved c =
    let i = c.loop-port.invariant in
    let n = c.loop-port.driver in
    let outs = c.loop-port.outs.items in
    let all = ap (λ l. c.loop-port.yielded ++ l) (sym c.in-Some.ensures.steps.0) ∙ i.2 in
    let long = length-append c.loop-port.yielded (c.in-Some.port ∷ c.next.new.self.rest.items) in
    let lt : n < length outs = omega (arith, i.0, i.1, c.requires, ap length all, long) in
    let z : 0 + length c.loop-port.yielded ≡ n = omega (arith, i.1) in (
      set-long outs n c.add_port.new.out ∙ i.0,
      omega (arith, i.1, length-append c.loop-port.yielded (c.in-Some.port ∷ [])),
      append_assoc c.loop-port.yielded (c.in-Some.port ∷ []) _ ∙ all,
      λ boxes box h p.
          let o = out-at 0 box c.loop-port.yielded c.in-Some.port _ _ all p in
          partly-more boxes box n outs c.index_mut.result.now c.add_port.new.out c.in-Some.port
          (i.3 boxes box h p) lt c.index_mut.ensures.value (subst (λ k. IsOutPort k box c.in-Some.port) z o.0) o.1
          c.in_ok-add_port.ensures.index c.in_ok-add_port.ensures.ports.0 c.in_ok-add_port.ensures.ports.1,
    )

pub returns-clause-added : goal.returns-clause-added
returns-clause-added c boxes box h p =
    let i = c.loop-port.invariant in
    let outs = c.loop-port.outs.items in
    let done = none-left c.loop-port.yielded c.loop-port.port-iterator.rest.items c.args.others.items _ i.2
    (sym c.loop-port.port-iterator.rest.ok.0) c.in-None.ensures.steps.0 in
    at_each_map (IsPartly c.loop-port.driver boxes box) (IsNewOutbox (boxes ++ box ∷ [])) outs (i.3 boxes box h p)
    (λ j x lt q. q.more (omega (arith, lt, i.0, i.1, c.requires, done)))
