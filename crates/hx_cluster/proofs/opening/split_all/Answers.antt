use Rattle.std.proofs.Common.{arith, ◌≡◌, ◌+◌, ◌∙◌, sym, ap, subst, length, ◌∷◌, [], length-append}
use Rattle.hx_mail.specs.Ports.{splitting}
use Rattle.hx_outbox.specs.Outboxes.{IsOutPort}
use Rattle.hx_cluster.specs.Opened.{AreOutPortsFrom}
use Rattle.hx_cluster.proofs.Opens.{out-snoc, split-out}
use Rattle.hx_cluster.proofs.opening.split_all.Goals as goal

pub loop-driver-preserved : goal.loop-driver-preserved
loop-driver-preserved g c =
    let i = c.loop-driver.invariant in
    let s = c.in_ok-port.ensures.made in
    let box = c.args.mailbox.now in
    let o = split-out c.loop-driver._driver box c.in_ok-port.port c.loop-driver.first.view i.1 s.0 s.1 in
    let n : c.loop-driver._driver ≡ 0 + length c.loop-driver.others.items = omega (arith, i.3) in (
      c.split.ensures.port,
      s.2 ∙ ap splitting i.1,
      subst (AreOutPortsFrom 0 box) (sym c.in_ok-push.ensures.items)
          (out-snoc 0 box c.loop-driver.others.items c.in_ok-port.port i.2
          (subst (λ k. IsOutPort k box c.in_ok-port.port) n o.0) o.1),
      omega (arith, ap length c.in_ok-push.ensures.items, length-append c.loop-driver.others.items (c.in_ok-port.port ∷ []), i.3),
    )
