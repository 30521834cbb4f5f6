use Rattle.std.proofs.Common.{ap, sym, subst, ◌∙◌}
use Rattle.crossbeam_queue.specs.Passes.{view}
use Rattle.hx_mail.specs.declared.views.PortView.{PortView}
use Rattle.hx_mail.specs.Boxes.{Ported}
use Rattle.hx_mail.specs.Ports.{IsInOrder, IsOnce, CarriesName}
use Rattle.hx_mail.proofs.Keeping.{join_named, IsNamed}
use Rattle.hx_mail.proofs.Steps.{merges, learns}
use Rattle.hx_mail.proofs.Once.{once}
use Rattle.hx_mail.proofs.mailboxes.Mailbox.join.Goals as goal

pub absorb-requires-clause-rule : goal.absorb-requires-clause-rule
absorb-requires-clause-rule g c =
    merges c.port.inside.pass.id (view c.port.inside.pass) c.into_pass-pass.result.id (view c.into_pass-pass.result)
    (ap (λ (p : Ported). p.view.of_box) c.port.view_is ∙ c.requires.port.1 ∙ sym c.requires.other.1
    ∙ sym (ap (λ (v : PortView). v.of_box) c.into_pass-pass.ensures.view))

pub learn_as-requires-clause-rule : goal.learn_as-requires-clause-rule
learn_as-requires-clause-rule g c items views kept at = (learns _ _ items views kept at, once _ _ items views kept at)

pub invariant_of-port : goal.invariant_of-port
invariant_of-port g c =
    let after : IsNamed c.port.inside.name c.port.inside.splits (view c.learn_as.new.pass) =
    join_named c.port.inside.name c.port.inside.splits (view c.port.inside.pass) (view c.into_pass-pass.result) _
    (c.port.invariant.1, c.port.invariant.2, c.port.invariant.3)
    (λ n e. subst (λ (v : PortView). CarriesName 0 v → ⊥) (sym c.into_pass-pass.ensures.view) c.requires.later
    (c.into_pass-pass.ensures.first n e)) (c.learn_as.ensures.queue.1 ∙ c.absorb.ensures.rule) in
    (c.learn_as.ensures.queue.0.2 ∙ c.absorb.ensures.queue.2 ∙ c.port.invariant.0, after.0, after.1, after.2)

pub returns-clause-order : goal.returns-clause-order
returns-clause-order g c = subst IsInOrder (sym c.learn_as.ensures.queue.1) c.learn_as.ensures.rule.1.0

pub returns-clause-once : goal.returns-clause-once
returns-clause-once g c = subst IsOnce (sym c.learn_as.ensures.queue.1) c.learn_as.ensures.rule.1.1
