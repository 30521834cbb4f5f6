use Rattle.std.proofs.Common.{◌++◌, ◌∷◌, [], ap, ◌∙◌}
use Rattle.hx_run.specs.Closed.{seated_of, owned_port_of}
use Rattle.hx_run.proofs.Apart.{one-more}
use Rattle.hx_run.proofs.closing.take_desks.Goals as goal

pub loop-desk-preserved : goal.loop-desk-preserved
loop-desk-preserved c =
    let i = c.loop-desk.invariant in
    let n = c.in_ok-take_desk.ensures in (
      n.actors ∙ ap (λ l. l ++ seated_of c.in-Some.desk ∷ []) i.0 ∙ one-more seated_of c.args.actors.now.items c.loop-desk.yielded c.in-Some.desk,
      n.owned_ports ∙ ap (λ l. l ++ owned_port_of c.in-Some.desk ∷ []) i.1
          ∙ one-more owned_port_of c.args.owned_ports.now.items c.loop-desk.yielded c.in-Some.desk,
    )
