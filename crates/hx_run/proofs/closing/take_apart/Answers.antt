use Rattle.std.proofs.Common.{◌++◌, ◌∷◌, [], map, ap, ◌∙◌}
use Rattle.hx_driver.specs.declared.crews.Crew.{Crew}
use Rattle.hx_run.specs.Closed.{seated_of, owned_port_of}
use Rattle.hx_run.proofs.Apart.{more-desks, more-crews, more-items}
use Rattle.hx_run.proofs.closing.take_apart.Goals as goal

pub loop-driver-preserved : goal.loop-driver-preserved
loop-driver-preserved g c =
    let i = c.loop-driver.invariant in
    let n = c.in_ok-take_crew.ensures in (
      n.actors ∙ ap (λ l. l ++ map seated_of c.in-Some.driver.crew.desks.items) i.0 ∙ more-desks (λ d. d.crew) seated_of c.loop-driver.yielded c.in-Some.driver,
      n.owned_ports ∙ ap (λ l. l ++ map owned_port_of c.in-Some.driver.crew.desks.items) i.1
          ∙ more-desks (λ d. d.crew) owned_port_of c.loop-driver.yielded c.in-Some.driver,
      n.outs ∙ ap (λ l. l ++ c.in-Some.driver.crew.out ∷ []) i.2 ∙ more-crews (λ d. d.crew) (λ (k : Crew). k.out) c.loop-driver.yielded c.in-Some.driver,
      n.totals ∙ ap (λ l. l ++ c.in-Some.driver.crew.totals ∷ []) i.3
          ∙ more-crews (λ d. d.crew) (λ (k : Crew). k.totals) c.loop-driver.yielded c.in-Some.driver,
      c.in_ok-push.ensures.items ∙ ap (λ l. l ++ c.in-Some.driver.fate ∷ []) i.4 ∙ more-items (λ d. d.fate) c.loop-driver.yielded c.in-Some.driver,
    )
