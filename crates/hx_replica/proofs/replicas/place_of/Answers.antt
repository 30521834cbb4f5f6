use Rattle.std.proofs.Common.{rules}
use Rattle.std.proofs.lemmas.List.Sorted.{answers_always}
use Rattle.hx_replica.specs.declared.replicas.Replica.{Replica}
use Rattle.hx_replica.proofs.Finding.{found, missing, searchable}
use Rattle.hx_replica.proofs.replicas.place_of.Goals as goal

pub returns-in-Ok : goal.returns-in-Ok
returns-in-Ok c =
    let at = c.in-Ok.ensures.position (λ (r : Replica). r.region.0) (answers_always _ _ _ (λ f a r g called. search rules)) in
    found c.args.region c.args.replicas.now c.in-Ok.place c.requires c.in-Ok.ensures.bound at

pub returns-in-Err : goal.returns-in-Err
returns-in-Err c =
    let between = c.in-Err.ensures.position (λ (r : Replica). r.region.0) (answers_always _ _ _ (λ f a r g called. search rules)) in
    missing c.args.region c.args.replicas.now c.in-Err.field-0 (between (searchable c.args.region.0 c.args.replicas.now c.requires))
