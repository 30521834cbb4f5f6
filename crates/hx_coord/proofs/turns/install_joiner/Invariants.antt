use Rattle.std.proofs.Common.{◌≡◌, ◌++◌, map, take}
use Rattle.hx_model.specs.Types.{Member}
use Rattle.hx_types.specs.declared.messages.Message.TheVariants as a_message
use Rattle.hx_model.specs.CoordinatorSteps.{to_server}
use Rattle.hx_coord.proofs.turns.install_joiner.Given as goal

abbrev pub invariant-loop-member : goal.invariant-loop-member
invariant-loop-member l = l.posts ≡ l.initial.posts
    ++ map (to_server (a_message.Install l.config)) (map (λ (m : Member). m.server) (take l.member-index l.member-items))
