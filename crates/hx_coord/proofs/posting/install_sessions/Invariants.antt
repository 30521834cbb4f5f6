use Rattle.std.proofs.Common.{◌≡◌, ◌++◌}
use Rattle.hx_types.specs.declared.messages.Message.TheVariants as a_message
use Rattle.hx_model.specs.CoordinatorSteps.{session_posts}
use Rattle.hx_coord.proofs.posting.install_sessions.Given as goal

abbrev pub invariant-loop-place : goal.invariant-loop-place
invariant-loop-place l = l.posts ≡ l.initial.posts ++ session_posts l.place (a_message.Install l.config)
