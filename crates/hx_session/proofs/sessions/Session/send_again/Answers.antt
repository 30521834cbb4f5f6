use Rattle.std.proofs.Common.{[], ◌∙◌}
use Rattle.hx_session.proofs.Growing.{grows_by, on_err}
use Rattle.hx_session.proofs.sessions.Session.send_again.Goals as goal

pub returns-in_err-poll-in-Some-clause-posts_grow : goal.returns-in_err-poll-in-Some-clause-posts_grow
returns-in_err-poll-in-Some-clause-posts_grow c = on_err c.from_residual-in_err-poll-in-Some.result
    (grows_by _ _ _ (c.in_err-poll-in-Some.ensures.posts_stay ∙ c.in_ok-change-in-Some.ensures.posts [] []))

pub returns-in_err-poll-in-Some-clause-notes_grow : goal.returns-in_err-poll-in-Some-clause-notes_grow
returns-in_err-poll-in-Some-clause-notes_grow c = on_err c.from_residual-in_err-poll-in-Some.result
    (grows_by _ _ _ (c.in_ok-change-in-Some.ensures.notes [] []))
