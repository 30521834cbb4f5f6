use Rattle.std.proofs.Common.{ap, refl, sym, ◌∙◌}
use Rattle.hx_model.specs.Types.{Deliver, Input}
use Rattle.hx_model.specs.SessionSteps.{session_step}
use Rattle.hx_world.proofs.Heard.{heard_is}
use Rattle.hx_world.proofs.sessions.session_hears.Goals as goal

pub make-requires : goal.make-requires
make-requires c = (Deliver c.args.id c.post-post.result.now.from c.post-post.result.now.message, c.in-Ok.ensures.change c.args.id)

pub returns-clause-taken : goal.returns-clause-taken
returns-clause-taken c =
    let p = c.post-post.result.now in
    let s = c.args.counted.now.session in
    let is = heard_is c.args.id c.args.trace.now.entries p (sym (c.post-post.ensures ∙ c.requires.lies.post)) in
    record {
      space = c.make.ensures.space;
      state = c.make.ensures.state (Deliver c.args.id p.from p.message) (c.in-Ok.ensures.change c.args.id)
          ∙ ap (λ (i : Input). (session_step s.space s.state i).state) (sym is);
      entries = refl;
    }
