use Rattle.std.proofs.Common.{sym, subst}
use Rattle.hx_law_drivers.specs.Joined.{outs_at}
use Rattle.hx_law_drivers.specs.Laws.{ArePostsBy}
use Rattle.hx_law_drivers.proofs.Puts.{puts_posted}
use Rattle.hx_law_drivers.proofs.puts_are_posts.Goals as goal

pub returns : goal.returns
returns c = record {
  posts = λ script clock boxes w start now run trace t crew i n.
      subst (λ l. ArePostsBy crew l (outs_at n crew.out.ports.items)) (sym t.trace_is)
      (puts_posted script clock boxes w start now run t.merged t.whole t.is crew i n);
}
