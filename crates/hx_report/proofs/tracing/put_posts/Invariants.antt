use Rattle.std.proofs.Common.{◌≡◌, ◌≤◌, ◌+◌, ◌++◌, length}
use Rattle.hx_report.specs.Tracing.{posts_text}
use Rattle.hx_report.proofs.tracing.put_posts.Given as goal

abbrev pub invariant-posts : goal.invariant-posts
invariant-posts l = record {
  room : l.place + length l.rest ≤ length l.posts;
  so_far : l.out.items ++ posts_text l.entry l.place l.rest ≡ l.fn.out.items ++ posts_text l.entry 0 l.posts;
}

abbrev pub decreases-posts : goal.decreases-posts
decreases-posts l = length l.rest
