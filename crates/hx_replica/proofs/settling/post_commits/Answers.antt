use Rattle.std.proofs.Common.{◌≤◌, length, subst, sym, ℕ}
use Rattle.std.specs.Borrow.{Bor}
use Rattle.std.proofs.lemmas.List.Sums.{prefix_len-le-length}
use Rattle.hx_model.specs.Types.{Update}
use Rattle.hx_replica.specs.Outputs.{settles}
use Rattle.hx_replica.proofs.settling.post_commits.Goals as goal

pub split_at-requires : goal.split_at-requires
split_at-requires c =
    subst (λ (n : ℕ). n ≤ length c.args.line.now) (sym c.settled_count.ensures)
    (prefix_len-le-length (λ (b : Bor Update). settles c.args.slot.now.state.acked c.args.tail_versions.now
    b.now.version) c.args.line.now)
