use Rattle.std.proofs.Common.{◌≡◌, ◌+◌, ◌≤◌, [], length}
use Rattle.std.specs.Prelude.{take}
use Rattle.std.specs.VecDeque.{deque_len, deque_capacity}
use Rattle.hx_outbox.proofs.copies.copy_all.Given as goal

abbrev pub invariant-loop-post : goal.invariant-loop-post
invariant-loop-post l =
    (l.initial.copies.items ≡ [] → l.copies.items ≡ take l.post-index l.posts)
    × (deque_len l.copies + length l.posts ≤ deque_capacity l.copies + l.post-index)
