use Rattle.std.proofs.Common.{◌≡◌, ◌<◌, ◌+◌, ◌^◌, ℕ, drop}
use Rattle.hx_types.specs.Prefixes.{prefix_from, prefix_of}
use Rattle.hx_types.proofs.prefixes.prefix_by_bytes.Given as goal

-- the bytes so far, with those that are still to come, are the prefix
abbrev pub invariant-loop-place : goal.invariant-loop-place
invariant-loop-place l =
    ((k : ℕ) → l.place + k ≡ 8 → prefix_from k l.prefix (drop l.place l.bytes) ≡ prefix_of l.bytes) × (l.prefix < 256 ^ l.place)
