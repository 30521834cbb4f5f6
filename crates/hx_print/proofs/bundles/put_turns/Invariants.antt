use Rattle.std.proofs.Common.{◌≡◌, ◌<◌, ◌++◌, length, map}
use Rattle.std.specs.List.{All}
use Rattle.hx_print.specs.BundlePrinting.{turns_text}
use Rattle.hx_print.proofs.bundles.put_turns.Given as goal

abbrev pub invariant-turns : goal.invariant-turns
invariant-turns l = record {
  within : All (λ k. k < length l.hands.items) l.rest;
  so_far : l.out.items ++ turns_text l.spaces (map (λ h. h.now) l.hands.items) l.rest ≡ l.fn.out.items
      ++ turns_text l.spaces (map (λ h. h.now) l.fn.hands.items) l.turns;
}

abbrev pub decreases-turns : goal.decreases-turns
decreases-turns l = length l.rest
