use Rattle.std.proofs.Common.{◌≡◌, ◌++◌, map, take}
use Rattle.hx_session.specs.Changes.{asked_part, asks_posted}
use Rattle.hx_session.proofs.sending.ask_regions.Given as goal

abbrev pub invariant-loop-region : goal.invariant-loop-region
invariant-loop-region l =
    (l.posts ≡ l.fn.posts ++ asks_posted l.sender l.terms (take l.region-index l.regions))
    × (l.parts ≡ map asked_part (take l.region-index l.regions))
