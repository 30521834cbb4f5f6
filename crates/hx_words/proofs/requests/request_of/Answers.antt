-- What follows the name of a request says it.
use Rattle.std.proofs.Common.{rules, ◌≡◌}
use Rattle.std.specs.Prelude.{codes, string_bytes}
use Rattle.hx_words.proofs.Sayings.{first_word}
use Rattle.hx_words.proofs.Names.{is_said}
use Rattle.hx_words.proofs.requests.request_of.Goals as goal

pub returns-in_ok-with_trace-in-replay-clause-said : goal.returns-in_ok-with_trace-in-replay-clause-said
returns-in_ok-with_trace-in-replay-clause-said c request =
    let first = first_word _ _ c.in-len1-up.len_at_least c.name-item.is in
    let named : string_bytes c.name-item.result ≡ codes "replay" = search rules in
    is_said _ _ _ _ request first named ((c.with_trace.ensures _).0 c.in_ok-with_trace-in-replay.was)

pub returns-in_ok-run_of-in-run-clause-said : goal.returns-in_ok-run_of-in-run-clause-said
returns-in_ok-run_of-in-run-clause-said c request =
    let first = first_word _ _ c.in-len1-up.len_at_least c.name-item.is in
    let named : string_bytes c.name-item.result ≡ codes "run" = search rules in
    is_said _ _ _ _ request first named ((c.run_of.ensures.said _).0 c.in_ok-run_of-in-run.was)

pub returns-in_ok-soak_of-in-soak-clause-said : goal.returns-in_ok-soak_of-in-soak-clause-said
returns-in_ok-soak_of-in-soak-clause-said c request =
    let first = first_word _ _ c.in-len1-up.len_at_least c.name-item.is in
    let named : string_bytes c.name-item.result ≡ codes "soak" = search rules in
    is_said _ _ _ _ request first named ((c.soak_of.ensures.said _).0 c.in_ok-soak_of-in-soak.was)

pub returns-in_ok-share_of-in-share-clause-said : goal.returns-in_ok-share_of-in-share-clause-said
returns-in_ok-share_of-in-share-clause-said c request =
    let first = first_word _ _ c.in-len1-up.len_at_least c.name-item.is in
    let named : string_bytes c.name-item.result ≡ codes "share" = search rules in
    is_said _ _ _ _ request first named ((c.share_of.ensures.said _).0 c.in_ok-share_of-in-share.was)
