-- The soak that words choose.
use Rattle.std.proofs.Common.{rules, ◌<◌, ◌^◌, sym, ◌∙◌}
use Rattle.hx_words.specs.Saying.{ChooseSoak}
use Rattle.hx_words.proofs.Sayings.{unanswered, two_words}
use Rattle.hx_words.proofs.Choices.{exactly, more_than_workers, no_options, numbered, one_soak, options_of}
use Rattle.hx_words.proofs.Limiting.{soak_limits}
use Rattle.hx_words.proofs.requests.soak_of.Goals as goal

pub returns-in_err-chosen-clause-said : goal.returns-in_err-chosen-clause-said
returns-in_err-chosen-clause-said c soak =
    let spelled = two_words _ _ _ c.in-len2-up.len_at_least c.seed-item.is c.calls-item.is in
    unanswered _ soak _ c.from_residual.ensures (λ s. no_options c.chosen_by.ensures s.chosen c.in_err-chosen.was (options_of soak spelled s))

pub returns-in_err-workers_alone-clause-said : goal.returns-in_err-workers_alone-clause-said
returns-in_err-workers_alone-clause-said c soak =
    let spelled = two_words _ _ _ c.in-len2-up.len_at_least c.seed-item.is c.calls-item.is in
    unanswered _ soak _ c.from_residual-in_err-workers_alone.ensures
    (λ s. more_than_workers c.chosen_by.ensures _ s.chosen _ c.in_ok-chosen.was c.workers_alone.ensures c.in_err-workers_alone.was
    (options_of soak spelled s) s.only)

pub returns-clause-said : goal.returns-clause-said
returns-clause-said c soak =
    let spelled = two_words _ _ _ c.in-len2-up.len_at_least c.seed-item.is c.calls-item.is in
    let calls = (c.number_within.ensures _).0 c.in_ok-number_within.was in
    let small : c.in_ok-number_of.field-0 < 2 ^ 64 = search rules in
    let chosen = numbered _ spelled ((c.chosen_by.ensures _).0 c.in_ok-chosen.was) ((c.workers_alone.ensures _).0 c.in_ok-workers_alone.was) small
    (sym c.as_str.ensures.value ∙ (c.number_of.ensures _ small).0 c.in_ok-number_of.was) (sym c.as_str-2.ensures.value ∙ calls.0, calls.1, calls.2) in
    exactly (ChooseSoak _) _ soak chosen (λ other. one_soak _ _ other chosen)

pub returns-clause-limits : goal.returns-clause-limits
returns-clause-limits c =
    let spelled = two_words _ _ _ c.in-len2-up.len_at_least c.seed-item.is c.calls-item.is in
    let calls = (c.number_within.ensures _).0 c.in_ok-number_within.was in
    let small : c.in_ok-number_of.field-0 < 2 ^ 64 = search rules in
    soak_limits _ _ (numbered _ spelled ((c.chosen_by.ensures _).0 c.in_ok-chosen.was) ((c.workers_alone.ensures _).0 c.in_ok-workers_alone.was) small
    (sym c.as_str.ensures.value ∙ (c.number_of.ensures _ small).0 c.in_ok-number_of.was) (sym c.as_str-2.ensures.value ∙ calls.0, calls.1, calls.2))
