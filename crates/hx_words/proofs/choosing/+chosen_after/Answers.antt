-- What the words of options choose.
use Rattle.std.proofs.Common.{rules, refl, ap, sym, ◌≡◌, ◌≢◌, [], ◌∷◌, ◌∙◌}
use Rattle.std.specs.Prelude.{codes, string_bytes}
use Rattle.std.proofs.lemmas.Option.{none-some}
use Rattle.hx_words.specs.declared.options.CommandOption.TheVariants.{Trace}
use Rattle.hx_words.proofs.Sayings.{goes_on, refused, taken, unanswered, never_said, alone_never_said, first_word, nothing_left, one_left, two_left}
use Rattle.hx_words.proofs.choosing.+chosen_after.Goals as goal

pub returns-in_default : goal.returns-in_default
returns-in_default t c after = nothing_left _ _ after c.in_default.len_below

pub returns-in_err-with : goal.returns-in_err-with
returns-in_err-with t c after =
    let first = first_word _ _ c.in-len1-up.len_at_least c.name-item.is in
    let named : codes "--trace" ≡ string_bytes c.name-item.result = search rules in
    unanswered _ after _ c.from_residual.ensures (refused Trace _ _ _ _ after (ap (λ word. word ∷ []) named) tt first
    (taken _ Trace _ c.with.ensures c.in_err-with.was))

pub returns-then-eq : goal.returns-then-eq
returns-then-eq t c after =
    let first = first_word _ _ c.in-len1-up.len_at_least c.name-item.is in
    let named : codes "--trace" ≡ string_bytes c.name-item.result = search rules in
    goes_on Trace _ _ _ _ _ after _ (ap (λ word. word ∷ []) named) tt first ((c.with.ensures _).0 c.in_ok-with.was) (c.chosen_after.ensures after)

pub returns-in_default-rest : goal.returns-in_default-rest
returns-in_default-rest t c after =
    let first = first_word _ _ c.in-len1-up.len_at_least c.name-item.is in
    let other : string_bytes c.name-item.result ≢ codes "--trace" = search rules in
    unanswered _ after _ refl (alone_never_said _ _ _ after (one_left _ _ _ _ first c.in_default-rest.len_below refl) other)

pub returns-in_err-option : goal.returns-in_err-option
returns-in_err-option t c after =
    let first = first_word _ _ c.in-len1-up.len_at_least c.name-item.is in
    let second = first_word _ _ c.in-len1-up-rest.len_at_least c.value-item.is in
    let two = two_left _ _ _ _ _ _ _ first second c.as_str-2.ensures.value c.as_str-3.ensures.value in
    let other : c.as_str-2.result.now ≢ codes "--trace" = search rules in
    unanswered _ after _ c.from_residual-in_err-option.ensures
    (never_said _ _ _ _ _ after two other (λ o e within. none-some o
    (sym c.in_err-option.was ∙ (c.option_of.ensures o).1 (e, within))))

pub returns-in_err-with-2 : goal.returns-in_err-with-2
returns-in_err-with-2 t c after =
    let first = first_word _ _ c.in-len1-up.len_at_least c.name-item.is in
    let second = first_word _ _ c.in-len1-up-rest.len_at_least c.value-item.is in
    let two = two_left _ _ _ _ _ _ _ first second c.as_str-2.ensures.value c.as_str-3.ensures.value in
    let told = (c.option_of.ensures c.in_ok-option.option).0 c.in_ok-option.was in
    unanswered _ after _ c.from_residual-in_err-with-2.ensures
    (refused c.in_ok-option.option _ _ _ _ after told.0 told.1 two
    (taken _ c.in_ok-option.option _ c.with-2.ensures c.in_err-with-2.was))

pub returns : goal.returns
returns t c after =
    let first = first_word _ _ c.in-len1-up.len_at_least c.name-item.is in
    let second = first_word _ _ c.in-len1-up-rest.len_at_least c.value-item.is in
    let two = two_left _ _ _ _ _ _ _ first second c.as_str-2.ensures.value c.as_str-3.ensures.value in
    let told = (c.option_of.ensures c.in_ok-option.option).0 c.in_ok-option.was in
    goes_on c.in_ok-option.option _ _ _ _ _ after _ told.0 told.1 two ((c.with-2.ensures _).0 c.in_ok-with-2.was) (c.chosen_after-2.ensures after)
