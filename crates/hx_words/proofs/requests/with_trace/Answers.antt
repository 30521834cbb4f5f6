-- The one word after the name of a replay asks for its trace.
use Rattle.std.proofs.Common.{rules, ap, ◌≡◌, ◌∙◌, ◌∷◌, []}
use Rattle.std.specs.Prelude.{codes, string_bytes}
use Rattle.hx_words.proofs.Sayings.{one_word}
use Rattle.hx_words.proofs.Names.{traced}
use Rattle.hx_words.proofs.requests.with_trace.Goals as goal

pub returns-in-len1 : goal.returns-in-len1
returns-in-len1 c asked =
    let named : string_bytes c.option-item.result ≡ codes "--trace" = search rules in
    traced _ (one_word _ _ c.in-len1.len_at_least c.in-len1.len_below c.option-item.is ∙ ap (λ word. word ∷ []) named) asked
