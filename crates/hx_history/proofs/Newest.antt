-- Lists of references read from their newest end.
use Rattle.std.proofs.Common.{◌≡◌, List, [], ◌∷◌, ◌++◌, reverse, not, refl, sym, ap, ◌∙◌}
use Rattle.std.specs.List.{filter}
use Rattle.hx_types.specs.Fitting.{is_refused}
use Rattle.hx_model.specs.Histories.{not_refused}
use Rattle.hx_history.proofs.Lists.{map_filter, filter_reverse}
use Rattle.std.proofs.lemmas.List.{map-append, reverse-append}
use Rattle.std.specs.Borrow.{Bor}
use Rattle.hx_model.specs.Types.{Update}
use Rattle.hx_history.specs.Events.{updates_at}

pub newest_push : (xs : List (Bor Update)) (x : Bor Update) → reverse (updates_at (xs ++ x ∷ [])) ≡ x.now ∷ reverse (updates_at xs)
newest_push xs x = rw (map-append, reverse-append) refl

-- the writes of a line that were not refused
pub standing : (xs : List (Bor Update)) → reverse
    (updates_at (filter (λ (u : Bor Update). not (is_refused u.now.answer)) xs)) ≡ not_refused (reverse (updates_at xs))
standing xs =
    ap reverse (map_filter (λ (u : Bor Update). u.now) (λ (u : Update). not (is_refused u.answer)) xs)
    ∙ sym (filter_reverse (λ (u : Update). not (is_refused u.answer)) (updates_at xs))
