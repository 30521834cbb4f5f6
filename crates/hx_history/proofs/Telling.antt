-- The history told one write further.
use Rattle.std.proofs.Common.{◌≡◌, ℕ, ◌+◌, ◌<◌, List, [], ◌∷◌, ◌++◌, Some, reverse, length, get_or, take, refl, sym, ap, ◌∙◌}
use Rattle.std.proofs.lemmas.List.{take_more}
use Rattle.std.proofs.lemmas.Option.{slice_get-get_or}
use Rattle.std.specs.Option.{option_map}
use Rattle.std.specs.Borrow.{Bor}
use Rattle.hx_model.specs.Types.{Script, Update}
use Rattle.hx_model.specs.Histories.{write_item}
use Rattle.hx_history.specs.Events.{ReadEnd, placed, told, updates_at, version_in}
use Rattle.hx_history.proofs.Newest.{newest_push}

version_in-within : (xs : List (Bor Update)) (i : ℕ) (d : Bor Update) → i < length xs → version_in xs i ≡ Some (get_or xs i d).now.version.0
version_in-within xs i d within = ap (option_map (λ (u : Bor Update). u.now.version.0)) (slice_get-get_or xs i d within)

-- one write further
pub told_more : (script : Script) (reads : List ReadEnd) (xs : List (Bor Update)) (i : ℕ) (x : Bor Update) → i < length xs → x ≡ get_or xs i x
    → told script reads (version_in xs (i + 1)) (reverse (updates_at (take (i + 1) xs)))
    ≡ told script reads (version_in xs i) (reverse (updates_at (take i xs)))
    ++ write_item script x.now
    ++ placed x.now.version.0 (version_in xs (i + 1)) x.now.object reads
told_more script reads xs i x within read =
    let last : version_in xs i ≡ Some x.now.version.0 =
    version_in-within xs i x within ∙ ap (λ (u : Bor Update). Some u.now.version.0) (sym read) in
    let more : take (i + 1) xs ≡ take i xs ++ x ∷ [] = take_more xs i x within ∙ ap (λ (u : Bor Update). take i xs ++ u ∷ []) (sym read) in
    rw (more, newest_push, last) refl
