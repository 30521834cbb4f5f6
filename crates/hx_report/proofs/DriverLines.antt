-- The lines of drivers, by computing.
use Rattle.std.specs.Prelude.{◌≡◌, ℕ, [], ◌∷◌, codes}
use Rattle.std.specs.Fmt.{digits}
use Rattle.hx_model.specs.Types.{Totals}
use Rattle.hx_report.specs.Driving.{driver_line, drivers_text, totals_text}
use Rattle.hx_report.specs.Tracing.{field_text}
use Rattle.std.proofs.Common.{refl}

abbrev totals : ℕ → ℕ → ℕ → ℕ → Totals
totals posts deliver lose twice = record { posts = posts; deliver = deliver; lose = lose; twice = twice }

two_drivers :
    drivers_text 1 (totals 12 9 1 2 ∷ totals 0 0 0 0 ∷ [])
    ≡ codes "driver 1 posts 12 deliver 9 lose 1 twice 2\ndriver 2 posts 0 deliver 0 lose 0 twice 0\n"
unfolding digits field_text totals_text driver_line drivers_text
two_drivers = refl
