use Rattle.std.proofs.Common.{◌≡◌, None, Some, refl, sym, ◌∙◌}
use Rattle.hx_audit.specs.Finished.{finished_view}
use Rattle.hx_audit.specs.Told.{search_told}
use Rattle.hx_audit.proofs.Begun.{all_shown, shown_all}
use Rattle.hx_audit.proofs.Unique.{told_whole, whole_told}
use Rattle.hx_audit.proofs.whole.is_whole.Goals as goal

pub returns-in-Some : goal.returns-in-Some
returns-in-Some c =
    let e : search_told c.args.call.now ≡ Some (finished_view c.in-Some.search) = sym c.in-Some.ensures in
    λ block ordered latest. (
      λ t. whole_told block c.args.call.now (finished_view c.in-Some.search) e
          (all_shown block (finished_view c.in-Some.search) c.args.histories.now latest (c.are_shown.ensures.0 t)),
      λ h. c.are_shown.ensures.1 (shown_all block (finished_view c.in-Some.search) c.args.histories.now latest
          (told_whole block c.args.call.now (finished_view c.in-Some.search) ordered.histories e h)),
    )

pub returns-in-None : goal.returns-in-None
returns-in-None c =
    let e : search_told c.args.call.now ≡ None = sym c.in-None.ensures in
    λ block ordered latest. (
      λ t key s q. absurd (let z : None ≡ Some s = sym e ∙ q in cc),
      λ h. refl,
    )
