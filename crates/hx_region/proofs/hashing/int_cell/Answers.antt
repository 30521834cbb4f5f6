-- The offset and the reach in 64 bits are the distance and the width of the definition.
use Rattle.std.proofs.Common.{◌-ℤ◌, nat_abs, w64, ap, ◌∙◌, rules}
use Rattle.std.specs.Int.RustNames.{FitsSigned}
use Rattle.std.proofs.lemmas.Int.{to_z-of_z}
use Rattle.hx_region.proofs.Bounds.{int_cell_is}
use Rattle.hx_region.proofs.hashing.int_cell.Goals as goal

pub returns : goal.returns
returns c =
    let v : FitsSigned w64 c.args.v = c.ranges.v in
    let lo : FitsSigned w64 c.args.lo = c.ranges.lo in
    let hi : FitsSigned w64 c.args.hi = c.ranges.hi in
    let clamp : FitsSigned w64 c.clamp.result = search rules in
    let nearest = simp to_z-of_z at c.clamp.ensures.value in
    let offset = simp to_z-of_z at c.abs_diff-offset.ensures in
    let reach = simp to_z-of_z at c.abs_diff.ensures in
    let is =
    int_cell_is c.args.v c.args.lo c.args.hi c.args.parts c.abs_diff-offset.result c.abs_diff.result c.requires.range
    (offset ∙ ap (λ w. nat_abs (w -ℤ c.args.lo)) nearest) reach
    in
    record {
      exact = c.part_at.ensures.exact ∙ is;
      within = c.part_at.ensures.within;
    }
