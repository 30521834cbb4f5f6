-- The bytes, the lowest first, are put the highest first, each with its bits in reverse order.
use Rattle.std.proofs.Common.{ℕ, List, slice_index, ap, ◌∙◌}
use Rattle.hx_model.specs.Cells.{reversed_bits}
use Rattle.hx_region.proofs.Reversed.{bytes_reversed}
use Rattle.hx_region.proofs.hashing.reversed.Goals as goal

pub returns : goal.returns
returns c =
    let at = λ (i : ℕ). ap (λ (bytes : List ℕ). reversed_bits 8 (slice_index bytes i)) c.to_le_bytes-bytes.ensures in
    c.from_be_bytes.ensures
    ∙ bytes_reversed c.args.bits _ _ _ _ _ _ _ _
    (c.reversed_byte.ensures ∙ at 0) (c.reversed_byte-2.ensures ∙ at 1) (c.reversed_byte-3.ensures ∙ at 2) (c.reversed_byte-4.ensures ∙ at 3)
    (c.reversed_byte-5.ensures ∙ at 4) (c.reversed_byte-6.ensures ∙ at 5) (c.reversed_byte-7.ensures ∙ at 6) (c.reversed_byte-8.ensures ∙ at 7)
