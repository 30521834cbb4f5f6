-- What proofs of other crates may cite. Declares nothing.
pub use Rattle.hx_types.proofs.ByteOrder.{same_text-symm, text_below-apart, text_below-back, text_below-differs, text_below-is_lt, text_below-other}
pub use Rattle.hx_types.proofs.ByteOrder.{text_below-trans}
pub use Rattle.hx_types.proofs.Counting.{map_below_next, parts_of_rest, small_rest}
pub use Rattle.hx_types.proofs.Prefixed.{apart-cmp}
