-- What proofs of other crates may cite. Declares nothing.
pub use Rattle.hx_region.proofs.Examples.{axis, letter-name, wide_is}
pub use Rattle.hx_region.proofs.Listing.{Contains-below}
pub use Rattle.hx_region.proofs.Planned.{all_asked, asked, lowest}
pub use Rattle.hx_region.proofs.Subspaces.{disjoint, places_belong, within}
pub use Rattle.hx_region.proofs.Bounds.{cell-below}
