-- What proofs of other crates may cite. Declares nothing.
pub use Rattle.hx_outbox.proofs.Lists.{at-map, at-total, begins-refl, begins-trans, map-length, set-total, total-one}
pub use Rattle.hx_outbox.proofs.Offering.{offered-both, offered-few, offered-long, offered-none}
pub use Rattle.hx_outbox.proofs.Outs.{both-at, both-long, more-refl, more-trans}
pub use Rattle.hx_outbox.proofs.Places.{place-below}
