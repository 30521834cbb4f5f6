-- What proofs of other crates may cite. Declares nothing.
pub use Rattle.hx_law_order.proofs.Different.{in-time-of-different}
pub use Rattle.hx_law_order.proofs.Headline.{histories_have, once, in-numbered}
