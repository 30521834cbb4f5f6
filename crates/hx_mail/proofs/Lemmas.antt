-- What proofs of other crates may cite. Declares nothing.
pub use Rattle.hx_mail.proofs.Lists.{map-snoc, put-other, put-own, put_by-append, put_in-name, times-map}
