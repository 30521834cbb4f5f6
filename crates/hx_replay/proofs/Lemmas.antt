-- What proofs of other crates may cite. Declares nothing.
pub use Rattle.hx_replay.proofs.Lawful.{is_lawful}
pub use Rattle.hx_replay.proofs.Reading.{refused_scripted}
