-- What proofs of other crates may cite. Declares nothing.
pub use Rattle.hx_clock.proofs.Histories.{meets_more, one-same, one-le, one-not, one-lt}
pub use Rattle.hx_clock.proofs.Knowing.{lt_tells}
pub use Rattle.hx_clock.proofs.Lists.{all_set, all_snoc, each_all, each_append, each_in, each_map, get-below, get-front, get-snoc, in_left, in_right, prefix_in}
pub use Rattle.hx_clock.proofs.Lists.{total-append, total-at, total-set, total-two}
pub use Rattle.hx_clock.proofs.Filed.{some_same}
pub use Rattle.hx_clock.proofs.Runs.{get_before, get_end, get_range, get_told, get_within_range, range_before, range_end}
pub use Rattle.hx_clock.proofs.Steps.{one_lt-next, counts-some, counts-either}
