-- What proofs of other crates may cite. Declares nothing.
pub use Rattle.hx_law_threads.proofs.Actors.{same_actor_is, same_as_itself}
pub use Rattle.hx_law_threads.proofs.Feeding.{actors_stay_sound}
pub use Rattle.hx_law_threads.proofs.Lists.{in_append, in_permuted, in_reverse, map_append, map_reverse, of_below, of_filter, of_reverse}
pub use Rattle.hx_law_threads.proofs.Lists.{reverse_cons, reverse_snoc}
pub use Rattle.hx_law_threads.proofs.Offers.{repeats_put, times_total}
pub use Rattle.hx_law_threads.proofs.PartPaces.{parts_tell, whole_adds_up, count-own}
pub use Rattle.hx_law_threads.proofs.Places.{are_counted, stamps_are_places, entry_found, length-below}
pub use Rattle.hx_law_threads.proofs.Reading.{read_in_parts}
pub use Rattle.hx_law_threads.proofs.Retries.{first_all, first_fewer, retriers_waited}
pub use Rattle.hx_law_threads.proofs.Runs.{merged_run, of_parts, past_is, posts_found}
pub use Rattle.hx_law_threads.proofs.Sessions.{done_ended}
pub use Rattle.hx_law_threads.proofs.States.{by_own, halted_own, made_own}
pub use Rattle.hx_law_threads.proofs.Totals.{cuts_add_up, total_same}
pub use Rattle.hx_law_threads.proofs.Weights.{named_once, open_counted, posts_weigh, same_self}
pub use Rattle.hx_law_lemmas.proofs.Lemmas.{map-in as in_map, in-map as of_map}
