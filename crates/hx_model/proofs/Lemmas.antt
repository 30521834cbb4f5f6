-- What proofs of other crates may cite. Declares nothing.
pub use Rattle.hx_model.proofs.AbsentCput.{script as absent_cput_script, trace as absent_cput_trace}
pub use Rattle.hx_model.proofs.Doubt.{script as doubt_script, trace as doubt_trace}
pub use Rattle.hx_model.proofs.Examples.{books}
pub use Rattle.hx_model.proofs.GetAfterPut.{script as get_after_put_script, trace as get_after_put_trace}
pub use Rattle.hx_model.proofs.HandMade.{assigned, began, called, ended, never, put_color as hand_made_put_color, the_key as hand_made_key}
pub use Rattle.hx_model.proofs.Joiner.{script as joiner_script, trace as joiner_trace}
pub use Rattle.hx_model.proofs.Laws.{base-moved_all, moved_all-++}
pub use Rattle.hx_model.proofs.Replays.{entry_by_step}
pub use Rattle.hx_model.proofs.SearchOfTwoRegions.{script as search_of_two_regions_script, trace as search_of_two_regions_trace}
pub use Rattle.hx_model.proofs.ServerCases.{ServerCases, server-cases}
pub use Rattle.hx_model.proofs.SmallSpace.{blue, caller, configured, epoch, first_update, from_session, key_slot, mark, not_installed, other_slot, put_color}
pub use Rattle.hx_model.proofs.SmallSpace.{ready, red, region, replica, row, second_update, server, session, shop, the_key, touch, version}
pub use Rattle.hx_model.proofs.States.{eq_of_same_text, found_first, found_same, others_stay, same_text_self}
pub use Rattle.hx_model.proofs.TwoStops.{script as two_stops_script, trace as two_stops_trace}
