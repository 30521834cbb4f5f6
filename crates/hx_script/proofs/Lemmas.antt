-- What proofs of other crates may cite. Declares nothing.
pub use Rattle.hx_script.proofs.Asking.{terms_end, terms_go_on}
pub use Rattle.hx_script.proofs.Assigning.{assigns_end, assigns_go_on}
pub use Rattle.hx_script.proofs.BundleLists.{all_at, dealt_long, if_some_at, map_set_same, placed_all, placed_map, placed_set, some_here}
pub use Rattle.hx_script.proofs.BundleValid.{then_ok, number_ok}
pub use Rattle.hx_script.proofs.Editing.{edits_end, edits_go_on}
pub use Rattle.hx_script.proofs.Lists.{push_to_last_is}
pub use Rattle.hx_script.proofs.LoneCalls.{lone_fits, toks_take}
pub use Rattle.hx_script.proofs.MoreAxes.{axes_end, axes_go_on}
pub use Rattle.hx_script.proofs.OneSpace.{bundle_sound}
pub use Rattle.hx_script.proofs.SoundTexts.{text_sound}
pub use Rattle.hx_script.proofs.Takes.{ok_is, on_ok_ok}
