-- The words that the proofs here cite most, by one import in place of one for each. Declares nothing.
pub use Rattle.std.proofs.Common.{[], ap, append-nil, append_assoc, arith, Bool, cond, eqb, false, leb, length, List, ltb, map, None, not, Option, refl}
pub use Rattle.std.proofs.Common.{reverse, Some, subst, suc, sym, true, zero, ℕ, ◌++◌, ◌<◌, ◌∙◌, ◌∷◌, ◌≡◌, ◌≤◌}
pub use Rattle.std.proofs.lemmas.Bool.{and_parts, cond-false, cond-true, cond_both, eq-eqb, eqb-true, false≢true, le-leb, leb-false, leb-true, lt-leb, ltb-true}
pub use Rattle.std.specs.List.{AllByRecursion, filter, find, flat_map, list_any}
pub use Rattle.std.specs.Option.{IfSome, option_map}
pub use Rattle.std.specs.Prelude.{⊤, ◌&&◌}
pub use Rattle.hx_types.specs.Configs.{first_config, is_lost, leads}
pub use Rattle.hx_types.specs.Effects.{is_write, key_of}
pub use Rattle.hx_types.specs.Subspaces.{is_key_region}
pub use Rattle.hx_types.specs.Words.{provided, same_region, same_text, text_below, when_some}
pub use Rattle.hx_model.proofs.Lemmas.{base-moved_all, eq_of_same_text, same_text_self}
pub use Rattle.hx_model.specs.Hearing.{hears_ack, hears_snap, hears_update}
pub use Rattle.hx_model.specs.Holders.{kept_among}
pub use Rattle.hx_model.specs.Leading.{decide, stuck_among, stuck_of, StuckAt}
pub use Rattle.hx_model.specs.Lines.{upto}
pub use Rattle.hx_model.specs.Neighbours.{place_number}
pub use Rattle.hx_model.specs.Regions.{key_region}
pub use Rattle.hx_model.specs.ServerSteps.{accepting, ack_step, acked, acked_of, adopted, adopted_replica, adopted_state, asked, at_slot, call_at, call_step}
pub use Rattle.hx_model.specs.ServerSteps.{called, called_by, context_of, decided, if_installed, input_step, install_at, installed_slots, is_active, join_keys}
pub use Rattle.hx_model.specs.ServerSteps.{join_slot, keys_of, listed_regions, message_step, move_posts, offered_all, passed_on, pending_with, ready_post}
pub use Rattle.hx_model.specs.ServerSteps.{Replica, replica_for, replica_of, replica_or_new, resumed, resumed_posts, saying, server_at_start, server_step}
pub use Rattle.hx_model.specs.ServerSteps.{ServerState, ServerStep, SlotContext, Slots, SlotStep, snapped, state_from, state_in, tail_acks, unmoved}
pub use Rattle.hx_model.specs.ServerSteps.{update_step, updated, with_commits, with_config, with_replica}
pub use Rattle.hx_model.specs.Slots.{Acknowledge, acknowledged, Commit, commits, follows, Forget, Hold, is_pending, kept_of, kept_row, KeyState, latest_of}
pub use Rattle.hx_model.specs.Slots.{mark_among, mark_of, marks_after, Move, moved, moved_all, new_state, no_kept, object_in, object_of, offered, pending_above}
pub use Rattle.hx_model.specs.Slots.{pending_of, pending_of_all, place_in, settled, snapshot_of, state_among, state_of_kept, Take, taken, top_above, top_of}
pub use Rattle.hx_model.specs.Slots.{touches_after, touches_of, turns, waits_below, with_state}
pub use Rattle.hx_model.specs.Types.{Actor, Caller, Config, Coordinator, Decision, Deliver, Epoch, Halt, Input, Kept, Mark, Message, Op, Place, Post, RegionId}
pub use Rattle.hx_model.specs.Types.{Row, Server, ServerId, Session, SessionId, Space, Term, Tick, Touch, Update}
pub use Rattle.hx_law_folds.specs.Folding.{above, AreAlike, CanBeSent, CanJoin, Descends, folded, folded_replica, folded_server, InputFits, InTurn, IsAfter}
pub use Rattle.hx_law_folds.specs.Folding.{IsBare, IsJoinable, IsLater, IsReplicaOf, IsServerOf, IsSlotIn, IsSlotOf, KeptsAscend, KeysDiffer, MayFollow}
pub use Rattle.hx_law_folds.specs.Folding.{MessageFits, MessageJoins, ShowSame, Stands, StandsFor, StepFolds}
pub use Rattle.hx_law_folds.specs.Laws.{joining, over}
