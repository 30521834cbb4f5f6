-- The words that proofs of laws cite most, of std, of the types, of the definitions and of regions, by one import in place of one for each. Declares nothing.
pub use Rattle.std.proofs.Common.{[], add-one, ap, append_assoc, arith, Bool, cond, eqb, Err, false, if◌then◌else◌, inl, inr, is_some, leb, length, List, ltb}
pub use Rattle.std.proofs.Common.{map, nat_lt, None, not, Ok, Option, refl, Result, Some, subst, suc, sym, take, true, zero, ℕ, ℤ, ⊎_elim, ◌%◌, ◌&&◌}
pub use Rattle.std.proofs.Common.{◌*◌, ◌++◌, ◌+ℤ◌, ◌+◌, ◌-◌, ◌/◌, ◌<◌, ◌==◌, ◌^◌, ◌||◌, ◌↔◌, ◌∙◌, ◌∷◌, ◌≡◌, ◌≢◌, ◌≤◌, ◌⊎◌}
pub use Rattle.std.proofs.Math.Bool.{Bool-set}
pub use Rattle.std.proofs.Math.IntN.{ℤ_set}
pub use Rattle.std.proofs.Math.Logic.{∥∥₁_elim, ∥∥₁_map}
pub use Rattle.std.proofs.Math.Nat.{div-add-mod, mod-lt, mul-le-mul_left, mul-le-mul_right, mul-suc}
pub use Rattle.std.proofs.Math.Nat.{mul_assoc, suc-mul, ℕ_set}
pub use Rattle.std.proofs.Math.Seq.{take-length}
pub use Rattle.std.proofs.lemmas.Bool.{and_from, and_parts, cases_Bool, cases_eq, cases_lt, cases_order, cond-false, cond-true, cond_both, eq-eqb, eqb-false}
pub use Rattle.std.proofs.lemmas.Bool.{eqb-true, false_from_ne_true, false≢true, le-leb, le-ltb, leb-false, leb-true, lt-leb, lt-ltb, ltb-false, ltb-true}
pub use Rattle.std.proofs.lemmas.Bool.{ne_eqb, not-false, not-true, not_from_false, or_cases, or_left, or_right, true≢false}
pub use Rattle.std.proofs.lemmas.Bool.Decides.{eqb_tells}
pub use Rattle.std.proofs.lemmas.Int.{ints}
pub use Rattle.std.proofs.lemmas.List.{append-nil, length-append, length-map, length-reverse, map-append, map-id, reverse-append, reverse-reverse}
pub use Rattle.std.proofs.lemmas.List.Concat.{flat_map-append}
pub use Rattle.std.proofs.lemmas.List.Elements.{All-cons, All-from_recursion, All-head, All-nil, All-tail}
pub use Rattle.std.proofs.lemmas.List.Sorted.{Contains-permutation, IsPermutation-map, IsPermutation-sym}
pub use Rattle.std.proofs.lemmas.List.Sums.{fold_push, sum_by-append, sum_by-cons, sum_by_push}
pub use Rattle.std.proofs.lemmas.Option.{slice_get-map}
pub use Rattle.std.proofs.lemmas.Str.{IsUtf8-append, IsUtf8-from_ascii, IsUtf8-nil}
pub use Rattle.std.specs.Fmt.{decimal, digit_glyph, digits, digits_onto}
pub use Rattle.std.specs.Int.{w64}
pub use Rattle.std.specs.List.{All, AllByRecursion, AllZip, Contains, count_by, filter, find, flat_map, fold, IsDistinct, list_all, list_any, slice_get}
pub use Rattle.std.specs.List.{slice_index, slice_index_or, slice_set, sum_by}
pub use Rattle.std.specs.List.Sorted.{IsStrictlyIncreasing}
pub use Rattle.std.specs.Option.{IfSome, option_map}
pub use Rattle.std.specs.Prelude.{codes, FitsSigned, get_or, int_le, IsPermutation, IsSome, IsSomeAnd, nat_le, negsuc, pos, reverse, ⊤}
pub use Rattle.std.specs.Str.{IsAscii, IsUtf8}
pub use Rattle.hx_types.specs.Configs.{any_joining, any_ready, first_config, first_member, head_of, is_lost, is_server, joiner_for, joiner_in, leads, lists}
pub use Rattle.hx_types.specs.Configs.{lists_joining, lists_ready, lost_regions, members_of}
pub use Rattle.hx_types.specs.Effects.{and_then, changed_to, default_of, defaults, edit_answered, edit_of, edited_from, edited_value, effect_of, fits_64}
pub use Rattle.hx_types.specs.Effects.{is_write, key_of, left_as, put_where, tests_hold, value_at, written}
pub use Rattle.hx_types.specs.Fitting.{assigns_well, call_of, calls_of, ends_well, has_begun, has_ended, is_begin_of, is_cmp_fail, is_done, is_doubt, is_end_of}
pub use Rattle.hx_types.specs.Fitting.{is_found, is_not_found, is_overflow, is_refused, is_rows, is_too_long, IsScript, note_fits, Noted, noted_in, notes_fit}
pub use Rattle.hx_types.specs.Fitting.{numbered, other_note_fits, TraceFits}
pub use Rattle.hx_types.specs.Posts.{ActorExists, AnswerUpTo, Bounds, goes_between, has_place_in, is_session_actor, IsSessionOf, IsSoundAnswer, IsSoundKept}
pub use Rattle.hx_types.specs.Posts.{IsSoundMessage, IsSoundPost, IsSoundUpdate, keys_ascend}
pub use Rattle.hx_types.specs.Spaces.{AllDiffer, ArePart, AssignFits, AssignsFit, BeginsAtKey, EditFits, Fits, IsAnswerOf, IsAscending, IsConfigOf, IsEditOf}
pub use Rattle.hx_types.specs.Spaces.{IsKind, IsListOf, IsMaybeObjectOf, IsMaybeRowUpTo, IsName, IsObjectOf, IsOfKind, IsRegionOf, IsRowOf, IsServerOf, IsSpace}
pub use Rattle.hx_types.specs.Spaces.{IsSubspaceOf, KeyFits, TermsFit}
pub use Rattle.hx_types.specs.Subspaces.{axes_of, first_region, is_key_region, kind_at, region_count, size_of, sizes_sum, subspaces_of}
pub use Rattle.hx_types.specs.Words.{below, first_of_list, first_some, IsBefore, IsIn, list_of, post, provided, same_actor, same_region, same_server}
pub use Rattle.hx_types.specs.Words.{same_session, same_text, server_in, text_below, when_some, without_server}
pub use Rattle.hx_types.specs.declared.limits.TheConstants.{LONGEST_TEXT}
pub use Rattle.hx_model.proofs.Lemmas.{base-moved_all, eq_of_same_text, found_first, found_same, others_stay, same_text_self}
pub use Rattle.hx_model.specs.Causes.{AnsweredCall, carries_call, config_noted, config_of, HasCause, HasCauses, is_fulfilled, IsAddRefused, IsDoubted}
pub use Rattle.hx_model.specs.Causes.{IsDoubtTold, IsFound, IsGiven, IsIssued, IsLostIn, IsRefused, IsRefusedFor, IsRefusedWrite, IsStopped, issued_after}
pub use Rattle.hx_model.specs.Causes.{refused_place, server_named, was_sent}
pub use Rattle.hx_model.specs.Cells.{cell_of}
pub use Rattle.hx_model.specs.CoordinatorSteps.{add_step, adds, administers, again, Answered, by_number, config_ready, config_with, config_without}
pub use Rattle.hx_model.specs.CoordinatorSteps.{coordinator_at_start, coordinator_message, coordinator_step, coordinator_tick, CoordinatorState}
pub use Rattle.hx_model.specs.CoordinatorSteps.{CoordinatorStep, die_for, gone_step, is_newest_call, is_stop_of, issue, join_posts, judged, last_ready_pair}
pub use Rattle.hx_model.specs.CoordinatorSteps.{members_without, Newest, newest_answered, newest_of, next_config, outcome, poll_step, ready_if, ready_step}
pub use Rattle.hx_model.specs.CoordinatorSteps.{resting, session_posts, stop_step, stops, stops_answered, stops_left, stops_server, Task, telling, to_server}
pub use Rattle.hx_model.specs.CoordinatorSteps.{with_answer, with_newest, with_number, with_task}
pub use Rattle.hx_model.specs.Histories.{begin_of, begins_in, CallEnd, callers_of, end_of, ends_in, get_item, get_items, gets_of, history_of, history_on}
pub use Rattle.hx_model.specs.Histories.{in_place, is_get_of, is_session, line_note, line_notes, line_of, not_refused, note_of_end, record_at, record_of}
pub use Rattle.hx_model.specs.Histories.{records_of, write_item}
pub use Rattle.hx_model.specs.Holders.{IsPosted}
pub use Rattle.hx_model.specs.Leading.{assigned, by_mark, decide, first_lost, fresh, granted, refusal, stuck_among, stuck_of, StuckAt, with_places}
pub use Rattle.hx_model.specs.Legal.{IsEffect, IsLegal, object_now}
pub use Rattle.hx_model.specs.Linear.{began_before, EachOnce, ended_before, IsCall, IsLinear, StandsBefore, was_refused}
pub use Rattle.hx_model.specs.Lines.{line_object, no_version, upto}
pub use Rattle.hx_model.specs.Matching.{matches}
pub use Rattle.hx_model.specs.Neighbours.{enters, enters_last, hop_at, is_end, last_member, member_after, member_before, members_at, next_of, place_number}
pub use Rattle.hx_model.specs.Neighbours.{preceding_place, prev_of, region_at}
pub use Rattle.hx_model.specs.Places.{declared_subspaces, key_place, lies_in, placed_after, places_of, regions_between, touched_in}
pub use Rattle.hx_model.specs.Planning.{any_lost, chosen, fewer_of, lowest_lost, plan_of, query_regions, QueryRegions}
pub use Rattle.hx_model.specs.Regions.{axis_cell, key_region, meets, place_of, regions_of, row_number}
pub use Rattle.hx_model.specs.Runs.{coordinator_after, coordinator_of, does_something, entry_at, entry_of, has_halted, is_actor, is_empty, IsRun, IsStep}
pub use Rattle.hx_model.specs.Runs.{made_of, MayTake, Output, post_named, server_after, server_of, session_after, session_of}
pub use Rattle.hx_model.specs.Schedule.{delivery_of, entries_of, entry_by, first_delivery, idle_among, is_idle, names_from, Next, next_entry, next_input}
pub use Rattle.hx_model.specs.Schedule.{same_name, scheduled, stepped, undelivered, with_entry}
pub use Rattle.hx_model.specs.Searching.{changes_object, FinishedSearch, IsChangeShown, IsSearchTrue, IsSearchWhole, IsShown, IsTrueRow, items_with_newer}
pub use Rattle.hx_model.specs.Searching.{ItemWithNewer, last_change, no_change_before, rows_in, search_of, terms_of, with_rows}
pub use Rattle.hx_model.specs.ServerSteps.{accepting, ack_step, ack_to, adopted, adopted_posts, adopted_replica, adopted_state, asking_last, at_slot, by_moves}
pub use Rattle.hx_model.specs.ServerSteps.{by_posts, call_step, context_of, decided, doubt_in, doubts_from, get_answer, get_step, halting, if_installed}
pub use Rattle.hx_model.specs.ServerSteps.{installed_slots, is_active, join_keys, join_slot, keys_of, known_to, leader_doubts, listed_regions, meeting}
pub use Rattle.hx_model.specs.ServerSteps.{move_posts, next_at, offered_all, passed_on, pending_posts, poll_post, prev_at, ready_post, Replica, replica_for}
pub use Rattle.hx_model.specs.ServerSteps.{replica_of, replica_or_new, replica_tick, reply, resumed, resumed_posts, saying, server_at_start, server_step}
pub use Rattle.hx_model.specs.ServerSteps.{ServerState, ServerStep, SlotContext, Slots, SlotStep, snap_posts, snap_to, state_from, state_in, tail_acks}
pub use Rattle.hx_model.specs.ServerSteps.{tick_step, told_to, unmoved, update_step, update_to, waiting_doubt, with_commits, with_config, with_key}
pub use Rattle.hx_model.specs.ServerSteps.{with_replica, with_slot, with_slots, write_step}
pub use Rattle.hx_model.specs.SessionSteps.{all_parts, ask_regions, ask_to, awaits, begin, call_to, call_under_way, end_with_parts, ending, found_step}
pub use Rattle.hx_model.specs.SessionSteps.{is_administrative, is_key_call, is_search, lacks_part, lost_answer, merged_parts, Part, rows_joined, send, send_to}
pub use Rattle.hx_model.specs.SessionSteps.{session_install, session_message, session_step, session_tick, SessionState, SessionStep, staying, to_coordinator}
pub use Rattle.hx_model.specs.SessionSteps.{with_part, with_poll, with_row}
pub use Rattle.hx_model.specs.Slots.{Acknowledge, acknowledged, after_at, Commit, commits, follows, Forget, found_in, has_place, Hold, is_pending, keeps_at}
pub use Rattle.hx_model.specs.Slots.{kept_after, kept_of, kept_row, KeyState, latest_of, mark_among, mark_by, mark_of, marks_after, Move, moved, moved_all}
pub use Rattle.hx_model.specs.Slots.{new_state, no_kept, object_in, object_of, offered, other_version, pending_above, pending_of, pending_of_all, place_in}
pub use Rattle.hx_model.specs.Slots.{row_of, rows_of, settled, snapshot_of, state_among, state_of_kept, Take, taken, top_above, top_of, touches_after}
pub use Rattle.hx_model.specs.Slots.{touches_of, turns, waits_below, with_mark, with_state, with_touch, with_touches}
pub use Rattle.hx_model.specs.Types.{Actor, Add, Answer, Assign, At, Atomic, Attribute, Axis, Blocked, Caller, Config, Coordinator, Cput, Decision, Del}
pub use Rattle.hx_model.specs.Types.{Deliver, Edit, EditKind, Effect, End, Entry, Epoch, Get, Halt, Hop, Input, Item, Kept, Kind, Mark, Member, Message, Note}
pub use Rattle.hx_model.specs.Types.{Op, Place, Planned, Post, PostId, Put, Record, RegionId, Row, Script, Search, Server, ServerId, Session, SessionId, Space}
pub use Rattle.hx_model.specs.Types.{Stop, Term, Tick, Totals, Touch, Update, Value, Version}
pub use Rattle.hx_law_lemmas.specs.Facts.{AnswersGet, AssignsNext, DeliversCall, Facts, IsLine, IsPartOf, IsUpdateAfter, part_at, ShowsRows, StaysUpTo, Tells}
pub use Rattle.hx_law_lemmas.specs.Facts.{WasTold}
pub use Rattle.hx_law_lemmas.specs.Words.{posts_of, slot_in}
pub use Rattle.hx_region.proofs.Lemmas.{all_asked, axis, Contains-below, disjoint, letter-name, lowest, places_belong, within}
pub use Rattle.hx_region.specs.Spans.{IsRegionIn, subspace_count}
