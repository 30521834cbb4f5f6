-- What proofs of other crates may cite. Declares nothing.
pub mod Vocabulary
pub use Rattle.hx_law_lemmas.proofs.Asking.{Asks, Gathered, HasParts, SearchTurn, search-turn}
pub use Rattle.hx_law_lemmas.proofs.CallEnds.{CallStop, EndsNow, awaited, began_notes, end_notes, goes_on, started, started_same, was_running}
pub use Rattle.hx_law_lemmas.proofs.Cases.{same-key, server-in, which-region, which-server}
pub use Rattle.hx_law_lemmas.proofs.Chains.{Apart, Differ, after-before, after-last, at-number, members-differ, members-is, number-is, place-in, region-is}
pub use Rattle.hx_law_lemmas.proofs.Chains.{mod-apart, server-other, server-same}
pub use Rattle.hx_law_lemmas.proofs.CoordinatorCases.{call_by, coordinator-cases}
pub use Rattle.hx_law_lemmas.proofs.Cuts.{More, length-upto, more_cut, more_same, version-there}
pub use Rattle.hx_law_lemmas.proofs.Decisions.{decides}
pub use Rattle.hx_law_lemmas.proofs.Edits.{MadeWith, atomic-both, edited-both, and_then-made}
pub use Rattle.hx_law_lemmas.proofs.Effects.{effect-done, effect-same, effect_well, get-of, get_effect, get_leaves}
pub use Rattle.hx_law_lemmas.proofs.FactLines.{caller-once, line-made, line-numbered, line-sorted, line-upto, update-at}
pub use Rattle.hx_law_lemmas.proofs.FirstMembers.{all-ready, head-some, first-listed, last-some}
pub use Rattle.hx_law_lemmas.proofs.FoundRows.{TouchedBy, filter-in, found-row}
pub use Rattle.hx_law_lemmas.proofs.Gets.{GetEnd, GetNote, entry_got, entry_short, gets-in, in-gets}
pub use Rattle.hx_law_lemmas.proofs.Hearing.{installed-found, replica_for-found}
pub use Rattle.hx_law_lemmas.proofs.HeldUpdates.{AllKnown, Held, Known, accepting-known, acknowledged-known, offered-known}
pub use Rattle.hx_law_lemmas.proofs.Joins.{IsCovered, merged-ascends, merged-covers, merged-in, part_rows, row_key}
pub use Rattle.hx_law_lemmas.proofs.KnownUpdates.{AllKnown as AllKnownInLine, Held as HeldInLine, Known as KnownInLine}
pub use Rattle.hx_law_lemmas.proofs.KnownUpdates.{accepting-known as accepting-known-in_line, acknowledged-known as acknowledged-known-in_line}
pub use Rattle.hx_law_lemmas.proofs.KnownUpdates.{held-moved_all as held-moved_all-in_line, known-append as known-append-in_line}
pub use Rattle.hx_law_lemmas.proofs.KnownUpdates.{marks-known as marks-known-in_line, offered-known as offered-known-in_line}
pub use Rattle.hx_law_lemmas.proofs.KnownUpdates.{with_commits-known as with_commits-known-in_line}
pub use Rattle.hx_law_lemmas.proofs.Lawful.{Law, Lawful, at_server, at_server-map, at_session, at_session-map, lawful-steady}
pub use Rattle.hx_law_lemmas.proofs.Leader.{IsNewer, decide-decided, slot_of}
pub use Rattle.hx_law_lemmas.proofs.LeaderLines.{kept-line, pending-in, top-line}
pub use Rattle.hx_law_lemmas.proofs.Lines.{Sorted, in-only, in-top, in-upto, in-upto_from, numbered-sorted, only, only-in, only-sorted, same_version, top-least}
pub use Rattle.hx_law_lemmas.proofs.Lines.{top-numbered, upto-low, upto-sorted, upto_all, upto_next, upto_upto}
pub use Rattle.hx_law_lemmas.proofs.Lists.{Pairwise, all-in, all-of, any-in, before-first, differ-append, in-append, in-below, in-filter, in-find, in-flat}
pub use Rattle.hx_law_lemmas.proofs.Lists.{in-flat_map, in-map, in-provided, in-reverse, in-slice_get, in-slice_set, in_left, in_right, map-in, of-reverse}
pub use Rattle.hx_law_lemmas.proofs.Lists.{each-append, each-flat, each-map, each-one, each-provided}
pub use Rattle.hx_law_lemmas.proofs.Lists.{pairwise-append, stands_before, when_some_both}
pub use Rattle.hx_law_lemmas.proofs.Newest.{in-with_newest, newest-in}
pub use Rattle.hx_law_lemmas.proofs.Numbered.{Numbered, in-below as numbered-within, upto_here, upto_past}
pub use Rattle.hx_law_lemmas.proofs.Objects.{effect-sound, fits-key, get-sound}
pub use Rattle.hx_law_lemmas.proofs.Order.{after-nobody, after-order, before-in, before-trans, fewer-before, fewer-differ, head-nobody, head-order, in-listed}
pub use Rattle.hx_law_lemmas.proofs.Order.{last-server, listed-in, member-server, order-cases, servers_of}
pub use Rattle.hx_law_lemmas.proofs.Passing.{Following, Lies, follows-line as following-line, keeps-key, keeps-new, keeps-where, only-key, passes-key}
pub use Rattle.hx_law_lemmas.proofs.Passing.{passes-old}
pub use Rattle.hx_law_lemmas.proofs.Placed.{AllMade, Made, made-numbered, made-sorted, made-upto, place-found}
pub use Rattle.hx_law_lemmas.proofs.PlacesApart.{ArePlaced, length-below, placed}
pub use Rattle.hx_law_lemmas.proofs.Plans.{NamesRegions, plan-regions, query-region}
pub use Rattle.hx_law_lemmas.proofs.Positions.{LastChange, cut-at, end-noted, last-is}
pub use Rattle.hx_law_lemmas.proofs.Regions.{between-places, not-lost, place-region, places-not-lost}
pub use Rattle.hx_law_lemmas.proofs.ReplicaLists.{Once, listed-apart, listed-only, listed-there, made-found, made-in, made-once, mapped-found, mapped-from}
pub use Rattle.hx_law_lemmas.proofs.ReplicaLists.{below-in, get-below, mapped-once, once-found, once-replaced}
pub use Rattle.hx_law_lemmas.proofs.Replicas.{in-with_replica, in-with_state, replica-found, replica-here, replica-other, slot-found, slot-here, slot-other_key}
pub use Rattle.hx_law_lemmas.proofs.Replicas.{slot-other_region, state-from, state-key, with_slot_at}
pub use Rattle.hx_law_lemmas.proofs.Rows.{Changed, Kept, Stands, kept-is, kept-newest, next-change, row_with, stands}
pub use Rattle.hx_law_lemmas.proofs.SessionNotes.{all_notes, begins_now, ends_now, keeps_lines, may_start}
pub use Rattle.hx_law_lemmas.proofs.SessionCases.{Called, session-cases}
pub use Rattle.hx_law_lemmas.proofs.SessionSteps.{AsksOf, ConfigBy, EndsBy, Goes, SessionDoes, Starts, session-does}
pub use Rattle.hx_law_lemmas.proofs.SessionTurns.{SaysOf, SessionTurn, session_turn}
pub use Rattle.hx_law_lemmas.proofs.Showing.{rows-full, rows-sound}
pub use Rattle.hx_law_lemmas.proofs.SmallBooks.{small_books_are}
pub use Rattle.hx_law_lemmas.proofs.Staying.{stays-by}
pub use Rattle.hx_law_lemmas.proofs.Texts.{Ascend, ascend-test, state-there, state_key}
pub use Rattle.hx_law_lemmas.proofs.Traces.{BeganAt, EndedAt, arrived, began_at, begin_is, ended_at, of_session, session_self}
pub use Rattle.hx_law_lemmas.proofs.UpdatesApart.{places-apart}
