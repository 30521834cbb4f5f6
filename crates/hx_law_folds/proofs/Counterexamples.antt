-- What is false without the premises, by computing: both sides of each claim, and they differ.
use Rattle.hx_law_folds.proofs.Vocabulary.{[], Bool, Commit, false, folded, kept_of, KeyState, latest_of, length, List, Mark, mark_among, mark_of, marks_after}
use Rattle.hx_law_folds.proofs.Vocabulary.{moved, moved_all, no_kept, None, object_of, offered_all, Option, option_map, pending_of, refl, RegionId, Row}
use Rattle.hx_law_folds.proofs.Vocabulary.{SessionId, snapshot_of, Some, state_from, top_of, touches_of, true, Update, ℕ, ◌∷◌, ◌≡◌}
use Rattle.hx_types.specs.declared.calls.Answer.TheVariants as an_answer

abbrev here : RegionId
here = record { 0 = 0 }

abbrev first : SessionId
first = record { 0 = 1 }

-- an update of this version by a session's call, after a version, at the region
abbrev update : ℕ → ℕ → ℕ → ℕ → Update
update v after session number =
    record {
      key = [];
      version = record { 0 = v };
      caller = record { session = record { 0 = session }; number = number };
      answer = an_answer.Done;
      changes = true;
      object = Some [];
      places = record { region = here; after = record { 0 = after }; keeps = true } ∷ [];
    }

abbrev slot : Bool → List Update → ℕ → KeyState
slot marks accepted floor = record { marks = marks; base = no_kept []; accepted = accepted; floor = floor; acked = []; early = [] }

abbrev numbers : Option Mark → Option ℕ
numbers m = option_map (λ (x : Mark). x.number) m

-- where no marks are kept, marks and touches of committed updates are gone
abbrev elsewhere : KeyState
elsewhere = slot false (update 1 0 1 1 ∷ []) 1

mark_there : numbers (mark_of first elsewhere) ≡ Some 1
mark_there = refl

mark_gone : numbers (mark_of first (folded here elsewhere)) ≡ None
mark_gone = refl

touches_there : length (touches_of elsewhere) ≡ 1
touches_there = refl

touches_gone : length (touches_of (folded here elsewhere)) ≡ 0
touches_gone = refl

-- where the floor is no accepted version, the top isn't kept
abbrev floating : KeyState
floating = slot true (update 3 0 1 1 ∷ []) 5

top_floating : top_of floating ≡ 3
top_floating = refl

top_floating_folded : top_of (folded here floating) ≡ 5
top_floating_folded = refl

-- a commit below the floor brings back what was folded
abbrev two : KeyState
two = slot true (update 2 1 1 2 ∷ update 1 0 1 1 ∷ []) 2

back : length (pending_of (folded here (moved (Commit (update 1 0 1 1)) two))) ≡ 1
back = refl

not_back : length (pending_of (folded here (moved (Commit (update 1 0 1 1)) (folded here two)))) ≡ 0
not_back = refl

-- a commit in a slot without a past leaves a past: what it leaves has to be folded again
abbrev one : KeyState
one = slot true (update 1 0 1 1 ∷ []) 0

left : length (moved (Commit (update 1 0 1 1)) (folded here one)).accepted ≡ 1
left = refl

folded_left : length (folded here (moved (Commit (update 1 0 1 1)) one)).accepted ≡ 0
folded_left = refl

-- the newest pending update of a session doesn't have its mark where its call number is lower than a committed one's
abbrev two_calls : KeyState
two_calls = slot true (update 2 1 1 1 ∷ update 1 0 1 2 ∷ []) 1

mark_of_both : numbers (mark_of first (folded here two_calls)) ≡ Some 2
mark_of_both = refl

mark_of_pending : numbers (mark_among first (marks_after [] (pending_of two_calls))) ≡ Some 1
mark_of_pending = refl

-- and neither has the higher of both its mark where the base's sessions don't ascend
abbrev mark : ℕ → ℕ → Mark
mark session number = record { session = record { 0 = session }; number = number; version = record { 0 = 1 }; answer = an_answer.Done }

abbrev unordered : KeyState
unordered = record {
  marks = true;
  base = record (no_kept []) {
    floor = record { 0 = 1 };
    marks = mark 2 1 ∷ mark 1 9 ∷ [];
  };
  accepted = update 2 1 1 1 ∷ [];
  floor = 1;
  acked = [];
  early = [];
}

mark_unordered : numbers (mark_of first unordered) ≡ Some 1
mark_unordered = refl

mark_in_base : numbers (mark_among first unordered.base.marks) ≡ Some 9
mark_in_base = refl

-- the row's key is the update's, so a slot that keeps the values alone can't give it
abbrev other_key : KeyState
other_key = slot true (record (update 1 0 1 1) { key = 7 ∷ [] } ∷ []) 1

row_key : option_map (λ (r : Row). r.key) (object_of here (folded here other_key)) ≡ Some (7 ∷ [])
row_key = refl

slot_key : (folded here other_key).base.key ≡ []
slot_key = refl

-- over a base without an object, an update that keeps and doesn't change leaves none
abbrev unchanged : KeyState
unchanged = slot true (record (update 1 0 1 1) { changes = false } ∷ []) 0

none_latest : latest_of here unchanged ≡ None
none_latest = refl

-- a pending update that isn't in turn is held early by a joiner, and not accepted
abbrev out_of_turn : KeyState
out_of_turn = slot true (update 2 1 1 1 ∷ []) 0

abbrev joiner : KeyState
joiner = state_from true (kept_of here out_of_turn)

joiner_early : length (moved_all (offered_all here joiner (pending_of out_of_turn)) joiner).early ≡ 1
joiner_early = refl

sender_pending : length (folded here out_of_turn).accepted ≡ 1
sender_pending = refl

-- a base of version 0 with an object is left out of a snapshot
abbrev strange : KeyState
strange = record {
  marks = true;
  base = record (no_kept [])
      { object = Some (record { key = []; version = record { 0 = 0 }; object = [] }) };
  accepted = [];
  floor = 0;
  acked = [];
  early = [];
}

left_out : length (snapshot_of here (strange ∷ [])) ≡ 0
left_out = refl

strange_row : option_map (λ (r : Row). r.version.0) (object_of here (folded here strange)) ≡ Some 0
strange_row = refl
