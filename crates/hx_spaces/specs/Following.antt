-- That a session begins a call behind the note with which each call that it began before ended,
-- whatever their spaces. All lists stand oldest first.
use Rattle.std.specs.Prelude.{◌≡◌, ℕ, List, [], ◌∷◌, ◌++◌, map, reverse, slice_get, if◌then◌else◌, ◌==◌, Some}
use Rattle.std.specs.List.{All}
use Rattle.hx_model.specs.Types.{Answer, Entry, Note, Session, SessionId, Version}
use Rattle.hx_types.specs.declared.traces.Note.TheVariants.{Began, Ended}
use Rattle.hx_types.specs.Words.{IsIn}
use Rattle.hx_spaces.specs.Clusters.{IsCourse, IsRunOfSpace, traces_of}
use Rattle.hx_spaces.specs.Courses.{Course}

-- an entry, and the space in which it was made
pub record SpaceEntry : Type 0 where
  pub space : ℕ
  pub entry : Entry

-- the entries of one space
abbrev pub entries_of : ℕ → List SpaceEntry → List Entry
entries_of k [] = []
entries_of k (x ∷ rest) = if x.space == k then x.entry ∷ entries_of k rest else entries_of k rest

-- the entries of all traces in one order: these are their spaces, and those of each space are its trace
pub record AreInOrder (traces : List (List Entry)) (order : List ℕ) (entries : List SpaceEntry) : Type 0 where
  pub spaces : map (λ (x : SpaceEntry). x.space) entries ≡ order
  pub each : (k : ℕ) (trace : List Entry) → slice_get traces k ≡ Some trace → entries_of k entries ≡ trace

-- the session made this entry, and it has this note
pub record Noted (u : SessionId) (note : Note) (x : SpaceEntry) : Type 0 where
  pub actor : x.entry.actor ≡ Session u
  pub noted : IsIn note x.entry.notes

-- one of these entries, in the call's own space, has the note that the session's call of this number ended
pub record EndsAmong (u : SessionId) (space number : ℕ) (entries : List SpaceEntry) : Type 0 where
  pub entry : SpaceEntry
  pub among : IsIn entry entries
  pub in_space : entry.space ≡ space
  pub version : Version
  pub answer : Answer
  pub ended : Noted u (Ended number version answer) entry

-- where a session begins a call and later another one, whatever their spaces, the note with which
-- the first ended stands between: in the entry that began it or behind, and before the second
abbrev pub AreOneByOne : List SpaceEntry → Type 0
AreOneByOne entries =
    (u : SessionId) (m n : ℕ) (earlier between later : List SpaceEntry) (first second : SpaceEntry)
    → entries ≡ earlier ++ (first ∷ (between ++ (second ∷ later))) → Noted u (Began m) first → Noted u (Began n) second
    → EndsAmong u first.space m (first ∷ between)

-- so each session makes its calls in every course of a bundle
abbrev pub BeginsFollowEnds : Type 0
BeginsFollowEnds =
    (c : Course) (entries : List SpaceEntry) → IsCourse c → All IsRunOfSpace c.runs → AreInOrder (traces_of c) (reverse c.order) entries
    → AreOneByOne entries

-- the entries of a course have exactly one such order
pub record HasOneOrder (c : Course) : Type 0 where
  pub entries : List SpaceEntry
  pub in_order : AreInOrder (traces_of c) (reverse c.order) entries
  pub only : (others : List SpaceEntry) → AreInOrder (traces_of c) (reverse c.order) others → others ≡ entries

abbrev pub EntriesHaveOneOrder : Type 0
EntriesHaveOneOrder = (c : Course) → IsCourse c → HasOneOrder c
