-- How a trace lies in memory: first the entries of adopted parts, a place for each, since they lie
-- in their parts; then a head for each entry that was put at the end, and the posts and notes of
-- these one after another. Those that are kept whole lie apart.
use Rattle.std.specs.Prelude.{◌≡◌, ◌⊎◌, ℕ, ◌+◌, ◌<◌, ◌≤◌, ◌^◌, ◌++◌, List, [], ◌∷◌, length, map, slice_get, slice_range, Option, None, Some, vec_capacity, ⊤}
use Rattle.std.specs.List.{AllByRecursion}
use Rattle.hx_model.specs.Types.{Coordinator, Deliver, Entry, Halt, Input, Note, Post, PostId, Tick}
use Rattle.hx_types.specs.Words.{when_some}
use Rattle.hx_trace.specs.declared.heads.Head.{Head}
use Rattle.hx_trace.specs.declared.heads.InputHead.{InputHead}
use Rattle.hx_trace.specs.declared.heads.InputHead.TheVariants as a_head
use Rattle.hx_trace.specs.declared.lists.Lists.{Lists}
use Rattle.hx_trace.specs.declared.places.EntryPlace.{EntryPlace}
use Rattle.hx_trace.specs.Places.{IsPlaceIn, placed}

-- the delivery of a post
abbrev pub delivery : PostId → Option Post → Input
delivery id None = Tick
delivery id (Some p) = Deliver id p.from p.message

-- the entry that is kept whole, where the head names one
abbrev pub whole_by : List Entry → InputHead → Option Entry
whole_by wholes a_head.Tick = None
whole_by wholes a_head.Halt = None
whole_by wholes (a_head.Sent entry place at) = None
whole_by wholes (a_head.Whole at) = slice_get wholes at

-- what was taken in an entry that isn't kept whole
abbrev pub input_by : List Post → InputHead → Input
input_by posts a_head.Tick = Tick
input_by posts a_head.Halt = Halt
input_by posts (a_head.Sent entry place at) = delivery (record { entry = entry; place = place }) (slice_get posts at)
input_by posts (a_head.Whole at) = Tick

-- where the next head's run begins, or the end of all where there is none
abbrev pub posts_from : ℕ → Option Head → ℕ
posts_from all None = all
posts_from all (Some h) = h.posts

abbrev pub notes_from : ℕ → Option Head → ℕ
notes_from all None = all
notes_from all (Some h) = h.notes

-- the entry of a head, and the next head, whose posts and notes lie in the lists
abbrev pub filed_by : List Post → List Note → Head → Option Head → Entry
filed_by posts notes h next = record {
  actor = h.actor;
  input = input_by posts h.input;
  outputs = slice_range posts h.posts (posts_from (length posts) next);
  notes = slice_range notes h.notes (notes_from (length notes) next);
}

-- the entry of a head, and the next head
abbrev pub entry_by : List Post → List Note → List Entry → Head → Option Head → Entry
entry_by posts notes wholes h next = when_some (whole_by wholes h.input) (filed_by posts notes h next) (λ whole. whole)

-- the entries of heads
abbrev pub entries_by : List Post → List Note → List Entry → List Head → List Entry
entries_by posts notes wholes [] = []
entries_by posts notes wholes (h ∷ hs) = entry_by posts notes wholes h (slice_get hs 0) ∷ entries_by posts notes wholes hs

-- the entries at places in the parts, and then those of heads of the lists
abbrev pub entries_of : Lists → List EntryPlace → List Head → List Entry
entries_of l ps hs = map (placed l.parts.items) ps ++ entries_by l.posts.items l.notes.items l.wholes.items hs

-- the entries of the lists
abbrev pub entries_in : Lists → List Entry
entries_in l = entries_of l l.places.items l.heads.items

-- what the head names lies in the lists
abbrev pub IsInputIn : ℕ → ℕ → InputHead → Type 0
IsInputIn posts wholes a_head.Tick = ⊤
IsInputIn posts wholes a_head.Halt = ⊤
IsInputIn posts wholes (a_head.Sent entry place at) = at < posts
IsInputIn posts wholes (a_head.Whole at) = at < wholes

-- t is what is kept of the input of an entry that isn't kept whole
pub record IsFiledAs (l : Lists) (i : Input) (t : InputHead) : Type 0 where
  pub within : IsInputIn (length l.posts.items) (length l.wholes.items) t
  pub filed : whole_by l.wholes.items t ≡ None
  pub input : input_by l.posts.items t ≡ i

-- a head's runs begin where they end or before, and lie in the lists
pub record IsHeadIn (posts notes wholes : ℕ) (h : Head) (next : Option Head) : Type 0 where
  pub input : IsInputIn posts wholes h.input
  pub posts_order : h.posts ≤ posts_from posts next
  pub posts_within : posts_from posts next ≤ posts
  pub notes_order : h.notes ≤ notes_from notes next
  pub notes_within : notes_from notes next ≤ notes

abbrev pub AreHeadsIn : ℕ → ℕ → ℕ → List Head → Type 0
AreHeadsIn posts notes wholes [] = ⊤
AreHeadsIn posts notes wholes (h ∷ hs) = IsHeadIn posts notes wholes h (slice_get hs 0) × AreHeadsIn posts notes wholes hs

-- each place names an entry of its part, what each head names lies in the lists, and there are few
-- posts and notes
pub record AreIn (l : Lists) (ps : List EntryPlace) (hs : List Head) : Type 0 where
  pub places : AllByRecursion (IsPlaceIn l.parts.items) ps
  pub heads : AreHeadsIn (length l.posts.items) (length l.notes.items) (length l.wholes.items) hs
  pub few_posts : length l.posts.items < 2 ^ 32
  pub few_notes : length l.notes.items < 2 ^ 32

abbrev pub AreWhole : Lists → Type 0
AreWhole l = AreIn l l.places.items l.heads.items

-- the head of an entry that is kept whole, where there are so many posts, notes and such entries before it
abbrev pub kept : ℕ → ℕ → ℕ → Head
kept posts notes wholes = record { actor = Coordinator; input = a_head.Whole wholes; posts = posts; notes = notes }

-- there is room for one entry more that is kept whole
pub record HasWholeRoom (l : Lists) : Type 0 where
  pub heads : length l.heads.items < vec_capacity l.heads
  pub wholes : length l.wholes.items < vec_capacity l.wholes
  pub few_wholes : length l.wholes.items < 2 ^ 32

-- no entry is kept whole, and none was adopted
pub record AreAllFiled (l : Lists) : Type 0 where
  pub places : length l.places.items ≡ 0
  pub wholes : length l.wholes.items ≡ 0

-- there is room for one entry more with p posts and n notes, and for it as a whole where some entry isn't filed
pub record HasRoom (l : Lists) (p n : ℕ) : Type 0 where
  pub heads : length l.heads.items < vec_capacity l.heads
  pub posts : length l.posts.items + p ≤ vec_capacity l.posts
  pub notes : length l.notes.items + n ≤ vec_capacity l.notes
  pub few_entries : length l.places.items + length l.heads.items + 1 < 2 ^ 32
  pub few_posts : length l.posts.items + p < 2 ^ 32
  pub few_notes : length l.notes.items + n < 2 ^ 32
  pub whole : AreAllFiled l ⊎ HasWholeRoom l

-- the items of the lists are the same
pub record IsSame (old new : Lists) : Type 0 where
  pub places : new.places.items ≡ old.places.items
  pub heads : new.heads.items ≡ old.heads.items
  pub posts : new.posts.items ≡ old.posts.items
  pub notes : new.notes.items ≡ old.notes.items
  pub wholes : new.wholes.items ≡ old.wholes.items
  pub parts : new.parts.items ≡ old.parts.items
