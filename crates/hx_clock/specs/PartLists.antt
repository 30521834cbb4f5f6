-- How a part lies in memory: a head for each entry, and the posts, the notes and the deliveries of all, one after another.
use Rattle.std.specs.Prelude.{◌≡◌, ℕ, ◌+◌, ◌<◌, ◌≤◌, ◌^◌, List, [], ◌∷◌, length, slice_get, slice_range, Option, None, Some, vec_capacity, ⊤}
use Rattle.hx_types.specs.declared.messages.Post.{Post}
use Rattle.hx_types.specs.declared.traces.Input.{Input}
use Rattle.hx_types.specs.declared.traces.Input.TheVariants.{Tick, Halt, Deliver}
use Rattle.hx_types.specs.declared.traces.Note.{Note}
use Rattle.hx_types.specs.Words.{when_some}
use Rattle.hx_clock.specs.declared.heads.InputHead.{InputHead}
use Rattle.hx_clock.specs.declared.heads.InputHead.TheVariants as a_head
use Rattle.hx_clock.specs.declared.heads.PartHead.{PartHead}
use Rattle.hx_clock.specs.declared.part_lists.PartLists.{PartLists}
use Rattle.hx_clock.specs.declared.parts.Stamped.{Stamped}

-- what was taken
abbrev pub input_by : List Input → InputHead → Input
input_by ds a_head.Tick = Tick
input_by ds a_head.Halt = Halt
input_by ds (a_head.Delivered at) = when_some (slice_get ds at) Tick (λ i. i)

-- the input, if it is a delivery
abbrev pub deliveries_in : Input → List Input
deliveries_in Tick = []
deliveries_in Halt = []
deliveries_in (Deliver id from message) = Deliver id from message ∷ []

-- where the next head's run begins, or the end of all where there is none
abbrev pub posts_from : ℕ → Option PartHead → ℕ
posts_from all None = all
posts_from all (Some h) = h.posts

abbrev pub notes_from : ℕ → Option PartHead → ℕ
notes_from all None = all
notes_from all (Some h) = h.notes

-- the entry of a head, and the next head
abbrev pub entry_by : List Post → List Note → List Input → PartHead → Option PartHead → Stamped
entry_by posts notes ds h next = record {
  stamp = h.stamp;
  entry = record {
    actor = h.actor;
    input = input_by ds h.input;
    outputs = slice_range posts h.posts (posts_from (length posts) next);
    notes = slice_range notes h.notes (notes_from (length notes) next);
  };
}

-- the entries of heads
abbrev pub entries_by : List Post → List Note → List Input → List PartHead → List Stamped
entries_by posts notes ds [] = []
entries_by posts notes ds (h ∷ hs) = entry_by posts notes ds h (slice_get hs 0) ∷ entries_by posts notes ds hs

-- the entries of the lists
abbrev pub entries_in : PartLists → List Stamped
entries_in l = entries_by l.posts.items l.notes.items l.deliveries.items l.heads.items

-- what the head names lies in the list
abbrev pub IsInputIn : ℕ → InputHead → Type 0
IsInputIn deliveries a_head.Tick = ⊤
IsInputIn deliveries a_head.Halt = ⊤
IsInputIn deliveries (a_head.Delivered at) = at < deliveries

-- a head's runs begin where they end or before, and lie in the lists
pub record IsHeadIn (posts notes deliveries : ℕ) (h : PartHead) (next : Option PartHead) : Type 0 where
  pub input : IsInputIn deliveries h.input
  pub posts_order : h.posts ≤ posts_from posts next
  pub posts_within : posts_from posts next ≤ posts
  pub notes_order : h.notes ≤ notes_from notes next
  pub notes_within : notes_from notes next ≤ notes

abbrev pub AreHeadsIn : ℕ → ℕ → ℕ → List PartHead → Type 0
AreHeadsIn posts notes deliveries [] = ⊤
AreHeadsIn posts notes deliveries (h ∷ hs) = IsHeadIn posts notes deliveries h (slice_get hs 0) × AreHeadsIn posts notes deliveries hs

-- what each head names lies in the lists
abbrev pub AreWhole : PartLists → Type 0
AreWhole l = AreHeadsIn (length l.posts.items) (length l.notes.items) (length l.deliveries.items) l.heads.items

-- there is room for one entry more with p posts and n notes
pub record HasRoom (l : PartLists) (p n : ℕ) : Type 0 where
  pub heads : length l.heads.items + 1 ≤ vec_capacity l.heads
  pub posts : length l.posts.items + p ≤ vec_capacity l.posts
  pub notes : length l.notes.items + n ≤ vec_capacity l.notes
  pub deliveries : length l.deliveries.items + 1 ≤ vec_capacity l.deliveries
  pub few_heads : length l.heads.items + 1 < 2 ^ 32
  pub few_posts : length l.posts.items + p < 2 ^ 32
  pub few_notes : length l.notes.items + n < 2 ^ 32
  pub few_deliveries : length l.deliveries.items + 1 < 2 ^ 32

-- the items of the lists are the same
pub record IsSame (old new : PartLists) : Type 0 where
  pub heads : new.heads.items ≡ old.heads.items
  pub posts : new.posts.items ≡ old.posts.items
  pub notes : new.notes.items ≡ old.notes.items
  pub deliveries : new.deliveries.items ≡ old.deliveries.items
