-- How entries and the names of the posts that wait are kept.
use Rattle.std.specs.Prelude.{◌≡◌, ℕ, zero, suc, ◌+◌, List, [], ◌∷◌, ◌++◌, length, reverse}
use Rattle.hx_model.specs.Types.{Actor, Entry, Input, Note, Post, PostId, Tick}
use Rattle.hx_model.specs.Runs.{post_named}
use Rattle.hx_model.specs.Schedule.{names_from, without_delivered}
use Rattle.hx_trace.specs.Lists.{delivery}
use Rattle.hx_world.specs.declared.logs.Log.{Log}

-- the names of so many posts of an entry, from this place on
abbrev pub names_counted : ℕ → ℕ → ℕ → List PostId
names_counted entry place zero = []
names_counted entry place (suc count) = record { entry = entry; place = place } ∷ names_counted entry (place + 1) count

-- the names that wait after one more entry, with so many entries before it
abbrev pub names_after : ℕ → Entry → List PostId → List PostId
names_after entries e names = without_delivered e.input names ++ names_from (entries + 1) 0 e.outputs

-- the delivery of a post of the trace, which stands here oldest first
abbrev pub heard : PostId → List Entry → Input
heard id trace = delivery id (post_named id (reverse trace))

-- the entry of that delivery
abbrev pub heard_entry : Actor → PostId → List Entry → List Post → List Note → Entry
heard_entry a id trace posts notes = record { actor = a; input = heard id trace; outputs = posts; notes = notes }

-- the entry of an actor's own turn
abbrev pub ticked_entry : Actor → List Post → List Note → Entry
ticked_entry a posts notes = record { actor = a; input = Tick; outputs = posts; notes = notes }

-- the entry stands last among the entries, and its posts wait
pub record IsFiled (old new : List Entry) (waited waits : List PostId) (e : Entry) : Type 0 where
  pub trace : new ≡ old ++ e ∷ []
  pub waiting : waits ≡ names_after (length old) e waited

-- the entry stands last, and its posts wait
pub record Files (old new : Log) (e : Entry) : Type 0 where
  pub trace : new.trace ≡ old.trace ++ e ∷ []
  pub waiting : new.waiting.items ≡ names_after (length old.trace) e old.waiting.items

-- the same entries, and the same posts wait
pub record IsSameLog (old new : Log) : Type 0 where
  pub trace : new.trace ≡ old.trace
  pub waiting : new.waiting.items ≡ old.waiting.items
