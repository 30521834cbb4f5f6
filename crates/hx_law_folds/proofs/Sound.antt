-- Updates of sound messages come after lower versions.
use Rattle.hx_law_folds.proofs.Vocabulary.{[], AllByRecursion, and_parts, Bool, IsAfter, Kept, KeptsAscend, List, map, Message, MessageFits, MessageJoins}
use Rattle.hx_law_folds.proofs.Vocabulary.{text_below, true, Update, ℕ, ◌∷◌, ◌≡◌}
use Rattle.std.specs.Prelude.{IsTrue}
use Rattle.std.specs.List.{list_all}
use Rattle.std.proofs.lemmas.List.Elements.{All-weaker, recursion_from_All}
use Rattle.hx_types.specs.declared.messages.Message.TheVariants as a_message
use Rattle.hx_types.specs.Posts.{Bounds, IsSoundMessage, IsSoundUpdate, has_place_in, keys_ascend}
use Rattle.hx_law_folds.specs.Folding.{HasFloors}

pub sound-fits : (b : Bounds) (m : Message) → IsSoundMessage b m → MessageFits m
sound-fits b (a_message.Update epoch g u) h = h.2.of_space.after
sound-fits b (a_message.Snap epoch g snapshot pending) h =
    recursion_from_All IsAfter pending (All-weaker
    (λ (u : Update). IsSoundUpdate b u × IsTrue (has_place_in g u.places)) IsAfter (λ u k. k.0.of_space.after) pending h.4)
sound-fits b other h = tt

-- keys that pass the test ascend
all-pass : (test : List ℕ → Bool) (ks : List Kept) → list_all test (map (λ (k : Kept). k.key) ks) ≡ true → AllByRecursion (λ (k : Kept). test k.key ≡ true) ks
all-pass test [] e = tt
all-pass test (k ∷ ks) e = let p = and_parts (test k.key) (list_all test (map (λ (x : Kept). x.key) ks)) e in (p.0, all-pass test ks p.1)

pub keys-pass : (ks : List Kept) → keys_ascend (map (λ (k : Kept). k.key) ks) ≡ true → KeptsAscend ks
keys-pass [] e = tt
keys-pass (k ∷ ks) e =
    let p = and_parts (list_all (text_below k.key) (map (λ (x : Kept). x.key) ks)) (keys_ascend (map (λ (x : Kept). x.key) ks)) e in
    (all-pass (text_below k.key) ks p.0, keys-pass ks p.1)

-- a sound message whose snapshot has no floor 0 keeps slots joinable
pub sound-joins : (b : Bounds) (m : Message) → IsSoundMessage b m → HasFloors m → MessageJoins m
sound-joins b (a_message.Update epoch g u) h f = h.2.of_space.after
sound-joins b (a_message.Snap epoch g snapshot pending) h f = (
  f,
  keys-pass snapshot h.3,
  recursion_from_All IsAfter pending
      (All-weaker (λ (u : Update). IsSoundUpdate b u × IsTrue (has_place_in g u.places)) IsAfter
      (λ u k. k.0.of_space.after) pending h.4),
)
sound-joins b other h f = tt
