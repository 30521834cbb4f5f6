-- Posts one by one: what holds of each that is posted with an update or a move of a slot holds of all.
use Rattle.std.proofs.Common.{◌≡◌, ℕ, inl, inr, Bool, List, [], ◌∷◌, ◌++◌, refl, sym, subst}
use Rattle.std.specs.List.{flat_map}
use Rattle.hx_model.specs.Types.{At, Blocked, End, Hop, Post, Server, ServerId, Update}
use Rattle.hx_types.specs.declared.messages.Message.TheVariants as a_message
use Rattle.hx_types.specs.Words.{IsIn, post, provided}
use Rattle.hx_model.specs.Neighbours.{region_at}
use Rattle.hx_model.specs.ServerSteps.{SlotContext, ack_to, move_posts, next_at, passed_on, prev_at, reply, told_to, update_to}
use Rattle.hx_model.specs.Slots.{Commit, Move, Take}
use Rattle.hx_law_lemmas.proofs.Lemmas.{in-append, in-flat_map, in-provided}

-- ---- lists of posts

module _ (P : Post → Type 0) where
  -- one post
  pub each-one : (p : Post) → P p → (q : Post) → IsIn q (p ∷ []) → P q
  each-one p h q (inl e) = subst P (sym e) h
  each-one p h q (inr i) = absurd i

  -- posts under a condition
  pub each-under : (b : Bool) (ps : List Post) → ((p : Post) → IsIn p ps → P p) → (p : Post) → IsIn p (provided b ps) → P p
  each-under b ps h p i = h p (in-provided b ps p i).1

  -- two lists
  pub each-both : (ps qs : List Post) → ((p : Post) → IsIn p ps → P p) → ((p : Post) → IsIn p qs → P p) → (p : Post) → IsIn p (ps ++ qs) → P p
  each-both ps qs f g p i = elim (in-append ps qs p i) [ inl j ↦ f p j | inr j ↦ g p j ]

-- ---- those of a slot

module _ (at : SlotContext) (P : Post → Type 0) where
  -- an update to the next replica
  pub each-passed : (u : Update) → ((y : ServerId) (n : ℕ) → next_at at u ≡ At y n
      → P (post (Server at.server) (Server y) (a_message.Update at.config.epoch (region_at u.places n) u)))
      → (p : Post) → IsIn p (passed_on at u) → P p
  each-passed u f p = by (next_at at u) refl
    where
      by : (y : Hop) → next_at at u ≡ y → IsIn p (update_to at u y) → P p
      by (At y n) e (inl q) = subst P (sym q) (f y n e)
      by (At y n) e (inr j) = absurd j
      by other e j = absurd j

  -- an acknowledgement to the one before
  pub each-acked : (u : Update) → ((y : ServerId) (n : ℕ) → prev_at at u ≡ At y n
      → P (post (Server at.server) (Server y) (a_message.Ack at.config.epoch (region_at u.places n) at.region u.key u.version)))
      → (p : Post) → IsIn p (ack_to at u (prev_at at u)) → P p
  each-acked u f p = by (prev_at at u) refl
    where
      by : (y : Hop) → prev_at at u ≡ y → IsIn p (ack_to at u y) → P p
      by (At y n) e (inl q) = subst P (sym q) (f y n e)
      by (At y n) e (inr j) = absurd j
      by other e j = absurd j

  -- what is told of a committed update
  pub each-told : (u : Update) → ((y : ServerId) (n : ℕ) → prev_at at u ≡ At y n
      → P (post (Server at.server) (Server y) (a_message.Ack at.config.epoch (region_at u.places n) at.region u.key u.version)))
      → (prev_at at u ≡ End → P (reply at u.caller u.version u.answer)) → (p : Post) → IsIn p (told_to at u (prev_at at u)) → P p
  each-told u f g p = by (prev_at at u) refl
    where
      by : (y : Hop) → prev_at at u ≡ y → IsIn p (told_to at u y) → P p
      by (At y n) e (inl q) = subst P (sym q) (f y n e)
      by (At y n) e (inr j) = absurd j
      by End e (inl q) = subst P (sym q) (g e)
      by End e (inr j) = absurd j
      by (Blocked r) e j = absurd j

  -- what is posted with moves
  pub each-moved : (ms : List Move) → ((u : Update) → IsIn (Take u) ms → (p : Post) → IsIn p (passed_on at u) → P p)
      → ((u : Update) → IsIn (Commit u) ms → (p : Post) → IsIn p (told_to at u (prev_at at u)) → P p) → (p : Post) → IsIn p (flat_map (move_posts at) ms) → P p
  each-moved ms taken told p j = (let r = in-flat_map (move_posts at) ms p j in by r.0 r.1 r.2)
    where
      by : (m : Move) → IsIn m ms → IsIn p (move_posts at m) → P p
      by (Take u) i k = taken u i p k
      by (Commit u) i k = told u i p k
      by other i k = absurd k

  -- what is pending goes to the next replicas
  pub each-pending : (us : List Update) → ((u : Update) → IsIn u us → (p : Post) → IsIn p (passed_on at u) → P p)
      → (p : Post) → IsIn p (flat_map (passed_on at) us) → P p
  each-pending us f p j = (let d = in-flat_map (passed_on at) us p j in f d.0 d.1 p d.2)
