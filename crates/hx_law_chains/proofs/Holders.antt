-- What holds updates of a key after a trace: installed replicas that the newest configuration
-- lists, whether their servers have halted or not, and all snapshots posted to replicas that aren't
-- installed of servers that haven't. What is said of each server where one has another state.
use Rattle.std.proofs.Common.{◌≡◌, ℕ, ◌⊎◌, inl, inr, false, List, Some, refl, sym, ap, ◌∙◌, subst, cond}
use Rattle.std.specs.Prelude.{⊤}
use Rattle.std.proofs.lemmas.Bool.{cond-false, cond-true, eq-eqb, ne_eqb}
use Rattle.hx_model.specs.Types.{Actor, Config, Epoch, Kept, Message, Post, RegionId, Script, Server, ServerId, Space, Update}
use Rattle.hx_types.specs.declared.messages.Message.TheVariants as a_message
use Rattle.hx_types.specs.Words.{IsIn, post, same_server}
use Rattle.hx_model.specs.Holders.{snap_state}
use Rattle.hx_model.specs.ServerSteps.{Replica, ServerState, state_in}
use Rattle.hx_model.specs.Slots.{Forget, KeyState, moved}
use Rattle.hx_law_lemmas.specs.Words.{view}
use Rattle.hx_law_lemmas.proofs.Lemmas.{which-server}
use Rattle.hx_law_epochs.proofs.Lemmas.{Installed}
use Rattle.hx_law_epochs.specs.Epochs.{order}
use Rattle.hx_law_chains.proofs.Posts.{Seat}
use Rattle.hx_law_chains.proofs.World.{Ordered, World}

-- the server is one of the script's, and hasn't halted
abbrev pub Up : (Real : ServerId → Type 0) → (ServerId → ServerState) → ServerId → Type 0
Up Real N s = Real s × ((N s).halted ≡ false)

-- an installed replica that the newest configuration lists, as what it is worth
pub record Live (space : Space) (N : ServerId → ServerState) (c : Config) (key : List ℕ) (g : RegionId) (s : ServerId) (t : KeyState) : Type 0 where
  pub listed : IsIn s (order c g)
  pub at : Installed (N s) g
  pub is : t ≡ view (N s) (state_in space at.replica key)

-- a snapshot that was posted to a server that hasn't halted and whose replica isn't installed
pub record UnderWay (space : Space) (Real : ServerId → Type 0) (N : ServerId → ServerState) (c : Config) (posts : List Post) (key : List ℕ) (g : RegionId)
    (s : ServerId) (t : KeyState) : Type 0 where
  pub up : Up Real N s
  pub listed : IsIn s (order c g)
  pub empty : Installed (N s) g → ⊥
  pub from : Actor
  pub epoch : Epoch
  pub snapshot : List Kept
  pub pending : List Update
  pub posted : IsIn (post from (Server s) (a_message.Snap epoch g snapshot pending)) posts
  pub is : t ≡ snap_state space g key snapshot pending

-- the message is no snapshot
abbrev pub NoSnap : Message → Type 0
NoSnap (a_message.Snap epoch g snapshot pending) = ⊥
NoSnap other = ⊤

-- it is so by other servers, another configuration and other posts that say the same of it
pub under-way : (space : Space) (Real : ServerId → Type 0) (N M : ServerId → ServerState) (c d : Config) (posts others : List Post)
    (key : List ℕ) (g : RegionId) (s : ServerId) (t : KeyState) (w : UnderWay space Real N c posts key g s t)
    → (Up Real N s → Up Real M s) → (IsIn s (order c g) → IsIn s (order d g)) → (Installed (M s) g → Installed (N s) g)
    → IsIn (post w.from (Server s) (a_message.Snap w.epoch g w.snapshot w.pending)) others → UnderWay space Real M d others key g s t
under-way space Real N M c d posts others key g s t w up listed empty posted = record {
  up = up w.up;
  listed = listed w.listed;
  empty = λ h. w.empty (empty h);
  from = w.from;
  epoch = w.epoch;
  snapshot = w.snapshot;
  pending = w.pending;
  posted = posted;
  is = w.is;
}

-- where all stand
abbrev pub world_of : Script → (ServerId → Type 0) → (ServerId → ServerState) → Config → (List ℕ → List Update) → List Post → (Config → Type 0) → World
world_of script Real N c L posts known =
    record {
      config = c;
      own = λ s. (N s).config;
      up = λ s. Up Real N s;
      line = L;
      holds = λ key g s t. Live script.space N c key g s t ⊎ UnderWay script.space Real N c posts key g s t;
      installed = λ g s. Installed (N s) g;
      known = known;
    }

-- the servers after the state of one has become another
abbrev pub with_state_of : (ServerId → ServerState) → ServerId → ServerState → ServerId → ServerState
with_state_of N i q j = cond (same_server i j) q (N j)

-- this one is another
pub state-here : (N : ServerId → ServerState) (i : ServerId) (q : ServerState) → with_state_of N i q i ≡ q
state-here N i q = cond-true (same_server i i) q (N i) (eq-eqb i.0 i.0 refl)

-- the others stay
pub state-off : (N : ServerId → ServerState) (i : ServerId) (q : ServerState) (j : ServerId) → (j ≡ i → ⊥) → with_state_of N i q j ≡ N j
state-off N i q j n = cond-false (same_server i j) q (N j) (ne_eqb i.0 j.0 (λ e. n (λ k. record { 0 = sym e k })))

-- what holds of the one as it is then and of the others as they are holds of each
pub each-server : (N : ServerId → ServerState) (i : ServerId) (q : ServerState) (P : ServerId → ServerState → Type 0) → P i q
    → ((s : ServerId) → P s (N s)) → (s : ServerId) → P s (with_state_of N i q s)
each-server N i q P here off s = elim (which-server s i) [
  | inl z ↦ subst (λ (x : ServerId). P x (with_state_of N i q x)) (sym z) (subst (P i) (sym (state-here N i q)) here)
  | inr n ↦ subst (P s) (sym (state-off N i q s n)) (off s)
]

-- who hasn't halted after one that hadn't has another state hadn't before
pub up-before : (Real : ServerId → Type 0) (N : ServerId → ServerState) (i : ServerId) (q : ServerState) → Up Real N i → (s : ServerId)
    → Up Real (with_state_of N i q) s → Up Real N s
up-before Real N i q here = each-server N i q (λ s st. Real s × (st.halted ≡ false) → Up Real N s) (λ u. here) (λ s u. u)

-- replicas that are found for one region are one
one-replica : (st : ServerState) (g : RegionId) (a b : Installed st g) → a.replica ≡ b.replica
one-replica st g a b = let e : Some a.replica ≡ Some b.replica = sym a.found ∙ b.found in cc

-- what a slot of a server that hasn't halted is worth
pub view-up : (q : ServerState) (t : KeyState) → q.halted ≡ false → view q t ≡ t
view-up q t h = cond-false q.halted (moved Forget t) t h

-- the newest configuration lists an installed replica of a server that hasn't halted
pub now-listed : (script : Script) (Real : ServerId → Type 0) (N : ServerId → ServerState) (c : Config) (L : List ℕ → List Update)
    (posts : List Post) (known : Config → Type 0) → Ordered (world_of script Real N c L posts known)
    → (g : RegionId) (s : ServerId) → Up Real N s → Installed (N s) g → IsIn s (order c g)
now-listed script Real N c L posts known o g s up at =
    (o.grown (N s).config c (o.own s) o.newest (o.last (N s).config (o.own s))).stays g s (o.up s up) (o.home g s at)

-- an installed replica that it lists is live
pub live-of : (space : Space) (N : ServerId → ServerState) (c : Config) (key : List ℕ) (g : RegionId) (i : ServerId) (q : ServerState)
    → N i ≡ q → q.halted ≡ false → IsIn i (order c g) → (at : Installed q g) → Live space N c key g i (state_in space at.replica key)
live-of space N c key g i q e up l at =
    subst (λ (st : ServerState). (at : Installed st g) → st.halted ≡ false → Live space N c key g i (state_in space at.replica key)) e
    (λ at h. record { listed = l; at = at; is = sym (view-up (N i) (state_in space at.replica key) h) }) at up

-- nothing else is held where it is installed
pub live-only : (space : Space) (Real : ServerId → Type 0) (N : ServerId → ServerState) (c : Config) (posts : List Post) (key : List ℕ)
    (g : RegionId) (i : ServerId) (q : ServerState) → N i ≡ q → q.halted ≡ false → (at : Installed q g)
    → (t : KeyState) → Live space N c key g i t ⊎ UnderWay space Real N c posts key g i t → t ≡ state_in space at.replica key
live-only space Real N c posts key g i q e up at t h =
    subst (λ (st : ServerState). (at : Installed st g) → st.halted ≡ false → t ≡ state_in space at.replica key) e
    (λ at u. elim h [
      | inl l ↦ l.is ∙ view-up (N i) (state_in space l.at.replica key) u ∙ ap (λ (r : Replica). state_in space r key) (one-replica (N i) g l.at at)
      | inr w ↦ absurd (w.empty at)
    ]) at up

-- an installed replica of a server that hasn't halted is a seat
abbrev pub seat-of : (script : Script) (Real : ServerId → Type 0) (N : ServerId → ServerState) (c : Config) (L : List ℕ → List Update)
    (posts : List Post) (known : Config → Type 0) → Ordered (world_of script Real N c L posts known)
    → (g : RegionId) (i : ServerId) (q : ServerState) → N i ≡ q → Up Real N i → (at : Installed q g)
    → Seat script (world_of script Real N c L posts known) g i
seat-of script Real N c L posts known o g i q e up at =
    let there = subst (λ (st : ServerState). Installed st g) (sym e) at in
    let running = ap (λ (st : ServerState). st.halted) (sym e) ∙ up.1 in
    record {
      slot = λ key. state_in script.space at.replica key;
      held = λ key. inl (live-of script.space N c key g i q e running (now-listed script Real N c L posts known o g i up there) at);
      only = λ key t h. live-only script.space Real N c posts key g i q e running at t h;
      installed = there;
      up = up;
    }
