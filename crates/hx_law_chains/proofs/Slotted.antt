-- A step of a server that moves one slot.
use Rattle.std.proofs.Common.{◌≡◌, ℕ, ◌⊎◌, inl, inr, true, false, List, [], length, Some, refl, sym, ap, ◌∙◌, subst, flat_map}
use Rattle.std.proofs.lemmas.Bool.{cases_Bool}
use Rattle.hx_model.specs.Types.{Note, Post, RegionId, Update}
use Rattle.hx_types.specs.Words.{IsIn, same_text}
use Rattle.hx_types.specs.Subspaces.{is_key_region}
use Rattle.hx_model.specs.ServerSteps.{Replica, ServerState, SlotContext, move_posts, replica_of, state_in, with_slot}
use Rattle.hx_model.specs.Slots.{KeyState, Move, moved_all}
use Rattle.hx_model.proofs.Lemmas.{base-moved_all, eq_of_same_text}
use Rattle.hx_law_lemmas.specs.Words.{noted, slot_in}
use Rattle.hx_law_lemmas.proofs.Lemmas.{More, more_same, replica-here, replica-other, slot-found, slot-here, slot-other_key, slot-other_region, state-key}
use Rattle.hx_law_lemmas.proofs.Lemmas.{which-region, with_slot_at}
use Rattle.hx_law_epochs.proofs.Lemmas.{Installed}
use Rattle.hx_law_chains.proofs.Holders.{NoSnap}
use Rattle.hx_law_chains.proofs.Keys.{Below, Moved, below-all}
use Rattle.hx_law_chains.proofs.Moves.{AllAllowed}
use Rattle.hx_law_chains.proofs.Posts.{Seated}
use Rattle.hx_law_chains.proofs.Saying.{MoveOk, moves-fine, moves-nosnap}
use Rattle.hx_law_chains.proofs.Serving.{Acts, Assigns, Posted, QuietActs, Served, Stage, fine-posted, installed-then, itself, live-now, posted-at, quiet-acts}
use Rattle.hx_law_chains.proofs.Serving.{quiet-key, seated-turned, served-by, st, turned, turned-made, turned-still, world}
use Rattle.hx_law_chains.proofs.World.{Lawful, World, around, context}

module _ (stage : Stage) (r : Replica) (found : replica_of r.region stage.replicas ≡ Some r) (installed : r.installed ≡ true) (key : List ℕ) where
  open stage use {scene as e, asked, valid, ordered as o, keys as ok, server as i, up as here, replicas as rs}

  -- the slot
  abbrev pub t : KeyState
  t = state_in e.script.space r key

  -- where it stands
  abbrev pub at : SlotContext
  at = context e.script (world e) r.region i

  -- the replica is installed
  abbrev pub at0 : Installed (st stage) r.region
  at0 = record { replica = r; found = found; installed = installed }

  -- the slot is held
  pub held-now : (world e).holds key r.region i t
  held-now = live-now stage key r.region at0

  module _ (ms : List Move) (notes : List Note) (new : List Post) (nosnap : (p : Post) → IsIn p new → NoSnap p.message)
      (others : (j : List ℕ) → same_text key j ≡ false → noted e.line notes j ≡ e.line j) where
    -- the server's state after
    abbrev q : ServerState
    q = with_slot (st stage) r (moved_all ms t)

    -- the replica after
    abbrev after-it : Replica
    after-it = with_slot_at r (moved_all ms t)

    -- the slot keeps its key
    key-kept : (moved_all ms t).base.key ≡ key
    key-kept = ap (λ b. b.key) (base-moved_all ms t) ∙ state-key (is_key_region e.script.space r.region) key r.states

    -- an installed replica was installed before
    was : (g : RegionId) → Installed q g → Installed (st stage) g
    was g at = elim (which-region r.region g) [
      | inl z ↦ subst (Installed (st stage)) z at0
      | inr d ↦ record { replica = at.replica; found = sym (replica-other g after-it rs d) ∙ at.found; installed = at.installed }
    ]

    -- and stays so
    grows : (g : RegionId) → Installed (st stage) g → Installed q g
    grows g at = elim (which-region r.region g) [
      | inl z ↦ record {
        replica = after-it;
        found = replica-here g after-it rs r z (subst (λ (x : RegionId). replica_of x rs ≡ Some r) z found);
        installed = installed;
      }
      | inr d ↦ record { replica = at.replica; found = replica-other g after-it rs d ∙ at.found; installed = at.installed }
    ]

    -- the slot of an installed replica, as the server's
    slot-as : (x : ServerState) (j : List ℕ) (g : RegionId) (at : Installed x g) → state_in e.script.space at.replica j ≡ slot_in e.script.space g j x
    slot-as x j g at = sym (slot-found e.script.space g j x at.replica at.found)

    -- a slot that stays comes from itself
    stays : (j : List ℕ) (line : List Update) (g : RegionId) (at : Installed q g) → slot_in e.script.space g j q ≡ slot_in e.script.space g j (st stage)
        → Moved e.script (world e) j line g i (state_in e.script.space at.replica j)
    stays j line g at z = subst (Moved e.script (world e) j line g i) (sym (slot-as q j g at ∙ z ∙ sym (slot-as (st stage) j g (was g at))))
        (itself stage j line g (was g at))

    -- other keys stay
    other-key : (j : List ℕ) → same_text key j ≡ false → QuietActs stage q notes new nosnap j
    other-key j f = quiet-key stage q notes new nosnap j (others j f) (λ g at. stays j (e.line j) g at (by g (which-region r.region g)))
      where
        by : (g : RegionId) → (r.region ≡ g) ⊎ (r.region ≡ g → ⊥) → slot_in e.script.space g j q ≡ slot_in e.script.space g j (st stage)
        by g (inl z) = subst (λ (x : RegionId). slot_in e.script.space x j q ≡ slot_in e.script.space x j (st stage)) z
            (slot-other_key e.script.space r.region j (st stage) r (moved_all ms t) found (ap (λ (k : List ℕ). same_text k j) key-kept ∙ f))
        by g (inr d) = slot-other_region e.script.space g j (st stage) r (moved_all ms t) d

    -- the slot after
    slot-after : state_in e.script.space after-it key ≡ moved_all ms t
    slot-after = slot-as q key r.region at-after ∙ slot-here e.script.space r.region key (st stage) r (moved_all ms t) found key-kept
      where
        at-after : Installed q r.region
        at-after = record { replica = after-it; found = replica-here r.region after-it rs r refl found; installed = installed }

    -- it comes from the one before, where the moves may be made
    abbrev MayMove : Type 0
    MayMove = AllAllowed (noted e.line notes key) r.region (around e.script (world e) key r.region i) t ms

    abbrev moved-here : MayMove → Moved e.script (world e) key (noted e.line notes key) r.region i (state_in e.script.space after-it key)
    moved-here allowed = record { old = t; held = held-now; moves = ms; is = slot-after; allowed = allowed }

    -- how the key is kept
    this-key : (n : ℕ) → More n (e.line key) (noted e.line notes key) → Lawful e.script e.known key (noted e.line notes key) → Below e.script (world e) key n
        → MayMove → QuietActs stage q notes new nosnap key
    this-key n more lawful below allowed = record { number = n; more = more; lawful = lawful; below = below; mine = λ g at. by g at (which-region r.region g) }
      where
        by : (g : RegionId) (at : Installed q g) → (r.region ≡ g) ⊎ (r.region ≡ g → ⊥)
            → Moved e.script (world e) key (noted e.line notes key) g i (state_in e.script.space at.replica key)
        by g at (inr d) = stays key (noted e.line notes key) g at (slot-other_region e.script.space g key (st stage) r (moved_all ms t) d)
        by g at (inl z) = subst (λ (x : RegionId). (at : Installed q x)
            → Moved e.script (world e) key (noted e.line notes key) x i ((state_in e.script.space at.replica key))) z
            (λ at. record {
              old = t;
              held = held-now;
              moves = ms;
              is = slot-as q key r.region at ∙ slot-here e.script.space r.region key (st stage) r (moved_all ms t) found key-kept;
              allowed = allowed;
            }) at

    -- how the server acts
    abbrev slot-acts : QuietActs stage q notes new nosnap key → Acts stage q notes new (world e).holds
    slot-acts acts = quiet-acts stage q notes new nosnap refl refl grows (λ g at. o.home g i (installed-then stage g (was g at)))
        (λ j. elim (cases_Bool (same_text key j)) [
          | inl z ↦ subst (QuietActs stage q notes new nosnap) (eq_of_same_text key j z) acts
          | inr f ↦ other-key j f
        ])

  -- ---- what the steps keep

  -- a step that moves the slot, from how the key is kept
  module _ (ms : List Move) (notes : List Note) (others : (j : List ℕ) → same_text key j ≡ false → noted e.line notes j ≡ e.line j) where
    -- what is posted
    abbrev new : List Post
    new = flat_map (move_posts at) ms

    pub moving-served : (n : ℕ) → More n (e.line key) (noted e.line notes key) → Lawful e.script e.known key (noted e.line notes key)
        → Below e.script (world e) key n → AllAllowed (noted e.line notes key) r.region (around e.script (world e) key r.region i) t ms
        → ((noted e.line notes key ≡ e.line key) ⊎ Assigns e asked key (noted e.line notes key))
        → Served e asked i (with_slot (st stage) r (moved_all ms t)) notes new
    moving-served n more lawful below allowed line = served-by stage after notes new (world e).holds acts
        (λ p j. fine-posted e asked i after now p (moves-fine seated after ms made p j))
        (λ j. elim (cases_Bool (same_text key j)) [
          | inl z ↦ subst (λ (y : List ℕ). (noted e.line notes y ≡ e.line y) ⊎ Assigns e asked y (noted e.line notes y)) (eq_of_same_text key j z) line
          | inr f ↦ inl (others j f)
        ])
      where
        after : ServerState
        after = with_slot (st stage) r (moved_all ms t)

        acts : Acts stage after notes new (world e).holds
        acts = slot-acts ms notes new (moves-nosnap at ms) others (this-key ms notes new (moves-nosnap at ms) others n more lawful below allowed)

        now : World
        now = turned stage after notes new (world e).holds acts

        at-after : Installed after r.region
        at-after = record {
          replica = with_slot_at r (moved_all ms t);
          found = replica-here r.region (with_slot_at r (moved_all ms t)) rs r refl found;
          installed = installed;
        }

        seated : Seated
        seated = seated-turned stage after notes new (world e).holds acts r.region at-after

        made : (m : Move) → IsIn m ms → MoveOk seated m
        made = turned-made stage after notes new (world e).holds acts r.region at-after key
            (moved-here ms notes new (moves-nosnap at ms) others allowed)

  -- one that assigns nothing
  pub quiet-served : (ms : List Move) → AllAllowed (e.line key) r.region (around e.script (world e) key r.region i) t ms
      → Served e asked i (with_slot (st stage) r (moved_all ms t)) [] (flat_map (move_posts at) ms)
  quiet-served ms allowed = moving-served ms [] (λ j z. refl) (length (e.line key)) (more_same (e.line key)) (ok key).lawful
      (below-all e.script (world e) key (ok key)) allowed (inl refl)

  -- one that posts alone
  pub posts-served : (new : List Post) → ((p : Post) → IsIn p new → Posted e asked i (with_slot (st stage) r t) (world e) p × NoSnap p.message)
      → Served e asked i (with_slot (st stage) r t) [] new
  posts-served new f = served-by stage after [] new (world e).holds acts
      (λ p j. posted-at e asked i after (world e) (turned stage after [] new (world e).holds acts) p
      (turned-still stage after [] new (world e).holds acts p.from p.to p.message) (f p j).0) (λ j. inl refl)
    where
      after : ServerState
      after = with_slot (st stage) r t

      nosnap : (p : Post) → IsIn p new → NoSnap p.message
      nosnap p j = (f p j).1

      acts : Acts stage after [] new (world e).holds
      acts = slot-acts [] [] new nosnap (λ j z. refl)
          (this-key [] [] new nosnap (λ j z. refl) (length (e.line key)) (more_same (e.line key)) (ok key).lawful
          (below-all e.script (world e) key (ok key)) tt)
