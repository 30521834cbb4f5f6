-- What is kept of a key when its holders move.
use Rattle.std.proofs.Common.{◌≡◌, ℕ, ◌≤◌, ◌⊎◌, inl, inr, true, List, length, Option, None, Some, refl, sym, ap, ◌∙◌, subst, arith}
use Rattle.std.proofs.lemmas.Bool.{cases_eq}
use Rattle.hx_model.specs.Types.{Actor, Answer, Caller, Config, Message, Op, RegionId, Script, ServerId, Update, Version}
use Rattle.hx_types.specs.declared.messages.Message.TheVariants as a_message
use Rattle.hx_types.specs.Words.{IsBefore, IsIn}
use Rattle.hx_types.specs.Configs.{head_of, members_of}
use Rattle.hx_types.specs.Spaces.{IsSpace}
use Rattle.hx_model.specs.Lines.{line_object}
use Rattle.hx_model.specs.Neighbours.{member_before, place_number, region_at}
use Rattle.hx_model.specs.Regions.{key_region}
use Rattle.hx_model.specs.ServerSteps.{get_answer}
use Rattle.hx_model.specs.Slots.{Acknowledge, Commit, Forget, Hold, KeyState, Move, Take, has_place, moved_all, top_of}
use Rattle.hx_law_lemmas.proofs.Lemmas.{Differ, More, after-before, after-order, at_server, at_server-map, at_session-map, first-listed}
use Rattle.hx_law_lemmas.proofs.Lemmas.{following-line as follows-line, head-nobody, head-order, in-listed, more_same, numbered-within as in-below, only}
use Rattle.hx_law_lemmas.proofs.Lemmas.{passes-key, places-apart, version-there}
use Rattle.hx_law_epochs.proofs.Lemmas.{GrownOut, leader-stands, placed-number}
use Rattle.hx_law_epochs.specs.Epochs.{order}
use Rattle.hx_law_chains.proofs.Hops.{Hops, prev-hops}
use Rattle.hx_law_chains.proofs.Moves.{AllAllowed, Kept, Later, Lined, Own, Promise, Waiting, kept_same, later-all, own_rely, promised}
use Rattle.hx_law_chains.proofs.Places.{key-first}
use Rattle.hx_law_chains.proofs.World.{AckOk, Ahead, Along, Comes, Everywhere, Fixed, HearsUpdate, KeyOk, Lawful, Ordered, ReplyOk, Sending, Stays, Told}
use Rattle.hx_law_chains.proofs.World.{UpdateOk, Valid, World, after-stays, along-stays, around, before-stays, done-stays, everywhere-stays, filled-stays}
use Rattle.hx_law_chains.proofs.World.{fixed-stays, here-stays, law-of, lawful-made, lawful-numbered, lawful-sorted, ways}

-- no version is above the line's length
pub low-in : (script : Script) (w : World) (key : List ℕ) (line : List Update) → Lawful script w.known key line → (u : Update) → IsIn u line
    → u.version.0 ≤ length line
low-in script w key line lawful u i = (in-below line u (lawful-numbered script w.known key line lawful) i).1

-- a lawful line is sorted, and each of its updates follows at its regions
pub lined : (script : Script) (w : World) (key : List ℕ) (line : List Update) → Lawful script w.known key line → (g : RegionId) → Lined line g
lined script w key line lawful g = record {
  sorted = lawful-sorted script w.known key line lawful;
  low = low-in script w key line lawful;
  following = follows-line script.space key line (lawful-made script w.known key line lawful) g;
}

-- nothing that is held, may be heard, was acknowledged or is fixed is above n
pub record Below (script : Script) (w : World) (key : List ℕ) (n : ℕ) : Type 0 where
  pub held : (g : RegionId) (s : ServerId) (t : KeyState) → w.holds key g s t → top_of t ≤ n
  pub early : (g : RegionId) (s : ServerId) (u : Update) → IsIn s (order w.config g) → Waiting (w.line key) g (around script w key g s) u → u.version.0 ≤ n
  pub sent : (x : ServerId) (g : RegionId) (s : ServerId) (u : Update) → has_place g u ≡ true → HearsUpdate (ways w) x g s u → Sending script w key g s u
      → u.version.0 ≤ n
  pub acked : (u : Update) → IsIn u (w.line key) → Everywhere script w key u → u.version.0 ≤ n
  pub fixed : (v : ℕ) → Fixed script w key v → v ≤ n

-- nothing is above the line's length
pub below-all : (script : Script) (w : World) (key : List ℕ) → KeyOk script w key → Below script w key (length (w.line key))
below-all script w key ok = record {
  held = λ g s t h. (ok.own g s t h).top_line;
  early = λ g s u l h. low-in script w key (w.line key) ok.lawful u h.stands;
  sent = λ x g s u p y h. low-in script w key (w.line key) ok.lawful u h.stands;
  acked = λ u j h. low-in script w key (w.line key) ok.lawful u j;
  fixed = λ v h. h.0;
}

-- who is the first member of a region by its own configuration is so by each later one that lists it
pub still-head : (c n : Config) → GrownOut c n → (g : RegionId) (i : ServerId) → Differ (members_of c g) → Differ (members_of n g) → head_of c g ≡ Some i
    → IsIn i (order c g) → IsIn i (order n g) → head_of n g ≡ Some i
still-head c n grown g i dc dn head ic il = first-listed n g i (in-listed n g i il) (none (member_before None i (members_of n g)) refl)
  where
    none : (p : Option ServerId) → member_before None i (members_of n g) ≡ p → member_before None i (members_of n g) ≡ None
    none None e = e
    none (Some x) e = absurd (head-nobody c g i x dc head
        (grown.same_order g x i ic (after-order x i (members_of n g) dn (after-before i x (members_of n g) dn e)).0))

-- an update comes to a leader from nobody
pub not-to-lead : (script : Script) (valid : IsSpace script.space) (w : World) (o : Ordered w) (key : List ℕ) → KeyOk script w key → (i : ServerId)
    → head_of (w.own i) (key_region script.space key) ≡ Some i → (x : ServerId) (u : Update) → IsIn u (w.line key)
    → HearsUpdate (ways w) x (key_region script.space key) i u → ⊥
not-to-lead script valid w o key ok i own_lead x u j y =
    let law = law-of script w.known key (w.line key) u ok.lawful j in
    let l = placed-number u.places g (passes-key script.space key law.0 u law.1.made) in
    let apart = places-apart script.space valid key (w.line key) (lawful-made script w.known key (w.line key) ok.lawful) u j in
    by (key-first script.space key law.0 u law.1.made) (prev-hops y.config u.places apart dc g l i y.listed x y.place y.at)
  where
    g : RegionId
    g = key_region script.space key

    dc : (r : RegionId) → Differ (members_of y.config r)
    dc = o.differ y.config y.may.known

    by : place_number g u.places ≡ 0 → Hops y.config u.places (region_at u.places y.place) x g i → ⊥
    by z (inr a) = let b = a.up in omega (arith, z, b)
    by z (inl a) =
        let f : IsBefore x i (order y.config g) = subst (λ (r : RegionId). IsBefore x i (order y.config r)) (sym a.same)
        (after-order x i (members_of y.config (region_at u.places y.place)) (dc (region_at u.places y.place)) a.after).0 in
        head-nobody (w.own i) g i x (o.differ (w.own i) (o.own i) g) own_lead
        ((o.grown (w.own i) y.config (o.own i) y.may.known y.may.later).same_order g x i (head-order (w.own i) g i own_lead).0 f)

-- nothing is above the top of a leader: an update comes to it from nobody
pub below-lead : (script : Script) (valid : IsSpace script.space) (w : World) (o : Ordered w) (key : List ℕ) → KeyOk script w key
    → (i : ServerId) (t : KeyState) → w.up i → w.holds key (key_region script.space key) i t
    → ((t2 : KeyState) → w.holds key (key_region script.space key) i t2 → top_of t2 ≤ top_of t) → head_of (w.own i) (key_region script.space key) ≡ Some i
    → Below script w key (top_of t)
below-lead script valid w o key ok i t up holds only own_lead = record {
  held = λ h x t2 k. elim (ok.own h x t2 k).top_is [
    | inl e ↦ omega (arith, e)
    | inr u ↦ (let e = u.3 in elim (stands u.0 u.1 h x u.2 (ok.listed h x t2 k)) [
      | inl q ↦ only t2 (subst (λ (s : ServerId). w.holds key (key_region script.space key) s t2) q.1 (subst (λ (r : RegionId). w.holds key r x t2) q.0 k))
      | inr a ↦ (let b = (ok.own h x t2 k).taken u.0 u.1 u.2 (omega (arith, e)) (key_region script.space key) i t holds a in omega (arith, b, e))
    ])
  ];
  early = λ h x u l k. elim (stands u k.stands h x k.placed l) [
    | inl q ↦ absurd (k.waits q.0 (ap (head_of (w.own x)) q.0 ∙ ap (λ (s : ServerId). head_of (w.own s) (key_region script.space key)) q.1 ∙ own_lead
        ∙ ap Some (sym q.1)))
    | inr a ↦ k.before (key_region script.space key) i t holds a
  ];
  sent = λ x h s u p y k. elim (stands u k.stands h s p k.listed) [
    | inl q ↦ absurd (not-to-lead script valid w o key ok i own_lead x u k.stands
        (subst (λ (z : ServerId). HearsUpdate (ways w) x (key_region script.space key) z u) q.1 (subst (λ (r : RegionId). HearsUpdate (ways w) x r s u) q.0 y)))
    | inr a ↦ k.before (key_region script.space key) i t holds a
  ];
  acked = λ u j h. h (key_region script.space key) i t holds
      (let l = law-of script w.known key (w.line key) u ok.lawful j in passes-key script.space key l.0 u l.1.made);
  fixed = λ v k. k.1 i t holds;
}
  where
    differ : (g : RegionId) → Differ (members_of w.config g)
    differ = o.differ w.config o.newest

    there : IsIn i (order w.config (key_region script.space key))
    there = ok.listed (key_region script.space key) i t holds

    own_there : IsIn i (order (w.own i) (key_region script.space key))
    own_there = (head-order (w.own i) (key_region script.space key) i own_lead).0

    lead : head_of w.config (key_region script.space key) ≡ Some i
    lead = still-head (w.own i) w.config (o.grown (w.own i) w.config (o.own i) o.newest (o.last (w.own i) (o.own i))) (key_region script.space key) i
        (o.differ (w.own i) (o.own i) (key_region script.space key)) (differ (key_region script.space key)) own_lead own_there there

    stands : (u : Update) → IsIn u (w.line key) → (h : RegionId) (x : ServerId) → has_place h u ≡ true → IsIn x (order w.config h)
        → ((h ≡ (key_region script.space key)) × (x ≡ i)) ⊎ Ahead script w key u (key_region script.space key) i h x
    stands u j h x p l =
        let made = (law-of script w.known key (w.line key) u ok.lawful j).1.made in
        let k = placed-number u.places (key_region script.space key)
        (passes-key script.space key (law-of script w.known key (w.line key) u ok.lawful j).0 u made) in
        leader-stands w.config u.places (places-apart script.space valid key (w.line key) (lawful-made script w.known key (w.line key) ok.lawful) u j)
        differ (key_region script.space key) k (key-first script.space key _ u made) i lead h x (placed-number u.places h p) l

-- ---- holders move

-- the lines, the holders and the installed replicas after a step in the same configuration
pub record Change : Type 1 where
  pub line : List ℕ → List Update
  pub holds : List ℕ → RegionId → ServerId → KeyState → Type 0
  pub installed : RegionId → ServerId → Type 0

-- where all stand after it
abbrev pub changed : World → Change → World
changed w ch = record { config = w.config; own = w.own; up = w.up; line = ch.line; holds = ch.holds; installed = ch.installed; known = w.known }

-- a holder that comes from one at the same position by allowed moves
pub record Moved (script : Script) (w : World) (key : List ℕ) (line : List Update) (g : RegionId) (s : ServerId) (t : KeyState) : Type 0 where
  pub old : KeyState
  pub held : w.holds key g s old
  pub moves : List Move
  pub is : t ≡ moved_all moves old
  pub allowed : AllAllowed line g (around script w key g s) old moves

-- the line stays up to n, nothing is above n, and each holder comes from one
pub record Turn (script : Script) (w : World) (ch : Change) (key : List ℕ) (n : ℕ) : Type 0 where
  pub more : More n (w.line key) (ch.line key)
  pub lawful : Lawful script w.known key (ch.line key)
  pub below : Below script w key n
  pub moved : (g : RegionId) (s : ServerId) (t : KeyState) → ch.holds key g s t → Moved script w key (ch.line key) g s t

module _ (script : Script) (w : World) (o : Ordered w) (ch : Change) (kept : (g : RegionId) (s : ServerId) → w.installed g s → ch.installed g s)
    (key : List ℕ) (n : ℕ) (ok : KeyOk script w key) (turn : Turn script w ch key n) where
  -- where all stand after
  abbrev now : World
  now = changed w ch

  -- what an old holder relies on with the line after
  pub own-longer : (g : RegionId) (s : ServerId) (t : KeyState) → w.holds key g s t → Own (ch.line key) g (around script w key g s) t
  own-longer g s t h = own_rely g n (w.line key) (ch.line key) (around script w key g s) (around script w key g s) t turn.more (turn.below.held g s t h)
      (λ u k. turn.below.early g s u (ok.listed g s t h) k)
      (kept_same (around script w key g s)) (ok.own g s t h)

  -- a holder after its moves
  later : (g : RegionId) (s : ServerId) (t : KeyState) (m : Moved script w key (ch.line key) g s t) → Later (ch.line key) g (around script w key g s) m.old t
  later g s t m = subst (Later (ch.line key) g (around script w key g s) m.old) (sym m.is)
      (later-all (ch.line key) g (around script w key g s) (lined script w key (ch.line key) turn.lawful g)
      m.moves m.old (own-longer g s m.old m.held) m.allowed)

  -- where it comes from
  comes : Comes script w now key
  comes = record {
    source = λ g s t k. (let m = turn.moved g s t k in
        let l = later g s t m in
        record { old = m.old; held = m.held; top = l.top_up; floor = l.floor_up });
    stood = λ u g s h x i a. a;
    listed = ok.listed;
  }

  -- so all that is said at a listed position stays, as an installed replica does
  around_up : (g : RegionId) (s : ServerId) → IsIn s (order w.config g) → Kept (around script w key g s) (around script now key g s)
  around_up g s i = record {
    waits = λ u h. h;
    before = λ u. before-stays script w now key comes g s u i;
    after = after-stays script w now key comes g s;
    closed = λ u. filled-stays script w now key kept u _;
  }

  -- what is committed along chains stays so
  pub along_up : (v : ℕ) → v ≤ n → Along script w key v → Along script now key v
  along_up v l = along-stays script w now key comes v (λ u i q. turn.more.back u i (omega (arith, q, l)))

  -- what is fixed stays so
  pub fixed_up : (v : ℕ) → Fixed script w key v → Fixed script now key v
  fixed_up v f = fixed-stays script w now key comes v (let b = turn.below.fixed v f in let r = turn.more.reach in omega (arith, b, r)) f

  -- an update under way stays true
  update_up : (x : ServerId) (g : RegionId) (s : ServerId) (u : Update) → UpdateOk script w key x g s u → UpdateOk script now key x g s u
  update_up x g s u h = record {
    route = h.route;
    from = kept h.route.region x h.from;
    accepted = λ i. (let a = h.accepted i in
        let seat = o.seat key h.route.region x h.from i in
        let b = a.1 seat.0 seat.1 in
        let c = turn.below.held h.route.region x seat.0 seat.1 in
        (turn.more.keeps u a.0 (omega (arith, b, c)), here-stays script w now key comes h.route.region x u a.1));
    heard = λ y. (let z = h.heard y in
        record {
          stands = turn.more.keeps u z.stands (turn.below.sent x g s u h.route.placed y z);
          listed = z.listed;
          before = before-stays script w now key comes g s u z.listed z.before;
        });
  }

  -- and an acknowledgement
  ack_up : (x : ServerId) (by : RegionId) (g : RegionId) (s : ServerId) (v : ℕ) → AckOk script w key x by g s v → AckOk script now key x by g s v
  ack_up x by g s v h = record {
    update = h.update;
    stands = turn.more.keeps h.update h.stands (turn.below.acked h.update h.stands h.everywhere);
    version = h.version;
    from = kept by x h.from;
    placed = h.placed;
    sender_placed = h.sender_placed;
    everywhere = everywhere-stays script w now key comes h.update h.everywhere;
    committed = λ i. done-stays script w now key comes by x h.update (h.committed i);
    heard = λ y. (let z = h.heard y in (z.0, after-stays script w now key comes g s h.update z.1));
  }

  -- what holds of the key after the moves
  key_after : KeyOk script now key
  key_after = record {
    lawful = turn.lawful;
    listed = λ g s t k. (let m = turn.moved g s t k in ok.listed g s m.old m.held);
    own = λ g s t k. (let m = turn.moved g s t k in let own = (later g s t m).own in
        own_rely g (length (ch.line key)) (ch.line key) (ch.line key) (around script w key g s) (around script now key g s) t (more_same (ch.line key))
        own.top_line
        (λ u j. low-in script w key (ch.line key) turn.lawful u j.stands) (around_up g s (ok.listed g s m.old m.held)) own);
    clear = λ s c m g i none z t k b. (let d = turn.moved g z t k in ok.clear s c m g i none z d.old d.held b);
  }

  -- a move that was made holds its promise
  pub turn_promise : (g : RegionId) (s : ServerId) (t : KeyState) (k : Moved script w key (ch.line key) g s t) (m : Move) → IsIn m k.moves
      → Promise (ch.line key) g (around script now key g s) t m
  turn_promise g s t k m j = promise_up m (subst (λ (x : KeyState). Promise (ch.line key) g (around script w key g s) x m) (sym k.is)
      (promised (ch.line key) g (around script w key g s) (lined script w key (ch.line key) turn.lawful g)
      k.moves k.old (own-longer g s k.old k.held) k.allowed m j))
    where
      i : IsIn s (order w.config g)
      i = ok.listed g s k.old k.held

      promise_up : (m : Move) → Promise (ch.line key) g (around script w key g s) t m → Promise (ch.line key) g (around script now key g s) t m
      promise_up (Take u) h = (h.0, h.1, h.2, before-stays script w now key comes g s u i h.3)
      promise_up (Commit u) h = (h.0, h.1, h.2, before-stays script w now key comes g s u i h.3, h.4, after-stays script w now key comes g s u h.5)
      promise_up (Hold u) h = tt
      promise_up (Acknowledge v) h = tt
      promise_up Forget h = tt

-- a version that is committed along all chains is fixed
pub along-fixed : (script : Script) (w : World) (key : List ℕ) → KeyOk script w key → (v : ℕ) → v ≤ length (w.line key) → Along script w key v
    → Fixed script w key v
along-fixed script w key ok v l a = (l, λ s t h. by s t h (cases_eq v 0))
  where
    by : (s : ServerId) (t : KeyState) → w.holds key (key_region script.space key) s t → (v ≡ 0) ⊎ (v ≡ 0 → ⊥) → v ≤ top_of t
    by s t h (inl e) = omega (arith, e)
    by s t h (inr d) =
        let u = version-there (w.line key) (lawful-numbered script w.known key (w.line key) ok.lawful) v (omega (arith, d)) l in
        let law = law-of script w.known key (w.line key) u.0 ok.lawful u.1 in
        let e = u.2 in
        let c = a u.0 u.1 (omega (arith, e)) (key_region script.space key) s t h (passes-key script.space key law.0 u.0 law.1.made) in
        let f = (ok.own (key_region script.space key) s t h).content.floor in
        omega (arith, c, e, f)

-- what a reply tells stays true where lines stay up to what is fixed
pub told_up : (script : Script) (w w' : World) (key : List ℕ) (n : ℕ) → KeyOk script w key → More n (w.line key) (w'.line key)
    → ((v : ℕ) → Fixed script w key v → v ≤ n) → ((v : ℕ) → v ≤ n → Along script w key v → Along script w' key v)
    → (c : Caller) (v : Version) (a : Answer) (op : Op) → Told script w key c v a op → Told script w' key c v a op
told_up script w w' key n ok more fixed along c v a op (inl h) = inl h
told_up script w w' key n ok more fixed along c v a op (inr (inl h)) =
    let u = h.1 in
    let b = low-in script w key (w.line key) ok.lawful u.0 u.1 in
    let q : u.0.version.0 ≡ v.0 = ap (λ (x : Version). x.0) u.3 in
    let m = fixed v.0 (along-fixed script w key ok v.0 (omega (arith, b, q)) h.2) in
    inr (inl (h.0, (u.0, more.keeps u.0 u.1 (omega (arith, m, q)), u.2, u.3, u.4), along v.0 m h.2))
told_up script w w' key n ok more fixed along c v a op (inr (inr h)) =
    let m = fixed v.0 (along-fixed script w key ok v.0 h.1 h.3) in
    inr (inr (h.0, (let r = more.reach in omega (arith, m, r)), h.2 ∙ ap (λ x. get_answer (line_object x)) (sym (more.same v.0 m)), along v.0 m h.3))

-- each post stays true where updates and acknowledgements under way and replies do
pub valid_up : (script : Script) (w w' : World)
    → ((key : List ℕ) (x : ServerId) (g : RegionId) (s : ServerId) (u : Update) → UpdateOk script w key x g s u → UpdateOk script w' key x g s u)
    → ((key : List ℕ) (x : ServerId) (by : RegionId) (g : RegionId) (s : ServerId) (v : ℕ) → AckOk script w key x by g s v → AckOk script w' key x by g s v)
    → ((key : List ℕ) (c : Caller) (v : Version) (a : Answer) (op : Op) → Told script w key c v a op → Told script w' key c v a op)
    → (from to : Actor) (m : Message) → Valid script w from to m → Valid script w' from to m
valid_up script w w' send ack tell from to (a_message.Call epoch number op) h = h
valid_up script w w' send ack tell from to (a_message.Reply number v a) h = at_session-map to (ReplyOk script w number v a) (ReplyOk script w' number v a)
    (λ s h op key p q. tell key (record { session = s; number = number }) v a op (h op key p q)) h
valid_up script w w' send ack tell from to (a_message.Update e g u) h =
    at_server-map from (λ x. at_server to (λ s. UpdateOk script w u.key x g s u)) (λ x. at_server to (λ s. UpdateOk script w' u.key x g s u))
    (λ x k. at_server-map to (λ s. UpdateOk script w u.key x g s u) (λ s. UpdateOk script w' u.key x g s u) (λ s. send u.key x g s u) k) h
valid_up script w w' send ack tell from to (a_message.Ack e g by key v) h =
    at_server-map from (λ x. at_server to (λ s. AckOk script w key x by g s v.0)) (λ x. at_server to (λ s. AckOk script w' key x by g s v.0))
    (λ x k. at_server-map to (λ s. AckOk script w key x by g s v.0) (λ s. AckOk script w' key x by g s v.0) (λ s. ack key x by g s v.0) k) h
valid_up script w w' send ack tell from to other h = tt

-- configurations stay in order
pub ordered_up : (w : World) → Ordered w → (ch : Change) → ((g : RegionId) (s : ServerId) → ch.installed g s → IsIn s (order (w.own s) g))
    → ((key : List ℕ) (g : RegionId) (s : ServerId) → ch.installed g s → IsIn s (order w.config g) → (t : KeyState) × ch.holds key g s t)
    → Ordered (changed w ch)
ordered_up w o ch home seat = record {
  differ = o.differ;
  listed = o.listed;
  grown = o.grown;
  newest = o.newest;
  last = o.last;
  own = o.own;
  home = home;
  up = o.up;
  seat = seat;
}

-- what is kept of all where each key's holders move
pub stays_up : (script : Script) (w : World) (o : Ordered w) (ch : Change) (kept : (g : RegionId) (s : ServerId) → w.installed g s → ch.installed g s)
    (n : List ℕ → ℕ) (ok : (key : List ℕ) → KeyOk script w key) → ((key : List ℕ) → Turn script w ch key (n key)) → Ordered (changed w ch)
    → Stays script w (changed w ch)
stays_up script w o ch kept n ok turn ordered = record {
  ordered = ordered;
  keys = λ key. key_after script w o ch kept key (n key) (ok key) (turn key);
  valid = valid_up script w (changed w ch)
      (λ key x g s u h. update_up script w o ch kept key (n key) (ok key) (turn key) x g s u h)
      (λ key x by g s v h. ack_up script w o ch kept key (n key) (ok key) (turn key) x by g s v h)
      (λ key. told_up script w (changed w ch) key (n key) (ok key) (turn key).more (turn key).below.fixed
      (λ v l a. along_up script w o ch kept key (n key) (ok key) (turn key) v l a));
  fixed = λ key v f. fixed_up script w o ch kept key (n key) (ok key) (turn key) v f;
}
