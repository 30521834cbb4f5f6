-- The laws on chains from what every run keeps.
use Rattle.std.proofs.Common.{◌≡◌, ℕ, ◌≤◌, inl, inr, true, List, [], ◌∷◌, Option, None, Some, refl, sym, ap, ◌∙◌, subst, arith}
use Rattle.std.proofs.lemmas.Bool.{cond-false, cond-true, cond_both, false≢true}
use Rattle.hx_model.specs.Types.{Actor, At, Blocked, Config, Coordinator, End, Entry, Epoch, Hop, Kept, Message, RegionId, Script, Server, ServerId, Session}
use Rattle.hx_model.specs.Types.{Update, Version}
use Rattle.hx_types.specs.declared.messages.Message.TheVariants as a_message
use Rattle.hx_types.specs.Words.{IsIn, post}
use Rattle.hx_types.specs.Configs.{members_of}
use Rattle.hx_types.specs.Fitting.{IsScript}
use Rattle.hx_model.specs.Holders.{IsPrefix, snap_state}
use Rattle.hx_model.specs.Histories.{line_of}
use Rattle.hx_model.specs.Neighbours.{next_of, place_number, prev_of, region_at}
use Rattle.hx_model.specs.Causes.{config_of}
use Rattle.hx_model.specs.Runs.{IsRun, coordinator_of, server_of}
use Rattle.hx_model.specs.ServerSteps.{Replica, if_installed, next_at, replica_of, state_in}
use Rattle.hx_model.specs.Slots.{Forget, KeyState, has_place, moved, top_of}
use Rattle.hx_law_lemmas.specs.Words.{posts_of, view}
use Rattle.hx_law_lemmas.proofs.Lemmas.{in-listed, listed-in}
use Rattle.hx_law_epochs.specs.Epochs.{order}
use Rattle.hx_law_epochs.proofs.Lemmas.{Installed, IsKnown, NoLater, PrecedesInChain, Real, Says, SendsSnapshot, epochs-run, found-installed, installed-is}
use Rattle.hx_law_epochs.proofs.Lemmas.{placed-number}
use Rattle.hx_law_chains.specs.Chains.{AcceptedAt, AcceptedBefore, AckStands, AcknowledgedStands, AreAssigned}
use Rattle.hx_law_chains.specs.Chains.{CommittedAfter, CommittedAt, ComesNext, EarlyStands}
use Rattle.hx_law_chains.specs.Chains.{GoesOnInstalled, InOrder, IsComing, IsHeld, IsSentFrom, IsStanding, IsUp, MayHave, MayHearAck, MayHearUpdate, PostStands}
use Rattle.hx_law_chains.specs.Chains.{RunsAnswerCommitted, RunsAssignUpdates, RunsHoldParts, RunsKeepOrder, RunsKeepWhatStands, RunsPostsStand, RunsSendParts}
use Rattle.hx_law_chains.specs.Chains.{SnapStands, StandsEarlier, UpdateStands}
use Rattle.hx_law_chains.proofs.Heard.{heard-at, heard-from}
use Rattle.hx_law_chains.proofs.Holders.{Up, now-listed}
use Rattle.hx_law_chains.proofs.Moves.{Acked, Own, Waiting}
use Rattle.hx_law_chains.proofs.Runs.{chained-run}
use Rattle.hx_law_chains.proofs.Sending.{joiner-next, routed}
use Rattle.hx_law_chains.proofs.Serving.{scene, world}
use Rattle.hx_law_chains.proofs.World.{AckOk, After, Along, Before, Chained, Done, Filled, HearsAck, HearsUpdate, Here}
use Rattle.hx_law_chains.proofs.World.{Lawful, May, Route, Told, UpdateOk, Valid}
use Rattle.hx_law_chains.proofs.World.{World, around, context, ways}

-- where all stand after a trace
abbrev at : Script → List Entry → World
at script t = world (scene script t)

-- a lawful line is assigned so
assigned : (script : Script) (t : List Entry) (key : List ℕ) (us : List Update) → Lawful script (IsKnown script t) key us → AreAssigned script t key us
assigned script t key [] h = tt
assigned script t key (u ∷ us) h = (
  record {
    key_is = h.0.made.key_is;
    version = h.0.made.version;
    op = h.0.op;
    called = h.0.called;
    writes = h.0.writes;
    on_key = h.0.on_key;
    effect = elim h.0.effect [
      | inl e ↦ inl e
      | inr e ↦ inr
          (record { region = e.1.0; config = e.1.1; issued = e.1.2; answer = e.1.3; object = e.0; first = e.1.4 })
    ];
    done = h.0.made.done;
    places = h.0.made.places;
    newer = h.0.newer;
  },
  assigned script t key us h.1,
)

-- each update of a line is assigned so
pub runs_assign_updates : RunsAssignUpdates
runs_assign_updates script valid t run key = assigned script t key (line_of key t) ((chained-run script valid t run).keyed key).lawful

-- a replica that is found and installed
found-there : (o : Option Replica) (r : Replica) → o ≡ Some r → r.installed ≡ true → if_installed o ≡ Some r
found-there None r f h = absurd (cc)
found-there (Some x) r f h = (let q : x ≡ r = cc in cond-true x.installed (Some x) None (ap (λ (y : Replica). y.installed) q ∙ h) ∙ f)

module _ (script : Script) (valid : IsScript script) (t0 : List Entry) (run : IsRun script t0) where
  -- what holds of keys and posts
  abbrev chained : Chained script (at script t0) (posts_of t0)
  chained = chained-run script valid t0 run

  -- where a server's replica is found and installed
  abbrev installed-at : (g : RegionId) (s : ServerId) (r : Replica) → if_installed (replica_of g (server_of script s t0).replicas) ≡ Some r
      → Installed (server_of script s t0) g
  installed-at g s r e = (let n = installed-is (replica_of g (server_of script s t0).replicas) r e in record { replica = r; found = n.0; installed = n.1 })

  -- the newest configuration lists a replica that stands
  standing-listed : (g : RegionId) (s : ServerId) (r : Replica) → IsStanding script t0 g s r → IsIn s (order (coordinator_of script t0).config g)
  standing-listed g s r (inl u) = now-listed script (Real script) (λ y. server_of script y t0) (coordinator_of script t0).config (λ key. line_of key t0)
      (posts_of t0) (IsKnown script t0) chained.ordered g s
      (u.server, u.running) (installed-at g s r u.installed)
  standing-listed g s r (inr l) = listed-in (coordinator_of script t0).config g s l.listed

  -- it is held, as what it is worth
  stands-held : (key : List ℕ) (g : RegionId) (s : ServerId) (r : Replica) → IsStanding script t0 g s r
      → (at script t0).holds key g s (view (server_of script s t0) (state_in script.space r key))
  stands-held key g s r u = inl (record { listed = standing-listed g s r u; at = at-here u; is = is-here u })
    where
      at-here : IsStanding script t0 g s r → Installed (server_of script s t0) g
      at-here (inl k) = installed-at g s r k.installed
      at-here (inr k) = installed-at g s r k.installed

      is-here : (k : IsStanding script t0 g s r) → view (server_of script s t0) (state_in script.space r key) ≡ view (server_of script s t0)
          (state_in script.space (at-here k).replica key)
      is-here (inl k) = refl
      is-here (inr k) = refl

  -- what a slot is worth has its top, floor and content
  worth-top : (s : ServerId) (x : KeyState) → top_of (view (server_of script s t0) x) ≡ top_of x
  worth-top s x = cond_both (server_of script s t0).halted (moved Forget x) x (λ y. top_of y ≡ top_of x) (λ z. refl) (λ z. refl)

  worth-floor : (s : ServerId) (x : KeyState) → (view (server_of script s t0) x).floor ≡ x.floor
  worth-floor s x = cond_both (server_of script s t0).halted (moved Forget x) x (λ y. y.floor ≡ x.floor) (λ z. refl) (λ z. refl)

  worth-part : (s : ServerId) (g : RegionId) (line : List Update) (x : KeyState) → IsPrefix g line (view (server_of script s t0) x) → IsPrefix g line x
  worth-part s g line x = cond_both (server_of script s t0).halted (moved Forget x) x (λ y. IsPrefix g line y → IsPrefix g line x)
      (λ z p. record { list = p.list; object = p.object; marks = p.marks; touches = p.touches; floor = p.floor }) (λ z p. p)

  -- a snapshot under way goes to a member that the newest configuration lists
  coming-listed : (from : Actor) (epoch : Epoch) (g : RegionId) (s : ServerId) (snapshot : List Kept) (pending : List Update)
      → IsIn (post from (Server s) (a_message.Snap epoch g snapshot pending)) (posts_of t0)
      → Up (Real script) (λ y. server_of script y t0) s → IsIn s (order (coordinator_of script t0).config g)
  coming-listed from epoch g s snapshot pending posted up =
      let (d, known, listed) = routed (scene script t0) chained.ordered from s epoch g snapshot pending
      ((epochs-run script valid t0 run).epochs.says _ posted) in
      (chained.ordered.grown d (coordinator_of script t0).config known chained.ordered.newest (chained.ordered.last d known)).stays g s
      (chained.ordered.up s up) listed

  -- it is held
  coming-held : (key : List ℕ) (g : RegionId) (s : ServerId) (t : KeyState) → IsComing script t0 key g s t → (at script t0).holds key g s t
  coming-held key g s t c = inr (record {
    up = (c.server, c.running);
    listed = coming-listed c.from c.epoch g s c.snapshot c.pending c.posted (c.server, c.running);
    empty = λ h. c.empty h.replica (record {
      server = c.server;
      running = c.running;
      installed = found-there
          (replica_of g (server_of script s t0).replicas) h.replica h.found h.installed;
    });
    from = c.from;
    epoch = c.epoch;
    snapshot = c.snapshot;
    pending = c.pending;
    posted = c.posted;
    is = c.is;
  })

  -- replicas hold their part
  hold-parts : (g : RegionId) (s : ServerId) (r : Replica) → IsStanding script t0 g s r → (key : List ℕ)
      → IsPrefix g (line_of key t0) (state_in script.space r key)
  hold-parts g s r u key = worth-part s g (line_of key t0) (state_in script.space r key)
      ((chained.keyed key).own g s (view (server_of script s t0) (state_in script.space r key)) (stands-held key g s r u)).content

  -- what is worth the same: its top and its floor
  record Same (t w : KeyState) : Type 0 where
    pub top : top_of w ≡ top_of t
    pub floor : w.floor ≡ t.floor

  -- what stands for a region at a server is held, or what it is worth
  holds : (key : List ℕ) (g : RegionId) (s : ServerId) (t : KeyState) → IsHeld script t0 key g s t → (w : KeyState) × (at script t0).holds key g s w × Same t w
  holds key g s t (inl (r, up, is)) = (
    view (server_of script s t0) (state_in script.space r key),
    stands-held key g s r up,
    record {
      top = worth-top s (state_in script.space r key) ∙ ap top_of (sym is);
      floor = worth-floor s (state_in script.space r key)
          ∙ ap (λ (x : KeyState). x.floor) (sym is);
    },
  )
  holds key g s t (inr c) = (t, coming-held key g s t c, record { top = refl; floor = refl })

  -- chains are in order
  keep-order : (key : List ℕ) (u : Update) → IsIn u (line_of key t0) → (g h : RegionId) (s x : ServerId) (t y : KeyState) → has_place g u ≡ true
      → has_place h u ≡ true
      → IsHeld script t0 key g s t → IsHeld script t0 key h x y → StandsEarlier (coordinator_of script t0).config u g s h x → InOrder u t y
  keep-order key u i g h s x t y p1 p2 a b e =
      let (w, first, m) = holds key g s t a in
      let (z, second, n) = holds key h x y b in
      let stands : PrecedesInChain (coordinator_of script t0).config u.places g s h x = (placed-number u.places h p2, e) in
      record {
        accepted = λ l. (let p = m.top in let q = n.top in let k = ((chained.keyed key).own h x z second).taken u i p2 (omega (arith, l, q))
            g s w first stands in omega (arith, k, p));
        committed = λ l. (let p = m.floor in let q = n.floor in let k = ((chained.keyed key).own g s w first).freed u i p1 (omega (arith, l, p))
            h x z second stands in omega (arith, k, q));
      }

-- replicas hold their part
pub runs_hold_parts : RunsHoldParts
runs_hold_parts script valid t run = hold-parts script valid t run

-- so do snapshots under way
pub runs_send_parts : RunsSendParts
runs_send_parts script valid t run from epoch g s snapshot pending posted real up empty key =
    (((chained-run script valid t run).keyed key).own g s (snap_state script.space g key snapshot pending)
    (coming-held script valid t run key g s (snap_state script.space g key snapshot pending)
    (record {
      from = from;
      epoch = epoch;
      snapshot = snapshot;
      pending = pending;
      posted = posted;
      server = real;
      running = up;
      empty = empty;
      is =
          refl;
    }))).content

-- chains are in order
pub runs_keep_order : RunsKeepOrder
runs_keep_order script valid t run = keep-order script valid t run

-- answers rest on what is committed
pub runs_answer_committed : RunsAnswerCommitted
runs_answer_committed script valid t run from c v answer posted op key called on_key sure u i l g s x p held =
    by ((chained-run script valid t run).valid (post from (Session c.session) (a_message.Reply c.number v answer)) posted op key called on_key)
  where
    floor : Along script (at script t) key v.0 → u.version.0 ≤ x.floor
    floor a = (let (w, h, m) = holds script valid t run key g s x held in let k = a u i l g s w h p in let z = m.floor in omega (arith, k, z))

    by : Told script (at script t) key c v answer op → u.version.0 ≤ x.floor
    by (inl h) = absurd (false≢true (sym sure ∙ h.1))
    by (inr (inl h)) = floor h.2
    by (inr (inr h)) = floor h.3

-- ---- what replicas keep for later, and what is under way

module _ (script : Script) (valid : IsScript script) (t0 : List Entry) (run : IsRun script t0) where
  -- what holds of keys and posts
  abbrev all : Chained script (at script t0) (posts_of t0)
  all = chained-run script valid t0 run

  -- what all before a position have accepted
  accepted-before : (key : List ℕ) (g : RegionId) (s : ServerId) (u : Update) → has_place g u ≡ true → Before script (at script t0) key g s u
      → AcceptedBefore script t0 key g s u
  accepted-before key g s u placed b h x t p held e =
      let (w, holder, same) = holds script valid t0 run key h x t held in
      let a = b h x w holder (placed-number u.places g placed, e) in
      let z = same.top in
      omega (arith, a, z)

  -- what all after it have committed
  committed-after : (key : List ℕ) (g : RegionId) (s : ServerId) (u : Update) → After script (at script t0) key g s u → CommittedAfter script t0 key g s u
  committed-after key g s u b h x t p held e =
      let (w, holder, same) = holds script valid t0 run key h x t held in
      let a = b h x w holder (placed-number u.places h p, e) in
      let z = same.floor in
      omega (arith, a, z)

  -- what is accepted at it
  accepted-at : (key : List ℕ) (g : RegionId) (s : ServerId) (u : Update) → Here script (at script t0) key g s u → AcceptedAt script t0 key g s u
  accepted-at key g s u b t held =
      let (w, holder, same) = holds script valid t0 run key g s t held in
      let a = b w holder in
      let z = same.top in
      omega (arith, a, z)

  -- what is committed at it
  committed-at : (key : List ℕ) (g : RegionId) (s : ServerId) (u : Update) → Done script (at script t0) key g s u → CommittedAt script t0 key g s u
  committed-at key g s u b t held =
      let (w, holder, same) = holds script valid t0 run key g s t held in
      let a = b w holder in
      let z = same.floor in
      omega (arith, a, z)

  -- ---- what a replica keeps

  -- what a slot of a server that hasn't halted relies on
  own-of : (g : RegionId) (s : ServerId) (r : Replica) → IsUp script t0 g s r → (key : List ℕ)
      → Own (line_of key t0) g (around script (at script t0) key g s) (state_in script.space r key)
  own-of g s r u key = subst (Own (line_of key t0) g (around script (at script t0) key g s))
      (cond-false (server_of script s t0).halted (moved Forget (state_in script.space r key)) (state_in script.space r key) u.running)
      ((all.keyed key).own g s (view (server_of script s t0) (state_in script.space r key)) (stands-held script valid t0 run key g s r (inl u)))

  -- an early update
  early-stands : (key : List ℕ) (g : RegionId) (s : ServerId) (u : Update) → Waiting (line_of key t0) g (around script (at script t0) key g s) u
      → EarlyStands script t0 key g s u
  early-stands key g s u w = record { stands = w.stands; placed = w.placed; accepted = accepted-before key g s u w.placed w.before; follows = w.waits }

  -- the chain goes on at an installed replica
  goes-on : (key : List ℕ) (u : Update) (hop : Hop) → Filled script (at script t0) key u hop → GoesOnInstalled script t0 u.places hop
  goes-on key u (At x n) f = found-installed (server_of script x t0) (region_at u.places n) f
  goes-on key u End f = tt
  goes-on key u (Blocked g) f = f

  -- an acknowledged version
  acknowledged-stands : (key : List ℕ) (g : RegionId) (s : ServerId) (t : KeyState) (v : ℕ)
      → Acked (line_of key t0) g (around script (at script t0) key g s) (top_of t) v → AcknowledgedStands script t0 key g s t v
  acknowledged-stands key g s t v k = record {
    update = k.update;
    stands = k.stands;
    version = k.version;
    placed = k.placed;
    here = k.low;
    accepted = accepted-before key g s k.update k.placed k.before;
    committed = committed-after key g s k.update k.after;
    next = goes-on key k.update (next_at (context script (at script t0) g s) k.update) k.closed;
  }

  -- ---- who sends

  -- the sender
  abbrev sent-from : (x : ServerId) (epoch : Epoch) (g : RegionId) → Installed (server_of script x t0) g
      → NoLater (coordinator_of script t0).config (server_of script x t0) epoch → IsSentFrom script t0 (Server x) epoch g
  sent-from x epoch g h k = record { server = x; from_is = refl; installed = found-installed (server_of script x t0) g h; no_later = k.0 }

  -- the receiver came after it
  comes-next : (x : ServerId) (g : RegionId) (s : ServerId) (u : Update) (route : Route (IsKnown script t0) x g s u)
      → ComesNext script t0 u route.region x g s
  comes-next x g s u route = record {
    config = route.config;
    issued = route.known;
    first = in-listed route.config route.region x route.first_in;
    second = in-listed route.config g s route.second_in;
    next = route.next;
  }

  -- ---- who may hear

  -- what the server has or may come to have
  may : (s : ServerId) (c : Config) → MayHave script t0 s c → May (ways (at script t0)) s c
  may s c m = record { up = (m.server, m.running); known = m.issued; later = m.later }

  -- an update may be heard
  hears-it : (x : ServerId) (g : RegionId) (s : ServerId) (u : Update) → MayHearUpdate script t0 (Server x) g s u
      → HearsUpdate (ways (at script t0)) x g s u
  hears-it x g s u m =
      let (y, place, from_is, hop_is) = heard-from (Server x) (prev_of m.config u.places (place_number g u.places) s) m.heard in
      let q : x ≡ y = (let e = from_is in cc) in
      record {
        config = m.config;
        may = may s m.config m.may;
        listed = listed-in m.config g s m.listed;
        place = place;
        at = hop_is
            ∙ ap (λ (z : ServerId). At z place) (sym q);
      }

  -- and an acknowledgement
  hears-back : (x : ServerId) (by g : RegionId) (s : ServerId) (u : Update) → MayHearAck script t0 (Server x) by g s u
      → HearsAck (ways (at script t0)) x by g s u
  hears-back x by g s u m =
      let (y, place, from_is, hop_is, region) = heard-at u.places by (Server x) (next_of m.config u.places (place_number g u.places) s) m.heard in
      let q : x ≡ y = (let e = from_is in cc) in
      record {
        config = m.config;
        may = may s m.config m.may;
        listed = listed-in m.config g s m.listed;
        place = place;
        at = hop_is
            ∙ ap (λ (z : ServerId). At z place) (sym q);
        region = region;
      }

  -- ---- posts

  -- an update under way
  update-stands : (x : ServerId) (epoch : Epoch) (g : RegionId) (s : ServerId) (u : Update) → UpdateOk script (at script t0) u.key x g s u
      → NoLater (coordinator_of script t0).config (server_of script x t0) epoch → UpdateStands script t0 (Server x) epoch g s u
  update-stands x epoch g s u ok k = record {
    region = ok.route.region;
    sent = sent-from x epoch ok.route.region ok.from k;
    sender_placed = ok.route.sender_placed;
    placed = ok.route.placed;
    route = comes-next x g s u ok.route;
    assigned = λ l. (ok.accepted (listed-in (coordinator_of script t0).config ok.route.region x l)).0;
    kept = λ l. accepted-at u.key ok.route.region x u (ok.accepted (listed-in (coordinator_of script t0).config ok.route.region x l)).1;
    stands = λ m. (ok.heard (hears-it x g s u m)).stands;
    listed = λ m. in-listed (coordinator_of script t0).config g s (ok.heard (hears-it x g s u m)).listed;
    accepted = λ m. accepted-before u.key g s u ok.route.placed (ok.heard (hears-it x g s u m)).before;
  }

  -- an acknowledgement under way
  ack-stands : (x : ServerId) (epoch : Epoch) (by g : RegionId) (s : ServerId) (key : List ℕ) (v : Version)
      → AckOk script (at script t0) key x by g s v.0 → NoLater (coordinator_of script t0).config (server_of script x t0) epoch
      → AckStands script t0 (Server x) epoch by g s key v
  ack-stands x epoch by g s key v ok k =
      let n = ok.version in
      record {
        update = ok.update;
        stands = ok.stands;
        version = λ j. record { 0 = n j };
        sent = sent-from x epoch by ok.from k;
        sender_placed = ok.sender_placed;
        placed = ok.placed;
        accepted = λ h y p. accepted-at key h y ok.update (λ t holder. ok.everywhere h y t holder p);
        done = λ l. committed-at key by x ok.update (ok.committed (listed-in (coordinator_of script t0).config by x l));
        listed = λ m. in-listed (coordinator_of script t0).config g s (ok.heard (hears-back x by g s ok.update m)).0;
        committed = λ m. committed-after key g s ok.update (ok.heard (hears-back x by g s ok.update m)).1;
      }

  -- a snapshot under way
  snap-stands : (x : ServerId) (epoch : Epoch) (g : RegionId) (s : ServerId) (snapshot : List Kept) (pending : List Update)
      → IsIn (post (Server x) (Server s) (a_message.Snap epoch g snapshot pending)) (posts_of t0)
      → NoLater (coordinator_of script t0).config (server_of script x t0) epoch
      → SendsSnapshot (IsKnown script t0) (server_of script x t0) epoch g x s
      → SnapStands script t0 (Server x) epoch g s snapshot pending
  snap-stands x epoch g s snapshot pending posted k sends = record {
    sent = sent-from x epoch g sends.installed k;
    config = sends.config;
    issued = ap (λ (e : Epoch). config_of script e t0) (sym sends.epoch_is) ∙ sends.known;
    joiner = sends.sender;
    next = joiner-next x s (members_of sends.config g) (all.ordered.differ sends.config sends.known g) sends.sender;
    listed = λ real up. in-listed (coordinator_of script t0).config g s
        (coming-listed script valid t0 run (Server x) epoch g s snapshot pending posted (real, up));
    holds = runs_send_parts script valid t0 run (Server x) epoch g s snapshot pending posted;
  }

  -- each post
  post-stands : (from : Actor) (s : ServerId) (m : Message) → IsIn (post from (Server s) m) (posts_of t0) → Valid script (at script t0) from (Server s) m
      → Says (λ y. server_of script y t0) (IsKnown script t0) (coordinator_of script t0).config from (Server s) m → PostStands script t0 from s m
  post-stands from s (a_message.Update epoch g u) = by from
    where
      by : (from : Actor) → IsIn (post from (Server s) (a_message.Update epoch g u)) (posts_of t0)
          → Valid script (at script t0) from (Server s) (a_message.Update epoch g u)
          → Says (λ y. server_of script y t0) (IsKnown script t0) (coordinator_of script t0).config from (Server s) (a_message.Update epoch g u)
          → UpdateStands script t0 from epoch g s u
      by (Server x) i h k = update-stands x epoch g s u h k
      by Coordinator i h k = absurd k
      by (Session y) i h k = absurd k
  post-stands from s (a_message.Ack epoch g region key version) = by from
    where
      by : (from : Actor) → IsIn (post from (Server s) (a_message.Ack epoch g region key version)) (posts_of t0)
          → Valid script (at script t0) from (Server s) (a_message.Ack epoch g region key version)
          → Says (λ y. server_of script y t0) (IsKnown script t0) (coordinator_of script t0).config from (Server s)
          (a_message.Ack epoch g region key version) → AckStands script t0 from epoch region g s key version
      by (Server x) i h k = ack-stands x epoch region g s key version h k
      by Coordinator i h k = absurd k
      by (Session y) i h k = absurd k
  post-stands from s (a_message.Snap epoch g snapshot pending) = by from
    where
      by : (from : Actor) → IsIn (post from (Server s) (a_message.Snap epoch g snapshot pending)) (posts_of t0)
          → Valid script (at script t0) from (Server s) (a_message.Snap epoch g snapshot pending)
          → Says (λ y. server_of script y t0) (IsKnown script t0) (coordinator_of script t0).config from (Server s)
          (a_message.Snap epoch g snapshot pending) → SnapStands script t0 from epoch g s snapshot pending
      by (Server x) i h k = snap-stands x epoch g s snapshot pending i k.0 k.1
      by Coordinator i h k = absurd k
      by (Session y) i h k = absurd k
  post-stands from s other = λ i h k. tt

-- what replicas keep for later stands
pub runs_keep_what_stands : RunsKeepWhatStands
runs_keep_what_stands script valid t run g s r up key =
    let own = own-of script valid t run g s r up key in (
      λ u i. early-stands script valid t run key g s u (own.early u i),
      λ v i. acknowledged-stands script valid t run key g s (state_in script.space r key) v (own.acked v i),
    )

-- all updates, acknowledgements and snapshots under way stand so
pub runs_posts_stand : RunsPostsStand
runs_posts_stand script valid t run from s m i =
    post-stands script valid t run from s m i ((chained-run script valid t run).valid (post from (Server s) m) i)
    ((epochs-run script valid t run).epochs.says (post from (Server s) m) i)
