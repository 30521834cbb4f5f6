-- A step of a server: what it keeps of all keys, from how its replicas' slots move and which snapshots it sends.
use Rattle.std.proofs.Common.{◌≡◌, ℕ, ◌-◌, ◌<◌, ◌≤◌, ◌⊎◌, inl, inr, false, List, [], ◌∷◌, ◌++◌, length, Some, refl, sym, ap, ◌∙◌, subst, arith}
use Rattle.std.specs.Prelude.{⊤}
use Rattle.std.proofs.lemmas.Bool.{false≢true}
use Rattle.hx_model.specs.Types.{Actor, Caller, Config, Coordinator, Entry, Epoch, Get, Message, Note, Post, RegionId, Script, Server, ServerId, Session, Term}
use Rattle.hx_model.specs.Types.{Update}
use Rattle.hx_types.specs.declared.messages.Message.TheVariants as a_message
use Rattle.hx_types.specs.Words.{IsIn, post}
use Rattle.hx_types.specs.Fitting.{call_of}
use Rattle.hx_types.specs.Spaces.{IsSpace}
use Rattle.hx_types.specs.Configs.{lists_joining}
use Rattle.hx_model.specs.Lines.{upto}
use Rattle.hx_model.specs.ServerSteps.{Replica, ServerState, if_installed, ready_post, replica_for, state_in}
use Rattle.hx_model.specs.Slots.{KeyState, Move, found_in}
use Rattle.hx_model.specs.Runs.{coordinator_of, server_of}
use Rattle.hx_model.specs.Histories.{line_of}
use Rattle.hx_law_lemmas.proofs.Lemmas.{More, at_session, in-append, more_same}
use Rattle.hx_law_lemmas.specs.Words.{noted, posts_of, standing, view}
use Rattle.hx_law_epochs.specs.Epochs.{order}
use Rattle.hx_law_epochs.proofs.Lemmas.{GrownOut, Installed, IsKnown, Real}
use Rattle.hx_law_chains.proofs.Doubts.{Says}
use Rattle.hx_law_chains.proofs.Holders.{NoSnap, UnderWay, Up, each-server, live-of, live-only, now-listed, seat-of, state-here, under-way, up-before, view-up}
use Rattle.hx_law_chains.proofs.Holders.{with_state_of, world_of}
use Rattle.hx_law_chains.proofs.Keys.{Below, Change, Moved, Turn, below-all, changed, ordered_up, stays_up, turn_promise}
use Rattle.hx_law_chains.proofs.Posts.{Seated}
use Rattle.hx_law_chains.proofs.Renewing.{stays_renewed}
use Rattle.hx_law_chains.proofs.Saying.{Fine, MoveOk, OfWrite, promise-ok}
use Rattle.hx_law_chains.proofs.SlotPosts.{each-one, each-under}
use Rattle.hx_law_chains.proofs.World.{Along, Fixed, KeyOk, Lawful, May, Ordered, Stays, Valid, World, stays-same, stays-then, ways}

-- where all stand before a server's step
pub record Scene : Type 1 where
  pub script : Script
  pub Real : ServerId → Type 0
  pub servers : ServerId → ServerState
  pub config : Config
  pub line : List ℕ → List Update
  pub posts : List Post
  pub known : Config → Type 0

-- where all stand after a trace
abbrev pub scene : Script → List Entry → Scene
scene script t =
    record {
      script = script;
      Real = Real script;
      servers = λ s. server_of script s t;
      config = (coordinator_of script t).config;
      line = λ key. line_of key t;
      posts = posts_of t;
      known = IsKnown script t;
    }

-- the world of it
abbrev pub world : Scene → World
world e = world_of e.script e.Real e.servers e.config e.line e.posts e.known

-- and after a server has made a step
abbrev pub after : Scene → ServerId → ServerState → List Note → List Post → Scene
after e i q notes new = record e { servers = with_state_of e.servers i q; line = noted e.line notes; posts = new ++ e.posts }

-- what a call or an ask that a step delivers says of it
pub record Asked : Type 1 where
  pub call : Caller → Type 0
  pub ask : Actor → Epoch → ℕ → RegionId → List Term → Type 0

-- a reply to a get answers the call that arrives, with at least what is committed along chains;
-- rows are those that an installed replica finds for the ask that arrives; nobody is called
abbrev pub Late : Scene → Asked → ServerId → Actor → Message → Type 0
Late e asked i to (a_message.Reply number version answer) =
    at_session to (λ u. (key : List ℕ) → call_of e.script (record { session = u; number = number }) ≡ Some (Get key)
    → asked.call (record { session = u; number = number }) × ((v : ℕ) → v ≤ length (e.line key) → Along e.script (world e) key v → v ≤ version.0))
Late e asked i to (a_message.Found epoch number g rows) =
    (terms : List Term) × asked.ask to epoch number g terms
    × ((r : Replica) × (if_installed (replica_for (e.servers i) g) ≡ Some r) × (rows ≡ found_in g terms r.states))
Late e asked i to (a_message.Call epoch number op) = ⊥
Late e asked i to other = ⊤

-- an update is assigned: it comes from the call that arrives, with a version above all that is fixed, and stands on the line up to the version before it
pub record Assigns (e : Scene) (asked : Asked) (key : List ℕ) (longer : List Update) : Type 0 where
  pub update : Update
  pub asks : asked.call update.caller
  pub above : (v : ℕ) → Fixed e.script (world e) key v → v < update.version.0
  pub line : longer ≡ update ∷ upto (update.version.0 - 1) (e.line key)

-- what is said of a post of a step: that it is true, late, and tells of doubts as the server's state has them
pub record Posted (e : Scene) (asked : Asked) (i : ServerId) (q : ServerState) (w : World) (p : Post) : Type 0 where
  pub valid : Valid e.script w p.from p.to p.message
  pub late : Late e asked i p.to p.message
  pub says : Says e.script q i p

-- where it is true elsewhere
pub posted-at : (e : Scene) (asked : Asked) (i : ServerId) (q : ServerState) (w w' : World) (p : Post)
    → (Valid e.script w p.from p.to p.message → Valid e.script w' p.from p.to p.message) → Posted e asked i q w p → Posted e asked i q w' p
posted-at e asked i q w w' p f h = record { valid = f h.valid; late = h.late; says = h.says }

-- what is about a write answers no get and no ask
pub write-late : (e : Scene) (asked : Asked) (i : ServerId) (to : Actor) (m : Message) → OfWrite e.script to m → Late e asked i to m
write-late e asked i to (a_message.Reply number v a) = by to
  where
    by : (to : Actor) → OfWrite e.script to (a_message.Reply number v a) → Late e asked i to (a_message.Reply number v a)
    by (Session u) h = λ key get. absurd (false≢true (h (Get key) get))
    by other h = tt
write-late e asked i to (a_message.Found epoch number g rows) = λ h. absurd h
write-late e asked i to (a_message.Call epoch number op) = λ h. absurd h
write-late e asked i to other = λ h. tt

-- so of a post about a write all is said
pub fine-posted : (e : Scene) (asked : Asked) (i : ServerId) (q : ServerState) (w : World) (p : Post) → Fine e.script w i q p → Posted e asked i q w p
fine-posted e asked i q w p f = record { valid = f.valid; late = write-late e asked i p.to p.message f.writes; says = f.says }

-- a post that speaks of no call and of no update
abbrev pub IsSilent : Message → Type 0
IsSilent (a_message.Poll epoch) = ⊤
IsSilent (a_message.Ready epoch g) = ⊤
IsSilent a_message.Gone = ⊤
IsSilent other = ⊥

-- what it says holds, and it is no snapshot
pub silent : (e : Scene) (asked : Asked) (i : ServerId) (q : ServerState) (w : World) (from to : Actor) (m : Message) → IsSilent m
    → Posted e asked i q w (post from to m) × NoSnap m
silent e asked i q w from to (a_message.Poll epoch) h = (record { valid = tt; late = tt; says = tt }, tt)
silent e asked i q w from to (a_message.Ready epoch g) h = (record { valid = tt; late = tt; says = tt }, tt)
silent e asked i q w from to a_message.Gone h = (record { valid = tt; late = tt; says = tt }, tt)
silent e asked i q w from to other h = absurd h

-- that a replica is ready
pub ready-silent : (st : ServerState) (g : RegionId) (p : Post) → IsIn p (ready_post st g) → IsSilent p.message
ready-silent st g =
    let ready = post (Server st.id) Coordinator (a_message.Ready st.config.epoch g) in
    each-under (λ p. IsSilent p.message) (lists_joining st.config g st.id) (ready ∷ []) (each-one (λ p. IsSilent p.message) ready tt)

-- what a step keeps
pub record Served (e : Scene) (asked : Asked) (i : ServerId) (q : ServerState) (notes : List Note) (new : List Post) : Type 0 where
  pub stays : Stays e.script (world e) (world (after e i q notes new))
  pub posts : (p : Post) → IsIn p new → Posted e asked i q (world (after e i q notes new)) p
  pub lines : (key : List ℕ) → (noted e.line notes key ≡ e.line key) ⊎ Assigns e asked key (noted e.line notes key)
  pub same : (key : List ℕ) (v : ℕ) → Fixed e.script (world e) key v → upto v (noted e.line notes key) ≡ upto v (e.line key)

-- a server that hasn't halted, by its parts, where all is kept before its step
pub record Stage : Type 1 where
  pub scene : Scene
  pub asked : Asked
  pub valid : IsSpace scene.script.space
  pub ordered : Ordered (world scene)
  pub keys : (key : List ℕ) → KeyOk scene.script (world scene) key
  pub server : ServerId
  pub up : Up scene.Real scene.servers server
  pub replicas : List Replica
  pub same : scene.servers server ≡ standing (scene.servers server).config server replicas

module _ (stage : Stage) where
  open stage use {scene as e, asked, valid, ordered as o, keys as ok, server as i, up as here, replicas as rs, same}

  -- the server's state
  abbrev pub st : ServerState
  st = standing (e.servers i).config i rs

  -- its own configuration
  pub may-own : May (ways (world e)) i (e.servers i).config
  may-own = record { up = here; known = o.own i; later = omega arith }

  -- out of which the newest has grown
  pub own-grown : GrownOut (e.servers i).config e.config
  own-grown = o.grown (e.servers i).config e.config (o.own i) o.newest (o.last (e.servers i).config (o.own i))

  -- what is installed by its parts is installed, and the other way round
  pub installed-then : (g : RegionId) → Installed st g → Installed (e.servers i) g
  installed-then g h = subst (λ (x : ServerState). Installed x g) (sym same) h

  pub installed-now : (g : RegionId) → Installed (e.servers i) g → Installed st g
  installed-now g h = subst (λ (x : ServerState). Installed x g) same h

  -- an installed replica's slots are holders
  pub live-now : (key : List ℕ) (g : RegionId) (at : Installed st g) → (world e).holds key g i (state_in e.script.space at.replica key)
  live-now key g at = inl (live-of e.script.space e.servers e.config key g i st same refl
      (now-listed e.script e.Real e.servers e.config e.line e.posts e.known o g i here (installed-then g at)) at)

  -- it is a seat
  abbrev pub seated-now : (g : RegionId) (at : Installed st g) → Seated
  seated-now g at = record {
    script = e.script;
    valid = valid;
    world = world e;
    ordered = o;
    keys = ok;
    region = g;
    server = i;
    seat = seat-of e.script e.Real e.servers e.config e.line e.posts e.known o g i st same here at;
  }

  module _ (q : ServerState) (notes : List Note) (new : List Post) where
    -- the servers after
    abbrev pub N : ServerId → ServerState
    N = with_state_of e.servers i q

    -- the snapshots that the step sends
    abbrev pub Sent : List ℕ → RegionId → ServerId → KeyState → Type 0
    Sent = UnderWay e.script.space e.Real N e.config new

    module _ (holds : List ℕ → RegionId → ServerId → KeyState → Type 0) where
      -- where all stand once they are sent, with these holders
      abbrev pub mid : World
      mid = changed (world e) (record { line = e.line; holds = holds; installed = (world e).installed })

      -- how each slot of a key comes to be after the step
      pub record KeyActs (key : List ℕ) : Type 0 where
        pub number : ℕ
        pub more : More number (e.line key) (noted e.line notes key)
        pub lawful : Lawful e.script e.known key (noted e.line notes key)
        pub below : Below e.script mid key number
        pub mine : (g : RegionId) (at : Installed q g) → Moved e.script mid key (noted e.line notes key) g i (state_in e.script.space at.replica key)

      -- the server goes on in its configuration, and what it sends is kept
      pub record Acts : Type 0 where
        pub running : q.halted ≡ false
        pub config : q.config ≡ (e.servers i).config
        pub grows : (g : RegionId) → Installed (e.servers i) g → Installed q g
        pub home : (g : RegionId) → Installed q g → IsIn i (order q.config g)
        pub sends : Stays e.script (world e) mid
        pub old : (key : List ℕ) (g : RegionId) (s : ServerId) (t : KeyState) → (world e).holds key g s t → holds key g s t
        pub sent : (key : List ℕ) (g : RegionId) (s : ServerId) (t : KeyState) → Sent key g s t → holds key g s t
        pub keyed : (key : List ℕ) → KeyActs key

      module _ (acts : Acts) where
        -- the holders after
        abbrev pub change : Change
        change = record { line = noted e.line notes; holds = (world (after e i q notes new)).holds; installed = λ g s. Installed (N s) g }

        -- an installed replica stays so
        kept : (g : RegionId) (s : ServerId) → Installed (e.servers s) g → Installed (N s) g
        kept g = each-server e.servers i q (λ s st. Installed (e.servers s) g → Installed st g) (acts.grows g) (λ s h. h)

        -- each server has the configuration that it had
        config-stays : (s : ServerId) → (N s).config ≡ (e.servers s).config
        config-stays = each-server e.servers i q (λ s st. st.config ≡ (e.servers s).config) acts.config (λ s. refl)

        -- each holder comes from one
        moved : (key : List ℕ) (g : RegionId) (s : ServerId) (t : KeyState) → change.holds key g s t → Moved e.script mid key (noted e.line notes key) g s t
        moved key g s t (inr w) = record { old = t; held = held (in-append new e.posts _ w.posted); moves = []; is = refl; allowed = tt }
          where
            it : Post
            it = post w.from (Server s) (a_message.Snap w.epoch g w.snapshot w.pending)

            held : IsIn it new ⊎ IsIn it e.posts → holds key g s t
            held (inl j) = acts.sent key g s t (under-way e.script.space e.Real N N e.config e.config (new ++ e.posts) new key g s t w
                (λ u. u) (λ l. l) (λ h. h) j)
            held (inr j) = acts.old key g s t (inr (under-way e.script.space e.Real N e.servers e.config e.config (new ++ e.posts) e.posts key g s t w
                (up-before e.Real e.servers i q here s) (λ l. l) (kept g s) j))
        moved key g s t (inl l) = each-server e.servers i q (λ x st. IsIn x (order e.config g) → (at : Installed st g)
            → t ≡ view st (state_in e.script.space at.replica key) → Moved e.script mid key (noted e.line notes key) g x t)
            (λ listed at is. subst (Moved e.script mid key (noted e.line notes key) g i)
            (sym (is ∙ view-up q (state_in e.script.space at.replica key) acts.running)) ((acts.keyed key).mine g at))
            (λ x listed at is. record {
              old = t;
              held = acts.old key g x t (inl (record { listed = listed; at = at; is = is }));
              moves = [];
              is = refl;
              allowed = tt;
            })
            s l.listed l.at l.is

        -- the turn of each key
        turn : (key : List ℕ) → Turn e.script mid change key ((acts.keyed key).number)
        turn key = record { more = (acts.keyed key).more; lawful = (acts.keyed key).lawful; below = (acts.keyed key).below; moved = moved key }

        -- where all stand after, with the configurations that the servers had: new posts are judged there
        abbrev pub turned : World
        turned = changed mid change

        -- an installed replica that is listed is a holder
        seat-after : (key : List ℕ) (g : RegionId) (s : ServerId) → Installed (N s) g → IsIn s (order e.config g) → (t : KeyState) × change.holds key g s t
        seat-after key g s h l = (view (N s) (state_in e.script.space h.replica key), inl (record { listed = l; at = h; is = refl }))

        -- its server's configuration lists it
        home-after : (g : RegionId) (s : ServerId) → Installed (N s) g → IsIn s (order (e.servers s).config g)
        home-after g = each-server e.servers i q (λ s st. Installed st g → IsIn s (order (e.servers s).config g))
            (λ h. subst (λ (c : Config). IsIn i (order c g)) acts.config (acts.home g h)) (o.home g)

        -- what holds there
        pub turned-stays : Stays e.script mid turned
        turned-stays = stays_up e.script mid acts.sends.ordered change kept (λ key. (acts.keyed key).number) acts.sends.keys turn
            (ordered_up mid acts.sends.ordered change home-after seat-after)

        -- each post stays true there
        pub turned-still : (from to : Actor) (m : Message) → Valid e.script (world e) from to m → Valid e.script turned from to m
        turned-still from to m h = turned-stays.valid from to m (acts.sends.valid from to m h)

        -- the server's replica is a seat there
        abbrev pub seated-turned : (g : RegionId) (at : Installed q g) → Seated
        seated-turned g at = record {
          script = e.script;
          valid = valid;
          world = turned;
          ordered = turned-stays.ordered;
          keys = turned-stays.keys;
          region = g;
          server = i;
          seat = record {
            slot = λ key. state_in e.script.space at.replica key;
            held = λ key. inl (live-of e.script.space N e.config key g i q (state-here e.servers i q) acts.running
                (own-grown.stays g i (o.up i here) (subst (λ (c : Config). IsIn i (order c g)) acts.config (acts.home g at))) at);
            only = λ key t h. live-only e.script.space e.Real N e.config (new ++ e.posts) key g i q (state-here e.servers i q) acts.running at t h;
            installed = subst (λ (st : ServerState). Installed st g) (sym (state-here e.servers i q)) at;
            up = here;
          };
        }

        -- a move that was made is known of there
        pub turned-made : (g : RegionId) (at : Installed q g) (key : List ℕ)
            (k : Moved e.script mid key (noted e.line notes key) g i (state_in e.script.space at.replica key)) (m : Move) → IsIn m k.moves
            → MoveOk (seated-turned g at) m
        turned-made g at key k m j = promise-ok (seated-turned g at) key m
            (turn_promise e.script mid acts.sends.ordered change kept key ((acts.keyed key).number) (acts.sends.keys key) (turn key)
            g i (state_in e.script.space at.replica key) k m j)

        -- what is true there is true by the configurations after
        after-stays : Stays e.script turned (world (after e i q notes new))
        after-stays = stays_renewed e.script turned turned-stays.ordered
            (record { own = λ s. (N s).config; up = Up e.Real N; holds = change.holds; installed = change.installed; known = e.known })
            (record {
              more = λ c k. k;
              less = λ c k. k;
              own = λ s. subst e.known (sym (config-stays s)) (o.own s);
              kept = λ g s h. h;
              home = λ g s h. subst (λ (c : Config). IsIn s (order c g)) (sym (config-stays s)) (home-after g s h);
              ups = up-before e.Real e.servers i q here;
              later = λ s. (let z = ap (λ (c : Config). c.epoch.0) (config-stays s) in omega (arith, z));
              from = λ key g s t h. inl (h, config-stays s);
              seat = seat-after;
            }) turned-stays.keys

        -- what the step keeps, where what it posts is true
        pub served-by : ((p : Post) → IsIn p new → Posted e asked i q turned p)
            → ((key : List ℕ) → (noted e.line notes key ≡ e.line key) ⊎ Assigns e asked key (noted e.line notes key)) → Served e asked i q notes new
        served-by f lines = record {
          stays = stays-then e.script (world e) mid (world (after e i q notes new)) acts.sends
              (stays-then e.script mid turned (world (after e i q notes new)) turned-stays after-stays);
          posts = λ p j. posted-at e asked i q turned (world (after e i q notes new)) p (after-stays.valid p.from p.to p.message) (f p j);
          lines = lines;
          same = λ key v f. (acts.keyed key).more.same v ((acts.keyed key).below.fixed v (acts.sends.fixed key v f));
        }

    -- ---- a step that sends no snapshots
    module _ (nosnap : (p : Post) → IsIn p new → NoSnap p.message) where
      -- how a key is kept
      abbrev pub QuietActs : List ℕ → Type 0
      QuietActs = KeyActs (world e).holds

      -- of one whose line and slots stay
      pub quiet-key : (key : List ℕ) → noted e.line notes key ≡ e.line key
          → ((g : RegionId) (at : Installed q g) → Moved e.script (world e) key (e.line key) g i (state_in e.script.space at.replica key)) → QuietActs key
      quiet-key key z mine = record {
        number = length (e.line key);
        more = subst (More (length (e.line key)) (e.line key)) (sym z) (more_same (e.line key));
        lawful = subst (Lawful e.script e.known key) (sym z) (ok key).lawful;
        below = below-all e.script (world e) key (ok key);
        mine = λ g at. subst (λ (l : List Update). Moved e.script (world e) key l g i (state_in e.script.space at.replica key)) (sym z) (mine g at);
      }

      -- how the server acts
      abbrev pub quiet-acts : q.halted ≡ false → q.config ≡ (e.servers i).config → ((g : RegionId) → Installed st g → Installed q g)
          → ((g : RegionId) → Installed q g → IsIn i (order q.config g)) → ((key : List ℕ) → QuietActs key) → Acts (world e).holds
      quiet-acts running config grows home keyed = record {
        running = running;
        config = config;
        grows = λ g h. grows g (installed-now g h);
        home = home;
        sends = stays-same e.script (world e) o ok;
        old = λ key g s t h. h;
        sent = λ key g s t w. absurd (nosnap _ w.posted);
        keyed = keyed;
      }

  -- a slot that stays comes from itself
  abbrev pub itself : (key : List ℕ) (line : List Update) (g : RegionId) (at : Installed st g)
      → Moved e.script (world e) key line g i (state_in e.script.space at.replica key)
  itself key line g at = record { old = state_in e.script.space at.replica key; held = live-now key g at; moves = []; is = refl; allowed = tt }

  -- what a step keeps that posts alone, and no snapshot
  pub saying-served : (new : List Post) → ((p : Post) → IsIn p new → Posted e asked i st (world e) p × NoSnap p.message) → Served e asked i st [] new
  saying-served new f = served-by st [] new (world e).holds acts
      (λ p j. posted-at e asked i st (world e) (turned st [] new (world e).holds acts) p
      (turned-still st [] new (world e).holds acts p.from p.to p.message) (f p j).0) (λ key. inl refl)
    where
      nosnap : (p : Post) → IsIn p new → NoSnap p.message
      nosnap p j = (f p j).1

      acts : Acts st [] new (world e).holds
      acts = quiet-acts st [] new nosnap refl refl (λ g h. h) (λ g h. o.home g i (installed-then g h))
          (λ key. quiet-key st [] new nosnap key refl (itself key (e.line key)))

  -- nothing but posts that speak of no call and of no update
  pub silent-served : (new : List Post) → ((p : Post) → IsIn p new → IsSilent p.message) → Served e asked i st [] new
  silent-served new f = saying-served new (λ p j. silent e asked i st (world e) p.from p.to p.message (f p j))
