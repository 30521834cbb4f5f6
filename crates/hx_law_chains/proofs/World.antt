-- Where all stand: the newest configuration and each server's own, the lines, what holds updates at
-- each position of a region, and what is said of a key's holders and of posts. A post is judged by
-- who may still hear it, in whatever configuration the receiver has or may come to have.
use Rattle.std.proofs.Common.{◌≡◌, ℕ, ◌<◌, ◌≤◌, ◌⊎◌, inl, inr, true, false, List, [], ◌∷◌, length, None, Some, sym, subst, arith}
use Rattle.std.specs.Prelude.{⊤}
use Rattle.std.proofs.lemmas.Bool.{cond_both}
use Rattle.hx_model.specs.Types.{Actor, Answer, At, Blocked, Caller, Config, End, Hop, Message, Op, Post, RegionId, Script, ServerId, SessionId, Space, Update}
use Rattle.hx_model.specs.Types.{Version}
use Rattle.hx_types.specs.declared.calls.Answer.TheVariants as an_answer
use Rattle.hx_types.specs.declared.messages.Message.TheVariants as a_message
use Rattle.hx_types.specs.Words.{IsBefore, IsIn}
use Rattle.hx_types.specs.Effects.{effect_of, is_write, key_of}
use Rattle.hx_types.specs.Configs.{head_of, members_of}
use Rattle.hx_types.specs.Fitting.{call_of, is_doubt}
use Rattle.hx_model.specs.Lines.{line_object, upto}
use Rattle.hx_model.specs.Regions.{key_region}
use Rattle.hx_model.specs.Places.{places_of}
use Rattle.hx_model.specs.Leading.{first_lost}
use Rattle.hx_model.specs.Neighbours.{member_after, next_of, place_number, prev_of, region_at}
use Rattle.hx_model.specs.Slots.{KeyState, has_place, top_of, touches_after}
use Rattle.hx_model.specs.ServerSteps.{SlotContext, get_answer, next_at}
use Rattle.hx_law_lemmas.proofs.Lemmas.{AllMade, Apart, Differ, Made, Numbered, Sorted, at_server, at_session, numbered-sorted}
use Rattle.hx_law_epochs.proofs.Lemmas.{GrownOut, ListsServers, PrecedesInChain}
use Rattle.hx_law_epochs.specs.Epochs.{order}
use Rattle.hx_law_chains.proofs.Hops.{Hops}
use Rattle.hx_law_chains.proofs.Moves.{Around, Own}

-- ---- lines

-- an update is given by the effect of its operation on the object before it, or refused: a known
-- configuration has lost the first place that the effect asks for and that it has lost
abbrev pub Effected : Space → (Config → Type 0) → List ℕ → List Update → Update → Op → Type 0
Effected space known key older u op =
    ((u.answer ≡ (effect_of space (line_object older) op).answer) × (u.object ≡ (effect_of space (line_object older) op).object))
    ⊎ ((u.object ≡ line_object older)
    × ((g : RegionId) × (c : Config) × known c × (u.answer ≡ an_answer.Refused g c.epoch)
    × (first_lost c (places_of space key (line_object older) (effect_of space (line_object older) op).object
    (effect_of space (line_object older) op).changes (length older) (touches_after [] older)) ≡ Some g)))

-- an update of a line after the older ones: placed, the effect of a write of the script or refused, and newer than its session's earlier ones
pub record Law (script : Script) (known : Config → Type 0) (key : List ℕ) (older : List Update) (u : Update) : Type 0 where
  pub made : Made script.space key older u
  pub op : Op
  pub called : call_of script u.caller ≡ Some op
  pub writes : is_write op ≡ true
  pub on_key : key_of op ≡ Some key
  pub effect : Effected script.space known key older u op
  pub newer : (w : Update) → IsIn w older → w.caller.session ≡ u.caller.session → w.caller.number < u.caller.number

-- each update of the line is
abbrev pub Lawful : Script → (Config → Type 0) → List ℕ → List Update → Type 0
Lawful script known key [] = Unit {0}
Lawful script known key (u ∷ us) = Law script known key us u × Lawful script known key us

-- so it is made
pub lawful-made : (script : Script) (known : Config → Type 0) (key : List ℕ) (us : List Update) → Lawful script known key us → AllMade script.space key us
lawful-made script known key [] h = tt
lawful-made script known key (u ∷ us) h = (h.0.made, lawful-made script known key us h.1)

-- and numbered
pub lawful-numbered : (script : Script) (known : Config → Type 0) (key : List ℕ) (us : List Update) → Lawful script known key us → Numbered us
lawful-numbered script known key [] h = tt
lawful-numbered script known key (u ∷ us) h = (h.0.made.version, lawful-numbered script known key us h.1)

-- and sorted
pub lawful-sorted : (script : Script) (known : Config → Type 0) (key : List ℕ) (us : List Update) → Lawful script known key us → Sorted us
lawful-sorted script known key us h = numbered-sorted us (lawful-numbered script known key us h)

-- up to a version it is lawful
pub lawful-upto : (script : Script) (known : Config → Type 0) (key : List ℕ) (n : ℕ) (us : List Update) → Lawful script known key us
    → Lawful script known key (upto n us)
lawful-upto script known key n [] h = tt
lawful-upto script known key n (u ∷ us) h = cond_both (_) (u ∷ us) (upto n us) (Lawful script known key) (λ t. h) (λ t. lawful-upto script known key n us h.1)

-- each update of a lawful line has the law at its own place
pub law-of : (script : Script) (known : Config → Type 0) (key : List ℕ) (line : List Update) (w : Update) → Lawful script known key line → IsIn w line
    → (older : List Update) × Law script known key older w
law-of script known key [] w h i = absurd i
law-of script known key (u ∷ line) w h (inl e) = (line, subst (λ (x : Update). Law script known key line x) (sym e) h.0)
law-of script known key (u ∷ line) w h (inr i) = law-of script known key line w h.1 i

-- it stays so where more configurations are known
pub lawful-known : (script : Script) (known known' : Config → Type 0) (key : List ℕ) (us : List Update) → ((c : Config) → known c → known' c)
    → Lawful script known key us → Lawful script known' key us
lawful-known script known known' key [] f h = tt
lawful-known script known known' key (u ∷ us) f h = (
  record { made = h.0.made; op = h.0.op; called = h.0.called; writes = h.0.writes; on_key = h.0.on_key; effect = by h.0.effect; newer = h.0.newer },
  lawful-known script known known' key us f h.1,
)
  where
    by : Effected script.space known key us u h.0.op → Effected script.space known' key us u h.0.op
    by (inl e) = inl e
    by (inr e) = inr (e.0, (e.1.0, e.1.1, f e.1.1 e.1.2, e.1.3, e.1.4))

-- ---- where all stand

-- the newest configuration, the one that each server has, which servers haven't halted, the lines,
-- what holds updates of a key at a position, which replicas are installed, and which configurations
-- are known
pub record World : Type 1 where
  pub config : Config
  pub own : ServerId → Config
  pub up : ServerId → Type 0
  pub line : List ℕ → List Update
  pub holds : List ℕ → RegionId → ServerId → KeyState → Type 0
  pub installed : RegionId → ServerId → Type 0
  pub known : Config → Type 0

-- which configuration each server has, which servers haven't halted, and which configurations are known: by these posts are heard
pub record Ways : Type 1 where
  pub own : ServerId → Config
  pub up : ServerId → Type 0
  pub known : Config → Type 0

-- those of where all stand
abbrev pub ways : World → Ways
ways w = record { own = w.own; up = w.up; known = w.known }

-- the server has this configuration, or may come to have it
pub record May (v : Ways) (s : ServerId) (c : Config) : Type 0 where
  pub up : v.up s
  pub known : v.known c
  pub later : (v.own s).epoch.0 ≤ c.epoch.0

-- what is kept of configurations: each later one has grown out of each earlier one, the newest is
-- the last, each server's own is known and lists its installed replicas, who hasn't halted is a
-- server of the newest, and an installed replica that it lists is a holder
pub record Ordered (w : World) : Type 0 where
  pub differ : (c : Config) → w.known c → (g : RegionId) → Differ (members_of c g)
  pub listed : (c : Config) → w.known c → ListsServers c
  pub grown : (c n : Config) → w.known c → w.known n → c.epoch.0 ≤ n.epoch.0 → GrownOut c n
  pub newest : w.known w.config
  pub last : (c : Config) → w.known c → c.epoch.0 ≤ w.config.epoch.0
  pub own : (s : ServerId) → w.known (w.own s)
  pub home : (g : RegionId) (s : ServerId) → w.installed g s → IsIn s (order (w.own s) g)
  pub up : (s : ServerId) → w.up s → IsIn s w.config.servers
  pub seat : (key : List ℕ) (g : RegionId) (s : ServerId) → w.installed g s → IsIn s (order w.config g) → (t : KeyState) × w.holds key g s t

-- where a slot stands
abbrev pub context : Script → World → RegionId → ServerId → SlotContext
context script w g s = record { space = script.space; config = w.own s; server = s; region = g }

-- an update of x may be heard at a position
pub record HearsUpdate (v : Ways) (x : ServerId) (g : RegionId) (s : ServerId) (u : Update) : Type 0 where
  pub config : Config
  pub may : May v s config
  pub listed : IsIn s (order config g)
  pub place : ℕ
  pub at : prev_of config u.places (place_number g u.places) s ≡ At x place

-- an acknowledgement of x, of its replica of a region, may be heard at a position
pub record HearsAck (v : Ways) (x : ServerId) (by : RegionId) (g : RegionId) (s : ServerId) (u : Update) : Type 0 where
  pub config : Config
  pub may : May v s config
  pub listed : IsIn s (order config g)
  pub place : ℕ
  pub at : next_of config u.places (place_number g u.places) s ≡ At x place
  pub region : region_at u.places place ≡ by

-- the way of an update to a position: from a region of x, after which it comes next in a configuration that was issued
pub record Route (issued : Config → Type 0) (x : ServerId) (g : RegionId) (s : ServerId) (u : Update) : Type 0 where
  pub region : RegionId
  pub sender_placed : has_place region u ≡ true
  pub placed : has_place g u ≡ true
  pub apart : Apart u.places
  pub config : Config
  pub known : issued config
  pub first_in : IsIn x (order config region)
  pub second_in : IsIn s (order config g)
  pub hops : Hops config u.places region x g s
  pub next : next_of config u.places (place_number region u.places) x ≡ At s (place_number g u.places)

-- it stays so where more configurations are known
abbrev pub route-known : (known known' : Config → Type 0) → ((c : Config) → known c → known' c) → (x : ServerId) (g : RegionId) (s : ServerId) (u : Update)
    → Route known x g s u → Route known' x g s u
route-known known known' more x g s u r = record {
  region = r.region;
  sender_placed = r.sender_placed;
  placed = r.placed;
  apart = r.apart;
  config = r.config;
  known = more r.config r.known;
  first_in = r.first_in;
  second_in = r.second_in;
  hops = r.hops;
  next = r.next;
}

module _ (script : Script) (w : World) (key : List ℕ) where
  -- one position stands before another in an update's chain
  abbrev pub Ahead : Update → RegionId → ServerId → RegionId → ServerId → Type 0
  Ahead u g s h x = PrecedesInChain w.config u.places g s h x

  -- each holder before a position has accepted the update
  abbrev pub Before : RegionId → ServerId → Update → Type 0
  Before g s u = (h : RegionId) (x : ServerId) (t : KeyState) → w.holds key h x t → Ahead u h x g s → u.version.0 ≤ top_of t

  -- each holder after it has committed it
  abbrev pub After : RegionId → ServerId → Update → Type 0
  After g s u = (h : RegionId) (x : ServerId) (t : KeyState) → w.holds key h x t → Ahead u g s h x → u.version.0 ≤ t.floor

  -- each holder at the position has accepted it
  abbrev pub Here : RegionId → ServerId → Update → Type 0
  Here g s u = (t : KeyState) → w.holds key g s t → u.version.0 ≤ top_of t

  -- and has committed it
  abbrev pub Done : RegionId → ServerId → Update → Type 0
  Done g s u = (t : KeyState) → w.holds key g s t → u.version.0 ≤ t.floor

  -- each holder of its chain has accepted it
  abbrev pub Everywhere : Update → Type 0
  Everywhere u = (h : RegionId) (x : ServerId) (t : KeyState) → w.holds key h x t → has_place h u ≡ true → u.version.0 ≤ top_of t

  -- the position isn't the leader's, by its server's own configuration
  abbrev pub Follows : RegionId → ServerId → Type 0
  Follows g s = g ≡ key_region script.space key → head_of (w.own s) g ≡ Some s → ⊥

  -- the next position is an installed replica's
  abbrev pub Filled : Update → Hop → Type 0
  Filled u (At y n) = w.installed (region_at u.places n) y
  Filled u End = ⊤
  Filled u (Blocked g) = ⊥

  -- no joiner can come to stand right after the position: by its server's own configuration the chain ends there, or the next replica is installed
  abbrev pub Closed : RegionId → ServerId → Update → Type 0
  Closed g s u = Filled u (next_at (context script w g s) u)

  -- what is said at a position
  abbrev pub around : RegionId → ServerId → Around
  around g s = record { waits = λ u. Follows g s; before = Before g s; after = After g s; closed = Closed g s }

  -- each update of the line up to a version is committed by each holder of its chain
  abbrev pub Along : ℕ → Type 0
  Along v = (u : Update) → IsIn u (w.line key) → u.version.0 ≤ v → (g : RegionId) (s : ServerId) (t : KeyState) → w.holds key g s t → has_place g u ≡ true
      → u.version.0 ≤ t.floor

  -- each holder of the key's region has accepted the version
  abbrev pub Fixed : ℕ → Type 0
  Fixed v = (v ≤ length (w.line key)) × ((s : ServerId) (t : KeyState) → w.holds key (key_region script.space key) s t → v ≤ top_of t)

  -- what is kept of a key; where a server is or may come to be the last of a region, no holder stands after it
  pub record KeyOk : Type 0 where
    pub lawful : Lawful script w.known key (w.line key)
    pub listed : (g : RegionId) (s : ServerId) (t : KeyState) → w.holds key g s t → IsIn s (order w.config g)
    pub own : (g : RegionId) (s : ServerId) (t : KeyState) → w.holds key g s t → Own (w.line key) g (around g s) t
    pub clear : (s : ServerId) (c : Config) → May (ways w) s c → (g : RegionId) → IsIn s (order c g) → member_after s (members_of c g) ≡ None
        → (z : ServerId) (t : KeyState) → w.holds key g z t → IsBefore s z (order w.config g) → ⊥

  -- an update that may be heard at a position
  pub record Sending (g : RegionId) (s : ServerId) (u : Update) : Type 0 where
    pub stands : IsIn u (w.line key)
    pub listed : IsIn s (order w.config g)
    pub before : Before g s u

  -- an update under way from x: an installed replica beside the position posted it, which has
  -- accepted it if the newest configuration lists it; and what holds where it may be heard
  pub record UpdateOk (x : ServerId) (g : RegionId) (s : ServerId) (u : Update) : Type 0 where
    pub route : Route w.known x g s u
    pub from : w.installed route.region x
    pub accepted : IsIn x (order w.config route.region) → IsIn u (w.line key) × Here route.region x u
    pub heard : HearsUpdate (ways w) x g s u → Sending g s u

  -- an acknowledgement under way from x: its version stands in the line and is accepted by the
  -- whole chain; an installed replica posted it, which has committed it if the newest configuration
  -- lists it; and what holds where it may be heard
  pub record AckOk (x : ServerId) (by : RegionId) (g : RegionId) (s : ServerId) (v : ℕ) : Type 0 where
    pub update : Update
    pub stands : IsIn update (w.line key)
    pub version : update.version.0 ≡ v
    pub from : w.installed by x
    pub placed : has_place g update ≡ true
    pub sender_placed : has_place by update ≡ true
    pub everywhere : Everywhere update
    pub committed : IsIn x (order w.config by) → Done by x update
    pub heard : HearsAck (ways w) x by g s update → IsIn s (order w.config g) × After g s update

  -- what a reply tells: a doubt about a write, a committed update, or the object after a committed version
  abbrev pub Told : Caller → Version → Answer → Op → Type 0
  Told c v a op =
      ((is_write op ≡ true) × (is_doubt a ≡ true))
      ⊎ (((is_write op ≡ true) × ((u : Update) × IsIn u (w.line key) × (u.caller ≡ c) × (u.version ≡ v) × (u.answer ≡ a)) × Along v.0)
      ⊎ ((is_write op ≡ false) × (v.0 ≤ length (w.line key)) × (a ≡ get_answer (line_object (upto v.0 (w.line key)))) × Along v.0))

-- ---- posts

module _ (script : Script) (w : World) where
  -- what a reply tells the caller on its key
  abbrev pub ReplyOk : ℕ → Version → Answer → SessionId → Type 0
  ReplyOk number v a s =
      (op : Op) (key : List ℕ) → call_of script (record { session = s; number = number }) ≡ Some op → key_of op ≡ Some key
      → Told script w key (record { session = s; number = number }) v a op

  -- what a post says of keys
  abbrev pub Valid : Actor → Actor → Message → Type 0
  Valid from to (a_message.Call epoch number op) = at_session from (λ u. call_of script (record { session = u; number = number }) ≡ Some op)
  Valid from to (a_message.Reply number version answer) = at_session to (ReplyOk number version answer)
  Valid from to (a_message.Update epoch g u) = at_server from (λ x. at_server to (λ s. UpdateOk script w u.key x g s u))
  Valid from to (a_message.Ack epoch g by key version) = at_server from (λ x. at_server to (λ s. AckOk script w key x by g s version.0))
  Valid from to other = ⊤

  -- what holds of all keys and posts
  pub record Chained (posts : List Post) : Type 0 where
    pub ordered : Ordered w
    pub keyed : (key : List ℕ) → KeyOk script w key
    pub valid : (p : Post) → IsIn p posts → Valid p.from p.to p.message

-- what is kept where all come to stand otherwise: configurations, keys, that posts are true, and what is fixed
pub record Stays (script : Script) (w w' : World) : Type 0 where
  pub ordered : Ordered w'
  pub keys : (key : List ℕ) → KeyOk script w' key
  pub valid : (from to : Actor) (m : Message) → Valid script w from to m → Valid script w' from to m
  pub fixed : (key : List ℕ) (v : ℕ) → Fixed script w key v → Fixed script w' key v

-- where nothing changes
pub stays-same : (script : Script) (w : World) → Ordered w → ((key : List ℕ) → KeyOk script w key) → Stays script w w
stays-same script w o ok = record { ordered = o; keys = ok; valid = λ from to m h. h; fixed = λ key v f. f }

-- one change after another
pub stays-then : (script : Script) (w w' w'' : World) → Stays script w w' → Stays script w' w'' → Stays script w w''
stays-then script w w' w'' a b = record {
  ordered = b.ordered;
  keys = b.keys;
  valid = λ from to m h. b.valid from to m (a.valid from to m h);
  fixed = λ key v f. b.fixed key v (a.fixed key v f);
}

-- ---- holders that come from holders at the same positions

module _ (script : Script) (w w' : World) (key : List ℕ) where
  -- a holder of before, that has no more
  pub record Source (g : RegionId) (s : ServerId) (t : KeyState) : Type 0 where
    pub old : KeyState
    pub held : w.holds key g s old
    pub top : top_of old ≤ top_of t
    pub floor : old.floor ≤ t.floor

  -- a position that is an installed replica's stays so, where installed replicas do
  pub filled-stays : ((g : RegionId) (s : ServerId) → w.installed g s → w'.installed g s) → (u : Update) (h : Hop) → Filled script w key u h
      → Filled script w' key u h
  filled-stays kept u (At y n) f = kept (region_at u.places n) y f
  filled-stays kept u End f = tt
  filled-stays kept u (Blocked r) f = f

  -- each holder comes from one, and chains keep their order
  pub record Comes : Type 0 where
    pub source : (g : RegionId) (s : ServerId) (t : KeyState) → w'.holds key g s t → Source g s t
    pub stood : (u : Update) (g : RegionId) (s : ServerId) (h : RegionId) (x : ServerId) → IsIn x (order w.config h) → Ahead script w' key u g s h x
        → Ahead script w key u g s h x
    pub listed : (g : RegionId) (s : ServerId) (t : KeyState) → w.holds key g s t → IsIn s (order w.config g)

  module _ (comes : Comes) where
    open comes use {source, stood, listed}

    -- what was accepted before a position stays so
    pub before-stays : (g : RegionId) (s : ServerId) (u : Update) → IsIn s (order w.config g) → Before script w key g s u → Before script w' key g s u
    before-stays g s u i b h x t k a =
        let c = source h x t k in
        let d = b h x c.old c.held (stood u h x g s i a) in
        let e = c.top in
        omega (arith, d, e)

    -- what was committed after it too
    pub after-stays : (g : RegionId) (s : ServerId) (u : Update) → After script w key g s u → After script w' key g s u
    after-stays g s u b h x t k a =
        let c = source h x t k in
        let d = b h x c.old c.held (stood u g s h x (listed h x c.old c.held) a) in
        let e = c.floor in
        omega (arith, d, e)

    -- what was accepted at it
    pub here-stays : (g : RegionId) (s : ServerId) (u : Update) → Here script w key g s u → Here script w' key g s u
    here-stays g s u b t k = (let c = source g s t k in let d = b c.old c.held in let e = c.top in omega (arith, d, e))

    -- what was committed at it
    pub done-stays : (g : RegionId) (s : ServerId) (u : Update) → Done script w key g s u → Done script w' key g s u
    done-stays g s u b t k = (let c = source g s t k in let d = b c.old c.held in let e = c.floor in omega (arith, d, e))

    -- what was accepted everywhere
    pub everywhere-stays : (u : Update) → Everywhere script w key u → Everywhere script w' key u
    everywhere-stays u b h x t k p = (let c = source h x t k in let d = b h x c.old c.held p in let e = c.top in omega (arith, d, e))

    -- what is committed along chains
    pub along-stays : (v : ℕ) → ((u : Update) → IsIn u (w'.line key) → u.version.0 ≤ v → IsIn u (w.line key)) → Along script w key v → Along script w' key v
    along-stays v back a u i q g s t k p = (let c = source g s t k in let d = a u (back u i q) q g s c.old c.held p in let e = c.floor in omega (arith, d, e))

    -- what is fixed
    pub fixed-stays : (v : ℕ) → v ≤ length (w'.line key) → Fixed script w key v → Fixed script w' key v
    fixed-stays v l f =
        (l, λ s t k. (let c = source (key_region script.space key) s t k in let d = f.1 s c.old c.held in let e = c.top in omega (arith, d, e)))
