-- An entry of the coordinator or of a session keeps all keys: sessions ask, and the coordinator may issue the next configuration.
use Rattle.std.proofs.Common.{◌≡◌, ℕ, ◌<◌, inl, inr, false, List, ◌∷◌, ◌++◌, Some, refl, sym, ap, ◌∙◌, subst, arith}
use Rattle.std.proofs.lemmas.Bool.{true≢false}
use Rattle.hx_model.specs.Types.{Actor, Config, Coordinator, Entry, Epoch, Input, Message, Note, Op, Post, RegionId, Script, Server, ServerId, Session}
use Rattle.hx_model.specs.Types.{SessionId, Update}
use Rattle.hx_types.specs.declared.messages.Message.TheVariants as a_message
use Rattle.hx_types.specs.Words.{IsIn, post}
use Rattle.hx_types.specs.Configs.{members_of}
use Rattle.hx_types.specs.Fitting.{IsScript, call_of, calls_of, numbered}
use Rattle.hx_types.specs.Posts.{is_server_actor}
use Rattle.hx_types.specs.Spaces.{IsSpace}
use Rattle.hx_model.specs.Lines.{upto}
use Rattle.hx_model.specs.Histories.{line_notes, line_of}
use Rattle.hx_model.specs.Runs.{IsStep, Output, coordinator_after, coordinator_of, made_of, server_after, server_of, session_of}
use Rattle.hx_model.specs.CoordinatorSteps.{coordinator_step}
use Rattle.hx_model.specs.SessionSteps.{session_step}
use Rattle.hx_model.specs.Slots.{KeyState}
use Rattle.hx_model.specs.ServerSteps.{state_in}
use Rattle.hx_law_lemmas.specs.Words.{noted, posts_of, view}
use Rattle.hx_law_lemmas.proofs.Lemmas.{Differ, SaysOf, in-append, in_right, keeps_lines, session_turn, started, started_same}
use Rattle.hx_law_epochs.specs.Epochs.{FollowsOn, order}
use Rattle.hx_law_epochs.specs.Senders.{IsOf, IsOfCoordinator}
use Rattle.hx_law_epochs.proofs.Lemmas.{EpochsRun, GrownOut, IsKnown, IsOrderly, Keeps, ListsServers, Real, Says, Widens, grown-out-next, keeps-entry}
use Rattle.hx_law_epochs.proofs.Lemmas.{Issues, coordinator-plain, orderly-lists, session-posts, widens}
use Rattle.hx_law_chains.proofs.Calm.{calm-stays}
use Rattle.hx_law_chains.proofs.Holders.{NoSnap, Up, under-way}
use Rattle.hx_law_chains.proofs.Issuing.{stays_issued}
use Rattle.hx_law_chains.proofs.Named.{named}
use Rattle.hx_law_chains.proofs.Sending.{routed}
use Rattle.hx_law_chains.proofs.Serving.{Scene, scene, world}
use Rattle.hx_law_chains.proofs.World.{Chained, Fixed, KeyOk, Ordered, Stays, Valid, World}

-- ---- the next configuration is issued

module _ (e : Scene) (valid : IsSpace e.script.space) (c : Config) (new : List Post) (known : Config → Type 0)
    (nosnap : (p : Post) → IsIn p new → NoSnap p.message) (grown : GrownOut e.config c) (newer : e.config.epoch.0 < c.epoch.0)
    (widens : Widens e.known known e.config c) (differ : (g : RegionId) → Differ (members_of c g)) (listed : ListsServers c)
    (stay : (s : ServerId) → Up e.Real e.servers s → IsIn s c.servers)
    (says : (p : Post) → IsIn p e.posts → Says e.servers e.known e.config p.from p.to p.message) (o : Ordered (world e)) where
  -- where all stand after
  abbrev pub later : Scene
  later = record e { config = c; posts = new ++ e.posts; known = known }

  -- who is listed, and was ever, was listed by the newest before
  was-listed : (d : Config) → e.known d → (g : RegionId) (s : ServerId) → IsIn s (order d g) → IsIn s (order c g) → IsIn s (order e.config g)
  was-listed d k g s i j = (o.grown d e.config k o.newest (o.last d k)).stays g s (grown.servers s (listed g s j)) i

  -- each holder was one
  was-held : (key : List ℕ) (g : RegionId) (s : ServerId) (t : KeyState) → (world later).holds key g s t → (world e).holds key g s t × IsIn s (order c g)
  was-held key g s t (inl h) =
      (inl (record { listed = was-listed (e.servers s).config (o.own s) g s (o.home g s h.at) h.listed; at = h.at; is = h.is }), h.listed)
  was-held key g s t (inr h) =
      let old : IsIn (post h.from (Server s) (a_message.Snap h.epoch g h.snapshot h.pending)) e.posts =
      elim (in-append new e.posts _ h.posted) [ inl i ↦ absurd (nosnap _ i) | inr i ↦ i ] in
      let r = routed e o h.from s h.epoch g h.snapshot h.pending (says _ old) in (
        inr (under-way e.script.space e.Real e.servers e.servers c e.config (new ++ e.posts) e.posts key g s t h (λ u. u) (was-listed r.0 r.1 g s r.2)
            (λ i. i) old),
        h.listed,
      )

  -- what is kept
  pub later-stays : ((key : List ℕ) → KeyOk e.script (world e) key) → Stays e.script (world e) (world later)
  later-stays = stays_issued e.script valid (world e) o c grown newer differ listed stay (world later).holds known was-held
      (λ key g s i l. (view (e.servers s) (state_in e.script.space i.replica key), inl (record { listed = l; at = i; is = refl })))
      widens.only widens.still widens.newest

-- ---- an entry

-- a post that is no snapshot and true wherever all stand
abbrev IsQuiet : Script → Actor → Actor → Message → Type 1
IsQuiet script from to m = NoSnap m × ((w : World) → Valid script w from to m)

-- whoever is no server posts no snapshot, and says nothing of keys but in calls
others-quiet : (script : Script) (a : Actor) → is_server_actor a ≡ false → (from to : Actor) (m : Message) → IsOf a m
    → ((epoch : Epoch) (number : ℕ) (op : Op) → m ≡ a_message.Call epoch number op → (w : World) → Valid script w from to (a_message.Call epoch number op))
    → IsQuiet script from to m
others-quiet script (Server s) n from to m h f = absurd (true≢false n)
others-quiet script other n from to (a_message.Call epoch number op) h f = (tt, f epoch number op refl)
others-quiet script other n from to (a_message.Reply number version answer) h f = absurd h
others-quiet script other n from to (a_message.Update epoch g u) h f = absurd h
others-quiet script other n from to (a_message.Ack epoch g by key version) h f = absurd h
others-quiet script other n from to (a_message.Snap epoch g snapshot pending) h f = absurd h
others-quiet script other n from to m h f = (tt, λ w. tt)

-- where configurations alone are noted each line stays
pub issued-line : (key : List ℕ) (line : List Update) (notes : List Note) → Issues notes → line_notes key line notes ≡ line
issued-line key line notes (inl e) = ap (line_notes key line) e
issued-line key line notes (inr r) = ap (line_notes key line) r.1

module _ (script : Script) (valid : IsScript script) (older : List Entry) (epochs : EpochsRun script older) (known2 : Config → Type 0)
    (had : Chained script (world (scene script older)) (posts_of older)) where
  -- where all stand before
  abbrev old : Scene
  old = scene script older

  -- what is kept where all then stand
  record KeptIn (w : World) (ps : List Post) : Type 0 where
    pub chained : Chained script w (ps ++ posts_of older)
    pub fixed : (key : List ℕ) (v : ℕ) → Fixed script (world old) key v → Fixed script w key v

  -- such posts
  abbrev AreQuiet : List Post → Type 1
  AreQuiet ps = (p : Post) → IsIn p ps → IsQuiet script p.from p.to p.message

  -- where all stays and such posts come
  kept-in : (w : World) (ps : List Post) → AreQuiet ps → Stays script (world old) w → KeptIn w ps
  kept-in w ps f s = record {
    chained = record {
      ordered = s.ordered;
      keyed = s.keys;
      valid = λ p i. elim (in-append ps (posts_of older) p i) [ inl j ↦ (f p j).1 w | inr j ↦ s.valid p.from p.to p.message (had.valid p j) ];
    };
    fixed = s.fixed;
  }

  -- where posts alone come
  calm-kept : Widens (IsKnown script older) known2 old.config old.config → (ps : List Post) → AreQuiet ps
      → KeptIn (world (record old { posts = ps ++ posts_of older; known = known2 })) ps
  calm-kept widens ps f = kept-in (world (record old { posts = ps ++ posts_of older; known = known2 })) ps f
      (calm-stays old (ps ++ posts_of older) known2
      (λ p i. elim (in-append ps (posts_of older) p i) [ inl j ↦ inl (f p j).0 | inr j ↦ inr j ])
      (λ p i. in_right ps (posts_of older) p i) widens.still
      (λ k h. elim (widens.only k h) [ inl a ↦ a | inr e ↦ subst (IsKnown script older) (sym e) epochs.known.newest ])
      had.ordered had.keyed)

  -- where a configuration is issued too
  issued-kept : (c : Config) → FollowsOn old.config c → IsOrderly c → Widens (IsKnown script older) known2 old.config c
      → ((s : ServerId) → Real script s → (old.servers s).halted ≡ false → IsIn s c.servers) → (ps : List Post) → AreQuiet ps
      → KeptIn (world (record old { config = c; posts = ps ++ posts_of older; known = known2 })) ps
  issued-kept c follows orderly widens stay ps f = kept-in (world (record old { config = c; posts = ps ++ posts_of older; known = known2 })) ps f
      (later-stays old valid.space c ps known2 (λ p i. (f p i).0) (grown-out-next old.config c follows) (let e = follows.epoch in omega (arith, e)) widens
      orderly.differ (orderly-lists c orderly) (λ s u. stay s u.0 u.1) epochs.epochs.says had.ordered had.keyed)

  -- where all stand after an entry, with these lines
  abbrev with_line : Actor → Input → List Post → (List ℕ → List Update) → World
  with_line a input ps line = world (record {
    script = script;
    Real = Real script;
    servers = λ s. server_after script.space s a input (server_of script s older);
    config = (coordinator_after a input (coordinator_of script older)).config;
    line = line;
    posts = ps ++ posts_of older;
    known = known2;
  })

  -- and with those that it notes
  abbrev pub world-after : Actor → Input → List Post → List Note → World
  world-after a input ps ns = with_line a input ps (noted (λ key. line_of key older) ns)

  -- what an entry keeps
  pub record KeptAfter (a : Actor) (input : Input) (ps : List Post) (ns : List Note) : Type 0 where
    pub chained : Chained script (world-after a input ps ns) (ps ++ posts_of older)
    pub fixed : (key : List ℕ) (v : ℕ) → Fixed script (world old) key v → Fixed script (world-after a input ps ns) key v
        × (upto v (line_notes key (line_of key older) ns) ≡ upto v (line_of key older))

  -- from what is kept with the lines of before
  with-lines : (a : Actor) (input : Input) (ps : List Post) (ns : List Note) → ((key : List ℕ) → line_notes key (line_of key older) ns ≡ line_of key older)
      → KeptIn (with_line a input ps (λ key. line_of key older)) ps → KeptAfter a input ps ns
  with-lines a input ps ns same k =
      let r = subst (λ (M : List ℕ → List Update). KeptIn (with_line a input ps M) ps) (λ j key. sym (same key) j) k in
      record { chained = r.chained; fixed = λ key v h. (r.fixed key v h, ap (upto v) (same key)) }

  -- an entry of the coordinator
  coordinator-after-kept : (input : Input) → let step = coordinator_step (coordinator_of script older) input in Widens (IsKnown script older)
      known2 old.config step.state.config
      → Keeps script valid older epochs Coordinator input step.posts step.notes → KeptAfter Coordinator input step.posts step.notes
  coordinator-after-kept input widens keeps =
      let step = coordinator_step (coordinator_of script older) input in
      let plain = coordinator-plain (coordinator_of script older) input in
      let f : AreQuiet step.posts = λ p i. others-quiet script Coordinator refl p.from p.to p.message (plain.posts p i)
      (λ epoch number op e. absurd (subst IsOfCoordinator e (plain.posts p i))) in
      with-lines Coordinator input step.posts step.notes (λ key. issued-line key (line_of key older) step.notes plain.notes)
      (elim keeps.notes [
        | inl (e, n) ↦ subst (λ (c : Config). KeptIn (world (record old { config = c; posts = step.posts ++ posts_of older; known = known2 })) step.posts)
            (sym e)
            (calm-kept (subst (Widens (IsKnown script older) known2 old.config) e widens) step.posts f)
        | inr n ↦ issued-kept step.state.config n.follows n.orderly widens (keeps.epochs known2 widens).listed step.posts f
      ])

  -- an entry of a session
  session-after-kept : (u : SessionId) (input : Input) → Widens (IsKnown script older) known2 old.config old.config
      → let step = session_step script.space (session_of script u older) input in KeptAfter (Session u) input step.posts step.notes
  session-after-kept u input widens =
      let s = session_of script u older in
      let step = session_step script.space s input in
      let turn = session_turn script.space input s in
      let mid = started turn.start s in
      let id : mid.id ≡ u = (started_same turn.start s).0 ∙ (named script older u).0 in
      let calls : mid.calls ≡ calls_of script u = (started_same turn.start s).1 ∙ (named script older u).1 in
      let f : AreQuiet step.posts =
      λ p i. let r = turn.turn.says p i in subst (λ (a : Actor). IsQuiet script a p.to p.message) (sym (r.0 ∙ ap Session id))
      (others-quiet script (Session u) refl (Session u) p.to p.message (session-posts script.space s input p i)
      (λ epoch number op e w. let c = subst (SaysOf mid step.state.sent step.state.under_way) e r.1 in
      subst (λ k. call_of script (record { session = u; number = k }) ≡ Some op) (sym c.0) (ap (λ (l : List Op). numbered l mid.begun) (sym calls) ∙ c.2))) in
      with-lines (Session u) input step.posts step.notes (λ key. keeps_lines input s step turn key (line_of key older)) (calm-kept widens step.posts f)

  -- an entry of whoever is no server
  by-actor : (a : Actor) (input : Input) (ps : List Post) (ns : List Note) → ((i : ServerId) → a ≡ Server i → ⊥)
      → made_of script older a input ≡ record { posts = ps; notes = ns }
      → Widens (IsKnown script older) known2 old.config (coordinator_after a input (coordinator_of script older)).config
      → Keeps script valid older epochs a input ps ns → KeptAfter a input ps ns
  by-actor Coordinator input ps ns none made wider keeps = subst
      (λ (m : Output). Keeps script valid older epochs Coordinator input m.posts m.notes → KeptAfter Coordinator input m.posts m.notes) made
      (coordinator-after-kept input wider) keeps
  by-actor (Server i) input ps ns none made wider keeps = absurd (none i refl)
  by-actor (Session u) input ps ns none made wider keeps = subst (λ (m : Output). KeptAfter (Session u) input m.posts m.notes) made
      (session-after-kept u input wider)

-- an entry of the coordinator or of a session keeps all keys and posts, and what is fixed
pub elsewhere-kept : (script : Script) (valid : IsScript script) (older : List Entry) (epochs : EpochsRun script older)
    (had : Chained script (world (scene script older)) (posts_of older))
    (x : Entry) (step : IsStep script older x) → ((i : ServerId) → x.actor ≡ Server i → ⊥)
    → KeptAfter script valid older epochs (IsKnown script (x ∷ older)) had x.actor x.input x.outputs x.notes
elsewhere-kept script valid older epochs had x step none =
    by-actor script valid older epochs (IsKnown script (x ∷ older)) had x.actor x.input x.outputs x.notes none step.made
    (widens script valid older epochs x step) (keeps-entry script valid older epochs x step)
