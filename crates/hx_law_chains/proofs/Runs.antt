-- Every run keeps all keys: by the entries of servers, and those of the coordinator and of sessions.
use Rattle.std.proofs.Common.{◌≡◌, ℕ, ◌⊎◌, inl, inr, Bool, true, false, List, [], ◌∷◌, ◌++◌, None, refl, sym, ap, ◌∙◌, subst, arith, cond}
use Rattle.std.proofs.lemmas.Bool.{cond-false, cond-true, cond_both, eqb-true}
use Rattle.hx_model.specs.Types.{Actor, Config, Coordinator, Deliver, Entry, Input, Message, Post, PostId, RegionId, Script, Server, ServerId, Session, Space}
use Rattle.hx_types.specs.declared.messages.Message.TheVariants as a_message
use Rattle.hx_types.specs.Words.{IsBefore, IsIn, post, provided, same_server}
use Rattle.hx_types.specs.Configs.{first_config, members_of}
use Rattle.hx_types.specs.Fitting.{IsScript}
use Rattle.hx_types.specs.Subspaces.{is_key_region}
use Rattle.hx_model.specs.Lines.{upto}
use Rattle.hx_model.specs.Histories.{line_notes, line_of}
use Rattle.hx_model.specs.Neighbours.{member_after}
use Rattle.hx_model.specs.Runs.{IsRun, MayTake, Output, coordinator_after, coordinator_of, has_halted, is_actor, server_after, server_of}
use Rattle.hx_model.specs.ServerSteps.{Replica, ServerState, ServerStep, listed_regions, server_at_start, server_step, state_in}
use Rattle.hx_model.specs.Slots.{KeyState, new_state, state_among}
use Rattle.hx_law_lemmas.specs.Facts.{DeliversCall}
use Rattle.hx_law_lemmas.specs.Words.{posts_of}
use Rattle.hx_law_lemmas.proofs.Lemmas.{after-nobody, arrived, in-append, in-map, replica-found}
use Rattle.hx_law_epochs.specs.Epochs.{order}
use Rattle.hx_law_epochs.proofs.Lemmas.{EpochsRun, IsKnown, Widens, epochs-run, orderly-lists, widens}
use Rattle.hx_law_chains.proofs.Calm.{calm-stays}
use Rattle.hx_law_chains.proofs.Elsewhere.{KeptAfter, elsewhere-kept}
use Rattle.hx_law_chains.proofs.Entered.{made-by}
use Rattle.hx_law_chains.proofs.Entries.{IsAsked, input-served}
use Rattle.hx_law_chains.proofs.Holders.{with_state_of}
use Rattle.hx_law_chains.proofs.Moves.{Around, Own}
use Rattle.hx_law_chains.proofs.Serving.{Asked, Assigns, Late, Posted, Served, after, scene, world}
use Rattle.hx_law_chains.proofs.Snapshots.{snapshots-kept}
use Rattle.hx_law_chains.proofs.World.{Chained, Fixed, May, Ordered, World, around, ways}

-- what an entry delivers
abbrev pub delivered : Entry → Asked
delivered x = record { call = DeliversCall x; ask = λ to epoch number g terms. (id : PostId) × (x.input ≡ Deliver id to (a_message.Ask epoch number g terms)) }

-- ---- at the start

-- a slot that has nothing relies on nothing
own-new : (g : RegionId) (a : Around) (marks : Bool) (key : List ℕ) → Own [] g a (new_state marks key)
own-new g a marks key = record {
  content = record { list = refl; object = refl; marks = empty marks; touches = empty marks; floor = omega arith };
  low = omega arith;
  top_line = omega arith;
  top_is = inl refl;
  taken = λ u i. absurd i;
  freed = λ u i. absurd i;
  early = λ u i. absurd i;
  acked = λ v i. absurd i;
}
  where
    empty : {A : Type 0} (b : Bool) → let none : List A = [] in none ≡ provided b none
    empty true = refl
    empty false = refl

-- replicas have no slots
start-empty : (space : Space) (s : ServerId) (g : RegionId) (r : Replica) → IsIn r (server_at_start space s).replicas → r.states ≡ []
start-empty space s g r i = let m = in-map (λ (h : RegionId). record { region = h; installed = true; states = [] }) (listed_regions (first_config space) s)
    r i in ap (λ (y : Replica). y.states) m.2

-- where no posts are yet, each configuration that is known is the first
module _ (script : Script) (valid : IsScript script) where
  start : EpochsRun script []
  start = epochs-run script valid [] tt

  -- configurations are in order
  start-ordered : Ordered (world (scene script []))
  start-ordered = record {
    differ = λ c k. (start.epochs.orderly c k).differ;
    listed = λ c k. orderly-lists c (start.epochs.orderly c k);
    grown = start.epochs.grown;
    newest = start.epochs.newest;
    last = start.epochs.last;
    own = start.epochs.own;
    home = start.epochs.home;
    up = λ s u. start.epochs.listed s u.0 u.1;
    seat = λ key g s at l. (state_in script.space at.replica key, inl (record { listed = l; at = at; is = refl }));
  }

  -- all keys are kept
  start-chained : Chained script (world (scene script [])) []
  start-chained = record {
    ordered = start-ordered;
    keyed = λ key. record { lawful = tt; listed = listed key; own = own key; clear = clear key };
    valid = λ p i. absurd i;
  }
    where
      listed : (key : List ℕ) (g : RegionId) (s : ServerId) (t : KeyState) → (world (scene script [])).holds key g s t
          → IsIn s (order (first_config script.space) g)
      listed key g s t (inl l) = l.listed
      listed key g s t (inr w) = absurd w.posted

      own : (key : List ℕ) (g : RegionId) (s : ServerId) (t : KeyState) → (world (scene script [])).holds key g s t
          → Own [] g (around script (world (scene script [])) key g s) t
      own key g s t (inr w) = absurd w.posted
      own key g s t (inl l) =
          let e = start-empty script.space s g l.at.replica (replica-found g (server_at_start script.space s).replicas l.at.replica l.at.found).0 in
          let new : state_in script.space l.at.replica key ≡ new_state (is_key_region script.space l.at.replica.region) key =
          ap (λ (states : List KeyState). state_among (is_key_region script.space l.at.replica.region) key states) e in
          subst (Own [] g (around script (world (scene script [])) key g s)) (sym (l.is ∙ new))
          (own-new g (around script (world (scene script [])) key g s) (is_key_region script.space l.at.replica.region) key)

      clear : (key : List ℕ) (s : ServerId) (c : Config) → May (ways (world (scene script []))) s c → (g : RegionId) → IsIn s (order c g)
          → member_after s (members_of c g) ≡ None
          → (z : ServerId) (t : KeyState) → (world (scene script [])).holds key g z t → IsBefore s z (order (first_config script.space) g) → ⊥
      clear key s c m g i none z t h b =
          let k = start.epochs.one c (first_config script.space) m.known start.epochs.newest (first-epoch c m.known) in
          after-nobody s (members_of c g) ((start.epochs.orderly c m.known).differ g) none z (subst (λ (x : Config). IsBefore s z (order x g)) (sym k) b)
        where
          first-epoch : (c : Config) → IsKnown script [] c → c.epoch ≡ (first_config script.space).epoch
          first-epoch c k = (let l = (start.known.on.only c.epoch c k).0 in let m = start.epochs.last c k in let n : c.epoch.0 ≡ 1 = omega (arith, l, m) in
              λ j. record { 0 = n j })

-- ---- an entry of a server

module _ (script : Script) (valid : IsScript script) (older : List Entry) (epochs : EpochsRun script older) (known2 : Config → Type 0)
    (wider : Widens (IsKnown script older) known2 (coordinator_of script older).config (coordinator_of script older).config)
    (had : Chained script (world (scene script older)) (posts_of older)) (i : ServerId) (input : Input) (asked : Asked) where
  -- the server's step
  abbrev step : ServerStep
  step = server_step script.space (server_of script i older) input

  -- the servers after
  servers-are : (s : ServerId) → with_state_of (λ j. server_of script j older) i step.state s ≡ server_after script.space s (Server i) input
      (server_of script s older)
  servers-are s =
      cond_both (same_server i s) step.state (server_of script s older)
      (λ (y : ServerState). y ≡ cond (same_server i s) (server_step script.space (server_of script s older) input).state (server_of script s older))
      (λ t. (let n = eqb-true i.0 s.0 t in let e : i ≡ s = λ j. record { 0 = n j } in
      ap (λ (x : ServerId). (server_step script.space (server_of script x older) input).state) e
      ∙ sym (cond-true (same_server i s) (server_step script.space (server_of script s older) input).state (server_of script s older) t)))
      (λ t. sym (cond-false (same_server i s) (server_step script.space (server_of script s older) input).state (server_of script s older) t))

  -- where all stand after, with other servers
  abbrev with-servers : (ServerId → ServerState) → World
  with-servers M = world (record (after (scene script older) i step.state step.notes step.posts) { servers = M; known = known2 })

  -- what is kept with them
  record KeptWith (M : ServerId → ServerState) : Type 0 where
    pub chained : Chained script (with-servers M) (step.posts ++ posts_of older)
    pub fixed : (key : List ℕ) (v : ℕ) → Fixed script (world (scene script older)) key v → Fixed script (with-servers M) key v
        × (upto v (line_notes key (line_of key older) step.notes) ≡ upto v (line_of key older))

  -- what a step keeps whose keys and posts are true
  pub server-kept : Served (scene script older) asked i step.state step.notes step.posts
      → KeptAfter script valid older epochs known2 had (Server i) input step.posts step.notes
  server-kept served =
      let now = after (scene script older) i step.state step.notes step.posts in
      let calm = calm-stays now now.posts known2 (λ p j. inr j) (λ p j. j) wider.still
      (λ d h. elim (wider.only d h) [ inl a ↦ a | inr e ↦ subst (IsKnown script older) (sym e) epochs.known.newest ])
      served.stays.ordered served.stays.keys in
      let r = subst KeptWith (λ j s. servers-are s j) (record {
        chained = record {
          ordered = calm.ordered;
          keyed = calm.keys;
          valid = λ p j. calm.valid p.from p.to p.message (elim (in-append step.posts (posts_of older) p j)
              [ inl k ↦ (served.posts p k).valid | inr k ↦ served.stays.valid p.from p.to p.message (had.valid p k) ]);
        };
        fixed = λ key v f. (calm.fixed key v (served.stays.fixed key v f), served.same key v f);
      }) in
      record { chained = r.chained; fixed = r.fixed }

-- ---- all runs

-- what a message that is delivered asks for
is-delivered : (x : Entry) (id : PostId) (from : Actor) (m : Message) → x.input ≡ Deliver id from m → IsAsked (delivered x) from m
is-delivered x id from (a_message.Call epoch number op) = by from
  where
    by : (from : Actor) → x.input ≡ Deliver id from (a_message.Call epoch number op) → IsAsked (delivered x) from (a_message.Call epoch number op)
    by (Session u) e = record { id = id; epoch = epoch; op = op; input = e }
    by other e = tt
is-delivered x id from (a_message.Ask epoch number g terms) = λ e. (id, e)
is-delivered x id from other = λ e. tt

-- an entry of a server keeps all keys
serves : (script : Script) → IsScript script → (x : Entry) (older : List Entry) → IsRun script (x ∷ older)
    → Chained script (world (scene script older)) (posts_of older) → (i : ServerId) → x.actor ≡ Server i
    → let step = server_step script.space (server_of script i older) x.input in Served (scene script older) (delivered x) i step.state step.notes step.posts
serves script valid x older run had i acts =
    let epochs = epochs-run script valid older run.1 in
    let snapshots = snapshots-kept script valid older run.1 in
    let may = subst (λ (a : Actor). MayTake older a x.input) acts run.0.input in
    input-served (scene script older) (delivered x) valid.space had.ordered had.keyed epochs.epochs i
    (subst (λ (a : Actor). is_actor script a ≡ true) acts run.0.actor, subst (λ (a : Actor). has_halted script older a ≡ false) acts run.0.running)
    (epochs.shaped i) (snapshots.joinable i) x.input
    (λ id from m e. let j = arrived id older (post from (Server i) m) (subst (MayTake older (Server i)) e may) in record {
      posted = j;
      valid = had.valid (post from (Server i) m) j;
      sends = snapshots.carried (post from (Server i) m) j;
      asks = is-delivered x id from m e;
    })

module _ (script : Script) (valid : IsScript script) where
  -- what an entry keeps
  entry-kept : (x : Entry) (older : List Entry) (run : IsRun script (x ∷ older)) (had : Chained script (world (scene script older)) (posts_of older))
      (epochs : EpochsRun script older)
      → KeptAfter script valid older epochs (IsKnown script (x ∷ older)) had x.actor x.input x.outputs x.notes
  entry-kept x older run had epochs = by x.actor refl
    where
      by : (a : Actor) → x.actor ≡ a → KeptAfter script valid older epochs (IsKnown script (x ∷ older)) had x.actor x.input x.outputs x.notes
      by Coordinator e = elsewhere-kept script valid older epochs had x run.0 (λ i q. (let z : Coordinator ≡ Server i = sym e ∙ q in cc))
      by (Session u) e = elsewhere-kept script valid older epochs had x run.0 (λ i q. (let z : Session u ≡ Server i = sym e ∙ q in cc))
      by (Server i) e =
          subst (λ (a : Actor). KeptAfter script valid older epochs (IsKnown script (x ∷ older)) had a x.input x.outputs x.notes) (sym e)
          (subst (λ (m : Output). KeptAfter script valid older epochs (IsKnown script (x ∷ older)) had (Server i) x.input m.posts m.notes)
          (made-by script x older run (Server i) e)
          (server-kept script valid older epochs (IsKnown script (x ∷ older))
          (subst (λ (a : Actor). Widens (IsKnown script older) (IsKnown script (x ∷ older)) (coordinator_of script older).config
          (coordinator_after a x.input (coordinator_of script older)).config) e (widens script valid older epochs x run.0)) had i x.input (delivered x)
          (serves script valid x older run had i e)))

  -- every run keeps all keys and posts
  pub chained-run : (t : List Entry) → IsRun script t → Chained script (world (scene script t)) (posts_of t)
  chained-run [] run = start-chained script valid
  chained-run (x ∷ older) run = (entry-kept x older run (chained-run older run.1) (epochs-run script valid older run.1)).chained

  -- what is fixed stays so, and the line up to it
  pub fixed-run : (x : Entry) (older : List Entry) → IsRun script (x ∷ older) → (key : List ℕ) (v : ℕ) → Fixed script (world (scene script older)) key v
      → Fixed script (world (scene script (x ∷ older))) key v × (upto v (line_of key (x ∷ older)) ≡ upto v (line_of key older))
  fixed-run x older run key v f = (entry-kept x older run (chained-run older run.1) (epochs-run script valid older run.1)).fixed key v f

  -- what a server assigns
  pub lines-run : (x : Entry) (older : List Entry) → IsRun script (x ∷ older) → (i : ServerId) → x.actor ≡ Server i
      → (key : List ℕ) → (line_of key (x ∷ older) ≡ line_of key older) ⊎ Assigns (scene script older) (delivered x) key (line_of key (x ∷ older))
  lines-run x older run i e key = subst (λ (m : Output). (line_notes key (line_of key older) m.notes ≡ line_of key older)
      ⊎ Assigns (scene script older) (delivered x) key (line_notes key (line_of key older) m.notes)) (made-by script x older run (Server i) e)
      ((serves script valid x older run (chained-run older run.1) i e).lines key)

  -- what is said of its posts
  pub posted-run : (x : Entry) (older : List Entry) → IsRun script (x ∷ older) → (i : ServerId) → x.actor ≡ Server i → (p : Post) → IsIn p x.outputs
      → let step = server_step script.space (server_of script i older) x.input in
      Posted (scene script older) (delivered x) i step.state (world (after (scene script older) i step.state step.notes step.posts)) p
  posted-run x older run i e p j = (serves script valid x older run (chained-run older run.1) i e).posts p
      (subst (λ (ps : List Post). IsIn p ps) (sym (ap (λ (m : Output). m.posts) (made-by script x older run (Server i) e))) j)

  -- a reply to a get answers the call that arrives, and rows the ask
  pub late-run : (x : Entry) (older : List Entry) → IsRun script (x ∷ older) → (i : ServerId) → x.actor ≡ Server i → (p : Post) → IsIn p x.outputs
      → Late (scene script older) (delivered x) i p.to p.message
  late-run x older run i e p j = (posted-run x older run i e p j).late
