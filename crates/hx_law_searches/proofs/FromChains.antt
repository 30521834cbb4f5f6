-- What histories and searches need of runs, from what every run keeps of chains.
use Rattle.hx_law_lemmas.proofs.Lemmas.Vocabulary.{[], Actor, Answer, AnswersGet, ap, arith, AssignsNext, call_of, Caller, cond_both, Config, coordinator_of}
use Rattle.hx_law_lemmas.proofs.Lemmas.Vocabulary.{Deliver, Entry, Epoch, Facts, false, false≢true, found_in, Get, has_halted, if_installed, inl, inr, is_actor}
use Rattle.hx_law_lemmas.proofs.Lemmas.Vocabulary.{is_key_region, is_refused, IsIn, IsLine, IsRun, IsScript, IsUpdateAfter, kept_row, key_of, KeyState, length}
use Rattle.hx_law_lemmas.proofs.Lemmas.Vocabulary.{line_of, List, members_of, None, object_of, Op, Option, part_at, post, PostId, posts_of, refl, RegionId}
use Rattle.hx_law_lemmas.proofs.Lemmas.Vocabulary.{Replica, replica_for, replica_of, Row, Script, Server, server_of, ServerId, ServerState, Session, ShowsRows}
use Rattle.hx_law_lemmas.proofs.Lemmas.Vocabulary.{Some, state_in, StaysUpTo, subst, sym, Tells, Term, true, Update, upto, Version, WasTold, ℕ, ◌∙◌, ◌∷◌, ◌≡◌}
use Rattle.hx_law_lemmas.proofs.Lemmas.Vocabulary.{◌≤◌, ◌⊎◌}
use Rattle.hx_types.specs.declared.messages.Message.TheVariants as a_message
use Rattle.hx_law_lemmas.proofs.Lemmas.{replica-found, state-there, AllMade, Differ, replica_for-found, installed-found, rows-full}
use Rattle.hx_law_lemmas.proofs.Lemmas.{rows-sound, stays-by, numbered-within as in-below}
use Rattle.hx_law_folds.specs.Folding.{IsSlotOf}
use Rattle.hx_law_chains.proofs.Lemmas.{Chained, Scene, Seat, along-fixed, chained-run, fixed-run, late-run, lines-run, replica-ascends, scene, seat-of, world}
use Rattle.hx_law_chains.proofs.Lemmas.{replica-sent, snapshots-kept, Along, Fixed, KeyOk, Law, Lawful, Told, lawful-made, lawful-numbered}
use Rattle.hx_law_epochs.proofs.Lemmas.{IsKnown, Real}
use Rattle.hx_law_searches.proofs.Fronts.{front, front-fixed, front-kept, front-reaches, front-within}

-- an update with the law stands so
after-law : (script : Script) (known : Config → Type 0) (key : List ℕ) (older : List Update) (u : Update)
    → Law script known key older u → IsUpdateAfter script key older u
after-law script known key older u l = record {
  key_is = l.made.key_is;
  version = l.made.version;
  done = l.made.done;
  places = l.made.places;
  op = l.op;
  called = l.called;
  writes = l.writes;
  on_key = l.on_key;
  effect = elim l.effect [ inl e ↦ inl e | inr e ↦ inr (ap is_refused e.1.3, e.0) ];
  newer = l.newer;
}

-- a lawful line is a line
line-lawful : (script : Script) (known : Config → Type 0) (key : List ℕ) (us : List Update) → Lawful script known key us → IsLine script key us
line-lawful script known key [] h = tt
line-lawful script known key (u ∷ us) h = (after-law script known key us u h.0, line-lawful script known key us h.1)

module _ (script : Script) (valid : IsScript script) where
  -- where all stand after a trace
  abbrev at : List Entry → Scene
  at t = scene script t

  -- what a session was told is committed along chains
  told-along : (t : List Entry) → IsRun script t → (key : List ℕ) (v : ℕ) → WasTold script t key v
      → (v ≤ length (line_of key t)) × Along script (world (at t)) key v
  told-along t run key v told =
      subst (λ n. (n ≤ length (line_of key t)) × Along script (world (at t)) key n) told.version_is
      (by ((chained-run script valid t run).valid (post told.from (Session told.caller.session)
      (a_message.Reply told.caller.number told.version told.answer)) told.posted told.op key told.called told.on_key))
    where
      by : Told script (world (at t)) key told.caller told.version told.answer told.op
          → (told.version.0 ≤ length (line_of key t)) × Along script (world (at t)) key told.version.0
      by (inl h) = absurd (false≢true (sym told.sure ∙ h.1))
      by (inr (inl h)) = (
        let b = (in-below (line_of key t) h.1.0 (lawful-numbered script (IsKnown script t) key (line_of key t)
            ((chained-run script valid t run).keyed key).lawful) h.1.1).1 in
            let e : h.1.0.version.0 ≡ told.version.0 = ap (λ (z : Version). z.0) h.1.3 in omega (arith, b, e),
        h.2,
      )
      by (inr (inr h)) = (h.1, h.3)

  -- so it is fixed
  told-fixed : (t : List Entry) → IsRun script t → (key : List ℕ) (v : ℕ) → WasTold script t key v → Fixed script (world (at t)) key v
  told-fixed t run key v told = let a = told-along t run key v told in
      along-fixed script (world (at t)) key ((chained-run script valid t run).keyed key) v a.0 a.1

  -- what is fixed stays, however the run goes on
  fixed-stays : (t : List Entry) (key : List ℕ) (v : ℕ) → Fixed script (world (at t)) key v → StaysUpTo script t key v
  fixed-stays t key v f = stays-by script (λ s. Fixed script (world (at s)) key v) key v (λ x older run h. fixed-run script valid x older run key v h) t f

  -- what a reply tells
  replies : (t : List Entry) → IsRun script t → (from : Actor) (c : Caller) (v : Version) (answer : Answer)
      → IsIn (post from (Session c.session) (a_message.Reply c.number v answer)) (posts_of t)
      → (op : Op) (key : List ℕ) → call_of script c ≡ Some op → key_of op ≡ Some key → Tells (line_of key t) c v answer op
  replies t run from c v answer i op key called on_key =
      by ((chained-run script valid t run).valid (post from (Session c.session) (a_message.Reply c.number v answer)) i
      op key called on_key)
    where
      by : Told script (world (at t)) key c v answer op → Tells (line_of key t) c v answer op
      by (inl h) = inl h
      by (inr (inl h)) = inr (inl (h.0, h.1))
      by (inr (inr h)) = inr (inr (h.0, h.1, h.2))

  -- what a server assigns
  assigns : (x : Entry) (older : List Entry) → IsRun script (x ∷ older) → (s : ServerId) → x.actor ≡ Server s
      → (key : List ℕ) → (line_of key (x ∷ older) ≡ line_of key older) ⊎ AssignsNext script older x key
  assigns x older run s acts key = elim (lines-run script valid x older run s acts key) [
    | inl e ↦ inl e
    | inr a ↦ inr (record { update = a.update; delivers = a.asks; above = λ v told. a.above v (told-fixed older run.1 key v told); line = a.line })
  ]

  -- what a get is answered
  gets : (x : Entry) (older : List Entry) → IsRun script (x ∷ older) → (s : ServerId) → x.actor ≡ Server s
      → (from : Actor) (c : Caller) (v : Version) (answer : Answer) → IsIn (post from (Session c.session) (a_message.Reply c.number v answer)) x.outputs
      → (key : List ℕ) → call_of script c ≡ Some (Get key) → AnswersGet script older x c v key
  gets x older run s acts from c v answer i key called =
      let l = late-run script valid x older run s acts (post from (Session c.session) (a_message.Reply c.number v answer)) i key called in
      record { delivers = l.0; reaches = λ n told. (let a = told-along older run.1 key n told in l.1 n a.0 a.1) }

  -- ---- rows that are found

  module _ (older : List Entry) (run : IsRun script older) (i : ServerId) (real : Real script i) (up : (server_of script i older).halted ≡ false)
      (g : RegionId) (r : Replica) (heard : if_installed (replica_for (server_of script i older) g) ≡ Some r) where
    -- the server
    abbrev st : ServerState
    st = server_of script i older

    -- the newest configuration
    abbrev c : Config
    c = (coordinator_of script older).config

    -- the replica is the server's, of the region
    found : replica_of g st.replicas ≡ Some r
    found = replica_for-found st g r (installed-found (replica_for st g) r heard)

    region : IsIn r st.replicas × (r.region ≡ g)
    region = replica-found g st.replicas r found

    -- it is installed
    installed : r.installed ≡ true
    installed = by (replica_for st g) heard
      where
        by : (o : Option Replica) → if_installed o ≡ Some r → r.installed ≡ true
        by None = λ e. absurd (cc)
        by (Some y) = cond_both y.installed (Some y) None (λ (o : Option Replica). o ≡ Some r → r.installed ≡ true)
            (λ t e. (let q : y ≡ r = cc in sym (ap (λ (z : Replica). z.installed) q) ∙ t)) (λ t e. absurd (cc))

    -- all that every run keeps of chains
    chained : Chained script (world (scene script older)) (posts_of older)
    chained = chained-run script valid older run

    -- members of a region are different servers
    differ : (h : RegionId) → Differ (members_of c h)
    differ = chained.ordered.differ c chained.ordered.newest

    -- the replica is a seat, whichever configuration its server has
    abbrev seat : Seat script (world (scene script older)) g i
    seat =
        seat-of script (Real script) (λ s. server_of script s older) c (λ key. line_of key older) (posts_of older) (IsKnown script older)
        (chained-run script valid older run).ordered g i st refl (real, up) (record { replica = r; found = found; installed = installed })

    -- all that holds of a key
    key-ok : (key : List ℕ) → KeyOk script (world (scene script older)) key
    key-ok key = chained.keyed key

    -- how far it shows each line
    abbrev reach : List ℕ → ℕ
    reach key = front script valid.space (world (scene script older)) differ g i seat key (key-ok key)

    -- the slot is one
    is-slot : (key : List ℕ) → IsSlotOf g (state_in script.space r key)
    is-slot key = subst (λ (h : RegionId). IsSlotOf h (state_in script.space r key)) region.1
        (replica-sent script.space st ((snapshots-kept script valid older run).joinable i) r region.0 key).slot

    -- it keeps what its region keeps of the line up to there
    keeps : (key : List ℕ) → object_of g (state_in script.space r key) ≡ kept_row g None (upto (reach key) (part_at g (line_of key older)))
    keeps key = front-kept script valid.space (world (scene script older)) differ g i seat key (key-ok key) (is-slot key)

    -- its slots stand in order
    ordered : (t : KeyState) → IsIn t r.states → state_in script.space r t.base.key ≡ t
    ordered t j = state-there (is_key_region script.space r.region) r.states t
        (replica-ascends script.space st ((snapshots-kept script valid older run).joinable i) r region.0) j

    -- lines go through their places
    made : (key : List ℕ) → AllMade script.space key (line_of key older)
    made key = lawful-made script (IsKnown script older) key (line_of key older) (key-ok key).lawful

    -- what it finds shows so much of each line
    shows : (x : Entry) (to : Actor) (epoch : Epoch) (number : ℕ) (id : PostId) (terms : List Term)
        → x.input ≡ Deliver id to (a_message.Ask epoch number g terms) → ShowsRows script older x to epoch number g (found_in g terms r.states)
    shows x to epoch number id terms input = record {
      id = id;
      terms = terms;
      input = input;
      front = reach;
      within = λ key. front-within script valid.space (world (scene script older)) differ g i seat key (key-ok key);
      stays = λ key. fixed-stays older key (reach key) (front-fixed script valid.space (world (scene script older)) differ g i seat key (key-ok key));
      sound = rows-sound script.space g r (λ key. line_of key older) made reach keeps ordered terms;
      full = rows-full script.space g r (λ key. line_of key older) made reach keeps ordered terms;
      reaches = λ key v told u j p l.
          front-reaches script valid.space (world (scene script older)) differ g i seat key (key-ok key) v (told-along older run key v told).1 u j p l;
    }

  -- rows are those of a replica that shows so much
  founds : (x : Entry) (older : List Entry) → IsRun script (x ∷ older) → (s : ServerId) → x.actor ≡ Server s
      → (from to : Actor) (epoch : Epoch) (number : ℕ) (g : RegionId) (rows : List Row)
      → IsIn (post from to (a_message.Found epoch number g rows)) x.outputs → ShowsRows script older x to epoch number g rows
  founds x older run s acts from to epoch number g rows j =
      let l = late-run script valid x older run s acts (post from to (a_message.Found epoch number g rows)) j in
      subst (ShowsRows script older x to epoch number g) (sym l.2.2)
      (shows older run.1 s (subst (λ (a : Actor). is_actor script a ≡ true) acts run.0.actor)
      (subst (λ (a : Actor). has_halted script older a ≡ false) acts run.0.running) g l.2.0 l.2.1
      x to epoch number l.1.0 l.0 l.1.1)

  -- all that histories and searches need
  pub facts : Facts script
  facts = record {
    lines = λ t run key. line-lawful script (IsKnown script t) key (line_of key t) ((chained-run script valid t run).keyed key).lawful;
    replies = replies;
    told_stays = λ t run key v told. fixed-stays t key v (told-fixed t run key v told);
    assigns = assigns;
    gets = gets;
    founds = founds;
  }
