-- Updates and acknowledgements that a server hears by its own configuration, and calls that it takes as leader.
use Rattle.std.proofs.Common.{◌≡◌, ℕ, ◌+◌, ◌-◌, ◌≤◌, ◌⊎◌, inl, inr, true, false, List, [], ◌∷◌, length, Option, None, Some, refl, sym, ap, ◌∙◌, subst, arith}
use Rattle.std.proofs.Common.{eqb, leb}
use Rattle.std.specs.Option.{option_map}
use Rattle.std.proofs.lemmas.Bool.{cases_Bool, cases_eq, cond-false, cond-true, cond_both, eq-eqb, leb-true}
use Rattle.hx_model.specs.Types.{At, Caller, Decision, Get, Note, Op, Place, Post, RegionId, ServerId, Space, Update, Version}
use Rattle.hx_types.specs.declared.outcomes.Decision.TheVariants as a_decision
use Rattle.hx_types.specs.declared.traces.Note.TheVariants as a_note
use Rattle.hx_types.specs.Words.{IsIn, same_region, same_text, when_some}
use Rattle.hx_types.specs.Configs.{head_of, leads}
use Rattle.hx_types.specs.Effects.{is_write, key_of}
use Rattle.hx_types.specs.Fitting.{call_of}
use Rattle.hx_types.specs.Subspaces.{is_key_region}
use Rattle.hx_model.specs.Lines.{line_object, upto}
use Rattle.hx_model.specs.Leading.{StuckAt, decide, stuck_of}
use Rattle.hx_model.specs.Neighbours.{region_at}
use Rattle.hx_model.specs.Places.{key_place}
use Rattle.hx_model.specs.Regions.{key_region}
use Rattle.hx_model.specs.ServerSteps.{Replica, ServerState, SlotContext, SlotStep, accepting, ack_step, ack_to, at_slot, by_moves, by_posts, call_step}
use Rattle.hx_model.specs.ServerSteps.{decided, doubt_in, get_answer, get_step, known_to, next_at, prev_at, replica_of, reply, state_in, update_step}
use Rattle.hx_model.specs.ServerSteps.{waiting_doubt, with_slot, write_step}
use Rattle.hx_model.specs.Slots.{KeyState, Move, acknowledged, follows, has_place, object_in, object_of, offered, pending_of, place_in, top_of}
use Rattle.hx_model.proofs.Lemmas.{same_text_self}
use Rattle.hx_model.specs.Causes.{pending_at}
use Rattle.hx_law_lemmas.proofs.Lemmas as law_lemmas
use Rattle.hx_law_lemmas.proofs.Lemmas.{More, in-provided, in-upto, length-upto, passes-key, replica-here, same-key, slot-found, slot-here, slot_of, state-key}
use Rattle.hx_law_lemmas.proofs.Lemmas.{version-there, with_slot_at}
use Rattle.hx_law_lemmas.specs.Words.{noted}
use Rattle.hx_law_folds.specs.Folding.{IsSlotOf}
use Rattle.hx_law_folds.proofs.Lemmas.{decide-same}
use Rattle.hx_law_epochs.proofs.Lemmas.{Installed}
use Rattle.hx_law_chains.proofs.Allowed.{ack-own, update-own}
use Rattle.hx_law_chains.proofs.Assigning.{assign-own, below, cut-lawful, cut-more}
use Rattle.hx_law_chains.proofs.Doubts.{decide-stuck, get-sure, sure-says}
use Rattle.hx_law_chains.proofs.Ending.{lead-along}
use Rattle.hx_law_chains.proofs.Holders.{NoSnap}
use Rattle.hx_law_chains.proofs.Keys.{Below}
use Rattle.hx_law_chains.proofs.Leader.{Decided, decided-is, steady-lawful}
use Rattle.hx_law_chains.proofs.Moves.{AllAllowed, Own}
use Rattle.hx_law_chains.proofs.Posts.{Committed, Seat, Seated}
use Rattle.hx_law_chains.proofs.Saying.{ack-fine, doubt-fine, reply-fine}
use Rattle.hx_law_chains.proofs.Serving.{Posted, Served, Stage, fine-posted, installed-then, may-own, seated-now, st, world}
use Rattle.hx_law_chains.proofs.Shown.{floor-part, object-same, shows-line}
use Rattle.hx_law_chains.proofs.SlotPosts.{each-acked, each-one}
use Rattle.hx_law_chains.proofs.Slotted.{moving-served, posts-served, quiet-served}
use Rattle.hx_law_chains.proofs.Telling.{pending-found, stuck-tells}
use Rattle.hx_law_chains.proofs.World.{AckOk, Along, Law, Lawful, Told, UpdateOk, around, context, law-of, lawful-made, lawful-numbered, lawful-upto}

-- an update whose first place is its key's follows there on the version before its own
follows-first : (space : Space) (key : List ℕ) (n : ℕ) (u : Update) (rest : List Place) → u.places ≡ key_place space key u.object n ∷ rest
    → follows (key_region space key) n u ≡ true
follows-first space key n u rest e =
    let g = key_region space key in
    let is_next = λ (o : Option Place). when_some (option_map (λ (p : Place). p.after.0) o) false (λ after. eqb after n) in
    ap (λ (ps : List Place). is_next (place_in g ps)) e
    ∙ ap is_next (cond-true (same_region g g) (Some (key_place space key u.object n)) (place_in g rest) (eq-eqb g.0 g.0 refl))
    ∙ eq-eqb n n refl

module _ (stage : Stage) (r : Replica) (found : replica_of r.region stage.replicas ≡ Some r) (installed : r.installed ≡ true) where
  open stage use {scene as e, asked, valid, ordered as o, keys as ok, server as i, up as here}

  -- the replica was installed
  there : Installed (e.servers i) r.region
  there = installed-then stage r.region (record { replica = r; found = found; installed = installed })

  -- it is a seat
  abbrev seated : Seated
  seated = seated-now stage r.region (record { replica = r; found = found; installed = installed })

  -- with its slots
  abbrev seat : Seat e.script (world e) r.region i
  seat = seated.seat

  -- where its slots stand
  abbrev at : SlotContext
  at = context e.script (world e) r.region i

  -- the slot of a key
  abbrev t : List ℕ → KeyState
  t key = state_in e.script.space r key

  -- what a step of it keeps
  abbrev pub Keeps : List ℕ → SlotStep → Type 0
  Keeps key x = let step = at_slot (st stage) r (t key) x in Served e asked i step.state step.notes step.posts

  -- an update that the server hears from the replica before
  pub update-served : (x : ServerId) (u : Update) → UpdateOk e.script (world e) u.key x r.region i u → (n : ℕ) → prev_at at u ≡ At x n
      → Keeps u.key (update_step at (t u.key) u)
  update-served x u h n heard =
      cond_both (leb u.version.0 (top_of (t u.key))) (by_posts (known_to at (t u.key) u)) (by_moves at (accepting at (t u.key) (offered r.region (t u.key) u)))
      (Keeps u.key)
      (λ b. posts-served stage r found installed u.key (known_to at (t u.key) u) (λ p j.
      let k = in-provided (leb u.version.0 (t u.key).floor) (ack_to at u (prev_at at u)) p j in
      let z = h.heard (record { config = (e.servers i).config; may = may-own stage; listed = o.home r.region i there; place = n; at = heard }) in
      let c : Committed seated u = record {
        known = record { stands = z.stands; placed = h.route.placed; low = leb-true u.version.0 (top_of (t u.key)) b };
        done = leb-true u.version.0 (t u.key).floor k.0;
      } in (
        fine-posted e asked i (with_slot (st stage) r (t u.key)) (world e) p
            (ack-fine seated (with_slot (st stage) r (t u.key)) u c p k.1),
        each-acked at (λ p. NoSnap p.message) u (λ y m q. tt) p k.1,
      )))
      (λ b. quiet-served stage r found installed u.key (accepting at (t u.key) (offered r.region (t u.key) u))
      (update-own e.script valid (world e) o u.key (ok u.key) r.region i here there (t u.key) (seat.held u.key) x u h n heard))

  -- an acknowledgement that it hears from the replica after, of the region that it names
  pub ack-served : (x : ServerId) (by : RegionId) (key : List ℕ) (v : ℕ) (h : AckOk e.script (world e) key x by r.region i v) (n : ℕ)
      → next_at at h.update ≡ At x n → region_at h.update.places n ≡ by → Keeps key (ack_step at (t key) v)
  ack-served x by key v h n heard region = quiet-served stage r found installed key (acknowledged (t key) v)
      (ack-own e.script valid (world e) o key (ok key) r.region i here there (t key) (seat.held key) x by v h n heard region)

  -- ---- a call at the leader
  module _ (key : List ℕ) (leads_it : leads e.script.space (e.servers i).config i r.region ≡ true)
      (is_key : r.region ≡ key_region e.script.space key) (head : head_of (e.servers i).config r.region ≡ Some i)
      (slot : IsSlotOf r.region (state_in e.script.space r key)) (marks : (state_in e.script.space r key).marks ≡ true)
      (caller : Caller) (op : Op) (called : call_of e.script caller ≡ Some op) (on_key : key_of op ≡ Some key) (asks : asked.call caller) where
    -- the line
    abbrev line : List Update
    line = e.line key

    -- its law
    abbrev law : Lawful e.script e.known key line
    law = (ok key).lawful

    -- what the leader relies on
    abbrev own0 : Own line r.region (around e.script (world e) key r.region i) (t key)
    own0 = (ok key).own r.region i (t key) (seat.held key)

    -- the state after a step that moves nothing
    abbrev q0 : ServerState
    q0 = with_slot (st stage) r (t key)

    -- what is said of a post where nothing moves
    abbrev Good : Post → Type 0
    Good p = Posted e asked i q0 (world e) p × NoSnap p.message

    -- in the key's region
    own1 : Own line (key_region e.script.space key) (around e.script (world e) key r.region i) (t key)
    own1 = subst (λ (g : RegionId). Own line g (around e.script (world e) key r.region i) (t key)) is_key own0

    -- its top
    abbrev n : ℕ
    n = top_of (t key)

    -- the line up to it
    abbrev us : List Update
    us = upto n line

    -- that has the law
    pub us-law : Lawful e.script e.known key us
    us-law = lawful-upto e.script e.known key n line law

    -- the slot has its key
    key-is : (t key).base.key ≡ key
    key-is = state-key (is_key_region e.script.space r.region) key r.states

    -- what is committed along chains isn't above the leader's floor
    late-floor : (v : ℕ) → v ≤ length line → Along e.script (world e) key v → v ≤ (t key).floor
    late-floor v l a = elim (cases_eq v 0) [
      | inl z ↦ omega (arith, z)
      | inr d ↦ (let u = version-there line (lawful-numbered e.script e.known key line law) v (omega (arith, d)) l in
          let w = law-of e.script e.known key line u.0 law u.1 in
          let q = u.2 in
          let b = a u.0 u.1 (omega (arith, q)) r.region i (t key) (seat.held key)
          (ap (λ (g : RegionId). has_place g u.0) is_key ∙ passes-key e.script.space key w.0 u.0 w.1.made) in
          omega (arith, b, q))
    ]

    -- ---- a get
    get-served : is_write op ≡ false → Keeps key (get_step at (t key) caller)
    get-served reads = posts-served stage r found installed key _ (each-one Good _ (
      record {
        valid = told;
        late = λ key' get. (asks, λ v l a. late key' get v l a);
        says = sure-says e.script q0 i at caller (record { 0 = (t key).floor }) (get_answer (object_in (object_of r.region (t key))))
            (get-sure (object_in (object_of r.region (t key))));
      },
      tt,
    ))
      where
        the-call : (op' : Op) → call_of e.script caller ≡ Some op' → op ≡ op'
        the-call op' q = (let s : Some op ≡ Some op' = sym called ∙ q in cc)

        answer : get_answer (object_in (object_of r.region (t key))) ≡ get_answer (line_object (upto (t key).floor line))
        answer =
            ap (λ (g : RegionId). get_answer (object_in (object_of g (t key)))) is_key
            ∙ ap (λ o. get_answer (object_in o)) (object-same e.script.space key line (lawful-made e.script e.known key line law)
            (around e.script (world e) key r.region i) (t key) own1 (subst (λ (g : RegionId). IsSlotOf g (t key)) is_key slot) marks key-is)
            ∙ ap get_answer (law_lemmas.kept-line e.script.space key (upto (t key).floor us)
            (law_lemmas.lawful-steady e.script key (upto (t key).floor us)
            (steady-lawful e.script valid e.known key (upto (t key).floor us) (lawful-upto e.script e.known key (t key).floor us us-law))))
            ∙ ap (λ (l : List Update). get_answer (line_object l))
            (floor-part e.script.space key line (lawful-made e.script e.known key line law) (around e.script (world e) key r.region i) (t key) own1
            (subst (λ (g : RegionId). IsSlotOf g (t key)) is_key slot) marks key-is)

        told : (op' : Op) (key' : List ℕ) → call_of e.script caller ≡ Some op' → key_of op' ≡ Some key'
            → Told e.script (world e) key' caller (record { 0 = (t key).floor }) (get_answer (object_in (object_of r.region (t key)))) op'
        told op' key' called' on_key' =
            let z = same-key op op' key key' (sym called ∙ called') on_key on_key' in
            let x = the-call op' called' in
            subst (λ (k : List ℕ). Told e.script (world e) k caller (record { 0 = (t key).floor }) (get_answer (object_in (object_of r.region (t key)))) op') z
            (inr (inr (
              sym (ap is_write x) ∙ reads,
              (let a = own0.content.floor in let b = own0.top_line in omega
                  (arith, a, b)),
              answer,
              lead-along seated key is_key head,
            )))

        late : (key' : List ℕ) → call_of e.script caller ≡ Some (Get key') → (v : ℕ) → v ≤ length (e.line key') → Along e.script (world e) key' v
            → v ≤ (t key).floor
        late key' get v =
            let z = same-key op (Get key') key key' (sym called ∙ get) on_key refl in
            subst (λ (k : List ℕ). v ≤ length (e.line k) → Along e.script (world e) k v → v ≤ (t key).floor) z (late-floor v)

    -- the step of a decision
    abbrev Decides : Decision → Type 0
    Decides d = Keeps key (decided at (t key) caller d)

    -- an update that is committed is answered again
    again-served : (u : Update) → IsIn u us → u.caller ≡ caller → u.version.0 ≤ (t key).floor → Decides (a_decision.Again u.version u.answer)
    again-served u j c l = posts-served stage r found installed key (reply at caller u.version u.answer ∷ [])
        (each-one Good (reply at caller u.version u.answer) (subst (λ (y : Caller). Good (reply at y u.version u.answer)) c (
          fine-posted e asked i q0 (world e) (reply at u.caller u.version u.answer)
              (reply-fine seated q0 u known (is_key ∙ ap (key_region e.script.space) (sym uk)) head),
          tt,
        )))
      where
        stands : IsIn u line
        stands = in-upto n line u j

        made : (older : List Update) × Law e.script e.known key older u
        made = law-of e.script e.known key line u law stands

        uk : u.key ≡ key
        uk = made.1.made.key_is

        known : Committed seated u
        known = record {
          known = record {
            stands = subst (λ (k : List ℕ). IsIn u (e.line k)) (sym uk) stands;
            placed = ap (λ (g : RegionId). has_place g u) is_key ∙ passes-key e.script.space key made.0 u made.1.made;
            low = subst (λ (k : List ℕ). u.version.0 ≤ top_of (state_in e.script.space r k)) (sym uk) (let f = own0.content.floor in omega (arith, f, l));
          };
          done = subst (λ (k : List ℕ). u.version.0 ≤ (state_in e.script.space r k).floor) (sym uk) l;
        }

    -- the next update is assigned
    module _ (u : Update) (u_law : Law e.script e.known key us u) (u_caller : u.caller ≡ caller) where
      abbrev ms : List Move
      ms = accepting at (t key) (offered r.region (t key) u)

      abbrev notes : List Note
      notes = a_note.Assigned u ∷ []

      -- the line after
      abbrev line1 : List Update
      line1 = u ∷ us

      -- how many updates the leader has
      count : length us ≡ n
      count = length-upto n line (lawful-numbered e.script e.known key line law) own0.top_line

      version : u.version.0 ≡ n + 1
      version = (let v = u_law.made.version in let c = count in omega (arith, v, c))

      others : (j : List ℕ) → same_text key j ≡ false → noted e.line notes j ≡ e.line j
      others j f = cond-false (same_text u.key j) (u ∷ upto (u.version.0 - 1) (e.line j)) (e.line j) (ap (λ (k : List ℕ). same_text k j) u_law.made.key_is ∙ f)

      line-is : noted e.line notes key ≡ u ∷ upto (u.version.0 - 1) line
      line-is = cond-true (same_text u.key key) (u ∷ upto (u.version.0 - 1) line) line
          (ap (λ (k : List ℕ). same_text k key) u_law.made.key_is ∙ same_text_self key)

      line-now : noted e.line notes key ≡ line1
      line-now = line-is ∙ ap (λ m. u ∷ upto m line) (let v = version in let q : u.version.0 - 1 ≡ n = omega (arith, v) in q)

      -- the slot is held
      held1 : (world e).holds key (key_region e.script.space key) i (t key)
      held1 = subst (λ (g : RegionId). (world e).holds key g i (t key)) is_key (seat.held key)

      -- it alone
      only1 : (x : KeyState) → (world e).holds key (key_region e.script.space key) i x → x ≡ t key
      only1 x h = seat.only key x (subst (λ (g : RegionId). (world e).holds key g i x) (sym is_key) h)

      -- the server heads the key's region
      head1 : head_of (e.servers i).config (key_region e.script.space key) ≡ Some i
      head1 = ap (head_of (e.servers i).config) (sym is_key) ∙ head

      -- the replica is installed there
      there1 : Installed (e.servers i) (key_region e.script.space key)
      there1 = subst (Installed (e.servers i)) is_key there

      below1 : Below e.script (world e) key n
      below1 = below e.script valid (world e) o key (ok key) i here there1 (t key) held1 only1 head1

      follow : follows (key_region e.script.space key) n u ≡ true
      follow =
          let law = (steady-lawful e.script valid e.known key line1 (u_law, us-law)).0.lawful in
          ap (λ m. follows (key_region e.script.space key) m u) (sym count) ∙ follows-first e.script.space key (length us) u law.rest law.places

      more-now : More n line (noted e.line notes key)
      more-now = subst (More n line) (sym line-now)
          (cut-more e.script valid (world e) o key (ok key) i here there1 (t key) held1 only1 head1 u u_law version follow)

      lawful-now : Lawful e.script e.known key (noted e.line notes key)
      lawful-now = subst (Lawful e.script e.known key) (sym line-now)
          (cut-lawful e.script valid (world e) o key (ok key) i here there1 (t key) held1 only1 head1 u u_law version follow)

      allowed-now : AllAllowed (noted e.line notes key) r.region (around e.script (world e) key r.region i) (t key) ms
      allowed-now = subst (λ (l : List Update). AllAllowed l r.region (around e.script (world e) key r.region i) (t key) ms) (sym line-now)
          (subst (λ (g : RegionId). AllAllowed line1 g (around e.script (world e) key g i) (t key)
          (accepting (context e.script (world e) g i) (t key) (offered g (t key) u))) (sym is_key)
          (assign-own e.script valid (world e) o key (ok key) i here there1 (t key) held1 only1 head1 u u_law version follow))

      assign-served : Decides (a_decision.Assign u)
      assign-served = moving-served stage r found installed key ms notes others n more-now lawful-now below1 allowed-now
          (inr (record {
            update = u;
            asks = subst asked.call (sym u_caller) asks;
            above = λ v f. (let b = below1.fixed v f in let z = version in omega (arith, b, z));
            line = line-is;
          }))

    -- what the leader decides on a write
    module _ (writes : is_write op ≡ true) where
      abbrev Choice : Decision → Type 0
      Choice = Decided e.script valid e.known key us us-law (t key).marks (t key).floor (t key).acked (t key).early (e.servers i).config (o.own i)
          caller op called writes on_key

      decides : decide e.script.space (e.servers i).config r.region (t key) caller op ≡ decide e.script.space (e.servers i).config
          (key_region e.script.space key) (slot_of (t key).marks key us (t key).floor (t key).acked (t key).early) caller op
      decides =
          ap (λ (g : RegionId). decide e.script.space (e.servers i).config g (t key) caller op) is_key
          ∙ decide-same e.script.space (e.servers i).config (key_region e.script.space key) (t key)
          (slot_of (t key).marks key us (t key).floor (t key).acked (t key).early) marks
          (shows-line e.script.space key line (lawful-made e.script e.known key line law) (around e.script (world e) key r.region i) (t key) own1
          (subst (λ (g : RegionId). IsSlotOf g (t key)) is_key slot) marks key-is) caller op

      -- it is one of these
      choice : Choice (decide e.script.space (e.servers i).config r.region (t key) caller op)
      choice = subst Choice (sym decides) (decided-is e.script valid e.known key us us-law (t key).marks (t key).floor (t key).acked (t key).early
          (e.servers i).config (o.own i) caller op called writes on_key)

    -- what is pending stays so where nothing moves
    pending-is : pending_at e.script.space q0 key ≡ pending_of (t key)
    pending-is =
        let f = subst (λ (x : RegionId). replica_of x stage.replicas ≡ Some r) is_key found in
        let n = replica-here (key_region e.script.space key) (with_slot_at r (t key)) stage.replicas r is_key f in
        pending-found e.script.space q0 key (with_slot_at r (t key)) n
        ∙ ap pending_of (sym (slot-found e.script.space (key_region e.script.space key) key q0 (with_slot_at r (t key)) n)
        ∙ slot-here e.script.space (key_region e.script.space key) key (st stage) r (t key) f (state-key (is_key_region e.script.space r.region) key r.states))

    -- a doubt that a stuck version brings
    doubts : is_write op ≡ true → (x : StuckAt) → stuck_of (e.servers i).config (t key) ≡ Some x → (v : Version) → (v.0 ≡ 0) ⊎ (x.version.0 ≤ v.0)
        → Good (doubt_in at caller v x.region)
    doubts writes x stuck v low = (
      fine-posted e asked i q0 (world e) (doubt_in at caller v x.region)
          (doubt-fine e.script (world e) r.region i q0 caller op called writes v x.region
          (stuck-tells e.script i at q0 key (t key) x refl (ap (leads e.script.space (e.servers i).config i) (sym is_key) ∙ leads_it) pending-is stuck
          caller op called on_key v low)),
      tt,
    )

    -- a write
    write-served : is_write op ≡ true → Keeps key (write_step at (t key) caller op)
    write-served writes = by (decide e.script.space (e.servers i).config r.region (t key) caller op) refl (choice writes)
      where
        waits : (v : Version) (o : Option StuckAt) → stuck_of (e.servers i).config (t key) ≡ o → (p : Post) → IsIn p (waiting_doubt at caller v o) → Good p
        waits v None f p j = absurd j
        waits v (Some x) f p j = (let k = in-provided (leb x.version.0 v.0) (doubt_in at caller v x.region ∷ []) p j in
            each-one Good (doubt_in at caller v x.region) (doubts writes x f v (inr (leb-true x.version.0 v.0 k.0))) p k.1)

        stuck : (g : RegionId) → decide e.script.space (e.servers i).config r.region (t key) caller op ≡ a_decision.Stuck g
            → (p : Post) → IsIn p (doubt_in at caller (record { 0 = 0 }) g ∷ []) → Good p
        stuck g is = (let w = decide-stuck e.script.space (e.servers i).config r.region (t key) caller op g is in
            each-one Good (doubt_in at caller (record { 0 = 0 }) g)
            (subst (λ (h : RegionId). Good (doubt_in at caller (record { 0 = 0 }) h)) w.2 (doubts writes w.0 w.1 (record { 0 = 0 }) (inl refl))))

        by : (d : Decision) → decide e.script.space (e.servers i).config r.region (t key) caller op ≡ d → Choice writes d → Decides d
        by d is (inl z) = subst Decides (sym z) (posts-served stage r found installed key [] (λ p j. absurd j))
        by d is (inr (inl (inl z))) = subst Decides (sym z.1)
            (posts-served stage r found installed key (waiting_doubt at caller z.0 (stuck_of (e.servers i).config (t key)))
            (waits z.0 (stuck_of (e.servers i).config (t key)) refl))
        by d is (inr (inl (inr z))) = subst Decides (sym z.1)
            (posts-served stage r found installed key (doubt_in at caller (record { 0 = 0 }) z.0 ∷ []) (stuck z.0 (is ∙ z.1)))
        by d is (inr (inr (inl z))) = subst Decides (sym z.4) (again-served z.0 z.1 z.2 z.3)
        by d is (inr (inr (inr z))) = subst Decides (sym z.3) (assign-served z.0 z.1 z.2)

    -- a call
    pub call-served : Keeps key (call_step at (t key) caller op)
    call-served = elim (cases_Bool (is_write op)) [
      | inl z ↦ subst (Keeps key) (sym (cond-true (is_write op) (write_step at (t key) caller op) (get_step at (t key) caller) z)) (write-served z)
      | inr z ↦ subst (Keeps key) (sym (cond-false (is_write op) (write_step at (t key) caller op) (get_step at (t key) caller) z)) (get-served z)
    ]
