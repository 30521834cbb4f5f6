-- What an installed replica posts with its moves is true and is about writes: updates to the next replica, acknowledgements to the one before, and answers.
use Rattle.std.proofs.Common.{◌≡◌, ℕ, ◌≤◌, inl, true, List, ◌++◌, Some, refl, sym, ap, ◌∙◌, subst}
use Rattle.std.specs.Prelude.{⊤}
use Rattle.std.specs.List.{flat_map}
use Rattle.hx_model.specs.Types.{Actor, Caller, Message, Op, Post, RegionId, Script, ServerId, Update, Version}
use Rattle.hx_types.specs.declared.messages.Message.TheVariants as a_message
use Rattle.hx_types.specs.Words.{IsIn}
use Rattle.hx_types.specs.Configs.{head_of}
use Rattle.hx_types.specs.Effects.{is_write}
use Rattle.hx_types.specs.Fitting.{call_of}
use Rattle.hx_model.specs.Regions.{key_region}
use Rattle.hx_model.specs.ServerSteps.{ServerState, SlotContext, ack_to, doubt_in, move_posts, passed_on, prev_at, reply, told_to}
use Rattle.hx_model.specs.Slots.{Acknowledge, Commit, Forget, Hold, Move, Take, has_place, top_of}
use Rattle.hx_law_lemmas.proofs.Lemmas.{at_session, passes-key, places-apart}
use Rattle.hx_law_epochs.proofs.Lemmas.{number-region, placed-number, previous-none}
use Rattle.hx_law_chains.proofs.Doubts.{Says, law-sure, sure-says}
use Rattle.hx_law_chains.proofs.Ending.{reply-told}
use Rattle.hx_law_chains.proofs.Holders.{NoSnap}
use Rattle.hx_law_chains.proofs.Keys.{lined}
use Rattle.hx_law_chains.proofs.Moves.{Promise, accepted-in}
use Rattle.hx_law_chains.proofs.Places.{key-first}
use Rattle.hx_law_chains.proofs.Posts.{Committed, Known, Seated, acked, passed}
use Rattle.hx_law_chains.proofs.SlotPosts.{each-acked, each-both, each-moved, each-passed, each-pending, each-told}
use Rattle.hx_law_chains.proofs.World.{Law, Valid, World, around, context, law-of, lawful-made}

-- no snapshot is posted with moves
pub moves-nosnap : (at : SlotContext) (ms : List Move) (p : Post) → IsIn p (flat_map (move_posts at) ms) → NoSnap p.message
moves-nosnap at ms = each-moved at (λ p. NoSnap p.message) ms (λ u j. each-passed at (λ p. NoSnap p.message) u (λ y n e. tt))
    (λ u j. each-told at (λ p. NoSnap p.message) u (λ y n e. tt) (λ e. tt))

-- nor of what goes on
pub resumed-nosnap : (at : SlotContext) (us : List Update) (ms : List Move) (p : Post)
    → IsIn p (flat_map (passed_on at) us ++ flat_map (move_posts at) ms) → NoSnap p.message
resumed-nosnap at us ms = each-both (λ p. NoSnap p.message) (flat_map (passed_on at) us) (flat_map (move_posts at) ms)
    (each-pending at (λ p. NoSnap p.message) us (λ u j. each-passed at (λ p. NoSnap p.message) u (λ y n e. tt))) (moves-nosnap at ms)

-- ---- what is true of them

-- a reply is about a write; nobody is called, and no rows are shown
abbrev pub OfWrite : Script → Actor → Message → Type 0
OfWrite script to (a_message.Reply number v a) =
    at_session to (λ u. (op : Op) → call_of script (record { session = u; number = number }) ≡ Some op → is_write op ≡ true)
OfWrite script to (a_message.Found epoch number g rows) = ⊥
OfWrite script to (a_message.Call epoch number op) = ⊥
OfWrite script to other = ⊤

-- a post is true, about a write, and tells of doubts as the server's state has them
pub record Fine (script : Script) (w : World) (i : ServerId) (q : ServerState) (p : Post) : Type 0 where
  pub valid : Valid script w p.from p.to p.message
  pub writes : OfWrite script p.to p.message
  pub says : Says script q i p

-- a call is about a write
pub is-of-write : (script : Script) (caller : Caller) (op : Op) → call_of script caller ≡ Some op → is_write op ≡ true
    → (op' : Op) → call_of script caller ≡ Some op' → is_write op' ≡ true
is-of-write script caller op called writes op' called' =
    let z : Some op ≡ Some op' = sym called ∙ called' in
    let o : op ≡ op' = cc in
    ap is_write (sym o) ∙ writes

module _ (seated : Seated) where
  open seated use {script, valid, world as w, ordered as o, keys as ok, region as g, server as i, seat}

  -- the law of an update that the replica has accepted
  abbrev pub law : (u : Update) → Known seated u → (older : List Update) × Law script w.known u.key older u
  law u k = law-of script w.known u.key (w.line u.key) u (ok u.key).lawful k.stands

  -- what the replica has accepted of a key stands in its line, with a place there
  pub accepted-here : (key : List ℕ) (u : Update) → IsIn u (seat.slot key).accepted
      → IsIn u (w.line key) × (has_place g u ≡ true) × (u.version.0 ≤ top_of (seat.slot key))
  accepted-here key u = accepted-in (w.line key) g (around script w key g i) (lined script w key (w.line key) (ok key).lawful g) (seat.slot key) u
      ((ok key).own g i (seat.slot key) (seat.held key))

  -- so it is of that key
  pub key-in : (key : List ℕ) (u : Update) → IsIn u (seat.slot key).accepted → u.key ≡ key
  key-in key u j = (law-of script w.known key (w.line key) u (ok key).lawful (accepted-here key u j).0).1.made.key_is

  -- and it is known
  pub known-in : (key : List ℕ) (u : Update) → IsIn u (seat.slot key).accepted → Known seated u
  known-in key u j =
      let a = accepted-here key u j in
      let e = key-in key u j in
      record {
        stands = subst (λ (y : List ℕ). IsIn u (w.line y)) (sym e) a.0;
        placed = a.1;
        low = subst (λ (y : List ℕ). u.version.0 ≤ top_of (seat.slot y)) (sym e) a.2;
      }

  -- what is known of the update of a move once it is made
  abbrev pub MoveOk : Move → Type 0
  MoveOk (Take u) = Known seated u
  MoveOk (Hold u) = ⊤
  MoveOk (Acknowledge v) = ⊤
  MoveOk (Commit u) = Committed seated u
  MoveOk Forget = ⊤

  -- a promise says so
  pub promise-ok : (key : List ℕ) (m : Move) → Promise (w.line key) g (around script w key g i) (seat.slot key) m → MoveOk m
  promise-ok key (Hold u) h = tt
  promise-ok key (Acknowledge v) h = tt
  promise-ok key Forget h = tt
  promise-ok key (Take u) h =
      let e = (law-of script w.known key (w.line key) u (ok key).lawful h.0).1.made.key_is in
      record {
        stands = subst (λ (j : List ℕ). IsIn u (w.line j)) (sym e) h.0;
        placed = h.1;
        low = subst (λ (j : List ℕ). u.version.0 ≤ top_of (seat.slot j)) (sym e) h.2;
      }
  promise-ok key (Commit u) h =
      let e = (law-of script w.known key (w.line key) u (ok key).lawful h.0).1.made.key_is in
      record {
        known = record {
          stands = subst (λ (j : List ℕ). IsIn u (w.line j)) (sym e) h.0;
          placed = h.1;
          low = subst (λ (j : List ℕ). u.version.0 ≤ top_of (seat.slot j)) (sym e) h.2;
        };
        done = subst (λ (j : List ℕ). u.version.0 ≤ (seat.slot j).floor) (sym e) h.4;
      }

  module _ (q : ServerState) where
    -- an update that the replica has accepted, to the next
    pub passed-fine : (u : Update) → Known seated u → (p : Post) → IsIn p (passed_on (context script w g i) u) → Fine script w i q p
    passed-fine u k = each-passed (context script w g i) (Fine script w i q) u
        (λ y n e. record { valid = passed seated u k y n e; writes = tt; says = tt })

    -- an acknowledgement to the previous replica
    pub ack-fine : (u : Update) → Committed seated u → (p : Post)
        → IsIn p (ack_to (context script w g i) u (prev_at (context script w g i) u)) → Fine script w i q p
    ack-fine u c = each-acked (context script w g i) (Fine script w i q) u
        (λ y n e. record { valid = acked seated u c y n e; writes = tt; says = tt })

    -- an answer of a committed update
    pub reply-fine : (u : Update) → Committed seated u → g ≡ key_region script.space u.key → head_of (w.own i) g ≡ Some i
        → Fine script w i q (reply (context script w g i) u.caller u.version u.answer)
    reply-fine u c z head =
        let l = law u c.known in
        record {
          valid = λ op key called on_key. reply-told seated u c z head op key called on_key;
          writes = is-of-write script u.caller l.1.op l.1.called l.1.writes;
          says = sure-says script q i (context script w g i) u.caller u.version u.answer (law-sure script w.known u.key l.0 u l.1);
        }

    -- what is told of a committed update
    pub told-fine : (u : Update) → Committed seated u → (p : Post)
        → IsIn p (told_to (context script w g i) u (prev_at (context script w g i) u)) → Fine script w i q p
    told-fine u c = each-told (context script w g i) (Fine script w i q) u
        (λ y n e. record { valid = acked seated u c y n e; writes = tt; says = tt })
        (λ e. let l = law u c.known in
        let apart = places-apart script.space valid u.key (w.line u.key) (lawful-made script w.known u.key (w.line u.key) (ok u.key).lawful) u c.known.stands in
        let here = placed-number u.places g c.known.placed in
        let key_here = placed-number u.places (key_region script.space u.key) (passes-key script.space u.key l.0 u l.1.made) in
        let r = previous-none (w.own i) u.places apart (o.differ (w.own i) (o.own i)) g here i (o.home g i seat.installed) e in
        reply-fine u c
        (number-region (w.own i) u.places apart (o.differ (w.own i) (o.own i)) g (key_region script.space u.key) here key_here
        (r.0 ∙ sym (key-first script.space u.key l.0 u l.1.made)))
        r.1)

    -- what is posted with moves that were made
    pub moves-fine : (ms : List Move) → ((m : Move) → IsIn m ms → MoveOk m) → (p : Post) → IsIn p (flat_map (move_posts (context script w g i)) ms)
        → Fine script w i q p
    moves-fine ms f = each-moved (context script w g i) (Fine script w i q) ms (λ u j. passed-fine u (f (Take u) j)) (λ u j. told-fine u (f (Commit u) j))

-- a doubt about a write is true where it tells of doubts as the server's state has them
pub doubt-fine : (script : Script) (w : World) (g : RegionId) (i : ServerId) (q : ServerState) (caller : Caller) (op : Op) → call_of script caller ≡ Some op
    → is_write op ≡ true → (v : Version) (d : RegionId) → Says script q i (doubt_in (context script w g i) caller v d)
    → Fine script w i q (doubt_in (context script w g i) caller v d)
doubt-fine script w g i q caller op called writes v d says = record {
  valid = λ op' key called' on_key. inl (is-of-write script caller op called writes op' called', refl);
  writes = is-of-write script caller op called writes;
  says = says;
}
