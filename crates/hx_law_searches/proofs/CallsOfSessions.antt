-- An entry of a session keeps what a run says of calls.
use Rattle.hx_law_lemmas.proofs.Lemmas.Vocabulary.{Actor, Answer, ap, arith, Bool, call_of, Caller, calls_of, cases_eq, cond-false, Deliver, Entry, Epoch, eqb}
use Rattle.hx_law_lemmas.proofs.Lemmas.Vocabulary.{false, inl, Input, inr, is_doubt, is_write, IsIn, key_of, length, line_of, List, MayTake, ne_eqb, None}
use Rattle.hx_law_lemmas.proofs.Lemmas.Vocabulary.{numbered, Op, Post, post, PostId, posts_of, refl, Script, Session, session_after, session_of, SessionId}
use Rattle.hx_law_lemmas.proofs.Lemmas.Vocabulary.{SessionState, Some, subst, sym, true, true≢false, Update, Version, ℕ, ◌+◌, ◌<◌, ◌∙◌, ◌∷◌, ◌≡◌, ◌≤◌}
use Rattle.hx_types.specs.declared.messages.Message.TheVariants as a_message
use Rattle.hx_types.specs.declared.traces.Note.TheVariants as a_note
use Rattle.hx_law_lemmas.proofs.Lemmas.{in-append, in_right, CallStop, EndsNow, goes_on, started, started_same, was_running, BeganAt, EndedAt, arrived}
use Rattle.hx_law_lemmas.proofs.Lemmas.{SessionTurn, begins_now, ends_now, keeps_lines, may_start}
use Rattle.hx_law_chains.proofs.Lemmas.{AreNamed}
use Rattle.hx_law_searches.proofs.Calls.{CallSent, Calls, EndedFirst, Ends, LaterThan, NoCall, WasPosted}

-- ---- an entry of a session
module _ (script : Script) (older : List Entry) (named : AreNamed script older) (calls : Calls script older)
    (x : Entry) (u : SessionId) (acts : x.actor ≡ Session u)
    (input : MayTake older (Session u) x.input)
    (turn : SessionTurn x.input (session_of script u older) (record { state = session_of script u (x ∷ older); posts = x.outputs; notes = x.notes })) where
  -- the state before the entry
  abbrev s : SessionState
  s = session_of script u older

  -- the state after a begin
  abbrev mid : SessionState
  mid = started turn.start s

  -- the state after the entry
  abbrev after : SessionState
  after = session_of script u (x ∷ older)

  -- another session stays
  other : (v : SessionId) → (v ≡ u → ⊥) → session_of script v (x ∷ older) ≡ session_of script v older
  other v ne =
      ap (λ (a : Actor). session_after script.space v a x.input (session_of script v older)) acts
      ∙ cond-false (eqb u.0 v.0) _ (session_of script v older) (ne_eqb u.0 v.0 (λ e. ne (λ i. record { 0 = sym e i })))

  -- a fact on the states, by the one that changed and the others
  by_state : (P : SessionId → SessionState → Type 0) → P u after → ((v : SessionId) → (v ≡ u → ⊥) → P v (session_of script v older))
      → (v : SessionId) → P v (session_of script v (x ∷ older))
  by_state P h f v = elim (cases_eq v.0 u.0) [
    | inl e ↦ (let q : v ≡ u = λ i. record { 0 = e i } in subst (λ (w : SessionId). P w (session_of script w (x ∷ older))) (sym q) h)
    | inr ne ↦ (let far : v ≡ u → ⊥ = λ q. ne (ap (λ (w : SessionId). w.0) q) in subst (λ (t : SessionState). P v t) (sym (other v far)) (f v far))
  ]

  -- lines stay
  same_line : (key : List ℕ) → line_of key (x ∷ older) ≡ line_of key older
  same_line key = keeps_lines _ _ _ turn key (line_of key older)

  -- the session of an own note
  own : (c : Caller) → x.actor ≡ Session c.session → c.session ≡ u
  own c e = let q : Session c.session ≡ Session u = sym e ∙ acts in cc

  -- an end leaves the number of the last call begun
  begun_is : after.begun ≡ mid.begun
  begun_is = turn.turn.begun

  -- numbers don't fall
  mid_up : s.begun ≤ mid.begun
  mid_up = elim (may_start _ _ _ turn) [ inl r ↦ omega arith | inr r ↦ omega arith ]

  -- nor does any session's
  begun_up : (v : SessionId) → (session_of script v older).begun ≤ (session_of script v (x ∷ older)).begun
  begun_up = by_state (λ v t. (session_of script v older).begun ≤ t.begun) (omega (arith, begun_is, mid_up)) (λ v ne. omega arith)

  -- the number of a call that begins now
  now_begun : (m : ℕ) → IsIn (a_note.Began m) x.notes → (m ≡ s.begun + 1) × (mid.begun ≡ s.begun + 1)
  now_begun m i = let r = begins_now _ _ _ turn m i in (r.0, ap (λ b. (started b s).begun) r.1)

  -- what is under way after a begin has begun
  mid_began : mid.under_way ≡ true → (n : ℕ) × BeganAt (x ∷ older) (record { session = u; number = mid.begun }) n
  mid_began w = elim (may_start _ _ _ turn) [
    | inl r ↦ (let b = calls.running u (sym r.1 ∙ w) in (b.0, inr (subst (λ (k : ℕ). BeganAt older (record { session = u; number = k }) b.0) (sym r.0) b.1)))
    | inr r ↦ (length older + 1, inl (acts, r.1, refl))
  ]

  -- the calls are the script's
  mid_calls : mid.calls ≡ calls_of script u
  mid_calls = (started_same turn.start s).1 ∙ (named u).1

  -- the session is this one
  mid_id : mid.id ≡ u
  mid_id = (started_same turn.start s).0 ∙ (named u).0

  -- the operation of the call under way is the script's
  mid_called : (op : Op) → numbered mid.calls mid.begun ≡ Some op → call_of script (record { session = u; number = mid.begun }) ≡ Some op
  mid_called op e = ap (λ (l : List Op). numbered l mid.begun) (sym mid_calls) ∙ e

  -- what has begun has no higher number, and no later entry
  began_low : (c : Caller) (n : ℕ) → BeganAt (x ∷ older) c n → (c.number ≤ (session_of script c.session (x ∷ older)).begun) × (n ≤ length (x ∷ older))
  began_low c n (inl h) =
      let m = now_begun c.number h.1 in
      (subst (λ (v : SessionId). c.number ≤ (session_of script v (x ∷ older)).begun) (sym (own c h.0)) (omega (arith, m, begun_is)), omega (arith, h.2))
  began_low c n (inr h) =
      let r = calls.began_low c n h in (omega (arith, r.0, begun_up c.session), omega (arith, r.1))

  -- a call that ends now is the one under way
  now_ended : (c : Caller) (v : Version) (a : Answer) → IsIn (a_note.Ended c.number v a) x.notes → EndsNow mid turn.turn.stop c.number v a
  now_ended c v a i = ends_now _ _ _ turn c.number v a i

  -- then none is
  not_running : (e : CallStop) → turn.turn.stop ≡ Some e → after.under_way ≡ true → ⊥
  not_running e q w = let r : after.under_way ≡ false = turn.turn.under_way ∙ ap (λ o. goes_on o mid.under_way) q in true≢false (sym w ∙ r)

  -- an ended call is no higher than the last begun, and below it while that one is under way
  abbrev Low : Caller → SessionState → Type 0
  Low c t = (c.number ≤ t.begun) × (t.under_way ≡ true → c.number < t.begun)

  -- what ended before stays low
  low_before : (c : Caller) → Low c s → Low c after
  low_before c l = (
    omega (arith, l.0, begun_is, mid_up),
    λ w. elim (may_start _ _ _ turn) [
      | inl r ↦ (let b = l.1 (sym r.1 ∙ was_running turn.turn.stop mid.under_way (sym turn.turn.under_way ∙ w)) in omega (arith, b, begun_is, r.0))
      | inr r ↦ omega (arith, l.0, begun_is, r.0)
    ],
  )

  -- each ended call is low
  ended_low : (c : Caller) (v : Version) (a : Answer) (n : ℕ) → EndedAt (x ∷ older) c v a n
      → (c.number ≤ (session_of script c.session (x ∷ older)).begun)
      × ((session_of script c.session (x ∷ older)).under_way ≡ true → c.number < (session_of script c.session (x ∷ older)).begun)
      × (n ≤ length (x ∷ older))
  ended_low c v a n (inl h) =
      let m = now_ended c v a h.1 in
      let l : Low c after = (omega (arith, m.number, begun_is), λ w. absurd (not_running _ m.stop_is w)) in
      let r = subst (λ (t : SessionId). Low c (session_of script t (x ∷ older))) (sym (own c h.0)) l in
      (r.0, r.1, omega (arith, h.2))
  ended_low c v a n (inr h) =
      let r = calls.ended_low c v a n h in
      let t = by_state (λ w t. c.session ≡ w → Low c t)
      (λ q. low_before c (subst (λ (w : SessionId). Low c (session_of script w older)) q (r.0, r.1)))
      (λ w ne q. subst (λ (w : SessionId). Low c (session_of script w older)) q (r.0, r.1))
      c.session refl in
      (t.0, t.1, omega (arith, r.2))

  -- what is under way has begun
  running : (v : SessionId) → (session_of script v (x ∷ older)).under_way ≡ true
      → (n : ℕ) × BeganAt (x ∷ older) (record { session = v; number = (session_of script v (x ∷ older)).begun }) n
  running = by_state (λ v t. t.under_way ≡ true → (n : ℕ) × BeganAt (x ∷ older) (record { session = v; number = t.begun }) n)
      (λ w. (let r = mid_began (was_running turn.turn.stop mid.under_way (sym turn.turn.under_way ∙ w)) in
      (r.0, subst (λ (k : ℕ). BeganAt (x ∷ older) (record { session = u; number = k }) r.0) (sym begun_is) r.1)))
      (λ v ne w. (let r = calls.running v w in (r.0, inr r.1)))

  -- a call that is posted now is the one under way, which is sent and doesn't end
  now-called : (v : SessionId) (to : Actor) (epoch : Epoch) (number : ℕ) (op : Op) → IsIn (post (Session v) to (a_message.Call epoch number op)) x.outputs
      → (v ≡ u) × (number ≡ mid.begun) × (mid.under_way ≡ true) × (numbered mid.calls mid.begun ≡ Some op) × (after.sent ≡ true) × (after.under_way ≡ true)
  now-called v to epoch number op i =
      let r = turn.turn.says (post (Session v) to (a_message.Call epoch number op)) i in
      let q : Session v ≡ Session u = r.0 ∙ ap Session mid_id in
      (cc, r.1.0, r.1.1, r.1.2, r.1.3, r.1.4)

  -- what was sent before and is still under way counts as sent
  still-sent : (number : ℕ) (op : Op) → CallSent script older u number op → after.begun ≡ number → after.under_way ≡ true → after.sent ≡ true
  still-sent number op c e w = elim (may_start _ _ _ turn) [
    | inl r ↦ turn.turn.sent_kept (by turn.start refl r)
    | inr r ↦ absurd (let b = (calls.began_low (record { session = u; number = number }) c.begun.0 c.begun.1).0 in omega (arith, b, e, begun_is, r.0))
  ]
    where
      by : (b : Bool) → turn.start ≡ b → ((started turn.start s).begun ≡ s.begun)
          × ((started turn.start s).under_way ≡ s.under_way) → (started turn.start s).sent ≡ true
      by false q r = ap (λ b. (started b s).sent) q
          ∙ c.sent (sym r.0 ∙ sym begun_is ∙ e) (sym r.1 ∙ was_running turn.turn.stop mid.under_way (sym turn.turn.under_way ∙ w))
      by true q r = absurd (let z : s.begun + 1 ≡ s.begun = ap (λ b. (started b s).begun) (sym q) ∙ r.0 in omega (arith, z))

  -- each call that was posted
  sent-after : (v : SessionId) (to : Actor) (epoch : Epoch) (number : ℕ) (op : Op)
      → IsIn (post (Session v) to (a_message.Call epoch number op)) (posts_of (x ∷ older))
      → CallSent script (x ∷ older) v number op
  sent-after v to epoch number op i = elim (in-append x.outputs (posts_of older) (post (Session v) to (a_message.Call epoch number op)) i) [
    | inl j ↦ (let r = now-called v to epoch number op j in
        subst (λ (y : SessionId). CallSent script (x ∷ older) y number op) (sym r.0)
        (subst (λ k. CallSent script (x ∷ older) u k op) (sym r.1) (record { called = mid_called op r.3; begun = mid_began r.2; sent = λ e w. r.4 })))
    | inr j ↦ old (calls.sent v to epoch number op j)
  ]
    where
      old : CallSent script older v number op → CallSent script (x ∷ older) v number op
      old c = record {
        called = c.called;
        begun = (c.begun.0, inr c.begun.1);
        sent = by_state (λ y t. v ≡ y → t.begun ≡ number → t.under_way ≡ true → t.sent ≡ true)
            (λ q. still-sent number op (subst (λ (y : SessionId). CallSent script older y number op) q c))
            (λ y ne q. subst (λ (z : SessionId). (session_of script z older).begun ≡ number
            → (session_of script z older).under_way ≡ true → (session_of script z older).sent ≡ true) q c.sent) v refl;
      }

  -- a call that has ended isn't posted again
  no-more : (c : Caller) (v : Version) (a : Answer) (n : ℕ) → EndedAt older c v a n → NoCall older c → NoCall (x ∷ older) c
  no-more c v a n h none to epoch op i = elim (in-append x.outputs (posts_of older) (post (Session c.session) to (a_message.Call epoch c.number op)) i) [
    | inl j ↦ (let r = now-called c.session to epoch c.number op j in
        let l = calls.ended_low c v a n h in
        let low = subst (λ (y : SessionId). (c.number ≤ (session_of script y older).begun)
        × ((session_of script y older).under_way ≡ true → c.number < (session_of script y older).begun)) r.0 (l.0, l.1) in
        elim (may_start _ _ _ turn) [
          | inl z ↦ (let b = low.1 (sym z.1 ∙ r.2) in omega (arith, b, r.1, z.0))
          | inr z ↦ (let b = low.0 in omega (arith, b, r.1, z.0))
        ])
    | inr j ↦ none to epoch op j
  ]

  -- where a write that wasn't sent ends now, it was never posted
  never-posted : (c : Caller) → c.session ≡ u → c.number ≡ mid.begun → mid.under_way ≡ true → mid.sent ≡ false → after.under_way ≡ false → NoCall (x ∷ older) c
  never-posted c own m running unsent over to epoch op i =
      elim (in-append x.outputs (posts_of older) (post (Session c.session) to (a_message.Call epoch c.number op)) i) [
        | inl j ↦ (let r = now-called c.session to epoch c.number op j in true≢false (sym r.5 ∙ over))
        | inr j ↦ (let k = subst (λ (y : SessionId). CallSent script older y c.number op) own (calls.sent c.session to epoch c.number op j) in
            elim (may_start _ _ _ turn) [
              | inl z ↦ by turn.start refl z k
              | inr z ↦ (let b = (calls.began_low (record { session = u; number = c.number }) k.begun.0 k.begun.1).0 in omega (arith, b, m, z.0))
            ])
      ]
    where
      by : (b : Bool) → turn.start ≡ b → ((started turn.start s).begun ≡ s.begun)
          × ((started turn.start s).under_way ≡ s.under_way) → CallSent script older u c.number op → ⊥
      by false q z k = true≢false (sym (ap (λ b. (started b s).sent) q ∙ k.sent (sym z.0 ∙ sym m) (sym z.1 ∙ running)) ∙ unsent)
      by true q z k = (let w : s.begun + 1 ≡ s.begun = ap (λ b. (started b s).begun) (sym q) ∙ z.0 in omega (arith, w))

  -- how each call ended
  replied : (c : Caller) (v : Version) (a : Answer) (n : ℕ) → EndedAt (x ∷ older) c v a n → Ends script (x ∷ older) c v a
  replied c v a n (inr h) op key called on_key = elim (calls.replied c v a n h op key called on_key) [
    | inl r ↦ inl (r.0, in_right x.outputs (posts_of older) _ r.1)
    | inr r ↦ inr (r.0, elim r.1 [ inl z ↦ inl z | inr z ↦ inr (z.0, λ w. no-more c v a n h (z.1 w)) ])
  ]
  replied c v a n (inl h) op key called on_key =
      let m = now_ended c v a h.1 in
      elim (turn.turn.cause _ m.stop_is) [
        | inl r ↦ inl (r.1, in_right x.outputs (posts_of older) _ (heard r.0 r.1 r.2 m.number))
        | inr (inl r) ↦ absurd (no_key r.0 r.1 r.2 m.number)
        | inr (inr r) ↦ inr (
          r.2,
          elim r.3 [
            | inl z ↦ inl (z.0, sym (ap is_write (same-op r.0 r.1 m.number)) ∙ z.1)
            | inr z ↦ inr (
              z.0,
              λ w. never-posted c (own c h.0) m.number (turn.turn.running _ m.stop_is)
                  (z.1 (ap is_write (same-op r.0 r.1 m.number) ∙ w))
                  (turn.turn.under_way ∙ ap (λ o. goes_on o mid.under_way) m.stop_is),
            )
          ],
        )
      ]
    where
      heard : (id : PostId) (from : Actor) → x.input ≡ Deliver id from (a_message.Reply mid.begun v a) → c.number ≡ mid.begun
          → IsIn (post from (Session c.session) (a_message.Reply c.number v a)) (posts_of older)
      heard id from e m =
          let i = arrived id older (post from (Session u) (a_message.Reply mid.begun v a)) (subst (λ (y : Input). MayTake older (Session u) y) e input) in
          subst (λ (p : Post). IsIn p (posts_of older)) (λ j. post from (Session (sym (own c h.0) j)) (a_message.Reply (sym m j) v a)) i

      same-op : (o : Op) → numbered mid.calls mid.begun ≡ Some o → c.number ≡ mid.begun → o ≡ op
      same-op o e m =
          let q : call_of script c ≡ Some o = ap (call_of script) (λ j. record { session = own c h.0 j; number = m j }) ∙ mid_called o e in
          let z : Some o ≡ Some op = sym q ∙ called in cc

      no_key : (o : Op) → numbered mid.calls mid.begun ≡ Some o → key_of o ≡ None → c.number ≡ mid.begun → ⊥
      no_key o e none m = let r = same-op o e m in let w : Some key ≡ None = sym on_key ∙ ap key_of (sym r) ∙ none in cc

  -- it replies to nobody
  no_reply : (from to : Actor) (m : ℕ) (v : Version) (a : Answer) → IsIn (post from to (a_message.Reply m v a)) (posts_of (x ∷ older))
      → IsIn (post from to (a_message.Reply m v a)) (posts_of older)
  no_reply from to m v a i = elim (in-append x.outputs (posts_of older) _ i) [
    | inl j ↦ absurd ((turn.turn.says _ j).1)
    | inr j ↦ j
  ]

  -- the caller of each update was called
  lined : (key : List ℕ) (w : Update) → IsIn w (line_of key (x ∷ older)) → WasPosted (x ∷ older) w.caller
  lined key w i = let r = calls.lined key w (subst (λ (l : List Update). IsIn w l) (same_line key) i) in
      (r.0, r.1, r.2, in_right x.outputs (posts_of older) _ r.3)

  -- calls in the order of time stay so
  later_kept : (v : ℕ) (b : Caller) (key : List ℕ) → LaterThan script older v b key → LaterThan script (x ∷ older) v b key
  later_kept v b key old = record {
    updates = λ w i c. old.updates w (subst (λ (l : List Update). IsIn w l) (same_line key) i) c;
    replies = λ from w a i called. old.replies from w a (no_reply from (Session b.session) b.number w a i) called;
  }

  -- a call that begins now has not begun before
  new_call : (b : Caller) (n : ℕ) → x.actor ≡ Session b.session → IsIn (a_note.Began b.number) x.notes → BeganAt older b n → ⊥
  new_call b n e i h =
      let m = now_begun b.number i in
      let r = calls.began_low b n h in
      let o : b.number ≤ s.begun = subst (λ (w : SessionId). b.number ≤ (session_of script w older).begun) (own b e) r.0 in
      omega (arith, m.0, o)

  -- calls that come in order by this entry are
  ordered : (a : Caller) (v : Version) (answer : Answer) (b : Caller) → EndedFirst (x ∷ older) a v answer b
      → (op : Op) (key : List ℕ) → call_of script a ≡ Some op
      → key_of op ≡ Some key → is_doubt answer ≡ false → LaterThan script (x ∷ older) v.0 b key
  ordered a v answer b (inr f) op key called on_key sure = later_kept v.0 b key (calls.ordered a v answer b f op key called on_key sure)
  ordered a v answer b (inl h) op key called on_key sure = record {
    updates = λ w i c. (let p = calls.lined key w (subst (λ (l : List Update). IsIn w l) (same_line key) i) in
        let r = (calls.sent w.caller.session p.0 p.1 w.caller.number p.2 p.3).begun in
        absurd (new_call b r.0 h.0 h.1 (subst (λ (d : Caller). BeganAt older d r.0) c r.1)));
    replies = λ from w z i get. (let r = calls.asked from b w z key
        (no_reply from (Session b.session) b.number w z i) get in absurd (new_call b r.0 h.0 h.1 r.1));
  }

  -- all that a run says of calls
  pub session_calls : Calls script (x ∷ older)
  session_calls = record {
    began_low = began_low;
    ended_low = ended_low;
    running = running;
    replied = replied;
    sent = sent-after;
    asked = λ from c v a key i get. (let r = calls.asked from c v a key (no_reply from (Session c.session) c.number v a i) get in (r.0, inr r.1));
    lined = lined;
    ordered = ordered;
  }
