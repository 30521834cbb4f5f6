-- An entry of the coordinator or of a server keeps what a run says of calls.
use Rattle.hx_law_lemmas.proofs.Lemmas.Vocabulary.{[], Actor, Answer, ap, arith, call_of, Caller, Entry, Epoch, false, Get, inl, inr, is_doubt, IsIn, key_of}
use Rattle.hx_law_lemmas.proofs.Lemmas.Vocabulary.{line_of, List, Op, post, posts_of, Script, Session, session_of, SessionId, SessionState, Some, subst, sym}
use Rattle.hx_law_lemmas.proofs.Lemmas.Vocabulary.{true, Update, Version, ℕ, ◌<◌, ◌∙◌, ◌∷◌, ◌≡◌, ◌≤◌, ◌⊎◌}
use Rattle.hx_types.specs.declared.messages.Message.TheVariants as a_message
use Rattle.hx_law_lemmas.proofs.Lemmas.{in-append, in_right, BeganAt, EndedAt}
use Rattle.hx_law_searches.proofs.Calls.{Calls, EndedFirst, IsKnown, WasPosted, ended-known}

-- ---- an entry of no session
module _ (script : Script) (older : List Entry) (calls : Calls script older) (x : Entry)
    (no_session : (u : SessionId) → x.actor ≡ Session u → ⊥)
    (same_session : (u : SessionId) → session_of script u (x ∷ older) ≡ session_of script u older)
    (no_calls : (u : SessionId) (to : Actor) (epoch : Epoch) (number : ℕ) (op : Op) → IsIn (post (Session u) to (a_message.Call epoch number op)) x.outputs → ⊥)
    (replies : (from : Actor) (c : Caller) (v : Version) (a : Answer) (key : List ℕ)
    → IsIn (post from (Session c.session) (a_message.Reply c.number v a)) x.outputs → call_of script c ≡ Some (Get key)
    → WasPosted older c × ((n : ℕ) → IsKnown script older key n → n ≤ v.0))
    (updates : (key : List ℕ) (u : Update) → IsIn u (line_of key (x ∷ older)) → IsIn u (line_of key older)
    ⊎ (WasPosted older u.caller × ((n : ℕ) → IsKnown script older key n → n < u.version.0))) where
  -- ends and begins are earlier
  ended-before : (c : Caller) (v : Version) (a : Answer) (n : ℕ) → EndedAt (x ∷ older) c v a n → EndedAt older c v a n
  ended-before c v a n (inl h) = absurd (no_session c.session h.0)
  ended-before c v a n (inr h) = h

  -- a begin is an earlier one
  began-before : (c : Caller) (n : ℕ) → BeganAt (x ∷ older) c n → BeganAt older c n
  began-before c n (inl h) = absurd (no_session c.session h.0)
  began-before c n (inr h) = h

  -- calls that come in order did so before
  first-before : (a : Caller) (v : Version) (answer : Answer) (b : Caller) → EndedFirst (x ∷ older) a v answer b → EndedFirst older a v answer b
  first-before a v answer b (inl h) = absurd (no_session b.session h.0)
  first-before a v answer b (inr h) = h

  -- a call was posted before
  call-before : (u : SessionId) (to : Actor) (epoch : Epoch) (number : ℕ) (op : Op)
      → IsIn (post (Session u) to (a_message.Call epoch number op)) (posts_of (x ∷ older))
      → IsIn (post (Session u) to (a_message.Call epoch number op)) (posts_of older)
  call-before u to epoch number op i = elim (in-append x.outputs (posts_of older)
      (post (Session u) to (a_message.Call epoch number op)) i) [ inl j ↦ absurd (no_calls u to epoch number op j) | inr j ↦ j ]

  -- what was posted stays so
  posted-still : (c : Caller) → WasPosted older c → WasPosted (x ∷ older) c
  posted-still c w = (w.0, w.1, w.2, in_right x.outputs (posts_of older) _ w.3)

  -- who was called has begun
  posted-begun : (c : Caller) → WasPosted older c → (n : ℕ) × BeganAt older c n
  posted-begun c w = (calls.sent c.session w.0 w.1 c.number w.2 w.3).begun

  -- who ended first was told
  known-end : (a : Caller) (v : Version) (answer : Answer) (b : Caller) → EndedFirst older a v answer b
      → (op : Op) (key : List ℕ) → call_of script a ≡ Some op → key_of op ≡ Some key → is_doubt answer ≡ false
      → IsKnown script older key v.0
  known-end a v answer b f op key called on_key sure =
      let e = ended older f in ended-known script older a v answer (calls.replied a v answer e.0 e.1) op key called on_key sure
    where
      ended : (t : List Entry) → EndedFirst t a v answer b → (n : ℕ) × EndedAt t a v answer n
      ended [] h = absurd h
      ended (y ∷ ys) (inl h) = (h.2.0, inr h.2.1)
      ended (y ∷ ys) (inr h) = let r = ended ys h in (r.0, inr r.1)

  -- all that a run says of calls
  pub other_calls : Calls script (x ∷ older)
  other_calls = record {
    began_low = λ c n h. (let r = calls.began_low c n (began-before c n h) in
        (subst (λ (s : SessionState). c.number ≤ s.begun) (sym (same_session c.session)) r.0, omega (arith, r.1)));
    ended_low = λ c v a n h. (let r = calls.ended_low c v a n (ended-before c v a n h) in
        let p = subst (λ (s : SessionState). (c.number ≤ s.begun) × (s.under_way ≡ true → c.number < s.begun))
        (sym (same_session c.session)) (r.0, r.1) in (p.0, p.1, omega (arith, r.2)));
    running = λ u w. (let r = calls.running u (ap (λ (s : SessionState). s.under_way) (sym (same_session u)) ∙ w) in
        (r.0, inr (subst (λ (s : SessionState). BeganAt older (record { session = u; number = s.begun }) r.0) (sym (same_session u)) r.1)));
    replied = λ c v a n h op key called on_key. elim (calls.replied c v a n (ended-before c v a n h) op key called on_key) [
      | inl r ↦ inl (r.0, in_right x.outputs (posts_of older) _ r.1)
      | inr r ↦ inr (r.0, elim r.1 [ inl z ↦ inl z | inr z ↦ inr (z.0, λ w to epoch op i. z.1 w to epoch op (call-before c.session to epoch c.number op i)) ])
    ];
    sent = λ u to epoch number op i. (let r = calls.sent u to epoch number op (call-before u to epoch number op i) in record {
      called = r.called;
      begun = (r.begun.0, inr r.begun.1);
      sent = subst (λ (s : SessionState). s.begun ≡ number → s.under_way ≡ true → s.sent ≡ true) (sym (same_session u)) r.sent;
    });
    asked = λ from c v a key i called. elim (in-append x.outputs (posts_of older) (post from (Session c.session) (a_message.Reply c.number v a)) i) [
      | inl j ↦ (let r = posted-begun c (replies from c v a key j called).0 in (r.0, inr r.1))
      | inr j ↦ (let r = calls.asked from c v a key j called in (r.0, inr r.1))
    ];
    lined = λ key u i. elim (updates key u i) [ inl j ↦ posted-still u.caller (calls.lined key u j) | inr r ↦ posted-still u.caller r.0 ];
    ordered = λ a v answer b h op key called on_key sure. (let f = first-before a v answer b h in
        let old = calls.ordered a v answer b f op key called on_key sure in
        let s = known-end a v answer b f op key called on_key sure in
        record {
          updates = λ u i e. elim (updates key u i) [ inl j ↦ old.updates u j e | inr r ↦ r.1 v.0 s ];
          replies = λ from w z i get. elim (in-append x.outputs (posts_of older) (post from (Session b.session) (a_message.Reply b.number w z)) i) [
            | inl j ↦ (replies from b w z key j get).1 v.0 s
            | inr j ↦ old.replies from w z j get
          ];
        });
  }
