-- What a run says of the begins and ends of calls, of replies and of the callers of updates.
use Rattle.hx_law_lemmas.proofs.Lemmas.Vocabulary.{[], Actor, Answer, ap, call_of, Caller, Entry, Epoch, false, Get, inl, inr, is_doubt, is_refused, is_write}
use Rattle.hx_law_lemmas.proofs.Lemmas.Vocabulary.{IsIn, key_of, length, line_of, List, no_version, Op, post, posts_of, refl, Script, Session, session_of}
use Rattle.hx_law_lemmas.proofs.Lemmas.Vocabulary.{SessionId, Some, true, Update, Version, WasTold, ℕ, ◌<◌, ◌∷◌, ◌≡◌, ◌≤◌, ◌⊎◌}
use Rattle.hx_types.specs.declared.messages.Message.TheVariants as a_message
use Rattle.hx_types.specs.declared.traces.Note.TheVariants as a_note
use Rattle.hx_law_lemmas.proofs.Lemmas.{BeganAt, EndedAt}

-- call a was ended with this version and answer before call b began
abbrev pub EndedFirst : List Entry → Caller → Version → Answer → Caller → Type 0
EndedFirst [] a v answer b = ⊥
EndedFirst (x ∷ older) a v answer b =
    ((x.actor ≡ Session b.session) × IsIn (a_note.Began b.number) x.notes × ((n : ℕ) × EndedAt older a v answer n)) ⊎ EndedFirst older a v answer b

-- the version is 0, or a session was told of it
abbrev pub IsKnown : Script → List Entry → List ℕ → ℕ → Type 0
IsKnown script t key v = (v ≡ 0) ⊎ WasTold script t key v

-- the call was never posted
abbrev pub NoCall : List Entry → Caller → Type 0
NoCall t c = (to : Actor) (epoch : Epoch) (op : Op) → IsIn (post (Session c.session) to (a_message.Call epoch c.number op)) (posts_of t) → ⊥

-- it was posted
abbrev pub WasPosted : List Entry → Caller → Type 0
WasPosted t c = (to : Actor) × (epoch : Epoch) × (op : Op) × IsIn (post (Session c.session) to (a_message.Call epoch c.number op)) (posts_of t)

-- how a call on a key ended: by a reply, in doubt, or refused where it was a get or never posted
abbrev pub Ends : Script → List Entry → Caller → Version → Answer → Type 0
Ends script t c v a =
    (op : Op) (key : List ℕ) → call_of script c ≡ Some op → key_of op ≡ Some key
    → ((from : Actor) × IsIn (post from (Session c.session) (a_message.Reply c.number v a)) (posts_of t))
    ⊎ ((v ≡ no_version) × (((is_doubt a ≡ true) × (is_write op ≡ true)) ⊎ ((is_refused a ≡ true) × (is_write op ≡ true → NoCall t c))))

-- a call that was posted is the script's, has begun, and counts as sent while it is under way
pub record CallSent (script : Script) (t : List Entry) (u : SessionId) (number : ℕ) (op : Op) : Type 0 where
  pub called : call_of script (record { session = u; number = number }) ≡ Some op
  pub begun : (n : ℕ) × BeganAt t (record { session = u; number = number }) n
  pub sent : (session_of script u t).begun ≡ number → (session_of script u t).under_way ≡ true → (session_of script u t).sent ≡ true

-- a call that began after one ended with a version: its update stands above, its get names no lower one
pub record LaterThan (script : Script) (t : List Entry) (v : ℕ) (b : Caller) (key : List ℕ) : Type 0 where
  pub updates : (u : Update) → IsIn u (line_of key t) → u.caller ≡ b → v < u.version.0
  pub replies : (from : Actor) (w : Version) (a : Answer) → IsIn (post from (Session b.session) (a_message.Reply b.number w a)) (posts_of t)
      → call_of script b ≡ Some (Get key) → v ≤ w.0

-- what all entries of a run keep
pub record Calls (script : Script) (t : List Entry) : Type 0 where
  pub began_low : (c : Caller) (n : ℕ) → BeganAt t c n → (c.number ≤ (session_of script c.session t).begun) × (n ≤ length t)
  pub ended_low : (c : Caller) (v : Version) (a : Answer) (n : ℕ) → EndedAt t c v a n
      → (c.number ≤ (session_of script c.session t).begun)
      × ((session_of script c.session t).under_way ≡ true → c.number < (session_of script c.session t).begun)
      × (n ≤ length t)
  pub running : (u : SessionId) → (session_of script u t).under_way ≡ true
      → (n : ℕ) × BeganAt t (record { session = u; number = (session_of script u t).begun }) n
  pub replied : (c : Caller) (v : Version) (a : Answer) (n : ℕ) → EndedAt t c v a n → Ends script t c v a
  pub sent : (u : SessionId) (to : Actor) (epoch : Epoch) (number : ℕ) (op : Op)
      → IsIn (post (Session u) to (a_message.Call epoch number op)) (posts_of t) → CallSent script t u number op
  pub asked : (from : Actor) (c : Caller) (v : Version) (a : Answer) (key : List ℕ)
      → IsIn (post from (Session c.session) (a_message.Reply c.number v a)) (posts_of t)
      → call_of script c ≡ Some (Get key) → (n : ℕ) × BeganAt t c n
  pub lined : (key : List ℕ) (u : Update) → IsIn u (line_of key t) → WasPosted t u.caller
  pub ordered : (a : Caller) (v : Version) (answer : Answer) (b : Caller) → EndedFirst t a v answer b → (op : Op) (key : List ℕ) → call_of script a ≡ Some op
      → key_of op ≡ Some key → is_doubt answer ≡ false → LaterThan script t v.0 b key

-- who ended without a doubt was told, or has version 0
pub ended-known : (script : Script) (t : List Entry) (c : Caller) (v : Version) (a : Answer) → Ends script t c v a
    → (op : Op) (key : List ℕ) → call_of script c ≡ Some op → key_of op ≡ Some key
    → is_doubt a ≡ false → IsKnown script t key v.0
ended-known script t c v a ends op key called on_key sure = elim (ends op key called on_key) [
  | inl r ↦ inr (record {
    from = r.0;
    caller = c;
    version = v;
    answer = a;
    op = op;
    posted = r.1;
    called = called;
    on_key = on_key;
    sure = sure;
    version_is = refl;
  })
  | inr r ↦ inl (ap (λ (y : Version). y.0) r.0)
]
