-- What every run keeps for searches: who asks is a session's search that has begun, and each part that a session has was shown to it.
use Rattle.hx_law_lemmas.proofs.Lemmas.Vocabulary.{[], Actor, ap, call_of, Caller, cases_eq, cond-false, Coordinator, Entry, Epoch, Facts}
use Rattle.hx_law_lemmas.proofs.Lemmas.Vocabulary.{false≢true, inl, inr, IsIn, IsPartOf, IsRun, List, MayTake, Message, ne_eqb, numbered, Op}
use Rattle.hx_law_lemmas.proofs.Lemmas.Vocabulary.{Post, post, posts_of, refl, RegionId, Row, same_session, Script, Search, Server, ServerId}
use Rattle.hx_law_lemmas.proofs.Lemmas.Vocabulary.{Session, session_after, session_of, session_step, SessionId, SessionState, ShowsRows, Some, subst, sym, Term}
use Rattle.hx_law_lemmas.proofs.Lemmas.Vocabulary.{true, ℕ, ⊤, ◌∙◌, ◌∷◌, ◌≡◌}
use Rattle.hx_types.specs.declared.messages.Message.TheVariants as a_message
use Rattle.hx_law_lemmas.proofs.Lemmas.{in-append, BeganAt, arrived, Asks, HasParts, SearchTurn, search-turn}
use Rattle.hx_law_epochs.specs.Senders.{IsOf}
use Rattle.hx_law_epochs.proofs.Lemmas.{entry-posts}
use Rattle.hx_law_searches.proofs.Calls.{Calls}
use Rattle.hx_law_searches.proofs.CallsKept.{calls_kept, step_is}
use Rattle.hx_law_chains.proofs.Lemmas.{named}

-- who asks is a session whose search has begun
abbrev pub AskedBy : Script → List Entry → Actor → ℕ → List Term → Type 0
AskedBy script t Coordinator number terms = ⊥
AskedBy script t (Server s) number terms = ⊥
AskedBy script t (Session u) number terms =
    (call_of script (record { session = u; number = number }) ≡ Some (Search terms)) × ((n : ℕ) × BeganAt t (record { session = u; number = number }) n)

-- rows that a server showed of a region to a search that had begun
pub record WasShown (script : Script) (t : List Entry) (c : Caller) (g : RegionId) (rows : List Row) : Type 0 where
  pub entry : Entry
  pub older : List Entry
  pub part : IsPartOf (entry ∷ older) t
  pub epoch : Epoch
  pub shows : ShowsRows script older entry (Session c.session) epoch c.number g rows
  pub called : call_of script c ≡ Some (Search shows.terms)
  pub begin : ℕ
  pub begun : BeganAt older c begin

-- rows for a session were shown to its search
abbrev pub ShownTo : Script → List Entry → Actor → ℕ → RegionId → List Row → Type 0
ShownTo script t Coordinator number g rows = ⊤
ShownTo script t (Server s) number g rows = ⊤
ShownTo script t (Session u) number g rows = WasShown script t (record { session = u; number = number }) g rows

-- what posts say of searches
abbrev pub TellsOf : Script → List Entry → Actor → Actor → Message → Type 0
TellsOf script t from to (a_message.Ask epoch number g terms) = AskedBy script t from number terms
TellsOf script t from to (a_message.Found epoch number g rows) = ShownTo script t to number g rows
TellsOf script t from to other = ⊤

-- what every run keeps
pub record Searched (script : Script) (t : List Entry) : Type 0 where
  pub parts : (u : SessionId) → HasParts script.space (λ n g rows. WasShown script t (record { session = u; number = n }) g rows) (session_of script u t)
  pub tells : (p : Post) → IsIn p (posts_of t) → TellsOf script t p.from p.to p.message

-- what was shown stays so
abbrev pub shown-up : (script : Script) (older : List Entry) (x : Entry) (c : Caller) (g : RegionId) (rows : List Row)
    → WasShown script older c g rows → WasShown script (x ∷ older) c g rows
shown-up script older x c g rows w = record {
  entry = w.entry;
  older = w.older;
  part = inr w.part;
  epoch = w.epoch;
  shows = w.shows;
  called = w.called;
  begin = w.begin;
  begun = w.begun;
}

-- so do posts
tells-up : (script : Script) (older : List Entry) (x : Entry) (from to : Actor) (m : Message)
    → TellsOf script older from to m → TellsOf script (x ∷ older) from to m
tells-up script older x from to (a_message.Ask epoch number g terms) h = by from h
  where
    by : (from : Actor) → AskedBy script older from number terms → AskedBy script (x ∷ older) from number terms
    by Coordinator h = h
    by (Server s) h = h
    by (Session u) h = (h.0, (h.1.0, inr h.1.1))
tells-up script older x from to (a_message.Found epoch number g rows) h = by to h
  where
    by : (to : Actor) → ShownTo script older to number g rows → ShownTo script (x ∷ older) to number g rows
    by Coordinator h = tt
    by (Server s) h = tt
    by (Session u) h = shown-up script older x (record { session = u; number = number }) g rows h
tells-up script older x from to other h = tt

module _ (script : Script) (facts : Facts script) (older : List Entry) (x : Entry) (run : IsRun script (x ∷ older)) (had : Searched script older) where
  -- parts that were shown stay so
  parts-up : (u : SessionId) (st : SessionState) → HasParts script.space (λ n g rows. WasShown script older (record { session = u; number = n }) g rows) st
      → HasParts script.space (λ n g rows. WasShown script (x ∷ older) (record { session = u; number = n }) g rows) st
  parts-up u st h terms w e = let p = (h terms w e).0 in (
    record {
      config = p.config;
      subspace = p.subspace;
      regions = p.regions;
      plan = p.plan;
      regions_are = p.regions_are;
      each = λ q i rows f. shown-up script older x (record { session = u; number = st.begun }) q.region rows (p.each q i rows f);
    },
    (h terms w e).1,
  )

  -- what an entry keeps
  keeps : ((u : SessionId) → HasParts script.space
      (λ n g rows. WasShown script (x ∷ older) (record { session = u; number = n }) g rows) (session_of script u (x ∷ older)))
      → ((p : Post) → IsIn p x.outputs → TellsOf script (x ∷ older) p.from p.to p.message) → Searched script (x ∷ older)
  keeps parts tells = record {
    parts = parts;
    tells = λ p i. elim (in-append x.outputs (posts_of older) p i) [
      | inl j ↦ tells p j
      | inr j ↦ tells-up script older x p.from p.to p.message (had.tells p j)
    ];
  }

  -- an entry of no session
  keeps-parts : (a : Actor) → x.actor ≡ a → ((u : SessionId) → session_after script.space u a x.input (session_of script u older) ≡ session_of script u older)
      → (u : SessionId) → HasParts script.space (λ n g rows. WasShown script (x ∷ older)
      (record { session = u; number = n }) g rows) (session_of script u (x ∷ older))
  keeps-parts a acts same u =
      subst (HasParts script.space (λ n g rows. WasShown script (x ∷ older) (record { session = u; number = n }) g rows))
      (sym (ap (λ (b : Actor). session_after script.space u b x.input (session_of script u older)) acts ∙ same u))
      (parts-up u (session_of script u older) (had.parts u))

  -- an entry of the coordinator
  of-coordinator : x.actor ≡ Coordinator → Searched script (x ∷ older)
  of-coordinator acts =
      keeps (keeps-parts Coordinator acts (λ u. refl))
      (λ p i. quiet p.from p.to p.message (entry-posts script older x run.0 Coordinator acts p i))
    where
      quiet : (from to : Actor) (m : Message) → IsOf Coordinator m → TellsOf script (x ∷ older) from to m
      quiet from to (a_message.Ask epoch number g terms) h = absurd h
      quiet from to (a_message.Found epoch number g rows) h = absurd h
      quiet from to other h = tt

  -- an entry of a server
  of-server : (i : ServerId) → x.actor ≡ Server i → Searched script (x ∷ older)
  of-server i acts =
      keeps (keeps-parts (Server i) acts (λ u. refl))
      (λ p j. says p.from p.to p.message j (entry-posts script older x run.0 (Server i) acts p j))
    where
      may : MayTake older (Server i) x.input
      may = subst (λ (a : Actor). MayTake older a x.input) acts run.0.input

      shown : (to : Actor) (epoch : Epoch) (number : ℕ) (g : RegionId) (rows : List Row)
          → (s : ShowsRows script older x to epoch number g rows) → AskedBy script older to number s.terms
          → ShownTo script (x ∷ older) to number g rows
      shown Coordinator epoch number g rows s a = tt
      shown (Server v) epoch number g rows s a = tt
      shown (Session u) epoch number g rows s a = record {
        entry = x;
        older = older;
        part = inl refl;
        epoch = epoch;
        shows = s;
        called = a.0;
        begin = a.1.0;
        begun = a.1.1;
      }

      says : (from to : Actor) (m : Message) → IsIn (post from to m) x.outputs → IsOf (Server i) m → TellsOf script (x ∷ older) from to m
      says from to (a_message.Found epoch number g rows) j h =
          let s = facts.founds x older run i acts from to epoch number g rows j in
          shown to epoch number g rows s (had.tells (post to (Server i) (a_message.Ask epoch number g s.terms))
          (arrived s.id older (post to (Server i) (a_message.Ask epoch number g s.terms))
          (subst (MayTake older (Server i)) s.input may)))
      says from to (a_message.Ask epoch number g terms) j h = absurd h
      says from to other j h = tt

  -- what a session's step does
  pub turn-of : (v : SessionId) → x.actor ≡ Session v
      → SearchTurn script.space (λ n g rows. WasShown script older (record { session = v; number = n }) g rows)
      (session_of script v older) (record { state = session_of script v (x ∷ older); posts = x.outputs; notes = x.notes })
  turn-of v acts =
      subst (SearchTurn script.space (λ n g rows. WasShown script older (record { session = v; number = n }) g rows)
      (session_of script v older)) (step_is script older x v run.0 acts)
      (search-turn script.space (λ n g rows. WasShown script older (record { session = v; number = n }) g rows)
      (session_of script v older) (had.parts v) x.input (λ id from m e epoch number g rows q.
      let may = subst (λ (a : Actor). MayTake older a x.input) acts run.0.input in
      let j = arrived id older (post from (Session v) m) (subst (MayTake older (Session v)) e may) in
      subst (TellsOf script older from (Session v)) q (had.tells (post from (Session v) m) j)))

  -- an entry of a session
  of-session : (v : SessionId) → x.actor ≡ Session v → Searched script (x ∷ older)
  of-session v acts =
      keeps
      (λ u. elim (cases_eq u.0 v.0) [
        | inl e ↦ (let q : u ≡ v = λ j. record { 0 = e j } in
            subst (λ (y : SessionId). HasParts script.space
            (λ n g rows. WasShown script (x ∷ older) (record { session = y; number = n }) g rows)
            (session_of script y (x ∷ older))) (sym q) (parts-up v (session_of script v (x ∷ older)) turn.parts))
        | inr n ↦ subst (HasParts script.space (λ n g rows. WasShown script (x ∷ older)
            (record { session = u; number = n }) g rows)) (sym (other u n)) (parts-up u (session_of script u older) (had.parts u))
      ])
      (λ p i. let t = turn.posts p i in asks p.from p.to p.message t.0 t.1)
    where
      turn : SearchTurn script.space (λ n g rows. WasShown script older (record { session = v; number = n }) g rows)
          (session_of script v older) (record { state = session_of script v (x ∷ older); posts = x.outputs; notes = x.notes })
      turn = turn-of v acts

      now : Calls script (x ∷ older)
      now = calls_kept script facts (x ∷ older) run

      other : (u : SessionId) → (u.0 ≡ v.0 → ⊥) → session_of script u (x ∷ older) ≡ session_of script u older
      other u n =
          ap (λ (a : Actor). session_after script.space u a x.input (session_of script u older)) acts
          ∙ cond-false (same_session v u) (session_step script.space (session_of script u older) x.input).state
          (session_of script u older) (ne_eqb v.0 u.0 (λ e. n (sym e)))

      asked-now : (number : ℕ) (terms : List Term) → number ≡ (session_of script v (x ∷ older)).begun
          → (session_of script v (x ∷ older)).under_way ≡ true
          → numbered (session_of script v (x ∷ older)).calls (session_of script v (x ∷ older)).begun
          ≡ Some (Search terms) → AskedBy script (x ∷ older) (Session v) number terms
      asked-now number terms e w q =
          let b = now.running v w in (
            ap (λ (l : List Op). numbered l number) (sym (named script (x ∷ older) v).1) ∙ ap (numbered (session_of script v (x ∷ older)).calls) e ∙ q,
            (b.0, subst (λ k. BeganAt (x ∷ older) (record { session = v; number = k }) b.0) (sym e) b.1),
          )

      asks : (from to : Actor) (m : Message) → from ≡ Session (session_of script v older).id
          → Asks (session_of script v (x ∷ older)) m → TellsOf script (x ∷ older) from to m
      asks from to (a_message.Ask epoch number g terms) f h =
          subst (λ (a : Actor). AskedBy script (x ∷ older) a number terms)
          (sym (f ∙ ap Session (named script older v).0)) (asked-now number terms h.0 h.1 h.2)
      asks from to (a_message.Found epoch number g rows) f h = absurd h
      asks from to other f h = tt

  -- an entry of whoever
  entry-searched : Searched script (x ∷ older)
  entry-searched = by x.actor refl
    where
      by : (a : Actor) → x.actor ≡ a → Searched script (x ∷ older)
      by Coordinator e = of-coordinator e
      by (Server i) e = of-server i e
      by (Session v) e = of-session v e

-- every run
pub searched-run : (script : Script) → Facts script → (t : List Entry) → IsRun script t → Searched script t
searched-run script facts [] run = record { parts = λ u terms w e. absurd (false≢true w); tells = λ p i. absurd i }
searched-run script facts (x ∷ older) run = entry-searched script facts older x run (searched-run script facts older run.1)
