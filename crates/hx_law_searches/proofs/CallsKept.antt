-- Every run keeps what is said of calls.
use Rattle.hx_law_lemmas.proofs.Lemmas.Vocabulary.{[], Actor, ap, arith, Caller, cond-true, Coordinator, coordinator_of, coordinator_step, DeliversCall, Entry}
use Rattle.hx_law_lemmas.proofs.Lemmas.Vocabulary.{eq-eqb, eqb, Facts, inl, inr, IsIn, IsRun, IsStep, line_notes, line_of, List, made_of, MayTake, Output}
use Rattle.hx_law_lemmas.proofs.Lemmas.Vocabulary.{post, refl, Script, Server, ServerId, Session, session_after, session_of, session_step, SessionId}
use Rattle.hx_law_lemmas.proofs.Lemmas.Vocabulary.{subst, sym, true≢false, Update, upto, ℕ, ◌-◌, ◌<◌, ◌∙◌, ◌∷◌, ◌≡◌, ◌⊎◌}
use Rattle.hx_types.specs.declared.messages.Message.TheVariants as a_message
use Rattle.hx_law_lemmas.proofs.Lemmas.{arrived, in-upto, SessionTurn, session_turn, line-numbered, numbered-within as in-below}
use Rattle.hx_law_epochs.proofs.Lemmas.{entry-posts}
use Rattle.hx_law_chains.proofs.Lemmas.{coordinator-plain, issued-line, named}
use Rattle.hx_law_searches.proofs.Calls.{Calls, IsKnown, WasPosted}
use Rattle.hx_law_searches.proofs.CallsElsewhere.{other_calls}
use Rattle.hx_law_searches.proofs.CallsOfSessions.{session_calls}

-- a session's state after its entry, with what it posts and notes, is that of its step
pub step_is : (script : Script) (older : List Entry) (x : Entry) (u : SessionId) → IsStep script older x → x.actor ≡ Session u
    → session_step script.space (session_of script u older) x.input ≡ record { state = session_of script u (x ∷ older); posts = x.outputs; notes = x.notes }
step_is script older x u step acts =
    let made : made_of script older (Session u) x.input ≡ record { posts = x.outputs; notes = x.notes }
    = subst (λ (a : Actor). made_of script older a x.input ≡ record { posts = x.outputs; notes = x.notes }) acts step.made in
    let after : session_of script u (x ∷ older) ≡ (session_step script.space (session_of script u older) x.input).state
    = ap (λ (a : Actor). session_after script.space u a x.input (session_of script u older)) acts
    ∙ cond-true (eqb u.0 u.0) _ (session_of script u older) (eq-eqb u.0 u.0 refl) in
    λ i. record { state = sym after i; posts = (made i).posts; notes = (made i).notes }

-- the step of a session's entry is a turn
pub turn_is : (script : Script) (older : List Entry) (x : Entry) (u : SessionId) → IsStep script older x → x.actor ≡ Session u
    → SessionTurn x.input (session_of script u older) (record { state = session_of script u (x ∷ older); posts = x.outputs; notes = x.notes })
turn_is script older x u step acts = subst (SessionTurn x.input (session_of script u older))
    (step_is script older x u step acts) (session_turn script.space x.input (session_of script u older))

-- nothing has begun at the start
calls_start : (script : Script) → Calls script []
calls_start script = record {
  began_low = λ c n h. absurd h;
  ended_low = λ c v a n h. absurd h;
  running = λ u w. absurd (true≢false (sym w));
  replied = λ c v a n h. absurd h;
  sent = λ u to epoch number op i. absurd i;
  asked = λ from c v a key i. absurd i;
  lined = λ key u h. absurd h;
  ordered = λ a v answer b h. absurd h;
}

module _ (script : Script) (facts : Facts script) (older : List Entry) (calls : Calls script older) (x : Entry) (run : IsRun script (x ∷ older)) where
  -- an entry of the coordinator
  of-coordinator : x.actor ≡ Coordinator → Calls script (x ∷ older)
  of-coordinator acts =
      let made : made_of script older Coordinator x.input ≡ record { posts = x.outputs; notes = x.notes } =
      subst (λ (a : Actor). made_of script older a x.input ≡ record { posts = x.outputs; notes = x.notes }) acts run.0.made in
      let plain = coordinator-plain (coordinator_of script older) x.input in
      let says = entry-posts script older x run.0 Coordinator acts in
      let same : (key : List ℕ) → line_of key (x ∷ older) ≡ line_of key older =
      λ key. ap (λ ns. line_notes key (line_of key older) ns) (sym (ap (λ (m : Output). m.notes) made))
      ∙ issued-line key (line_of key older) (coordinator_step (coordinator_of script older) x.input).notes plain.notes in
      other_calls script older calls x
      (λ u e. (let q : Coordinator ≡ Session u = sym acts ∙ e in cc))
      (λ u. ap (λ (a : Actor). session_after script.space u a x.input (session_of script u older)) acts)
      (λ u to epoch number op i. says _ i)
      (λ from c v a key i get. absurd (says _ i))
      (λ key u i. inl (subst (λ (l : List Update). IsIn u l) (same key) i))

  -- an entry of a server
  of-server : (i : ServerId) → x.actor ≡ Server i → Calls script (x ∷ older)
  of-server i acts =
      let may : MayTake older (Server i) x.input = subst (λ (a : Actor). MayTake older a x.input) acts run.0.input in
      let says = entry-posts script older x run.0 (Server i) acts in
      let posted : (c : Caller) → DeliversCall x c → WasPosted older c =
      λ c d. (
        Server i,
        d.epoch,
        d.op,
        arrived d.id older
            (post (Session c.session) (Server i) (a_message.Call d.epoch c.number d.op))
            (subst (MayTake older (Server i)) d.input may),
      ) in
      other_calls script older calls x
      (λ u e. (let q : Server i ≡ Session u = sym acts ∙ e in cc))
      (λ u. ap (λ (a : Actor). session_after script.space u a x.input (session_of script u older)) acts)
      (λ u to epoch number op j. says _ j)
      (λ from c v a key j get. (let r = facts.gets x older run i acts from c v a j key get in
      (posted c r.delivers, λ n k. elim k [ inl z ↦ omega (arith, z) | inr told ↦ r.reaches n told ])))
      (λ key u j. elim (facts.assigns x older run i acts key) [
        | inl e ↦ inl (subst (λ (l : List Update). IsIn u l) e j)
        | inr z ↦ assigned key u z.update (posted z.update.caller z.delivers)
            (λ n k. elim k [
              | inl q ↦ (let b = (in-below (line_of key (x ∷ older)) z.update
                  (line-numbered script key (line_of key (x ∷ older)) (facts.lines (x ∷ older) run key))
                  (subst (λ (l : List Update). IsIn z.update l) (sym z.line) (inl refl))).0 in omega (arith, b, q))
              | inr told ↦ z.above n told
            ])
            (subst (λ (l : List Update). IsIn u l) z.line j)
      ])
    where
      assigned : (key : List ℕ) (u w : Update) → WasPosted older w.caller
          → ((n : ℕ) → IsKnown script older key n → n < w.version.0) → IsIn u (w ∷ upto (w.version.0 - 1) (line_of key older))
          → IsIn u (line_of key older) ⊎ (WasPosted older u.caller × ((n : ℕ) → IsKnown script older key n → n < u.version.0))
      assigned key u w p f (inl e) = inr (subst (λ (y : Update). WasPosted older y.caller
          × ((n : ℕ) → IsKnown script older key n → n < y.version.0)) (sym e) (p, f))
      assigned key u w p f (inr j) = inl (in-upto (w.version.0 - 1) (line_of key older) u j)

  -- an entry of whoever
  pub entry_calls : Calls script (x ∷ older)
  entry_calls = by x.actor refl
    where
      by : (a : Actor) → x.actor ≡ a → Calls script (x ∷ older)
      by Coordinator e = of-coordinator e
      by (Server i) e = of-server i e
      by (Session u) e = session_calls script older (named script older) calls x u e
          (subst (λ (a : Actor). MayTake older a x.input) e run.0.input) (turn_is script older x u run.0 e)

-- every run keeps what is said of calls
pub calls_kept : (script : Script) → Facts script → (t : List Entry) → IsRun script t → Calls script t
calls_kept script facts [] run = calls_start script
calls_kept script facts (x ∷ older) run = entry_calls script facts older (calls_kept script facts older run.1) x run
