-- What the schedule adds to a run is a run.
use Rattle.hx_law_lemmas.proofs.Lemmas.Vocabulary.{[], Actor, ActorExists, add-one, and_from, and_parts, ap, arith, begin, below, Bool, cond-false, cond_both}
use Rattle.hx_law_lemmas.proofs.Lemmas.Vocabulary.{Coordinator, delivery_of, does_something, Entry, entry_by, false, false≢true, first_delivery, first_some}
use Rattle.hx_law_lemmas.proofs.Lemmas.Vocabulary.{has_halted, idle_among, if◌then◌else◌, inl, inr, is_actor, is_empty, is_idle, IsIn, IsRun, IsScript, le-leb}
use Rattle.hx_law_lemmas.proofs.Lemmas.Vocabulary.{leb, length, List, lt-ltb, ltb, ltb-true, made_of, MayTake, Next, next_input, None, not, numbered, Op}
use Rattle.hx_law_lemmas.proofs.Lemmas.Vocabulary.{Option, option_map, Post, post_named, PostId, refl, scheduled, Script, Server, Session, session_of}
use Rattle.hx_law_lemmas.proofs.Lemmas.Vocabulary.{session_tick, SessionState, SessionStep, Some, Space, staying, subst, suc, sym, Tick, true, undelivered}
use Rattle.hx_law_lemmas.proofs.Lemmas.Vocabulary.{when_some, with_entry, zero, ℕ, ◌&&◌, ◌+◌, ◌<◌, ◌∙◌, ◌∷◌, ◌≡◌}
use Rattle.hx_law_lemmas.proofs.Lemmas.{in-below, when_some_both}
use Rattle.hx_law_posts.proofs.Lemmas.{bounds, posts_stay_sound}
use Rattle.hx_law_epochs.proofs.Lemmas.{index-some}

-- an input that may come next
record MayCome (script : Script) (older : List Entry) (next : Next) : Type 0 where
  pub actor : is_actor script next.actor ≡ true
  pub running : has_halted script older next.actor ≡ false
  pub input : MayTake older next.actor next.input
  pub enough : does_something next.input (made_of script older next.actor next.input) ≡ true

-- an actor that exists is one of the script's
actor-exists : (script : Script) (n : ℕ) (a : Actor) → ActorExists (bounds script.space (length script.sessions) n) a → is_actor script a ≡ true
actor-exists script n Coordinator h = refl
actor-exists script n (Server s) h = and_from (ltb 0 s.0) (leb s.0 script.space.servers) (lt-ltb 0 s.0 h.0) (le-leb s.0 script.space.servers h.1)
actor-exists script n (Session u) h = and_from (ltb 0 u.0) (leb u.0 (length script.sessions)) (lt-ltb 0 u.0 h.0) (le-leb u.0 (length script.sessions) h.1)

-- a call that begins is noted
begun-enough : (space : Space) (s : SessionState) (op : Op)
    → does_something Tick (record { posts = (begin space s op).posts; notes = (begin space s op).notes }) ≡ true
begun-enough space s op = of (begin space s op).posts
  where
    of : (ps : List Post) → not (is_empty ps && false) ≡ true
    of [] = refl
    of (p ∷ ps) = refl

-- so the tick of an idle session makes enough
idle-enough : (space : Space) (s : SessionState) → is_idle s ≡ true
    → does_something Tick (record { posts = (session_tick space s).posts; notes = (session_tick space s).notes }) ≡ true
idle-enough space s t =
    let a = and_parts (not s.under_way) (ltb s.begun (length s.calls)) t in
    let i = index-some s.calls s.begun (ltb-true s.begun (length s.calls) a.1) in
    let e : numbered s.calls (s.begun + 1) ≡ Some i.0 = ap (numbered s.calls) (add-one s.begun) ∙ i.1 in
    subst (λ (x : SessionStep). does_something Tick (record { posts = x.posts; notes = x.notes }) ≡ true)
    (sym (tick (flip s.under_way a.0) ∙ ap (λ (o : Option Op). when_some o (staying s) (begin space s)) e))
    (begun-enough space s i.0)
  where
    flip : (b : Bool) → not b ≡ true → b ≡ false
    flip true e = absurd (false≢true e)
    flip false e = refl

    tick : s.under_way ≡ false → session_tick space s ≡ when_some (numbered s.calls (s.begun + 1)) (staying s) (begin space s)
    tick e = cond-false s.under_way _ (when_some (numbered s.calls (s.begun + 1)) (staying s) (begin space s)) e

module _ (script : Script) (valid : IsScript script) where
  -- a delivery of the schedule
  delivery-may : (older : List Entry) → IsRun script older → (ids : List PostId) (next : Next)
      → first_delivery script older ids ≡ Some next → MayCome script older next
  delivery-may older run [] next = λ e. absurd (cc)
  delivery-may older run (id ∷ rest) next =
      when_some_both (post_named id older) (first_delivery script older rest)
      (λ (p : Post). if has_halted script older p.to then first_delivery script older rest else Some
      (delivery_of id p)) (λ o. o ≡ Some next → MayCome script older next)
      (λ q e. delivery-may older run rest next e)
      (λ p q. cond_both (has_halted script older p.to) (first_delivery script older rest) (Some (delivery_of id p))
      (λ o. o ≡ Some next → MayCome script older next)
      (λ t e. delivery-may older run rest next e)
      (λ t e. (let r : delivery_of id p ≡ next = cc in subst (MayCome script older) r (record {
        actor = actor-exists script id.entry p.to (posts_stay_sound script valid older run id p q).to;
        running = t;
        input = q;
        enough = refl;
      }))))

  -- a tick of the schedule
  idle-may : (older : List Entry) (ns : List ℕ) → ((n : ℕ) → IsIn n ns → n < length script.sessions) → (next : Next)
      → idle_among script older ns ≡ Some next → MayCome script older next
  idle-may older [] f next = λ e. absurd (cc)
  idle-may older (n ∷ ns) f next =
      cond_both (is_idle (session_of script (record { 0 = n + 1 }) older))
      (Some (record { actor = Session (record { 0 = n + 1 }); input = Tick })) (idle_among script older ns)
      (λ o. o ≡ Some next → MayCome script older next)
      (λ t e. (let tick : Next = record { actor = Session (record { 0 = n + 1 }); input = Tick } in
      let r : tick ≡ next = cc in subst (MayCome script older) r (record {
        actor = (let l = f n (inl refl) in and_from (ltb 0 (n + 1)) (leb (n + 1) (length script.sessions))
            (lt-ltb 0 (n + 1) (omega arith)) (le-leb (n + 1) (length script.sessions) (omega (arith, l))));
        running = refl;
        input = tt;
        enough = idle-enough script.space (session_of script (record { 0 = n + 1 }) older) t;
      })))
      (λ t e. idle-may older ns (λ m i. f m (inr i)) next e)

  -- whatever comes next
  next-may : (older : List Entry) → IsRun script older → (next : Next) → next_input script older ≡ Some next → MayCome script older next
  next-may older run next = by (first_delivery script older (undelivered older)) refl
    where
      by : (o : Option Next) → first_delivery script older (undelivered older) ≡ o
          → first_some o (idle_among script older (below (length script.sessions))) ≡ Some next → MayCome script older next
      by None q e = idle-may older (below (length script.sessions)) (λ n i. in-below (length script.sessions) n i) next e
      by (Some x) q e = delivery-may older run (undelivered older) next (q ∙ e)

  -- a run goes on by the schedule
  pub scheduled-run : (t : List Entry) → IsRun script t → (n : ℕ) → IsRun script (scheduled script t n)
  scheduled-run t run zero = run
  scheduled-run t run (suc n) = goes (scheduled script t n) (scheduled-run t run n) (next_input script (scheduled script t n)) refl
    where
      goes : (older : List Entry) → IsRun script older → (o : Option Next) → next_input script older ≡ o
          → IsRun script (with_entry older (option_map (entry_by script older) o))
      goes older run None q = run
      goes older run (Some next) q =
          let m = next-may older run next q in
          (record { actor = m.actor; running = m.running; input = m.input; made = refl; enough = m.enough }, run)
