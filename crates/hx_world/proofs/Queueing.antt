-- The queue: names of posts, among them the undelivered ones whose receivers haven't halted.
use Rattle.std.proofs.Common.{◌≡◌, ◌+◌, inl, inr, Bool, true, false, not, List, [], ◌∷◌, ◌++◌, length, drop, Option}
use Rattle.std.proofs.Common.{Some, None, refl, sym, ap, ◌∙◌, subst, arith, cond}
use Rattle.std.specs.Prelude.{reverse, slice_get}
use Rattle.std.specs.List.{filter}
use Rattle.std.proofs.lemmas.Bool.{cond-true, cond-false, cond_both, eqb-true, false≢true, not-true}
use Rattle.hx_model.specs.Types.{Actor, Coordinator, Deliver, Entry, Halt, Input, Post, PostId, Script, Server, ServerId, Session, Tick}
use Rattle.hx_types.specs.Words.{IsIn, same_server, when_some}
use Rattle.hx_model.specs.Runs.{has_halted, post_named, server_of}
use Rattle.hx_model.specs.ServerSteps.{ServerState, server_step}
use Rattle.hx_model.specs.Schedule.{Next, delivery_of, first_delivery, names_from, same_name, undelivered, without_delivered}
use Rattle.hx_law_lemmas.proofs.Lemmas.{in-append}
use Rattle.hx_world.specs.declared.coordinators.CountedCoordinator.{CountedCoordinator}
use Rattle.hx_world.specs.declared.servers.CountedServer.{CountedServer}
use Rattle.hx_world.specs.declared.sessions.CountedSession.{CountedSession}
use Rattle.hx_world.specs.Filing.{names_after}
use Rattle.hx_world.specs.Idle.{IsPostedFirst}
use Rattle.hx_world.specs.Invariant.{IsQueue, IsWorldOf}
use Rattle.hx_world.specs.Names.{can_receive}
use Rattle.hx_world.proofs.Naming.{append-ascends, before_entry, delivery-ascends, name_in, named_still, named_within}
use Rattle.hx_world.proofs.Naming.{names-ascend, new_named, still_named, waiting_named}

-- ---- filters

filter-append : {A : Type 0} (test : A → Bool) (xs ys : List A) → filter test (xs ++ ys) ≡ filter test xs ++ filter test ys
filter-append test [] ys = refl
filter-append test (x ∷ xs) ys = by (test x) refl (filter-append test xs ys)
  where
    by : (b : Bool) → test x ≡ b → filter test (xs ++ ys) ≡ filter test xs ++ filter test ys
        → filter test ((x ∷ xs) ++ ys) ≡ filter test (x ∷ xs) ++ filter test ys
    by true e h = rw e (ap (λ l. x ∷ l) h)
    by false e h = rw e h

filter-turns : {A : Type 0} (f g : A → Bool) (xs : List A) → filter f (filter g xs) ≡ filter g (filter f xs)
filter-turns f g [] = refl
filter-turns f g (x ∷ xs) = by (f x) (g x) refl refl (filter-turns f g xs)
  where
    by : (a b : Bool) → f x ≡ a → g x ≡ b → filter f (filter g xs) ≡ filter g (filter f xs)
        → filter f (cond b (x ∷ filter g xs) (filter g xs)) ≡ filter g (cond a (x ∷ filter f xs) (filter f xs))
    by true true d e h =
        cond-true (f x) (x ∷ filter f (filter g xs)) (filter f (filter g xs)) d
        ∙ ap (λ l. x ∷ l) h
        ∙ sym (cond-true (g x) (x ∷ filter g (filter f xs)) (filter g (filter f xs)) e)
    by true false d e h = h ∙ sym (cond-false (g x) (x ∷ filter g (filter f xs)) (filter g (filter f xs)) e)
    by false true d e h = cond-false (f x) (x ∷ filter f (filter g xs)) (filter f (filter g xs)) d ∙ h
    by false false d e h = h

-- what passes a stricter test is what passes both
filter-less : {A : Type 0} (f g : A → Bool) (xs : List A) → ((x : A) → IsIn x xs → f x ≡ true → g x ≡ true) → filter f xs ≡ filter f (filter g xs)
filter-less f g [] h = refl
filter-less f g (x ∷ xs) h = by (f x) (g x) refl refl (filter-less f g xs (λ y i. h y (inr i)))
  where
    by : (a b : Bool) → f x ≡ a → g x ≡ b → filter f xs ≡ filter f (filter g xs) → filter f (x ∷ xs) ≡ filter f (filter g (x ∷ xs))
    by true true d e k = rw (d, e) (rw d (ap (λ l. x ∷ l) k))
    by true false d e k = absurd (false≢true (sym e ∙ h x (inl refl) d))
    by false true d e k = rw (d, e) (rw d k)
    by false false d e k = rw (d, e) k

without-turns : (test : PostId → Bool) (input : Input) (names : List PostId)
    → filter test (without_delivered input names) ≡ without_delivered input (filter test names)
without-turns test Tick names = refl
without-turns test Halt names = refl
without-turns test (Deliver id from message) names = filter-turns test (λ (x : PostId). not (same_name x id)) names

-- ---- who has halted stays so

module _ (script : Script) (t : List Entry) (x : Entry) (running : has_halted script t x.actor ≡ false) where
  server-runs : (a : Actor) → x.actor ≡ a → (s : ServerId) → has_halted script (x ∷ t) (Server s) ≡ false → has_halted script t (Server s) ≡ false
  server-runs Coordinator e s = rw e (λ h. h)
  server-runs (Session u) e s = rw e (λ h. h)
  server-runs (Server r) e s =
      rw e
      (
      cond_both (same_server r s) (server_step script.space (server_of script s t) x.input).state (server_of script s t)
      (λ (y : ServerState). y.halted ≡ false → has_halted script t (Server s) ≡ false)
      (λ same h. let n = eqb-true r.0 s.0 same in let q : r ≡ s = λ i. record { 0 = n i } in
      subst (λ (y : ServerId). has_halted script t (Server y) ≡ false) q
      (subst (λ (a : Actor). has_halted script t a ≡ false) e running))
      (λ other h. h)
      )

  pub still-runs : (a : Actor) → has_halted script (x ∷ t) a ≡ false → has_halted script t a ≡ false
  still-runs Coordinator h = refl
  still-runs (Server s) h = server-runs x.actor refl s h
  still-runs (Session u) h = refl

  receives : (id : PostId) (p : Post) → post_named id t ≡ Some p → can_receive script (x ∷ t) id ≡ true → can_receive script t id ≡ true
  receives id p named h =
      let now : not (has_halted script (x ∷ t) p.to) ≡ true =
      ap (λ (o : Option Post). when_some o false (λ (q : Post). not (has_halted script (x ∷ t) q.to)))
      (sym (named_still id t x p named)) ∙ h in
      let before = still-runs p.to (not-true (has_halted script (x ∷ t) p.to) now) in
      ap (λ (o : Option Post). when_some o false (λ (q : Post). not (has_halted script t q.to))) named ∙ ap not before

  all-receive : (names : List PostId) → ((id : PostId) → IsIn id names → (p : Post) × (post_named id t ≡ Some p))
      → filter (can_receive script (x ∷ t)) names ≡ filter (can_receive script (x ∷ t)) (filter (can_receive script t) names)
  all-receive names named = filter-less (can_receive script (x ∷ t)) (can_receive script t) names (λ id i h. let p = named id i in receives id p.0 p.1 h)

  -- the queue after the entry
  pub queue_after : (waiting names : List PostId) → IsQueue script t waiting → names ≡ names_after (length t) x waiting → IsQueue script (x ∷ t) names
  queue_after waiting names q e =
      subst (IsQueue script (x ∷ t)) (sym e)
      (record {
        ascending =
            append-ascends (without_delivered x.input waiting) (names_from (length t + 1) 0 x.outputs)
            (delivery-ascends x.input waiting q.ascending) (names-ascend (length t + 1) 0 x.outputs)
            (
            λ a b i j. let named = q.named a (still_named x.input waiting a i) in
            let within = named_within a t named.0 named.1 in
            let new = (name_in (length t + 1) 0 x.outputs b j).entry_is in
            before_entry a b (omega (arith, within, new))
            );
        named = λ id i. elim (in-append (without_delivered x.input waiting) (names_from (length t + 1) 0 x.outputs) id i) [
          | inl j ↦ (let r = q.named id (still_named x.input waiting id j) in (r.0, named_still id t x r.0 r.1))
          | inr j ↦ new_named t x id j
        ];
        same =
            let test = can_receive script (x ∷ t) in
            let old : filter test waiting ≡ filter test (undelivered t) =
            all-receive waiting q.named ∙ ap (filter test) q.same ∙ sym (all-receive (undelivered t) (waiting_named t)) in
            filter-append test (without_delivered x.input waiting) (names_from (length t + 1) 0 x.outputs)
            ∙ ap (λ (l : List PostId). l ++ filter test (names_from (length t + 1) 0 x.outputs))
            (without-turns test x.input waiting ∙ ap (without_delivered x.input) old ∙ sym (without-turns test x.input (undelivered t)))
            ∙ sym (filter-append test (without_delivered x.input (undelivered t)) (names_from (length t + 1) 0 x.outputs));
      })

-- ---- before the first entry

pub no_queue : (script : Script) → IsQueue script [] []
no_queue script = record { ascending = tt; named = λ id i. absurd i; same = refl }

-- ---- the first that is received

module _ (script : Script) (t : List Entry) where
  -- the name is of a post whose receiver has halted
  abbrev First : List PostId → Option Next
  First names = first_delivery script t names

  skips : (id : PostId) (rest : List PostId) → can_receive script t id ≡ false → First (id ∷ rest) ≡ First rest
  skips id rest = by (post_named id t) refl
    where
      by : (o : Option Post) → post_named id t ≡ o → when_some o false (λ (p : Post). not (has_halted script t p.to)) ≡ false
          → when_some o (First rest) (λ (p : Post). cond (has_halted script t p.to) (First rest) (Some (delivery_of id p))) ≡ First rest
      by None e h = refl
      by (Some p) e h = halts (has_halted script t p.to) p h
        where
          halts : (b : Bool) (q : Post) → not b ≡ false → cond b (First rest) (Some (delivery_of id q)) ≡ First rest
          halts true q k = refl
          halts false q k = absurd (false≢true (sym k))

  takes : (id : PostId) (rest : List PostId) (p : Post) → post_named id t ≡ Some p → has_halted script t p.to ≡ false
      → First (id ∷ rest) ≡ Some (delivery_of id p)
  takes id rest p named runs =
      ap (λ (o : Option Post). when_some o (First rest) (λ (x : Post). cond (has_halted script t x.to) (First rest) (Some (delivery_of id x)))) named
      ∙ cond-false (has_halted script t p.to) (First rest) (Some (delivery_of id p)) runs

  pub first-of : (names : List PostId) (id : PostId) (rest : List PostId) (p : Post)
      → filter (can_receive script t) names ≡ id ∷ rest → post_named id t ≡ Some p → has_halted script t p.to ≡ false
      → First names ≡ Some (delivery_of id p)
  first-of [] id rest p e named runs = cc
  first-of (x ∷ xs) id rest p e named runs = by (can_receive script t x) refl e (λ k. first-of xs id rest p k named runs)
    where
      by : (b : Bool) → can_receive script t x ≡ b → cond b (x ∷ filter (can_receive script t) xs) (filter (can_receive script t) xs) ≡ id ∷ rest
          → (filter (can_receive script t) xs ≡ id ∷ rest → First xs ≡ Some (delivery_of id p)) → First (x ∷ xs) ≡ Some (delivery_of id p)
      by true h k f = let same : x ≡ id = cc in subst (λ (y : PostId). First (y ∷ xs) ≡ Some (delivery_of id p)) (sym same) (takes id xs p named runs)
      by false h k f = skips x xs h ∙ f k

  pub none-of : (names : List PostId) → filter (can_receive script t) names ≡ [] → First names ≡ None
  none-of [] e = refl
  none-of (x ∷ xs) e = by (can_receive script t x) refl e (none-of xs)
    where
      by : (b : Bool) → can_receive script t x ≡ b → cond b (x ∷ filter (can_receive script t) xs) (filter (can_receive script t) xs) ≡ []
          → (filter (can_receive script t) xs ≡ [] → First xs ≡ None) → First (x ∷ xs) ≡ None
      by true h k f = cc
      by false h k f = skips x xs h ∙ f k

  -- who can receive a post
  receiver : (id : PostId) → can_receive script t id ≡ true → (p : Post) × (post_named id t ≡ Some p) × (has_halted script t p.to ≡ false)
  receiver id = by (post_named id t) refl
    where
      by : (o : Option Post) → post_named id t ≡ o → when_some o false (λ (p : Post). not (has_halted script t p.to))
          ≡ true → (p : Post) × (post_named id t ≡ Some p) × (has_halted script t p.to ≡ false)
      by None e h = absurd (false≢true h)
      by (Some p) e h = (p, e, not-true (has_halted script t p.to) h)

  -- the first name of the queue is that of the first delivery
  pub posted_first : (waiting : List PostId) (id : PostId) (rest : List PostId) → IsQueue script t waiting
      → waiting ≡ id ∷ rest → can_receive script t id ≡ true → IsPostedFirst script t id
  posted_first waiting id rest q e h =
      let p = receiver id h in
      let all : filter (can_receive script t) (undelivered t) ≡ id ∷ filter (can_receive script t) rest =
      sym q.same ∙ ap (filter (can_receive script t)) e
      ∙ cond-true (can_receive script t id) (id ∷ filter (can_receive script t) rest)
      (filter (can_receive script t) rest) h in
      record { sent = p.0; named = p.1; running = p.2; first = first-of (undelivered t) id (filter (can_receive script t) rest) p.0 all p.1 p.2 }

  -- an empty queue has none
  pub none_posted : (waiting : List PostId) → IsQueue script t waiting → waiting ≡ [] → First (undelivered t) ≡ None
  none_posted waiting q e = none-of (undelivered t) (sym q.same ∙ ap (filter (can_receive script t)) e)

  -- the queue without its first name, whose receiver has halted
  pub queue_less : (waiting : List PostId) (id : PostId) (rest : List PostId) → IsQueue script t waiting
      → waiting ≡ id ∷ rest → can_receive script t id ≡ false → IsQueue script t rest
  queue_less waiting id rest q e h =
      let k : IsQueue script t (id ∷ rest) = subst (IsQueue script t) e q in
      record {
        ascending = k.ascending.1;
        named = λ x i. k.named x (inr i);
        same = sym (cond-false (can_receive script t id) (id ∷ filter (can_receive script t) rest) (filter (can_receive script t) rest) h) ∙ k.same;
      }

-- ---- the lowest name

first_item : (names : List PostId) (id : PostId) → slice_get names 0 ≡ Some id → (rest : List PostId) × (names ≡ id ∷ rest)
first_item [] id e = cc
first_item (x ∷ rest) id e = (rest, (let same : x ≡ id = cc in ap (λ (y : PostId). y ∷ rest) same))

nothing_first : (names : List PostId) → slice_get names 0 ≡ None → names ≡ []
nothing_first [] e = refl
nothing_first (x ∷ rest) e = cc

-- a queue whose lowest name is of a post that can be received
pub lowest_posted : (script other : Script) (trace before : List Entry) (waiting : List PostId) (id : PostId)
    → IsQueue script (reverse trace) waiting → script ≡ other → trace ≡ before
    → slice_get waiting 0 ≡ Some id → can_receive script (reverse trace) id ≡ true → IsPostedFirst other (reverse before) id
lowest_posted script other trace before waiting id q same earlier e h =
    let first = first_item waiting id e in
    subst (λ (l : List Entry). IsPostedFirst other (reverse l) id) earlier
    (subst (λ (x : Script). IsPostedFirst x (reverse trace) id) same (posted_first script (reverse trace) waiting id first.0 q first.1 h))

-- a queue without names
pub none_waiting : (script other : Script) (trace before : List Entry) (waiting : List PostId)
    → IsQueue script (reverse trace) waiting → script ≡ other → trace ≡ before
    → slice_get waiting 0 ≡ None → first_delivery other (reverse before) (undelivered (reverse before)) ≡ None
none_waiting script other trace before waiting q same earlier e =
    subst (λ (l : List Entry). first_delivery other (reverse l) (undelivered (reverse l)) ≡ None) earlier
    (subst (λ (x : Script). first_delivery x (reverse trace) (undelivered (reverse trace)) ≡ None) same
    (none_posted script (reverse trace) waiting q (nothing_first waiting e)))

-- the world without the lowest name, whose receiver has halted
pub popped : (script : Script) (trace : List Entry) (servers : List CountedServer) (sessions : List CountedSession)
    (coordinator : CountedCoordinator) (waiting rest : List PostId) (id : PostId)
    → IsWorldOf script trace servers sessions coordinator waiting → slice_get waiting 0 ≡ Some id → can_receive script trace id ≡ false → rest ≡ drop 1 waiting
    → IsWorldOf script trace servers sessions coordinator rest
popped script trace servers sessions coordinator waiting rest id w e h is =
    let first = first_item waiting id e in
    record {
      past = w.past;
      servers_are = w.servers_are;
      sessions_are = w.sessions_are;
      coordinator_is = w.coordinator_is;
      queue = queue_less script trace waiting id rest w.queue (first.1 ∙ ap (λ (l : List PostId). id ∷ l) (sym (is ∙ ap (drop 1) first.1))) h;
    }
