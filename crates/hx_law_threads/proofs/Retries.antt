-- An actor retries only where it waits.
use Rattle.hx_law_lemmas.proofs.Lemmas.Vocabulary.{[], Actor, and_from, and_parts, ap, arith, begin, Bool, cond_both, Coordinator, Deliver, does_something}
use Rattle.hx_law_lemmas.proofs.Lemmas.Vocabulary.{Entry, entry_at, eqb, eqb-true, false, Halt, has_halted, Input, is_idle, IsRun, le-ltb, length, List}
use Rattle.hx_law_lemmas.proofs.Lemmas.Vocabulary.{list_any, lt-ltb, ltb-true, made_of, nat_lt, None, not, not-true, numbered, Option, Output, refl, Script}
use Rattle.hx_law_lemmas.proofs.Lemmas.Vocabulary.{Server, Session, session_of, session_tick, SessionState, Some, Space, staying, subst, suc, sym, Tick, true}
use Rattle.hx_law_lemmas.proofs.Lemmas.Vocabulary.{true≢false, when_some, zero, ℕ, ◌&&◌, ◌+◌, ◌<◌, ◌∙◌, ◌∷◌, ◌≡◌, ◌≤◌}
use Rattle.std.proofs.Common.{slice_get}
use Rattle.hx_law_threads.specs.Own.{own_entries, IsOwn, IsOwnStep}
use Rattle.hx_law_threads.specs.Cuts.{first_entries, is_began, is_idle_actor, is_retry, is_tick, is_waiting, next_at, own_at, Cut}
use Rattle.hx_law_threads.specs.Pacing.{retries_at}
use Rattle.hx_law_threads.proofs.States.{entries_own}

item_there : {A : Type 0} (xs : List A) (k : ℕ) → k < length xs → (x : A) × (slice_get xs k ≡ Some x)
item_there [] k lt = absurd (omega arith)
item_there (x ∷ xs) zero lt = (x, refl)
item_there (x ∷ xs) (suc k) lt = item_there xs k (omega arith)

item_numbered : {A : Type 0} (xs : List A) (m n : ℕ) → m ≡ n + 1 → n < length xs → (x : A) × (numbered xs m ≡ Some x)
item_numbered xs zero n e lt = absurd (omega arith)
item_numbered xs (suc m) n e lt = item_there xs m (omega arith)

-- an idle session's tick begins a call
idle_begins : (space : Space) (s : SessionState) → is_idle s ≡ true → list_any is_began (session_tick space s).notes ≡ true
idle_begins space s idle =
    let both = and_parts (not s.under_way) (nat_lt s.begun (length s.calls)) idle in
    let call = item_numbered s.calls (s.begun + 1) s.begun refl (ltb-true s.begun (length s.calls) both.1) in
    cond_both s.under_way _ (when_some (numbered s.calls (s.begun + 1)) (staying s) (begin space s)) (λ step. list_any is_began step.notes ≡ true)
    (λ t. absurd (true≢false (sym t ∙ not-true s.under_way both.0)))
    (λ t. subst (λ o. list_any is_began (when_some o (staying s) (begin space s)).notes ≡ true) (sym call.1) refl)

-- so an actor whose tick begins none is no idle session
not_idle : (script : Script) (own : List Entry) (a : Actor)
    → not (list_any is_began (made_of script own a Tick).notes) ≡ true → is_idle_actor script own a ≡ false
not_idle script own Coordinator e = refl
not_idle script own (Server s) e = refl
not_idle script own (Session u) e = by (is_idle (session_of script u own)) refl
  where
    by : (b : Bool) → is_idle (session_of script u own) ≡ b → is_idle (session_of script u own) ≡ false
    by true t = absurd (true≢false (sym (idle_begins script.space (session_of script u own) t) ∙ not-true _ e))
    by false t = t

tick_is : (input : Input) → is_tick input ≡ true → input ≡ Tick
tick_is Tick e = refl
tick_is Halt e = absurd (cc)
tick_is (Deliver id from message) e = absurd (cc)

not_false : (b : Bool) → b ≡ false → not b ≡ true
not_false b e = ap not e

-- a retry is a step of an actor that waits
retry_waits : (script : Script) (a : Actor) (older : List Entry) (x : Entry) → IsOwnStep script a older x → is_retry x ≡ true → is_waiting script older a ≡ true
retry_waits script a older x s e =
    let both = and_parts (is_tick x.input) (not (list_any is_began x.notes)) e in
    let tick : x.input ≡ Tick = tick_is x.input both.0 in
    let made : made_of script older a Tick ≡ record { posts = x.outputs; notes = x.notes } =
    subst (λ (i : Input). made_of script older a i ≡ record { posts = x.outputs; notes = x.notes }) tick s.made in
    let enough : does_something Tick (record { posts = x.outputs; notes = x.notes }) ≡ true =
    subst (λ (i : Input). does_something i (record { posts = x.outputs; notes = x.notes }) ≡ true) tick s.enough in
    let idle = not_idle script older a (ap (λ (m : Output). not (list_any is_began m.notes)) made ∙ both.1) in
    and_from (not (has_halted script older a) && not (is_idle_actor script older a)) (does_something Tick (made_of script older a Tick))
    (and_from (not (has_halted script older a)) (not (is_idle_actor script older a)) (not_false _ s.running) (not_false _ idle))
    (ap (does_something Tick) made ∙ enough)

pub first_all : (n : ℕ) (xs : List Entry) → length xs ≤ n → first_entries n xs ≡ xs
first_all n [] le = refl
first_all n (x ∷ xs) le =
    cond_both (nat_lt (length xs) n) (x ∷ xs) (first_entries n xs) (λ l. l ≡ x ∷ xs) (λ t. refl)
    (λ t. absurd (true≢false (sym (lt-ltb (length xs) n (omega arith)) ∙ t)))

pub first_fewer : (n : ℕ) (x : Entry) (xs : List Entry) → n ≤ length xs → first_entries n (x ∷ xs) ≡ first_entries n xs
first_fewer n x xs le =
    cond_both (nat_lt (length xs) n) (x ∷ xs) (first_entries n xs) (λ l. l ≡ first_entries n xs)
    (λ t. absurd (true≢false (sym t ∙ le-ltb (length xs) n le))) (λ t. refl)

entry_below : (n : ℕ) (xs : List Entry) (x : Entry) → entry_at (n + 1) xs ≡ Some x → n < length xs
entry_below n [] x = λ e. absurd (cc)
entry_below n (y ∷ xs) x =
    cond_both (eqb (n + 1) (length xs + 1)) (Some y) (entry_at (n + 1) xs) (λ o. o ≡ Some x → n < length (y ∷ xs))
    (λ t e. omega (arith, eqb-true (n + 1) (length xs + 1) t)) (λ t e. let r = entry_below n xs x e in omega (arith, r))

-- the entry after the first n of an actor's own is a step after these
own_after : (script : Script) (a : Actor) (n : ℕ) (xs : List Entry) (x : Entry) → IsOwn script a xs
    → entry_at (n + 1) xs ≡ Some x → IsOwnStep script a (first_entries n xs) x
own_after script a n [] x o = λ e. absurd (cc)
own_after script a n (y ∷ xs) x o =
    cond_both (eqb (n + 1) (length xs + 1)) (Some y) (entry_at (n + 1) xs) (λ r. r ≡ Some x → IsOwnStep script a (first_entries n (y ∷ xs)) x)
    (λ t e.
    let same : y ≡ x = cc in
    let count : n ≡ length xs = omega (arith, eqb-true (n + 1) (length xs + 1) t) in
    let rest : first_entries n (y ∷ xs) ≡ xs = first_fewer n y xs (omega arith) ∙ first_all n xs (omega arith) in
    subst (λ l. IsOwnStep script a l x) (sym rest) (subst (IsOwnStep script a xs) same o.0))
    (λ t e.
    let below = entry_below n xs x e in
    subst (λ l. IsOwnStep script a l x) (sym (first_fewer n y xs (omega arith))) (own_after script a n xs x o.1 e))

pub retries_wait : (script : Script) (trace : List Entry) → IsRun script trace → (a : Actor) (n : ℕ) (x : Entry)
    → entry_at (n + 1) (own_entries a trace) ≡ Some x
    → is_retry x ≡ true → is_waiting script (first_entries n (own_entries a trace)) a ≡ true
retries_wait script trace run a n x e retry =
    retry_waits script a (first_entries n (own_entries a trace)) x (own_after script a n (own_entries a trace) x (entries_own script trace run a) e) retry

pub retriers_waited : (script : Script) (trace : List Entry) → IsRun script trace → (cut : Cut) (a : Actor)
    → retries_at cut trace a ≡ true → is_waiting script (own_at cut trace a) a ≡ true
retriers_waited script trace run cut a = by (next_at cut trace a) refl
  where
    by : (o : Option Entry) → next_at cut trace a ≡ o → when_some o false is_retry ≡ true → is_waiting script (own_at cut trace a) a ≡ true
    by None f e = absurd (cc)
    by (Some x) f e = retries_wait script trace run a (cut a) x f e
