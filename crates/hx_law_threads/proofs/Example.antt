-- A run with a retry, by computing: a session's call is lost, and once nothing else is left the session sends it again.
use Rattle.hx_law_lemmas.proofs.Lemmas.Vocabulary.{[], Actor, and_parts, ap, arith, cond_both, Coordinator, entries_of, Entry, entry_at, eqb, eqb-true}
use Rattle.hx_law_lemmas.proofs.Lemmas.Vocabulary.{eqb_tells, false, false≢true, Get, inl, inr, IsIn, IsRun, leb-true, length, List, ltb-true, map, nat_le}
use Rattle.hx_law_lemmas.proofs.Lemmas.Vocabulary.{nat_lt, PostId, refl, same_actor, Script, Server, Session, Some, Space, stepped, subst, sym, true, ℕ, ⊎_elim}
use Rattle.hx_law_lemmas.proofs.Lemmas.Vocabulary.{◌&&◌, ◌+◌, ◌∙◌, ◌∷◌, ◌≡◌, ◌≢◌, ◌≤◌}
use Rattle.hx_types.specs.declared.traces.Step.TheVariants as a_step
use Rattle.hx_clock.specs.Views.{one}
use Rattle.hx_law_threads.specs.Own.{own_entries}
use Rattle.hx_law_threads.specs.Cuts.{delivered_at, delivered_twice, is_retry, is_waiting, open_at, own_at, posted_at, whole_of, Cut, HasCallUnderWay}
use Rattle.hx_law_threads.specs.Offers.{AllCame, NoMoreCame, Offer}
use Rattle.hx_law_threads.specs.Pacing.{retries_at, IsPacedToEnd, RetriesFollow, WaitersRetry}
use Rattle.hx_law_threads.proofs.Actors.{same_actor_is}
use Rattle.hx_law_threads.proofs.Lists.{of_filter}
use Rattle.hx_law_threads.proofs.Offers.{open_lost, repeats_put}

abbrev space : Space
space =
    record {
      name = 111 ∷ 110 ∷ 101 ∷ [];
      key_name = 107 ∷ [];
      key_parts = 1;
      attributes = [];
      subspaces = [];
      servers = 1;
      tolerate = 0;
    }

-- one session with `get "a"`
abbrev script : Script
script = record { space = space; sessions = (Get (97 ∷ []) ∷ []) ∷ []; steps = [] }

abbrev session : Actor
session = Session (record { 0 = 1 })

abbrev server : Actor
server = Server (record { 0 = 1 })

abbrev named : ℕ → ℕ → PostId
named entry place = record { entry = entry; place = place }

-- entry 1 begins the call, and its post is lost; entry 2 sends it again and asks for the newest configuration; both posts arrive, and the reply twice
abbrev trace : List Entry
trace = stepped script [] (
    a_step.Tick session ∷ a_step.Tick session ∷ a_step.Deliver (named 2 0) ∷ a_step.Deliver (named 2 1) ∷ a_step.Deliver (named 3 0)
    ∷ a_step.Deliver (named 3 0) ∷ []
    )

-- before the retry
abbrev cut : Cut
cut Coordinator = 0
cut (Server s) = 0
cut (Session u) = one (eqb u.0 1)

its_length : length trace ≡ 6
its_length = refl

-- it is a run
its_run : IsRun script trace
its_run = (
  record { actor = refl; running = refl; input = refl; made = refl; enough = refl },
  (
    record { actor = refl; running = refl; input = refl; made = refl; enough = refl },
    (
      record { actor = refl; running = refl; input = refl; made = refl; enough = refl },
      (
        record { actor = refl; running = refl; input = refl; made = refl; enough = refl },
        (
          record { actor = refl; running = refl; input = tt; made = refl; enough = refl },
          (record { actor = refl; running = refl; input = tt; made = refl; enough = refl }, tt),
        ),
      ),
    ),
  ),
)

one_retry : map is_retry trace ≡ false ∷ false ∷ false ∷ false ∷ true ∷ false ∷ []
one_retry = refl

made_by_the_cut : length (own_at cut trace session) ≡ 1
made_by_the_cut = refl

-- the session waits there, and nobody else does; and it retries next, and nobody else does
session_waits : is_waiting script (own_at cut trace session) session ≡ true
session_waits = refl

session_retries : retries_at cut trace session ≡ true
session_retries = refl

server_waits : is_waiting script (own_at cut trace server) server ≡ false
server_waits = refl

server_retries : retries_at cut trace server ≡ false
server_retries = refl

coordinator_waits : is_waiting script (own_at cut trace Coordinator) Coordinator ≡ false
coordinator_waits = refl

coordinator_retries : retries_at cut trace Coordinator ≡ false
coordinator_retries = refl

-- at the start nobody waits, since the session is idle
nobody_waits : is_waiting script [] session ≡ false
nobody_waits = refl

-- what was lost is open at the cut and at the end
posted_by_the_cut : posted_at cut trace ≡ named 1 0 ∷ []
posted_by_the_cut = refl

open_at_the_cut : open_at script cut trace ≡ named 1 0 ∷ []
open_at_the_cut = refl

delivered_by_the_end : delivered_at (whole_of trace) trace ≡ named 2 0 ∷ named 2 1 ∷ named 3 0 ∷ named 3 0 ∷ []
delivered_by_the_end = refl

open_at_the_end : open_at script (whole_of trace) trace ≡ named 1 0 ∷ []
open_at_the_end = refl

twice : delivered_twice trace ≡ named 3 0 ∷ []
twice = refl

-- the call is under way at the cut
under_way : HasCallUnderWay trace cut
under_way = (record { session = record { 0 = 1 }; number = 1 }, refl, refl)

-- an entry of a number stands in the list
at_in : (n : ℕ) (l : List Entry) (x : Entry) → entry_at n l ≡ Some x → IsIn x l
at_in n [] x = λ e. absurd (cc)
at_in n (y ∷ l) x =
    cond_both (eqb n (length l + 1)) (Some y) (entry_at n l) (λ o. o ≡ Some x → IsIn x (y ∷ l))
    (λ t e. let same : x ≡ y = cc in inl same) (λ t e. inr (at_in n l x e))

-- the one retry is the session's second entry
retry_is : (x : Entry) → IsIn x trace → is_retry x ≡ true → x.actor ≡ session
retry_is x (inl e) r = absurd (false≢true (sym (ap is_retry e) ∙ r))
retry_is x (inr (inl e)) r = absurd (false≢true (sym (ap is_retry e) ∙ r))
retry_is x (inr (inr (inl e))) r = absurd (false≢true (sym (ap is_retry e) ∙ r))
retry_is x (inr (inr (inr (inl e)))) r = absurd (false≢true (sym (ap is_retry e) ∙ r))
retry_is x (inr (inr (inr (inr (inl e))))) r = ap (λ (y : Entry). y.actor) e
retry_is x (inr (inr (inr (inr (inr (inl e)))))) r = absurd (false≢true (sym (ap is_retry e) ∙ r))
retry_is x (inr (inr (inr (inr (inr (inr i)))))) r = absurd i

no_retry : (y x : Entry) → is_retry y ≡ false → Some y ≡ Some x → is_retry x ≡ true → ⊥
no_retry y x n e r = let same : y ≡ x = cc in false≢true (sym n ∙ ap is_retry same ∙ r)

second : (n : ℕ) (x : Entry) → entry_at (n + 1) (own_entries session trace) ≡ Some x → is_retry x ≡ true → n ≡ 1
second n x =
    cond_both (eqb (n + 1) 4) _ _ (λ o. o ≡ Some x → is_retry x ≡ true → n ≡ 1) (λ t e r. absurd (no_retry _ x refl e r))
    (λ t.
    cond_both (eqb (n + 1) 3) _ _ (λ o. o ≡ Some x → is_retry x ≡ true → n ≡ 1) (λ t e r. absurd (no_retry _ x refl e r))
    (λ t.
    cond_both (eqb (n + 1) 2) _ _ (λ o. o ≡ Some x → is_retry x ≡ true → n ≡ 1) (λ t e r. omega (arith, eqb-true (n + 1) 2 t))
    (λ t.
    cond_both (eqb (n + 1) 1) _ _ (λ o. o ≡ Some x → is_retry x ≡ true → n ≡ 1) (λ t e r. absurd (no_retry _ x refl e r)) (λ t e r. absurd (cc)))))

retries_follow : RetriesFollow trace (cut ∷ [])
retries_follow a n x e r =
    let f = of_filter (λ (y : Entry). same_actor y.actor a) trace x (at_in (n + 1) (own_entries a trace) x e) in
    let who : a ≡ session = sym (same_actor_is x.actor a f.1) ∙ retry_is x f.0 r in
    let place = second n x (subst (λ b. entry_at (n + 1) (own_entries b trace) ≡ Some x) who e) r in
    (cut, inl refl, ap cut who ∙ sym place)

only_one : (n : ℕ) → (nat_lt 0 n && nat_le n 1) ≡ true → n ≡ 1
only_one n e = let both = and_parts (nat_lt 0 n) (nat_le n 1) e in omega (arith, ltb-true 0 n both.0, leb-true n 1 both.1)

waiters_retry : WaitersRetry script trace cut
waiters_retry Coordinator known = refl
waiters_retry (Server s) known =
    subst (λ n. retries_at cut trace (Server (record { 0 = n }))
    ≡ is_waiting script (own_at cut trace (Server (record { 0 = n }))) (Server (record { 0 = n })))
    (sym (only_one s.0 known)) refl
waiters_retry (Session u) known =
    subst (λ n. retries_at cut trace (Session (record { 0 = n }))
    ≡ is_waiting script (own_at cut trace (Session (record { 0 = n }))) (Session (record { 0 = n })))
    (sym (only_one u.0 known)) refl

within : (a : Actor) → cut a ≤ entries_of a trace
within Coordinator = omega arith
within (Server s) = omega arith
within (Session u) =
    ⊎_elim (λ (h : (eqb u.0 1 ≡ true) × (u.0 ≡ 1)). subst (λ n. one (eqb n 1) ≤ entries_of (Session (record { 0 = n })) trace) (sym h.1) one_of_four)
    (λ (h : (eqb u.0 1 ≡ false) × (u.0 ≢ 1)). subst (λ b. one b ≤ entries_of (Session u) trace) (sym h.0) (omega arith)) (eqb_tells u.0 1)
  where
    one_of_four : 1 ≤ entries_of session trace
    one_of_four = omega arith

-- the first post was never put, the reply twice, and the others once
abbrev offers : List Offer
offers =
    record { post = named 1 0; times = 0 }
    ∷ record { post = named 2 0; times = 1 }
    ∷ record { post = named 2 1; times = 1 }
    ∷ record { post = named 3 0; times = 2 }
    ∷ []

no_more_came : NoMoreCame trace offers
no_more_came = record { offered = λ h. refl; twice = (omega arith, (omega arith, (omega arith, (omega arith, tt)))); came = λ h. omega arith }

-- by the cut nothing had come, of the first post alone
none_came : AllCame script cut trace (record { post = named 1 0; times = 0 } ∷ [])
none_came = record { offered = λ h. refl; came = λ h halted. omega arith }

all_came : AllCame script (whole_of trace) trace offers
all_came = record { offered = λ h. refl; came = λ h halted. omega arith }

-- so the trace is paced, with one post lost and one repeated
its_pace : IsPacedToEnd script trace 1 1
its_pace = record {
  cuts = cut ∷ [];
  paced = record {
    within = (within, tt);
    rising = tt;
    retries = retries_follow;
    waiters = tt;
    calls = (under_way, tt);
    few_open = (open_lost script cut trace (record { post = named 1 0; times = 0 } ∷ []) none_came, tt);
  };
  waiters = (waiters_retry, tt);
  few_open = open_lost script (whole_of trace) trace offers all_came;
  repeated = repeats_put trace offers no_more_came;
}
