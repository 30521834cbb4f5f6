-- Calls that a session made one after the other.
use Rattle.std.proofs.Common.{◌≡◌, ℕ, suc, ◌+◌, ◌<◌, ◌≤◌, Bool, true, false, not, List, [], ◌∷◌, ◌++◌, length, cond, Some, refl, sym, ap, ◌∙◌, subst, arith}
use Rattle.std.specs.Prelude.{IsSome, nat_le, nat_lt, ◌&&◌}
use Rattle.std.specs.List.{filter}
use Rattle.std.proofs.lemmas.List.{append-nil, append_assoc, length-append}
use Rattle.std.proofs.lemmas.List.Elements.{filter-append}
use mathlib.Core.List.{IsPrefix}
use Rattle.hx_model.specs.Types.{Op, Script, Session, SessionId}
use Rattle.hx_types.specs.declared.limits.TheConstants.{MOST_CALLS}
use Rattle.hx_types.specs.Fitting.{IsScript, call_of, calls_of, is_done, numbered}
use Rattle.hx_model.specs.Runs.{IsRun, is_actor, session_of}
use Rattle.hx_model.specs.Histories.{note_of_end}
use Rattle.hx_law_growing.specs.Growing.{GrowsTo, calls_in}
use Rattle.hx_law_growing.proofs.Lemmas.{calls_grow, few_calls_of}
use Rattle.hx_service.specs.declared.receipts.Receipt.{Receipt}
use Rattle.hx_service.specs.Groups.{HasMade, done_in, left_in}
use Rattle.hx_service.specs.Laws.{ended_count}
use Rattle.hx_service.specs.Receipts.{IsFree, next_caller, receipts_by}
use Rattle.hx_service.specs.Services.{Grows, IsAnswered, ServiceState, newest}
use Rattle.hx_service.proofs.Free.{ended-number, number-ended, number-high}
use Rattle.hx_service.proofs.Plans.{next-behind}

prefix-on : {A : Type 0} (xs ys zs : List A) → IsPrefix xs ys → IsPrefix ys zs → IsPrefix xs zs
prefix-on xs ys zs p q = (p.0 ++ q.0, sym (append_assoc xs p.0 q.0) ∙ ap (λ l. l ++ q.0) p.1 ∙ q.1)

grows-on : (a b c : Script) → GrowsTo a b → GrowsTo b c → GrowsTo a c
grows-on a b c f g = record {
  space = g.space ∙ f.space;
  sessions = g.sessions ∙ f.sessions;
  calls = λ u. prefix-on (calls_of a u) (calls_of b u) (calls_of c u) (f.calls u) (g.calls u);
}

-- what grew twice grew
pub on : (a b c : ServiceState) → Grows a b → Grows b c → Grows a c
on a b c f g = record {
  script = grows-on a.script b.script c.script f.script g.script;
  trace = prefix-on a.trace b.trace c.trace f.trace g.trace;
}

pub still : (a : ServiceState) → Grows a a
still a = record {
  script = record { space = refl; sessions = refl; calls = λ u. ([], append-nil (calls_of a.script u)) };
  trace = ([], append-nil a.trace);
}

-- a session stays one of the script's
pub actor-on : (a b : ServiceState) (u : SessionId) → Grows a b → is_actor a.script (Session u) ≡ true → is_actor b.script (Session u) ≡ true
actor-on a b u g e = subst (λ (n : ℕ). nat_lt 0 u.0 && nat_le u.0 n ≡ true) (sym g.script.sessions) e

-- no call was made
pub none : (a : ServiceState) (u : SessionId) → HasMade a u [] a []
none a u = record {
  calls = sym (append-nil (calls_of a.script u));
  others = λ v e. refl;
  booked = sym (append-nil (receipts_by u (newest a)));
  each = refl;
  grows = still a;
}

-- calls and then others
pub joined : (a b c : ServiceState) (u : SessionId) (ops more : List Op) (receipts further : List Receipt)
    → HasMade a u ops b receipts → HasMade b u more c further → HasMade a u (ops ++ more) c (receipts ++ further)
joined a b c u ops more receipts further f g = record {
  calls = g.calls ∙ ap (λ l. l ++ more) f.calls ∙ append_assoc (calls_of a.script u) ops more;
  others = λ v e. g.others v e ∙ f.others v e;
  booked = g.booked ∙ ap (λ l. l ++ further) f.booked ∙ append_assoc (receipts_by u (newest a)) receipts further;
  each = length-append receipts further ∙ (let p = f.each in let q = g.each in let r = length-append ops more in omega (arith, p, q, r));
  grows = on a b c f.grows g.grows;
}

-- one call, which was answered
pub one : (old new : ServiceState) (u : SessionId) (op : Op) (r : Receipt) → is_actor old.script (Session u) ≡ true → IsAnswered old u op new r → Grows old new
    → HasMade old u (op ∷ []) new (r ∷ [])
one old new u op r actor answered grows =
    let more = calls_grow old.script u op actor in
    record {
      calls = ap (λ (s : Script). calls_of s u) answered.submitted ∙ more.here;
      others = λ v e. ap (λ (s : Script). calls_of s v) answered.submitted ∙ more.elsewhere v e;
      booked = answered.booked;
      each = refl;
      grows = grows;
    }

-- once its last call is answered a session is free
pub free-after : (old new : ServiceState) (u : SessionId) (op : Op) (r : Receipt) → is_actor old.script (Session u) ≡ true → IsAnswered old u op new r
    → IsRun new.script (newest new) → IsFree new.script (newest new) u
free-after old new u op r actor answered run number some =
    let calls : calls_of new.script u ≡ calls_of old.script u ++ op ∷ [] =
    ap (λ (s : Script). calls_of s u) answered.submitted ∙ (calls_grow old.script u op actor).here in
    let long : length (calls_of new.script u) ≡ length (calls_of old.script u) + 1 =
    ap (λ (l : List Op). length l) calls ∙ length-append (calls_of old.script u) (op ∷ []) in
    let n = number-high (calls_of new.script u) number some in
    let low : 0 < number = n.0 in
    let high : number ≤ length (calls_of new.script u) = n.1 in
    let ended : IsSome (note_of_end (next_caller old.script u) (newest new)) =
    subst IsSome (sym (ap (λ c. note_of_end c (newest new)) (sym answered.caller) ∙ answered.receipt.ended)) refl in
    let last = (ended-number new.script (newest new) run u (length (calls_of old.script u) + 1) ended).1 in
    let most : length (calls_of old.script u) + 1 ≤ ended_count (session_of new.script u (newest new)) = last in
    number-ended new.script (newest new) run u number low (omega (arith, high, long, most))

-- the call that was answered is the script's
pub answered-call : (old new : ServiceState) (u : SessionId) (op : Op) (r : Receipt) → is_actor old.script (Session u) ≡ true → IsAnswered old u op new r
    → call_of new.script r.caller ≡ Some op
answered-call old new u op r actor answered =
    ap (call_of new.script) answered.caller
    ∙ ap (λ (l : List Op). numbered l (length (calls_of old.script u) + 1))
    (ap (λ (s : Script). calls_of s u) answered.submitted ∙ (calls_grow old.script u op actor).here)
    ∙ next-behind (calls_of old.script u) (op ∷ [])

-- one put more that was done, or left
pub one-more : (receipts : List Receipt) (r : Receipt) (b : Bool) → is_done r.answer ≡ b
    → (done_in (receipts ++ r ∷ []) ≡ done_in receipts + cond b 1 0) × (left_in (receipts ++ r ∷ []) ≡ left_in receipts + cond b 0 1)
one-more receipts r b e = (
  ap length (filter-append (λ (x : Receipt). is_done x.answer) receipts (r ∷ []))
      ∙ length-append (filter (λ (x : Receipt). is_done x.answer) receipts) (filter (λ (x : Receipt). is_done x.answer) (r ∷ []))
      ∙ ap (λ n. done_in receipts + n) (ap (λ (c : Bool). length (cond c (r ∷ []) [])) e ∙ here b),
  ap length (filter-append (λ (x : Receipt). not (is_done x.answer)) receipts (r ∷ []))
      ∙ length-append (filter (λ (x : Receipt). not (is_done x.answer)) receipts) (filter (λ (x : Receipt). not (is_done x.answer)) (r ∷ []))
      ∙ ap (λ n. left_in receipts + n) (ap (λ (c : Bool). length (cond (not c) (r ∷ []) [])) e ∙ there b),
)
  where
    here : (b : Bool) → length (cond b (r ∷ []) []) ≡ cond b 1 0
    here true = refl
    here false = refl

    there : (b : Bool) → length (cond (not b) (r ∷ []) []) ≡ cond b 0 1
    there true = refl
    there false = refl

-- each put is one of the two
pub all-counted : (receipts : List Receipt) → done_in receipts + left_in receipts ≡ length receipts
all-counted [] = refl
all-counted (r ∷ rest) = by (is_done r.answer) (all-counted rest)
  where
    by : (b : Bool) → done_in rest + left_in rest ≡ length rest
        → length (cond b (r ∷ filter (λ (x : Receipt). is_done x.answer) rest) (filter (λ (x : Receipt). is_done x.answer) rest))
        + length (cond (not b) (r ∷ filter (λ (x : Receipt). not (is_done x.answer)) rest) (filter (λ (x : Receipt). not (is_done x.answer)) rest))
        ≡ suc (length rest)
    by true e = omega (arith, e)
    by false e = omega (arith, e)

-- no session makes more calls than a script has
pub few-made : (old new : ServiceState) (u : SessionId) (ops : List Op) (receipts : List Receipt) → is_actor new.script (Session u) ≡ true → IsScript new.script
    → HasMade old u ops new receipts → length receipts ≤ MOST_CALLS
few-made old new u ops receipts actor valid made =
    let a = few_calls_of new.script u actor in
    let b : length (calls_of new.script u) ≡ length (calls_of old.script u) + length ops =
    ap (λ (l : List Op). length l) made.calls ∙ length-append (calls_of old.script u) ops in
    let c : calls_in new.script ≤ MOST_CALLS = valid.few_calls in
    let d = made.each in
    omega (arith, a, b, c, d)
