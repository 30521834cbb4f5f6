-- A script with one more call of a session.
use Rattle.std.proofs.Common.{◌≡◌, ◌≢◌, refl, ℕ, zero, suc, ◌+◌, ◌-◌, ◌<◌, ◌≤◌, Bool, true, false, ◌&&◌, inl, inr}
use Rattle.std.proofs.Common.{List, [], ◌∷◌, ◌++◌, length, leb, ltb, set, Some, sym, ap, ◌∙◌, subst, arith, get_or}
use Rattle.std.proofs.Common.{slice_get}
use Rattle.std.proofs.lemmas.Bool.{cases_eq, false≢true, leb-true, ltb-true}
use Rattle.std.proofs.lemmas.List.{append-nil, length-append}
use Rattle.std.proofs.lemmas.List.Elements.{All-get_or, All-push, All-set}
use Rattle.std.proofs.lemmas.List.Sums.{get_or-le-sum_by, sum_by-set}
use Rattle.std.specs.List.{All}
use mathlib.Core.List.{IsPrefix}
use Rattle.hx_model.specs.Types.{Op, Script, Session, SessionId}
use Rattle.hx_types.specs.Fitting.{IsScript, calls_of, numbered}
use Rattle.hx_types.specs.Spaces.{Fits}
use Rattle.hx_types.specs.Words.{when_some}
use Rattle.hx_model.specs.Runs.{is_actor}
use Rattle.hx_law_growing.specs.Growing.{CallsGrow, GrowsTo, ScriptsStay, calls_in, with_call_of}

-- items of a list of which one was set
get-set_here : {A : Type 0} (xs : List A) (i : ℕ) (y : A) → i < length xs → slice_get (set xs i y) i ≡ Some y
get-set_here [] i y lt = absurd (omega arith)
get-set_here (x ∷ xs) zero y lt = refl
get-set_here (x ∷ xs) (suc i) y lt = get-set_here xs i y (omega arith)

get-set_elsewhere : {A : Type 0} (xs : List A) (i j : ℕ) (y : A) → i ≢ j → slice_get (set xs i y) j ≡ slice_get xs j
get-set_elsewhere [] i j y ne = refl
get-set_elsewhere (x ∷ xs) zero zero y ne = absurd (ne refl)
get-set_elsewhere (x ∷ xs) zero (suc j) y ne = refl
get-set_elsewhere (x ∷ xs) (suc i) zero y ne = refl
get-set_elsewhere (x ∷ xs) (suc i) (suc j) y ne = get-set_elsewhere xs i j y (λ e. ne (ap suc e))

pub length-set : {A : Type 0} (xs : List A) (i : ℕ) (y : A) → length (set xs i y) ≡ length xs
length-set [] i y = refl
length-set (x ∷ xs) zero y = refl
length-set (x ∷ xs) (suc i) y = ap suc (length-set xs i y)

-- an item, or another where the list ends before its place
pub get-or : {A : Type 0} (xs : List A) (i : ℕ) (none : A) → when_some (slice_get xs i) none (λ (x : A). x) ≡ get_or xs i none
get-or [] i none = refl
get-or (x ∷ xs) zero none = refl
get-or (x ∷ xs) (suc i) none = get-or xs i none

-- sessions are numbered from 1
pub numbered_from_1 : (script : Script) (session : SessionId) → is_actor script (Session session) ≡ true
    → (0 < session.0) × (session.0 ≤ length script.sessions)
numbered_from_1 script session is = by (ltb 0 session.0) (leb session.0 (length script.sessions)) refl refl is
  where
    by : (low high : Bool) → ltb 0 session.0 ≡ low → leb session.0 (length script.sessions) ≡ high → (low && high) ≡ true
        → (0 < session.0) × (session.0 ≤ length script.sessions)
    by true true l h e = (ltb-true 0 session.0 l, leb-true session.0 (length script.sessions) h)
    by true false l h e = absurd (false≢true e)
    by false high l h e = absurd (false≢true e)

pub same_session : (u v : SessionId) → u.0 ≡ v.0 → u ≡ v
same_session u v e = λ i. record { 0 = e i }

-- the calls that a session has stand at its place
calls-at : (script : Script) (session : SessionId) → 0 < session.0 → session.0 ≤ length script.sessions
    → calls_of script session ≡ get_or script.sessions (session.0 - 1) []
calls-at script session low high = by session.0 refl
  where
    by : (n : ℕ) → session.0 ≡ n → when_some (numbered script.sessions n) [] (λ (calls : List Op). calls) ≡ get_or script.sessions (session.0 - 1) []
    by zero e = absurd (omega (arith, low, e))
    by (suc n) e =
        let place : n ≡ session.0 - 1 = omega (arith, e) in
        get-or script.sessions n [] ∙ ap (λ i. get_or script.sessions i []) place

module _ (script : Script) (session : SessionId) (op : Op) (low : 0 < session.0) (high : session.0 ≤ length script.sessions) where
  abbrev calls : List Op
  calls = calls_of script session ++ op ∷ []

  abbrev more : Script
  more = with_call_of script session op

  calls-here : calls_of more session ≡ calls
  calls-here = by session.0 refl
    where
      by : (n : ℕ) → session.0 ≡ n → when_some (numbered more.sessions n) [] (λ (calls : List Op). calls) ≡ calls
      by zero e = absurd (omega (arith, low, e))
      by (suc n) e =
          let place : session.0 - 1 ≡ n = omega (arith, e) in
          ap (λ o. when_some o [] (λ (calls : List Op). calls))
          (subst (λ i. slice_get (set script.sessions (session.0 - 1) calls) i ≡ Some calls) place
          (get-set_here script.sessions (session.0 - 1) calls (omega (arith, low, high))))

  calls-elsewhere : (u : SessionId) → u.0 ≢ session.0 → calls_of more u ≡ calls_of script u
  calls-elsewhere u ne = by u.0 refl
    where
      by : (n : ℕ) → u.0 ≡ n
          → when_some (numbered more.sessions n) [] (λ (calls : List Op). calls) ≡ when_some (numbered script.sessions n) [] (λ (calls : List Op). calls)
      by zero e = refl
      by (suc n) e =
          ap (λ o. when_some o [] (λ (calls : List Op). calls))
          (get-set_elsewhere script.sessions (session.0 - 1) n calls (λ q. ne (omega (arith, q, e, low))))

  grows : GrowsTo script more
  grows = record {
    space = refl;
    sessions = length-set script.sessions (session.0 - 1) calls;
    calls = λ u. elim (cases_eq u.0 session.0) [
      | inl e ↦ subst (λ (v : SessionId). IsPrefix (calls_of script v) (calls_of more v)) (sym (same_session u session e)) (op ∷ [], sym calls-here)
      | inr ne ↦ subst (λ (l : List Op). IsPrefix (calls_of script u) l) (sym (calls-elsewhere u ne)) ([], append-nil (calls_of script u))
    ];
  }

  count : calls_in more ≡ calls_in script + 1
  count =
      let sum = sum_by-set (λ (calls : List Op). length calls) script.sessions (session.0 - 1) calls [] (omega (arith, low, high)) in
      let long : length calls ≡ length (calls_of script session) + 1 = length-append (calls_of script session) (op ∷ []) in
      let here : length (calls_of script session) ≡ length (get_or script.sessions (session.0 - 1) []) =
      ap (λ (l : List Op). length l) (calls-at script session low high) in
      omega (arith, sum, long, here)

  stays : IsScript script → Fits script.space op → calls_in script < 16384 → IsScript more
  stays s fits few =
      let so_far : All (Fits script.space) (calls_of script session) =
      subst (λ (l : List Op). All (Fits script.space) l) (sym (calls-at script session low high))
      (All-get_or (λ (l : List Op). All (Fits script.space) l) script.sessions (session.0 - 1) [] (omega (arith, low, high)) s.calls) in
      record {
        space = s.space;
        sessions = subst (λ n. n ≤ 16) (sym grows.sessions) s.sessions;
        calls = All-set (λ (l : List Op). All (Fits script.space) l) script.sessions (session.0 - 1) calls
            (All-push (Fits script.space) (calls_of script session) op so_far fits) s.calls;
        few_calls = let n = count in omega (arith, n, few);
        few_steps = s.few_steps;
      }

-- the calls of one of the script's sessions stand at its place
pub own_calls : (script : Script) (session : SessionId) → is_actor script (Session session) ≡ true
    → calls_of script session ≡ get_or script.sessions (session.0 - 1) []
own_calls script session is = let n = numbered_from_1 script session is in calls-at script session n.0 n.1

-- a session's calls are among all
pub few_calls_of : (script : Script) (session : SessionId) → is_actor script (Session session) ≡ true → length (calls_of script session) ≤ calls_in script
few_calls_of script session is =
    let n = numbered_from_1 script session is in
    subst (λ (l : List Op). length l ≤ calls_in script) (sym (own_calls script session is))
    (get_or-le-sum_by (λ (l : List Op). length l) script.sessions (session.0 - 1) [] (omega (arith, n.0, n.1)))

pub calls_grow : CallsGrow
calls_grow script session op is =
    let n = numbered_from_1 script session is in
    record {
      grows = grows script session op n.0 n.1;
      here = calls-here script session op n.0 n.1;
      elsewhere = λ u ne. calls-elsewhere script session op n.0 n.1 u (λ e. ne (same_session u session e));
      count = count script session op n.0 n.1;
    }

pub scripts_stay : ScriptsStay
scripts_stay script session op is =
    let n = numbered_from_1 script session is in stays script session op n.0 n.1
