-- Where nothing is left to do of the calls that were made, and no further call of the plan can be made, nothing is left of the plan.
use Rattle.std.proofs.Common.{◌≡◌, refl, ℕ, zero, suc, ◌+◌, ◌-◌, ◌<◌, ◌≤◌, Bool, true, false, ◌&&◌, not, ltb, leb}
use Rattle.std.proofs.Common.{cond, List, [], ◌∷◌, ◌++◌, length, inl, inr, Option, None, Some, sym, ap, ◌∙◌, subst}
use Rattle.std.proofs.Common.{arith, reverse}
use Rattle.std.specs.Option.{option_map}
use Rattle.std.proofs.lemmas.Bool.{cases_lt, le-leb, lt-ltb, ltb-false, false≢true}
use Rattle.std.proofs.lemmas.Option.{slice_get_past}
use Rattle.hx_types.specs.declared.calls.Op.{Op}
use Rattle.hx_types.specs.declared.ids.Actor.TheVariants.{Session}
use Rattle.hx_types.specs.declared.ids.SessionId.{SessionId}
use Rattle.hx_types.specs.declared.traces.Entry.{Entry}
use Rattle.hx_types.specs.declared.traces.Input.TheVariants.{Tick}
use Rattle.hx_types.specs.declared.traces.Script.{Script}
use Rattle.hx_types.specs.Fitting.{calls_of, numbered}
use Rattle.hx_types.specs.Words.{IsIn, below, first_some, when_some}
use Rattle.hx_model.specs.Runs.{IsRun, is_actor, session_of}
use Rattle.hx_model.specs.Schedule.{IsQuiet, Next, entry_by, first_delivery, idle_among, is_idle, undelivered}
use Rattle.hx_model.specs.SessionSteps.{SessionState}
use Rattle.hx_law_growing.specs.Growing.{GrowsTo, IsMade, QuietStays}
use Rattle.hx_law_growing.proofs.Lemmas.{numbered_from_1, Within, within}
use Rattle.hx_service.specs.Laws.{FreeSessionsRest, IsAtRest}
use Rattle.hx_service.specs.Receipts.{IsFree}
use Rattle.hx_service.specs.Services.{ServiceState}
use Rattle.hx_service.specs.Rosters.{HasNone}

in_front : (xs ys : List ℕ) (k : ℕ) → IsIn k xs → IsIn k (xs ++ ys)
in_front [] ys k i = absurd i
in_front (x ∷ xs) ys k (inl e) = inl e
in_front (x ∷ xs) ys k (inr i) = inr (in_front xs ys k i)

in_back : (xs ys : List ℕ) (k : ℕ) → IsIn k ys → IsIn k (xs ++ ys)
in_back [] ys k i = i
in_back (x ∷ xs) ys k i = inr (in_back xs ys k i)

below-in : (n k : ℕ) → k < n → IsIn k (below n)
below-in zero k l = absurd (omega (arith, l))
below-in (suc n) k l = elim (cases_lt k n) [
  | inl m ↦ in_front (below n) (n ∷ []) k (below-in n k m)
  | inr m ↦ in_back (below n) (n ∷ []) k (inl (let e : k ≡ n = omega (arith, l, m) in e))
]

-- where no session is idle, none of them is
none_idle : (script : Script) (t : List Entry) (ns : List ℕ) → idle_among script t ns ≡ None → (k : ℕ) → IsIn k ns
    → is_idle (session_of script (record { 0 = k + 1 }) t) ≡ false
none_idle script t [] e k i = absurd i
none_idle script t (n ∷ rest) e k i = by (is_idle (session_of script (record { 0 = n + 1 }) t)) refl e i (none_idle script t rest)
  where
    by : (b : Bool) → is_idle (session_of script (record { 0 = n + 1 }) t) ≡ b
        → cond b (Some (record { actor = Session (record { 0 = n + 1 }); input = Tick })) (idle_among script t rest) ≡ None
        → IsIn k (n ∷ rest)
        → (idle_among script t rest ≡ None → (k : ℕ) → IsIn k rest → is_idle (session_of script (record { 0 = k + 1 }) t) ≡ false)
        → is_idle (session_of script (record { 0 = k + 1 }) t) ≡ false
    by true is f i more = absurd (cc)
    by false is f (inl same) more = ap (λ m. is_idle (session_of script (record { 0 = m + 1 }) t)) same ∙ is
    by false is f (inr i) more = more f k i

-- a quiet schedule has no idle session
not_idle : (script : Script) (t : List Entry) → IsQuiet script t → (u : SessionId)
    → is_actor script (Session u) ≡ true → is_idle (session_of script u t) ≡ false
not_idle script t quiet u is = by (first_delivery script t (undelivered t)) (idle_among script t (below (length script.sessions))) refl quiet
  where
    number : (0 < u.0) × (u.0 ≤ length script.sessions)
    number = numbered_from_1 script u is

    same : (u.0 - 1) + 1 ≡ u.0
    same = omega (arith, number.0)

    by : (d i : Option Next) → idle_among script t (below (length script.sessions)) ≡ i
        → option_map (entry_by script t) (first_some d i) ≡ None → is_idle (session_of script u t) ≡ false
    by (Some x) i f z = absurd (cc)
    by None (Some x) f z = absurd (cc)
    by None None f z =
        let here = none_idle script t (below (length script.sessions)) f (u.0 - 1)
        (below-in (length script.sessions) (u.0 - 1) (omega (arith, number.0, number.1))) in
        ap (λ n. is_idle (session_of script (record { 0 = n }) t)) (sym same) ∙ here

-- a session that isn't one of the script's has no calls
no_calls : (script : Script) (u : SessionId) → is_actor script (Session u) ≡ false → calls_of script u ≡ []
no_calls script u out = by u.0 refl
  where
    past : (n : ℕ) → u.0 ≡ suc n → length script.sessions ≤ n
    past n e = elim (cases_lt n (length script.sessions)) [
      | inl less ↦ absurd (false≢true (sym out ∙ (ap (λ b. b && leb u.0 (length script.sessions))
          (lt-ltb 0 u.0 (omega (arith, e))) ∙ le-leb u.0 (length script.sessions) (omega (arith, e, less)))))
      | inr more ↦ more
    ]

    by : (n : ℕ) → u.0 ≡ n → when_some (numbered script.sessions n) [] (λ (calls : List Op). calls) ≡ []
    by zero e = refl
    by (suc n) e = ap (λ o. when_some o [] (λ (calls : List Op). calls)) (slice_get_past script.sessions n (past n e))

module _ (plan : Script) (s : ServiceState) (g : GrowsTo s.script plan) (run : IsRun s.script (reverse s.trace))
    (quiet : IsQuiet s.script (reverse s.trace)) (rest : FreeSessionsRest) where
  -- the session after the trace
  abbrev after : SessionId → SessionState
  after u = session_of s.script u (reverse s.trace)

  same_actors : (u : SessionId) → is_actor plan (Session u) ≡ is_actor s.script (Session u)
  same_actors u = ap (λ n. ltb 0 u.0 && leb u.0 n) g.sessions

  at_rest : (u : SessionId) → (after u).under_way ≡ false → is_idle (after u) ≡ false → IsAtRest s.script (reverse s.trace) u
  at_rest u ended still =
      let w : Within (calls_of s.script u) (after u) = within s.script plan g u (reverse s.trace) in
      let few : ltb (after u).begun (length (after u).calls) ≡ false = ap (λ b. not b && ltb (after u).begun (length (after u).calls)) (sym ended) ∙ still in
      let most : length (after u).calls ≤ (after u).begun = ltb-false (after u).begun (length (after u).calls) few in
      let all : length (after u).calls ≡ length (calls_of s.script u) = ap (λ (l : List Op). length l) w.calls_stay in
      record { ended = ended; begun = omega (arith, w.within, most, all) }

  -- a session that isn't free has a call under way
  busy : (u : SessionId) → is_actor plan (Session u) ≡ true → (IsFree s.script (reverse s.trace) u → ⊥) → (after u).under_way ≡ true
  busy u is not_free = by (after u).under_way refl
    where
      by : (b : Bool) → (after u).under_way ≡ b → b ≡ true
      by true e = refl
      by false e = absurd (not_free ((rest s.script (reverse s.trace) run u).1
          (at_rest u e (not_idle s.script (reverse s.trace) quiet u (sym (same_actors u) ∙ is)))))

  made : ((u : SessionId) → is_actor plan (Session u) ≡ true → HasNone plan s u) → (u : SessionId) → IsMade s.script plan (reverse s.trace) u
  made none u = by (is_actor plan (Session u)) refl
    where
      told : HasNone plan s u → is_actor plan (Session u) ≡ true → IsMade s.script plan (reverse s.trace) u
      told (inl not_free) is = inl (busy u is not_free)
      told (inr same) is = inr (sym same)

      by : (b : Bool) → is_actor plan (Session u) ≡ b → IsMade s.script plan (reverse s.trace) u
      by true is = told (none u is) is
      by false out = inr (no_calls plan u out ∙ sym (no_calls s.script u (sym (same_actors u) ∙ out)))

  pub nothing_left : QuietStays → ((u : SessionId) → is_actor plan (Session u) ≡ true → HasNone plan s u) → IsQuiet plan (reverse s.trace)
  nothing_left stays none = stays s.script plan g (reverse s.trace) run quiet (made none)

-- the same where what was made is known under other names
pub settled : (plan : Script) (old new lent : ServiceState) → new ≡ old → lent ≡ new → GrowsTo new.script plan → IsRun lent.script (reverse lent.trace)
    → IsQuiet old.script (reverse old.trace) → FreeSessionsRest → QuietStays
    → ((u : SessionId) → is_actor plan (Session u) ≡ true → HasNone plan old u) → IsQuiet plan (reverse new.trace)
settled plan old new lent same whole grows run quiet rest stays none =
    let g = subst (λ (s : ServiceState). GrowsTo s.script plan) same grows in
    let r = subst (λ (s : ServiceState). IsRun s.script (reverse s.trace)) (whole ∙ same) run in
    subst (λ (s : ServiceState). IsQuiet plan (reverse s.trace)) (sym same) (nothing_left plan old g r quiet rest stays none)

-- no call can be made for one session more
pub one_more : (plan : Script) (old now : ServiceState) (place : ℕ) → now ≡ old → ((u : SessionId) → 1 ≤ u.0 → u.0 ≤ place → HasNone plan old u)
    → HasNone plan now (record { 0 = place + 1 }) → (u : SessionId) → 1 ≤ u.0 → u.0 ≤ place + 1 → HasNone plan old u
one_more plan old now place same before here u low high = elim (cases_lt place u.0) [
  | inl more ↦
      let e : u.0 ≡ place + 1 = omega (arith, more, high) in
      let is : u ≡ record { 0 = place + 1 } = λ i. record { 0 = e i } in
      subst (λ (v : SessionId). HasNone plan old v) (sym is) (subst (λ (s : ServiceState). HasNone plan s (record { 0 = place + 1 })) same here)
  | inr less ↦ before u low less
]
