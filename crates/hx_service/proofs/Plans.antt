-- The next call of a plan.
use Rattle.std.proofs.Common.{◌≡◌, ℕ, zero, suc, ◌+◌, ◌<◌, ◌≤◌, inl, inr, Bool, true, false, List, [], ◌∷◌, ◌++◌}
use Rattle.std.proofs.Common.{length, Option, Some, None, refl, sym, ap, ◌∙◌, subst, arith, eqb}
use Rattle.std.specs.Prelude.{Result, nat_le, nat_lt, slice_get, sum_by, ◌&&◌, ◌-◌}
use Rattle.std.proofs.lemmas.Bool.{eq-eqb, eqb-true, true≢false}
use Rattle.std.proofs.lemmas.List.{append-nil, append_assoc, length-append}
use Rattle.std.proofs.lemmas.List.Sums.{sum_by-cons}
use mathlib.Core.List.{IsPrefix}
use Rattle.hx_model.specs.Types.{Op, Script, Session, SessionId, Space}
use Rattle.hx_types.specs.declared.limits.TheConstants.{MOST_CALLS}
use Rattle.hx_types.specs.Fitting.{call_of, calls_of, numbered}
use Rattle.hx_types.specs.Spaces.{Fits}
use Rattle.hx_types.specs.Words.{IsIn, when_some}
use Rattle.std.specs.List.{All}
use Rattle.hx_model.specs.Runs.{is_actor}
use Rattle.hx_law_growing.specs.Growing.{GrowsTo, calls_in, with_call_of}
use Rattle.hx_law_growing.proofs.Lemmas.{calls_grow, numbered_from_1, own_calls, same_session}
use Rattle.hx_law_lemmas.proofs.Lemmas.{all-in, in-slice_get}
use Rattle.hx_service.specs.declared.errors.ServiceError.{ServiceError}
use Rattle.hx_service.specs.declared.receipts.Receipt.{Receipt}
use Rattle.hx_service.specs.Receipts.{next_caller}
use Rattle.hx_service.specs.Rosters.{Follows}
use Rattle.hx_service.specs.Services.{Calls, ServiceState}
use Rattle.hx_service.proofs.Outcomes.{script-after}

-- the item behind a front
behind : {A : Type 0} (xs rest : List A) → slice_get (xs ++ rest) (length xs) ≡ slice_get rest 0
behind [] rest = refl
behind (x ∷ xs) rest = behind xs rest

pub next-behind : {A : Type 0} (xs rest : List A) → numbered (xs ++ rest) (length xs + 1) ≡ slice_get rest 0
next-behind xs rest = ap (numbered (xs ++ rest)) (let q : length xs + 1 ≡ suc (length xs) = omega arith in q) ∙ behind xs rest

-- a list that has a first item
first-of : {A : Type 0} (rest : List A) (x : A) → slice_get rest 0 ≡ Some x → (more : List A) × (rest ≡ x ∷ more)
first-of [] x e = absurd (cc)
first-of (y ∷ ys) x e = let q : y ≡ x = cc in (ys, ap (λ z. z ∷ ys) q)

none-first : {A : Type 0} (rest : List A) → slice_get rest 0 ≡ None → rest ≡ []
none-first [] e = refl
none-first (y ∷ ys) e = absurd (cc)

module _ (script plan : Script) (g : GrowsTo script plan) (u : SessionId) where
  abbrev rest : List Op
  rest = (g.calls u).0

  -- the next call by the plan is the first of the rest
  next-is : call_of plan (next_caller script u) ≡ slice_get rest 0
  next-is = ap (λ (l : List Op). numbered l (length (calls_of script u) + 1)) (sym (g.calls u).1) ∙ next-behind (calls_of script u) rest

  -- where there is none all were submitted
  pub none-left : call_of plan (next_caller script u) ≡ None → calls_of script u ≡ calls_of plan u
  none-left e = let q = none-first rest (sym next-is ∙ e) in
      sym (append-nil (calls_of script u)) ∙ ap (λ (l : List Op). calls_of script u ++ l) (sym q) ∙ (g.calls u).1

  module _ (op : Op) (actor : is_actor script (Session u) ≡ true) (planned : call_of plan (next_caller script u) ≡ Some op) where
    -- with it the script still grows to the plan
    pub grows-on : GrowsTo (with_call_of script u op) plan
    grows-on =
        let h = calls_grow script u op actor in
        record { space = g.space; sessions = g.sessions ∙ sym h.grows.sessions; calls = λ v. by v (eqb v.0 u.0) refl }
      where
        here : IsPrefix (calls_of (with_call_of script u op) u) (calls_of plan u)
        here =
            let h = calls_grow script u op actor in
            let f = first-of rest op (sym next-is ∙ planned) in (
              f.0,
              ap (λ (l : List Op). l ++ f.0) h.here ∙ append_assoc (calls_of script u) (op ∷ []) f.0
                  ∙ ap (λ (l : List Op). calls_of script u ++ l) (sym f.1) ∙ (g.calls u).1,
            )

        by : (v : SessionId) → (b : Bool) → eqb v.0 u.0 ≡ b → IsPrefix (calls_of (with_call_of script u op) v) (calls_of plan v)
        by v true e = subst (λ (w : SessionId). IsPrefix (calls_of (with_call_of script u op) w) (calls_of plan w))
            (sym (same_session v u (eqb-true v.0 u.0 e))) here
        by v false e =
            let ne : v ≡ u → ⊥ = λ q. true≢false (sym (eq-eqb v.0 u.0 (ap (λ (w : SessionId). w.0) q)) ∙ e) in
            subst (λ (l : List Op). IsPrefix l (calls_of plan v)) (sym ((calls_grow script u op actor).elsewhere v ne)) (g.calls v)

-- the calls of a place
abbrev calls_at : List (List Op) → ℕ → List Op
calls_at xs i = when_some (slice_get xs i) [] (λ (calls : List Op). calls)

sum-grows : (xs ys : List (List Op)) → length xs ≡ length ys → ((i : ℕ) → length (calls_at xs i) ≤ length (calls_at ys i))
    → sum_by (λ (calls : List Op). length calls) xs ≤ sum_by (λ (calls : List Op). length calls) ys
sum-grows [] ys e f = omega arith
sum-grows (x ∷ xs) [] e f = absurd (omega (arith, e))
sum-grows (x ∷ xs) (y ∷ ys) e f =
    let a : length x ≤ length y = f 0 in
    let b = sum-grows xs ys (omega (arith, e)) (λ i. f (suc i)) in
    let p = sum_by-cons (λ (calls : List Op). length calls) x xs in
    let q = sum_by-cons (λ (calls : List Op). length calls) y ys in
    omega (arith, a, b, p, q)

-- a script that grows has no fewer calls
pub calls-grow-in : (a b : Script) → GrowsTo a b → calls_in a ≤ calls_in b
calls-grow-in a b g = sum-grows a.sessions b.sessions (sym g.sessions)
    (λ i. longer (calls_at a.sessions i) (calls_at b.sessions i) (g.calls (record { 0 = suc i })))
  where
    longer : (xs ys : List Op) → IsPrefix xs ys → length xs ≤ length ys
    longer xs ys p = let q = ap length p.1 in let r = length-append xs p.0 in omega (arith, q, r)

-- so a plan's next call finds room
pub few-planned : (script plan : Script) → Follows plan script → (u : SessionId) (op : Op) → is_actor script (Session u) ≡ true
    → call_of plan (next_caller script u) ≡ Some op → calls_in script < MOST_CALLS
few-planned script plan f u op actor planned =
    let g = grows-on script plan f.grows u op actor planned in
    let a = calls-grow-in (with_call_of script u op) plan g in
    let b = (calls_grow script u op actor).count in
    let c : calls_in plan ≤ MOST_CALLS = f.valid.few_calls in
    omega (arith, a, b, c)

-- a session of the plan is one of the script
pub actor-of : (script plan : Script) → GrowsTo script plan → (u : SessionId) → is_actor plan (Session u) ≡ true → is_actor script (Session u) ≡ true
actor-of script plan g u e = subst (λ (n : ℕ). nat_lt 0 u.0 && nat_le u.0 n ≡ true) g.sessions e

-- the plan's calls fit
pub planned-fits : (script plan : Script) → Follows plan script → (u : SessionId) (op : Op) → is_actor plan (Session u) ≡ true
    → call_of plan (next_caller script u) ≡ Some op → Fits script.space op
planned-fits script plan f u op actor planned =
    subst (λ (s : Space). Fits s op) f.grows.space
    (all-in (Fits plan.space) (calls_of plan u) op own (in-numbered (calls_of plan u) (length (calls_of script u) + 1) planned))
  where
    in-numbered : (xs : List Op) (n : ℕ) → numbered xs n ≡ Some op → IsIn op xs
    in-numbered xs zero e = absurd (cc)
    in-numbered xs (suc n) e = in-slice_get xs n op e

    own : All (Fits plan.space) (calls_of plan u)
    own =
        let n = numbered_from_1 plan u actor in
        let low = n.0 in
        let high : u.0 ≤ length plan.sessions = n.1 in
        subst (All (Fits plan.space)) (sym (own_calls plan u actor)) (f.valid.calls (u.0 - 1) [] (omega (arith, low, high)))

-- the call that a plan gives at the number behind those of the script
pub planned-is : (script seen plan : Script) (calls : List Op) (u : SessionId) (o : Option Op) → calls ≡ calls_of seen u → seen ≡ script
    → o ≡ call_of plan (record { session = u; number = length calls + 1 }) → call_of plan (next_caller script u) ≡ o
planned-is script seen plan calls u o e f g =
    ap (λ (l : List Op). call_of plan (record { session = u; number = length l + 1 })) (sym (e ∙ ap (λ (s : Script). calls_of s u) f)) ∙ sym g

-- the plan is followed still
pub follows-on : (old new : ServiceState) (plan : Script) → Follows plan old.script → (u : SessionId) (op : Op) → is_actor old.script (Session u) ≡ true
    → call_of plan (next_caller old.script u) ≡ Some op → (result : Result Receipt ServiceError) → Calls old u op new result → Follows plan new.script
follows-on old new plan f u op actor planned result calls = elim (script-after old u op new actor result calls) [
  | inl e ↦ subst (λ (w : ServiceState). Follows plan w.script) (sym e) f
  | inr s ↦ subst (Follows plan) (sym s) (record { valid = f.valid; grows = grows-on old.script plan f.grows u op actor planned })
]
