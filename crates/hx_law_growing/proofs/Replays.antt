-- What one caller makes of a script alone is its replay, and a script has one replay.
use Rattle.std.proofs.Common.{◌≡◌, ◌≢◌, refl, ℕ, zero, suc, ◌≤◌, Bool, true, false, ◌&&◌, ◌⊎◌, inl, inr, List, [], ◌∷◌}
use Rattle.std.proofs.Common.{◌++◌, length, map, replicate, leb, ltb, None, Some, sym, ap, ◌∙◌, subst, arith, add-one}
use Rattle.std.proofs.Common.{slice_get}
use Rattle.std.proofs.lemmas.Bool.{cases_eq, leb-false, leb-true}
use mathlib.Core.List.{IsPrefix}
use Rattle.hx_model.specs.Types.{Entry, Op, Script, SessionId, Step}
use Rattle.hx_types.specs.Fitting.{calls_of, numbered}
use Rattle.hx_types.specs.Words.{when_some}
use Rattle.hx_model.specs.Runs.{IsRun}
use Rattle.hx_model.specs.Schedule.{IsQuiet, next_entry, scheduled, stepped, with_entry}
use Rattle.hx_law_growing.specs.Alone.{AreAlone, IsNextCall, LoneCallersReplay, Made, ReplaysAreOne, script_made, trace_made, without_calls}
use Rattle.hx_law_growing.specs.Growing.{GrowsTo, HasCallMore, with_call_of}
use Rattle.hx_law_growing.proofs.Agreeing.{AreInOrder, same-way}
use Rattle.hx_law_growing.proofs.Calls.{calls_grow, same_session}
use Rattle.hx_law_growing.proofs.Runs.{quiet_stays}

-- without calls no session has one
no-calls : (count n : ℕ) → when_some (numbered {A = List Op} (replicate count []) n) [] (λ (calls : List Op). calls) ≡ []
no-calls count zero = refl
no-calls zero (suc n) = refl
no-calls (suc count) (suc zero) = refl
no-calls (suc count) (suc (suc n)) = no-calls count (suc n)

length-replicate : (count : ℕ) (calls : List Op) → length (replicate count calls) ≡ count
length-replicate zero calls = refl
length-replicate (suc count) calls = ap suc (length-replicate count calls)

-- the front of a list with its next item is the front of it
next-in-front : (xs rest : List Op) (op : Op) → slice_get (xs ++ rest) (length xs) ≡ Some op → IsPrefix (xs ++ op ∷ []) (xs ++ rest)
next-in-front [] [] op e = absurd (cc)
next-in-front [] (y ∷ rest) op e = let same : op ≡ y = cc in (rest, ap (λ (x : Op). x ∷ rest) same)
next-in-front (x ∷ xs) rest op e = let p = next-in-front xs rest op e in (p.0, ap (λ (l : List Op). x ∷ l) p.1)

-- the calls made grow to the plan, and lower sessions are further
pub record Goes (plan script : Script) : Type 0 where
  pub grows : GrowsTo script plan
  pub order : AreInOrder script plan

begins : (plan : Script) → Goes plan (without_calls plan)
begins plan = record {
  grows = record {
    space = refl;
    sessions = sym (length-replicate (length plan.sessions) []);
    calls = λ u. subst (λ (l : List Op). IsPrefix l (calls_of plan u)) (sym (no-calls (length plan.sessions) u.0)) (calls_of plan u, refl);
  };
  order = λ u v lower. inl (no-calls (length plan.sessions) v.0);
}

goes-on : (plan : Script) (older : List Made) (m : Made) → IsNextCall plan older m → Goes plan (script_made plan older)
    → Goes plan (with_call_of (script_made plan older) m.session m.op)
goes-on plan older m next so_far = record {
  grows = record {
    space = so_far.grows.space;
    sessions = so_far.grows.sessions ∙ sym longer.grows.sessions;
    calls = λ u. elim (cases_eq u.0 m.session.0) [
      | inl e ↦ subst (λ (v : SessionId). IsPrefix (calls_of more v) (calls_of plan v)) (sym (same_session u m.session e)) here
      | inr ne ↦ subst (λ (l : List Op). IsPrefix l (calls_of plan u)) (sym (elsewhere u ne)) (so_far.grows.calls u)
    ];
  };
  order = λ u v lower. elim (cases_eq v.0 m.session.0) [
    | inl e ↦ inr (sym (elsewhere u (λ q. absurd (omega (arith, lower, e, q))) ∙ next.lower u (omega (arith, lower, e))))
    | inr ne ↦ elim (so_far.order u v lower) [
      | inl none ↦ inl (elsewhere v ne ∙ none)
      | inr same ↦ elim (cases_eq u.0 m.session.0) [
        | inl q ↦ absurd (all_made (subst (λ (w : SessionId). calls_of plan w ≡ calls_of script w) (same_session u m.session q) same))
        | inr other ↦ inr (same ∙ sym (elsewhere u other))
      ]
    ]
  ];
}
  where
    script : Script
    script = script_made plan older

    more : Script
    more = with_call_of (script_made plan older) m.session m.op

    longer : HasCallMore (script_made plan older) (with_call_of (script_made plan older) m.session m.op) m.session m.op
    longer = calls_grow (script_made plan older) m.session m.op (sym (ap (λ n. ltb 0 m.session.0 && leb m.session.0 n) so_far.grows.sessions) ∙ next.session)

    elsewhere : (u : SessionId) → u.0 ≢ m.session.0 → calls_of (with_call_of (script_made plan older) m.session m.op) u ≡ calls_of (script_made plan older) u
    elsewhere u ne = longer.elsewhere u (λ e. ne (ap (λ (v : SessionId). v.0) e))

    at_end : slice_get (calls_of plan m.session) (length (calls_of (script_made plan older) m.session)) ≡ Some m.op
    at_end = sym (ap (numbered (calls_of plan m.session)) (add-one (length (calls_of (script_made plan older) m.session)))) ∙ next.call

    here : IsPrefix (calls_of (with_call_of (script_made plan older) m.session m.op) m.session) (calls_of plan m.session)
    here =
        let p = so_far.grows.calls m.session in
        subst (λ (l : List Op). IsPrefix l (calls_of plan m.session)) (sym longer.here)
        (
        subst (λ (l : List Op). IsPrefix (calls_of (script_made plan older) m.session ++ m.op ∷ []) l) p.1
        (next-in-front (calls_of (script_made plan older) m.session) p.0 m.op
        (subst (λ (l : List Op). slice_get l (length (calls_of (script_made plan older) m.session)) ≡ Some m.op) (sym p.1) at_end))
        )

    past : (xs : List Op) → slice_get xs (length xs) ≡ None
    past [] = refl
    past (x ∷ xs) = past xs

    all_made : calls_of plan m.session ≡ calls_of (script_made plan older) m.session → ⊥
    all_made e =
        let none = past (calls_of plan m.session) in
        let some = ap (λ (l : List Op). slice_get (calls_of plan m.session) (length l)) e ∙ at_end in
        absurd (cc)

pub goes : (plan : Script) (made : List Made) → AreAlone plan made → Goes plan (script_made plan made)
goes plan [] alone = begins plan
goes plan (m ∷ older) alone = goes-on plan older m alone.0 (goes plan older alone.2)

-- the schedule of the plan comes to the same trace
way : (plan : Script) (made : List Made) → AreAlone plan made → (k : ℕ) × (trace_made plan made ≡ scheduled plan [] k)
way plan [] alone = (0, refl)
way plan (m ∷ older) alone =
    let g = goes plan (m ∷ older) alone in
    same-way (script_made plan (m ∷ older)) plan g.grows g.order (trace_made plan older) [] m.entries alone.1 (way plan older alone.2)

run-of : (plan : Script) (made : List Made) → AreAlone plan made → IsRun (script_made plan made) (trace_made plan made)
run-of plan [] alone = tt
run-of plan (m ∷ older) alone = alone.1

pub lone_callers_replay : LoneCallersReplay
lone_callers_replay plan none made alone whole quiet =
    let g = goes plan made alone in
    let k = way plan made alone in
    record {
      entries = k.0;
      trace_is = k.1 ∙ ap (λ (steps : List (ℕ × Step)). scheduled plan (stepped plan [] (map (λ (s : ℕ × Step). s.1) steps)) k.0) (sym none);
      quiet = quiet_stays (script_made plan made) plan g.grows (trace_made plan made) (run-of plan made alone) quiet (λ u. inr (sym (whole u)));
    }

-- a quiet schedule makes no more
still : (script : Script) (t : List Entry) (n m : ℕ) → n ≤ m → IsQuiet script (scheduled script t n) → scheduled script t m ≡ scheduled script t n
still script t n zero le quiet = let e : 0 ≡ n = omega (arith, le) in ap (scheduled script t) e
still script t n (suc m) le quiet = elim (cases_eq n (suc m)) [
  | inl e ↦ ap (scheduled script t) (sym e)
  | inr ne ↦
      let before = still script t n m (omega (arith, le, ne)) quiet in
      ap (λ (l : List Entry). with_entry l (next_entry script l)) before ∙ ap (with_entry (scheduled script t n)) quiet
]

pub replays_are_one : ReplaysAreOne
replays_are_one script one other a b = elim (le-total a.entries b.entries) [
  | inl le ↦ a.trace_is ∙ (sym (still script start a.entries b.entries le (subst (IsQuiet script) a.trace_is a.quiet)) ∙ sym b.trace_is)
  | inr le ↦ a.trace_is ∙ (still script start b.entries a.entries le (subst (IsQuiet script) b.trace_is b.quiet) ∙ sym b.trace_is)
]
  where
    start : List Entry
    start = stepped script [] (map (λ (s : ℕ × Step). s.1) script.steps)

    le-total : (n m : ℕ) → (n ≤ m) ⊎ (m ≤ n)
    le-total n m = by (leb n m) refl
      where
        by : (b : Bool) → leb n m ≡ b → (n ≤ m) ⊎ (m ≤ n)
        by true e = inl (leb-true n m e)
        by false e = inr (let gt = leb-false n m e in omega (arith, gt))
