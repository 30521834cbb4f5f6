-- Where the sessions with calls left stand behind all others, the schedule of a script is that of the script that it grows to.
use Rattle.std.proofs.Common.{◌≡◌, refl, ℕ, zero, suc, ◌+◌, ◌<◌, ◌≤◌, Bool, true, false, not, ◌&&◌, ◌⊎◌, inl, inr}
use Rattle.std.proofs.Common.{List, [], ◌∷◌, ◌++◌, length, cond, ltb, Option, None, Some, sym, ap, ◌∙◌, subst, arith}
use Rattle.std.proofs.lemmas.Bool.{and_from, and_parts, false≢true, lt-ltb, ltb-true}
use Rattle.std.proofs.lemmas.List.{length-append}
use Rattle.std.specs.Option.{option_map}
use Rattle.hx_model.specs.Types.{Entry, Op, Script, Session, SessionId, Tick}
use Rattle.hx_types.specs.Fitting.{calls_of}
use Rattle.hx_types.specs.Words.{IsIn, below, first_some}
use Rattle.hx_model.specs.Runs.{IsRun, does_something, entry_of, is_empty, made_of, session_of}
use Rattle.hx_model.specs.Schedule.{Next, entry_by, first_delivery, idle_among, is_idle, next_entry, scheduled, undelivered, with_entry}
use Rattle.hx_law_growing.specs.Growing.{GrowsTo}
use Rattle.hx_law_growing.proofs.Runs.{first, made, rests, sessions, within}
use Rattle.hx_law_growing.proofs.Serves.{idle-begins, next-idle, next-waits}

-- where a session has calls, all lower ones have those of the grown script
abbrev pub AreInOrder : Script → Script → Type 0
AreInOrder script more = (u v : SessionId) → u.0 < v.0 → (calls_of script v ≡ []) ⊎ (calls_of more u ≡ calls_of script u)

-- a list with an item isn't empty
not-empty : {A : Type 0} (x : A) (xs : List A) → IsIn x xs → is_empty xs ≡ false
not-empty x [] i = absurd i
not-empty x (y ∷ ys) i = refl

-- the lowest idle session among the first or else among the rest
idle-among_both : (script : Script) (t : List Entry) (xs ys : List ℕ)
    → idle_among script t (xs ++ ys) ≡ first_some (idle_among script t xs) (idle_among script t ys)
idle-among_both script t [] ys = refl
idle-among_both script t (n ∷ xs) ys = by (is_idle (session_of script (record { 0 = n + 1 }) t)) (idle-among_both script t xs ys)
  where
    next : Next
    next = record { actor = Session (record { 0 = n + 1 }); input = Tick }

    by : (b : Bool) → idle_among script t (xs ++ ys) ≡ first_some (idle_among script t xs) (idle_among script t ys)
        → cond b (Some next) (idle_among script t (xs ++ ys)) ≡ first_some (cond b (Some next) (idle_among script t xs)) (idle_among script t ys)
    by true e = refl
    by false e = e

module _ (script more : Script) (g : GrowsTo script more) (order : AreInOrder script more) (t : List Entry) (run : IsRun script t) where
  abbrev session : ℕ → SessionId
  session n = record { 0 = n + 1 }

  abbrev tick : ℕ → Next
  tick n = record { actor = Session (session n); input = Tick }

  -- an idle session has calls
  idle-left : (u : SessionId) → is_idle (session_of script u t) ≡ true → (session_of script u t).begun < length (calls_of script u)
  idle-left u e =
      let s = session_of script u t in
      subst (λ (l : List Op). s.begun < length l) (within script more g u t).calls_stay
      (ltb-true s.begun (length s.calls) (and_parts (not s.under_way) (ltb s.begun (length s.calls)) e).1)

  -- and is idle in the grown script
  still-idle : (u : SessionId) → is_idle (session_of script u t) ≡ true → is_idle (session_of more u t) ≡ true
  still-idle u e =
      let s = session_of script u t in
      let left = idle-left u e in
      let p = g.calls u in
      let longer : length (calls_of script u) ≤ length (calls_of more u) =
      subst (λ (l : List Op). length (calls_of script u) ≤ length l) p.1 (let n = length-append (calls_of script u) p.0 in omega (arith, n)) in
      ap is_idle (sessions script more g u t run)
      ∙ and_from (not s.under_way) (ltb s.begun (length (calls_of more u))) (and_parts (not s.under_way) (ltb s.begun (length s.calls)) e).0
      (lt-ltb s.begun (length (calls_of more u)) (omega (arith, left, longer)))

  -- lower sessions than one with calls are as idle in the grown script
  none-below : (n : ℕ) → ((u : SessionId) → u.0 ≤ n → calls_of more u ≡ calls_of script u) → idle_among script t (below n) ≡ None
      → idle_among more t (below n) ≡ None
  none-below zero same e = refl
  none-below (suc n) same e =
      by (idle_among script t (below n)) (is_idle (session_of script (session n) t)) refl refl (sym (idle-among_both script t (below n) (n ∷ [])) ∙ e)
      (none-below n (λ u le. same u (omega (arith, le))))
    where
      by : (o : Option Next) (b : Bool) → idle_among script t (below n) ≡ o → is_idle (session_of script (session n) t) ≡ b
          → first_some o (cond b (Some (tick n)) None) ≡ None
          → (idle_among script t (below n) ≡ None → idle_among more t (below n) ≡ None)
          → idle_among more t (below n ++ n ∷ []) ≡ None
      by (Some x) b f i z k = absurd (cc)
      by None true f i z k = absurd (cc)
      by None false f i z k =
          idle-among_both more t (below n) (n ∷ [])
          ∙ (ap (λ o. first_some o (idle_among more t (n ∷ []))) (k f)
          ∙ ap (λ b. cond b (Some (tick n)) None) (rests script more g t run (session n) (inr (same (session n) (omega arith))) i))

  -- the lowest idle session is the same
  same-idle : (n : ℕ) (next : Next) → idle_among script t (below n) ≡ Some next → idle_among more t (below n) ≡ Some next
  same-idle zero next e = absurd (cc)
  same-idle (suc n) next e =
      by (idle_among script t (below n)) (is_idle (session_of script (session n) t)) refl refl (sym (idle-among_both script t (below n) (n ∷ [])) ∙ e)
      (same-idle n next)
    where
      lower : is_idle (session_of script (session n) t) ≡ true → (u : SessionId) → u.0 ≤ n → calls_of more u ≡ calls_of script u
      lower i u le = elim (order u (session n) (omega (arith, le))) [
        | inl none ↦
            let left = idle-left (session n) i in
            let no : length (calls_of script (session n)) ≡ 0 = ap (λ (l : List Op). length l) none in
            absurd (omega (arith, left, no))
        | inr same ↦ same
      ]

      by : (o : Option Next) (b : Bool) → idle_among script t (below n) ≡ o → is_idle (session_of script (session n) t) ≡ b
          → first_some o (cond b (Some (tick n)) None) ≡ Some next
          → (idle_among script t (below n) ≡ Some next → idle_among more t (below n) ≡ Some next)
          → idle_among more t (below n ++ n ∷ []) ≡ Some next
      by (Some x) b f i z k =
          idle-among_both more t (below n) (n ∷ []) ∙ ap (λ o. first_some o (idle_among more t (n ∷ []))) (k (f ∙ z))
      by None true f i z k =
          idle-among_both more t (below n) (n ∷ [])
          ∙ (ap (λ o. first_some o (idle_among more t (n ∷ []))) (none-below n (lower i) f)
          ∙ (ap (λ b. cond b (Some (tick n)) None) (still-idle (session n) i) ∙ z))
      by None false f i z k = absurd (cc)

  -- the next entry is the same
  pub same-next : (x : Entry) → next_entry script t ≡ Some x → next_entry more t ≡ Some x
  same-next x e = by (first_delivery script t (undelivered t)) (idle_among script t (below (length script.sessions))) refl refl e
    where
      same : (next : Next) → does_something next.input (made_of script t next.actor next.input) ≡ true → entry_by more t next ≡ entry_by script t next
      same next does = ap (entry_of next.actor next.input) (made script more g t next.actor next.input run does)

      begins : (n : ℕ) → is_idle (session_of script (session n) t) ≡ true → does_something Tick (made_of script t (Session (session n)) Tick) ≡ true
      begins n i =
          let w = idle-begins script.space (session_of script (session n) t) i in
          let notes = not-empty _ (made_of script t (Session (session n)) Tick).notes w.1 in
          none (is_empty (made_of script t (Session (session n)) Tick).posts) (is_empty (made_of script t (Session (session n)) Tick).notes) notes
        where
          none : (a b : Bool) → b ≡ false → not (a && b) ≡ true
          none true false f = refl
          none false b f = refl
          none true true f = absurd (false≢true (sym f))

      by : (d i : Option Next) → first_delivery script t (undelivered t) ≡ d → idle_among script t (below (length script.sessions)) ≡ i
          → option_map (entry_by script t) (first_some d i) ≡ Some x → next_entry more t ≡ Some x
      by (Some next) i f h q =
          let w = next-waits script t (undelivered t) next f in
          let does : does_something next.input (made_of script t next.actor next.input) ≡ true =
          subst (λ (n : Next). does_something n.input (made_of script t n.actor n.input) ≡ true) (sym w.2.1) refl in
          ap (λ d. option_map (entry_by more t) (first_some d (idle_among more t (below (length more.sessions))))) (first script more g t (undelivered t) ∙ f)
          ∙ (ap (λ (y : Entry). Some y) (same next does) ∙ q)
      by None (Some next) f h q =
          let w = next-idle script t (below (length script.sessions)) next h in
          let does : does_something next.input (made_of script t next.actor next.input) ≡ true =
          subst (λ (n : Next). does_something n.input (made_of script t n.actor n.input) ≡ true) (sym w.2) (begins w.0 w.1) in
          let there : idle_among more t (below (length more.sessions)) ≡ Some next =
          ap (λ n. idle_among more t (below n)) g.sessions ∙ same-idle (length script.sessions) next h in
          ap (λ d. option_map (entry_by more t) (first_some d (idle_among more t (below (length more.sessions))))) (first script more g t (undelivered t) ∙ f)
          ∙ (ap (option_map (entry_by more t)) there ∙ (ap (λ (y : Entry). Some y) (same next does) ∙ q))
      by None None f h q = absurd (cc)

-- from where the schedule of the grown script has come, that of the script goes the same way
pub same-way : (script more : Script) → GrowsTo script more → AreInOrder script more → (t start : List Entry) (n : ℕ) → IsRun script (scheduled script t n)
    → ((k : ℕ) × (t ≡ scheduled more start k)) → (k : ℕ) × (scheduled script t n ≡ scheduled more start k)
same-way script more g order t start zero run so_far = so_far
same-way script more g order t start (suc n) run so_far = by (next_entry script before) refl run (same-way script more g order t start n)
  where
    before : List Entry
    before = scheduled script t n

    by : (o : Option Entry) → next_entry script before ≡ o → IsRun script (with_entry before o)
        → (IsRun script before → ((k : ℕ) × (t ≡ scheduled more start k)) → (k : ℕ) × (before ≡ scheduled more start k))
        → (k : ℕ) × (with_entry before o ≡ scheduled more start k)
    by None e r further = further r so_far
    by (Some x) e r further =
        let here = further r.1 so_far in
        let next = ap (with_entry before) (same-next script more g order before r.1 x e) in
        (suc here.0, sym next ∙ ap (λ (l : List Entry). with_entry l (next_entry more l)) here.1)
