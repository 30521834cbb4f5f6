-- Every world has all sessions, and a session whose turn it is in a space can begin its next call there.
use Rattle.std.proofs.Common.{◌≡◌, ℕ, zero, suc, ◌+◌, ◌<◌, ◌≤◌, Bool, true, false, not, ◌||◌, List, [], ◌∷◌, length}
use Rattle.std.proofs.Common.{map, refl, sym, ap, ◌∙◌, subst, arith, ltb, leb}
use Rattle.std.proofs.lemmas.Bool.{and_from, eq-eqb, false≢true, le-leb, lt-ltb}
use Rattle.std.proofs.lemmas.Option.{get_or_from_slice_get}
use Rattle.std.proofs.lemmas.List.Sums.{get_or-le-sum_by}
use Rattle.std.specs.Prelude.{◌==◌, IfSome, if◌then◌else◌, nat_lt, slice_get, slice_index_or, take, Option, Some, None}
use Rattle.std.specs.List.{All, AllZip, list_any}
use Rattle.hx_model.specs.Types.{Op, Script, Session}
use Rattle.hx_types.specs.Fitting.{IsScript, numbered}
use Rattle.hx_types.specs.Words.{when_some}
use Rattle.hx_model.specs.Runs.{is_actor, session_of}
use Rattle.hx_model.specs.Schedule.{is_idle}
use Rattle.hx_world.specs.Worlds.{WorldState}
use Rattle.hx_bundle.specs.declared.bundles.Bundle.{Bundle}
use Rattle.hx_bundle.specs.Bundles.{AreDealt, times}
use Rattle.hx_spaces.specs.Clusters.{IsCourse}
use Rattle.hx_spaces.specs.Courses.{Course, begun_in, newest, next_space, session_at, turns_at}
use Rattle.hx_spaces.specs.Keeping.{course_of}
use Rattle.hx_spaces.specs.Walks.{CanBegin, HasSessions, IsSeated}
use Rattle.hx_spaces.proofs.Keeping.{next-parts}
use Rattle.hx_spaces.proofs.Places.{all-at, all-from, get-map, get-mapped, length-map, none-some, some-same, something, within}
use Rattle.hx_spaces.proofs.Starts.{calls-kept}

-- lists of which the items at the same places belong together
zip-length : {A B : Type 0} (R : A → B → Type 0) (xs : List A) (ys : List B) → AllZip R xs ys → length xs ≡ length ys
zip-length R [] [] h = refl
zip-length R [] (y ∷ ys) h = absurd h
zip-length R (x ∷ xs) [] h = absurd h
zip-length R (x ∷ xs) (y ∷ ys) h = ap (λ n. suc n) (zip-length R xs ys h.1)

zip-at : {A B : Type 0} (R : A → B → Type 0) (xs : List A) (ys : List B) → AllZip R xs ys → (i : ℕ) (y : B)
    → slice_get ys i ≡ Some y → (x : A) × (slice_get xs i ≡ Some x) × R x y
zip-at R [] [] h i y e = absurd (none-some y e)
zip-at R [] (z ∷ ys) h i y e = absurd h
zip-at R (x ∷ xs) [] h i y e = absurd h
zip-at R (x ∷ xs) (z ∷ ys) h zero y e = (x, refl, subst (R x) (some-same e) h.0)
zip-at R (x ∷ xs) (z ∷ ys) h (suc i) y e = zip-at R xs ys h.1 i y e

-- one more turn of the space stands behind these
times-below : (k : ℕ) (turns : List ℕ) (n : ℕ) → slice_get turns n ≡ Some k → times k (take n turns) < times k turns
times-below k [] n h = absurd (none-some k h)
times-below k (j ∷ rest) zero h = subst (λ b. 0 < (if b then times k rest + 1 else times k rest))
    (sym (ap (λ x. x == k) (some-same h) ∙ eq-eqb k k refl)) (let p : 0 < times k rest + 1 = omega arith in p)
times-below k (j ∷ rest) (suc n) h = by (j == k) (times-below k rest n h) where
  by : (b : Bool) → times k (take n rest) < times k rest
      → (if b then times k (take n rest) + 1 else times k (take n rest)) < (if b then times k rest + 1 else times k rest)
  by true p = omega (arith, p)
  by false p = p

pub none-any : (f : WorldState → Bool) (runs : List WorldState) (k : ℕ) (r : WorldState) → list_any f runs ≡ false → slice_get runs k ≡ Some r → f r ≡ false
none-any f [] k r e h = absurd (none-some r h)
none-any f (x ∷ xs) zero r e h = ap f (sym (some-same h)) ∙ first (f x) e where
  first : (b : Bool) → (b || list_any f xs) ≡ false → b ≡ false
  first true p = p
  first false p = refl
none-any f (x ∷ xs) (suc k) r e h = none-any f xs k r (rest (f x) e) h where
  rest : (b : Bool) → (b || list_any f xs) ≡ false → list_any f xs ≡ false
  rest true p = absurd (false≢true (sym p))
  rest false p = p

-- a place at which the session has a turn left
turns-there : (turns : List (List ℕ)) (place n k : ℕ) → slice_get (turns_at turns place) n ≡ Some k → (own : List ℕ)
    × (slice_get turns place ≡ Some own) × (slice_get own n ≡ Some k)
turns-there turns place n k h = by (slice_get turns place) refl h where
  by : (o : Option (List ℕ)) → slice_get turns place ≡ o
      → slice_get (when_some o [] (λ (spaces : List ℕ). spaces)) n ≡ Some k → (own : List ℕ)
      × (slice_get turns place ≡ Some own) × (slice_get own n ≡ Some k)
  by None e q = absurd (none-some k q)
  by (Some own) e q = (own, e, q)

numbered-next : {A : Type 0} (xs : List A) (n : ℕ) → numbered xs (n + 1) ≡ slice_get xs n
numbered-next xs n = subst (λ m. numbered xs m ≡ slice_get xs n) (let e : suc n ≡ n + 1 = omega arith in e) refl

module _ (c : Course) (i : IsCourse c) where
  script-at : (k : ℕ) (r : WorldState) → slice_get c.runs k ≡ Some r → slice_get c.bundle.spaces k ≡ Some r.script
  script-at k r at = subst (λ (l : List Script). slice_get l k ≡ Some r.script) i.scripts (get-map (λ (w : WorldState). w.script) c.runs k r at)

  dealt-at : (k : ℕ) (script : Script) → slice_get c.bundle.spaces k ≡ Some script → AllZip (AreDealt k) script.sessions c.bundle.turns
  dealt-at k script at = subst (λ (o : Option Script). IfSome o (λ (s : Script). AllZip (AreDealt k) s.sessions c.bundle.turns)) at (i.valid.dealt k)

  pub sessions-at : (k : ℕ) (r : WorldState) → slice_get c.runs k ≡ Some r → length r.script.sessions ≡ length c.bundle.turns
  sessions-at k r at = zip-length (AreDealt k) r.script.sessions c.bundle.turns (dealt-at k r.script (script-at k r at))

  pub runs-count : length c.runs ≡ length c.bundle.spaces
  runs-count = sym (length-map (λ (w : WorldState). w.script) c.runs) ∙ ap (λ (l : List Script). length l) i.scripts

  pub run-at : (k : ℕ) → k < length c.bundle.spaces → (r : WorldState) × (slice_get c.runs k ≡ Some r)
  run-at k h = something c.runs k (let n = runs-count in omega (arith, h, n))

  few-sessions : length c.bundle.turns ≤ 16
  few-sessions =
      let r = run-at 0 i.valid.some in
      let s = script-at 0 r.0 r.1 in
      let few = (all-at IsScript c.bundle.spaces 0 r.0.script i.valid.scripts s).sessions in
      let same = sessions-at 0 r.0 r.1 in
      omega (arith, few, same)

  -- a session with a next space can begin its next call there
  pub next_begins : (place k : ℕ) → next_space c.bundle c.runs place ≡ Some k
      → (r : WorldState) × (slice_get c.runs k ≡ Some r) × (is_actor r.script (Session (session_at place)) ≡ true)
      × (is_idle (session_of r.script (session_at place) r.trace) ≡ true)
      × (place < length c.bundle.turns) × (begun_in (session_at place) c.runs + 1 ≤ 16384)
  next_begins place k h =
      let parts = next-parts c.bundle c.runs place k h in
      let n = begun_in (session_at place) c.runs in
      let own = turns-there c.bundle.turns place n k parts.1 in
      let in-bundle = all-at (λ (j : ℕ). j < length c.bundle.spaces) own.0 n k
      (all-at (λ (l : List ℕ). All (λ (j : ℕ). j < length c.bundle.spaces) l) c.bundle.turns place own.0
      i.valid.turns own.1) own.2 in
      let r = run-at k in-bundle in
      let s = session_of r.0.script (session_at place) r.0.trace in
      let free : s.under_way ≡ false = none-any (λ (w : WorldState). (session_of w.script (session_at place) w.trace).under_way) c.runs k r.0 parts.0 r.1 in
      let dealt = zip-at (AreDealt k) r.0.script.sessions c.bundle.turns (dealt-at k r.0.script (script-at k r.0 r.1)) place own.0 own.1 in
      let calls : s.calls ≡ dealt.0 = calls-kept r.0.script (session_at place) r.0.trace
      ∙ ap (λ (o : Option (List Op)). when_some o [] (λ (l : List Op). l)) (numbered-next r.0.script.sessions place ∙ dealt.1) in
      let count : length s.calls ≡ times k own.0 = ap (λ (l : List Op). length l) calls ∙ dealt.2 in
      let begun : s.begun ≡ times k (take n own.0) =
      i.in_turn place k r.0 r.1 ∙ ap (λ (o : Option (List ℕ)). times k (take n (when_some o [] (λ (l : List ℕ). l)))) own.1 in
      let below = times-below k own.0 n own.2 in
      let fewer : s.begun < length s.calls = omega (arith, count, begun, below) in
      let in-turns = within c.bundle.turns place own.0 own.1 in
      let same = sessions-at k r.0 r.1 in
      let in-own = within own.0 n k own.2 in
      let sum = get_or-le-sum_by (λ (l : List ℕ). length l) c.bundle.turns place [] in-turns in
      let this : length (slice_index_or c.bundle.turns place []) ≡ length own.0 =
      ap (λ (l : List ℕ). length l) (get_or_from_slice_get c.bundle.turns place own.0 [] own.1) in
      let most = i.valid.few_calls in (
        r.0,
        r.1,
        and_from (ltb 0 (place + 1)) (leb (place + 1) (length r.0.script.sessions))
            (lt-ltb 0 (place + 1) (omega arith)) (le-leb (place + 1) (length r.0.script.sessions)
            (omega (arith, in-turns, same))),
        and_from (not s.under_way) (nat_lt s.begun (length s.calls)) (ap not free) (lt-ltb s.begun (length s.calls) fewer),
        in-turns,
        omega (arith, in-own, sum, this, most),
      )

-- every world has all the sessions
pub seated : (bundle : Bundle) (worlds : List WorldState) (order : List ℕ) → IsCourse (course_of bundle worlds order) → IsSeated bundle worlds
seated bundle worlds order i = record {
  few = few-sessions (course_of bundle worlds order) i;
  sessions = all-from (HasSessions (length bundle.turns)) worlds
      (λ k w at. sessions-at (course_of bundle worlds order) i k (newest w) (get-map newest worlds k w at));
}

-- a run is that of a world
pub world-of : (worlds : List WorldState) (k : ℕ) (r : WorldState) → slice_get (map newest worlds) k ≡ Some r
    → (w : WorldState) × (slice_get worlds k ≡ Some w) × (r ≡ newest w)
world-of worlds k r h = get-mapped newest worlds k r h

-- the session that is found can begin
pub can_begin : (bundle : Bundle) (worlds : List WorldState) (order : List ℕ) (place k : ℕ)
    → IsCourse (course_of bundle worlds order) → next_space bundle (map newest worlds) place ≡ Some k → CanBegin worlds place k
can_begin bundle worlds order place k i h =
    let b = next_begins (course_of bundle worlds order) i place k h in
    let w = world-of worlds k b.0 b.1 in
    record {
      world = w.0;
      stands = w.1;
      actor = subst (λ (r : WorldState). is_actor r.script (Session (session_at place)) ≡ true) w.2 b.2;
      idle = subst (λ (r : WorldState). is_idle (session_of r.script (session_at place) r.trace) ≡ true) w.2 b.3;
    }
