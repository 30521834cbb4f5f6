-- What a cluster keeps, after one more entry.
use Rattle.std.proofs.Common.{◌≡◌, ◌⊎◌, inl, inr, ℕ, zero, suc, ◌+◌, ◌<◌, ◌≤◌, Bool, true, false, List, [], ◌∷◌, ◌++◌}
use Rattle.std.proofs.Common.{length, map, refl, sym, ap, ◌∙◌, subst, arith}
use Rattle.std.proofs.lemmas.Bool.{cond-true, eqb-true, eq-eqb}
use Rattle.std.proofs.lemmas.List.{length-reverse, reverse-append}
use Rattle.std.proofs.lemmas.List.Elements.{All-cons, All-nil, All-set}
use Rattle.std.specs.Prelude.{◌==◌, IfSome, if◌then◌else◌, reverse, slice_get, slice_set, take, Option, Some, None}
use Rattle.std.specs.List.{All}
use Rattle.hx_model.specs.Types.{Script, SessionId}
use Rattle.hx_types.specs.Words.{first_of_list, when_some}
use Rattle.hx_model.specs.Runs.{session_of}
use Rattle.hx_model.specs.Schedule.{Next, entry_by}
use Rattle.hx_world.specs.Worlds.{WorldState, most_entries}
use Rattle.hx_bundle.specs.declared.bundles.Bundle.{Bundle}
use Rattle.hx_bundle.specs.Bundles.{IsBundle, times}
use Rattle.hx_spaces.specs.Begins.{BeginsInTurn, IsItsTurn, IsSequential, run_before, runs_before}
use Rattle.hx_spaces.specs.Clusters.{IsCourse, IsInTurn}
use Rattle.hx_spaces.specs.Courses.{Course, at_start, begun_in, is_busy_in, newest, next_space, run_at_start, run_with}
use Rattle.hx_spaces.specs.Courses.{runs_with, session_at, turns_at, with_turn}
use Rattle.hx_spaces.specs.Keeping.{AreCounted, IsKept, IsShort, counted, course_of}
use Rattle.hx_spaces.proofs.Places.{all-at, all-from, get-map, get-mapped, get-set, get-set-same, length-map}
use Rattle.hx_spaces.proofs.Places.{length-set, none-some, set-back, set-map, set_same, some-same, suc-is, within}
use Rattle.hx_spaces.proofs.Starts.{Rests, Starts, begins_by, session_entry, starts-place, told-starts}

-- ---- counts

sum-set : (u : SessionId) (runs : List WorldState) (k : ℕ) (r r' : WorldState) → slice_get runs k ≡ Some r
    → (session_of r'.script u r'.trace).begun ≡ (session_of r.script u r.trace).begun → begun_in u (slice_set runs k r') ≡ begun_in u runs
sum-set u [] k r r' h e = refl
sum-set u (x ∷ xs) zero r r' h e = ap (λ n. n + begun_in u xs) (e ∙ ap (λ (w : WorldState). (session_of w.script u w.trace).begun) (sym (some-same h)))
sum-set u (x ∷ xs) (suc k) r r' h e = ap (λ n. (session_of x.script u x.trace).begun + n) (sum-set u xs k r r' h e)

sum-raised : (u : SessionId) (runs : List WorldState) (k : ℕ) (r r' : WorldState) → slice_get runs k ≡ Some r
    → (session_of r'.script u r'.trace).begun ≡ (session_of r.script u r.trace).begun + 1 → begun_in u (slice_set runs k r') ≡ begun_in u runs + 1
sum-raised u [] k r r' h e = cc
sum-raised u (x ∷ xs) zero r r' h e = let q = e ∙ ap (λ (w : WorldState). (session_of w.script u w.trace).begun + 1) (sym (some-same h)) in omega (arith, q)
sum-raised u (x ∷ xs) (suc k) r r' h e = let q = sum-raised u xs k r r' h e in omega (arith, q)

times-suc : (j k : ℕ) (turns : List ℕ) (n : ℕ) → slice_get turns n ≡ Some k
    → times j (take (suc n) turns) ≡ (if k == j then times j (take n turns) + 1 else times j (take n turns))
times-suc j k [] n h = cc
times-suc j k (x ∷ rest) zero h = ap (λ z. if z == j then 0 + 1 else 0) (some-same h)
times-suc j k (x ∷ rest) (suc n) h = by (x == j) (k == j) (times j (take n rest)) (times j (take (suc n) rest)) (times-suc j k rest n h) where
  by : (b d : Bool) (t t' : ℕ) → t' ≡ (if d then t + 1 else t)
      → (if b then t' + 1 else t') ≡ (if d then (if b then t + 1 else t) + 1 else (if b then t + 1 else t))
  by true true t t' e = ap (λ n. n + 1) e
  by true false t t' e = ap (λ n. n + 1) e
  by false true t t' e = e
  by false false t t' e = e

-- where a session has a next space, it isn't busy, and this is the space of its next turn
pub next-parts : (bundle : Bundle) (runs : List WorldState) (place k : ℕ) → next_space bundle runs place ≡ Some k
    → (is_busy_in (session_at place) runs ≡ false) × (slice_get (turns_at bundle.turns place) (begun_in (session_at place) runs) ≡ Some k)
next-parts bundle runs place k h = by (is_busy_in (session_at place) runs) refl h where
  by : (b : Bool) → is_busy_in (session_at place) runs ≡ b
      → (if b then None else slice_get (turns_at bundle.turns place) (begun_in (session_at place) runs)) ≡ Some k
      → (is_busy_in (session_at place) runs ≡ false) × (slice_get (turns_at bundle.turns place) (begun_in (session_at place) runs) ≡ Some k)
  by true e q = absurd (none-some k q)
  by false e q = (e, q)

-- ---- in turn

-- a session that begins no call stays in turn
turn-kept : (bundle : Bundle) (runs : List WorldState) (k : ℕ) (r r' : WorldState) (place : ℕ) → slice_get runs k ≡ Some r
    → (session_of r'.script (session_at place) r'.trace).begun
    ≡ (session_of r.script (session_at place) r.trace).begun → IsInTurn bundle runs place
    → IsInTurn bundle (slice_set runs k r') place
turn-kept bundle runs k r r' place at stays turn j x h = by (get-set runs k j r' x h) where
  same : begun_in (session_at place) (slice_set runs k r') ≡ begun_in (session_at place) runs
  same = sum-set (session_at place) runs k r r' at stays

  by : ((j ≡ k) × (x ≡ r')) ⊎ ((j ≡ k → ⊥) × (slice_get runs j ≡ Some x))
      → (session_of x.script (session_at place) x.trace).begun
      ≡ times j (take (begun_in (session_at place) (slice_set runs k r')) (turns_at bundle.turns place))
  by (inr q) = turn j x q.1 ∙ ap (λ n. times j (take n (turns_at bundle.turns place))) (sym same)
  by (inl q) =
      ap (λ (w : WorldState). (session_of w.script (session_at place) w.trace).begun) q.1
      ∙ stays
      ∙ turn k r at
      ∙ ap (λ n. times k (take n (turns_at bundle.turns place))) (sym same)
      ∙ ap (λ i. times i (take (begun_in (session_at place) (slice_set runs k r')) (turns_at bundle.turns place))) (sym q.0)

-- the session that begins its next call is in turn after it
own-kept : (bundle : Bundle) (runs : List WorldState) (k : ℕ) (r r' : WorldState) (place : ℕ) → slice_get runs k ≡ Some r
    → (session_of r'.script (session_at place) r'.trace).begun ≡ (session_of r.script (session_at place) r.trace).begun + 1
    → slice_get (turns_at bundle.turns place) (begun_in (session_at place) runs) ≡ Some k → IsInTurn bundle runs place
    → IsInTurn bundle (slice_set runs k r') place
own-kept bundle runs k r r' place at more next turn j x h = by (get-set runs k j r' x h) where
  n : ℕ
  n = begun_in (session_at place) runs

  more-turns : begun_in (session_at place) (slice_set runs k r') ≡ suc n
  more-turns = sum-raised (session_at place) runs k r r' at more ∙ sym (suc-is n)

  counts : times j (take (begun_in (session_at place) (slice_set runs k r')) (turns_at bundle.turns place))
      ≡ (if k == j then times j (take n (turns_at bundle.turns place)) + 1 else times j (take n (turns_at bundle.turns place)))
  counts = ap (λ m. times j (take m (turns_at bundle.turns place))) more-turns ∙ times-suc j k (turns_at bundle.turns place) n next

  chosen : (b : Bool) → (k == j) ≡ b
      → times j (take (begun_in (session_at place) (slice_set runs k r')) (turns_at bundle.turns place))
      ≡ (if b then times j (take n (turns_at bundle.turns place)) + 1 else times j (take n (turns_at bundle.turns place)))
  chosen b e = counts ∙ ap (λ c. if c then times j (take n (turns_at bundle.turns place)) + 1 else times j (take n (turns_at bundle.turns place))) e

  by : ((j ≡ k) × (x ≡ r')) ⊎ ((j ≡ k → ⊥) × (slice_get runs j ≡ Some x))
      → (session_of x.script (session_at place) x.trace).begun
      ≡ times j (take (begun_in (session_at place) (slice_set runs k r')) (turns_at bundle.turns place))
  by (inl q) =
      ap (λ (w : WorldState). (session_of w.script (session_at place) w.trace).begun) q.1
      ∙ more
      ∙ ap (λ m. m + 1) (turn k r at ∙ ap (λ i. times i (take n (turns_at bundle.turns place))) (sym q.0))
      ∙ sym (chosen true (eq-eqb k j (sym q.0)))
  by (inr q) = turn j x q.1 ∙ sym (chosen false (other (k == j) refl)) where
    other : (b : Bool) → (k == j) ≡ b → (k == j) ≡ false
    other true e = absurd (q.0 (sym (eqb-true k j e)))
    other false e = e

-- ---- one more entry of one space

module _ (c : Course) (i : IsCourse c) (k : ℕ) (r : WorldState) (next : Next) (at : slice_get c.runs k ≡ Some r)
    (fair : (place : ℕ) → begins_by r next ≡ Some place → next_space c.bundle c.runs place ≡ Some k) where
  abbrev pub after : List WorldState
  after = slice_set c.runs k (run_with next r)

  in-turn : (place : ℕ) → IsInTurn c.bundle after place
  in-turn place = by (session_entry r.script (session_at place) r.trace next) where
    by : Rests r.script (session_at place) r.trace next ⊎ Starts r.script (session_at place) r.trace next → IsInTurn c.bundle after place
    by (inl e) = turn-kept c.bundle c.runs k r (run_with next r) place at e.begun (i.in_turn place)
    by (inr s) = own-kept c.bundle c.runs k r (run_with next r) place at s.begun
        (next-parts c.bundle c.runs place k (fair place (starts-place r place next s))).1 (i.in_turn place)

  -- a session begins a call where it is its turn
  begins-in-turn : BeginsInTurn c.bundle c.runs k (entry_by r.script r.trace next)
  begins-in-turn place b = by (session_entry r.script (session_at place) r.trace next) where
    by : Rests r.script (session_at place) r.trace next ⊎ Starts r.script (session_at place) r.trace next → IsItsTurn c.bundle c.runs place k
    by (inl e) = absurd (e.silent b)
    by (inr s) = let parts = next-parts c.bundle c.runs place k (fair place (starts-place r place next s)) in record { free = parts.0; turn = parts.1 }

  there : slice_get after k ≡ Some (run_with next r)
  there = get-set-same c.runs k (run_with next r) r at

  before : runs_before k after ≡ c.runs
  before = ap (λ (o : Option WorldState). when_some o after (λ (x : WorldState). slice_set after k (run_before x)))
      there ∙ set-back c.runs k (run_with next r) r at

  sequential : IsSequential c.bundle after (k ∷ c.order)
  sequential = (
    subst (λ (o : Option WorldState). IfSome o (λ (x : WorldState). IfSome (first_of_list x.trace) (BeginsInTurn c.bundle (runs_before k after) k))) (sym there)
        (subst (λ (l : List WorldState). BeginsInTurn c.bundle l k (entry_by r.script r.trace next)) (sym before) begins-in-turn),
    subst (λ (l : List WorldState). IsSequential c.bundle l c.order) (sym before) i.sequential,
  )

  is-counted : (j : ℕ) → IfSome (slice_get after j) (λ (x : WorldState). length x.trace ≡ times j (k ∷ c.order))
  is-counted j = by (slice_get after j) refl where
    by : (o : Option WorldState) → slice_get after j ≡ o → IfSome o (λ (x : WorldState). length x.trace ≡ times j (k ∷ c.order))
    by None e = tt
    by (Some x) e = elim (get-set c.runs k j (run_with next r) x e) [
      | inl q ↦ own q
      | inr q ↦ other q
    ] where
      count : (m : ℕ) (y : WorldState) → slice_get c.runs m ≡ Some y → length y.trace ≡ times m c.order
      count m y h = subst (λ (o : Option WorldState). IfSome o (λ (w : WorldState). length w.trace ≡ times m c.order)) h (i.counted m)

      own : (j ≡ k) × (x ≡ run_with next r) → length x.trace ≡ times j (k ∷ c.order)
      own q =
          let h = count k r at in
          let longer : length (run_with next r).trace ≡ times k c.order + 1 = omega (arith, h) in
          ap (λ (w : WorldState). length w.trace) q.1 ∙ longer
          ∙ ap (λ m. times m c.order + 1) (sym q.0)
          ∙ sym (cond-true (k == j) (times j c.order + 1) (times j c.order) (eq-eqb k j (sym q.0)))

      other : (j ≡ k → ⊥) × (slice_get c.runs j ≡ Some x) → length x.trace ≡ times j (k ∷ c.order)
      other q = count j x q.1 ∙ apart (k == j) refl where
        apart : (b : Bool) → (k == j) ≡ b → times j c.order ≡ (if b then times j c.order + 1 else times j c.order)
        apart true e' = absurd (q.0 (sym (eqb-true k j e')))
        apart false e' = refl

  scripts-after : map (λ (x : WorldState). x.script) after ≡ c.bundle.spaces
  scripts-after =
      set-map (λ (x : WorldState). x.script) c.runs k (run_with next r)
      ∙ set_same (map (λ (x : WorldState). x.script) c.runs) k r.script (get-map (λ (x : WorldState). x.script) c.runs k r at) ∙ i.scripts

  in-bundle : k < length c.bundle.spaces
  in-bundle =
      let w = within c.runs k r at in
      let same = sym (length-map (λ (x : WorldState). x.script) c.runs) ∙ ap (λ (l : List Script). length l) i.scripts in
      omega (arith, w, same)

  -- the course after it
  pub course_after : IsCourse (record { bundle = c.bundle; runs = after; order = k ∷ c.order })
  course_after = record {
    valid = i.valid;
    scripts = scripts-after;
    in_turn = in-turn;
    counted = is-counted;
    within = All-cons (λ (j : ℕ). j < length c.bundle.spaces) k c.order in-bundle i.within;
    sequential = sequential;
  }

  pub runs-set : runs_with (record { space = k; next = next }) c.runs ≡ after
  runs-set = ap (λ (o : Option WorldState). when_some o c.runs (λ (x : WorldState). slice_set c.runs k (run_with next x))) at

  -- the counts after it
  pub counted_after : (begun : List ℕ) → AreCounted c.bundle c.runs begun → AreCounted c.bundle after (counted begun (begins_by r next))
  counted_after begun a = by (begins_by r next) refl where
    stays : (place : ℕ) → (begins_by r next ≡ Some place → ⊥) → begun_in (session_at place) after ≡ begun_in (session_at place) c.runs
    stays place never = of (session_entry r.script (session_at place) r.trace next) where
      of : Rests r.script (session_at place) r.trace next ⊎ Starts r.script (session_at place) r.trace next
          → begun_in (session_at place) after ≡ begun_in (session_at place) c.runs
      of (inl e) = sum-set (session_at place) c.runs k r (run_with next r) at e.begun
      of (inr s) = absurd (never (starts-place r place next s))

    by : (o : Option ℕ) → begins_by r next ≡ o → AreCounted c.bundle after (counted begun o)
    by None e = record { sessions = a.sessions; each = λ place n h. a.each place n h ∙ sym (stays place (λ q. none-some place (sym e ∙ q))) }
    by (Some p) e = at-place (slice_get begun p) refl where
      at-place : (o : Option ℕ) → slice_get begun p ≡ o → AreCounted c.bundle after (when_some o begun (λ n. slice_set begun p (n + 1)))
      at-place None none = record {
        sessions = a.sessions;
        each = λ place n h. a.each place n h ∙ sym (stays place (λ q. none-some n (sym none ∙ ap (λ m. slice_get begun m) (some-same (sym e ∙ q)) ∙ h)));
      }
      at-place (Some m) some = record {
        sessions = length-set begun p (m + 1) ∙ a.sessions;
        each = λ place n h. elim (get-set begun p place (m + 1) n h) [
          | inl q ↦ (
              q.1 ∙ ap (λ x. x + 1) (a.each p m some)
              ∙ sym (sum-raised (session_at p) c.runs k r (run_with next r) at (told-starts r p next e))
              ∙ ap (λ x. begun_in (session_at x) after) (sym q.0)
              )
          | inr q ↦ (a.each place n q.1 ∙ sym (stays place (λ w. q.0 (some-same (sym w ∙ e)))))
        ];
      }

-- ---- how many entries each world has

short-worlds : (worlds : List WorldState) → All IsShort (map newest worlds) → All IsShort worlds
short-worlds worlds all = all-from IsShort worlds (λ k w at. by w (all-at IsShort (map newest worlds) k (newest w) all (get-map newest worlds k w at))) where
  by : (w : WorldState) → length (reverse w.trace) ≤ most_entries → length w.trace ≤ most_entries
  by w p = omega (arith, p, length-reverse w.trace)

pub short-runs : (worlds : List WorldState) → All IsShort worlds → All IsShort (map newest worlds)
short-runs worlds all = all-from IsShort (map newest worlds)
    (λ k r at. (let w = get-mapped newest worlds k r at in subst IsShort (sym w.2) (by w.0 (all-at IsShort worlds k w.0 all w.1)))) where
      by : (w : WorldState) → length w.trace ≤ most_entries → length (reverse w.trace) ≤ most_entries
      by w p = omega (arith, p, length-reverse w.trace)

-- a world has taken the place of one
pub short-set : (worlds : List WorldState) (k : ℕ) (w : WorldState) → length w.trace ≤ most_entries → All IsShort worlds → All IsShort (slice_set worlds k w)
short-set worlds k w short all = All-set IsShort worlds k w short all

pub short_from : (start now new : List WorldState) → now ≡ start → (All IsShort now → All IsShort new) → All IsShort start → All IsShort new
short_from start now new same grows all = grows (subst (λ (l : List WorldState). All IsShort l) (sym same) all)

pub short_same : (start now : List WorldState) → now ≡ start → All IsShort start → All IsShort now
short_same start now same all = subst (λ (l : List WorldState). All IsShort l) (sym same) all

-- ---- the fields of a cluster

-- an entry of a space that its turns allow
pub record IsFair (c : Course) (k : ℕ) (next : Next) : Type 0 where
  pub run : WorldState
  pub stands : slice_get c.runs k ≡ Some run
  pub fair : (place : ℕ) → begins_by run next ≡ Some place → next_space c.bundle c.runs place ≡ Some k

-- the order, newest first, with one more space at the end of what is held
order-with : (order held pushed : List ℕ) (k : ℕ) → held ≡ order → pushed ≡ held ++ k ∷ [] → reverse pushed ≡ k ∷ reverse order
order-with order held pushed k h p = ap (λ l. reverse l) p ∙ reverse-append held (k ∷ []) ∙ ap (λ l. k ∷ reverse l) h

-- the course after an entry, as a cluster shows it
pub shown : (bundle : Bundle) (worlds new : List WorldState) (order held pushed : List ℕ) (k : ℕ) (next : Next)
    → map newest new ≡ runs_with (record { space = k; next = next }) (map newest worlds) → held ≡ order → pushed ≡ held ++ k ∷ []
    → course_of bundle new pushed ≡ with_turn (course_of bundle worlds order) (Some (record { space = k; next = next }))
shown bundle worlds new order held pushed k next made h p =
    ap (λ l. record { bundle = bundle; runs = l; order = reverse pushed }) made
    ∙ ap (λ l. record {
      bundle = bundle;
      runs = runs_with (record { space = k; next = next }) (map newest worlds);
      order = l;
    }) (order-with order held pushed k h p)

-- what a cluster keeps, it keeps with a fair entry
pub kept_after : (bundle : Bundle) (worlds new : List WorldState) (order held pushed begun : List ℕ) (k : ℕ) (next : Next)
    → IsKept (course_of bundle worlds order) begun → (f : IsFair (course_of bundle worlds order) k next)
    → map newest new ≡ runs_with (record { space = k; next = next }) (map newest worlds)
    → (All IsShort worlds → All IsShort new) → held ≡ order → pushed ≡ held ++ k ∷ []
    → IsKept (course_of bundle new pushed) (counted begun (begins_by f.run next))
kept_after bundle worlds new order held pushed begun k next i f made grows h p =
    let c = course_of bundle worlds order in
    let set = runs-set c i.course k f.run next f.stands f.fair in
    let short = subst (λ (l : List WorldState). All IsShort l) (made ∙ set) (short-runs new (grows (short-worlds worlds i.short))) in
    subst (λ (d : Course). IsKept d (counted begun (begins_by f.run next))) (sym (shown bundle worlds new order held pushed k next made h p))
    (subst (λ (l : List WorldState). IsKept (record { bundle = bundle; runs = l; order = k ∷ c.order }) (counted begun (begins_by f.run next))) (sym set)
    (record {
      course = course_after c i.course k f.run next f.stands f.fair;
      counted = counted_after c i.course k f.run next f.stands f.fair begun i.counted;
      short = short;
    }))

-- ---- the start

scripts-start : (scripts : List Script) → map (λ (r : WorldState). r.script) (map run_at_start scripts) ≡ scripts
scripts-start [] = refl
scripts-start (x ∷ xs) = ap (λ l. x ∷ l) (scripts-start xs)

begun-start : (u : SessionId) (scripts : List Script) → begun_in u (map run_at_start scripts) ≡ 0
begun-start u [] = refl
begun-start u (x ∷ xs) = let h = begun-start u xs in omega (arith, h)

-- before the first entry no call has begun
pub course_starts : (bundle : Bundle) → IsBundle bundle → IsCourse (at_start bundle)
course_starts bundle valid = record {
  valid = valid;
  scripts = scripts-start bundle.spaces;
  in_turn = λ place k r h. let x = get-mapped run_at_start bundle.spaces k r h in
      ap (λ (w : WorldState). (session_of w.script (session_at place) w.trace).begun) x.2
      ∙ sym (ap (λ n. times k (take n (turns_at bundle.turns place))) (begun-start (session_at place) bundle.spaces));
  counted = λ k. empty k (slice_get (map run_at_start bundle.spaces) k) refl;
  within = All-nil (λ (k : ℕ). k < length bundle.spaces);
  sequential = tt;
} where
  empty : (k : ℕ) (o : Option WorldState) → slice_get (map run_at_start bundle.spaces) k ≡ o → IfSome o (λ (r : WorldState). length r.trace ≡ 0)
  empty k None e = tt
  empty k (Some r) e = ap (λ (w : WorldState). length w.trace) (get-mapped run_at_start bundle.spaces k r e).2

-- a count of none for each session
pub counts_start : (bundle : Bundle) (begun : List ℕ) → length begun ≡ length bundle.turns
    → ((place n : ℕ) → slice_get begun place ≡ Some n → n ≡ 0) → AreCounted bundle (map run_at_start bundle.spaces) begun
counts_start bundle begun count none = record {
  sessions = count;
  each = λ place n h. none place n h ∙ sym (begun-start (session_at place) bundle.spaces);
}

pub short_starts : (scripts : List Script) → All IsShort (map run_at_start scripts)
short_starts scripts = all-from IsShort (map run_at_start scripts)
    (λ k r at. (let x = get-mapped run_at_start scripts k r at in subst IsShort (sym x.2) (let none : 0 ≤ most_entries = omega arith in none)))
