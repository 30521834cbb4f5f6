-- What is handed back of several spaces, and what each of their runs has.
use Rattle.std.proofs.Common.{◌≡◌, ◌∙◌, ◌+◌, ◌*◌, ◌<◌, ◌≤◌, ℕ, zero, suc, List, [], ◌∷◌, ◌++◌, length, map, drop}
use Rattle.std.proofs.Common.{Option, Some, None, refl, sym, ap, subst, arith}
use Rattle.std.specs.Prelude.{reverse, slice_get}
use Rattle.std.specs.List.{AllByRecursion, flat_map}
use Rattle.std.proofs.lemmas.List.{length-append}
use Rattle.std.proofs.lemmas.List.Folds.{flat_map-map}
use Rattle.std.proofs.lemmas.Option.{none-some, same_Some}
use Rattle.std.proofs.lemmas.Simd.{map-map}
use Rattle.hx_clock.specs.Seats.{Seated}
use Rattle.hx_mail.specs.Boxes.{Ported}
use Rattle.hx_types.specs.declared.ids.Actor.{Actor}
use Rattle.hx_types.specs.declared.totals.Totals.{Totals}
use Rattle.hx_types.specs.declared.traces.Entry.{Entry}
use Rattle.hx_types.specs.declared.traces.Script.{Script}
use Rattle.hx_command.specs.Threads.{AreRan, Handed, IsThreaded, RanAll, RanUntilWorn, SpaceRun, fates_of, handed_from, no_entries}
use Rattle.hx_command.proofs.Chunks.{AreLong, IsItemOf, item_of}
use Rattle.hx_command.proofs.Handing.{handed, same_handed}

-- ---- as many fates and totals as threads
pub record HasLong (workers : ℕ) (r : SpaceRun) : Type 0 where
  pub fates : r.fates ≡ workers
  pub totals : length r.totals ≡ workers

has_long : (workers : ℕ) (script : Script) (r : SpaceRun) (worn : Option Actor) → IsThreaded script workers r worn → HasLong workers r
has_long workers script r worn threaded = record { fates = threaded.fates; totals = threaded.ran.totals_are.count }

all_long : (workers : ℕ) (scripts : List Script) (runs : List SpaceRun) → RanAll workers scripts runs → AllByRecursion (HasLong workers) runs
all_long workers [] [] ran = tt
all_long workers [] (r ∷ runs) ran = absurd ran
all_long workers (s ∷ scripts) [] ran = absurd ran
all_long workers (s ∷ scripts) (r ∷ runs) ran = (has_long workers s r None ran.0, all_long workers scripts runs ran.1)

worn_long : (workers : ℕ) (a : Actor) (scripts : List Script) (runs : List SpaceRun)
    → RanUntilWorn workers a scripts runs → AllByRecursion (HasLong workers) runs
worn_long workers a [] runs ran = absurd ran
worn_long workers a (s ∷ scripts) [] ran = absurd ran
worn_long workers a (s ∷ scripts) (r ∷ []) ran = (has_long workers s r (Some a) ran, tt)
worn_long workers a (s ∷ scripts) (r ∷ next ∷ rest) ran = (has_long workers s r None ran.0, worn_long workers a scripts (next ∷ rest) ran.1)

ran_long : (workers : ℕ) (scripts : List Script) (runs : List SpaceRun) (worn : Option Actor)
    → AreRan workers scripts runs worn → AllByRecursion (HasLong workers) runs
ran_long workers scripts runs None ran = all_long workers scripts runs ran
ran_long workers scripts runs (Some a) ran = worn_long workers a scripts runs ran

long_totals : (workers : ℕ) (runs : List SpaceRun) → AllByRecursion (HasLong workers) runs → AreLong (λ (r : SpaceRun). r.totals) workers runs
long_totals workers [] all = tt
long_totals workers (r ∷ runs) all = (all.0.totals, long_totals workers runs all.1)

-- ---- no more runs than spaces
pub all_ran : (workers : ℕ) (scripts : List Script) (runs : List SpaceRun) → RanAll workers scripts runs → length runs ≡ length scripts
all_ran workers [] [] ran = refl
all_ran workers [] (r ∷ runs) ran = absurd ran
all_ran workers (s ∷ scripts) [] ran = absurd ran
all_ran workers (s ∷ scripts) (r ∷ runs) ran = let e = all_ran workers scripts runs ran.1 in omega (arith, e)

pub few_ran : (workers : ℕ) (a : Actor) (scripts : List Script) (runs : List SpaceRun) → RanUntilWorn workers a scripts runs → length runs ≤ length scripts
few_ran workers a [] runs ran = absurd ran
few_ran workers a (s ∷ scripts) [] ran = omega arith
few_ran workers a (s ∷ scripts) (r ∷ []) ran = omega arith
few_ran workers a (s ∷ scripts) (r ∷ next ∷ rest) ran = let e = few_ran workers a scripts (next ∷ rest) ran.1 in omega (arith, e)

-- ---- what is handed back, part by part
module _ {A : Type 0} (see : A → SpaceRun) where
  -- what is handed back of such runs
  pub record IsHandedOf {B : Type 0} (fates_in : A → List B) (scripts : List Script) (runs : List A)
      (t : List (List Entry)) (s : List Seated) (a : List Totals) (p : List Ported) (f : List B) : Type 0 where
    pub traces : t ≡ map (λ (x : A). (see x).trace) runs ++ no_entries (drop (length runs) scripts)
    pub seats : s ≡ map (λ (x : A). (see x).seat) runs
    pub totals : a ≡ flat_map (λ (x : A). (see x).totals) runs
    pub ports : p ≡ flat_map (λ (x : A). (see x).ports) runs
    pub fates : f ≡ flat_map fates_in runs

  pub length_seen : (runs : List A) → length (map see runs) ≡ length runs
  length_seen [] = refl
  length_seen (x ∷ runs) = ap (λ (n : ℕ). suc n) (length_seen runs)

  -- the report of such runs
  pub report_seen : (runs : List A) (told : List (List Entry) → List (List Totals) → Type 0)
      → told (map (λ (x : A). reverse (see x).trace) runs) (map (λ (x : A). (see x).totals) runs)
      → told (map (λ (r : SpaceRun). reverse r.trace) (map see runs)) (map (λ (r : SpaceRun). r.totals) (map see runs))
  report_seen runs told h =
      subst (λ (t : List (List Entry)). told t (map (λ (r : SpaceRun). r.totals) (map see runs))) (sym (map-map (λ (r : SpaceRun). reverse r.trace) see runs))
      (subst (λ (d : List (List Totals)). told (map (λ (x : A). reverse (see x).trace) runs) d) (sym (map-map (λ (r : SpaceRun). r.totals) see runs)) h)

  count_fates : {B : Type 0} (fates_in : A → List B) → ((x : A) → length (fates_in x) ≡ (see x).fates)
      → (runs : List A) → length (flat_map fates_in runs) ≡ fates_of (map see runs)
  count_fates fates_in each [] = refl
  count_fates fates_in each (x ∷ runs) =
      length-append (fates_in x) (flat_map fates_in runs) ∙ (let e = each x in let later = count_fates fates_in each runs in omega (arith, e, later))

  pub handed_back : {B : Type 0} (fates_in : A → List B) → ((x : A) → length (fates_in x) ≡ (see x).fates)
      → (scripts : List Script) (runs : List A) (t : List (List Entry)) (s : List Seated) (a : List Totals)
      (p : List Ported) (fates : List B)
      → IsHandedOf fates_in scripts runs t s a p fates → handed t s a p (length fates) ≡ handed_from scripts (map see runs)
  handed_back fates_in each scripts runs t s a p fates h =
      same_handed t _ s _ a _ p _ (length fates) _
      (h.traces
      ∙ ap (λ (u : List (List Entry)). u ++ no_entries (drop (length runs) scripts)) (sym (map-map (λ (r : SpaceRun). r.trace) see runs))
      ∙ ap (λ (n : ℕ). map (λ (r : SpaceRun). r.trace) (map see runs) ++ no_entries (drop n scripts)) (sym (length_seen runs)))
      (h.seats ∙ sym (map-map (λ (r : SpaceRun). r.seat) see runs))
      (h.totals ∙ sym (flat_map-map (λ (r : SpaceRun). r.totals) see runs))
      (h.ports ∙ sym (flat_map-map (λ (r : SpaceRun). r.ports) see runs))
      (ap (λ (l : List _). length l) h.fates ∙ count_fates fates_in each runs)

  -- ---- the fates and totals of a thread
  long_fates : {B : Type 0} (fates_in : A → List B) → ((x : A) → length (fates_in x) ≡ (see x).fates)
      → (workers : ℕ) (runs : List A) → AllByRecursion (HasLong workers) (map see runs) → AreLong fates_in workers runs
  long_fates fates_in each workers [] all = tt
  long_fates fates_in each workers (x ∷ runs) all = (each x ∙ all.0.fates, long_fates fates_in each workers runs all.1)

  seen_at : (runs : List A) (k : ℕ) (x : A) → slice_get runs k ≡ Some x → slice_get (map see runs) k ≡ Some (see x)
  seen_at [] k x at = absurd (none-some x at)
  seen_at (y ∷ runs) zero x at = ap (λ (z : A). Some (see z)) (same_Some y x at)
  seen_at (y ∷ runs) (suc k) x at = seen_at runs k x at

  trace_at : (runs : List A) (rest : List (List Entry)) (k : ℕ) (x : A) (trace : List Entry) → slice_get runs k ≡ Some x
      → slice_get (map (λ (r : SpaceRun). r.trace) (map see runs) ++ rest) k ≡ Some trace → trace ≡ (see x).trace
  trace_at [] rest k x trace at first = absurd (none-some x at)
  trace_at (y ∷ runs) rest zero x trace at first = same_Some trace (see x).trace (sym first ∙ ap (λ (z : A). Some (see z).trace) (same_Some y x at))
  trace_at (y ∷ runs) rest (suc k) x trace at first = trace_at runs rest k x trace at first

  -- which run they are of
  pub record IsThreadOf {B : Type 0} (fates_in : A → List B) (runs : List A) (k j : ℕ) (trace : List Entry) (g : B) (t : Totals) : Type 0 where
    pub run : A
    pub stands : slice_get runs k ≡ Some run
    pub trace_is : trace ≡ (see run).trace
    pub fate : slice_get (fates_in run) j ≡ Some g
    pub total : slice_get (see run).totals j ≡ Some t

  pub thread_of : {B : Type 0} (fates_in : A → List B) → ((x : A) → length (fates_in x) ≡ (see x).fates)
      → (workers : ℕ) (scripts : List Script) (runs : List A) (worn : Option Actor)
      (k j : ℕ) (trace : List Entry) (g : B) (t : Totals) (h : Handed) (fates : List B)
      → AreRan workers scripts (map see runs) worn → h ≡ handed_from scripts (map see runs) → fates ≡ flat_map fates_in runs
      → j < workers → slice_get h.traces k ≡ Some trace → slice_get fates (k * workers + j) ≡ Some g → slice_get h.totals (k * workers + j) ≡ Some t
      → IsThreadOf fates_in runs k j trace g t
  thread_of fates_in each workers scripts runs worn k j trace g t h fates ran back kept within first fate total =
      let long : AllByRecursion (HasLong workers) (map see runs) = ran_long workers scripts (map see runs) worn ran in
      let own : IsItemOf fates_in runs k j g = item_of fates_in workers runs k j g
      (long_fates fates_in each workers runs long) within
      (ap (λ (l : List _). slice_get l (k * workers + j)) (sym kept) ∙ fate) in
      let sum : IsItemOf (λ (r : SpaceRun). r.totals) (map see runs) k j t =
      item_of (λ (r : SpaceRun). r.totals) workers (map see runs) k j t
      (long_totals workers (map see runs) long) within
      (ap (λ (x : Handed). slice_get x.totals (k * workers + j)) (sym back) ∙ total) in
      let same : sum.list ≡ see own.list = same_Some sum.list (see own.list) (sym sum.stands ∙ seen_at runs k own.list own.stands) in
      record {
        run = own.list;
        stands = own.stands;
        trace_is = trace_at runs (no_entries (drop (length (map see runs)) scripts)) k own.list trace own.stands
            (ap (λ (x : Handed). slice_get x.traces k) (sym back) ∙ first);
        fate = own.item;
        total = subst (λ (r : SpaceRun). slice_get r.totals j ≡ Some t) same sum.item;
      }
