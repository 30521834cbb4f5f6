-- Worlds that are left.
use Rattle.std.proofs.Common.{◌≡◌, ℕ, zero, suc, List, [], ◌∷◌, ◌++◌, length, map, refl, sym, ap, ◌∙◌, subst, arith}
use Rattle.std.proofs.lemmas.List.{append-nil, append_assoc, reverse-reverse}
use Rattle.std.proofs.lemmas.List.Elements.{All-map, All-push}
use Rattle.std.specs.Prelude.{replicate, reverse, slice_get, Some, Result, Ok, Err, IfOk}
use Rattle.std.specs.List.{All}
use Rattle.hx_model.specs.Types.{Entry, Memory}
use Rattle.hx_types.specs.Fitting.{IsScript}
use Rattle.hx_model.specs.Runs.{IsRun}
use Rattle.hx_world.specs.Worlds.{HasFewEntries, WorldState}
use Rattle.hx_spaces.specs.Clusters.{IsRunOfSpace, traces_of}
use Rattle.hx_bundle.specs.declared.bundles.Bundle.{Bundle}
use Rattle.hx_bundle.specs.Bundles.{IsBundle}
use Rattle.hx_spaces.specs.Courses.{Course, newest, run_at_start}
use Rattle.hx_spaces.specs.Keeping.{IsKept, course_of}
use Rattle.hx_spaces.proofs.Keeping.{counts_start, course_starts, short_starts}
use Rattle.hx_spaces.proofs.Places.{none-some, some-same}

pub map-push : {A B : Type 0} (f : A → B) (xs : List A) (x : A) → map f (xs ++ x ∷ []) ≡ map f xs ++ f x ∷ []
map-push f [] x = refl
map-push f (y ∷ xs) x = ap (λ (l : List _). f y ∷ l) (map-push f xs x)

-- one more world was left
pub left : (yielded : List WorldState) (w : WorldState) (trace : List Entry) → All (λ (x : WorldState). IsRunOfSpace (newest x)) yielded
    → trace ≡ w.trace → IsScript w.script → IsRun w.script (reverse trace) → HasFewEntries (reverse trace)
    → All (λ (x : WorldState). IsRunOfSpace (newest x)) (yielded ++ w ∷ [])
left yielded w trace all same valid run few =
    All-push (λ (x : WorldState). IsRunOfSpace (newest x)) yielded w all
    (record {
      valid = valid;
      run = subst (λ (l : List Entry). IsRun w.script (reverse l)) same run;
      few = subst (λ (l : List Entry). HasFewEntries (reverse l)) same few;
    })

-- and goes from what is to come to what came
pub moved : {A : Type 0} (xs rest behind all : List A) (x : A) → xs ++ rest ≡ all → rest ≡ x ∷ behind → xs ++ x ∷ [] ++ behind ≡ all
moved xs rest behind all x h e = append_assoc xs (x ∷ []) behind ∙ sym (ap (λ l. xs ++ l) e) ∙ h

pub left_all : (worlds : List WorldState) → All (λ (x : WorldState). IsRunOfSpace (newest x)) worlds → All IsRunOfSpace (map newest worlds)
left_all worlds all = All-map IsRunOfSpace newest worlds all

-- the traces of worlds are those of their runs
pub traces_same : (worlds : List WorldState) → map (λ (w : WorldState). w.trace) worlds ≡ map (λ (r : WorldState). reverse r.trace) (map newest worlds)
traces_same [] = refl
traces_same (w ∷ ws) =
    ap (λ (t : List Entry). t ∷ map (λ (x : WorldState). x.trace) ws) (sym (reverse-reverse w.trace))
    ∙ ap (λ (l : List (List Entry)). reverse (reverse w.trace) ∷ l) (traces_same ws)

no-more : {A : Type 0} (rest : List A) (n : ℕ) → length rest ≡ n → n ≡ 0 → rest ≡ []
no-more [] n h z = refl
no-more (x ∷ rest) n h z = absurd (omega (arith, h, z))

-- all of them were
pub all_yielded : {A : Type 0} (xs rest all : List A) (n : ℕ) → xs ++ rest ≡ all → length rest ≡ n → n ≡ 0 → xs ≡ all
all_yielded xs rest all n e h z = sym (append-nil xs) ∙ ap (λ l. xs ++ l) (sym (no-more rest n h z)) ∙ e

zeros-length : (n : ℕ) → length {A = ℕ} (replicate n 0) ≡ n
zeros-length zero = refl
zeros-length (suc n) = ap (λ m. suc m) (zeros-length n)

zeros-at : (n place m : ℕ) → slice_get {X = ℕ} (replicate n 0) place ≡ Some m → m ≡ 0
zeros-at zero place m h = absurd (none-some m h)
zeros-at (suc n) zero m h = sym (some-same h)
zeros-at (suc n) (suc place) m h = zeros-at n place m h

-- what a cluster keeps at its start
pub start_kept : (bundle : Bundle) (worlds : List WorldState) (order begun : List ℕ) (n : ℕ) → IsBundle bundle
    → map newest worlds ≡ map run_at_start bundle.spaces → order ≡ [] → n ≡ length bundle.turns → begun ≡ replicate n 0
    → IsKept (course_of bundle worlds order) begun
start_kept bundle worlds order begun n valid w o count zeros =
    subst (λ (c : Course). IsKept c begun)
    (sym (ap (λ (l : List WorldState). record { bundle = bundle; runs = l; order = reverse order }) w
    ∙ ap (λ (l : List ℕ). record { bundle = bundle; runs = map run_at_start bundle.spaces; order = reverse l }) o))
    (record {
      course = course_starts bundle valid;
      counted = counts_start bundle begun (ap (λ (l : List ℕ). length l) zeros ∙ zeros-length n ∙ count)
          (λ place m h. zeros-at n place m (ap (λ (l : List ℕ). slice_get l place) (sym zeros) ∙ h));
      short = short_starts bundle.spaces;
    })

-- the traces that are handed out are those of the course
pub left_shown : (bundle : Bundle) (worlds : List WorldState) (order : List ℕ) (self : Course)
    (r : Result (List (List Entry)) Memory) → course_of bundle worlds order ≡ self
    → IfOk r (λ traces. traces ≡ map (λ (w : WorldState). w.trace) worlds) → IfOk r (λ traces. traces ≡ traces_of self)
left_shown bundle worlds order self (Ok traces) view h = h ∙ traces_same worlds ∙ ap (λ (c : Course). traces_of c) view
left_shown bundle worlds order self (Err e) view h = tt
