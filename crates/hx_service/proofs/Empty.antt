-- A service at its start.
use Rattle.std.proofs.Common.{◌≡◌, ℕ, zero, suc, ◌<◌, List, [], ◌++◌, length, Some, refl, sym, ap, ◌∙◌, subst, arith}
use Rattle.std.specs.Prelude.{replicate, reverse, slice_get}
use Rattle.hx_model.specs.Types.{Op, Script}
use Rattle.hx_types.specs.Fitting.{calls_of, numbered}
use Rattle.hx_types.specs.Words.{when_some}
use Rattle.hx_law_growing.specs.Growing.{GrowsTo}
use Rattle.hx_world.specs.Worlds.{WorldState}
use Rattle.hx_service.specs.declared.progress.Progress.{Progress}
use Rattle.hx_service.specs.declared.receipts.Booked.{Booked}
use Rattle.hx_service.specs.Booking.{IsServing}
use Rattle.hx_service.specs.Progress.{no_progress}
use Rattle.hx_service.specs.Services.{emptied}

length-copies : {A : Type 0} (n : ℕ) (x : A) → length (replicate n x) ≡ n
length-copies zero x = refl
length-copies (suc n) x = ap suc (length-copies n x)

copy-at : {A : Type 0} (n place : ℕ) (x : A) → place < n → slice_get (replicate n x) place ≡ Some x
copy-at zero place x lt = absurd (omega (arith, lt))
copy-at (suc n) zero x lt = refl
copy-at (suc n) (suc place) x lt = copy-at n place x (omega (arith, lt))

pub at-start : (script : Script) (w : WorldState) (n : ℕ) (xs : List Progress) (bs : List Booked) → w ≡ record { script = emptied script; trace = [] }
    → n ≡ length script.sessions → xs ≡ replicate n no_progress → bs ≡ [] → IsServing w.script (reverse w.trace) xs bs
at-start script w n xs bs e count f g =
    subst (λ (v : WorldState). IsServing v.script (reverse v.trace) xs bs) (sym e)
    (record {
      served = tt;
      progress_is = record {
        count = ap length f ∙ length-copies n no_progress ∙ count ∙ sym (length-copies (length script.sessions) []);
        each = λ place lt. ap (λ (l : List Progress). slice_get l place) f
            ∙ copy-at n place no_progress (let q = length-copies {A = List Op} (length script.sessions) [] in omega (arith, lt, q, count));
      };
      booked_is = g;
    })

-- the empty script grows to the script
pub empty-grows : (script : Script) → GrowsTo (emptied script) script
empty-grows script = record {
  space = refl;
  sessions = sym (length-copies (length script.sessions) []);
  calls = λ u. (calls_of script u, ap (λ (l : List Op). l ++ calls_of script u) (none (length script.sessions) u.0));
}
  where
    at : (n i : ℕ) → when_some (slice_get (replicate n []) i) [] (λ (calls : List Op). calls) ≡ []
    at zero i = refl
    at (suc n) zero = refl
    at (suc n) (suc i) = at n i

    none : (n m : ℕ) → when_some (numbered (replicate n []) m) [] (λ (calls : List Op). calls) ≡ []
    none n zero = refl
    none n (suc m) = at n m
