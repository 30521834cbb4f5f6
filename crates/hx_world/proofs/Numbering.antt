-- The names of an entry's posts.
use Rattle.std.proofs.Common.{◌≡◌, ℕ, zero, suc, ◌+◌, List, [], ◌∷◌, ◌++◌, length, refl, sym, ap, subst, arith, add-zero, add-one, append_assoc}
use Rattle.std.proofs.lemmas.List.{length-append}
use Rattle.hx_model.specs.Types.{Entry, Post, PostId}
use Rattle.hx_model.specs.Schedule.{names_from}
use Rattle.hx_world.specs.Filing.{names_counted}

names_of_entry : (entry place : ℕ) (posts : List Post) → names_from entry place posts ≡ names_counted entry place (length posts)
names_of_entry entry place [] = refl
names_of_entry entry place (p ∷ rest) =
    ap (λ (names : List PostId). record { entry = entry; place = place } ∷ names) (names_of_entry entry (place + 1) rest)

-- the names of the posts of an entry that stands last
pub names_at_last : (trace : List Entry) (e : Entry) → names_counted (length (trace ++ e ∷ [])) 0 (length e.outputs) ≡ names_from (length trace + 1) 0 e.outputs
names_at_last trace e = rw (length-append trace (e ∷ [])) (sym (names_of_entry (length trace + 1) 0 e.outputs))

counted_push : (entry place n : ℕ) → names_counted entry place (suc n) ≡ names_counted entry place n ++ record { entry = entry; place = place + n } ∷ []
counted_push entry place zero = rw add-zero refl
counted_push entry place (suc n) =
    let k : place + 1 + n ≡ place + suc n = omega arith in
    ap (λ (names : List PostId). record { entry = entry; place = place } ∷ names) (rw (← k) (counted_push entry (place + 1) n))

names_push : (entry n : ℕ) → names_counted entry 0 (n + 1) ≡ names_counted entry 0 n ++ record { entry = entry; place = n } ∷ []
names_push entry n =
    let k : 0 + n ≡ n = omega arith in
    rw add-one (subst (λ (m : ℕ). names_counted entry 0 (suc n) ≡ names_counted entry 0 n ++ record {
      entry = entry;
      place = m;
    } ∷ []) k (counted_push entry 0 n))

pub names_at_end : (entry n : ℕ) (names : List PostId)
    → (names ++ names_counted entry 0 n) ++ record { entry = entry; place = n } ∷ [] ≡ names ++ names_counted entry 0 (n + 1)
names_at_end entry n names = rw (append_assoc, names_push entry n) refl
