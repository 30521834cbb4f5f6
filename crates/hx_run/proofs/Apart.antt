-- Drivers that are taken apart.
use Rattle.std.proofs.Common.{◌≡◌, List, [], ◌∷◌, ◌++◌, map, refl, ap, sym, ◌∙◌, append_assoc, append-nil}
use Rattle.hx_law_threads.proofs.Lemmas.{map_append}
use Rattle.hx_driver.specs.declared.desks.Desk.{Desk}
use Rattle.hx_driver.specs.declared.crews.Crew.{Crew}
use Rattle.hx_law_drivers.specs.Crews.{desks_of}

pub more-items : {D X : Type 0} (f : D → X) (xs : List D) (d : D) → map f xs ++ f d ∷ [] ≡ map f (xs ++ d ∷ [])
more-items f [] d = refl
more-items f (x ∷ xs) d = ap (λ l. f x ∷ l) (more-items f xs d)

pub one-more : {D X : Type 0} (f : D → X) (us : List X) (xs : List D) (d : D) → (us ++ map f xs) ++ f d ∷ [] ≡ us ++ map f (xs ++ d ∷ [])
one-more f us xs d = append_assoc us (map f xs) (f d ∷ []) ∙ ap (λ l. us ++ l) (more-items f xs d)

pub more-crews : {D X : Type 0} (g : D → Crew) (f : Crew → X) (xs : List D) (d : D) → map f (map g xs) ++ f (g d) ∷ [] ≡ map f (map g (xs ++ d ∷ []))
more-crews g f [] d = refl
more-crews g f (x ∷ xs) d = ap (λ l. f (g x) ∷ l) (more-crews g f xs d)

pub more-desks : {D X : Type 0} (g : D → Crew) (f : Desk → X) (xs : List D) (d : D)
    → map f (desks_of (map g xs)) ++ map f (g d).desks.items ≡ map f (desks_of (map g (xs ++ d ∷ [])))
more-desks g f [] d = ap (map f) (sym (append-nil (g d).desks.items))
more-desks g f (x ∷ xs) d =
    ap (λ l. l ++ map f (g d).desks.items) (map_append f (g x).desks.items (desks_of (map g xs)))
    ∙ append_assoc (map f (g x).desks.items) (map f (desks_of (map g xs))) (map f (g d).desks.items)
    ∙ ap (λ l. map f (g x).desks.items ++ l) (more-desks g f xs d) ∙ sym (map_append f (g x).desks.items (desks_of (map g (xs ++ d ∷ []))))
