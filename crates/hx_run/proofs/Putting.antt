-- What the first ports say was put are posts of the trace.
use Rattle.std.proofs.Common.{◌≡◌, ℕ, zero, suc, ◌+◌, ◌%◌, ◌<◌, ◌≤◌, ◌⊎◌, ⊎_elim, inl, inr, true, eqb, List, [], ◌∷◌}
use Rattle.std.proofs.Common.{◌++◌, map, length, slice_get, Some, refl, ap, sym, subst, ◌∙◌, arith}
use Rattle.std.specs.Prelude.{reverse}
use Rattle.std.proofs.lemmas.Bool.{cond_both, eq-eqb, eqb-true}
use Rattle.hx_types.specs.declared.ids.Actor.{Actor}
use Rattle.hx_types.specs.declared.traces.Entry.{Entry}
use Rattle.hx_types.specs.declared.traces.Script.{Script}
use Rattle.hx_types.specs.Words.{below, IsIn}
use Rattle.hx_model.specs.Runs.{entry_at}
use Rattle.hx_clock.proofs.Lemmas.{each_all, each_in, get-front}
use Rattle.hx_law_threads.specs.Cuts.{times_named}
use Rattle.hx_law_threads.proofs.Lemmas.{reverse_snoc, length-below}
use Rattle.hx_mail.specs.declared.views.Mailed.{Mailed}
use Rattle.hx_mail.specs.declared.views.PortLists.{PortLists}
use Rattle.hx_outbox.specs.Places.{place_of}
use Rattle.hx_driver.specs.declared.desks.Desk.{Desk}
use Rattle.hx_driver.specs.declared.crews.Crew.{Crew}
use Rattle.hx_law_drivers.specs.Crews.{AreNumbered}
use Rattle.hx_law_drivers.specs.Joined.{outs_at}
use Rattle.hx_law_drivers.specs.Laws.{ArePostsBy}
use Rattle.hx_run.specs.Closed.{HasPut}
use Rattle.hx_run.specs.Ran.{is_dealt, ArePostsFor, IsPostFor}
use Rattle.hx_run.proofs.Counted.{AreDealtFrom}
use Rattle.hx_run.proofs.Courses.{below-or-not, get-some}
use Rattle.hx_run.proofs.Zipped.{some-same}

-- ---- items at their places
in-get : {A : Type 0} (xs : List A) (x : A) → IsIn x xs → (i : ℕ) × (slice_get xs i ≡ Some x)
in-get [] x i = absurd i
in-get (y ∷ xs) x (inl e) = (0, ap Some (sym e))
in-get (y ∷ xs) x (inr i) = let r = in-get xs x i in (suc r.0, r.1)

map-get : {A B : Type 0} (f : A → B) (xs : List A) (i : ℕ) (x : A) → slice_get xs i ≡ Some x → slice_get (map f xs) i ≡ Some (f x)
map-get f [] i x e = absurd cc
map-get f (y ∷ xs) zero x e = ap (λ z. Some (f z)) (some-same y x e)
map-get f (y ∷ xs) (suc i) x e = map-get f xs i x e

get-last : {A : Type 0} (xs : List A) (y : A) (i : ℕ) (x : A) → length xs ≤ i → slice_get (xs ++ y ∷ []) i ≡ Some x → (i ≡ length xs) × (y ≡ x)
get-last [] y zero x le e = (refl, some-same y x e)
get-last [] y (suc i) x le e = absurd cc
get-last (z ∷ xs) y zero x le e = absurd (omega (arith, le))
get-last (z ∷ xs) y (suc i) x le e = let r = get-last xs y i x (omega (arith, le)) e in (omega (arith, r.0), r.1)

below-get : (n i x : ℕ) → slice_get (below n) i ≡ Some x → x ≡ i
below-get zero i x e = absurd cc
below-get (suc n) i x e =
    ⊎_elim
    (λ (lt : i < n).
    let z = get-some (below n) i (omega (arith, lt, length-below n)) in
    let k : slice_get (below n ++ n ∷ []) i ≡ Some z.0 = get-front (below n) (n ∷ []) i z.0 z.1 in
    some-same x z.0 (sym e ∙ k) ∙ below-get n i z.0 z.1)
    (λ (ge : n ≤ i). let r = get-last (below n) n i x (omega (arith, ge, length-below n)) e in omega (arith, r.0, r.1, length-below n)) (below-or-not i n)

-- ---- an entry keeps its number where the trace goes on
entry-low : (n : ℕ) (xs : List Entry) (e : Entry) → entry_at n xs ≡ Some e → n ≤ length xs
entry-low n [] e h = absurd cc
entry-low n (x ∷ xs) e h =
    cond_both (eqb n (length xs + 1)) (Some x) (entry_at n xs) (λ o. o ≡ Some e → n ≤ length (x ∷ xs))
    (λ t k. omega (arith, eqb-true n (length xs + 1) t)) (λ t k. omega (arith, entry-low n xs e k)) h

pub entry-stays : (trace : List Entry) (x : Entry) (n : ℕ) (e : Entry) → entry_at n (reverse trace) ≡ Some e → entry_at n (reverse (trace ++ x ∷ [])) ≡ Some e
entry-stays trace x n e h =
    ap (entry_at n) (reverse_snoc x trace)
    ∙ cond_both (eqb n (length (reverse trace) + 1)) (Some x) (entry_at n (reverse trace)) (λ o. o ≡ Some e)
    (λ t. absurd (omega (arith, eqb-true n (length (reverse trace) + 1) t, entry-low n (reverse trace) e h))) (λ t. h)

-- ---- the drivers' actors
module _ (script : Script) (w : ℕ) where
  residue-at : (k n : ℕ) (crews : List Crew) (c : Crew) → AreDealtFrom script w n crews → slice_get crews k ≡ Some c
      → (d : Desk) → IsIn d c.desks.items → place_of script.space d.actor % w ≡ n + k
  residue-at k n [] c h g d i = absurd cc
  residue-at zero n (x ∷ crews) c h g d i =
      let same : x ≡ c = some-same x c g in
      let here : n ≡ n + 0 = omega arith in
      each_in (λ (d : Desk). place_of script.space d.actor % w ≡ n) x.desks.items d h.0 (subst (λ (y : Crew). IsIn d y.desks.items) (sym same) i) ∙ here
  residue-at (suc k) n (x ∷ crews) c h g d i = let here : suc n + k ≡ n + suc k = omega arith in residue-at k (suc n) crews c h.1 g d i ∙ here

  pub dealt-at : (crews : List Crew) (c : Crew) → AreDealtFrom script w 0 crews → (k : ℕ) → slice_get crews k ≡ Some c
      → (d : Desk) → IsIn d c.desks.items → is_dealt script w k d.actor ≡ true
  dealt-at crews c dealt k g d i = let here : 0 + k ≡ k = omega arith in
      eq-eqb (place_of script.space d.actor % w) k (residue-at k 0 crews c dealt g d i ∙ here)

  module _ (now : List Crew) (numbered : AreNumbered w now) (dealt : AreDealtFrom script w 0 now) where
    dealt-to : (c : Crew) → IsIn c now → (d : Desk) → IsIn d c.desks.items → is_dealt script w c.out.index d.actor ≡ true
    dealt-to c i d j =
        let k = in-get now c i in
        let index : c.out.index ≡ k.0 = below-get w k.0 c.out.index
        (subst (λ l. slice_get l k.0 ≡ Some c.out.index) numbered (map-get (λ (c : Crew). c.out.index) now k.0 c k.1)) in
        subst (λ n. is_dealt script w n d.actor ≡ true) (sym index) (dealt-at now c dealt k.0 k.1 d j)

    module _ (trace more : List Entry) (posts : (c : Crew) → IsIn c now → (n : ℕ) → ArePostsBy c (reverse trace) (outs_at n c.out.ports.items))
        (stays : (n : ℕ) (e : Entry) → entry_at n (reverse trace) ≡ Some e → entry_at n (reverse more) ≡ Some e) where
      by-driver : (a : Actor) (b : PortLists) → HasPut now a b → ArePostsFor script w more a b.name b.put
      by-driver a b k =
          let p = posts k.crew k.is k.place in
          record {
            each = each_all (IsPostFor script w more a b.name) b.put
                (λ m i.
                let q = p.each m (subst (IsIn m) k.put i) in
                record {
                  entry = q.entry;
                  made = stays m.id.entry q.entry q.made;
                  post = q.post;
                  to = each_in (λ (x : Mailed). x.post.to ≡ a) b.put m k.to i;
                  driver = k.crew.out.index;
                  named = k.name;
                  dealt = ap (is_dealt script w k.crew.out.index) q.actor ∙ dealt-to k.crew k.is q.desk q.is;
                });
            twice = λ id. subst (λ l. times_named id (map (λ (m : Mailed). m.id) l) ≤ 2) (sym k.put) (p.twice id);
          }

      pub puts-for : (a : Actor) (b : PortLists) → (b.put ≡ []) ⊎ HasPut now a b → ArePostsFor script w more a b.name b.put
      puts-for a b h =
          ⊎_elim (λ (e : b.put ≡ []). subst (ArePostsFor script w more a b.name) (sym e)
          (record { each = tt; twice = λ id. omega arith })) (λ (k : HasPut now a b). by-driver a b k) h
