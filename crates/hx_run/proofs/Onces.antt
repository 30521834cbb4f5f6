-- What was taken weighs at most what was put.
use Rattle.std.proofs.Common.{◌≡◌, ℕ, zero, suc, ◌+◌, ◌<◌, ◌≤◌, ⊎_elim, List, [], ◌∷◌, ◌++◌, map, take, length, Option}
use Rattle.std.proofs.Common.{Some, refl, ap, sym, subst, ◌∙◌, arith, append_assoc, append-nil}
use Rattle.std.specs.Prelude.{IsPermutation}
use Rattle.std.specs.List.{sum_by, AllByRecursion}
use Rattle.std.proofs.lemmas.List.Sums.{sum_by-cons}
use Rattle.std.proofs.lemmas.List.Sorted.{sum_by-IsPermutation}
use Rattle.hx_types.specs.declared.traces.Script.{Script}
use Rattle.hx_clock.specs.Views.{total}
use Rattle.hx_clock.proofs.Lemmas.{total-append}
use Rattle.hx_mail.specs.declared.views.BoxNames.{BoxNames}
use Rattle.hx_mail.specs.declared.views.Mailed.{Mailed}
use Rattle.hx_mail.specs.declared.views.PortLists.{PortLists}
use Rattle.hx_mail.specs.declared.views.PortView.{PortView}
use Rattle.hx_mail.specs.declared.views.Sent.{Sent}
use Rattle.hx_mail.specs.Boxes.{Boxed, Ported}
use Rattle.hx_mail.specs.Ports.{all_put, all_taken, lists_of, port, sent, IsOnce}
use Rattle.hx_outbox.specs.declared.outboxes.Outbox.{Outbox}
use Rattle.hx_outbox.specs.Outboxes.{out_weight}
use Rattle.hx_outbox.specs.Zipped.{Both}
use Rattle.hx_run.specs.declared.joining.OwnedPort.{OwnedPort}
use Rattle.hx_driver.specs.Inboxes.{ins_of}
use Rattle.hx_law_drivers.specs.Joined.{outs_at}
use Rattle.hx_run.specs.Joined.{joined_lists, place_at, AreInPlaces, HaveIndexes, IsJoined, IsKeptPort, TookOnce}
use Rattle.hx_run.proofs.Joins.{joined-has, place-kept, some-at}

-- h of the post, whatever the name
abbrev pub by_post : (Mailed → ℕ) → Sent → ℕ
by_post h s = h s.mailed

total-sent : (h : Mailed → ℕ) (k : ℕ) (us : List Mailed) → total (by_post h) (map (sent k) us) ≡ total h us
total-sent h k [] = refl
total-sent h k (u ∷ us) = omega (arith, total-sent h k us)

total-post : (h : Mailed → ℕ) (ins : List Sent) → total h (map (λ s. s.mailed) ins) ≡ total (by_post h) ins
total-post h [] = refl
total-post h (i ∷ ins) = omega (arith, total-post h ins)

put-append : (xs ys : List PortLists) → all_put (xs ++ ys) ≡ all_put xs ++ all_put ys
put-append [] ys = refl
put-append (b ∷ xs) ys = ap (λ l. map (sent b.name) b.put ++ l) (put-append xs ys) ∙ sym (append_assoc (map (sent b.name) b.put) (all_put xs) (all_put ys))

put-lists : (h : Mailed → ℕ) (n : ℕ) (outs : List Outbox)
    → total (by_post h) (all_put (joined_lists n outs)) ≡ total (λ (o : Outbox). total h (outs_at n o.ports.items)) outs
put-lists h n [] = refl
put-lists h n (o ∷ outs) =
    let b = lists_of (o.index + 1) (outs_at n o.ports.items) [] in
    let e : total (by_post h) (all_put (joined_lists n outs ++ b ∷ []))
    ≡ total (by_post h) (all_put (joined_lists n outs)) + total (by_post h)
    (map (sent (o.index + 1)) (outs_at n o.ports.items) ++ []) =
    ap (total (by_post h)) (put-append (joined_lists n outs) (b ∷ []))
    ∙ total-append (by_post h) (all_put (joined_lists n outs)) (map (sent (o.index + 1)) (outs_at n o.ports.items) ++ []) in
    omega (
      arith,
      e,
      ap (total (by_post h)) (append-nil (map (sent (o.index + 1)) (outs_at n o.ports.items))),
      total-sent h (o.index + 1) (outs_at n o.ports.items),
      put-lists h n outs,
    )

pub total-sum : {A : Type 0} (f : A → ℕ) (xs : List A) → total f xs ≡ sum_by f xs
total-sum f [] = refl
total-sum f (x ∷ xs) = omega (arith, total-sum f xs, sum_by-cons f x xs)

pub total-perm : {A : Type 0} (f : A → ℕ) (xs ys : List A) → IsPermutation xs ys → total f ys ≡ total f xs
total-perm f xs ys p = total-sum f ys ∙ sum_by-IsPermutation f xs ys p ∙ sym (total-sum f xs)

-- for one actor
once-one : (w : ℕ) (names : Option BoxNames) (n : ℕ) (ins : List Sent) (outs : List Outbox) (v : PortView)
    → v ≡ port 0 names (lists_of 0 [] ins ∷ joined_lists n outs) (Some w) → IsOnce v → HaveIndexes w outs
    → (h : Mailed → ℕ) → total h (map (λ s. s.mailed) ins) ≤ total (λ (o : Outbox). total h (outs_at n o.ports.items)) outs
once-one w names n ins outs v e once index h =
    let p = port 0 names (lists_of 0 [] ins ∷ joined_lists n outs) (Some w) in
    let o : IsOnce p = subst IsOnce e once in
    let r = o (joined-has w names n ins outs index) in
    let rest = all_taken (joined_lists n outs) in
    omega (
      arith,
      total-post h ins,
      put-lists h n outs,
      total-perm (by_post h) (all_put (lists_of 0 [] ins ∷ joined_lists n outs)) (all_taken (lists_of 0 [] ins ∷ joined_lists n outs) ++ r.0) r.1,
      total-append (by_post h) (ins ++ rest) r.0,
      total-append (by_post h) ins rest,
    )

take-more : (h : Mailed → ℕ) (n : ℕ) (ports : List Ported) → out_weight h (take (suc n) ports) ≡ out_weight h (take n ports) + total h (outs_at n ports)
take-more h zero [] = refl
take-more h (suc n) [] = refl
take-more h zero (p ∷ ports) = omega arith
take-more h (suc n) (p ∷ ports) = omega (arith, take-more h n ports)

take-less : (h : Mailed → ℕ) (n : ℕ) (ports : List Ported) → out_weight h (take n ports) ≤ out_weight h ports
take-less h zero ports = omega arith
take-less h (suc n) [] = omega arith
take-less h (suc n) (p ∷ ports) = omega (arith, take-less h n ports)

module _ (script : Script) where
  -- for all actors of the places n, n + 1 and so on
  placed-sum : (h : Mailed → ℕ) (n : ℕ) (ds : List OwnedPort) (ports : List Ported) → AreInPlaces script n ds
      → total (λ (e : OwnedPort). total h (outs_at (place_at script e) ports)) ds + out_weight h (take n ports)
      ≤ out_weight h ports
  placed-sum h n [] ports k = omega (arith, take-less h n ports)
  placed-sum h n (d ∷ ds) ports k = omega (arith, placed-sum h (suc n) ds ports k.1, take-more h n ports, ap (λ m. total h (outs_at m ports)) k.0)

  -- the two sums in the other order
  exchange : (h : Mailed → ℕ) (ds : List OwnedPort) (outs : List Outbox)
      → total (λ (e : OwnedPort). total (λ (o : Outbox). total h (outs_at (place_at script e) o.ports.items)) outs) ds
      ≡ total (λ (o : Outbox). total (λ (e : OwnedPort). total h (outs_at (place_at script e) o.ports.items)) ds) outs
  exchange h [] outs = none outs
    where
      none : (os : List Outbox) → 0 ≡ total (λ (o : Outbox). 0) os
      none [] = refl
      none (o ∷ os) = omega (arith, none os)
  exchange h (d ∷ ds) outs = omega (arith, exchange h ds outs, split outs)
    where
      split : (os : List Outbox) → total (λ (o : Outbox). total h (outs_at (place_at script d) o.ports.items) + total
          (λ (e : OwnedPort). total h (outs_at (place_at script e) o.ports.items)) ds) os
          ≡ total (λ (o : Outbox). total h (outs_at (place_at script d) o.ports.items)) os + total
          (λ (o : Outbox). total (λ (e : OwnedPort). total h (outs_at (place_at script e) o.ports.items)) ds) os
      split [] = refl
      split (o ∷ os) = omega (arith, split os)

  all-sums : (h : Mailed → ℕ) (ds : List OwnedPort) (outs : List Outbox) → AreInPlaces script 0 ds
      → total (λ (o : Outbox). total (λ (e : OwnedPort). total h (outs_at (place_at script e) o.ports.items)) ds) outs
      ≤ total (λ (o : Outbox). out_weight h o.ports.items) outs
  all-sums h ds [] k = omega arith
  all-sums h ds (o ∷ outs) k = omega (arith, placed-sum h 0 ds o.ports.items k, all-sums h ds outs k)

  once-desks : (w : ℕ) (boxes : List Boxed) (outs : List Outbox) → 0 < length outs → HaveIndexes w outs
      → (h : Mailed → ℕ) (ds es : List OwnedPort) → Both IsKeptPort ds es → AllByRecursion (IsJoined script w boxes outs) es
      → total (λ (e : OwnedPort). total h (map (λ s. s.mailed) (ins_of e.inbox))) ds
      ≤ total (λ (e : OwnedPort). total (λ (o : Outbox). total h (outs_at (place_at script e) o.ports.items)) outs) ds
  once-desks w boxes outs some index h [] es k j = omega arith
  once-desks w boxes outs some index h (d ∷ ds) [] k j = absurd k
  once-desks w boxes outs some index h (d ∷ ds) (e ∷ es) k j =
      let b = some-at boxes (place_at script e) j.0.place in
      let v = j.0.inbox b.0 b.1 in
      let o : IsOnce e.inbox.view = ⊎_elim (λ (n : outs ≡ []). absurd (omega (arith, some, ap length n))) (λ (x : IsOnce e.inbox.view). x) j.0.once in
      let t = once-one w (Some (b.0.names)) (place_at script e) (ins_of e.inbox) outs e.inbox.view v.1 o index h in
      omega (
        arith,
        t,
        ap (λ l. total h (map (λ (s : Sent). s.mailed) l)) k.0.ins,
        ap (λ n. total (λ (o : Outbox). total h (outs_at n o.ports.items)) outs) (place-kept script d e k.0),
        once-desks w boxes outs some index h ds es k.1 j.1,
      )

  pub took-once : (w : ℕ) (boxes : List Boxed) (outs : List Outbox) → 0 < length outs → HaveIndexes w outs
      → (ds es : List OwnedPort) → AreInPlaces script 0 ds → Both IsKeptPort ds es
      → AllByRecursion (IsJoined script w boxes outs) es → TookOnce outs ds
  took-once w boxes outs some index ds es placed k j h =
      omega (arith, once-desks w boxes outs some index h ds es k j, exchange h ds outs, all-sums h ds outs placed)
