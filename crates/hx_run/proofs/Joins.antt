-- A port that takes in the drivers' ports of its box.
use Rattle.std.proofs.Common.{◌≡◌, ℕ, zero, suc, ◌+◌, ◌<◌, ◌≤◌, ⊎_elim, inl, inr, List, [], ◌∷◌, ◌++◌, length}
use Rattle.std.proofs.Common.{slice_index_or, slice_set, Option, Some, refl, ap, sym, subst, ◌∙◌, arith, append_assoc}
use Rattle.std.proofs.Common.{length-append}
use Rattle.std.specs.List.{AllByRecursion}
use mathlib.Core.List.{IsPrefix}
use Rattle.hx_types.specs.declared.traces.Script.{Script}
use Rattle.hx_types.specs.Words.{IsIn}
use Rattle.hx_clock.proofs.Lemmas.{one-same, each_all, in_left, in_right}
use Rattle.hx_law_threads.proofs.Lemmas.{in_append}
use Rattle.hx_mail.specs.declared.views.BoxNames.{BoxNames}
use Rattle.hx_mail.specs.declared.views.PortLists.{PortLists}
use Rattle.hx_mail.specs.declared.views.PortView.{PortView}
use Rattle.hx_mail.specs.declared.views.Sent.{Sent}
use Rattle.hx_mail.specs.Boxes.{Boxed, Ported}
use Rattle.hx_mail.specs.Ports.{lists_of, port, put_by, times, CarriesAll, IsInOrder, TookAlone}
use Rattle.hx_outbox.specs.declared.outboxes.Outbox.{Outbox}
use Rattle.hx_outbox.specs.Outboxes.{outs_of, IsOutbox, IsOutPort}
use Rattle.hx_outbox.specs.Places.{place_of}
use Rattle.hx_outbox.specs.Zipped.{Both}
use Rattle.hx_outbox.proofs.Lemmas.{both-at, both-long}
use Rattle.hx_run.specs.declared.joining.OwnedPort.{OwnedPort}
use Rattle.hx_driver.specs.Inboxes.{ins_of}
use Rattle.hx_law_drivers.specs.Joined.{outs_at}
use Rattle.hx_run.specs.Joined.{joined_lists, place_at, AreInPlaces, AreJoinedFrom, HaveIndexes, IsJoined, IsKeptPort, TookInOrder}

list-in : (n : ℕ) (outs : List Outbox) (o : Outbox) → IsIn o outs → IsIn (lists_of (o.index + 1) (outs_at n o.ports.items) []) (joined_lists n outs)
list-in n [] o i = absurd i
list-in n (x ∷ outs) o (inl e) = in_right _ (joined_lists n outs) _ (inl (ap (λ (v : Outbox). lists_of (v.index + 1) (outs_at n v.ports.items) []) e))
list-in n (x ∷ outs) o (inr i) = in_left _ (joined_lists n outs) _ (list-in n outs o i)

pub list-took : (n : ℕ) (outs : List Outbox) (b : PortLists) → IsIn b (joined_lists n outs) → b.taken ≡ []
list-took n [] b i = absurd i
list-took n (o ∷ outs) b i =
    ⊎_elim (λ (j : IsIn b (joined_lists n outs)). list-took n outs b j)
    (λ (j : IsIn b (lists_of (o.index + 1) (outs_at n o.ports.items) [] ∷ [])).
    ⊎_elim (λ (e : b ≡ lists_of (o.index + 1) (outs_at n o.ports.items) []). ap (λ (v : PortLists). v.taken) e) (λ (k : IsIn b []). absurd k) j)
    (in_append (joined_lists n outs) (lists_of (o.index + 1) (outs_at n o.ports.items) [] ∷ []) b i)

-- they are those of one of the drivers
pub list-of : (n : ℕ) (outs : List Outbox) (b : PortLists) → IsIn b (joined_lists n outs) → (o : Outbox) × IsIn o outs
    × (b ≡ lists_of (o.index + 1) (outs_at n o.ports.items) [])
list-of n [] b i = absurd i
list-of n (o ∷ outs) b i =
    ⊎_elim (λ (j : IsIn b (joined_lists n outs)). let r = list-of n outs b j in (r.0, inr r.1, r.2))
    (λ (j : IsIn b (lists_of (o.index + 1) (outs_at n o.ports.items) [] ∷ [])).
    ⊎_elim (λ (e : b ≡ lists_of (o.index + 1) (outs_at n o.ports.items) []). (o, inl refl, e)) (λ (k : IsIn b []). absurd k) j)
    (in_append (joined_lists n outs) (lists_of (o.index + 1) (outs_at n o.ports.items) [] ∷ []) b i)

times-in : (k : ℕ) (lists : List PortLists) (b : PortLists) → IsIn b lists → b.name ≡ k → 1 ≤ times k lists
times-in k [] b i e = absurd i
times-in k (x ∷ lists) b (inl s) e = omega (arith, one-same k x.name (sym e ∙ ap (λ (v : PortLists). v.name) s))
times-in k (x ∷ lists) b (inr i) e = omega (arith, times-in k lists b i e)

-- the joined port has all names
pub joined-has : (w : ℕ) (names : Option BoxNames) (n : ℕ) (ins : List Sent) (outs : List Outbox) → HaveIndexes w outs
    → CarriesAll (port 0 names (lists_of 0 [] ins ∷ joined_lists n outs) (Some w))
joined-has w names n ins outs index = (w, refl, λ k lt. has k lt)
  where
    has : (k : ℕ) → k < w + 1 → 1 ≤ times k (lists_of 0 [] ins ∷ joined_lists n outs)
    has zero lt = times-in 0 (lists_of 0 [] ins ∷ joined_lists n outs) (lists_of 0 [] ins) (inl refl) refl
    has (suc k) lt =
        let x = index k (omega (arith, lt)) in
        times-in (suc k) (lists_of 0 [] ins ∷ joined_lists n outs)
        (lists_of (x.0.index + 1) (outs_at n x.0.ports.items) []) (inr (list-in n outs x.0 x.1)) (omega (arith, x.2))

-- nothing was taken under another name than the first
pub joined-alone : (w : ℕ) (names : Option BoxNames) (n : ℕ) (ins : List Sent) (outs : List Outbox)
    → TookAlone 0 (port 0 names (lists_of 0 [] ins ∷ joined_lists n outs) (Some w))
joined-alone w names n ins outs b i d =
    ⊎_elim (λ (s : b ≡ lists_of 0 [] ins). absurd (d (ap (λ (x : PortLists). x.name) s))) (λ (j : IsIn b (joined_lists n outs)). list-took n outs b j) i

-- what the joined ports tell
pub took-in-order : (w : ℕ) (names : Option BoxNames) (n : ℕ) (ins : List Sent) (outs : List Outbox) (v : PortView)
    → v ≡ port 0 names (lists_of 0 [] ins ∷ joined_lists n outs) (Some w) → IsInOrder v → HaveIndexes w outs
    → AllByRecursion (λ (o : Outbox). IsPrefix (put_by (o.index + 1) ins) (outs_at n o.ports.items)) outs
took-in-order w names n ins outs v e order index =
    let p = port 0 names (lists_of 0 [] ins ∷ joined_lists n outs) (Some w) in
    let o : IsInOrder p = subst IsInOrder e order in
    each_all _ outs (λ x i. o (joined-has w names n ins outs index) (lists_of 0 [] ins) (inl refl)
    (joined-alone w names n ins outs) (lists_of (x.index + 1) (outs_at n x.ports.items) []) (inr (list-in n outs x i)))

pub some-at : {A : Type 0} (xs : List A) (i : ℕ) → i < length xs → (x : A) × (x ≡ slice_index_or xs i x)
some-at [] i lt = absurd (omega (arith, lt))
some-at (x ∷ xs) zero lt = (x, refl)
some-at (x ∷ xs) (suc i) lt = some-at xs i (omega (arith, lt))

outs-seam : (xs : List Ported) (p : Ported) (ys : List Ported) → outs_at (length xs) (xs ++ p ∷ ys) ≡ outs_of p
outs-seam [] p ys = refl
outs-seam (x ∷ xs) p ys = outs-seam xs p ys

get-seam : (xs : List Ported) (p : Ported) (ys : List Ported) (d : Ported) → p ≡ slice_index_or (xs ++ p ∷ ys) (length xs) d
get-seam [] p ys d = refl
get-seam (x ∷ xs) p ys d = get-seam xs p ys d

pub seam : {A : Type 0} (olds news rest all : List A) (p : A) → olds ≡ news ++ p ∷ [] → olds ++ rest ≡ all → news ++ p ∷ rest ≡ all
seam olds news rest all p e f = sym (append_assoc news (p ∷ []) rest) ∙ ap (λ l. l ++ rest) (sym e) ∙ f

pub seam-outs : (news rest all : List Ported) (p : Ported) → news ++ p ∷ rest ≡ all → outs_at (length news) all ≡ outs_of p
seam-outs news rest all p e = ap (outs_at (length news)) (sym e) ∙ outs-seam news p rest

seam-at : (news rest all : List Ported) (p : Ported) → news ++ p ∷ rest ≡ all → p ≡ slice_index_or all (length news) p
seam-at news rest all p e = get-seam news p rest p ∙ ap (λ l. slice_index_or l (length news) p) e

-- the port is one of the driver's
pub seam-port : (boxes : List Boxed) (o : Outbox) (news rest : List Ported) (p : Ported) (n : ℕ) → IsOutbox boxes o
    → news ++ p ∷ rest ≡ o.ports.items → n ≡ length news → n < length boxes
    → (box : Boxed) → box ≡ slice_index_or boxes n box → IsOutPort o.index box p
seam-port boxes o news rest p n h e is lt box at =
    both-at (IsOutPort o.index) boxes o.ports.items n box p h.ports lt at
    (seam-at news rest o.ports.items p e ∙ ap (λ k. slice_index_or o.ports.items k p) (sym is))

-- the place of the port that is joined
pub place-lt : (boxes : List Boxed) (o : Outbox) (olds news rest : List Ported) (p : Ported) (at n : ℕ)
    → IsOutbox boxes o → olds ≡ news ++ p ∷ [] → olds ++ rest ≡ o.ports.items → at ≡ length news → n ≡ length boxes
    → (at < n) × (at + 1 ≡ length olds)
place-lt boxes o olds news rest p at n h e f is long = (
  omega (
    arith,
    ap length e,
    length-append news (p ∷ []),
    ap length f,
    length-append olds rest,
    both-long (IsOutPort o.index) boxes o.ports.items h.ports,
    is,
    long,
  ),
  omega (arith, ap length e, length-append news (p ∷ []), is),
)

pub kept-refl : (d : OwnedPort) → IsKeptPort d d
kept-refl d = record { actor = refl; ins = refl }

pub kept-trans : (d e f : OwnedPort) → IsKeptPort d e → IsKeptPort e f → IsKeptPort d f
kept-trans d e f a b = record { actor = b.actor ∙ a.actor; ins = b.ins ∙ a.ins }

pub none-left : {A : Type 0} (outs done all : List A) → length outs ≡ 0 → outs ++ done ≡ all → done ≡ all
none-left [] done all e f = f
none-left (o ∷ outs) done all e f = absurd (omega (arith, e))

module _ (script : Script) where
  pub place-kept : (d e : OwnedPort) → IsKeptPort d e → place_at script e ≡ place_at script d
  place-kept d e k = ap (place_of script.space) k.actor

  pub number-at : (n : ℕ) (ds : List OwnedPort) (i : ℕ) (e : OwnedPort) → AreInPlaces script n ds → i < length ds
      → e ≡ slice_index_or ds i e → place_at script e ≡ n + i
  number-at n [] i e h lt is = absurd (omega (arith, lt))
  number-at n (d ∷ ds) zero e h lt is = omega (arith, ap (place_at script) is, h.0)
  number-at n (d ∷ ds) (suc i) e h lt is = omega (arith, number-at (suc n) ds i e h.1 (omega (arith, lt)) is)

  pub places-kept : (n : ℕ) (ds es : List OwnedPort) → Both IsKeptPort ds es → AreInPlaces script n ds → AreInPlaces script n es
  places-kept n [] [] h k = tt
  places-kept n [] (e ∷ es) h k = absurd h
  places-kept n (d ∷ ds) [] h k = absurd h
  places-kept n (d ∷ ds) (e ∷ es) h k = (place-kept d e h.0 ∙ k.0, places-kept (suc n) ds es h.1 k.1)

  module _ (w : ℕ) (boxes : List Boxed) (outs : List Outbox) where
    pub joined-at : (o : Outbox) (k : ℕ) (ds : List OwnedPort) (e : OwnedPort)
        → AreJoinedFrom script w boxes outs o (k + 1) ds → k < length ds → e ≡ slice_index_or ds k e
        → IsJoined script w boxes outs e
    joined-at o k [] e h lt is = absurd (omega (arith, lt))
    joined-at o zero (d ∷ ds) e h lt is =
        let n : zero + 1 ≡ suc zero = omega arith in
        let h' : AreJoinedFrom script w boxes outs o (suc zero) (d ∷ ds) = subst (λ m. AreJoinedFrom script w boxes outs o m (d ∷ ds)) n h in
        subst (IsJoined script w boxes outs) (sym is) h'.0
    joined-at o (suc k) (d ∷ ds) e h lt is =
        let n : suc k + 1 ≡ suc (k + 1) = omega arith in
        let h' : AreJoinedFrom script w boxes outs o (suc (k + 1)) (d ∷ ds) = subst (λ m. AreJoinedFrom script w boxes outs o m (d ∷ ds)) n h in
        joined-at o k ds e h'.1 (omega (arith, lt)) is

    pub joined-set : (o : Outbox) (k : ℕ) (ds : List OwnedPort) (e' : OwnedPort)
        → AreJoinedFrom script w boxes outs o (k + 1) ds → k < length ds → IsJoined script w boxes (o ∷ outs) e'
        → AreJoinedFrom script w boxes outs o k (slice_set ds k e')
    joined-set o k [] e' h lt j = absurd (omega (arith, lt))
    joined-set o zero (d ∷ ds) e' h lt j =
        let n : zero + 1 ≡ suc zero = omega arith in
        let h' : AreJoinedFrom script w boxes outs o (suc zero) (d ∷ ds) = subst (λ m. AreJoinedFrom script w boxes outs o m (d ∷ ds)) n h in
        (j, h'.1)
    joined-set o (suc k) (d ∷ ds) e' h lt j =
        let n : suc k + 1 ≡ suc (k + 1) = omega arith in
        let h' : AreJoinedFrom script w boxes outs o (suc (k + 1)) (d ∷ ds) = subst (λ m. AreJoinedFrom script w boxes outs o m (d ∷ ds)) n h in
        (h'.0, joined-set o k ds e' h'.1 (omega (arith, lt)) j)

    pub joined-start : (o : Outbox) (k : ℕ) (ds : List OwnedPort) → length ds ≤ k
        → AllByRecursion (IsJoined script w boxes outs) ds → AreJoinedFrom script w boxes outs o k ds
    joined-start o k [] le h = tt
    joined-start o zero (d ∷ ds) le h = absurd (omega (arith, le))
    joined-start o (suc k) (d ∷ ds) le h = (h.0, joined-start o k ds (omega (arith, le)) h.1)

    pub joined-end : (o : Outbox) (k : ℕ) (ds : List OwnedPort) → k ≡ 0 → AreJoinedFrom script w boxes outs o k ds
        → AllByRecursion (IsJoined script w boxes (o ∷ outs)) ds
    joined-end o k [] e h = tt
    joined-end o zero (d ∷ ds) e h = (h.0, joined-end o zero ds refl h.1)
    joined-end o (suc k) (d ∷ ds) e h = absurd (omega (arith, e))

    pub order-each : 0 < length outs → HaveIndexes w outs → (ds es : List OwnedPort) → Both IsKeptPort ds es
        → AllByRecursion (IsJoined script w boxes outs) es → AllByRecursion (TookInOrder script outs) ds
    order-each some index [] es h j = tt
    order-each some index (d ∷ ds) [] h j = absurd h
    order-each some index (d ∷ ds) (e ∷ es) h j =
        let b = some-at boxes (place_at script e) j.0.place in
        let v = j.0.inbox b.0 b.1 in
        let o : IsInOrder e.inbox.view = ⊎_elim (λ (n : outs ≡ []). absurd (omega (arith, some, ap length n))) (λ (k : IsInOrder e.inbox.view). k) j.0.order in
        let t = took-in-order w (Some (b.0.names)) (place_at script e) (ins_of e.inbox) outs e.inbox.view v.1 o index in (
          subst (λ n. AllByRecursion (λ (x : Outbox). IsPrefix (put_by (x.index + 1) (ins_of d.inbox)) (outs_at n x.ports.items)) outs) (place-kept d e h.0)
              (subst (λ l. AllByRecursion (λ (x : Outbox). IsPrefix (put_by (x.index + 1) l) (outs_at (place_at script e) x.ports.items)) outs) h.0.ins t),
          order-each some index ds es h.1 j.1,
        )

-- no driver is left
pub joined-all : (script : Script) (w : ℕ) (boxes : List Boxed) (all outs : List Outbox) (ts : List OwnedPort)
    → length outs ≡ 0 → ((done : List Outbox) × (outs ++ done ≡ all) × AllByRecursion (IsJoined script w boxes done) ts)
    → AllByRecursion (IsJoined script w boxes all) ts
joined-all script w boxes all outs ts none h = subst (λ l. AllByRecursion (IsJoined script w boxes l) ts) (none-left outs h.0 all none h.1) h.2
