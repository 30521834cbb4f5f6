-- What is left of drivers whose ports are joined.
use Rattle.std.proofs.Common.{◌≡◌, ◌≢◌, ℕ, true, false, zero, suc, ◌+◌, ◌<◌, ◌≤◌, ◌⊎◌, ⊎_elim, inl, inr, cond, eqb}
use Rattle.std.proofs.Common.{List, [], ◌∷◌, ◌++◌, map, length, slice_index_or, Some, refl, ap, sym, subst, ◌∙◌, arith}
use Rattle.std.proofs.Common.{append-nil, length-append}
use Rattle.std.specs.Prelude.{IsPermutation, ⊤}
use Rattle.std.specs.List.{AllByRecursion, IsDistinct}
use Rattle.std.specs.List.Sorted.{IsNonDecreasingBy}
use Rattle.std.proofs.lemmas.Bool.{eq-eqb}
use Rattle.std.proofs.lemmas.Bool.Decides.{eqb_tells}
use Rattle.std.proofs.lemmas.List.Sorted.{IsPermutation-map, IsPermutation-sym}
use Rattle.std.proofs.lemmas.Map.Keys.{IsDistinct-IsPermutation}
use Rattle.atomic_table.specs.Seated.{TableId}
use Rattle.hx_types.specs.declared.ids.Actor.{Actor}
use Rattle.hx_types.specs.declared.ids.Actor.TheVariants.{Coordinator, Server, Session}
use Rattle.hx_types.specs.declared.totals.Totals.{Totals}
use Rattle.hx_types.specs.declared.traces.Script.{Script}
use Rattle.hx_types.specs.Words.{below, same_actor, IsIn}
use Rattle.hx_clock.specs.Views.{total, Owns}
use Rattle.hx_clock.proofs.Lemmas.{each_all, each_append, each_in, each_map, in_left, in_right}
use Rattle.hx_law_threads.proofs.Lemmas.{in_map, in_permuted, of_below, of_map, length-below}
use Rattle.hx_mail.specs.declared.views.BoxNames.{BoxNames}
use Rattle.hx_mail.specs.declared.views.Mailed.{Mailed}
use Rattle.hx_mail.specs.declared.views.PortLists.{PortLists}
use Rattle.hx_mail.specs.declared.views.PortView.{PortView}
use Rattle.hx_mail.specs.declared.views.Sent.{Sent}
use Rattle.hx_mail.specs.Boxes.{Boxed, Ported}
use Rattle.hx_mail.specs.Ports.{lists_of, CarriesAll, TookAlone}
use Rattle.hx_outbox.specs.declared.outboxes.Outbox.{Outbox}
use Rattle.hx_outbox.specs.Outboxes.{out_weight, IsOutbox}
use Rattle.hx_outbox.specs.Places.{names_for, place_of, AreBoxes, Exists}
use Rattle.hx_outbox.specs.Zipped.{Both}
use Rattle.hx_outbox.proofs.Lemmas.{map-length, both-long, place-below}
use Rattle.hx_driver.specs.declared.desks.Desk.{Desk}
use Rattle.hx_driver.specs.Desks.{IsDesk}
use Rattle.hx_driver.specs.Inboxes.{ins_of}
use Rattle.hx_driver.specs.declared.crews.Crew.{Crew}
use Rattle.hx_driver.specs.Crews.{IsCrew, IsDeskOf}
use Rattle.hx_law_drivers.specs.Crews.{desks_of, part_of, AreNumbered, HaveAllActors}
use Rattle.hx_law_drivers.specs.Joined.{outs_at, put_total, taken_weight, AreInOrder, AreOnce, IsInOrderOf}
use Rattle.hx_law_drivers.proofs.Lemmas.{outs_owned}
use Rattle.hx_cluster.specs.Everyone.{actors_of}
use Rattle.hx_gather.specs.declared.gathering.SeatedPart.{SeatedPart}
use Rattle.hx_gather.specs.Gathered.{parts_by, HasNumber, IsSeated}
use Rattle.hx_run.specs.declared.joining.OwnedPort.{OwnedPort}
use Rattle.hx_run.specs.Closed.{seated_of, owned_port_of, HasPut, IsFirstPort, IsLeft}
use Rattle.hx_run.specs.Joined.{joined_lists, place_at, AreInPlaces, HaveIndexes, IsJoined, IsKeptPort, TookInOrder, TookOnce}
use Rattle.hx_run.specs.Ran.{taken_under}
use Rattle.hx_run.proofs.Arranged.{actor-at, actor-exists, filled, is-actor, place-apart, rises}
use Rattle.hx_run.proofs.Courses.{below-or-not}
use Rattle.hx_run.proofs.Joins.{joined-alone, joined-has, list-of, list-took, some-at}
use Rattle.hx_run.proofs.Onces.{total-perm}
use Rattle.hx_run.proofs.Zipped.{map-each, no-eq}

pub map-map : {A B C : Type 0} (g : B → C) (f : A → B) (xs : List A) → map g (map f xs) ≡ map (λ x. g (f x)) xs
map-map g f [] = refl
map-map g f (x ∷ xs) = ap (λ l. g (f x) ∷ l) (map-map g f xs)

pub total-map : {A B : Type 0} (h : B → ℕ) (f : A → B) (xs : List A) → total h (map f xs) ≡ total (λ x. h (f x)) xs
total-map h f [] = refl
total-map h f (x ∷ xs) = omega (arith, total-map h f xs)

in-below : (n k : ℕ) → k < n → IsIn k (below n)
in-below zero k lt = absurd (omega (arith, lt))
in-below (suc n) k lt =
    ⊎_elim (λ (h : k < n). in_left k (below n) (n ∷ []) (in-below n k h)) (λ (h : n ≤ k). in_right k (below n) (n ∷ []) (inl (omega (arith, h, lt))))
    (below-or-not k n)

-- ---- the drivers' ports

pub have-indexes : (w : ℕ) (crews : List Crew) → AreNumbered w crews → (length (map (λ (c : Crew). c.out) crews) ≡ w)
    × HaveIndexes w (map (λ (c : Crew). c.out) crews)
have-indexes w crews e = (
  map-length (λ (c : Crew). c.out) crews ∙ sym (map-length (λ (c : Crew). c.out.index) crews) ∙ ap length e ∙ length-below w,
  λ k lt.
      let i = of_map (λ (c : Crew). c.out.index) crews k (subst (IsIn k) (sym e) (in-below w k lt)) in
      (i.0.out, in_map (λ (c : Crew). c.out) crews i.0 i.1, sym i.2),
)

eq-flips : (a b : ℕ) → eqb a b ≡ eqb b a
eq-flips a b =
    ⊎_elim (λ (h : (eqb a b ≡ true) × (a ≡ b)). h.0 ∙ sym (eq-eqb b a (sym h.1)))
    (λ (h : (eqb a b ≡ false) × (a ≢ b)). h.0 ∙ sym (no-eq b a (λ e. h.1 (sym e)))) (eqb_tells a b)

flips : (a b : Actor) → same_actor a b ≡ same_actor b a
flips Coordinator Coordinator = refl
flips Coordinator (Server t) = refl
flips Coordinator (Session v) = refl
flips (Server s) Coordinator = refl
flips (Server s) (Server t) = eq-flips s.0 t.0
flips (Server s) (Session v) = refl
flips (Session u) Coordinator = refl
flips (Session u) (Server t) = refl
flips (Session u) (Session v) = eq-flips u.0 v.0

-- ---- the actors in order
abbrev PlacesFrom : Script → ℕ → List Actor → Type 0
PlacesFrom script n [] = ⊤
PlacesFrom script n (a ∷ xs) = (place_of script.space a ≡ n) × PlacesFrom script (suc n) xs

places-append : (script : Script) (n m : ℕ) (xs ys : List Actor) → PlacesFrom script n xs → m ≡ n + length xs
    → PlacesFrom script m ys → PlacesFrom script n (xs ++ ys)
places-append script n m [] ys h e k = subst (λ j. PlacesFrom script j ys) (let z : m ≡ n = omega (arith, e) in z) k
places-append script n m (a ∷ xs) ys h e k = (h.0, places-append script (suc n) m xs ys h.1 (omega (arith, e)) k)

map-snoc : {A B : Type 0} (f : A → B) (xs : List A) (x : A) → map f (xs ++ x ∷ []) ≡ map f xs ++ f x ∷ []
map-snoc f [] x = refl
map-snoc f (y ∷ xs) x = ap (λ l. f y ∷ l) (map-snoc f xs x)

places-below : (script : Script) (f : ℕ → Actor) (n base : ℕ)
    → ((k : ℕ) → k < n → place_of script.space (f k) ≡ base + k) → PlacesFrom script base (map f (below n))
places-below script f zero base h = tt
places-below script f (suc n) base h =
    subst (PlacesFrom script base) (sym (map-snoc f (below n) n))
    (places-append script base (base + n) (map f (below n)) (f n ∷ []) (places-below script f n base (λ k lt. h k (omega (arith, lt))))
    (let e : length (map f (below n)) ≡ n = map-length f (below n) ∙ length-below n in omega (arith, e)) (h n (omega arith), tt))

places-of : (script : Script) → PlacesFrom script 0 (actors_of script)
places-of script =
    let servers = map (λ (n : ℕ). Server (record { 0 = n + 1 })) (below script.space.servers) in
    let e : length servers ≡ script.space.servers =
    map-length (λ (n : ℕ). Server (record { 0 = n + 1 })) (below script.space.servers)
    ∙ length-below script.space.servers in (
      refl,
      places-append script 1 (1 + script.space.servers) servers (map (λ (n : ℕ). Session (record { 0 = n + 1 })) (below (length script.sessions)))
          (places-below script (λ (n : ℕ). Server (record { 0 = n + 1 })) script.space.servers 1 (λ k lt. omega arith)) (omega (arith, e))
          (places-below script (λ (n : ℕ). Session (record { 0 = n + 1 })) (length script.sessions) (1 + script.space.servers) (λ k lt. omega arith)),
    )

exist-below : (script : Script) (f : ℕ → Actor) (n : ℕ) → ((k : ℕ) → k < n → Exists script (f k)) → AllByRecursion (Exists script) (map f (below n))
exist-below script f n h = each_all (Exists script) (map f (below n)) (λ a i. let r = of_map f (below n) a i in
    subst (Exists script) (sym r.2) (h r.0 (of_below n r.0 r.1)))

exist-all : (script : Script) → AllByRecursion (Exists script) (actors_of script)
exist-all script = (
  tt,
  each_append (Exists script) (map (λ (n : ℕ). Server (record { 0 = n + 1 })) (below script.space.servers))
      (map (λ (n : ℕ). Session (record { 0 = n + 1 })) (below (length script.sessions)))
      (exist-below script (λ (n : ℕ). Server (record { 0 = n + 1 })) script.space.servers (λ k lt. (omega arith, omega (arith, lt))))
      (exist-below script (λ (n : ℕ). Session (record { 0 = n + 1 })) (length script.sessions) (λ k lt. (omega arith, omega (arith, lt)))),
)

pub how-many : (script : Script) → length (actors_of script) ≡ 1 + script.space.servers + length script.sessions
how-many script =
    let f = λ (n : ℕ). Server (record { 0 = n + 1 }) in
    let g = λ (n : ℕ). Session (record { 0 = n + 1 }) in
    omega (
      arith,
      length-append (map f (below script.space.servers)) (map g (below (length script.sessions))),
      map-length f (below script.space.servers),
      map-length g (below (length script.sessions)),
      length-below script.space.servers,
      length-below (length script.sessions),
    )

module _ (script : Script) (clock : TableId) (boxes : List Boxed) (w : ℕ) where
  pub outboxes : (crews : List Crew) → AllByRecursion (IsCrew script clock boxes w) crews → AllByRecursion (IsOutbox boxes) (map (λ (c : Crew). c.out) crews)
  outboxes [] h = tt
  outboxes (c ∷ crews) h = (h.0.out, outboxes crews h.1)

  -- ---- each actor

  abbrev pub IsSome : Desk → Type 0
  IsSome d = (rest : List Mailed) × IsDesk script clock boxes w rest d

  crew-desks : (c : Crew) → IsCrew script clock boxes w c → AllByRecursion IsSome c.desks.items
  crew-desks c h = each_map (IsDeskOf script clock boxes w c) IsSome c.desks.items (λ d i k. (k.broken.rest, k.broken.desk)) h.desks

  pub all-desks : (crews : List Crew) → AllByRecursion (IsCrew script clock boxes w) crews → AllByRecursion IsSome (desks_of crews)
  all-desks [] h = tt
  all-desks (c ∷ crews) h = each_append IsSome c.desks.items (desks_of crews) (crew-desks c h.0) (all-desks crews h.1)

  abbrev pub IsReady : OwnedPort → Type 0
  IsReady t = Exists script t.actor × IsJoined script w boxes [] t

  ready-one : AreBoxes script clock boxes → (d : Desk) → IsSome d → IsReady (owned_port_of d)
  ready-one are d h =
      let e = actor-exists script d.actor h.1.exists in
      let b = place-below script d.actor e in
      let n = are.count in (
        e,
        record {
          place = omega (arith, b, n);
          inbox = λ box at. let p = h.1.inbox box at in (p.of, p.view);
          order = inl refl;
          once = inl refl;
        },
      )

  pub ready : AreBoxes script clock boxes → (ds : List Desk) → AllByRecursion IsSome ds → AllByRecursion IsReady (map owned_port_of ds)
  ready are [] h = tt
  ready are (d ∷ ds) h = (ready-one are d h.0, ready are ds h.1)

  pub permuted : {A : Type 0} (P : A → Type 0) (xs ys : List A) → IsPermutation xs ys → AllByRecursion P xs → AllByRecursion P ys
  permuted P xs ys p h = each_all P ys (λ y i. each_in P xs y h (in_permuted ys xs y (IsPermutation-sym xs ys p) i))

  seats-are : (ds : List Desk) → AllByRecursion IsSome ds → AllByRecursion (IsSeated clock) (map seated_of ds)
  seats-are [] h = tt
  seats-are (d ∷ ds) h = ((h.0.1.seat.0, (place_of script.space d.actor, h.0.1.seat.1)), seats-are ds h.1)

  parts-are : (ds : List Desk) → parts_by (map seated_of ds) ≡ map part_of ds
  parts-are [] = refl
  parts-are (d ∷ ds) = ap (λ l. part_of d ∷ l) (parts-are ds)

  -- ---- the order of places

  places-apart : (crews : List Crew) → HaveAllActors script crews → (sorted : List OwnedPort)
      → IsPermutation (map owned_port_of (desks_of crews)) sorted
      → IsDistinct same_actor (map (λ (t : OwnedPort). t.actor) sorted)
  places-apart crews all sorted p =
      IsDistinct-IsPermutation same_actor flips (map (λ (d : Desk). d.actor) (desks_of crews)) (map (λ (t : OwnedPort). t.actor) sorted)
      (subst (λ l. IsPermutation l (map (λ (t : OwnedPort). t.actor) sorted))
      (map-map (λ (t : OwnedPort). t.actor) owned_port_of (desks_of crews))
      (IsPermutation-map (λ (t : OwnedPort). t.actor) (map owned_port_of (desks_of crews)) sorted p)) all.apart

  -- sorted, they stand at their places, and none is left out
  pub sorted-places : AreBoxes script clock boxes → (crews : List Crew)
      → AllByRecursion (IsCrew script clock boxes w) crews → HaveAllActors script crews → (sorted : List OwnedPort)
      → IsPermutation (map owned_port_of (desks_of crews)) sorted
      → IsNonDecreasingBy (place_at script) sorted → AreInPlaces script 0 sorted × (length sorted ≡ length boxes)
  sorted-places are crews h all sorted p up =
      let owned_ports = map owned_port_of (desks_of crews) in
      let real : AllByRecursion IsReady sorted = permuted IsReady owned_ports sorted p (ready are (desks_of crews) (all-desks crews h)) in
      let exist : AllByRecursion (λ (t : OwnedPort). Exists script t.actor) sorted =
      each_map IsReady (λ (t : OwnedPort). Exists script t.actor) sorted (λ t i k. k.0) real in
      let n = 1 + script.space.servers + length script.sessions in
      let r =
      filled script n 0 sorted (omega arith) (rises script 0 sorted (λ d some. omega arith) up exist (places-apart crews all sorted p))
      (λ t i. place-below script t.actor (each_in (λ (t : OwnedPort). Exists script t.actor) sorted t exist i))
      (λ j low lt.
      let a = actor-at script j lt in
      let d = all.all a.0 (is-actor script a.0 a.1) in (
        owned_port_of d.0,
        in_permuted owned_ports sorted (owned_port_of d.0) p
            (in_map owned_port_of (desks_of crews) d.0 d.1),
        ap (place_of script.space) d.2 ∙ a.2,
      )) in
      let b = are.count in
      (r.0, omega (arith, r.1, b))

  pub sorted-ready : AreBoxes script clock boxes → (crews : List Crew)
      → AllByRecursion (IsCrew script clock boxes w) crews → (sorted : List OwnedPort)
      → IsPermutation (map owned_port_of (desks_of crews)) sorted → AllByRecursion (IsJoined script w boxes []) sorted
  sorted-ready are crews h sorted p =
      let real : AllByRecursion IsReady sorted = permuted IsReady (map owned_port_of (desks_of crews)) sorted p
      (ready are (desks_of crews) (all-desks crews h)) in
      each_map IsReady (IsJoined script w boxes []) sorted (λ t i k. k.1) real

  -- ---- what the joined ports tell of the actors
  pub are-in-order : (crews : List Crew) (sorted : List OwnedPort)
      → IsPermutation (map owned_port_of (desks_of crews)) sorted
      → AllByRecursion (TookInOrder script (map (λ (c : Crew). c.out) crews)) sorted → AreInOrder script crews
  are-in-order crews sorted p h =
      let all : AllByRecursion (TookInOrder script (map (λ (c : Crew). c.out) crews))
      (map owned_port_of (desks_of crews)) = permuted
      (TookInOrder script (map (λ (c : Crew). c.out) crews)) sorted (map owned_port_of (desks_of crews))
      (IsPermutation-sym _ _ p) h in
      each_map (λ (d : Desk). TookInOrder script (map (λ (c : Crew). c.out) crews) (owned_port_of d))
      (λ (d : Desk). AllByRecursion (IsInOrderOf script d) crews) (desks_of crews)
      (λ d i k. map-each (λ (c : Crew). c.out) _ crews k) (map-each owned_port_of (TookInOrder script (map (λ (c : Crew). c.out) crews)) (desks_of crews) all)

  pub are-once : (crews : List Crew) (sorted : List OwnedPort)
      → IsPermutation (map owned_port_of (desks_of crews)) sorted → TookOnce (map (λ (c : Crew). c.out) crews) sorted
      → AreOnce crews
  are-once crews sorted p t h =
      let f = λ (t : OwnedPort). total h (map (λ (s : Sent). s.mailed) (ins_of t.inbox)) in
      let a : taken_weight h crews ≡ total f (map owned_port_of (desks_of crews)) = sym (total-map f owned_port_of (desks_of crews)) in
      let b : put_total h crews ≡ total (λ (o : Outbox). out_weight h o.ports.items)
      (map (λ (c : Crew). c.out) crews) = sym (total-map (λ (o : Outbox). out_weight h o.ports.items)
      (λ (c : Crew). c.out) crews) in
      omega (arith, t h, a, b, total-perm f (map owned_port_of (desks_of crews)) sorted p)

  -- ---- the first ports
  none-taken : (n : ℕ) (outs : List Outbox) → taken_under 0 (joined_lists n outs) ≡ []
  none-taken n outs = all (joined_lists n outs) (λ b i. list-took n outs b i)
    where
      both : (x : _) (l : List Sent) → l ≡ [] → cond x l [] ≡ []
      both true l e = e
      both false l e = refl

      all : (bs : List PortLists) → ((b : PortLists) → IsIn b bs → b.taken ≡ []) → taken_under 0 bs ≡ []
      all [] h = refl
      all (b ∷ bs) h = ap (λ l. l ++ taken_under 0 bs) (both (eqb 0 b.name) b.taken (h b (inl refl))) ∙ all bs (λ x i. h x (inr i))

  first-taken : (n : ℕ) (ins : List Sent) (outs : List Outbox) → taken_under 0 (lists_of 0 [] ins ∷ joined_lists n outs) ≡ ins
  first-taken n ins outs =
      ap (λ b. cond b ins [] ++ taken_under 0 (joined_lists n outs)) (eq-eqb 0 0 refl) ∙ ap (λ l. ins ++ l) (none-taken n outs) ∙ append-nil ins

  -- where there is a driver
  not-empty : {P : Type 0} (outs : List Outbox) → 1 ≤ w → HaveIndexes w outs → (outs ≡ []) ⊎ P → P
  not-empty outs some index (inl e) = let o = index 0 (omega (arith, some)) in absurd (subst (IsIn o.0) e o.1)
  not-empty outs some index (inr p) = p

  -- it is the outbox of one of the drivers
  abbrev IsOutOf : List Crew → Outbox → Type 0
  IsOutOf crews o = (c : Crew) × IsIn c crews × (o ≡ c.out) × IsOutbox boxes o

  outs-of : (crews : List Crew) → AllByRecursion (IsCrew script clock boxes w) crews → (o : Outbox) → IsIn o (map (λ (c : Crew). c.out) crews) → IsOutOf crews o
  outs-of crews h o i =
      let c = of_map (λ (c : Crew). c.out) crews o i in
      (c.0, c.1, c.2, subst (IsOutbox boxes) (sym c.2) (each_in (IsCrew script clock boxes w) crews c.0 h c.1).out)

  -- what a driver put for an actor
  put-at : (crews : List Crew) (a : Actor) (n : ℕ) (owned : (box : Boxed) → box ≡ slice_index_or boxes n box → box.names.owner ≡ a)
      → (o : Outbox) → IsOutOf crews o → (b : PortLists) → b ≡ lists_of (o.index + 1) (outs_at n o.ports.items) [] → HasPut crews a b
  put-at crews a n owned o from b e =
      let same : b.put ≡ outs_at n o.ports.items = ap (λ (x : PortLists). x.put) e in
      record {
        crew = from.0;
        is = from.1;
        name = ap (λ (x : PortLists). x.name) e ∙ ap (λ (x : Outbox). x.index + 1) from.2;
        place = n;
        put = same ∙ ap (λ (x : Outbox). outs_at n x.ports.items) from.2;
        to = each_all (λ (m : Mailed). m.post.to ≡ a) b.put
            (λ m i. let r = outs_owned o.index n boxes o.ports.items m from.3.ports (subst (IsIn m) same i) in r.2 ∙ owned r.0 r.1);
      }

  first-one : AreBoxes script clock boxes → (crews : List Crew) (outs : List Outbox)
      → ((o : Outbox) → IsIn o outs → IsOutOf crews o) → 1 ≤ w → HaveIndexes w outs → (t : OwnedPort) (d : Desk)
      → IsIn d (desks_of crews) → t.actor ≡ d.actor
      → ins_of t.inbox ≡ ins_of d.inbox → Exists script t.actor → IsJoined script w boxes outs t → IsFirstPort clock crews t.actor t.inbox
  first-one are crews outs from some index t d i actor ins exists j =
      let b = some-at boxes (place_at script t) j.place in
      let v = (j.inbox b.0 b.1).1 in
      let names : b.0.names ≡ names_for script clock t.actor = are.each t.actor exists b.0 b.1 in
      let n = place_at script t in
      let took : taken_under 0 (lists_of 0 [] (ins_of t.inbox) ∷ joined_lists n outs) ≡ ins_of t.inbox = first-taken n (ins_of t.inbox) outs in
      let owned = λ (box : Boxed) (at : box ≡ slice_index_or boxes n box). ap (λ (x : BoxNames). x.owner) (are.each t.actor exists box at) in
      record {
        names = b.0.names;
        of_box = ap (λ (x : PortView). x.of_box) v;
        owner = ap (λ (x : BoxNames). x.owner) names;
        of_clock = ap (λ (x : BoxNames). x.clock) names;
        all = subst CarriesAll (sym v) (joined-has w (Some b.0.names) n (ins_of t.inbox) outs index);
        put = λ l k.
            ⊎_elim (λ (e : l ≡ lists_of 0 [] (ins_of t.inbox)). inl (ap (λ (x : PortLists). x.put) e))
            (λ (q : IsIn l (joined_lists n outs)). let o = list-of n outs l q in inr (put-at crews t.actor n owned o.0 (from o.0 o.1) l o.2))
            (subst (IsIn l) (ap (λ (x : PortView). x.lists) v) k);
        alone = subst (TookAlone 0) (sym v) (joined-alone w (Some b.0.names) n (ins_of t.inbox) outs);
        order = not-empty outs some index j.order;
        once = not-empty outs some index j.once;
        desk = d;
        is = i;
        actor = sym actor;
        taken = ap (λ (x : PortView). taken_under 0 x.lists) v ∙ took ∙ ins;
      }

  abbrev IsDone : List Crew → OwnedPort → Type 0
  IsDone crews t = Exists script t.actor × IsFirstPort clock crews t.actor t.inbox

  done-each : AreBoxes script clock boxes → (crews : List Crew) (outs : List Outbox)
      → ((o : Outbox) → IsIn o outs → IsOutOf crews o) → 1 ≤ w → HaveIndexes w outs
      → AllByRecursion IsSome (desks_of crews) → (sorted joined : List OwnedPort)
      → ((t : OwnedPort) → IsIn t sorted → IsIn t (map owned_port_of (desks_of crews)))
      → Both IsKeptPort sorted joined → AllByRecursion (IsJoined script w boxes outs) joined → AllByRecursion (IsDone crews) joined
  done-each are crews outs from some index all [] [] back k j = tt
  done-each are crews outs from some index all [] (u ∷ joined) back k j = absurd k
  done-each are crews outs from some index all (t ∷ sorted) [] back k j = absurd k
  done-each are crews outs from some index all (t ∷ sorted) (u ∷ joined) back k j =
      let d = of_map owned_port_of (desks_of crews) t (back t (inl refl)) in
      let actor : u.actor ≡ d.0.actor = k.0.actor ∙ ap (λ (x : OwnedPort). x.actor) d.2 in
      let ins : ins_of u.inbox ≡ ins_of d.0.inbox = k.0.ins ∙ ap (λ (x : OwnedPort). ins_of x.inbox) d.2 in
      let exists : Exists script u.actor = subst (Exists script) (sym actor)
      (actor-exists script d.0.actor (each_in IsSome (desks_of crews) d.0 all d.1).1.exists) in (
        (exists, first-one are crews outs from some index u d.0 d.1 actor ins exists j.0),
        done-each are crews outs from some index all sorted joined (λ x i. back x (inr i)) k.1 j.1,
      )

  in-order : (crews : List Crew) (n : ℕ) (xs : List Actor) (ts : List OwnedPort) → PlacesFrom script n xs
      → AllByRecursion (Exists script) xs → AreInPlaces script n ts → AllByRecursion (IsDone crews) ts → length xs ≡ length ts
      → Both (IsFirstPort clock crews) xs (map (λ (t : OwnedPort). t.inbox) ts)
  in-order crews n [] [] pa ea pt dt e = tt
  in-order crews n [] (t ∷ ts) pa ea pt dt e = absurd (omega (arith, e))
  in-order crews n (a ∷ xs) [] pa ea pt dt e = absurd (omega (arith, e))
  in-order crews n (a ∷ xs) (t ∷ ts) pa ea pt dt e =
      let same : t.actor ≡ a = place-apart script t.actor a dt.0.0 ea.0 (pt.0 ∙ sym pa.0) in
      (subst (λ x. IsFirstPort clock crews x t.inbox) same dt.0.1, in-order crews (suc n) xs ts pa.1 ea.1 pt.1 dt.1 (omega (arith, e)))

  places-stay : (n : ℕ) (ds es : List OwnedPort) → Both IsKeptPort ds es → AreInPlaces script n ds → AreInPlaces script n es
  places-stay n [] [] h k = tt
  places-stay n [] (e ∷ es) h k = absurd h
  places-stay n (d ∷ ds) [] h k = absurd h
  places-stay n (d ∷ ds) (e ∷ es) h k = (ap (place_of script.space) h.0.actor ∙ k.0, places-stay (suc n) ds es h.1 k.1)

  number-left : (crews : List Crew) → AllByRecursion IsSome (desks_of crews) → HaveAllActors script crews → (k : ℕ)
      → k < length (actors_of script) → HasNumber k (map seated_of (desks_of crews))
  number-left crews all actors k lt =
      let a = actor-at script k (omega (arith, lt, how-many script)) in
      let d = actors.all a.0 (is-actor script a.0 a.1) in
      let place : place_of script.space d.0.actor ≡ k = ap (place_of script.space) d.2 ∙ a.2 in
      let own = (each_in IsSome (desks_of crews) d.0 all d.1).1.seat.1 in
      (seated_of d.0, in_map seated_of (desks_of crews) d.0 d.1, subst (λ n. Owns d.0.seat.view n d.0.part.items) place own)

  pub is-left : AreBoxes script clock boxes → (crews : List Crew) → AllByRecursion (IsCrew script clock boxes w) crews
      → HaveAllActors script crews → 1 ≤ w → AreNumbered w crews
      → (actors : List SeatedPart) → actors ≡ map seated_of (desks_of crews) → (totals : List Totals) → totals ≡ map (λ (c : Crew). c.totals) crews
      → (sorted joined : List OwnedPort) → IsPermutation (map owned_port_of (desks_of crews)) sorted
      → AreInPlaces script 0 sorted → length sorted ≡ length boxes → Both IsKeptPort sorted joined
      → AllByRecursion (IsJoined script w boxes (map (λ (c : Crew). c.out) crews)) joined
      → (ports : List Ported) → ports ≡ map (λ (t : OwnedPort). t.inbox) joined → IsLeft script clock crews actors totals ports
  is-left are crews h all some numbered actors ea totals et sorted joined p placed long kept joins ports ep =
      let ds = all-desks crews h in
      let b = are.count in
      let many : length (actors_of script) ≡ length joined = omega (arith, how-many script, b, long, both-long IsKeptPort sorted joined kept) in
      let done = done-each are crews (map (λ (c : Crew). c.out) crews) (outs-of crews h) some
      (have-indexes w crews numbered).1 ds sorted joined
      (λ t i. in_permuted sorted (map owned_port_of (desks_of crews)) t (IsPermutation-sym _ _ p) i) kept joins in
      record {
        parts = ap parts_by ea ∙ parts-are (desks_of crews);
        seats = subst (AllByRecursion (IsSeated clock)) (sym ea) (seats-are (desks_of crews) ds);
        numbers = λ k lt. subst (HasNumber k) (sym ea) (number-left crews ds all k lt);
        totals_are = et;
        ports_are = subst (Both (IsFirstPort clock crews) (actors_of script)) (sym ep)
            (in-order crews 0 (actors_of script) joined (places-of script) (exist-all script)
            (places-stay 0 sorted joined kept placed) done many);
      }
