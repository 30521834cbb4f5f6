-- The boxes of all actors, and the box of a place with its ports.
use Rattle.std.proofs.Common.{◌≡◌, ℕ, zero, suc, ◌+◌, ◌<◌, ◌⊎◌, inl, inr, ⊎_elim, List, [], ◌∷◌, ◌++◌, map, length}
use Rattle.std.proofs.Common.{take, slice_get, slice_index_or, Some, refl, ap, sym, subst, ◌∙◌, arith, length-append}
use Rattle.std.proofs.lemmas.List.{map-append}
use Rattle.std.proofs.lemmas.Option.{get_or_from_slice_get}
use Rattle.atomic_table.specs.Seated.{TableId}
use Rattle.hx_types.specs.declared.traces.Script.{Script}
use Rattle.hx_types.specs.Words.{below}
use Rattle.hx_clock.proofs.Lemmas.{get-front}
use Rattle.hx_mail.specs.declared.views.BoxNames.{BoxNames}
use Rattle.hx_mail.specs.Boxes.{Boxed}
use Rattle.hx_outbox.specs.Places.{names_for, place_of, AreBoxes}
use Rattle.hx_outbox.proofs.Lemmas.{at-map, map-length, place-below}
use Rattle.hx_driver.specs.Inboxes.{ins_of, HasInPort, IsInPort}
use Rattle.hx_cluster.specs.declared.opening.BoxPorts.{BoxPorts}
use Rattle.hx_cluster.specs.Actors.{actor_at}
use Rattle.hx_cluster.specs.Opened.{AreNewPorts, ArePortsOf}
use Rattle.hx_cluster.proofs.ByPlace.{at-place}
use Rattle.hx_cluster.proofs.Opens.{both-snoc}

module _ {A : Type 0} where
  pub get-mid : (xs : List A) (x : A) (rest : List A) → slice_get (xs ++ x ∷ rest) (length xs) ≡ Some x
  get-mid [] x rest = refl
  get-mid (y ∷ xs) x rest = get-mid xs x rest

  -- the item that follows some
  pub item-at : (xs : List A) (x : A) (rest all : List A) (n : ℕ) → xs ++ x ∷ rest ≡ all → n ≡ length xs → slice_get all n ≡ Some x
  item-at xs x rest all n e m = ap (slice_get all) m ∙ ap (λ l. slice_get l (length xs)) (sym e) ∙ get-mid xs x rest

  pub before-all : (xs : List A) (x : A) (rest all : List A) → xs ++ x ∷ rest ≡ all → length xs < length all
  before-all xs x rest all e = let a = length-append xs (x ∷ rest) in let b = ap length e in omega (arith, a, b)

  pub none-left : (xs rest all : List A) (n : ℕ) → xs ++ rest ≡ all → length rest ≡ n → n ≡ 0 → length all ≡ length xs
  none-left xs rest all n e h z = let a = length-append xs rest in let b = ap length e in omega (arith, a, b, h, z)

  pub take-all : (xs : List A) (n : ℕ) → n ≡ length xs → take n xs ≡ xs
  take-all xs n e = ap (λ k. take k xs) e ∙ go xs
    where
      go : (xs : List A) → take (length xs) xs ≡ xs
      go [] = refl
      go (x ∷ xs) = ap (λ l. x ∷ l) (go xs)

pub below-long : (n : ℕ) → length (below n) ≡ n
below-long zero = refl
below-long (suc n) = length-append (below n) (n ∷ []) ∙ (let e = below-long n in omega (arith, e))

below-at : (n k : ℕ) → k < n → slice_get (below n) k ≡ Some k
below-at zero k lt = absurd (omega (arith, lt))
below-at (suc n) k lt =
    ⊎_elim (λ (h : k < n). get-front (below n) (n ∷ []) k k (below-at n k h))
    (λ (h : k ≡ n). ap (slice_get (below n ++ n ∷ [])) (h ∙ sym (below-long n)) ∙ get-mid (below n) n [] ∙ ap Some (sym h)) (cases k n lt)
  where
    cases : (k n : ℕ) → k < suc n → (k < n) ⊎ (k ≡ n)
    cases zero zero lt = inr refl
    cases zero (suc n) lt = inl (omega arith)
    cases (suc k) zero lt = absurd (omega (arith, lt))
    cases (suc k) (suc n) lt = ⊎_elim (λ (h : k < n). inl (omega (arith, h))) (λ (h : k ≡ n). inr (ap suc h)) (cases k n (omega (arith, lt)))

-- the boxes of the first places, one more
pub names-more : (script : Script) (clock : TableId) (k : ℕ) (boxes boxes' : List Boxed) (box : Boxed)
    → map (λ (b : Boxed). b.names) boxes ≡ map (λ k. names_for script clock (actor_at script.space k)) (below k)
    → boxes' ≡ boxes ++ box ∷ [] → box.names ≡ names_for script clock (actor_at script.space k)
    → map (λ (b : Boxed). b.names) boxes' ≡ map (λ k. names_for script clock (actor_at script.space k)) (below (k + 1))
names-more script clock k boxes boxes' box h e n =
    let g : ℕ → BoxNames = λ k. names_for script clock (actor_at script.space k) in
    let z : suc k ≡ k + 1 = omega arith in
    ap (map (λ (b : Boxed). b.names)) e
    ∙ map-append (λ (b : Boxed). b.names) boxes (box ∷ [])
    ∙ ap (λ l. l ++ box.names ∷ []) h
    ∙ ap (λ x. map g (below k) ++ x ∷ []) n
    ∙ sym (map-append g (below k) (k ∷ []))
    ∙ ap (λ n. map g (below n)) z

pub boxes-are : (script : Script) (clock : TableId) (n : ℕ) (boxes : List Boxed) → n ≡ 1 + script.space.servers + length script.sessions
    → map (λ (b : Boxed). b.names) boxes ≡ map (λ k. names_for script clock (actor_at script.space k)) (below n)
    → AreBoxes script clock boxes
boxes-are script clock n boxes e h =
    let g : ℕ → BoxNames = λ k. names_for script clock (actor_at script.space k) in
    let long : length boxes ≡ n = sym (map-length (λ (b : Boxed). b.names) boxes) ∙ ap length h ∙ map-length g (below n) ∙ below-long n in
    record {
      count = long ∙ e;
      each = λ a x box at.
          let k = place_of script.space a in
          let lt : k < n = let p = place-below script a x in omega (arith, p, e) in
          let is : k ≡ slice_index_or (below n) k k = sym (get_or_from_slice_get (below n) k k k (below-at n k lt)) in
          sym (at-map (λ (b : Boxed). b.names) boxes k box box.names (omega (arith, lt, long)) at)
          ∙ ap (λ l. slice_index_or l k box.names) h
          ∙ at-map g (below n) k k box.names (let b = below-long n in omega (arith, lt, b)) is
          ∙ ap (names_for script clock) (at-place script a x);
    }

pub ports-more : (w : ℕ) (boxes boxes' : List Boxed) (box : Boxed) (ports ports' : List BoxPorts) (p : BoxPorts)
    → ArePortsOf w boxes ports → AreNewPorts w box p → boxes' ≡ boxes ++ box ∷ [] → ports' ≡ ports ++ p ∷ []
    → ArePortsOf w boxes' ports'
ports-more w boxes boxes' box ports ports' p h n e f =
    subst (λ l. ArePortsOf w l ports') (sym e) (subst (λ l. ArePortsOf w (boxes ++ box ∷ []) l) (sym f) (both-snoc (AreNewPorts w) boxes ports box p h n))

-- the box of a place, with its ports
pub record IsBoxAt (w : ℕ) (boxes : List Boxed) (n : ℕ) (p : BoxPorts) : Type 0 where
  pub box : Boxed
  pub taken : take n boxes ++ box ∷ [] ≡ take (suc n) boxes
  pub ports : AreNewPorts w box p
  pub is : (b : Boxed) → b ≡ slice_index_or boxes n b → b ≡ box

pub box-at : (w : ℕ) (boxes : List Boxed) (qs : List BoxPorts) (p : BoxPorts) (rest all : List BoxPorts)
    → qs ++ p ∷ rest ≡ all → ArePortsOf w boxes all → IsBoxAt w boxes (length qs) p
box-at w boxes qs p rest all e h = go boxes qs (subst (ArePortsOf w boxes) (sym e) h)
  where
    go : (bs : List Boxed) (ps : List BoxPorts) → ArePortsOf w bs (ps ++ p ∷ rest) → IsBoxAt w bs (length ps) p
    go [] [] h = absurd h
    go [] (q ∷ ps) h = absurd h
    go (b ∷ bs) [] h = record { box = b; taken = refl; ports = h.0; is = λ x e. e }
    go (b ∷ bs) (q ∷ ps) h = let r = go bs ps h.1 in record { box = r.box; taken = ap (λ l. b ∷ l) r.taken; ports = r.ports; is = r.is }

pub box-place : (w : ℕ) (boxes : List Boxed) (qs : List BoxPorts) (p : BoxPorts) (rest all : List BoxPorts) (n : ℕ)
    → qs ++ p ∷ rest ≡ all → ArePortsOf w boxes all → n ≡ length qs → IsBoxAt w boxes n p
box-place w boxes qs p rest all n e h m = subst (λ k. IsBoxAt w boxes k p) (sym m) (box-at w boxes qs p rest all e h)

pub in-port-at : (w : ℕ) (boxes : List Boxed) (n : ℕ) (p : BoxPorts) → IsBoxAt w boxes n p → HasInPort w boxes n p.first × (ins_of p.first ≡ [])
in-port-at w boxes n p h = ((λ b e. subst (λ (x : Boxed). IsInPort w x p.first) (sym (h.is b e)) h.ports.first.0), h.ports.first.1)
