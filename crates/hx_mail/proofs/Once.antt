-- A port with all names knows that each put was taken at most once.
use Rattle.std.proofs.Common.{◌≡◌, ◌≢◌, ℕ, ◌<◌, ⊎_elim, Bool, true, false, cond, eqb, List, [], ◌∷◌, ◌++◌, map, refl}
use Rattle.std.proofs.Common.{ap, sym, subst, ◌∙◌, arith, map-id, eqb-true}
use Rattle.std.specs.Prelude.{flat_map, nat_lt, IsPermutation}
use Rattle.std.proofs.lemmas.Bool.Decides.{eqb_tells, nat_tests}
use Rattle.std.proofs.lemmas.List.Sorted.{IsPermutation-refl, IsPermutation-trans, IsPermutation-sym}
use Rattle.std.proofs.lemmas.List.Sorted.{IsPermutation-middle, IsPermutation-append_left, IsPermutation-append_right}
use Rattle.std.proofs.lemmas.List.Sorted.{IsPermutation-cons}
use Rattle.crossbeam_queue.specs.Fifo.{Learns}
use Rattle.hx_mail.specs.declared.views.Mailed.{Mailed}
use Rattle.std.specs.List.{AllByRecursion}
use Rattle.hx_clock.specs.Views.{one}
use Rattle.hx_clock.proofs.Lemmas.{each_map, total-at, one-le, one-same}
use Rattle.hx_mail.specs.declared.views.PortLists.{PortLists}
use Rattle.hx_mail.specs.declared.views.PortView.{PortView}
use Rattle.hx_mail.specs.declared.views.Sent.{Sent}
use Rattle.hx_mail.specs.Ports.{sent, sent_of, put_by, times, IsOnce, all_put, all_taken}
use Rattle.hx_mail.specs.Rule.{TakenBy, taken_by, Fits, IsKept}

module _ {A B : Type 0} (key : A → ℕ) (val : A → B) where
  -- the values of one key
  abbrev pub of_key : ℕ → List A → List B
  of_key k [] = []
  of_key k (x ∷ xs) = cond (eqb k (key x)) (val x ∷ of_key k xs) (of_key k xs)

  empty_keys : (bs : List PortLists) → flat_map (λ (b : PortLists). of_key b.name []) bs ≡ []
  empty_keys [] = refl
  empty_keys (b ∷ bs) = empty_keys bs

module _ {B : Type 0} where
  plus-other : (k : ℕ) (s : B) (R : ℕ → List B) (bs : List PortLists) → times k bs ≡ 0
      → flat_map (λ (b : PortLists). cond (eqb b.name k) (s ∷ R b.name) (R b.name)) bs ≡ flat_map (λ (b : PortLists). R b.name) bs
  plus-other k s R [] e = refl
  plus-other k s R (b ∷ bs) e =
      ⊎_elim
      (λ (h : (eqb b.name k ≡ true) × (b.name ≡ k)). let o = one-same k b.name (sym h.1) in absurd (omega arith))
      (λ (h : (eqb b.name k ≡ false) × (b.name ≢ k)).
      ap (λ c. cond c (s ∷ R b.name) (R b.name) ++ flat_map (λ (b : PortLists). cond (eqb b.name k) (s ∷ R b.name) (R b.name)) bs) h.0
      ∙ ap (λ w. R b.name ++ w) (plus-other k s R bs (omega arith)))
      (eqb_tells b.name k)

  plus-own : (k : ℕ) (s : B) (R : ℕ → List B) (bs : List PortLists) → times k bs ≡ 1
      → IsPermutation (s ∷ flat_map (λ (b : PortLists). R b.name) bs)
      (flat_map (λ (b : PortLists). cond (eqb b.name k) (s ∷ R b.name) (R b.name)) bs)
  plus-own k s R [] e = absurd (omega arith)
  plus-own k s R (b ∷ bs) e =
      let P : Bool → Type 0 = λ c. IsPermutation (s ∷ (R b.name ++ flat_map (λ (b : PortLists). R b.name) bs))
      (cond c (s ∷ R b.name) (R b.name) ++ flat_map (λ (b : PortLists). cond (eqb b.name k) (s ∷ R b.name) (R b.name)) bs) in
      ⊎_elim
      (λ (h : (eqb b.name k ≡ true) × (b.name ≡ k)).
      let o = one-same k b.name (sym h.1) in
      subst P (sym h.0) (subst (λ w. IsPermutation (s ∷ (R b.name ++ flat_map (λ (b : PortLists). R b.name) bs))
      (s ∷ (R b.name ++ w))) (sym (plus-other k s R bs (omega arith))) (IsPermutation-refl _)))
      (λ (h : (eqb b.name k ≡ false) × (b.name ≢ k)).
      let z : one (eqb k b.name) ≡ 0 = grind (arith, nat_tests) in
      subst P (sym h.0)
      (IsPermutation-trans _ _ _
      (IsPermutation-sym _ _ (IsPermutation-middle (R b.name) s (flat_map (λ (b : PortLists). R b.name) bs)))
      (IsPermutation-append_right (R b.name) _ _ (plus-own k s R bs (omega arith)))))
      (eqb_tells b.name k)

all_keys : {A B : Type 0} (key : A → ℕ) (val : A → B) (xs : List A) (bs : List PortLists)
    → AllByRecursion (λ x. times (key x) bs ≡ 1) xs
    → IsPermutation (map val xs) (flat_map (λ (b : PortLists). of_key key val b.name xs) bs)
all_keys key val [] bs h = subst (IsPermutation []) (sym (empty_keys key val bs)) (IsPermutation-refl [])
all_keys key val (x ∷ xs) bs h = IsPermutation-trans _ _ _
    (IsPermutation-cons (val x) _ _ (all_keys key val xs bs h.1)) (plus-own (key x) (val x) (λ k. of_key key val k xs) bs h.0)

-- the lists in these words
sent-case : (c : Bool) (k : ℕ) (s : Sent) (R : List Mailed) (S : List Sent) → (c ≡ true → k ≡ s.port)
    → map (sent k) R ≡ S → map (sent k) (cond c (s.mailed ∷ R) R) ≡ cond c (s ∷ S) S
sent-case true k s R S e h = ap (λ w. sent k s.mailed ∷ w) h ∙ ap (λ j. sent j s.mailed ∷ S) (e refl)
sent-case false k s R S e h = h

put_keys : (k : ℕ) (log : List Sent) → map (sent k) (put_by k log) ≡ of_key (λ (s : Sent). s.port) (λ s. s) k log
put_keys k [] = refl
put_keys k (s ∷ log) = sent-case (eqb k s.port) k s _ _ (λ e. eqb-true k s.port e) (put_keys k log)

taken-case : (c : Bool) (x : Sent) (R S : List Sent) → R ≡ S → cond c (x ∷ R) R ≡ cond c (x ∷ S) S
taken-case c x R S e = ap (λ w. cond c (x ∷ w) w) e

taken_keys : (k : ℕ) (out : List TakenBy) → taken_by k out ≡ of_key (λ (g : TakenBy). g.port) (λ g. g.sent) k out
taken_keys k [] = refl
taken_keys k (g ∷ out) = taken-case (eqb k g.port) g.sent _ _ (taken_keys k out)

puts_keys : (log : List Sent) (bs : List PortLists) → AllByRecursion (λ b. b.put ≡ put_by b.name log) bs
    → all_put bs ≡ flat_map (λ (b : PortLists). of_key (λ (s : Sent). s.port) (λ s. s) b.name log) bs
puts_keys log [] h = refl
puts_keys log (b ∷ bs) h = ap (λ w. w ++ all_put bs) (ap (map (sent b.name)) h.0 ∙ put_keys b.name log)
    ∙ ap (λ w. of_key (λ (s : Sent). s.port) (λ s. s) b.name log ++ w) (puts_keys log bs h.1)

takes_keys : (out : List TakenBy) (bs : List PortLists) → AllByRecursion (λ b. b.taken ≡ taken_by b.name out) bs
    → all_taken bs ≡ flat_map (λ (b : PortLists). of_key (λ (g : TakenBy). g.port) (λ g. g.sent) b.name out) bs
takes_keys out [] h = refl
takes_keys out (b ∷ bs) h = ap (λ w. w ++ all_taken bs) (h.0 ∙ taken_keys b.name out)
    ∙ ap (λ w. of_key (λ (g : TakenBy). g.port) (λ g. g.sent) b.name out ++ w) (takes_keys out bs h.1)

pub once : (id : ℕ) (v : PortView) → Learns IsKept id v (λ items. IsOnce v)
once id v items views kept at all =
    let f : Fits kept.of_box kept.log kept.out kept.ports v = kept.fits id v at in
    let is = (f.number all.0 all.1).0 in
    let one_each : (k : ℕ) → k < kept.ports → times k v.lists ≡ 1 = λ k lt.
    let a = total-at (λ v. times k v.lists) views id v at in
    let b = kept.carried_once k in
    let c = one-le (nat_lt k kept.ports) in
    let d = all.2 k (omega arith) in omega arith in
    let put : IsPermutation kept.log (all_put v.lists) =
    subst (IsPermutation kept.log) (sym (puts_keys kept.log v.lists f.put))
    (subst (λ l. IsPermutation l (flat_map (λ (b : PortLists). of_key (λ (s : Sent). s.port) (λ s. s) b.name kept.log) v.lists)) (map-id kept.log)
    (all_keys (λ (s : Sent). s.port) (λ s. s) kept.log v.lists (each_map _ _ kept.log (λ s i lt. one_each s.port lt) kept.log_within))) in
    let taken : IsPermutation (map (λ (g : TakenBy). g.sent) kept.out) (all_taken v.lists) =
    subst (IsPermutation (map (λ (g : TakenBy). g.sent) kept.out)) (sym (takes_keys kept.out v.lists f.taken))
    (all_keys (λ (g : TakenBy). g.port) (λ g. g.sent) kept.out v.lists (each_map _ _ kept.out (λ g i lt. one_each g.port lt) kept.out_within)) in (
      map sent_of items,
      IsPermutation-trans _ _ _ (IsPermutation-sym _ _ put)
          (subst (λ l. IsPermutation l (all_taken v.lists ++ map sent_of items)) (sym kept.log_is) (IsPermutation-append_left (map sent_of items) _ _ taken)),
    )
