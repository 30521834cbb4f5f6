-- Offers put together.
use Rattle.std.proofs.Common.{◌≡◌, ℕ, zero, suc, ◌+◌, ◌*◌, ◌<◌, ◌≤◌, Bool, true, false, eqb, List, [], ◌∷◌, ◌++◌, map}
use Rattle.std.proofs.Common.{length, slice_get, Some, refl, ap, sym, subst, ◌∙◌, arith, length-append}
use Rattle.std.specs.Prelude.{not}
use Rattle.std.specs.List.{AllByRecursion}
use Rattle.hx_types.specs.declared.messages.Post.{Post}
use Rattle.hx_types.specs.declared.totals.Totals.{Totals}
use Rattle.hx_clock.specs.Views.{one, total}
use Rattle.hx_clock.proofs.Lemmas.{each_append, total-append}
use Rattle.hx_fate.specs.declared.fates.Choice.{Choice}
use Rattle.hx_fate.specs.declared.fates.Choice.TheVariants.{Deliver, Lose, Twice}
use Rattle.hx_fate.specs.declared.fates.FateState.{FateState}
use Rattle.hx_fate.specs.declared.fates.Tuning.{Tuning}
use Rattle.hx_fate.specs.States.{after_choice, is_lose, is_twice, raised_if, MayRepeat}
use Rattle.hx_mail.specs.declared.views.Mailed.{Mailed}
use Rattle.hx_mail.specs.Ports.{mailed}
use Rattle.hx_outbox.specs.Offers.{is_gone, named, offer, put_weight, raised_by, times_of, IsChoiceOn, IsCounted, IsFair, IsOffered, Offer}
use Rattle.hx_outbox.proofs.Lists.{map-length}

map-append : {A B : Type 0} (f : A → B) (xs ys : List A) → map f (xs ++ ys) ≡ map f xs ++ map f ys
map-append f [] ys = refl
map-append f (x ∷ xs) ys = ap (λ w. f x ∷ w) (map-append f xs ys)

raised-both : (m n c : ℕ) → raised_by (m + n) c ≡ raised_by n (raised_by m c)
raised-both zero n c = ap (λ k. raised_by k c) (let e : 0 + n ≡ n = omega arith in e)
raised-both (suc m) n c = ap (λ k. raised_by k c) (let e : suc m + n ≡ suc (m + n) = omega arith in e) ∙ raised-both m n (raised_if true c)

pub offered-none : (w w' : (Mailed → ℕ) → ℕ) (t : Totals) (f : FateState) → ((h : Mailed → ℕ) → w' h ≡ w h) → IsOffered w w' t t f f []
offered-none w w' t f e = record {
  offers = [];
  are = refl;
  fair = tt;
  put = λ h. omega (arith, e h);
  posts = omega arith;
  deliver = omega arith;
  lose = omega arith;
  twice = omega arith;
  chosen = refl;
  lost = refl;
  doubled = refl;
  tuning = refl;
}

pub offered-both : (u v w : (Mailed → ℕ) → ℕ) (r s t : Totals) (e f g : FateState) (ms ns : List Mailed)
    → IsOffered u v r s e f ms → IsOffered v w s t f g ns → IsOffered u w r t e g (ms ++ ns)
offered-both u v w r s t e f g ms ns a b = record {
  offers = a.offers ++ b.offers;
  are = map-append (λ (o : Offer). o.mailed) a.offers b.offers ∙ ap (λ l. l ++ map (λ (o : Offer). o.mailed) b.offers) a.are ∙ ap (λ l. ms ++ l) b.are;
  fair = each_append IsFair a.offers b.offers a.fair b.fair;
  put = λ h. omega (arith, a.put h, b.put h, total-append (λ (o : Offer). o.times * h o.mailed) a.offers b.offers);
  posts = omega (arith, a.posts, b.posts, length-append a.offers b.offers);
  deliver = omega (arith, a.deliver, b.deliver, total-append (λ (o : Offer). one (eqb 1 o.times)) a.offers b.offers);
  lose = omega (arith, a.lose, b.lose, total-append (λ (o : Offer). one (eqb 0 o.times)) a.offers b.offers);
  twice = omega (arith, a.twice, b.twice, total-append (λ (o : Offer). one (eqb 2 o.times)) a.offers b.offers);
  chosen = join (λ (o : Offer). one (not (is_gone o.mailed.post.message))) e.chosen f.chosen g.chosen a.chosen b.chosen;
  lost = join (λ (o : Offer). one (eqb 0 o.times)) e.lost f.lost g.lost a.lost b.lost;
  doubled = join (λ (o : Offer). one (eqb 2 o.times)) e.doubled f.doubled g.doubled a.doubled b.doubled;
  tuning = b.tuning ∙ a.tuning;
}
  where
    join : (k : Offer → ℕ) (x y z : ℕ) → y ≡ raised_by (total k a.offers) x → z ≡ raised_by (total k b.offers) y
        → z ≡ raised_by (total k (a.offers ++ b.offers)) x
    join k x y z p q =
        q ∙ ap (raised_by (total k b.offers)) p ∙ sym (raised-both (total k a.offers) (total k b.offers) x)
        ∙ ap (λ n. raised_by n x) (sym (total-append k a.offers b.offers))

put-few : (os : List Offer) → AllByRecursion IsFair os → put_weight (λ m. 1) os ≤ 2 * length os
put-few [] h = omega arith
put-few (o ∷ os) h = let f = h.0.few in omega (arith, put-few os h.1, f)

-- each post was put or kept at most twice
pub offered-few : (w w' : (Mailed → ℕ) → ℕ) (t t' : Totals) (f f' : FateState) (ms : List Mailed)
    → IsOffered w w' t t' f f' ms → w' (λ m. 1) ≤ w (λ m. 1) + 2 * length ms
offered-few w w' t t' f f' ms o = omega (arith, o.put (λ m. 1), put-few o.offers o.fair, map-length (λ (p : Offer). p.mailed) o.offers, ap length o.are)

-- one post, by its choice
fair-choice : (p : Post) (choice : Choice) (f f' : FateState) → IsChoiceOn p choice f f' → is_gone p.message ≡ true → times_of choice ≡ 1
fair-choice p choice f f' h gone = ap times_of (h.0 gone).0

few-choice : (choice : Choice) → times_of choice ≤ 2
few-choice Deliver = omega arith
few-choice Lose = omega arith
few-choice Twice = omega arith

lose-count : (choice : Choice) (c : ℕ) → raised_if (is_lose choice) c ≡ raised_by (one (eqb 0 (times_of choice)) + 0) c
lose-count Deliver c = refl
lose-count Lose c = refl
lose-count Twice c = refl

twice-count : (choice : Choice) (c : ℕ) → raised_if (is_twice choice) c ≡ raised_by (one (eqb 2 (times_of choice)) + 0) c
twice-count Deliver c = refl
twice-count Lose c = refl
twice-count Twice c = refl

record IsAsked (b : Bool) (choice : Choice) (f f' : FateState) : Type 0 where
  pub chosen : f'.chosen ≡ raised_by (one (not b) + 0) f.chosen
  pub lost : f'.lost ≡ raised_by (one (eqb 0 (times_of choice)) + 0) f.lost
  pub doubled : f'.doubled ≡ raised_by (one (eqb 2 (times_of choice)) + 0) f.doubled
  pub tuning : f'.tuning ≡ f.tuning

asked-case : (b : Bool) (choice : Choice) (f f' : FateState) → (b ≡ true → (choice ≡ Deliver) × (f' ≡ f))
    → (b ≡ false → f' ≡ after_choice choice f) → IsAsked b choice f f'
asked-case true choice f f' g h =
    let d = (g refl).0 in
    let s = (g refl).1 in
    record {
      chosen = ap (λ (x : FateState). x.chosen) s;
      lost = ap (λ (x : FateState). x.lost) s ∙ ap (λ x. raised_by (one (eqb 0 (times_of x)) + 0) f.lost) (sym d);
      doubled = ap (λ (x : FateState). x.doubled) s ∙ ap (λ x. raised_by (one (eqb 2 (times_of x)) + 0) f.doubled) (sym d);
      tuning = ap (λ (x : FateState). x.tuning) s;
    }
asked-case false choice f f' g h =
    let a = h refl in
    record {
      chosen = ap (λ (x : FateState). x.chosen) a;
      lost = ap (λ (x : FateState). x.lost) a ∙ lose-count choice f.lost;
      doubled = ap (λ (x : FateState). x.doubled) a ∙ twice-count choice f.doubled;
      tuning = ap (λ (x : FateState). x.tuning) a;
    }

pub offered-one : (w w' : (Mailed → ℕ) → ℕ) (t t' : Totals) (f f' : FateState) (m : Mailed) (choice : Choice)
    → IsChoiceOn m.post choice f f' → IsCounted choice t t'
    → ((h : Mailed → ℕ) → w' h ≡ w h + times_of choice * h m) → IsOffered w w' t t' f f' (m ∷ [])
offered-one w w' t t' f f' m choice h k put =
    let a = asked-case (is_gone m.post.message) choice f f' h.0 h.1 in
    let kp = k.posts in
    let kd = k.deliver in
    let kl = k.lose in
    let kt = k.twice in
    record {
      offers = offer m (times_of choice) ∷ [];
      are = refl;
      fair = (record { few = few-choice choice; gone = λ g. fair-choice m.post choice f f' h g }, tt);
      put = λ x. omega (arith, put x);
      posts = omega (arith, kp);
      deliver = omega (arith, kd);
      lose = omega (arith, kl);
      twice = omega (arith, kt);
      chosen = a.chosen;
      lost = a.lost;
      doubled = a.doubled;
      tuning = a.tuning;
    }

named-append : (e k : ℕ) (xs ys : List Post) → named e k (xs ++ ys) ≡ named e k xs ++ named e (k + length xs) ys
named-append e k [] ys = ap (λ n. named e n ys) (let z : k ≡ k + 0 = omega arith in z)
named-append e k (x ∷ xs) ys = ap (λ w. mailed (record { entry = e; place = k }) x ∷ w)
    (named-append e (suc k) xs ys ∙ ap (λ n. named e (suc k) xs ++ named e n ys)
    (let z : suc k + length xs ≡ k + suc (length xs) = omega arith in z))

pub named-next : (e : ℕ) (ps : List Post) (p : Post) (n : ℕ) → n ≡ length ps
    → named e 0 (ps ++ p ∷ []) ≡ named e 0 ps ++ mailed (record { entry = e; place = n }) p ∷ []
named-next e ps p n is = named-append e 0 ps (p ∷ [])
    ∙ ap (λ k. named e 0 ps ++ mailed (record { entry = e; place = k }) p ∷ [])
    (let z : 0 + length ps ≡ n = omega (arith, is) in z)

-- an item of a list, by what stands before it and after it
module _ {A : Type 0} where
  pub item-at : (xs : List A) (x : A) (rest all : List A) → xs ++ (x ∷ rest) ≡ all → slice_get all (length xs) ≡ Some x
  item-at xs x rest all e = subst (λ l. slice_get l (length xs) ≡ Some x) e (by xs)
    where
      by : (xs : List A) → slice_get (xs ++ (x ∷ rest)) (length xs) ≡ Some x
      by [] = refl
      by (y ∷ xs) = by xs

  pub item-each : (P : A → Type 0) (xs : List A) (x : A) (rest all : List A) → xs ++ (x ∷ rest) ≡ all → AllByRecursion P all → P x
  item-each P xs x rest all e h = by xs (subst (AllByRecursion P) (sym e) h)
    where
      by : (xs : List A) → AllByRecursion P (xs ++ (x ∷ rest)) → P x
      by [] h = h.0
      by (y ∷ xs) h = by xs h.1

-- what may repeat after an offer could before it, so the second copies are those of the posts that are left
pub seconds-left : (w w' : (Mailed → ℕ) → ℕ) (t t' : Totals) (f f' : FateState) (ms : List Mailed) (seconds seconds' firsts : List Post)
    (p : Post) (rest : List Post) → IsOffered w w' t t' f f' ms → (MayRepeat f → seconds ≡ firsts) → firsts ≡ p ∷ rest
    → ((q : Post) (qs : List Post) → seconds ≡ q ∷ qs → seconds' ≡ qs) → MayRepeat f' → seconds' ≡ rest
seconds-left w w' t t' f f' ms seconds seconds' firsts p rest o same is gone may =
    gone p rest (same (subst (λ (x : Tuning). 0 < x.repeat_every) o.tuning may) ∙ is)

-- as many posts were offered as there were
pub offered-long : (w w' : (Mailed → ℕ) → ℕ) (t t' : Totals) (f f' : FateState) (ms : List Mailed)
    (o : IsOffered w w' t t' f f' ms) → length o.offers ≡ length ms
offered-long w w' t t' f f' ms o = sym (map-length (λ (p : Offer). p.mailed) o.offers) ∙ ap length o.are
