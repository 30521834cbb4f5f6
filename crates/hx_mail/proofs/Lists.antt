-- The lists of what was put and taken under names.
use Rattle.std.proofs.Common.{◌≡◌, ◌≢◌, ℕ, ◌<◌, ◌≤◌, inl, inr, ⊎_elim, Bool, true, false, cond, eqb, List, [], ◌∷◌}
use Rattle.std.proofs.Common.{◌++◌, map, refl, ap, sym, subst, ◌∙◌, arith, append-nil}
use Rattle.std.proofs.lemmas.Bool.Decides.{eqb_tells, nat_tests}
use Rattle.hx_mail.specs.declared.views.Mailed.{Mailed}
use Rattle.std.specs.List.{AllByRecursion}
use Rattle.hx_types.specs.Words.{IsIn}
use Rattle.hx_clock.specs.Views.{one}
use Rattle.hx_clock.proofs.Lemmas.{one-not, one-same}
use Rattle.hx_mail.specs.declared.views.PortLists.{PortLists}
use Rattle.hx_mail.specs.declared.views.Sent.{Sent}
use Rattle.hx_mail.specs.Ports.{lists_of, put_by, times, put_in, take_in}
use Rattle.hx_mail.specs.Rule.{TakenBy, taken_by}

pub map-snoc : {A B : Type 0} (f : A → B) (xs : List A) (x : A) → map f (xs ++ x ∷ []) ≡ map f xs ++ f x ∷ []
map-snoc f [] x = refl
map-snoc f (y ∷ xs) x = ap (λ w. f y ∷ w) (map-snoc f xs x)

pub each_under : {A B : Type 0} (P : B → Type 0) (Q : A → Type 0) (f : A → B) (xs : List A)
    → ((x : A) → IsIn x xs → Q x → P (f x)) → AllByRecursion Q xs → AllByRecursion P (map f xs)
each_under P Q f [] g h = tt
each_under P Q f (x ∷ xs) g h = (g x (inl refl) h.0, each_under P Q f xs (λ y i. g y (inr i)) h.1)

put-case : (c : Bool) (p : Mailed) (R S d : List Mailed) → R ≡ S ++ d → cond c (p ∷ R) R ≡ cond c (p ∷ S) S ++ d
put-case c p R S d e = elim c as (λ c. cond c (p ∷ R) R ≡ cond c (p ∷ S) S ++ d) [ true ↦ ap (λ w. p ∷ w) e | false ↦ e ]

pub put_by-append : (k : ℕ) (xs ys : List Sent) → put_by k (xs ++ ys) ≡ put_by k xs ++ put_by k ys
put_by-append k [] ys = refl
put_by-append k (x ∷ xs) ys = put-case (eqb k x.port) x.mailed _ _ _ (put_by-append k xs ys)

taken-case : (c : Bool) (p : Sent) (R S d : List Sent) → R ≡ S ++ d → cond c (p ∷ R) R ≡ cond c (p ∷ S) S ++ d
taken-case c p R S d e = elim c as (λ c. cond c (p ∷ R) R ≡ cond c (p ∷ S) S ++ d) [ true ↦ ap (λ w. p ∷ w) e | false ↦ e ]

pub taken_by-append : (k : ℕ) (xs ys : List TakenBy) → taken_by k (xs ++ ys) ≡ taken_by k xs ++ taken_by k ys
taken_by-append k [] ys = refl
taken_by-append k (x ∷ xs) ys = taken-case (eqb k x.port) x.sent _ _ _ (taken_by-append k xs ys)

pub put-own : (k : ℕ) (log : List Sent) (s : Sent) → k ≡ s.port → put_by k (log ++ s ∷ []) ≡ put_by k log ++ s.mailed ∷ []
put-own k log s e =
    put_by-append k log (s ∷ [])
    ∙ ap (λ w. put_by k log ++ w) (⊎_elim (λ (h : (eqb k s.port ≡ true) × (k ≡ s.port)). ap
    (λ b. cond b (s.mailed ∷ []) []) h.0) (λ (h : (eqb k s.port ≡ false) × (k ≢ s.port)). absurd (h.1 e))
    (eqb_tells k s.port))

pub put-other : (k : ℕ) (log : List Sent) (s : Sent) → k ≢ s.port → put_by k (log ++ s ∷ []) ≡ put_by k log
put-other k log s d =
    put_by-append k log (s ∷ [])
    ∙ ap (λ w. put_by k log ++ w) (⊎_elim (λ (h : (eqb k s.port ≡ true) × (k ≡ s.port)). absurd (d h.1))
    (λ (h : (eqb k s.port ≡ false) × (k ≢ s.port)). ap (λ b. cond b (s.mailed ∷ []) []) h.0) (eqb_tells k s.port))
    ∙ append-nil (put_by k log)

pub taken-own : (k : ℕ) (out : List TakenBy) (g : TakenBy) → k ≡ g.port → taken_by k (out ++ g ∷ []) ≡ taken_by k out ++ g.sent ∷ []
taken-own k out g e =
    taken_by-append k out (g ∷ [])
    ∙ ap (λ w. taken_by k out ++ w) (⊎_elim (λ (h : (eqb k g.port ≡ true) × (k ≡ g.port)). ap
    (λ b. cond b (g.sent ∷ []) []) h.0) (λ (h : (eqb k g.port ≡ false) × (k ≢ g.port)). absurd (h.1 e)) (eqb_tells k g.port))

pub taken-other : (k : ℕ) (out : List TakenBy) (g : TakenBy) → k ≢ g.port → taken_by k (out ++ g ∷ []) ≡ taken_by k out
taken-other k out g d =
    taken_by-append k out (g ∷ [])
    ∙ ap (λ w. taken_by k out ++ w) (⊎_elim (λ (h : (eqb k g.port ≡ true) × (k ≡ g.port)). absurd (d h.1))
    (λ (h : (eqb k g.port ≡ false) × (k ≢ g.port)). ap (λ b. cond b (g.sent ∷ []) []) h.0) (eqb_tells k g.port))
    ∙ append-nil (taken_by k out)

-- a name that no port has put and taken nothing
none-case : {A : Type 0} (b : Bool) (s : A) (R : List A) → b ≡ false → R ≡ [] → cond b (s ∷ R) R ≡ []
none-case true s R e r = absurd cc
none-case false s R e r = r

not_equal : (k j : ℕ) → j < k → eqb k j ≡ false
not_equal k j h = grind (arith, nat_tests)

pub put-none : (k n : ℕ) (log : List Sent) → AllByRecursion (λ s. s.port < n) log → n ≤ k → put_by k log ≡ []
put-none k n [] h le = refl
put-none k n (s ∷ ss) h le = let a = h.0 in none-case (eqb k s.port) s.mailed _ (not_equal k s.port (omega arith)) (put-none k n ss h.1 le)

pub taken-none : (k n : ℕ) (out : List TakenBy) → AllByRecursion (λ g. g.port < n) out → n ≤ k → taken_by k out ≡ []
taken-none k n [] h le = refl
taken-none k n (g ∷ gs) h le = let a = h.0 in none-case (eqb k g.port) g.sent _ (not_equal k g.port (omega arith)) (taken-none k n gs h.1 le)

pub times-in : (k : ℕ) (bs : List PortLists) (b : PortLists) → IsIn b bs → k ≡ b.name → 1 ≤ times k bs
times-in k [] b h e = absurd h
times-in k (c ∷ bs) b h e = ⊎_elim (λ (y : b ≡ c). omega
    (arith, one-same k c.name (e ∙ ap (λ (r : PortLists). r.name) y))) (λ r. omega (arith, times-in k bs b r e)) h

pub lists-of : (k : ℕ) (bs : List PortLists) → 1 ≤ times k bs → (b : PortLists) × IsIn b bs × (k ≡ b.name)
lists-of k [] h = absurd (omega arith)
lists-of k (c ∷ bs) h =
    ⊎_elim (λ (e : (eqb k c.name ≡ true) × (k ≡ c.name)). (c, inl refl, e.1))
    (λ (e : (eqb k c.name ≡ false) × (k ≢ c.name)). let z = one-not k c.name e.1 in let r = lists-of k bs (omega arith) in (r.0, inr r.1, r.2))
    (eqb_tells k c.name)

pub put_in-name : (own : ℕ) (p : Mailed) (b : PortLists) → (put_in own p b).name ≡ b.name
put_in-name own p b = elim (eqb own b.name) as (λ c. (cond c (lists_of b.name (b.put ++ p ∷ []) b.taken) b).name ≡ b.name) [ true ↦ refl | false ↦ refl ]

pub put_in-taken : (own : ℕ) (p : Mailed) (b : PortLists) → (put_in own p b).taken ≡ b.taken
put_in-taken own p b = elim (eqb own b.name) as (λ c. (cond c (lists_of b.name (b.put ++ p ∷ []) b.taken) b).taken ≡ b.taken) [ true ↦ refl | false ↦ refl ]

pub take_in-name : (own : ℕ) (s : Sent) (b : PortLists) → (take_in own s b).name ≡ b.name
take_in-name own s b = elim (eqb own b.name) as (λ c. (cond c (lists_of b.name b.put (b.taken ++ s ∷ [])) b).name ≡ b.name) [ true ↦ refl | false ↦ refl ]

pub take_in-put : (own : ℕ) (s : Sent) (b : PortLists) → (take_in own s b).put ≡ b.put
take_in-put own s b = elim (eqb own b.name) as (λ c. (cond c (lists_of b.name b.put (b.taken ++ s ∷ [])) b).put ≡ b.put) [ true ↦ refl | false ↦ refl ]

pub put_in-put : (log : List Sent) (s : Sent) (b : PortLists) → b.put ≡ put_by b.name log → (put_in s.port s.mailed b).put ≡ put_by b.name (log ++ s ∷ [])
put_in-put log s b e =
    let P : Bool → Type 0 = λ c. (cond c (lists_of b.name (b.put ++ s.mailed ∷ []) b.taken) b).put ≡ put_by b.name (log ++ s ∷ []) in
    ⊎_elim
    (λ (h : (eqb s.port b.name ≡ true) × (s.port ≡ b.name)). subst P (sym h.0) (ap (λ w. w ++ s.mailed ∷ []) e ∙ sym (put-own b.name log s (sym h.1))))
    (λ (h : (eqb s.port b.name ≡ false) × (s.port ≢ b.name)). subst P (sym h.0) (e ∙ sym (put-other b.name log s (λ q. h.1 (sym q)))))
    (eqb_tells s.port b.name)

pub take_in-taken : (out : List TakenBy) (g : TakenBy) (b : PortLists) → b.taken ≡ taken_by b.name out
    → (take_in g.port g.sent b).taken ≡ taken_by b.name (out ++ g ∷ [])
take_in-taken out g b e =
    let P : Bool → Type 0 = λ c. (cond c (lists_of b.name b.put (b.taken ++ g.sent ∷ [])) b).taken ≡ taken_by b.name (out ++ g ∷ []) in
    ⊎_elim
    (λ (h : (eqb g.port b.name ≡ true) × (g.port ≡ b.name)). subst P (sym h.0) (ap (λ w. w ++ g.sent ∷ []) e ∙ sym (taken-own b.name out g (sym h.1))))
    (λ (h : (eqb g.port b.name ≡ false) × (g.port ≢ b.name)). subst P (sym h.0) (e ∙ sym (taken-other b.name out g (λ q. h.1 (sym q)))))
    (eqb_tells g.port b.name)

pub times-map : (k : ℕ) (f : PortLists → PortLists) (bs : List PortLists) → ((b : PortLists) → (f b).name ≡ b.name) → times k (map f bs) ≡ times k bs
times-map k f [] e = refl
times-map k f (b ∷ bs) e = omega (arith, times-map k f bs e, ap (λ n. one (eqb k n)) (e b))

pub taken_in : (out : List TakenBy) (g : TakenBy) → IsIn g out → IsIn g.sent (taken_by g.port out)
taken_in [] g h = absurd h
taken_in (a ∷ out) g h =
    let P : Bool → Type 0 = λ c. IsIn g.sent (cond c (a.sent ∷ taken_by g.port out) (taken_by g.port out)) in
    ⊎_elim
    (λ (e : (eqb g.port a.port ≡ true) × (g.port ≡ a.port)).
    subst P (sym e.0) (⊎_elim (λ (y : g ≡ a). inl (ap (λ (r : TakenBy). r.sent) y)) (λ r. inr (taken_in out g r)) h))
    (λ (e : (eqb g.port a.port ≡ false) × (g.port ≢ a.port)).
    subst P (sym e.0) (⊎_elim (λ (y : g ≡ a). absurd (e.1 (ap (λ (r : TakenBy). r.port) y))) (λ r. taken_in out g r) h))
    (eqb_tells g.port a.port)

pub all_by : (t : ℕ) (out : List TakenBy) → AllByRecursion (λ g. g.port ≡ t) out → taken_by t out ≡ map (λ (g : TakenBy). g.sent) out
all_by t [] h = refl
all_by t (g ∷ out) h =
    ⊎_elim
    (λ (e : (eqb t g.port ≡ true) × (t ≡ g.port)). ap (λ c. cond c (g.sent ∷ taken_by t out) (taken_by t out)) e.0 ∙ ap (λ w. g.sent ∷ w) (all_by t out h.1))
    (λ (e : (eqb t g.port ≡ false) × (t ≢ g.port)). absurd (e.1 (sym h.0)))
    (eqb_tells t g.port)
