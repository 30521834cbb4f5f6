-- Which items are known, told by the places of their callers' calls.
use Rattle.std.proofs.Common.{◌≡◌, ℕ, suc, ◌+◌, ◌<◌, Bool, true, false, not, ◌&&◌, ◌||◌, List, [], ◌∷◌, cond, eqb, ltb}
use Rattle.std.proofs.Common.{length, get_or, take, Option, None, Some, refl, sym, ap, ◌∙◌, subst, arith}
use Rattle.std.specs.List.{list_any, slice_get}
use Rattle.std.specs.Option.{option_map}
use Rattle.std.proofs.lemmas.Bool.{eq-eqb, eqb-true, false_from_ne_true, false≢true, ltb-true}
use Rattle.hx_model.specs.Types.{Caller}
use Rattle.hx_types.specs.Words.{when_some}
use Rattle.hx_report_lines.specs.declared.calls.CallLine.{CallLine}
use Rattle.hx_report_lines.specs.declared.histories.ItemLine.{ItemLine}
use Rattle.hx_audit.specs.Clauses.{is_known, is_on, is_refused_call}
use Rattle.hx_audit.specs.Told.{call_at, same_caller}
use Rattle.hx_audit.specs.Walking.{place_at, place_where}
use Rattle.hx_audit.proofs.Callers.{one_caller, same_self}
use Rattle.std.specs.declared.cmp.Ordering.TheVariants.{Less, Equal, Greater}
use Rattle.std.specs.Ordering.{is_eq, nat_cmp}
use Rattle.hx_audit.proofs.Firsts.{any_more, or_none}
use Rattle.hx_audit.proofs.Halving.{found_at_place}

-- what stands at the place passes the test
pub place_found : {A : Type 0} (test : A → Bool) (xs : List A) (p : ℕ) → place_where test xs ≡ Some p → (x : A) × (slice_get xs p ≡ Some x) × (test x ≡ true)
place_found test [] p e = absurd (cc)
place_found {A} test (x ∷ xs) p e = by (place_found test xs) (place_where test xs) refl (test x) refl e
  where
    by : ((n : ℕ) → place_where test xs ≡ Some n → (y : A) × (slice_get xs n ≡ Some y) × (test y ≡ true))
        → (o : Option ℕ) → place_where test xs ≡ o → (b : Bool) → test x ≡ b
        → cond b (Some 0) (option_map (λ n. suc n) o) ≡ Some p → (y : A) × (slice_get (x ∷ xs) p ≡ Some y) × (test y ≡ true)
    by ih o q true t e = let z : 0 ≡ p = cc in subst (λ n. (y : A) × (slice_get (x ∷ xs) n ≡ Some y) × (test y ≡ true)) z (x, refl, t)
    by ih None q false t e = absurd (cc)
    by ih (Some n) q false t e = let z : suc n ≡ p = cc in subst (λ n. (y : A) × (slice_get (x ∷ xs) n ≡ Some y) × (test y ≡ true)) z (ih n q)

abbrev pub is_place : ℕ → Option ℕ → Bool
is_place q o = when_some o false (λ n. eqb n q)

-- two callers have one call where they are one
pub same_place : (calls : List CallLine) (x y : Caller) (p : ℕ) → place_at calls x ≡ Some p → is_place p (place_at calls y) ≡ same_caller y x
same_place calls x y p e = by (same_caller y x) refl (place_at calls y) refl
  where
    apart : (n : ℕ) → place_at calls y ≡ Some n → n ≡ p → y ≡ x
    apart n q z =
        let f = place_found (λ (l : CallLine). same_caller l.caller y) calls n q in
        let g = place_found (λ (l : CallLine). same_caller l.caller x) calls p e in
        let one : Some f.0 ≡ Some g.0 = sym f.1 ∙ ap (slice_get calls) z ∙ g.1 in
        let same : f.0 ≡ g.0 = cc in
        sym (one_caller f.0.caller y f.2) ∙ ap (λ (l : CallLine). l.caller) same ∙ one_caller g.0.caller x g.2

    by : (b : Bool) → same_caller y x ≡ b → (o : Option ℕ) → place_at calls y ≡ o → is_place p o ≡ b
    by true s None q = let z : place_at calls y ≡ Some p = ap (place_at calls) (one_caller y x s) ∙ e in absurd (cc)
    by true s (Some n) q = let z : place_at calls y ≡ Some p = ap (place_at calls) (one_caller y x s) ∙ e in let w : n ≡ p = cc in eq-eqb n p w
    by false s None q = refl
    by false s (Some n) q = false_from_ne_true (eqb n p) (λ t. false≢true (sym s ∙ same_self y x (apart n q (eqb-true n p t))))

-- the callers of these items are this one's, where their calls are
pub same_places : (calls : List CallLine) (x : Caller) (p : ℕ) → place_at calls x ≡ Some p → (above : List ItemLine)
    → list_any (λ (y : ItemLine). is_place p (place_at calls y.caller)) above
    ≡ list_any (λ (y : ItemLine). same_caller y.caller x) above
same_places calls x p e above = λ i. list_any (λ (y : ItemLine). same_place calls x y.caller p e i) above

-- an item of no call isn't known
pub unknown : (calls : List CallLine) (key : List ℕ) (above : List ItemLine) (x : ItemLine)
    → place_at calls x.caller ≡ None → is_known calls key above x ≡ false
unknown calls key above x e =
    let none : call_at calls x.caller ≡ None = found_at_place (λ (l : CallLine). same_caller l.caller x.caller) calls
    ∙ ap (λ o. when_some o None (slice_get calls)) e in
    ap (λ o. when_some o false (λ (l : CallLine). is_on key l.op && not (is_refused_call l))
    && not (list_any (λ (y : ItemLine). same_caller y.caller x.caller) above)) none

-- whether an item is known, by its call's place
pub known_by_place : (calls : List CallLine) (key : List ℕ) (above : List ItemLine) (x : ItemLine) (p : ℕ)
    (called seen : Bool) → place_at calls x.caller ≡ Some p
    → when_some (slice_get calls p) false (λ (l : CallLine). is_on key l.op && not (is_refused_call l)) ≡ called
    → list_any (λ (y : ItemLine). is_place p (place_at calls y.caller)) above ≡ seen
    → is_known calls key above x ≡ (called && not seen)
known_by_place calls key above x p called seen e is any =
    let found : call_at calls x.caller ≡ slice_get calls p =
    found_at_place (λ (l : CallLine). same_caller l.caller x.caller) calls ∙ ap (λ o. when_some o None (slice_get calls)) e in
    let first : when_some (call_at calls x.caller) false (λ (l : CallLine). is_on key l.op && not (is_refused_call l)) ≡ called =
    ap (λ o. when_some o false (λ (l : CallLine). is_on key l.op && not (is_refused_call l))) found ∙ is in
    λ i. first i && not ((sym (same_places calls x.caller p e above) ∙ any) i)

-- a set of numbers after one was put into it
put_in : (less equal old : Bool) → (less ≡ true → equal ≡ false) → cond (is_eq (cond less Less (cond equal Equal Greater))) true old ≡ (old || equal)
put_in true equal old h = or_none old ∙ ap (λ b. old || b) (sym (h refl))
put_in false false old h = or_none old
put_in false true true h = refl
put_in false true false h = refl

-- the places of one more item's callers
pub more_seen : (calls : List CallLine) (items : List ItemLine) (i : ℕ) (x : ItemLine) → i < length items
    → x ≡ get_or items i x → (p : ℕ) → place_at calls x.caller ≡ Some p → (q : ℕ) (old new : Bool)
    → old ≡ list_any (λ (y : ItemLine). is_place q (place_at calls y.caller)) (take i items)
    → new ≡ cond (is_eq (nat_cmp p q)) true old
    → new ≡ list_any (λ (y : ItemLine). is_place q (place_at calls y.caller)) (take (i + 1) items)
more_seen calls items i x l is p e q old new before put =
    put
    ∙ put_in (ltb p q) (eqb p q) old (λ t. false_from_ne_true (eqb p q) (λ s. let a = ltb-true p q t in let b = eqb-true p q s in omega (arith, a, b)))
    ∙ (λ i. before i || is_place q (sym e i))
    ∙ sym (any_more (λ (y : ItemLine). is_place q (place_at calls y.caller)) items i x l is)
