-- Calls that stand in the histories of their keys, told by their places.
use Rattle.std.proofs.Common.{◌≡◌, ℕ, ◌⊎◌, inl, inr, Bool, true, false, List, [], ◌∷◌, map, length, Option, None, Some, refl, sym, ap, ◌∙◌, subst}
use Rattle.std.specs.Prelude.{IsSomeAnd, IsTrue, ◌↔◌}
use Rattle.std.specs.List.{find, slice_get}
use Rattle.std.specs.Option.{option_map}
use Rattle.std.proofs.lemmas.Bool.{cond-false, cond-true, false≢true}
use Rattle.hx_model.specs.Types.{Answer, Caller}
use Rattle.hx_types.specs.Effects.{key_of}
use Rattle.hx_types.specs.Fitting.{is_refused}
use Rattle.hx_types.specs.Words.{IsIn, same_text, when_some}
use Rattle.hx_model.specs.Histories.{CallEnd}
use Rattle.hx_model.proofs.Lemmas.{same_text_self}
use Rattle.hx_report_lines.specs.declared.blocks.Block.{Block}
use Rattle.hx_report_lines.specs.declared.calls.CallLine.{CallLine}
use Rattle.hx_report_lines.specs.declared.histories.HistoryLines.{HistoryLines}
use Rattle.hx_report_lines.specs.declared.histories.ItemLine.{ItemLine}
use Rattle.hx_report_lines.specs.Values.{AscendsFrom, caller_below}
use Rattle.hx_audit.specs.Clauses.{HasItem, IsItemOfCall, is_on}
use Rattle.hx_audit.specs.Standing.{AreStanding, EndedAs, IsItemAt, MarksMore, StandsIn}
use Rattle.hx_audit.specs.Told.{answer_told, call_at, end_told, items_at, same_caller}
use Rattle.hx_audit.specs.Walking.{HasIn, IsOrdered, place_at}
use Rattle.hx_audit.proofs.Answered.{item_at_told, item_told_at}
use Rattle.hx_audit.proofs.Callers.{caller_differs, caller_trans, one_caller, same_self}
use Rattle.hx_audit.proofs.Halving.{found_at_place}
use Rattle.hx_audit.proofs.Keys.{one_key}
use Rattle.hx_audit.proofs.Looping.{has_here, has_later, has_none, in_split}
use Rattle.hx_audit.proofs.Seen.{place_found}
use Rattle.hx_audit.proofs.Unique.{found_in, own_items}

-- ---- the call of a caller

above_in : (c : Caller) (calls : List CallLine) → AscendsFrom caller_below (Some c)
    (map (λ (l : CallLine). l.caller) calls) → (l : CallLine) → IsIn l calls → caller_below c l.caller ≡ true
above_in c [] up l i = absurd i
above_in c (x ∷ calls) up l (inl e) = ap (λ (y : CallLine). caller_below c y.caller) e ∙ up.0
above_in c (x ∷ calls) up l (inr i) = caller_trans c x.caller l.caller up.0 (above_in x.caller calls up.1 l i)

-- a call is the one of its caller
pub own_call : (last : Option Caller) (calls : List CallLine)
    → AscendsFrom caller_below last (map (λ (l : CallLine). l.caller) calls) → (l : CallLine) → IsIn l calls
    → call_at calls l.caller ≡ Some l
own_call last [] up l i = absurd i
own_call last (x ∷ calls) up l (inl e) = cond-true (same_caller x.caller l.caller) (Some x) (call_at calls l.caller)
    (same_self x.caller l.caller (ap (λ (y : CallLine). y.caller) (sym e))) ∙ ap Some (sym e)
own_call last (x ∷ calls) up l (inr i) = cond-false (same_caller x.caller l.caller) (Some x) (call_at calls l.caller)
    (caller_differs x.caller l.caller (above_in x.caller calls up.1 l i)) ∙ own_call (Some x.caller) calls up.1 l i

-- what stands where a caller's call does
at_place : (calls : List CallLine) (c : Caller) (place : ℕ) → place_at calls c ≡ Some place → call_at calls c ≡ slice_get calls place
at_place calls c place p = found_at_place (λ (l : CallLine). same_caller l.caller c) calls ∙ ap (λ o. when_some o None (slice_get calls)) p

no_place : (calls : List CallLine) (c : Caller) → place_at calls c ≡ None → call_at calls c ≡ None
no_place calls c p = found_at_place (λ (l : CallLine). same_caller l.caller c) calls ∙ ap (λ o. when_some o None (slice_get calls)) p

some_and : {A : Type 0} (P : A → Type 0) (o : Option A) (x : A) → o ≡ Some x → IsSomeAnd o P → P x
some_and P None x e h = absurd (cc)
some_and P (Some y) x e h = let q : y ≡ x = cc in subst P q h

and_some : {A : Type 0} (P : A → Type 0) (o : Option A) (x : A) → o ≡ Some x → P x → IsSomeAnd o P
and_some P None x e h = absurd (cc)
and_some P (Some y) x e h = let q : x ≡ y = cc in subst P q h

module _ (b : Block) (up : IsOrdered b) (l : CallLine) (i : IsIn l b.calls) (key : List ℕ) (answer : Answer)
    (k : key_of l.op ≡ Some key) (a : option_map (λ (e : CallEnd). e.answer) (end_told l) ≡ Some answer) where
  own : call_at b.calls l.caller ≡ Some l
  own = own_call None b.calls up.calls l i

  -- whose place isn't found hasn't the call
  pub place_is : place_at b.calls l.caller ≡ None → ⊥
  place_is p = let z : None ≡ Some l = sym (no_place b.calls l.caller p) ∙ own in cc

  module _ (place : ℕ) (p : place_at b.calls l.caller ≡ Some place) where
    here : slice_get b.calls place ≡ Some l
    here = sym (at_place b.calls l.caller place p) ∙ own

    -- who has this place is this caller
    same_place : (c : Caller) → place_at b.calls c ≡ Some place → c ≡ l.caller
    same_place c q =
        let f = place_found (λ (m : CallLine). same_caller m.caller c) b.calls place q in
        let z : Some f.0 ≡ Some l = sym f.1 ∙ here in
        let same : f.0 ≡ l = cc in
        sym (one_caller f.0.caller c f.2) ∙ ap (λ (m : CallLine). m.caller) same

    pub standing_told : StandsIn b.calls b.histories place → IsItemOfCall b key l.caller answer
    standing_told h =
        let x = h.is.item in
        let ended = some_and (λ (m : CallLine). (is_on h.item.key m.op ≡ true) × EndedAs m x) (slice_get b.calls place) l here h.is.is.1 in
        let one : key ≡ h.item.key = one_key key h.item.key (sym (ap (λ o. when_some o false (λ j. same_text j h.item.key)) k) ∙ ended.0) in
        let z : Some answer ≡ Some (answer_told x.word x.object) = sym a ∙ ended.1 in
        record {
          item = x;
          stands = subst (IsIn x) (sym (ap (items_at b.histories) one ∙ own_items b.histories up.histories h.item h.stands)) h.is.stands;
          of_caller = same_place x.caller h.is.is.0;
          answered = (let same : answer_told x.word x.object ≡ answer = cc in same);
        }

    pub told_standing : IsItemOfCall b key l.caller answer → StandsIn b.calls b.histories place
    told_standing t = by (find (λ (h : HistoryLines). same_text h.key key) b.histories) refl t.stands
      where
        by : (o : Option HistoryLines) → find (λ (h : HistoryLines). same_text h.key key) b.histories ≡ o
            → IsIn t.item (when_some o [] (λ (h : HistoryLines). h.items)) → StandsIn b.calls b.histories place
        by None q j = absurd j
        by (Some h) q j =
            let f = found_in (λ (g : HistoryLines). same_text g.key key) b.histories h q in
            let one = one_key h.key key f.1 in
            let on : is_on h.key l.op ≡ true = ap (λ o. when_some o false (λ m. same_text m h.key)) k ∙ ap (same_text key) one ∙ same_text_self key in
            record {
              item = h;
              stands = f.0;
              is = record {
                item = t.item;
                stands = j;
                is = (
                  ap (place_at b.calls) t.of_caller ∙ p,
                  and_some (λ (m : CallLine). (is_on h.key m.op ≡ true) × EndedAs m t.item) (slice_get b.calls place) l here (on, a ∙ ap Some (sym t.answered)),
                );
              };
            }

    pub marked_is : (marked : ℕ → Bool) → (IsTrue (marked place) ↔ StandsIn b.calls b.histories place)
        → IsTrue (marked place) ↔ IsItemOfCall b key l.caller answer
    marked_is marked h = (λ t. standing_told (h.0 t), λ t. h.1 (told_standing t))

-- ---- loops that mark

-- the place is marked, or P holds of it and of something that is left
abbrev pub IsMarked : {A : Type 0} → (ℕ → Bool) → (ℕ → A → Type 0) → List A → ℕ → Type 0
IsMarked now P rest place = IsTrue (now place) ⊎ HasIn (P place) rest

module _ {A : Type 0} (P : ℕ → A → Type 0) (old : ℕ → Bool) (all : List A) where
  -- one more is marked
  pub marks_one : (now new : ℕ → Bool) (x : A) (rest others : List A) → rest ≡ x ∷ others → MarksMore now new (λ place. P place x)
      → ((place : ℕ) → IsMarked now P rest place ↔ IsMarked old P all place) → (place : ℕ) → IsMarked new P others place ↔ IsMarked old P all place
  marks_one now new x rest others e more had place = (into, λ h. back ((had place).1 h))
    where
      into : IsMarked new P others place → IsMarked old P all place
      into (inr h) = (had place).0 (inr (has_later (P place) x rest others e h))
      into (inl t) = elim ((more place).0 t) [ inl s ↦ (had place).0 (inl s) | inr p ↦ (had place).0 (inr (has_here (P place) x rest others e p)) ]

      back : IsMarked now P rest place → IsMarked new P others place
      back (inl t) = inl ((more place).1 (inl t))
      back (inr h) = elim (in_split h.item x rest others e h.stands) [
        | inl q ↦ inl ((more place).1 (inr (subst (P place) q h.is)))
        | inr i ↦ inr (record { item = h.item; stands = i; is = h.is })
      ]

  -- nothing is left
  pub marks_all : (now : ℕ → Bool) (rest : List A) → length rest ≡ 0
      → ((place : ℕ) → IsMarked now P rest place ↔ IsMarked old P all place) → MarksMore old now (λ place. HasIn (P place) all)
  marks_all now rest e had place = ((λ t. (had place).0 (inl t)), λ h. elim ((had place).1 h) [ inl t ↦ t | inr r ↦ absurd (has_none (P place) rest e r) ])

-- where nothing was marked before, what is marked is what P holds of
pub marks_only : {A : Type 0} (P : ℕ → A → Type 0) (now : ℕ → Bool) (all rest : List A) → length rest ≡ 0
    → ((place : ℕ) → IsMarked now P rest place ↔ IsMarked (λ p. false) P all place) → (place : ℕ)
    → IsTrue (now place) ↔ HasIn (P place) all
marks_only P now all rest e had place =
    let m = marks_all P (λ p. false) all now rest e had place in
    ((λ t. elim (m.0 t) [ inl f ↦ absurd (false≢true f) | inr h ↦ h ]), λ h. m.1 (inr h))

-- a call that ended and wasn't refused has its item exactly where it is marked
pub has_item_is : (b : Block) (up : IsOrdered b) (l : CallLine) (i : IsIn l b.calls) (key : List ℕ) (answer : Answer)
    (k : key_of l.op ≡ Some key) (a : option_map (λ (e : CallEnd). e.answer) (end_told l) ≡ Some answer)
    → is_refused answer ≡ false → (marked : ℕ → Bool) → AreStanding b marked → (calls : List CallLine)
    → calls ≡ b.calls → (r : Bool) → r ≡ when_some (place_at calls l.caller) false marked → IsTrue r ↔ HasItem b l
has_item_is b up l i key answer k a apart marked all calls same r e =
    by (place_at b.calls l.caller) refl (e ∙ ap (λ cs. when_some (place_at cs l.caller) false marked) same)
  where
    by : (o : Option ℕ) → place_at b.calls l.caller ≡ o → r ≡ when_some (place_at b.calls l.caller) false marked → IsTrue r ↔ HasItem b l
    by None p q = absurd (place_is b up l i key answer k a p)
    by (Some place) p q =
        let is : r ≡ marked place = q ∙ ap (λ o. when_some o false marked) p in
        let m = marked_is b up l i key answer k a place p marked (all place) in
        ((λ t. item_told_at b l key answer k a (λ s. m.0 (sym is ∙ t))), λ h. is ∙ m.1 (item_at_told b l key answer k a h apart))

-- of equal lists
pub marks_same : (old new : ℕ → Bool) (calls : List CallLine) (key : List ℕ) (items others : List ItemLine) → items ≡ others
    → MarksMore old new (λ place. HasIn (IsItemAt calls key place) items) → MarksMore old new (λ place. HasIn (IsItemAt calls key place) others)
marks_same old new calls key items others e h = subst (λ (xs : List ItemLine). MarksMore old new (λ place. HasIn (IsItemAt calls key place) xs)) e h
