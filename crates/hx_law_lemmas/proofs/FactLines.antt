-- What follows of a key's line: it is numbered, each update passes its places, and no caller stands twice.
use Rattle.hx_law_lemmas.proofs.Lemmas.Vocabulary.{[], ap, arith, Caller, cond_both, false, inl, inr, is_done, IsIn, IsLine, IsUpdateAfter, leb, line_object}
use Rattle.hx_law_lemmas.proofs.Lemmas.Vocabulary.{List, Script, subst, sym, Update, upto, ℕ, ◌∙◌, ◌∷◌, ◌≡◌}
use Rattle.hx_law_lemmas.proofs.Effects.{effect-done, effect-same}
use Rattle.hx_law_lemmas.proofs.Numbered.{Numbered}
use Rattle.hx_law_lemmas.proofs.Lines.{Sorted, numbered-sorted}
use Rattle.hx_law_lemmas.proofs.Placed.{AllMade, Made}

-- a line is numbered
pub line-numbered : (script : Script) (key : List ℕ) (us : List Update) → IsLine script key us → Numbered us
line-numbered script key [] h = tt
line-numbered script key (u ∷ us) h = (h.0.version, line-numbered script key us h.1)

-- and sorted
pub line-sorted : (script : Script) (key : List ℕ) (us : List Update) → IsLine script key us → Sorted us
line-sorted script key us h = numbered-sorted us (line-numbered script key us h)

-- up to a version it is a line
pub line-upto : (script : Script) (key : List ℕ) (n : ℕ) (us : List Update) → IsLine script key us → IsLine script key (upto n us)
line-upto script key n [] h = tt
line-upto script key n (u ∷ us) h = cond_both (leb u.version.0 n) (u ∷ us) (upto n us) (IsLine script key) (λ t. h) (λ t. line-upto script key n us h.1)

-- each update of the line stands after the older ones
pub update-at : (script : Script) (key : List ℕ) (us : List Update) (w : Update) → IsLine script key us → IsIn w us
    → (older : List Update) × IsUpdateAfter script key older w
update-at script key [] w h i = absurd i
update-at script key (u ∷ us) w h (inl e) = (us, subst (λ (x : Update). IsUpdateAfter script key us x) (sym e) h.0)
update-at script key (u ∷ us) w h (inr i) = update-at script key us w h.1 i

-- an update that doesn't change leaves the object
unchanged : (script : Script) (key : List ℕ) (older : List Update) (u : Update) → IsUpdateAfter script key older u
    → u.changes ≡ false → u.object ≡ line_object older
unchanged script key older u h n = elim h.effect [
  | inl f ↦ f.1 ∙ effect-same script.space (line_object older) h.op (effect-done script.space (line_object older) h.op ∙ ap is_done (sym f.0) ∙ sym h.done ∙ n)
  | inr f ↦ f.1
]

-- so each goes through its places
pub line-made : (script : Script) (key : List ℕ) (us : List Update) → IsLine script key us → AllMade script.space key us
line-made script key [] h = tt
line-made script key (u ∷ us) h = (one h.0, line-made script key us h.1)
  where
    one : IsUpdateAfter script key us u → Made script.space key us u
    one l = record { version = l.version; key_is = l.key_is; done = l.done; same = unchanged script key us u l; places = l.places }

-- a caller stands once in a line
pub caller-once : (script : Script) (key : List ℕ) (us : List Update) → IsLine script key us → (u w : Update)
    → IsIn u us → IsIn w us → u.caller ≡ w.caller → u ≡ w
caller-once script key [] law u w i j e = absurd i
caller-once script key (x ∷ us) law u w (inl p) (inl q) e = p ∙ sym q
caller-once script key (x ∷ us) law u w (inl p) (inr j) e =
    let c : w.caller ≡ x.caller = sym e ∙ ap (λ (y : Update). y.caller) p in
    let l = law.0.newer w j (ap (λ (y : Caller). y.session) c) in
    absurd (omega (arith, l, ap (λ (y : Caller). y.number) c))
caller-once script key (x ∷ us) law u w (inr i) (inl q) e =
    let c : u.caller ≡ x.caller = e ∙ ap (λ (y : Update). y.caller) q in
    let l = law.0.newer u i (ap (λ (y : Caller). y.session) c) in
    absurd (omega (arith, l, ap (λ (y : Caller). y.number) c))
caller-once script key (x ∷ us) law u w (inr i) (inr j) e = caller-once script key us law.1 u w i j e
