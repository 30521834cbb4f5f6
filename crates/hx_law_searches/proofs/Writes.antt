-- A key's line without what was refused: each update is the effect of its write on the object after those before it, and objects after versions stay.
use Rattle.hx_law_lemmas.proofs.Lemmas.Vocabulary.{[], ap, arith, Bool, call_of, cond_both, effect_of, false, false≢true, inl, inr, is_refused, is_write, IsIn}
use Rattle.hx_law_lemmas.proofs.Lemmas.Vocabulary.{IsLine, IsUpdateAfter, key_of, leb, leb-false, leb-true, line_object, List, not, not_refused, Op, refl}
use Rattle.hx_law_lemmas.proofs.Lemmas.Vocabulary.{Script, Some, sym, true, Update, upto, ℕ, ◌<◌, ◌∙◌, ◌∷◌, ◌≡◌, ◌≤◌}
use Rattle.hx_law_lemmas.proofs.Lemmas.{in-filter, effect_well, numbered-within as in-below, upto_past, Sorted, numbered-sorted, top-least, upto_all}
use Rattle.hx_law_lemmas.proofs.Lemmas.{line-numbered, line-upto}

-- an update that wasn't refused, after the older ones that weren't
pub record Write (script : Script) (key : List ℕ) (us : List Update) (u : Update) : Type 0 where
  pub op : Op
  pub called : call_of script u.caller ≡ Some op
  pub writes : is_write op ≡ true
  pub on_key : key_of op ≡ Some key
  pub answer : u.answer ≡ (effect_of script.space (line_object us) op).answer
  pub object : u.object ≡ (effect_of script.space (line_object us) op).object
  pub above : (w : Update) → IsIn w us → w.version.0 < u.version.0
  pub newer : (w : Update) → IsIn w us → w.caller.session ≡ u.caller.session → w.caller.number < u.caller.number

-- each of these is such
abbrev pub Writes : Script → List ℕ → List Update → Type 0
Writes script key [] = Unit {0}
Writes script key (u ∷ us) = Write script key us u × Writes script key us

-- what wasn't refused
pub in-not_refused : (us : List Update) (u : Update) → IsIn u us → is_refused u.answer ≡ false → IsIn u (not_refused us)
in-not_refused [] u i e = absurd i
in-not_refused (x ∷ us) u i e =
    cond_both (not (is_refused x.answer)) (x ∷ not_refused us) (not_refused us) (λ l. IsIn u l)
    (λ t. elim i [ inl q ↦ inl q | inr j ↦ inr (in-not_refused us u j e) ])
    (λ t. elim i [ inl q ↦ absurd (false≢true (sym t ∙ ap (λ (y : Update). not (is_refused y.answer)) (sym q) ∙ ap not e)) | inr j ↦ in-not_refused us u j e ])

-- and it stands in the line
pub not_refused-in : (us : List Update) (u : Update) → IsIn u (not_refused us) → IsIn u us × (is_refused u.answer ≡ false)
not_refused-in us u i = let r = in-filter (λ (y : Update). not (is_refused y.answer)) us u i in (r.0, by (is_refused u.answer) r.1)
  where
    by : (b : Bool) → not b ≡ true → b ≡ false
    by true e = absurd (false≢true e)
    by false e = refl

-- what was refused leaves the object
pub object-not_refused : (script : Script) (key : List ℕ) (us : List Update) → IsLine script key us → line_object (not_refused us) ≡ line_object us
object-not_refused script key [] h = refl
object-not_refused script key (u ∷ us) h =
    cond_both (not (is_refused u.answer)) (u ∷ not_refused us) (not_refused us) (λ l. line_object l ≡ u.object)
    (λ t. refl)
    (λ t. object-not_refused script key us h.1 ∙ sym (same h.0 (refused (is_refused u.answer) t)))
  where
    refused : (b : Bool) → not b ≡ false → b ≡ true
    refused true e = refl
    refused false e = absurd (false≢true (sym e))

    same : IsUpdateAfter script key us u → is_refused u.answer ≡ true → u.object ≡ line_object us
    same l e = elim l.effect [
      | inl f ↦ absurd (false≢true (sym (effect_well script.space (line_object us) l.op) ∙ ap is_refused (sym f.0) ∙ e))
      | inr f ↦ f.1
    ]

-- each is the effect of its write
pub writes : (script : Script) (key : List ℕ) (us : List Update) → IsLine script key us → Writes script key (not_refused us)
writes script key [] h = tt
writes script key (u ∷ us) h =
    cond_both (not (is_refused u.answer)) (u ∷ not_refused us) (not_refused us) (Writes script key)
    (λ t. (one h.0 (well (is_refused u.answer) t), writes script key us h.1))
    (λ t. writes script key us h.1)
  where
    well : (b : Bool) → not b ≡ true → b ≡ false
    well true e = absurd (false≢true e)
    well false e = refl

    one : IsUpdateAfter script key us u → is_refused u.answer ≡ false → Write script key (not_refused us) u
    one l e = elim l.effect [
      | inr f ↦ absurd (false≢true (sym e ∙ f.0))
      | inl f ↦ (let o = object-not_refused script key us h.1 in record {
        op = l.op;
        called = l.called;
        writes = l.writes;
        on_key = l.on_key;
        answer = f.0 ∙ ap (λ x. (effect_of script.space x l.op).answer) (sym o);
        object = f.1 ∙ ap (λ x. (effect_of script.space x l.op).object) (sym o);
        above = λ w i. (let b = (in-below us w (line-numbered script key us h.1) (not_refused-in us w i).0).1 in let v = l.version in omega (arith, b, v));
        newer = λ w i. l.newer w (not_refused-in us w i).0;
      })
    ]

-- it is sorted
pub not_refused-sorted : (us : List Update) → Sorted us → Sorted (not_refused us)
not_refused-sorted [] h = h
not_refused-sorted (u ∷ us) h =
    cond_both (not (is_refused u.answer)) (u ∷ not_refused us) (not_refused us) Sorted
    (λ t. ((λ w i. h.0 w (not_refused-in us w i).0), h.1, not_refused-sorted us h.2))
    (λ t. not_refused-sorted us h.2)

-- up to a version
not_refused-upto : (v : ℕ) (us : List Update) → Sorted us → upto v (not_refused us) ≡ not_refused (upto v us)
not_refused-upto v [] h = refl
not_refused-upto v (u ∷ us) h =
    cond_both (leb u.version.0 v) (u ∷ us) (upto v us) (λ l. upto v (not_refused (u ∷ us)) ≡ not_refused l)
    (λ t. upto_all (not_refused (u ∷ us)) v (top-least (not_refused (u ∷ us)) v (λ x i. low x (not_refused-in (u ∷ us) x i).0 (leb-true u.version.0 v t))))
    (λ t. cond_both (not (is_refused u.answer)) (u ∷ not_refused us) (not_refused us) (λ l. upto v l ≡ not_refused (upto v us))
    (λ q. upto_past v u (not_refused us) (leb-false u.version.0 v t) ∙ not_refused-upto v us h.2)
    (λ q. not_refused-upto v us h.2))
  where
    low : (x : Update) → IsIn x (u ∷ us) → u.version.0 ≤ v → x.version.0 ≤ v
    low x (inl e) b = let s : x.version.0 ≡ u.version.0 = ap (λ (y : Update). y.version.0) e in omega (arith, s, b)
    low x (inr i) b = let a = h.0 x i in omega (arith, a, b)

-- the object after a version is that after the updates up to it that weren't refused
pub object-after : (script : Script) (key : List ℕ) (us : List Update) → IsLine script key us → (v : ℕ)
    → line_object (upto v us) ≡ line_object (upto v (not_refused us))
object-after script key us h v =
    sym (object-not_refused script key (upto v us) (line-upto script key v us h))
    ∙ ap line_object (sym (not_refused-upto v us (numbered-sorted us (line-numbered script key us h))))
