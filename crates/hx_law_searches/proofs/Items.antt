-- Where the items of a key's history stand, and that calls begin once.
use Rattle.hx_law_lemmas.proofs.Lemmas.Vocabulary.{[], Answer, arith, began_before, begin_of, call_of, Caller, Entry, Facts, false, false≢true, gets_of}
use Rattle.hx_law_lemmas.proofs.Lemmas.Vocabulary.{history_of, history_on, inl, inr, is_done, is_refused, IsIn, IsRun, IsSome, line_of, List, lt-ltb, ltb, None}
use Rattle.hx_law_lemmas.proofs.Lemmas.Vocabulary.{not_refused, Op, Option, refl, Script, Session, Some, subst, sym, true, Update, when_some, write_item, ℕ}
use Rattle.hx_law_lemmas.proofs.Lemmas.Vocabulary.{◌++◌, ◌<◌, ◌∙◌, ◌∷◌, ◌≡◌}
use Rattle.hx_types.specs.declared.calls.Answer.TheVariants as an_answer
use Rattle.hx_law_lemmas.proofs.Lemmas.{in_left, in_right, BeganAt, began_at, begin_is, begins_now}
use Rattle.hx_types.specs.declared.traces.Note.TheVariants as a_note
use Rattle.hx_law_searches.proofs.CallsKept.{calls_kept, turn_is}
use Rattle.hx_law_searches.proofs.Histories.{write_of}
use Rattle.hx_law_searches.proofs.Writes.{in-not_refused}

-- what is done isn't refused
pub done-stands : (a : Answer) → is_done a ≡ true → is_refused a ≡ false
done-stands an_answer.Done e = refl
done-stands other e = absurd (false≢true e)

-- a write of the script is an item of the history
write-there : (script : Script) (key : List ℕ) (whole : List Entry) (high : Option ℕ) (us : List Update) (u : Update)
    (op : Op) → IsIn u us → call_of script u.caller ≡ Some op → IsIn (write_of u op) (history_on script key whole high us)
write-there script key whole high [] u op i e = absurd i
write-there script key whole high (w ∷ us) u op (inl q) e =
    in_left (gets_of script key w.version.0 high w.object whole ++ write_item script w) (history_on script key whole (Some w.version.0) us) (write_of u op)
    (in_right (gets_of script key w.version.0 high w.object whole) (write_item script w) (write_of u op)
    (subst (λ (x : Update). IsIn (write_of u op) (write_item script x)) q
    (subst (λ (o : Option Op). IsIn (write_of u op) (when_some o [] (λ (y : Op). write_of u y ∷ []))) (sym e) (inl refl))))
write-there script key whole high (w ∷ us) u op (inr i) e =
    in_right (gets_of script key w.version.0 high w.object whole ++ write_item script w)
    (history_on script key whole (Some w.version.0) us) (write_of u op)
    (write-there script key whole (Some w.version.0) us u op i e)

-- so is each update of the line that wasn't refused
pub item-there : (script : Script) (key : List ℕ) (whole : List Entry) (u : Update) (op : Op)
    → IsIn u (line_of key whole) → is_refused u.answer ≡ false → call_of script u.caller ≡ Some op
    → IsIn (write_of u op) (history_of script key whole)
item-there script key whole u op i well e = write-there script key whole None (not_refused (line_of key whole)) u op
    (in-not_refused (line_of key whole) u i well) e

module _ (script : Script) (facts : Facts script) where
  -- a call that has begun doesn't begin again
  pub not-again : (older : List Entry) (x : Entry) → IsRun script (x ∷ older) → (c : Caller) (n : ℕ)
      → BeganAt older c n → x.actor ≡ Session c.session → IsIn (a_note.Began c.number) x.notes → ⊥
  not-again older x run c n b acts i =
      let now = begins_now _ _ _ (turn_is script older x c.session run.0 acts) c.number i in
      let low = (calls_kept script facts older run.1).began_low c n b in
      omega (arith, now.0, low.0)

  -- a call begins once
  pub began-unique : (t : List Entry) → IsRun script t → (c : Caller) (m n : ℕ) → BeganAt t c m → BeganAt t c n → m ≡ n
  began-unique [] run c m n h g = absurd h
  began-unique (x ∷ older) run c m n (inl h) (inl g) = h.2 ∙ sym g.2
  began-unique (x ∷ older) run c m n (inl h) (inr g) = absurd (not-again older x run c n g h.0 h.1)
  began-unique (x ∷ older) run c m n (inr h) (inl g) = absurd (not-again older x run c m h g.0 g.1)
  began-unique (x ∷ older) run c m n (inr h) (inr g) = began-unique older run.1 c m n h g

  -- a call that began at an earlier entry began before
  pub began-before : (t : List Entry) → IsRun script t → (c : Caller) (m n : ℕ) → BeganAt t c m → m < n → began_before t c n ≡ true
  began-before t run c m n b l = by (begin_of c t) refl (begin_is c t m b)
    where
      by : (o : Option ℕ) → begin_of c t ≡ o → IsSome o → when_some o false (λ k. ltb k n) ≡ true
      by None e s = absurd (cc)
      by (Some k) e s = let q = began-unique t run c k m (began_at c t k e) b in lt-ltb k n (omega (arith, q, l))
