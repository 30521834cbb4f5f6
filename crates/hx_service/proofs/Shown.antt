-- The rows of a finished search are of the space: each is a change that stands in its key's history.
use Rattle.std.proofs.Common.{◌≡◌, ℕ, zero, suc, inl, inr, List, [], ◌∷◌, Some, refl, sym, ap, subst}
use Rattle.std.specs.List.{All}
use Rattle.hx_types.specs.declared.calls.Answer.TheVariants as an_answer
use Rattle.hx_model.specs.Types.{Caller, Entry, Item, Op, Row, Script, Search, Space, Term}
use Rattle.hx_types.specs.Fitting.{IsScript, call_of, numbered}
use Rattle.hx_types.specs.Spaces.{Fits, IsMaybeObjectOf, IsRowOf}
use Rattle.hx_types.specs.Words.{IsIn}
use Rattle.hx_model.specs.Histories.{history_of}
use Rattle.hx_model.specs.Legal.{IsLegal, object_now}
use Rattle.hx_model.specs.Searching.{FinishedSearch, IsTrueRow, ItemWithNewer, items_with_newer, search_of}
use Rattle.hx_law_lemmas.proofs.Lemmas.{all-in, in-slice_get, when_some_both, effect-sound, fits-key, all-of}
use Rattle.hx_service.specs.declared.receipts.Receipt.{Receipt}
use Rattle.hx_service.specs.Lawful.{IsLawful}
use Rattle.hx_service.specs.Receipts.{IsReceiptOf}

-- an item with those that stand after it is one of the list
cut-in : (newer items : List Item) (c : ItemWithNewer) → IsIn c (items_with_newer newer items) → IsIn c.item items
cut-in newer [] c i = absurd i
cut-in newer (x ∷ older) c (inl e) = inl (ap (λ (d : ItemWithNewer). d.item) e)
cut-in newer (x ∷ older) c (inr i) = inr (cut-in (x ∷ newer) older c i)

-- the object after items whose operations fit is of the space
object-after : (space : Space) (items : List Item) → IsLegal space items
    → ((x : Item) → IsIn x items → Fits space x.op) → IsMaybeObjectOf space (object_now items)
object-after space [] legal fit = tt
object-after space (x ∷ older) legal fit =
    subst (IsMaybeObjectOf space) (sym legal.0.object)
    (effect-sound space (object_now older) x.op (object-after space older legal.1 (λ y i. fit y (inr i))) (fit x (inl refl))).0

-- and so is the object of each item
object-of : (space : Space) (items : List Item) → IsLegal space items → ((x : Item) → IsIn x items → Fits space x.op)
    → (x : Item) → IsIn x items → IsMaybeObjectOf space x.object
object-of space [] legal fit x i = absurd i
object-of space (y ∷ older) legal fit x (inl e) = subst (λ (z : Item). IsMaybeObjectOf space z.object) (sym e) (object-after space (y ∷ older) legal fit)
object-of space (y ∷ older) legal fit x (inr i) = object-of space older legal.1 (λ z j. fit z (inr j)) x i

-- each call of a script fits its space
call-fits : (script : Script) → IsScript script → (c : Caller) (op : Op) → call_of script c ≡ Some op → Fits script.space op
call-fits script valid c op =
    when_some_both (numbered script.sessions c.session.0) [] (λ (calls : List Op). calls)
    (λ (calls : List Op). numbered calls c.number ≡ Some op → Fits script.space op)
    (λ e. none c.number)
    (λ (calls : List Op) e f. all-in (Fits script.space) calls op
    (all-in (λ (cs : List Op). All (Fits script.space) cs) script.sessions calls valid.calls
    (numbered-in script.sessions c.session.0 calls e)) (numbered-in calls c.number op f))
  where
    none : (n : ℕ) → numbered [] n ≡ Some op → Fits script.space op
    none zero f = absurd (cc)
    none (suc k) f = absurd (cc)

    numbered-in : {A : Type 0} (xs : List A) (n : ℕ) (x : A) → numbered xs n ≡ Some x → IsIn x xs
    numbered-in xs zero x e = absurd (cc)
    numbered-in xs (suc k) x e = in-slice_get xs k x e

module _ (script : Script) (valid : IsScript script) (trace : List Entry) (lawful : IsLawful script trace) where
  -- a row that is true is of the space
  row-fits : (s : FinishedSearch) (r : Row) → IsTrueRow script trace s r → IsRowOf script.space r
  row-fits s r t =
      let linear = lawful.linear r.key in
      let fit : (x : Item) → IsIn x (history_of script r.key trace) → Fits script.space x.op =
      λ x i. call-fits script valid x.caller x.op (linear.honest.calls x i).called in
      let i = cut-in [] (history_of script r.key trace) t.cut t.stands in
      record {
        key = fits-key script.space t.cut.item.op r.key (fit t.cut.item i) (linear.honest.calls t.cut.item i).on_key;
        object = subst (IsMaybeObjectOf script.space) t.object (object-of script.space (history_of script r.key trace) linear.legal fit t.cut.item i);
      }

  -- a search that was answered with rows is finished
  finished : (terms : List Term) (rows : List Row) (r : Receipt) → call_of script r.caller ≡ Some (Search terms)
      → IsReceiptOf trace r → r.answer ≡ an_answer.Rows rows
      → search_of script trace r.caller ≡ Some (record { terms = terms; begin = r.begin; end = r.end; rows = rows })
  finished terms rows r called receipt answer = rw called (rw receipt.began (rw receipt.ended (rw answer refl)))

  -- its rows are of the space
  pub rows-fit : (terms : List Term) (rows : List Row) (r : Receipt) → call_of script r.caller ≡ Some (Search terms)
      → IsReceiptOf trace r → r.answer ≡ an_answer.Rows rows
      → All (IsRowOf script.space) rows
  rows-fit terms rows r called receipt answer =
      let s : FinishedSearch = record { terms = terms; begin = r.begin; end = r.end; rows = rows } in
      let well = lawful.searches r.caller s (finished terms rows r called receipt answer) in
      all-of (IsRowOf script.space) rows (λ x i. row-fits s x (well.true_rows.rows x i))
