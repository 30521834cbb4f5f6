-- Changes of a key's line as items of its history.
use Rattle.hx_law_lemmas.proofs.Lemmas.Vocabulary.{and_from, and_parts, ap, changes_object, Entry, Facts, history_of, is_done, is_write, IsIn, IsRun, Item}
use Rattle.hx_law_lemmas.proofs.Lemmas.Vocabulary.{line_of, List, Op, Script, sym, true, Update, ℕ, ◌∙◌, ◌≡◌}
use Rattle.hx_law_lemmas.proofs.Lemmas.{Sorted, AllMade, line-made, line-sorted, update-at}
use Rattle.hx_law_searches.proofs.Histories.{write_of}
use Rattle.hx_law_searches.proofs.Items.{done-stands, item-there}
use Rattle.hx_law_searches.proofs.Orders.{Wrote, item-wrote}

module _ (script : Script) (facts : Facts script) (t : List Entry) (run : IsRun script t) (key : List ℕ) where
  -- the key's line goes through its places
  pub made : AllMade script.space key (line_of key t)
  made = line-made script key (line_of key t) (facts.lines t run key)

  -- and is sorted
  pub sorted : Sorted (line_of key t)
  sorted = line-sorted script key (line_of key t) (facts.lines t run key)

  -- a change of the line is an item of the history that changes
  pub record IsItem (u : Update) : Type 0 where
    pub op : Op
    pub writes : is_write op ≡ true
    pub stands : IsIn (write_of u op) (history_of script key t)
    pub changes : changes_object (write_of u op) ≡ true

  -- so is each
  pub change-item : (u : Update) → IsIn u (line_of key t) → u.changes ≡ true → IsItem u
  change-item u i c =
      let l = (update-at script key (line_of key t) u (facts.lines t run key) i).1 in
      let done = sym l.done ∙ c in
      record {
        op = l.op;
        writes = l.writes;
        stands = item-there script key t u l.op i (done-stands u.answer done) l.called;
        changes = and_from (is_write l.op) (is_done u.answer) l.writes done;
      }

  -- an item that changes is that of a change of the line
  pub item-change : (x : Item) → IsIn x (history_of script key t) → changes_object x ≡ true
      → (w : Wrote script key t (line_of key t) x) × (w.update.changes ≡ true)
  item-change x i c =
      let p = and_parts (is_write x.op) (is_done x.answer) c in
      let w = item-wrote script facts t run key x i p.0 in
      (w, (update-at script key (line_of key t) w.update (facts.lines t run key) w.stands).1.done ∙ ap (λ (y : Item). is_done y.answer) (sym w.is) ∙ p.1)
