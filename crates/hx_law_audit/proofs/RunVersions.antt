-- Versions in the histories of a run are at most the number of entries plus 1.
use Rattle.hx_law_lemmas.proofs.Lemmas.Vocabulary.{[], Actor, Answer, ap, arith, Bool, call_of, Caller, cond_both, Coordinator, coordinator_of, Entry, false}
use Rattle.hx_law_lemmas.proofs.Lemmas.Vocabulary.{get_item, get_items, gets_of, history_of, history_on, in_place, inl, inr, is_get_of, is_refused, IsIn, IsRun}
use Rattle.hx_law_lemmas.proofs.Lemmas.Vocabulary.{IsScript, Item, length, line_note, line_notes, line_of, List, made_of, None, not, not_refused, Note, Op}
use Rattle.hx_law_lemmas.proofs.Lemmas.Vocabulary.{Option, Output, provided, refl, reverse, same_text, Script, Server, server_of, Session, session_of, Some}
use Rattle.hx_law_lemmas.proofs.Lemmas.Vocabulary.{subst, sym, true, Update, upto, Value, Version, write_item, ℕ, ◌&&◌, ◌++◌, ◌+◌, ◌-◌, ◌∙◌, ◌∷◌, ◌≡◌, ◌≤◌, ◌⊎◌}
use Rattle.hx_types.specs.declared.traces.Note.TheVariants as a_note
use Rattle.hx_law_lemmas.proofs.Lemmas.{line-numbered, in-append, in-flat_map, of-reverse, when_some_both, numbered-within as in-below, keeps_lines, EndedAt}
use Rattle.hx_law_chains.proofs.Lemmas.{coordinator-plain, issued-line, AnySnapshot, AssignsOne, server-plain}
use Rattle.hx_law_searches.proofs.Lemmas.{turn_is, facts, not_refused-in}
use Rattle.hx_law_audit.proofs.RunEnds.{ends_sound}

-- ---- lines

upto_short : (v : ℕ) (line : List Update) → length (upto v line) ≤ length line
upto_short v [] = omega arith
upto_short v (u ∷ line) = search (arith, upto_short v line)

note_short : (key : List ℕ) (line : List Update) (u : Update) → length (line_note key line (a_note.Assigned u)) ≤ length line + 1
note_short key line u =
    cond_both (same_text u.key key) (u ∷ upto (u.version.0 - 1) line) line (λ l. length l ≤ length line + 1)
    (λ t. let s = upto_short (u.version.0 - 1) line in omega (arith, s))
    (λ t. omega arith)

module _ (script : Script) (valid : IsScript script) where
  -- a line is no longer than the trace
  line_short : (key : List ℕ) (trace : List Entry) → IsRun script trace → length (line_of key trace) ≤ length trace
  line_short key [] run = omega arith
  line_short key (x ∷ older) run = by (line_short key older run.1) x.actor refl
    where
      made_notes : (a : Actor) → x.actor ≡ a → (made_of script older a x.input).notes ≡ x.notes
      made_notes a e = ap (λ (m : Output). m.notes)
          (subst (λ (b : Actor). made_of script older b x.input ≡ record { posts = x.outputs; notes = x.notes }) e run.0.made)

      one : (notes : List Note) → AssignsOne notes → length (line_notes key (line_of key older) notes) ≤ length (line_of key older) + 1
      one notes (inl e) = subst (λ ns. length (line_notes key (line_of key older) ns) ≤ length (line_of key older) + 1) (sym e) (omega arith)
      one notes (inr r) = subst (λ ns. length (line_notes key (line_of key older) ns)
          ≤ length (line_of key older) + 1) (sym r.1) (note_short key (line_of key older) r.0)

      by : length (line_of key older) ≤ length older → (a : Actor) → x.actor ≡ a → length (line_notes key (line_of key older) x.notes) ≤ length (x ∷ older)
      by l Coordinator e =
          let same = ap (λ ns. line_notes key (line_of key older) ns) (sym (made_notes Coordinator e))
          ∙ issued-line key (line_of key older) _ (coordinator-plain (coordinator_of script older) x.input).notes in
          let n = ap (λ (us : List Update). length us) same in omega (arith, l, n)
      by l (Server i) e = let n = one x.notes (subst AssignsOne (made_notes (Server i) e)
          (server-plain AnySnapshot script.space (server_of script i older) x.input (λ r j. tt) (λ g. tt)).notes) in
          omega (arith, l, n)
      by l (Session u) e =
          let same = keeps_lines x.input (session_of script u older) _ (turn_is script older x u run.0 e) key (line_of key older) in
          let n = ap (λ (us : List Update). length us) same in omega (arith, l, n)

  -- ---- items

  -- an item is of an update of the line, or of an ended call, with its version
  abbrev From : List Entry → List Update → Item → Type 0
  From trace us y = ((u : Update) × IsIn u us × (y.version ≡ u.version))
      ⊎ ((c : Caller) × (v : Version) × (a : Answer) × (n : ℕ) × EndedAt trace c v a n × (y.version ≡ v))

  of_notes : (key : List ℕ) (low : ℕ) (high : Option ℕ) (object : Option (List Value)) (x : Entry)
      (older : List Entry) (y : Item) (a : Actor) → x.actor ≡ a → IsIn y (get_items script key low high object a x.notes)
      → (c : Caller) × (v : Version) × (a : Answer) × (n : ℕ) × EndedAt (x ∷ older) c v a n × (y.version ≡ v)
  of_notes key low high object x older y Coordinator e i = absurd i
  of_notes key low high object x older y (Server s) e i = absurd i
  of_notes key low high object x older y (Session u) e i =
      let f = in-flat_map (get_item script key low high object u) (reverse x.notes) y i in
      by f.0 (of-reverse x.notes f.0 f.1) f.2
    where
      by : (n : Note) → IsIn n x.notes → IsIn y (get_item script key low high object u n) → (c : Caller)
          × (v : Version) × (a : Answer) × (n : ℕ) × EndedAt (x ∷ older) c v a n × (y.version ≡ v)
      by (a_note.Ended number version answer) i =
          when_some_both (call_of script (record { session = u; number = number })) []
          (λ (op : Op). provided (is_get_of key op && not (is_refused answer) && in_place low high version.0)
          (record {
            version = version;
            caller = record { session = u; number = number };
            op = op;
            answer = answer;
            object = object;
          } ∷ []))
          (λ l. IsIn y l → (c : Caller) × (v : Version) × (a : Answer) × (n : ℕ) × EndedAt (x ∷ older) c v a n × (y.version ≡ v))
          (λ q j. absurd j)
          (λ op q. here op (is_get_of key op && not (is_refused answer) && in_place low high version.0))
        where
          here : (op : Op) (b : Bool) → IsIn y (provided b
              (record {
                version = version;
                caller = record { session = u; number = number };
                op = op;
                answer = answer;
                object = object;
              } ∷ [])) → (c : Caller) × (v : Version) × (a : Answer) × (n : ℕ)
              × EndedAt (x ∷ older) c v a n × (y.version ≡ v)
          here op false j = absurd j
          here op true (inl q) = (record { session = u; number = number }, version, answer, length older + 1, inl (e, i, refl), ap (λ (z : Item). z.version) q)
          here op true (inr j) = absurd j
      by other i = λ j. absurd j

  of_gets : (key : List ℕ) (low : ℕ) (high : Option ℕ) (object : Option (List Value)) (trace : List Entry) (y : Item)
      → IsIn y (gets_of script key low high object trace)
      → (c : Caller) × (v : Version) × (a : Answer) × (n : ℕ) × EndedAt trace c v a n × (y.version ≡ v)
  of_gets key low high object [] y i = absurd i
  of_gets key low high object (x ∷ older) y i = elim (in-append (get_items script key low high object x.actor x.notes)
      (gets_of script key low high object older) y i) [
        | inl j ↦ of_notes key low high object x older y x.actor refl j
        | inr j ↦ (let r = of_gets key low high object older y j in (r.0, r.1, r.2, r.3, inr r.4, r.5))
      ]

  of_history : (key : List ℕ) (trace : List Entry) (high : Option ℕ) (us : List Update) (y : Item)
      → IsIn y (history_on script key trace high us) → From trace us y
  of_history key trace high [] y i = inr (of_gets key 0 high None trace y i)
  of_history key trace high (u ∷ older) y i = elim (in-append
      (gets_of script key u.version.0 high u.object trace ++ write_item script u)
      (history_on script key trace (Some u.version.0) older) y i) [
        | inr j ↦ elim (of_history key trace (Some u.version.0) older y j) [ inl r ↦ inl (r.0, inr r.1, r.2) | inr r ↦ inr r ]
        | inl j ↦ elim (in-append (gets_of script key u.version.0 high u.object trace) (write_item script u) y j) [
          | inl k ↦ inr (of_gets key u.version.0 high u.object trace y k)
          | inr k ↦ inl (u, inl refl, of_write u k)
        ]
      ]
    where
      of_write : (w : Update) → IsIn y (write_item script w) → y.version ≡ w.version
      of_write w =
          when_some_both (call_of script w.caller) [] (λ (op : Op). record {
            version = w.version;
            caller = w.caller;
            op = op;
            answer = w.answer;
            object = w.object;
          } ∷ [])
          (λ (l : List Item). IsIn y l → y.version ≡ w.version)
          (λ q j. absurd j)
          (λ op q j. elim j [ inl e ↦ ap (λ (z : Item). z.version) e | inr k ↦ absurd k ])

  pub items_low : (trace : List Entry) → IsRun script trace → (key : List ℕ) (y : Item) → IsIn y (history_of script key trace) → y.version.0 ≤ length trace + 1
  items_low trace run key y i = elim (of_history key trace None (not_refused (line_of key trace)) y i) [
    | inl r ↦ (let n = in-below (line_of key trace) r.0
        (line-numbered script key (line_of key trace) ((facts script valid).lines trace run key))
        (not_refused-in (line_of key trace) r.0 r.1).0 in
        let l = line_short key trace run in let m = n.1 in let e = ap (λ (v : Version). v.0) r.2 in omega (arith, l, m, e))
    | inr r ↦ (let s = ends_sound script valid trace run r.0 r.1 r.2 r.3 r.4 in let l = s.2.0 in let e = ap (λ (v : Version). v.0) r.5 in omega (arith, l, e))
  ]
