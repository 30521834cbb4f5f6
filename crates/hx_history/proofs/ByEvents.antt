-- The history of a key is told by the events of the key alone.
use Rattle.hx_model.specs.Lines.{upto}
use Rattle.std.proofs.Common.{◌≡◌, ℕ, ◌-◌, Bool, true, false, not, ◌&&◌, cond, List, [], ◌∷◌, ◌++◌, Option, Some, None}
use Rattle.std.proofs.Common.{map, reverse, refl, sym, ap, subst, ◌∙◌, append_assoc, ◌+◌, ◌<◌, length, get_or, take}
use Rattle.std.proofs.lemmas.List.{reverse-append, append-nil, map-append, reverse-reverse, take_more}
use Rattle.std.proofs.lemmas.List.Concat.{flat_map-append}
use Rattle.std.proofs.lemmas.List.Elements.{filter-append}
use Rattle.std.proofs.lemmas.List.Sums.{fold-append}
use Rattle.std.specs.List.{filter, flat_map, fold}
use Rattle.std.specs.Option.{option_map, option_and_then}
use Rattle.hx_model.specs.Types.{Actor, Answer, Caller, Coordinator, Entry, Get, Item, Note, Op, Script, Server, Session, SessionId, Update, Value, Version}
use Rattle.hx_types.specs.declared.traces.Note.TheVariants as a_note
use Rattle.hx_types.specs.Words.{list_of, provided, same_text, when_some}
use Rattle.hx_types.specs.Fitting.{call_of, is_refused}
use Rattle.hx_model.specs.Histories.{get_item, get_items, gets_of, history_of, history_on, in_place, is_get_of}
use Rattle.hx_model.specs.Histories.{line_note, line_notes, line_of, not_refused, write_item}
use Rattle.hx_history.specs.Events.{KeyEvent, Write, End, ReadEnd, event_of, event_view, events_in, events_of}
use Rattle.hx_history.specs.Events.{history_by, is_at, item_on, line_by, lined, placed, read_at, read_by, read_in}
use Rattle.hx_history.specs.Events.{reads_by, told}
use Rattle.hx_history.proofs.Lists.{map_filter, reverse_cons, reverse_pieces}
use Rattle.hx_history.specs.declared.events.Event.{Event}

-- the end of a get leaves the line
line_passes_read : (key : List ℕ) (line : List Update) (r : Option ReadEnd) (rest : List KeyEvent)
    → fold lined line (filter (is_at key) (list_of (option_map End r) ++ rest)) ≡ fold lined line (filter (is_at key) rest)
line_passes_read key line None rest = refl
line_passes_read key line (Some r) rest = by_test (same_text r.key key)
  where
    by_test : (b : Bool) → fold lined line (cond b (End r ∷ filter (is_at key) rest) (filter (is_at key) rest)) ≡ fold lined line (filter (is_at key) rest)
    by_test true = refl
    by_test false = refl

line_takes_write : (b : Bool) (line : List Update) (u : Update) (rest : List KeyEvent)
    → fold lined line (cond b (Write u ∷ rest) rest) ≡ fold lined (cond b (u ∷ upto (u.version.0 - 1) line) line) rest
line_takes_write true line u rest = refl
line_takes_write false line u rest = refl

-- the notes of an entry put on the line what their events do
line_by_notes : (script : Script) (key : List ℕ) (actor : Actor) (line : List Update) (notes : List Note)
    → fold lined line (filter (is_at key) (events_in script actor notes)) ≡ line_notes key line notes
line_by_notes script key actor line [] = refl
line_by_notes script key actor line (a_note.Began number ∷ rest) = line_by_notes script key actor line rest
line_by_notes script key actor line (a_note.Ended number version answer ∷ rest) =
    line_passes_read key line (read_by script actor number version answer) (events_in script actor rest) ∙ line_by_notes script key actor line rest
line_by_notes script key actor line (a_note.Assigned u ∷ rest) =
    line_takes_write (same_text u.key key) line u (filter (is_at key) (events_in script actor rest))
    ∙ line_by_notes script key actor (line_note key line (a_note.Assigned u)) rest
line_by_notes script key actor line (a_note.Issued config ∷ rest) = line_by_notes script key actor line rest

-- the events one entry further
pub events_more : (script : Script) (trace : List Entry) (i : ℕ) (x : Entry) → i < length trace → x ≡ get_or trace i x
    → events_of script (take i trace) ++ events_in script x.actor x.notes ≡ events_of script (take (i + 1) trace)
events_more script trace i x within read =
    let piece : Entry → List KeyEvent = λ y. events_in script y.actor y.notes in
    ap (λ es. flat_map piece (take i trace) ++ es) (sym (append-nil (piece x)))
    ∙ sym (flat_map-append piece (take i trace) (x ∷ []))
    ∙ ap (flat_map piece) (ap (λ y. take i trace ++ y ∷ []) read ∙ sym (take_more trace i x within))

-- the events of a key, one entry further
at_more : (script : Script) (key : List ℕ) (x : Entry) (older : List Entry)
    → filter (is_at key) (events_of script (reverse (x ∷ older)))
    ≡ filter (is_at key) (events_of script (reverse older)) ++ filter (is_at key) (events_in script x.actor x.notes)
at_more script key x older =
    rw (reverse_cons, flat_map-append, append-nil, filter-append) refl

-- the line of a key is what its events make
line_is : (script : Script) (key : List ℕ) (trace : List Entry) → line_by (filter (is_at key) (events_of script (reverse trace))) ≡ line_of key trace
line_is script key [] = refl
line_is script key (x ∷ older) =
    ap line_by (at_more script key x older)
    ∙ fold-append lined [] (filter (is_at key) (events_of script (reverse older))) (filter (is_at key) (events_in script x.actor x.notes))
    ∙ ap (λ line. fold lined line (filter (is_at key) (events_in script x.actor x.notes))) (line_is script key older)
    ∙ line_by_notes script key x.actor (line_of key older) x.notes

-- the gets of one place among these events
abbrev placed_by : List ℕ → ℕ → Option ℕ → Option (List Value) → List KeyEvent → List Item
placed_by key low high object events = placed low high object (reads_by (filter (is_at key) events))

placed_by-append : (key : List ℕ) (low : ℕ) (high : Option ℕ) (object : Option (List Value)) (xs ys : List KeyEvent)
    → placed_by key low high object (xs ++ ys) ≡ placed_by key low high object xs ++ placed_by key low high object ys
placed_by-append key low high object xs ys =
    rw (filter-append, flat_map-append, filter-append, map-append) refl

placed_by-write : (key : List ℕ) (low : ℕ) (high : Option ℕ) (object : Option (List Value)) (u : Update)
    → placed_by key low high object (Write u ∷ []) ≡ []
placed_by-write key low high object u = by_test (same_text u.key key)
  where
    by_test : (b : Bool) → placed low high object (reads_by (cond b (Write u ∷ []) [])) ≡ []
    by_test true = refl
    by_test false = refl

-- only a session's notes end gets
placed_by-other : (script : Script) (key : List ℕ) (low : ℕ) (high : Option ℕ) (object : Option (List Value)) (actor : Actor)
    → ((number : ℕ) (version : Version) (answer : Answer) → read_by script actor number version answer ≡ None)
    → (notes : List Note) → placed_by key low high object (events_in script actor notes) ≡ []
placed_by-other script key low high object actor none [] = refl
placed_by-other script key low high object actor none (a_note.Began number ∷ rest) = placed_by-other script key low high object actor none rest
placed_by-other script key low high object actor none (a_note.Ended number version answer ∷ rest) =
    ap (λ r. placed_by key low high object (list_of (option_map End r) ++ events_in script actor rest)) (none number version answer)
    ∙ placed_by-other script key low high object actor none rest
placed_by-other script key low high object actor none (a_note.Assigned u ∷ rest) =
    placed_by-append key low high object (Write u ∷ []) (events_in script actor rest)
    ∙ ap (λ xs. xs ++ placed_by key low high object (events_in script actor rest)) (placed_by-write key low high object u)
    ∙ placed_by-other script key low high object actor none rest
placed_by-other script key low high object actor none (a_note.Issued config ∷ rest) = placed_by-other script key low high object actor none rest

one_placed : (b : Bool) (object : Option (List Value)) (r : ReadEnd) → map (item_on object) (cond b (r ∷ []) []) ≡ provided b (item_on object r ∷ [])
one_placed true object r = refl
one_placed false object r = refl

none_provided : {A : Type 0} (at here : Bool) (xs : List A) → [] ≡ provided (at && false && here) xs
none_provided true here xs = refl
none_provided false here xs = refl

one_get : (at : Bool) (low : ℕ) (high : Option ℕ) (object : Option (List Value)) (r : ReadEnd)
    → placed low high object (reads_by (cond at (End r ∷ []) [])) ≡ provided (at && true && in_place low high r.version.0) (item_on object r ∷ [])
one_get true low high object r = one_placed (in_place low high r.version.0) object r
one_get false low high object r = refl

by_refusal : (refused : Bool) (key : List ℕ) (low : ℕ) (high : Option ℕ) (object : Option (List Value)) (r : ReadEnd)
    → placed_by key low high object (list_of (option_map End (cond refused None (Some r))))
    ≡ provided (same_text r.key key && not refused && in_place low high r.version.0) (item_on object r ∷ [])
by_refusal true key low high object r = none_provided (same_text r.key key) (in_place low high r.version.0) (item_on object r ∷ [])
by_refusal false key low high object r = one_get (same_text r.key key) low high object r

-- a get's end among the events is the item that the model puts in the place
by_op : (key : List ℕ) (low : ℕ) (high : Option ℕ) (object : Option (List Value)) (c : Caller) (version : Version) (answer : Answer) (op : Op)
    → placed_by key low high object (list_of (option_map End (read_at c version answer op)))
    ≡ provided (is_get_of key op && not (is_refused answer) && in_place low high version.0)
    (record { version = version; caller = c; op = op; answer = answer; object = object } ∷ [])
by_op key low high object c version answer (Get k) =
    by_refusal (is_refused answer) key low high object (record { key = k; caller = c; version = version; op = Get k; answer = answer })
by_op key low high object c version answer other = refl

by_call : (key : List ℕ) (low : ℕ) (high : Option ℕ) (object : Option (List Value)) (c : Caller) (version : Version) (answer : Answer) (call : Option Op)
    → placed_by key low high object (list_of (option_map End (option_and_then (read_at c version answer) call)))
    ≡ when_some call []
    (
    λ (op : Op). provided (is_get_of key op && not (is_refused answer) && in_place low high version.0)
    (record { version = version; caller = c; op = op; answer = answer; object = object } ∷ [])
    )
by_call key low high object c version answer None = refl
by_call key low high object c version answer (Some op) = by_op key low high object c version answer op

by_note : (script : Script) (key : List ℕ) (low : ℕ) (high : Option ℕ) (object : Option (List Value)) (u : SessionId) (note : Note)
    → placed_by key low high object (list_of (event_of script (Session u) note)) ≡ get_item script key low high object u note
by_note script key low high object u (a_note.Began number) = refl
by_note script key low high object u (a_note.Ended number version answer) =
    let c : Caller = record { session = u; number = number } in
    by_call key low high object c version answer (call_of script c)
by_note script key low high object u (a_note.Assigned w) = placed_by-write key low high object w
by_note script key low high object u (a_note.Issued config) = refl

by_notes : (script : Script) (key : List ℕ) (low : ℕ) (high : Option ℕ) (object : Option (List Value)) (u : SessionId) (notes : List Note)
    → placed_by key low high object (events_in script (Session u) notes) ≡ flat_map (get_item script key low high object u) notes
by_notes script key low high object u [] = refl
by_notes script key low high object u (n ∷ rest) =
    placed_by-append key low high object (list_of (event_of script (Session u) n)) (events_in script (Session u) rest)
    ∙ ap (λ xs. xs ++ placed_by key low high object (events_in script (Session u) rest)) (by_note script key low high object u n)
    ∙ ap (λ xs. get_item script key low high object u n ++ xs) (by_notes script key low high object u rest)

-- a note makes one item at most
even_provided : {A : Type 0} (b : Bool) (x : A) → reverse (provided b (x ∷ [])) ≡ provided b (x ∷ [])
even_provided true x = refl
even_provided false x = refl

even_call : (key : List ℕ) (low : ℕ) (high : Option ℕ) (object : Option (List Value)) (c : Caller) (version : Version) (answer : Answer) (call : Option Op)
    → let items : List Item = when_some call []
    (
    λ (op : Op). provided (is_get_of key op && not (is_refused answer) && in_place low high version.0)
    (record { version = version; caller = c; op = op; answer = answer; object = object } ∷ [])
    ) in
    reverse items ≡ items
even_call key low high object c version answer None = refl
even_call key low high object c version answer (Some op) =
    even_provided (is_get_of key op && not (is_refused answer) && in_place low high version.0)
    (record { version = version; caller = c; op = op; answer = answer; object = object })

even_item : (script : Script) (key : List ℕ) (low : ℕ) (high : Option ℕ) (object : Option (List Value)) (u : SessionId) (note : Note)
    → reverse (get_item script key low high object u note) ≡ get_item script key low high object u note
even_item script key low high object u (a_note.Began number) = refl
even_item script key low high object u (a_note.Ended number version answer) =
    let c : Caller = record { session = u; number = number } in
    even_call key low high object c version answer (call_of script c)
even_item script key low high object u (a_note.Assigned w) = refl
even_item script key low high object u (a_note.Issued config) = refl

by_entry : (script : Script) (key : List ℕ) (low : ℕ) (high : Option ℕ) (object : Option (List Value)) (actor : Actor) (notes : List Note)
    → placed_by key low high object (events_in script actor notes) ≡ reverse (get_items script key low high object actor notes)
by_entry script key low high object Coordinator notes = placed_by-other script key low high object Coordinator (λ n v a. refl) notes
by_entry script key low high object (Server s) notes = placed_by-other script key low high object (Server s) (λ n v a. refl) notes
by_entry script key low high object (Session u) notes =
    by_notes script key low high object u notes
    ∙ sym (reverse_pieces (get_item script key low high object u) (even_item script key low high object u) notes)

-- the gets in one place are those among the key's events
gets_are : (script : Script) (key : List ℕ) (trace : List Entry) (low : ℕ) (high : Option ℕ) (object : Option (List Value))
    → placed low high object (reads_by (filter (is_at key) (events_of script (reverse trace)))) ≡ reverse (gets_of script key low high object trace)
gets_are script key [] low high object = refl
gets_are script key (x ∷ older) low high object =
    ap (λ (es : List KeyEvent). placed low high object (reads_by es)) (at_more script key x older)
    ∙ ap (λ (rs : List ReadEnd). placed low high object rs)
    (flat_map-append read_in (filter (is_at key) (events_of script (reverse older))) (filter (is_at key) (events_in script x.actor x.notes)))
    ∙ ap (map (item_on object))
    (
    filter-append (λ (r : ReadEnd). in_place low high r.version.0) (reads_by (filter (is_at key) (events_of script (reverse older))))
    (reads_by (filter (is_at key) (events_in script x.actor x.notes)))
    )
    ∙ map-append (item_on object)
    (filter (λ (r : ReadEnd). in_place low high r.version.0) (reads_by (filter (is_at key) (events_of script (reverse older)))))
    (filter (λ (r : ReadEnd). in_place low high r.version.0) (reads_by (filter (is_at key) (events_in script x.actor x.notes))))
    ∙ ap (λ xs. xs ++ placed_by key low high object (events_in script x.actor x.notes)) (gets_are script key older low high object)
    ∙ ap (λ xs. reverse (gets_of script key low high object older) ++ xs) (by_entry script key low high object x.actor x.notes)
    ∙ sym (reverse-append (get_items script key low high object x.actor x.notes) (gets_of script key low high object older))

even_write : (script : Script) (u : Update) → reverse (write_item script u) ≡ write_item script u
even_write script u = by_call_of (call_of script u.caller)
  where
    by_call_of : (call : Option Op)
        → let items : List Item =
        when_some call [] (λ (op : Op). record { version = u.version; caller = u.caller; op = op; answer = u.answer; object = u.object } ∷ []) in
        reverse items ≡ items
    by_call_of None = refl
    by_call_of (Some op) = refl

-- what is told of a line and its gets is the model's history from its oldest end
told_is : (script : Script) (key : List ℕ) (trace : List Entry) (high : Option ℕ) (line : List Update)
    → told script (reads_by (filter (is_at key) (events_of script (reverse trace)))) high line ≡ reverse (history_on script key trace high line)
told_is script key trace high [] = gets_are script key trace 0 high None
told_is script key trace high (u ∷ older) =
    ap (λ xs. told script reads (Some u.version.0) older ++ write_item script u ++ xs) (gets_are script key trace u.version.0 high u.object)
    ∙ ap (λ xs. xs ++ write_item script u ++ reverse gets) (told_is script key trace (Some u.version.0) older)
    ∙ ap (λ xs. reverse rest ++ xs ++ reverse gets) (sym (even_write script u))
    ∙ append_assoc (reverse rest) (reverse (write_item script u)) (reverse gets)
    ∙ ap (λ xs. reverse rest ++ xs) (sym (reverse-append gets (write_item script u)))
    ∙ sym (reverse-append (gets ++ write_item script u) rest)
  where
    reads : List ReadEnd
    reads = reads_by (filter (is_at key) (events_of script (reverse trace)))

    gets : List Item
    gets = gets_of script key u.version.0 high u.object trace

    rest : List Item
    rest = history_on script key trace (Some u.version.0) older

told_oldest : (script : Script) (key : List ℕ) (trace : List Entry)
    → history_by script (filter (is_at key) (events_of script (reverse trace))) ≡ reverse (history_of script key trace)
told_oldest script key trace =
    ap (λ line. told script (reads_by (filter (is_at key) (events_of script (reverse trace)))) None (not_refused line)) (line_is script key trace)
    ∙ told_is script key trace None (not_refused (line_of key trace))

-- the history of a key is told by the key's events alone
pub history_is : (script : Script) (key : List ℕ) (trace : List Entry)
    → history_by script (filter (is_at key) (events_of script trace)) ≡ reverse (history_of script key (reverse trace))
history_is script key trace =
    let P : List Entry → Type 0 =
    λ t. history_by script (filter (is_at key) (events_of script t)) ≡ reverse (history_of script key (reverse trace)) in
    subst P (reverse-reverse trace) (told_oldest script key (reverse trace))

-- the same of the code's events
pub history_found : (script : Script) (key : List ℕ) (trace : List Entry) (events : List Event)
    → map event_view events ≡ events_of script trace
    → history_by script (map event_view (filter (λ (e : Event). is_at key (event_view e)) events)) ≡ reverse (history_of script key (reverse trace))
history_found script key trace events view =
    ap (history_by script) (map_filter event_view (is_at key) events) ∙ ap (λ es. history_by script (filter (is_at key) es)) view
    ∙ history_is script key trace
