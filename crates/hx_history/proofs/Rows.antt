-- A table of rows of spans, and a change of one row.
use Rattle.std.proofs.Common.{◌≡◌, ◌≢◌, ◌⊎◌, ℕ, zero, suc, ◌+◌, ◌<◌, Bool, true, false, cond, List, [], ◌∷◌, ◌++◌}
use Rattle.std.proofs.Common.{Option, Some, None, map, reverse, length, get_or, set, take, replicate, refl, sym, ap}
use Rattle.std.proofs.Common.{subst, ◌∙◌, inl, inr, arith}
use Rattle.std.proofs.lemmas.Bool.{cases_eq}
use Rattle.std.proofs.Math.Logic.{⊎_elim}
use Rattle.std.proofs.lemmas.Bool.Decides.{Decides-eqb}
use Rattle.std.proofs.lemmas.List.{take_more, length-map, length-replicate, length-reverse, length-take-le, get_or-map, map-set, reverse-append}
use Rattle.std.proofs.lemmas.Option.{slice_get-get_or, slice_get_past}
use Rattle.std.specs.Option.{option_map}
use Rattle.std.specs.Prelude.{◌==◌, slice_get}
use Rattle.hx_model.specs.Types.{Actor, Caller, Entry, Op, Script, Session, SessionId}
use Rattle.hx_types.specs.Words.{when_some}
use Rattle.hx_types.specs.Fitting.{call_of, numbered}
use Rattle.hx_model.specs.Histories.{is_session}
use Rattle.hx_history.specs.declared.call_notes.CallNotes.{CallNotes}
use Rattle.hx_history.specs.Calls.{CallSpan, after_entry, after_notes, no_notes, notes_of, shape, span_in, span_of}
use Rattle.hx_history.proofs.Notes.{notes_of_more}

numbered_past : {A : Type 0} (xs : List A) (n : ℕ) → length xs < n → numbered xs n ≡ None
numbered_past xs zero past = refl
numbered_past xs (suc n) past = slice_get_past xs n (omega arith)

numbered_at : {A : Type 0} (xs : List A) (i n : ℕ) (x : A) → i + 1 ≡ n → i < length xs → x ≡ get_or xs i x → numbered xs n ≡ Some x
numbered_at xs i zero x is within read = absurd (omega arith)
numbered_at xs i (suc n) x is within read =
    let same : n ≡ i = omega arith in
    ap (slice_get xs) same ∙ slice_get-get_or xs i x within ∙ ap (λ y. Some y) (sym read)

-- there is an item at a place within a list
pub not_past : {A : Type 0} (xs : List A) (i : ℕ) → i < length xs → None ≡ slice_get xs i → ⊥
not_past [] i within none = omega (arith, within)
not_past (x ∷ xs) zero within none = cc
not_past (x ∷ xs) (suc i) within none = not_past xs i (omega arith) none

pub slice_get-set_other : {A : Type 0} (xs : List A) (i k : ℕ) (y : A) → k ≢ i → slice_get (set xs i y) k ≡ slice_get xs k
slice_get-set_other [] i k y other = refl
slice_get-set_other (x ∷ xs) zero zero y other = absurd (other refl)
slice_get-set_other (x ∷ xs) zero (suc k) y other = refl
slice_get-set_other (x ∷ xs) (suc i) zero y other = refl
slice_get-set_other (x ∷ xs) (suc i) (suc k) y other = slice_get-set_other xs i k y (λ same. other (ap suc same))

pub slice_get-set_same : {A : Type 0} (xs : List A) (i : ℕ) (y : A) → i < length xs → slice_get (set xs i y) i ≡ Some y
slice_get-set_same [] i y within = absurd (omega arith)
slice_get-set_same (x ∷ xs) zero y within = refl
slice_get-set_same (x ∷ xs) (suc i) y within = slice_get-set_same xs i y (omega arith)

numbered-set_other : {A : Type 0} (xs : List A) (i n : ℕ) (y : A) → i + 1 ≢ n → numbered (set xs i y) n ≡ numbered xs n
numbered-set_other xs i zero y other = refl
numbered-set_other xs i (suc n) y other = slice_get-set_other xs i n y (λ same. other (omega arith))

numbered-set_same : {A : Type 0} (xs : List A) (i n : ℕ) (y : A) → i + 1 ≡ n → i < length xs → numbered (set xs i y) n ≡ Some y
numbered-set_same xs i zero y is within = absurd (omega arith)
numbered-set_same xs i (suc n) y is within =
    let same : n ≡ i = omega arith in
    ap (slice_get (set xs i y)) same ∙ slice_get-set_same xs i y within

stays : {A : Type 0} (f : A → A) (b : Bool) → b ≡ false → (o : Option A) → o ≡ option_map (λ x. cond b (f x) x) o
stays f b off None = refl
stays f b off (Some x) = ap (λ t. Some (cond t (f x) x)) (sym off)

-- an entry of another session leaves what is said
pub other_session : (rows : List (List CallNotes)) (c : Caller) (place : ℕ) (x : Entry) → is_session c.session x.actor ≡ false
    → span_in rows c ≡ option_map (after_entry c place x) (span_in rows c)
other_session rows c place x other =
    stays (after_notes c.session place c.number x.notes) (is_session c.session x.actor) other (span_in rows c)

apart : (u : SessionId) (c : Caller) (a : Actor) → a ≡ Session u → u.0 ≢ c.session.0 → is_session c.session a ≡ false
apart u c a is other = ap (is_session c.session) is ∙ by_test (u.0 == c.session.0) (Decides-eqb u.0 c.session.0).0
  where
    by_test : (b : Bool) → (b ≡ true → u.0 ≡ c.session.0) → b ≡ false
    by_test true same = absurd (other (same refl))
    by_test false same = refl

together : (u : SessionId) (c : Caller) (a : Actor) → a ≡ Session u → u.0 ≡ c.session.0 → is_session c.session a ≡ true
together u c a is same = ap (is_session c.session) is ∙ (Decides-eqb u.0 c.session.0).1 same

-- an entry of a session without a row changes nothing
pub no_row : (rows : List (List CallNotes)) (u : SessionId) (place : ℕ) (x : Entry) → x.actor ≡ Session u → (u.0 ≡ 0) ⊎ (length rows < u.0)
    → (c : Caller) → span_in rows c ≡ option_map (after_entry c place x) (span_in rows c)
no_row rows u place x is none c =
    ⊎_elim (λ same. here same) (λ other. other_session rows c place x (apart u c x.actor is other)) (cases_eq u.0 c.session.0)
  where
    missing : u.0 ≡ c.session.0 → numbered rows c.session.0 ≡ None
    missing same =
        ⊎_elim (λ zeroth. ap (numbered rows) (sym same ∙ zeroth)) (λ past. numbered_past rows c.session.0 (omega arith)) none

    absent : u.0 ≡ c.session.0 → span_in rows c ≡ None
    absent same = ap (λ o. when_some o None (λ (row : List CallNotes). option_map span_of (numbered row c.number))) (missing same)

    here : u.0 ≡ c.session.0 → span_in rows c ≡ option_map (after_entry c place x) (span_in rows c)
    here same = absent same ∙ ap (option_map (after_entry c place x)) (sym (absent same))

-- an entry of the session of a row changes the row's spans by its notes
pub row_taken : (rows : List (List CallNotes)) (i : ℕ) (old new : List CallNotes) (u : SessionId) (place : ℕ) (x : Entry)
    → i < length rows → old ≡ get_or rows i old → i + 1 ≡ u.0 → x.actor ≡ Session u
    → ((n : ℕ) → option_map span_of (numbered new n) ≡ option_map (after_notes u place n x.notes) (option_map span_of (numbered old n)))
    → (c : Caller) → span_in (set rows i new) c ≡ option_map (after_entry c place x) (span_in rows c)
row_taken rows i old new u place x within read is actor spans c =
    ⊎_elim here there (cases_eq u.0 c.session.0)
  where
    in_row : Option (List CallNotes) → Option CallSpan
    in_row o = when_some o None (λ (row : List CallNotes). option_map span_of (numbered row c.number))

    there : u.0 ≢ c.session.0 → span_in (set rows i new) c ≡ option_map (after_entry c place x) (span_in rows c)
    there other =
        ap in_row (numbered-set_other rows i c.session.0 new (λ same. other (sym is ∙ same)))
        ∙ other_session rows c place x (apart u c x.actor actor other)

    here : u.0 ≡ c.session.0 → span_in (set rows i new) c ≡ option_map (after_entry c place x) (span_in rows c)
    here same =
        let session : u ≡ c.session = ap (λ (n : ℕ). record { 0 = n }) same in
        ap in_row (numbered-set_same rows i c.session.0 new (is ∙ same) within) ∙ spans c.number
        ∙ ap (λ (v : SessionId). option_map (after_notes v place c.number x.notes) (option_map span_of (numbered old c.number))) session
        ∙ ap (λ (b : Bool). option_map (λ (s : CallSpan). cond b (after_notes c.session place c.number x.notes s) s)
        (option_map span_of (numbered old c.number)))
        (sym (together u c x.actor actor same))
        ∙ ap (λ o. option_map (after_entry c place x) (in_row o)) (sym (numbered_at rows i c.session.0 old (is ∙ same) within read))

-- a row of the same length keeps the shape
pub shape_kept : (rows : List (List CallNotes)) (i : ℕ) (old new : List CallNotes) → i < length rows → old ≡ get_or rows i old → length new ≡ length old
    → shape (set rows i new) ≡ shape rows
shape_kept [] i old new within read same = refl
shape_kept (row ∷ rows) zero old new within read same = ap (λ n. n ∷ shape rows) (same ∙ ap length read)
shape_kept (row ∷ rows) (suc i) old new within read same = ap (λ ns. length row ∷ ns) (shape_kept rows i old new (omega arith) read same)

-- the same of the code's rows
module _ {V : Type 0} (row_of : V → List CallNotes) (table : List V) (i : ℕ) (old new : V) (within : i < length table) (read : old ≡ get_or table i old) where
  wide : i < length (map row_of table)
  wide = subst (λ n. i < n) (sym (length-map table row_of)) within

  old_row : row_of old ≡ get_or (map row_of table) i (row_of old)
  old_row = ap row_of read ∙ sym (get_or-map row_of table i old (row_of old) within)

  pub entry_taken : (u : SessionId) (place : ℕ) (x : Entry) → i + 1 ≡ u.0 → x.actor ≡ Session u
      → ((n : ℕ) → option_map span_of (numbered (row_of new) n) ≡ option_map (after_notes u place n x.notes) (option_map span_of (numbered (row_of old) n)))
      → (c : Caller) → span_in (map row_of (set table i new)) c ≡ option_map (after_entry c place x) (span_in (map row_of table) c)
  entry_taken u place x is actor spans c =
      ap (λ rows. span_in rows c) (map-set row_of table i new)
      ∙ row_taken (map row_of table) i (row_of old) (row_of new) u place x wide old_row is actor spans c

  pub same_shape : length (row_of new) ≡ length (row_of old) → shape (map row_of (set table i new)) ≡ shape (map row_of table)
  same_shape same =
      ap (λ (rows : List (List CallNotes)). shape rows) (map-set row_of table i new)
      ∙ shape_kept (map row_of table) i (row_of old) (row_of new) wide old_row same

pub no_row_of : {V : Type 0} (row_of : V → List CallNotes) (table : List V) (count : ℕ) → count ≡ length table → (u : SessionId) (place : ℕ) (x : Entry)
    → x.actor ≡ Session u → (u.0 ≡ 0) ⊎ (count < u.0) → (c : Caller)
    → span_in (map row_of table) c ≡ option_map (after_entry c place x) (span_in (map row_of table) c)
no_row_of row_of table count same u place x is none =
    no_row (map row_of table) u place x is
    (⊎_elim (λ zeroth. inl zeroth) (λ past. inr (subst (λ n. n < u.0) (same ∙ sym (length-map table row_of)) past)) none)

-- the table before the first entry
numbered-map : {A B : Type 0} (f : A → B) (xs : List A) (n : ℕ) → numbered (map f xs) n ≡ option_map f (numbered xs n)
numbered-map f xs zero = refl
numbered-map f xs (suc n) = by_place f xs n
  where
    by_place : {A B : Type 0} (f : A → B) (xs : List A) (n : ℕ) → slice_get (map f xs) n ≡ option_map f (slice_get xs n)
    by_place f [] n = refl
    by_place f (x ∷ xs) zero = refl
    by_place f (x ∷ xs) (suc n) = by_place f xs n

slice_get-replicate : {A B : Type 0} (y : B) (xs : List A) (n : ℕ) → slice_get (replicate (length xs) y) n ≡ option_map (λ x. y) (slice_get xs n)
slice_get-replicate y [] n = refl
slice_get-replicate y (x ∷ xs) zero = refl
slice_get-replicate y (x ∷ xs) (suc n) = slice_get-replicate y xs n

numbered-replicate : {A B : Type 0} (y : B) (xs : List A) (n : ℕ) → numbered (replicate (length xs) y) n ≡ option_map (λ x. y) (numbered xs n)
numbered-replicate y xs zero = refl
numbered-replicate y xs (suc n) = slice_get-replicate y xs n

abbrev pub empty_rows : List (List Op) → List (List CallNotes)
empty_rows sessions = map (λ (calls : List Op). replicate (length calls) no_notes) sessions

no_call : (n : ℕ) → numbered {A = Op} [] n ≡ None
no_call zero = refl
no_call (suc n) = refl

pub spans_at_start : (script : Script) (c : Caller) → span_in (empty_rows script.sessions) c ≡ option_map (λ (op : Op). notes_of c []) (call_of script c)
spans_at_start script c =
    ap (λ o. when_some o None (λ (row : List CallNotes). option_map span_of (numbered row c.number)))
    (numbered-map (λ (calls : List Op). replicate (length calls) no_notes) script.sessions c.session.0)
    ∙ by_session (numbered script.sessions c.session.0)
  where
    by_call : (o : Option Op) → option_map span_of (option_map (λ (op : Op). no_notes) o) ≡ option_map (λ (op : Op). notes_of c []) o
    by_call None = refl
    by_call (Some op) = refl

    by_session : (o : Option (List Op))
        → when_some (option_map (λ (calls : List Op). replicate (length calls) no_notes) o) None
        (λ (row : List CallNotes). option_map span_of (numbered row c.number))
        ≡ option_map (λ (op : Op). notes_of c []) (numbered (when_some o [] (λ (calls : List Op). calls)) c.number)
    by_session None = ap (option_map (λ (op : Op). notes_of c [])) (sym (no_call c.number))
    by_session (Some calls) = ap (option_map span_of) (numbered-replicate no_notes calls c.number) ∙ by_call (numbered calls c.number)

pub shape_at_start : (sessions : List (List Op)) → shape (empty_rows sessions) ≡ shape sessions
shape_at_start [] = refl
shape_at_start (calls ∷ sessions) = ap (λ n. n ∷ shape (empty_rows sessions))
    (length-replicate (length calls) no_notes) ∙ ap (λ ns. length calls ∷ ns) (shape_at_start sessions)

-- the spans one entry further
pub spans_more : (trace : List Entry) (i : ℕ) (x : Entry) → i < length trace → x ≡ get_or trace i x → (c : Caller) (call : Option Op)
    → option_map (after_entry c (i + 1) x) (option_map (λ (op : Op). notes_of c (reverse (take i trace))) call)
    ≡ option_map (λ (op : Op). notes_of c (reverse (take (i + 1) trace))) call
spans_more trace i x within read c None = refl
spans_more trace i x within read c (Some op) =
    let older : List Entry = reverse (take i trace) in
    let place : length older ≡ i = length-reverse (take i trace) ∙ length-take-le i trace (omega arith) in
    let newest : reverse (take (i + 1) trace) ≡ x ∷ older =
    ap reverse (take_more trace i x within ∙ ap (λ y. take i trace ++ y ∷ []) (sym read)) ∙ reverse-append (take i trace) (x ∷ []) in
    ap (λ s. Some s)
    (ap (λ n. after_entry c (n + 1) x (notes_of c older)) (sym place) ∙ notes_of_more c x older ∙ ap (notes_of c) (sym newest))
