-- What is printed of calls and objects has no newline, closes its quotes, and has no `>` outside of them.
use Rattle.std.proofs.Common.{◌≡◌, ◌≢◌, ℕ, ℤ, pos, negsuc, zero, suc, ◌+◌, ◌-◌, ◌^◌, ◌<◌, ◌≤◌, Bool, true, false, cond}
use Rattle.std.proofs.Common.{not, ◌&&◌, List, [], ◌∷◌, ◌++◌, length, eqb, Option, None, Some, refl, sym, ap, subst}
use Rattle.std.proofs.Common.{◌∙◌, arith}
use Rattle.std.specs.Prelude.{codes, slice_get, FitsSigned}
use Rattle.std.specs.Fmt.{decimal, signed_decimal}
use Rattle.std.specs.Int.{w64}
use Rattle.std.specs.List.{All, flat_map, list_all}
use Rattle.std.proofs.lemmas.Bool.{eqb-false, eqb-true}
use Rattle.std.proofs.lemmas.List.{append_assoc, append-nil, length-append}
use Rattle.std.proofs.lemmas.List.Elements.{All-cons, All-head, All-nil, All-tail}
use Rattle.hx_lex.specs.Letters.{is_digit, is_word_part}
use Rattle.hx_lex.specs.Spelling.{IsText}
use Rattle.hx_lex.proofs.Lemmas.{and_left, and_right}
use Rattle.hx_model.specs.Types.{Assign, Attribute, Edit, EditKind, Equal, Op, Range, Space, Term, Value}
use Rattle.hx_types.specs.declared.calls.Op.TheVariants as ops
use Rattle.hx_types.specs.declared.limits.TheConstants.{MOST_REGIONS, MOST_SERVERS}
use Rattle.hx_types.specs.declared.values.EditKind.TheVariants as an_edit
use Rattle.hx_types.specs.declared.values.Value.TheVariants as a_value
use Rattle.hx_types.specs.Spaces.{Fits, IsKind, IsName, IsSpace}
use Rattle.hx_types.specs.Words.{when_some}
use Rattle.hx_print.specs.Printing.{add_text, assign_text, cput_text, edit_text, edit_word, escape, name_of}
use Rattle.hx_print.specs.Printing.{named_text, op_text, quoted, range_text, term_text, value_text}
use Rattle.hx_law_texts.specs.Sayable.{CallIsSayable, IsSayable, TermIsSayable, ValuesAreSayable}
use Rattle.hx_law_texts.proofs.Lemmas.{a_name, decimal_digits, text_says, IsClean, both_clean, clean_by, nil_says, on_line}
use Rattle.hx_report_lines.specs.declared.cursor.Place.{Place}
use Rattle.hx_report_lines.specs.declared.cursor.Place.TheVariants.{Outside, Inside, Escaped}
use Rattle.hx_report_lines.specs.Readers.{is_outside, next_place, outside_from}
use Rattle.hx_report_lines.proofs.Lengths.{and_false}

not_so : (a : Bool) → not a ≡ true → a ≡ false
not_so true h = absurd cc
not_so false h = refl

-- a byte that passes a test isn't one that doesn't
another : (p : ℕ → Bool) (b c : ℕ) → p c ≡ false → p b ≡ true → eqb b c ≡ false
another p b c off on = by (eqb b c) refl
  where
    by : (t : Bool) → eqb b c ≡ t → t ≡ false
    by true e = absurd (let same : b ≡ c = eqb-true b c e in let q : true ≡ false = sym on ∙ ap p same ∙ off in cc)
    by false e = refl

-- no line ends within clean bytes
pub one_line_of : (w : List ℕ) → IsClean w → All (λ b. b ≢ 10) w
one_line_of [] h = All-nil (λ b. b ≢ 10)
one_line_of (b ∷ w) h =
    All-cons (λ c. c ≢ 10) b w (eqb-false b 10 (not_so (eqb b 10) (and_left (on_line b) (list_all on_line w) h)))
    (one_line_of w (and_right (on_line b) (list_all on_line w) h))

-- ---- bytes between quotes

-- a byte between quotes
inside_step : (stop b : ℕ) (place : Place) (bs : List ℕ) → is_outside place ≡ false
    → outside_from stop place (b ∷ bs) ≡ suc (outside_from stop (next_place place b) bs)
inside_step stop b place bs h =
    let more : ℕ = suc (outside_from stop (next_place place b) bs) in
    ap (λ t. cond (eqb b stop && t) 0 more) h ∙ ap (λ t. cond t 0 more) (and_false (eqb b stop))

abbrev by_tests : Bool → Bool → Bool → Bool → ℕ → List ℕ
by_tests p q r s b = cond p (codes "\\\"") (cond q (codes "\\\\") (cond r (codes "\\n") (cond s (codes "\\t") (b ∷ []))))

two_more : (n : ℕ) → suc (suc n) ≡ 2 + n
two_more n = omega arith

one_more : (n : ℕ) → suc n ≡ 1 + n
one_more n = omega arith

escaped_pair : (stop c : ℕ) (rest : List ℕ) → outside_from stop Inside (92 ∷ c ∷ rest) ≡ 2 + outside_from stop Inside rest
escaped_pair stop c rest = inside_step stop 92 Inside (c ∷ rest) refl ∙ ap suc (inside_step stop c Escaped rest refl) ∙ two_more (outside_from stop Inside rest)

escape_inside : (stop b : ℕ) (rest : List ℕ) → outside_from stop Inside (escape b ++ rest) ≡ length (escape b) + outside_from stop Inside rest
escape_inside stop b rest = by (eqb b 34) (eqb b 92) (eqb b 10) (eqb b 9) refl refl
  where
    stays : eqb b 34 ≡ false → eqb b 92 ≡ false → next_place Inside b ≡ Inside
    stays e f = ap (λ t. cond t Outside (cond (eqb b 92) Escaped Inside)) e ∙ ap (λ t. cond t Escaped Inside) f

    by : (p q r s : Bool) → eqb b 34 ≡ p → eqb b 92 ≡ q
        → outside_from stop Inside (by_tests p q r s b ++ rest) ≡ length (by_tests p q r s b) + outside_from stop Inside rest
    by true q r s e f = escaped_pair stop 34 rest
    by false true r s e f = escaped_pair stop 92 rest
    by false false true s e f = escaped_pair stop 110 rest
    by false false false true e f = escaped_pair stop 116 rest
    by false false false false e f =
        inside_step stop b Inside rest refl ∙ ap (λ (p : Place). suc (outside_from stop p rest)) (stays e f) ∙ one_more (outside_from stop Inside rest)

inside_all : (stop : ℕ) (t rest : List ℕ) → outside_from stop Inside (flat_map escape t ++ rest) ≡ length (flat_map escape t) + outside_from stop Inside rest
inside_all stop [] rest = let e : outside_from stop Inside rest ≡ 0 + outside_from stop Inside rest = omega arith in e
inside_all stop (b ∷ t) rest =
    let more : List ℕ = flat_map escape t in
    let first = escape_inside stop b (more ++ rest) in
    let all = inside_all stop t rest in
    let long = length-append (escape b) more in
    let sum : length (escape b) + (length more + outside_from stop Inside rest)
    ≡ length (escape b ++ more) + outside_from stop Inside rest = omega (arith, long) in
    ap (outside_from stop Inside) (append_assoc (escape b) more rest) ∙ first ∙ ap (λ n. length (escape b) + n) all ∙ sum

-- a text in quotes has no such byte outside of them
pub quoted_passes : (stop : ℕ) (t rest : List ℕ) → eqb 34 stop ≡ false
    → outside_from stop Outside (quoted t ++ rest) ≡ length (quoted t) + outside_from stop Outside rest
unfolding quoted
quoted_passes stop t rest other =
    let inner : List ℕ = flat_map escape t in
    let bytes : List ℕ = inner ++ 34 ∷ rest in
    let text : (34 ∷ (inner ++ 34 ∷ [])) ++ rest ≡ 34 ∷ bytes = ap (λ x. 34 ∷ x) (append_assoc inner (34 ∷ []) rest) in
    let opens : outside_from stop Outside (34 ∷ bytes) ≡ suc (outside_from stop Inside bytes) =
    ap (λ t. cond (t && true) 0 (suc (outside_from stop Inside bytes))) other in
    let closes : outside_from stop Inside (34 ∷ rest) ≡ suc (outside_from stop Outside rest) = inside_step stop 34 Inside rest refl in
    let long = length-append inner (34 ∷ []) in
    let sum : suc (length inner + suc (outside_from stop Outside rest))
    ≡ suc (length (inner ++ 34 ∷ [])) + outside_from stop Outside rest = omega (arith, long) in
    ap (outside_from stop Outside) text ∙ opens ∙ ap suc (inside_all stop t (34 ∷ rest) ∙ ap (λ n. length inner + n) closes) ∙ sum

-- ---- bytes without newline that close their quotes and have no `>` outside of them

pub record Runs (w : List ℕ) : Type 0 where
  pub clean : IsClean w
  pub passes : (rest : List ℕ) → outside_from 62 Outside (w ++ rest) ≡ length w + outside_from 62 Outside rest

pub nothing_runs : Runs []
nothing_runs = record { clean = refl; passes = λ rest. let e : outside_from 62 Outside rest ≡ 0 + outside_from 62 Outside rest = omega arith in e }

pub joined : (a b : List ℕ) → Runs a → Runs b → Runs (a ++ b)
joined a b x y = record {
  clean = both_clean a b x.clean y.clean;
  passes = λ rest.
      let long = length-append a b in
      let sum : length a + (length b + outside_from 62 Outside rest) ≡ length (a ++ b) + outside_from 62 Outside rest = omega (arith, long) in
      ap (outside_from 62 Outside) (append_assoc a b rest) ∙ x.passes (b ++ rest) ∙ ap (λ n. length a + n) (y.passes rest) ∙ sum;
}

plain_passes : (p : ℕ → Bool) → p 62 ≡ false → p 34 ≡ false → (w rest : List ℕ) → list_all p w ≡ true
    → outside_from 62 Outside (w ++ rest) ≡ length w + outside_from 62 Outside rest
plain_passes p stop quote [] rest h = let e : outside_from 62 Outside rest ≡ 0 + outside_from 62 Outside rest = omega arith in e
plain_passes p stop quote (b ∷ w) rest h =
    let here = and_left (p b) (list_all p w) h in
    let more = plain_passes p stop quote w rest (and_right (p b) (list_all p w) h) in
    let sum : suc (length w + outside_from 62 Outside rest) ≡ suc (length w) + outside_from 62 Outside rest = omega arith in
    ap (λ t. cond (t && true) 0 (suc (outside_from 62 (next_place Outside b) (w ++ rest)))) (another p b 62 stop here)
    ∙ ap (λ t. suc (outside_from 62 (cond t Inside Outside) (w ++ rest))) (another p b 34 quote here)
    ∙ ap suc more ∙ sum

-- bytes of a kind that has none of these three
pub runs_by : (p : ℕ → Bool) → p 62 ≡ false → p 34 ≡ false → p 10 ≡ false → (w : List ℕ) → list_all p w ≡ true → Runs w
runs_by p stop quote newline w h = record { clean = clean_by p newline w h; passes = λ rest. plain_passes p stop quote w rest h }

abbrev plain : ℕ → Bool
plain b = not (eqb b 62) && (not (eqb b 34) && on_line b)

-- words that are written out
pub words_run : (w : List ℕ) → list_all plain w ≡ true → Runs w
words_run w h = runs_by plain refl refl refl w h

pub decimal_runs : (n : ℕ) → n < 2 ^ 64 → Runs (decimal n)
decimal_runs n small = runs_by is_digit refl refl refl (decimal n) (decimal_digits n small)

pub signed_runs : (z : ℤ) → FitsSigned w64 z → Runs (signed_decimal z)
signed_runs (pos n) fits = let small : n < 2 ^ 64 = omega (arith, fits.sfits) in decimal_runs n small
signed_runs (negsuc n) fits =
    let small : suc n < 2 ^ 64 = omega (arith, fits.sfits) in
    joined (codes "-") (decimal (suc n)) (words_run (codes "-") refl) (decimal_runs (suc n) small)

pub name_runs : (w : List ℕ) → IsName w → Runs w
name_runs w is = runs_by is_word_part refl refl refl w (a_name w is).word.parts

pub quoted_runs : (t : List ℕ) → IsText t → Runs (quoted t)
quoted_runs t is = record { clean = subst IsClean (append-nil (quoted t)) (text_says t [] [] is nil_says).clean; passes = λ rest. quoted_passes 62 t rest refl }

pub value_runs : (v : Value) → IsSayable v → Runs (value_text v)
unfolding value_text
value_runs (a_value.Text t) is = quoted_runs t is
value_runs (a_value.Int n) is = signed_runs n is

pub all_run : {A : Type 0} (f : A → List ℕ) (P : A → Type 0) → ((x : A) → P x → Runs (f x)) → (xs : List A) → All P xs → Runs (flat_map f xs)
all_run {A} f P each [] h = nothing_runs
all_run {A} f P each (x ∷ xs) h = joined (f x) (flat_map f xs) (each x (All-head P x xs h)) (all_run f P each xs (All-tail P x xs h))

-- ---- names of attributes

at_place : {A : Type 0} (P : A → Type 0) (xs : List A) (i : ℕ) (x : A) → All P xs → slice_get xs i ≡ Some x → P x
at_place {A} P [] i x h e = absurd cc
at_place {A} P (y ∷ ys) zero x h e = subst P (let q : y ≡ x = cc in q) (All-head P y ys h)
at_place {A} P (y ∷ ys) (suc i) x h e = at_place P ys i x (All-tail P y ys h) e

pub name_of_runs : (space : Space) (n : ℕ) → IsSpace space → Runs (name_of space n)
name_of_runs space n is = by (eqb n 0) (slice_get space.attributes (n - 1)) refl
  where
    by : (b : Bool) (o : Option Attribute) → slice_get space.attributes (n - 1) ≡ o → Runs (cond b space.key_name (when_some o [] (λ (a : Attribute). a.name)))
    by true o e = name_runs space.key_name is.key_name
    by false None e = nothing_runs
    by false (Some a) e = name_runs a.name (at_place (λ (x : Attribute). IsName x.name × IsKind x.kind) space.attributes (n - 1) a is.names e).0

-- ---- calls

pub named_runs : (w : List ℕ) (v : Value) → Runs w → IsSayable v → Runs (named_text w v)
unfolding named_text
named_runs w v is said =
    joined (codes " " ++ w ++ codes "=") (value_text v)
    (joined (codes " " ++ w) (codes "=") (joined (codes " ") w (words_run (codes " ") refl) is)
    (words_run (codes "=") refl)) (value_runs v said)

range_runs : (w : List ℕ) (lo hi : ℤ) → Runs w → FitsSigned w64 lo → FitsSigned w64 hi → Runs (range_text w lo hi)
unfolding range_text
range_runs w lo hi is low high =
    let named : Runs (codes " " ++ w ++ codes "=") =
    joined (codes " " ++ w) (codes "=") (joined (codes " ") w (words_run (codes " ") refl) is) (words_run (codes "=") refl) in
    let first : Runs (codes " " ++ w ++ codes "=" ++ signed_decimal lo) = joined (codes " " ++ w ++ codes "=") (signed_decimal lo) named (signed_runs lo low) in
    joined (codes " " ++ w ++ codes "=" ++ signed_decimal lo ++ codes "..") (signed_decimal hi)
    (joined (codes " " ++ w ++ codes "=" ++ signed_decimal lo) (codes "..") first (words_run (codes "..") refl)) (signed_runs hi high)

assigns_run : (space : Space) (sets : List Assign) → IsSpace space → ValuesAreSayable sets → Runs (flat_map (assign_text space) sets)
assigns_run space sets is said = all_run (assign_text space) (λ (a : Assign). IsSayable a.value)
    (λ a s. named_runs (name_of space a.attribute) a.value (name_of_runs space a.attribute is) s) sets said

term_runs : (space : Space) (t : Term) → IsSpace space → TermIsSayable t → Runs (term_text space t)
term_runs space (Equal a v) is said = named_runs (name_of space a) v (name_of_runs space a is) said
term_runs space (Range a lo hi) is said = range_runs (name_of space a) lo hi (name_of_runs space a is) said.0 said.1

edit_word_runs : (what : EditKind) → Runs (edit_word what)
edit_word_runs an_edit.Add = words_run (codes "add") refl
edit_word_runs an_edit.Append = words_run (codes "append") refl
edit_word_runs an_edit.Min = words_run (codes "min") refl
edit_word_runs an_edit.Max = words_run (codes "max") refl

edit_runs : (space : Space) (e : Edit) → IsSpace space → IsSayable e.value → Runs (edit_text space e)
unfolding edit_text
edit_runs space e is said =
    joined (codes " " ++ edit_word e.what) (named_text (name_of space e.attribute) e.value)
    (joined (codes " ") (edit_word e.what) (words_run (codes " ") refl) (edit_word_runs e.what))
    (named_runs (name_of space e.attribute) e.value (name_of_runs space e.attribute is) said)

keyed : (w key : List ℕ) → list_all plain w ≡ true → IsText key → Runs (w ++ quoted key)
keyed w key h said = joined w (quoted key) (words_run w h) (quoted_runs key said)

cput_runs : (space : Space) (key : List ℕ) (tests sets : List Assign) → IsSpace space → IsText key
    → ValuesAreSayable tests → ValuesAreSayable sets → Runs (cput_text space key tests sets)
unfolding cput_text
cput_runs space key tests sets is said tested written =
    let t : List ℕ = flat_map (assign_text space) tests in
    let front : Runs (codes "cput " ++ quoted key ++ codes " if") =
    joined (codes "cput " ++ quoted key) (codes " if") (keyed (codes "cput ") key refl said) (words_run (codes " if") refl) in
    let upto : Runs (codes "cput " ++ quoted key ++ codes " if" ++ t) =
    joined (codes "cput " ++ quoted key ++ codes " if") t front (assigns_run space tests is tested) in
    joined (codes "cput " ++ quoted key ++ codes " if" ++ t ++ codes " set") (flat_map (assign_text space) sets)
    (joined (codes "cput " ++ quoted key ++ codes " if" ++ t) (codes " set") upto (words_run (codes " set") refl)) (assigns_run space sets is written)

small_server : (space : Space) (n : ℕ) → IsSpace space → n ≤ space.servers → n < 2 ^ 64
small_server space n is within = let most : space.servers ≤ MOST_SERVERS = is.servers.1 in omega (arith, within, most)

small_region : (most n : ℕ) → most ≤ MOST_REGIONS → n < most → n < 2 ^ 64
small_region most n few below = omega (arith, few, below)

pub op_runs : (space : Space) (op : Op) → IsSpace space → Fits space op → CallIsSayable op → Runs (op_text space op)
unfolding op_text add_text
op_runs space (ops.Put key sets) is fit said = joined (codes "put " ++ quoted key) (flat_map (assign_text space) sets)
    (keyed (codes "put ") key refl said.0) (assigns_run space sets is said.1)
op_runs space (ops.Get key) is fit said = keyed (codes "get ") key refl said
op_runs space (ops.Del key) is fit said = keyed (codes "del ") key refl said
op_runs space (ops.Cput key tests sets) is fit said = cput_runs space key tests sets is said.0 said.1 said.2
op_runs space (ops.Search terms) is fit said = joined (codes "search") (flat_map (term_text space) terms)
    (words_run (codes "search") refl) (all_run (term_text space) TermIsSayable (λ t s. term_runs space t is s) terms said)
op_runs space (ops.Stop server) is fit said = joined (codes "stop ") (decimal server.0)
    (words_run (codes "stop ") refl) (decimal_runs server.0 (small_server space server.0 is fit.1))
op_runs space (ops.Add server region) is fit said =
    joined (codes "add " ++ decimal server.0 ++ codes " ") (decimal region.0)
    (joined (codes "add " ++ decimal server.0) (codes " ")
    (joined (codes "add ") (decimal server.0) (words_run (codes "add ") refl)
    (decimal_runs server.0 (small_server space server.0 is fit.0.1))) (words_run (codes " ") refl))
    (decimal_runs region.0 (small_region _ region.0 is.regions fit.1))
op_runs space (ops.Atomic key edits) is fit said =
    joined (codes "atomic " ++ quoted key) (flat_map (edit_text space) edits)
    (keyed (codes "atomic ") key refl said.0) (all_run (edit_text space) (λ (e : Edit). IsSayable e.value)
    (λ e s. edit_runs space e is s) edits said.1)
