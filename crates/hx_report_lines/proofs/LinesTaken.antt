-- Lines of histories, of the trace and of drivers that are printed are read again.
use Rattle.std.proofs.Common.{◌≡◌, ℕ, Bool, true, false, cond, not, ◌&&◌, ◌||◌, List, [], ◌++◌}
use Rattle.std.proofs.Common.{eqb, Option, None, Some, inl, inr, refl, sym, ap, subst, ◌∙◌}
use Rattle.std.specs.Prelude.{◌⊎◌, codes, nat_eq}
use Rattle.std.specs.Fmt.{decimal}
use Rattle.std.specs.List.{list_all, starts_with}
use Rattle.std.specs.Option.{option_map}
use Rattle.std.specs.Str.{IsUtf8, is_utf8}
use Rattle.std.proofs.lemmas.List.{append_assoc, append-nil}
use Rattle.std.proofs.lemmas.Str.{is_utf8-from_IsUtf8}
use Rattle.hx_lex.specs.Letters.{begins_with, is_digit}
use Rattle.hx_lex.specs.Spelling.{IsText}
use Rattle.hx_model.specs.Types.{Space, Totals, Value}
use Rattle.hx_types.specs.Spaces.{IsSpace, KeyFits}
use Rattle.hx_print.specs.Printing.{caller_text, quoted}
use Rattle.hx_report.specs.Driving.{driver_line, totals_text}
use Rattle.hx_report.specs.Tracing.{field_text}
use Rattle.hx_report.specs.Reporting.{state_text}
use Rattle.hx_report_lines.specs.declared.blocks.DriverLine.{DriverLine}
use Rattle.hx_report_lines.specs.declared.histories.ItemLine.{ItemLine}
use Rattle.hx_report_lines.specs.declared.histories.ItemWord.{ItemWord}
use Rattle.hx_report_lines.specs.declared.histories.ItemWord.TheVariants as words
use Rattle.hx_report_lines.specs.Parts.{caller, if_same, item_answer, item_front, item_in, item_of, item_word, key_in, key_of, state_in, text_in}
use Rattle.hx_report_lines.specs.Printed.{driver_text, item_head, item_text, key_text, word_text}
use Rattle.hx_report_lines.specs.Readers.{◌>>=◌, found, give, number, on_some, word}
use Rattle.hx_report_lines.specs.Tailing.{driver_in, driver_of, field, raw_of}
use Rattle.hx_report_lines.specs.Values.{BeginsWith, Is64, IsDriverLine, IsItemOf, IsRawLine}
use Rattle.hx_report_lines.proofs.Takes.{Takes, assoc7, caller_takes, found_takes, kept, number_takes}
use Rattle.hx_report_lines.proofs.Takes.{piece_takes, short_takes, starts, takes_give, takes_then, word_takes}
use Rattle.hx_report_lines.proofs.ValuesTaken.{state_taken, text_taken}

-- ---- items

word_again : (w : ItemWord) → item_word (word_text w) ≡ Some w
word_again words.Done = refl
word_again words.NotFound = refl
word_again words.CmpFail = refl
word_again words.Found = refl
word_again words.Overflow = refl
word_again words.TooLong = refl

no_blank : (w : ItemWord) → list_all (λ b. not (eqb b 32)) (word_text w) ≡ true
no_blank words.Done = refl
no_blank words.NotFound = refl
no_blank words.CmpFail = refl
no_blank words.Found = refl
no_blank words.Overflow = refl
no_blank words.TooLong = refl

answer_takes : (w : ItemWord) (rest : List ℕ) → Takes item_answer (codes " " ++ (word_text w ++ (codes " " ++ rest))) w rest
unfolding item_answer
answer_takes w rest =
    takes_then _ tt (word_text w ++ (codes " " ++ rest)) (word_takes (codes " ") (word_text w ++ (codes " " ++ rest)))
    (takes_then (λ p. found (item_word p) >>= (λ answer. word (codes " ") >>= (λ after. give answer))) (word_text w)
    (codes " " ++ rest) (piece_takes (word_text w) rest (no_blank w))
    (takes_then _ w (codes " " ++ rest) (found_takes (item_word (word_text w)) w (codes " " ++ rest) (word_again w))
    (takes_then _ tt rest (word_takes (codes " ") rest) (takes_give w rest))))

-- an item without its object
abbrev bare : ItemLine → ItemLine
bare x = record { version = x.version; caller = x.caller; word = x.word; object = None }

front_at : (space : Space) (x : ItemLine) (rest : List ℕ) → IsItemOf space x
    → Takes item_front (codes "item " ++ (decimal x.version.0
    ++ (codes " " ++ (caller_text x.caller ++ (codes " " ++ (word_text x.word ++ (codes " " ++ rest))))))) (bare x) rest
unfolding item_front
front_at space x rest is =
    let d : List ℕ = codes " " ++ (word_text x.word ++ (codes " " ++ rest)) in
    let c : List ℕ = caller_text x.caller ++ d in
    takes_then _ tt (decimal x.version.0 ++ (codes " " ++ c)) (word_takes (codes "item ") (decimal x.version.0 ++ (codes " " ++ c)))
    (takes_then _ x.version.0 (codes " " ++ c) (number_takes x.version.0 (codes " " ++ c) is.version refl)
    (takes_then _ tt c (word_takes (codes " ") c)
    (takes_then _ x.caller d (caller_takes x.caller d is.caller refl)
    (takes_then _ x.word rest (answer_takes x.word rest) (takes_give (bare x) rest)))))

front_takes : (space : Space) (x : ItemLine) (rest : List ℕ) → IsItemOf space x → Takes item_front (item_head x ++ rest) (bare x) rest
unfolding item_head
front_takes space x rest is =
    subst (λ bs. Takes item_front bs (bare x) rest)
    (sym (assoc7 (codes "item ") (decimal x.version.0) (codes " ") (caller_text x.caller) (codes " ")
    (word_text x.word) (codes " ") rest)) (front_at space x rest is)

-- the line of an item, without its newline
abbrev pub item_line : Space → ItemLine → List ℕ
item_line space x = item_head x ++ state_text space x.object

pub item_taken : (space : Space) (x : ItemLine) → IsSpace space → IsItemOf space x → item_of space (item_line space x) ≡ Some x
unfolding item_of item_text
item_taken space x valid is =
    let front = front_takes space x (state_text space x.object) is in
    let read : item_in space (item_line space x) ≡ Some x =
    ap (λ o. on_some o (λ y. option_map (λ (v : Option (List Value)). record y.0 { object = v }) (state_in space y.1))) front.at
    ∙ ap (option_map (λ (v : Option (List Value)). record (bare x) { object = v })) (state_taken space x.object valid is.object is.said) in
    ap (λ o. on_some o (if_same (item_text space) (item_line space x))) read
    ∙ kept (item_text space) (item_line space x) x refl

-- the first line of a history
abbrev pub key_line : List ℕ → List ℕ
key_line key = codes "history " ++ quoted key

pub key_taken : (space : Space) (key : List ℕ) → IsSpace space → KeyFits key → IsText key → key_of space (key_line key) ≡ Some key
unfolding key_of key_in key_text
key_taken space key valid fits said =
    let read : on_some (word (codes "history ") (key_line key)) (λ x. text_in space x.1) ≡ Some key =
    ap (λ o. on_some o (λ x. text_in space x.1)) (word_takes (codes "history ") (quoted key)).at ∙ text_taken space key valid fits said in
    ap (λ o. on_some o (if_same key_text (key_line key))) read ∙ kept key_text (key_line key) key refl

-- ---- lines of the trace

utf8_is : (line : List ℕ) → IsUtf8 line → is_utf8 line ≡ true
utf8_is line h = is_utf8-from_IsUtf8 line h

begun : (line : List ℕ) → BeginsWith (codes "entry ") line ⊎ BeginsWith (codes "post ") line
    → (starts_with nat_eq line (codes "entry ") || starts_with nat_eq line (codes "post ")) ≡ true
begun line (inl b) = ap (λ t. t || starts_with nat_eq line (codes "post ")) (ap (λ l. starts_with nat_eq l (codes "entry ")) b.1 ∙ starts (codes "entry ") b.0)
begun line (inr b) = by (starts_with nat_eq line (codes "entry ")) (ap (λ l. starts_with nat_eq l (codes "post ")) b.1 ∙ starts (codes "post ") b.0)
  where
    by : {q : Bool} (p : Bool) → q ≡ true → (p || q) ≡ true
    by {q} true h = refl
    by {q} false h = h

pub raw_taken : (line : List ℕ) → IsRawLine line → raw_of line ≡ Some line
unfolding raw_of
raw_taken line is =
    ap (λ b. cond (b && is_utf8 line) (Some line) None) (begun line is.begins) ∙ ap (λ b. cond b (Some line) None) (utf8_is line is.utf8)

-- ---- drivers

field_takes : (name : List ℕ) (n : ℕ) (rest : List ℕ) → Is64 n → begins_with is_digit rest ≡ false
    → Takes (field (codes " " ++ name ++ codes " ")) (field_text name n ++ rest) n rest
unfolding field field_text
field_takes name n rest n64 stop =
    let label : List ℕ = codes " " ++ name ++ codes " " in
    subst (λ bs. Takes (word label >>= (λ u. number >>= (λ m. give m))) bs n rest) (sym (append_assoc label (decimal n) rest))
    (takes_then _ tt (decimal n ++ rest) (word_takes label (decimal n ++ rest))
    (takes_then _ n rest (number_takes n rest n64 stop) (takes_give n rest)))

-- the line of a driver, without its newline
abbrev pub driver_front : DriverLine → List ℕ
driver_front d = codes "driver " ++ decimal d.driver ++ totals_text d.totals

no_digit : (name : List ℕ) (n : ℕ) (rest : List ℕ) → begins_with is_digit (field_text name n ++ rest) ≡ false
unfolding field_text
no_digit name n rest = refl

totals_at : (t : Totals) → totals_text t ≡ field_text (codes "posts") t.posts
    ++ (field_text (codes "deliver") t.deliver ++ (field_text (codes "lose") t.lose ++ field_text (codes "twice") t.twice))
unfolding totals_text
totals_at t =
    append_assoc (field_text (codes "posts") t.posts ++ field_text (codes "deliver") t.deliver)
    (field_text (codes "lose") t.lose) (field_text (codes "twice") t.twice)
    ∙ append_assoc (field_text (codes "posts") t.posts) (field_text (codes "deliver") t.deliver)
    (field_text (codes "lose") t.lose ++ field_text (codes "twice") t.twice)

driver_at : (d : DriverLine) → IsDriverLine d
    → Takes driver_in (codes "driver " ++ (decimal d.driver
    ++ (field_text (codes "posts") d.totals.posts
    ++ (field_text (codes "deliver") d.totals.deliver
    ++ (field_text (codes "lose") d.totals.lose ++ (field_text (codes "twice") d.totals.twice ++ [])))))) d []
unfolding driver_in
driver_at d is =
    let t4 : List ℕ = field_text (codes "twice") d.totals.twice ++ [] in
    let t3 : List ℕ = field_text (codes "lose") d.totals.lose ++ t4 in
    let t2 : List ℕ = field_text (codes "deliver") d.totals.deliver ++ t3 in
    let t1 : List ℕ = field_text (codes "posts") d.totals.posts ++ t2 in
    takes_then _ tt (decimal d.driver ++ t1) (word_takes (codes "driver ") (decimal d.driver ++ t1))
    (takes_then _ d.driver t1 (short_takes d.driver t1 is.driver (no_digit (codes "posts") d.totals.posts t2))
    (takes_then _ d.totals.posts t2 (field_takes (codes "posts") d.totals.posts t2 is.posts (no_digit (codes "deliver") d.totals.deliver t3))
    (takes_then _ d.totals.deliver t3 (field_takes (codes "deliver") d.totals.deliver t3 is.deliver (no_digit (codes "lose") d.totals.lose t4))
    (takes_then _ d.totals.lose t4 (field_takes (codes "lose") d.totals.lose t4 is.lose (no_digit (codes "twice") d.totals.twice []))
    (takes_then _ d.totals.twice [] (field_takes (codes "twice") d.totals.twice [] is.twice refl) (takes_give d []))))))

pub driver_taken : (d : DriverLine) → IsDriverLine d → driver_of (driver_front d) ≡ Some d
unfolding driver_of driver_line
driver_taken d is =
    let f4 : List ℕ = field_text (codes "twice") d.totals.twice in
    let parts : driver_front d ≡ codes "driver " ++ (decimal d.driver
    ++ (field_text (codes "posts") d.totals.posts
    ++ (field_text (codes "deliver") d.totals.deliver ++ (field_text (codes "lose") d.totals.lose ++ (f4 ++ []))))) =
    append_assoc (codes "driver ") (decimal d.driver) (totals_text d.totals)
    ∙ ap (λ t. codes "driver " ++ (decimal d.driver ++ t)) (totals_at d.totals)
    ∙ ap (λ t. codes "driver " ++ (decimal d.driver
    ++ (field_text (codes "posts") d.totals.posts
    ++ (field_text (codes "deliver") d.totals.deliver ++ (field_text (codes "lose") d.totals.lose ++ t))))) (sym (append-nil f4)) in
    let read : driver_in (driver_front d) ≡ Some (d, []) = ap driver_in parts ∙ (driver_at d is).at in
    ap (λ o. on_some o (λ x. if_same driver_text (driver_front d) x.0)) read ∙ kept driver_text (driver_front d) d refl
