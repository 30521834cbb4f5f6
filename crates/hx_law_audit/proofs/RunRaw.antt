-- The lines of a run's trace: each is of plain bytes, and says first what it is.
use Rattle.std.specs.Fmt.{digits}
use Rattle.hx_law_lemmas.proofs.Lemmas.Vocabulary.{[], Actor, All, and_from, and_parts, ap, append_assoc, arith, Bool, codes, cond-true, cond_both, Coordinator}
use Rattle.hx_law_lemmas.proofs.Lemmas.Vocabulary.{decimal, digit_glyph, digits_onto, Entry, eq-eqb, eqb, eqb-true, false, false≢true, inl, Input, inr, IsAscii}
use Rattle.hx_law_lemmas.proofs.Lemmas.Vocabulary.{IsIn, IsUtf8, IsUtf8-from_ascii, List, list_all, lt-ltb, ltb, ltb-true, Message, not, Post, PostId, refl}
use Rattle.hx_law_lemmas.proofs.Lemmas.Vocabulary.{reverse, Server, Session, subst, suc, sym, true, zero, ℕ, ◌%◌, ◌&&◌, ◌++◌, ◌+◌, ◌/◌, ◌<◌, ◌∙◌, ◌∷◌, ◌≡◌, ◌≢◌}
use Rattle.hx_law_lemmas.proofs.Lemmas.Vocabulary.{◌⊎◌}
use Rattle.hx_types.specs.declared.messages.Message.TheVariants as a_message
use Rattle.hx_types.specs.declared.traces.Input.TheVariants as an_input
use Rattle.hx_print.specs.Printing.{actor_text, post_name}
use Rattle.hx_report.specs.Tracing.{field_text, input_text, message_text, post_head, reconfiguration_text}
use Rattle.hx_law_lemmas.proofs.Lemmas.{all-of, in-append}

-- ---- the lines

abbrev pub post_raw : ℕ → ℕ → Post → List ℕ
post_raw entry place p = post_head entry place p ++ codes " " ++ message_text p.message

abbrev pub posts_raw : ℕ → ℕ → List Post → List (List ℕ)
posts_raw entry place [] = []
posts_raw entry place (p ∷ rest) = post_raw entry place p ∷ posts_raw entry (place + 1) rest

abbrev pub entry_raw : ℕ → Entry → List ℕ
entry_raw number x = codes "entry " ++ decimal number ++ codes " " ++ actor_text x.actor ++ codes " " ++ input_text x.input

abbrev pub entries_raw : ℕ → List Entry → List (List ℕ)
entries_raw number [] = []
entries_raw number (x ∷ rest) = entry_raw number x ∷ (posts_raw number 0 x.outputs ++ entries_raw (number + 1) rest)

abbrev pub trace_raw : Bool → List Entry → List (List ℕ)
trace_raw false trace = []
trace_raw true trace = entries_raw 1 (reverse trace)

-- ---- their bytes

-- a byte of a line in ASCII
abbrev pub is_line_byte : ℕ → Bool
is_line_byte b = ltb b 128 && not (eqb b 10)

abbrev pub IsLine : List ℕ → Type 0
IsLine bytes = list_all is_line_byte bytes ≡ true

both : (xs ys : List ℕ) → IsLine xs → IsLine ys → IsLine (xs ++ ys)
both [] ys a b = b
both (x ∷ xs) ys a b = let q = and_parts (is_line_byte x) (list_all is_line_byte xs) a in
    and_from (is_line_byte x) (list_all is_line_byte (xs ++ ys)) q.0 (both xs ys q.1 b)

glyph_ok : (n : ℕ) → is_line_byte (digit_glyph false (n % 10)) ≡ true
glyph_ok n = at (n % 10) (omega arith)
  where
    apart : (b : ℕ) → 47 < b → eqb b 10 ≡ false
    apart b l = by (eqb b 10) refl
      where
        by : (t : Bool) → eqb b 10 ≡ t → eqb b 10 ≡ false
        by false e = e
        by true e = absurd (let q = eqb-true b 10 e in omega (arith, l, q))

    at : (m : ℕ) → m < 10 → is_line_byte (digit_glyph false m) ≡ true
    at m l =
        let g : digit_glyph false m ≡ 48 + m = cond-true (ltb m 10) (48 + m) (87 + m) (lt-ltb m 10 l) in
        ap is_line_byte g ∙ and_from (ltb (48 + m) 128) (not (eqb (48 + m) 10)) (lt-ltb (48 + m) 128 (omega (arith, l))) (ap not (apart (48 + m) (omega arith)))

onto_ok : (k n : ℕ) (acc : List ℕ) → IsLine acc → IsLine (digits_onto k 10 false n acc)
onto_ok zero n acc h = h
onto_ok (suc k) n acc h =
    let more = and_from (is_line_byte (digit_glyph false (n % 10))) (list_all is_line_byte acc) (glyph_ok n) h in
    cond_both (eqb (n / 10) 0) (digit_glyph false (n % 10) ∷ acc) (digits_onto k 10 false (n / 10) (digit_glyph false (n % 10) ∷ acc)) IsLine
    (λ t. more)
    (λ t. onto_ok k (n / 10) (digit_glyph false (n % 10) ∷ acc) more)

decimal_ok : (n : ℕ) → IsLine (decimal n)
unfolding digits
decimal_ok n = onto_ok 64 n [] refl

actor_ok : (a : Actor) → IsLine (actor_text a)
unfolding actor_text
actor_ok Coordinator = refl
actor_ok (Server s) = both (codes "s") (decimal s.0) refl (decimal_ok s.0)
actor_ok (Session u) = both (codes "u") (decimal u.0) refl (decimal_ok u.0)

name_ok : (id : PostId) → IsLine (post_name id)
unfolding post_name
name_ok id = both (decimal id.entry ++ codes ".") (decimal id.place) (both (decimal id.entry) (codes ".") (decimal_ok id.entry) refl) (decimal_ok id.place)

field_ok : (name : List ℕ) (n : ℕ) → IsLine name → IsLine (field_text name n)
unfolding field_text
field_ok name n h = both (codes " " ++ name ++ codes " ") (decimal n) (both (codes " " ++ name) (codes " ") (both (codes " ") name refl h) refl) (decimal_ok n)

-- a word and one, two or three fields
one_ok : (w a : List ℕ) (n : ℕ) → IsLine w → IsLine a → IsLine (w ++ field_text a n)
one_ok w a n h k = both w (field_text a n) h (field_ok a n k)

two_ok : (w a b : List ℕ) (n m : ℕ) → IsLine w → IsLine a → IsLine b → IsLine (w ++ field_text a n ++ field_text b m)
two_ok w a b n m h k l = both (w ++ field_text a n) (field_text b m) (one_ok w a n h k) (field_ok b m l)

three_ok : (w a b c : List ℕ) (n m i : ℕ) → IsLine w → IsLine a → IsLine b → IsLine c → IsLine (w ++ field_text a n ++ field_text b m ++ field_text c i)
three_ok w a b c n m i h k l j = both (w ++ field_text a n ++ field_text b m) (field_text c i) (two_ok w a b n m h k l) (field_ok c i j)

reconfiguration_ok : (m : Message) → IsLine (reconfiguration_text m)
unfolding reconfiguration_text
reconfiguration_ok (a_message.Seal epoch) = one_ok (codes "seal") (codes "epoch") epoch.0 refl refl
reconfiguration_ok (a_message.Sealed epoch) = one_ok (codes "sealed") (codes "epoch") epoch.0 refl refl
reconfiguration_ok (a_message.Install config) = one_ok (codes "install") (codes "epoch") config.epoch.0 refl refl
reconfiguration_ok a_message.Die = refl
reconfiguration_ok a_message.Gone = refl
reconfiguration_ok (a_message.StopServer number server) = two_ok (codes "stop") (codes "number") (codes "server") number server.0 refl refl refl
reconfiguration_ok (a_message.AddReplica number server region) =
    three_ok (codes "add") (codes "number") (codes "server") (codes "region") number server.0 region.0 refl refl refl refl
reconfiguration_ok (a_message.Outcome number answer) = one_ok (codes "answer") (codes "number") number refl refl
reconfiguration_ok (a_message.Snap epoch region snapshot pending) = two_ok (codes "snap") (codes "epoch") (codes "region") epoch.0 region.0 refl refl refl
reconfiguration_ok (a_message.Ready epoch region) = two_ok (codes "ready") (codes "epoch") (codes "region") epoch.0 region.0 refl refl refl
reconfiguration_ok (a_message.Poll epoch) = one_ok (codes "poll") (codes "epoch") epoch.0 refl refl
reconfiguration_ok other = refl

message_ok : (m : Message) → IsLine (message_text m)
unfolding message_text
message_ok (a_message.Call epoch number op) = two_ok (codes "call") (codes "epoch") (codes "number") epoch.0 number refl refl refl
message_ok (a_message.Reply number version answer) = two_ok (codes "reply") (codes "number") (codes "version") number version.0 refl refl refl
message_ok (a_message.Update epoch region update) =
    three_ok (codes "update") (codes "epoch") (codes "region")
    (codes "version") epoch.0 region.0 update.version.0 refl refl refl refl
message_ok (a_message.Ack epoch region by key version) =
    three_ok (codes "ack") (codes "epoch") (codes "region") (codes "version") epoch.0 region.0 version.0 refl refl refl refl
message_ok (a_message.Ask epoch number region terms) =
    three_ok (codes "ask") (codes "epoch") (codes "number") (codes "region") epoch.0 number region.0 refl refl refl refl
message_ok (a_message.Found epoch number region rows) =
    three_ok (codes "found") (codes "epoch") (codes "number") (codes "region") epoch.0 number region.0 refl refl refl refl
message_ok other = reconfiguration_ok other

input_ok : (input : Input) → IsLine (input_text input)
unfolding input_text
input_ok an_input.Tick = refl
input_ok an_input.Halt = refl
input_ok (an_input.Deliver id from message) = both (codes "deliver ") (post_name id) refl (name_ok id)

head_ok : (entry place : ℕ) (p : Post) → IsLine (post_head entry place p)
unfolding post_head
head_ok entry place p =
    let id : PostId = record { entry = entry; place = place } in
    both (codes "post " ++ post_name id ++ codes " ") (actor_text p.to)
    (both (codes "post " ++ post_name id) (codes " ") (both (codes "post ") (post_name id) refl (name_ok id)) refl)
    (actor_ok p.to)

-- ---- what they begin with

pub record IsRaw (line : List ℕ) : Type 0 where
  pub rest : List ℕ
  pub begins : (line ≡ codes "entry " ++ rest) ⊎ (line ≡ codes "post " ++ rest)
  pub plain : IsLine line

post_is : (entry place : ℕ) (p : Post) → IsRaw (post_raw entry place p)
unfolding post_head
post_is entry place p = record {
  rest = head_rest ++ codes " " ++ message_text p.message;
  begins = inr (ap (λ h. h ++ codes " " ++ message_text p.message) begins
      ∙ ap (λ l. l ++ message_text p.message) (append_assoc (codes "post ") head_rest (codes " "))
      ∙ append_assoc (codes "post ") (head_rest ++ codes " ") (message_text p.message));
  plain = both (post_head entry place p ++ codes " ") (message_text p.message)
      (both (post_head entry place p) (codes " ") (head_ok entry place p) refl) (message_ok p.message);
}
  where
    head_rest : List ℕ
    head_rest = post_name (record { entry = entry; place = place }) ++ codes " " ++ actor_text p.to

    parted : (w n s a : List ℕ) → w ++ n ++ s ++ a ≡ w ++ (n ++ s ++ a)
    parted w n s a = simp append_assoc

    begins : post_head entry place p ≡ codes "post " ++ head_rest
    begins = parted (codes "post ") (post_name (record { entry = entry; place = place })) (codes " ") (actor_text p.to)

entry_is : (number : ℕ) (x : Entry) → IsRaw (entry_raw number x)
entry_is number x = record {
  rest = decimal number ++ codes " " ++ actor_text x.actor ++ codes " " ++ input_text x.input;
  begins = inl (parted (codes "entry ") (decimal number) (codes " ") (actor_text x.actor) (codes " ") (input_text x.input));
  plain =
      both (codes "entry " ++ decimal number ++ codes " " ++ actor_text x.actor ++ codes " ") (input_text x.input)
      (both (codes "entry " ++ decimal number ++ codes " " ++ actor_text x.actor) (codes " ")
      (both (codes "entry " ++ decimal number ++ codes " ") (actor_text x.actor)
      (both (codes "entry " ++ decimal number) (codes " ") (both (codes "entry ") (decimal number) refl (decimal_ok number)) refl)
      (actor_ok x.actor))
      refl)
      (input_ok x.input);
}
  where
    parted : (w n s a t i : List ℕ) → w ++ n ++ s ++ a ++ t ++ i ≡ w ++ (n ++ s ++ a ++ t ++ i)
    parted w n s a t i = simp append_assoc

posts_are : (entry place : ℕ) (ps : List Post) (l : List ℕ) → IsIn l (posts_raw entry place ps) → IsRaw l
posts_are entry place [] l i = absurd i
posts_are entry place (p ∷ rest) l (inl e) = subst IsRaw (sym e) (post_is entry place p)
posts_are entry place (p ∷ rest) l (inr i) = posts_are entry (place + 1) rest l i

entries_are : (number : ℕ) (xs : List Entry) (l : List ℕ) → IsIn l (entries_raw number xs) → IsRaw l
entries_are number [] l i = absurd i
entries_are number (x ∷ rest) l (inl e) = subst IsRaw (sym e) (entry_is number x)
entries_are number (x ∷ rest) l (inr i) = elim (in-append (posts_raw number 0 x.outputs) (entries_raw (number + 1) rest) l i) [
  | inl j ↦ posts_are number 0 x.outputs l j
  | inr j ↦ entries_are (number + 1) rest l j
]

pub trace_is : (with_trace : Bool) (trace : List Entry) (l : List ℕ) → IsIn l (trace_raw with_trace trace) → IsRaw l
trace_is false trace l i = absurd i
trace_is true trace l i = entries_are 1 (reverse trace) l i

-- ---- plain bytes are a text of one line

pub one_line : (bytes : List ℕ) → IsLine bytes → All (λ b. b ≢ 10) bytes
one_line bytes h = all-of (λ b. b ≢ 10) bytes (λ b i e. let t = line_byte bytes h b i in
    false≢true (sym (ap not (eq-eqb b 10 e)) ∙ (and_parts (ltb b 128) (not (eqb b 10)) t).1))
  where
    line_byte : (bs : List ℕ) → IsLine bs → (b : ℕ) → IsIn b bs → is_line_byte b ≡ true
    line_byte [] h b i = absurd i
    line_byte (x ∷ bs) h b (inl e) = ap is_line_byte e ∙ (and_parts (is_line_byte x) (list_all is_line_byte bs) h).0
    line_byte (x ∷ bs) h b (inr i) = line_byte bs (and_parts (is_line_byte x) (list_all is_line_byte bs) h).1 b i

ascii : (bytes : List ℕ) → IsLine bytes → IsAscii bytes
ascii [] h zero = omega arith
ascii [] h (suc i) = omega arith
ascii (x ∷ bytes) h zero = ltb-true x 128 (and_parts (ltb x 128) (not (eqb x 10)) (and_parts (is_line_byte x) (list_all is_line_byte bytes) h).0).0
ascii (x ∷ bytes) h (suc i) = ascii bytes (and_parts (is_line_byte x) (list_all is_line_byte bytes) h).1 i

pub text_of_line : (bytes : List ℕ) → IsLine bytes → IsUtf8 bytes
text_of_line bytes h = IsUtf8-from_ascii bytes (ascii bytes h)
