-- The lines of attributes are read again.
use Rattle.hx_law_texts.proofs.Vocabulary.{[], All, ap, append-nil, append_assoc, arith, Attribute, Bool, BoundsAreSayable, bytes_eq, codes, false, FitsSigned}
use Rattle.hx_law_texts.proofs.Vocabulary.{flat_map, flat_map-cons, int_le, is_declared, IsKind, IsName, IsSpace, Kind, kind_line, length, length-append}
use Rattle.hx_law_texts.proofs.Vocabulary.{line_of_toks, List, list_any, lt-ltb, map, MOST_ATTRIBUTES, NamesDiffer, Number, Ok, refl, Script, signed_decimal}
use Rattle.hx_law_texts.proofs.Vocabulary.{Space, subst, sym, true, w64, Word, ℕ, ℤ, ◌++◌, ◌+◌, ◌<◌, ◌∙◌, ◌∷◌, ◌≡◌, ◌≤◌}
use Rattle.std.proofs.Common.{T}
use Rattle.std.specs.Prelude.{◌≤ℤ◌}
use Rattle.hx_types.specs.declared.spaces.Kind.TheVariants as kinds
use Rattle.hx_print.specs.Printing.{string_line, int_line, bounds_text, attribute_line as attribute_text}
use Rattle.hx_script.specs.Grammar.{command, attribute_line, string_attribute, int_attribute}
use Rattle.hx_script.specs.Readers.{number_from}
use Rattle.hx_script.specs.Words.{named, new_name}
use Rattle.hx_law_texts.proofs.Drafts.{attributing}
use Rattle.hx_law_texts.proofs.Heads.{one_part, word_word}
use Rattle.hx_law_texts.proofs.Names.{IsNamed, a_name, all_here, neither, key_apart, none_named}
use Rattle.hx_law_texts.proofs.Numbers.{signed_says}
use Rattle.hx_law_texts.proofs.Reading.{ReadsTo, line_reads}
use Rattle.hx_law_texts.proofs.Says.{Says, nil_says, blank_says, word_and_blank}

passes : (b : Bool) → T b → b ≡ true
passes true t = refl
passes false t = absurd t

pub in_order : (lo hi : ℤ) → lo ≤ℤ hi → int_le lo hi ≡ true
in_order lo hi le = passes (int_le lo hi) le.le

-- the attribute may stand behind those
pub record IsNext (s : Space) (front : List Attribute) (w : List ℕ) (k : Kind) : Type 0 where
  pub name : IsNamed w
  pub new : is_declared (attributing s front).space w ≡ false
  pub room : length front < MOST_ATTRIBUTES
  pub kind : IsKind k
  pub bounds : BoundsAreSayable k

abbrev pub with_one : List Attribute → List ℕ → Kind → List Attribute
with_one front w k = front ++ record { name = w; kind = k } ∷ []

string_toks : (n : ℕ) (s : Space) (front : List Attribute) (w : List ℕ) → IsNext s front w kinds.Text
    → line_of_toks n (attributing s front) (Word (codes "string") ∷ Word w ∷ []) ≡ Ok (attributing s (with_one front w kinds.Text))
unfolding command attribute_line string_attribute new_name named
string_toks n s front w is = rw (lt-ltb (length front) MOST_ATTRIBUTES is.room, is.name.free, is.new, is.name.short) refl

int_toks : (n : ℕ) (s : Space) (front : List Attribute) (w : List ℕ) (lo hi : ℤ) → IsNext s front w (kinds.Int lo hi)
    → line_of_toks n (attributing s front) (Word (codes "int") ∷ Word w ∷ Number lo ∷ Number hi ∷ [])
    ≡ Ok (attributing s (with_one front w (kinds.Int lo hi)))
unfolding command attribute_line int_attribute new_name named number_from
int_toks n s front w lo hi is = rw (lt-ltb (length front) MOST_ATTRIBUTES is.room, is.name.free, is.new, is.name.short, in_order lo hi is.kind) refl

pub int_says : (w : List ℕ) (lo hi : ℤ) → IsNamed w → FitsSigned w64 lo → FitsSigned w64 hi
    → Says (Word (codes "int") ∷ Word w ∷ Number lo ∷ Number hi ∷ [])
    (codes "int" ++ (32 ∷ (w ++ (32 ∷ (signed_decimal lo ++ (32 ∷ (signed_decimal hi ++ [])))))))
int_says w lo hi is low high =
    let two : Says (Number hi ∷ []) (signed_decimal hi ++ []) = signed_says hi [] [] high refl nil_says in
    let tail : List ℕ = 32 ∷ (signed_decimal hi ++ []) in
    let one : Says (Number lo ∷ Number hi ∷ []) (signed_decimal lo ++ tail) =
    signed_says lo (Number hi ∷ []) tail low refl (blank_says (Number hi ∷ []) (signed_decimal hi ++ []) two) in
    word_and_blank (codes "int") (Word w ∷ Number lo ∷ Number hi ∷ []) (w ++ (32 ∷ (signed_decimal lo ++ tail)))
    (record { letter = refl; parts = refl }) (word_and_blank w (Number lo ∷ Number hi ∷ [])
    (signed_decimal lo ++ tail) is.word one)

pub int_parts : (a w o l h n r : List ℕ) → (a ++ w ++ (o ++ l ++ o ++ h) ++ n) ++ r ≡ (a ++ (w ++ (o ++ (l ++ (o ++ (h ++ [])))))) ++ (n ++ r)
int_parts a w o l h n r = simp (append_assoc, append-nil)

attribute_reads : (n : ℕ) (s : Space) (front : List Attribute) (w : List ℕ) (k : Kind) (rest : List ℕ)
    (script : Script) → IsNext s front w k → ReadsTo (n + 1) (attributing s (with_one front w k)) rest script
    → ReadsTo n (attributing s front) (kind_line w k ++ rest) script
unfolding string_line int_line bounds_text
attribute_reads n s front w kinds.Text rest script is next =
    line_reads n (attributing s front) (attributing s (with_one front w kinds.Text)) (string_line w ++ rest)
    (codes "string" ++ (32 ∷ (w ++ []))) rest (Word (codes "string") ∷ Word w ∷ []) script
    (one_part (codes "string ") w (codes "\n") rest)
    (word_word (codes "string") w (record { letter = refl; parts = refl }) is.name.word)
    (string_toks (n + 1) s front w is) next
attribute_reads n s front w (kinds.Int lo hi) rest script is next =
    line_reads n (attributing s front) (attributing s (with_one front w (kinds.Int lo hi))) (int_line w lo hi ++ rest)
    (codes "int" ++ (32 ∷ (w ++ (32 ∷ (signed_decimal lo ++ (32 ∷ (signed_decimal hi ++ []))))))) rest
    (Word (codes "int") ∷ Word w ∷ Number lo ∷ Number hi ∷ []) script
    (int_parts (codes "int ") w (codes " ") (signed_decimal lo) (signed_decimal hi) (codes "\n") rest)
    (int_says w lo hi is.name is.bounds.0 is.bounds.1) (int_toks (n + 1) s front w lo hi is) next

-- what each attribute of a space is among those before it
pub may_follow : (s : Space) (front : List Attribute) (a : Attribute) (more : List Attribute) → IsSpace s
    → All (λ (x : Attribute). BoundsAreSayable x.kind) s.attributes → front ++ a ∷ more ≡ s.attributes
    → IsNext s front a.name a.kind
may_follow s front a more is bounds split =
    let named : IsName a.name × IsKind a.kind = all_here
    (λ (x : Attribute). IsName x.name × IsKind x.kind) front a more
    (subst (All (λ (x : Attribute). IsName x.name × IsKind x.kind)) (sym split) is.names) in
    let differ : NamesDiffer (s.key_name ∷ map (λ (x : Attribute). x.name) (front ++ a ∷ more)) =
    subst (λ (xs : List Attribute). NamesDiffer (s.key_name ∷ map (λ (x : Attribute). x.name) xs))
    (sym split) is.names_differ in
    let few : length s.attributes ≤ MOST_ATTRIBUTES = is.attributes in
    let size : length front + length (a ∷ more) ≡ length s.attributes = sym (length-append front (a ∷ more)) ∙ ap length split in
    record {
      name = a_name a.name named.0;
      new = neither (bytes_eq s.key_name a.name) (list_any (λ (x : Attribute). bytes_eq x.name a.name) front)
          (key_apart (λ (x : Attribute). x.name) s.key_name front a more differ)
          (none_named (λ (x : Attribute). x.name) front a more differ.1);
      room = omega (arith, few, size);
      kind = named.1;
      bounds = all_here (λ (x : Attribute). BoundsAreSayable x.kind) front a more (subst (All (λ (x : Attribute). BoundsAreSayable x.kind)) (sym split) bounds);
    }

pub attributes_read : (more : List Attribute) (n : ℕ) (s : Space) (front : List Attribute) (rest : List ℕ)
    (script : Script) → IsSpace s → All (λ (x : Attribute). BoundsAreSayable x.kind) s.attributes → front ++ more ≡ s.attributes
    → ReadsTo (n + length more) (attributing s s.attributes) rest script → ReadsTo n (attributing s front) (flat_map attribute_text more ++ rest) script
attributes_read [] n s front rest script is bounds split next =
    let k : n + length {A = Attribute} [] ≡ n = omega arith in
    let all : s.attributes ≡ front = sym split ∙ append-nil front in
    subst (λ (xs : List Attribute). ReadsTo n (attributing s xs) rest script) all (subst (λ (m : ℕ). ReadsTo m (attributing s s.attributes) rest script) k next)
attributes_read (a ∷ more) n s front rest script is bounds split next =
    let text : flat_map attribute_text (a ∷ more) ++ rest ≡ attribute_text a
    ++ (flat_map attribute_text more ++ rest) = ap (λ (x : List ℕ). x ++ rest)
    (flat_map-cons attribute_text a more) ∙ append_assoc (attribute_text a) (flat_map attribute_text more) rest in
    let k : n + length (a ∷ more) ≡ n + 1 + length more = omega arith in
    let moved : (front ++ a ∷ []) ++ more ≡ s.attributes = append_assoc front (a ∷ []) more ∙ split in
    subst (λ (x : List ℕ). ReadsTo n (attributing s front) x script) (sym text)
    (attribute_reads n s front a.name a.kind (flat_map attribute_text more ++ rest) script (may_follow s front a more is bounds split)
    (attributes_read more (n + 1) s (front ++ a ∷ []) rest script is bounds moved
    (subst (λ (m : ℕ). ReadsTo m (attributing s s.attributes) rest script) k next)))
