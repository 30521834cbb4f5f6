-- Names and the numbers of attributes, found again.
use Rattle.hx_law_texts.proofs.Vocabulary.{[], All, All-head, All-tail, AllDiffer, and_left, and_right, arith, Attribute, Bool, bytes_eq, bytes_eq-Decides}
use Rattle.hx_law_texts.proofs.Vocabulary.{codes, declared_number, eqb, false, is_lower, is_word_part, IsKind, IsName, IsSpace, IsWord, known_number, le-leb}
use Rattle.hx_law_texts.proofs.Vocabulary.{length, List, list_all, list_any, LONGEST_NAME, lt-ltb, map, may_name, name_of, NamesDiffer, nat_le, ne_eqb, Ok}
use Rattle.hx_law_texts.proofs.Vocabulary.{position_or_len, refl, slice_get, Some, Space, subst, suc, sym, true, zero, ℕ, ◌++◌, ◌+◌, ◌-◌, ◌<◌, ◌==◌, ◌||◌, ◌∷◌}
use Rattle.hx_law_texts.proofs.Vocabulary.{◌≡◌, ◌≤◌}
use Rattle.std.proofs.Common.{◌≢◌}
use Rattle.hx_types.specs.Spaces.{is_word}

-- a word that is a name where one is wanted
pub record IsNamed (w : List ℕ) : Type 0 where
  pub word : IsWord w
  pub free : may_name w ≡ true
  pub short : nat_le (length w) LONGEST_NAME ≡ true

letter_is_part : (b : ℕ) → is_lower b ≡ true → is_word_part b ≡ true
letter_is_part b e = rw e refl

a_word : (w : List ℕ) → is_word w ≡ true → IsWord w
a_word [] e = absurd cc
a_word (b ∷ rest) e =
    let first : is_lower b ≡ true = and_left (is_lower b) (list_all is_word_part rest) e in
    record { letter = first; parts = rw (letter_is_part b first) (and_right (is_lower b) (list_all is_word_part rest) e) }

pub bytes_same : (a : List ℕ) → bytes_eq a a ≡ true
bytes_same a = (bytes_eq-Decides a a).1 refl

bytes_apart : (a b : List ℕ) → a ≢ b → bytes_eq a b ≡ false
bytes_apart a b apart = by_test (bytes_eq a b) refl
  where
    by_test : (t : Bool) → bytes_eq a b ≡ t → bytes_eq a b ≡ false
    by_test true e = absurd (apart ((bytes_eq-Decides a b).0 e))
    by_test false e = e

pub a_name : (w : List ℕ) → IsName w → IsNamed w
a_name w is = record {
  word = a_word w is.word;
  free = rw (bytes_apart w (codes "if") is.not_if, bytes_apart w (codes "set") is.not_set) refl;
  short = le-leb (length w) LONGEST_NAME is.short;
}

-- ---- items of a list

all_at : {A : Type 0} (P : A → Type 0) (xs : List A) (i : ℕ) (x : A) → All P xs → slice_get xs i ≡ Some x → P x
all_at P [] i x all e = absurd cc
all_at P (y ∷ xs) zero x all e = subst P (some_is y x e) (All-head P y xs all)
  where
    some_is : {A : Type 0} (y x : A) → Some y ≡ Some x → y ≡ x
    some_is y x e = cc
all_at P (y ∷ xs) (suc i) x all e = all_at P xs i x (All-tail P y xs all) e

all_mapped : {A B : Type 0} (P : B → Type 0) (f : A → B) (front : List A) (x : A) (more : List A) → All P (map f (front ++ x ∷ more)) → P (f x)
all_mapped P f [] x more all = All-head P (f x) (map f more) all
all_mapped P f (y ∷ front) x more all = all_mapped P f front x more (All-tail P (f y) (map f (front ++ x ∷ more)) all)

pub all_here : {A : Type 0} (P : A → Type 0) (front : List A) (x : A) (more : List A) → All P (front ++ x ∷ more) → P x
all_here P [] x more all = All-head P x more all
all_here P (y ∷ front) x more all = all_here P front x more (All-tail P y (front ++ x ∷ more) all)

pub neither : (a b : Bool) → a ≡ false → b ≡ false → (a || b) ≡ false
neither true b e f = absurd cc
neither false b e f = f

-- where numbers differ, none before has that of a later item
pub none_before : {A : Type 0} (f : A → ℕ) (front : List A) (x : A) (more : List A)
    → AllDiffer (map f (front ++ x ∷ more)) → list_any (λ y. f y == f x) front ≡ false
none_before f [] x more d = refl
none_before f (y ∷ front) x more d = neither (f y == f x) (list_any (λ z. f z == f x) front)
    (ne_eqb (f y) (f x) (λ e. all_mapped (λ m. m ≢ f y) f front x more d.0 (sym e))) (none_before f front x more d.1)

-- the same of names
pub none_named : {A : Type 0} (f : A → List ℕ) (front : List A) (x : A) (more : List A)
    → NamesDiffer (map f (front ++ x ∷ more)) → list_any (λ y. bytes_eq (f y) (f x)) front ≡ false
none_named f [] x more d = refl
none_named f (y ∷ front) x more d = neither (bytes_eq (f y) (f x)) (list_any (λ z. bytes_eq (f z) (f x)) front)
    (bytes_apart (f y) (f x) (λ e. all_mapped (λ m. m ≢ f y) f front x more d.0 (sym e))) (none_named f front x more d.1)

-- the key's name is none of an attribute
pub key_apart : {A : Type 0} (f : A → List ℕ) (key : List ℕ) (front : List A) (x : A) (more : List A)
    → NamesDiffer (key ∷ map f (front ++ x ∷ more)) → bytes_eq key (f x) ≡ false
key_apart f key front x more d = bytes_apart key (f x) (λ e. all_mapped (λ m. m ≢ key) f front x more d.0 (sym e))

-- ---- attributes by their names

mapped_at : (P : List ℕ → Type 0) (xs : List Attribute) (i : ℕ) (x : Attribute)
    → All P (map (λ (a : Attribute). a.name) xs) → slice_get xs i ≡ Some x → P x.name
mapped_at P [] i x all e = absurd cc
mapped_at P (y ∷ xs) zero x all e = subst (λ (a : Attribute). P a.name) (some_is y x e) (All-head P y.name (map (λ (a : Attribute). a.name) xs) all)
  where
    some_is : (y x : Attribute) → Some y ≡ Some x → y ≡ x
    some_is y x e = cc
mapped_at P (y ∷ xs) (suc i) x all e = mapped_at P xs i x (All-tail P y.name (map (λ (a : Attribute). a.name) xs) all) e

first_named : (xs : List Attribute) (i : ℕ) (x : Attribute) → NamesDiffer (map (λ (a : Attribute). a.name) xs)
    → slice_get xs i ≡ Some x → position_or_len (λ (a : Attribute). bytes_eq a.name x.name) xs ≡ i
first_named [] i x d e = absurd cc
first_named (y ∷ xs) zero x d e = let s : bytes_eq y.name x.name ≡ true =
    subst (λ (a : Attribute). bytes_eq y.name a.name ≡ true) (some_is y x e) (bytes_same y.name) in rw s refl
  where
    some_is : (y x : Attribute) → Some y ≡ Some x → y ≡ x
    some_is y x e = cc
first_named (y ∷ xs) (suc i) x d e =
    let s : bytes_eq y.name x.name ≡ false = bytes_apart y.name x.name (λ f. mapped_at (λ m. m ≢ y.name) xs i x d.0 e (sym f)) in
    let n : 1 + i ≡ suc i = omega arith in
    rw (s, first_named xs i x d.1 e) n

some_at : {A : Type 0} (xs : List A) (i : ℕ) → i < length xs → (x : A) × (slice_get xs i ≡ Some x)
some_at [] i lt = absurd (omega arith)
some_at (x ∷ xs) zero lt = (x, refl)
some_at (x ∷ xs) (suc i) lt = some_at xs i (omega (arith, lt))

pub not_zero : (a : ℕ) → 0 < a → eqb a 0 ≡ false
not_zero a lt = ne_eqb a 0 (λ e. omega (arith, e, lt))

-- the attribute of that number
pub record IsAt (space : Space) (a : ℕ) (x : Attribute) : Type 0 where
  pub some : 0 < a
  pub here : slice_get space.attributes (a - 1) ≡ Some x

attribute_at : (space : Space) (a : ℕ) → 0 < a → a ≤ length space.attributes → (x : Attribute) × IsAt space a x
attribute_at space a low high =
    let s = some_at space.attributes (a - 1) (omega (arith, low, high)) in
    (s.0, record { some = low; here = s.1 })

name_is : (space : Space) (a : ℕ) (x : Attribute) → IsAt space a x → name_of space a ≡ x.name
name_is space a x is = rw (not_zero a is.some, is.here) refl

declared_as : (space : Space) (a : ℕ) (x : Attribute) → IsSpace space → IsAt space a x → a ≤ length space.attributes → declared_number space x.name ≡ Ok a
declared_as space a x s is high =
    let k : position_or_len (λ (y : Attribute). bytes_eq y.name x.name) space.attributes ≡ a - 1 =
    first_named space.attributes (a - 1) x s.names_differ.1 is.here in
    let low : 0 < a = is.some in
    let n : a - 1 + 1 ≡ a = omega (arith, low) in
    rw (k, lt-ltb (a - 1) (length space.attributes) (omega (arith, low, high)), n) refl

-- the name of a declared attribute, by which its number is found
pub record IsDeclaredAs (space : Space) (a : ℕ) : Type 0 where
  pub name : IsNamed (name_of space a)
  pub number : declared_number space (name_of space a) ≡ Ok a

pub declared : (space : Space) (a : ℕ) → IsSpace space → 0 < a → a ≤ length space.attributes → IsDeclaredAs space a
declared space a s low high =
    let at = attribute_at space a low high in
    let e : name_of space a ≡ at.0.name = name_is space a at.0 at.1 in
    record {
      name = subst IsNamed (sym e) (a_name at.0.name
          (all_at (λ (x : Attribute). IsName x.name × IsKind x.kind) space.attributes (a - 1) at.0 s.names at.1.here).0);
      number = subst (λ w. declared_number space w ≡ Ok a) (sym e) (declared_as space a at.0 s at.1 high);
    }

-- the same, and the key's too
pub record IsKnownAs (space : Space) (a : ℕ) : Type 0 where
  pub name : IsNamed (name_of space a)
  pub number : known_number space (name_of space a) ≡ Ok a

pub known : (space : Space) (a : ℕ) → IsSpace space → a ≤ length space.attributes → IsKnownAs space a
known space zero s high = record { name = a_name space.key_name s.key_name; number = rw (bytes_same space.key_name) refl }
known space (suc n) s high =
    let d = declared space (suc n) s (omega arith) high in
    let at = attribute_at space (suc n) (omega arith) high in
    let e : name_of space (suc n) ≡ at.0.name = name_is space (suc n) at.0 at.1 in
    let apart : bytes_eq space.key_name (name_of space (suc n)) ≡ false =
    rw e (bytes_apart space.key_name at.0.name (λ f. mapped_at (λ m. m ≢ space.key_name) space.attributes
    (suc n - 1) at.0 s.names_differ.0 at.1.here (sym f))) in
    record { name = d.name; number = rw apart d.number }
