-- Objects in legal histories belong to the space and can be said, where the operations do and can.
use Rattle.hx_law_lemmas.proofs.Lemmas.Vocabulary.{[], All, and_from, and_parts, Assign, Atomic, Attribute, Bool, changed_to, cond_both, Cput}
use Rattle.hx_law_lemmas.proofs.Lemmas.Vocabulary.{default_of, defaults, Del, Edit, edit_of, edited_from, edited_value, EditKind, Effect, effect_of, Err, Fits}
use Rattle.hx_law_lemmas.proofs.Lemmas.Vocabulary.{fits_64, FitsSigned, Get, inl, inr, int_le, IsIn, IsLegal, IsMaybeObjectOf, IsUtf8-append, IsUtf8-nil, Item}
use Rattle.hx_law_lemmas.proofs.Lemmas.Vocabulary.{Kind, left_as, length, List, list_all, LONGEST_TEXT, ltb-true, nat_le, negsuc, None, object_now, Ok, Op}
use Rattle.hx_law_lemmas.proofs.Lemmas.Vocabulary.{Option, pos, Put, refl, slice_get, slice_set, Some, Space, subst, sym, tests_hold, true, Value, w64}
use Rattle.hx_law_lemmas.proofs.Lemmas.Vocabulary.{written, ℕ, ℤ, ◌++◌, ◌+ℤ◌, ◌+◌, ◌-◌, ◌∷◌, ◌≡◌}
use Rattle.hx_types.specs.declared.calls.Answer.TheVariants as an_answer
use Rattle.hx_types.specs.declared.spaces.Kind.TheVariants as a_kind
use Rattle.hx_types.specs.declared.values.EditKind.TheVariants as an_edit
use Rattle.hx_types.specs.declared.values.Value.TheVariants as a_value
use Rattle.hx_lex.specs.Spelling.{IsText, is_plain}
use Rattle.hx_law_texts.specs.Sayable.{BoundsAreSayable, CallIsSayable, IsSayable}
use Rattle.hx_law_lemmas.proofs.Lemmas.{MadeWith, edited-both, all-in, all-of, in-slice_set, in-slice_get, in-map, when_some_both, effect-sound, and_then-made}

-- what is there can be said
abbrev pub CanBeSaid : Option (List Value) → Type 0
CanBeSaid None = Unit {0}
CanBeSaid (Some object) = All IsSayable object

-- ---- values

all_both : (p : ℕ → Bool) (xs ys : List ℕ) → list_all p xs ≡ true → list_all p ys ≡ true → list_all p (xs ++ ys) ≡ true
all_both p [] ys a b = b
all_both p (x ∷ xs) ys a b = let q = and_parts (p x) (list_all p xs) a in and_from (p x) (list_all p (xs ++ ys)) q.0 (all_both p xs ys q.1 b)

text_both : (old new : List ℕ) → IsText old → IsText new → IsText (old ++ new)
text_both old new h k = record { utf8 = IsUtf8-append old new h.utf8 k.utf8; plain = all_both is_plain old new h.plain k.plain }

default_said : (kind : Kind) → BoundsAreSayable kind → IsSayable (default_of kind)
default_said a_kind.Text h = record { utf8 = IsUtf8-nil; plain = refl }
default_said (a_kind.Int lo hi) h = h.0

defaults_said : (space : Space) → All (λ (a : Attribute). BoundsAreSayable a.kind) space.attributes → All IsSayable (defaults space)
defaults_said space h =
    all-of IsSayable (defaults space)
    (λ v i. let m = in-map (λ (a : Attribute). default_of a.kind) space.attributes v i in
    subst IsSayable (sym m.2) (default_said m.0.kind (all-in (λ (a : Attribute). BoundsAreSayable a.kind) space.attributes m.0 h m.1)))

set_said : (object : List Value) (i : ℕ) (v : Value) → All IsSayable object → IsSayable v → All IsSayable (slice_set object i v)
set_said object i v h k = all-of IsSayable (slice_set object i v)
    (λ x j. elim (in-slice_set object i v x j) [ inl e ↦ subst IsSayable (sym e) k | inr l ↦ all-in IsSayable object x h l ])

written_said : (object : List Value) (sets : List Assign) → All IsSayable object
    → ((a : Assign) → IsIn a sets → IsSayable a.value) → All IsSayable (written object sets)
written_said object [] h k = h
written_said object (a ∷ rest) h k = written_said (slice_set object (a.attribute - 1) a.value) rest
    (set_said object (a.attribute - 1) a.value h (k a (inl refl))) (λ b i. k b (inr i))

fits : (z : ℤ) → fits_64 z ≡ true → FitsSigned w64 z
fits (pos n) e = record { sfits = ltb-true _ _ e }
fits (negsuc n) e = record { sfits = ltb-true _ _ e }

value_said : (what : EditKind) (old by : Value) → IsSayable old → IsSayable by → MadeWith IsSayable (edited_value what old by)
value_said an_edit.Add (a_value.Int v) (a_value.Int i) h k =
    cond_both (fits_64 (v +ℤ i)) (Ok (a_value.Int (v +ℤ i))) (Err an_answer.Overflow) (MadeWith IsSayable) (λ t. fits (v +ℤ i) t) (λ t. tt)
value_said an_edit.Append (a_value.Text old) (a_value.Text new) h k =
    cond_both (nat_le (length old + length new) LONGEST_TEXT) (Ok (a_value.Text (old ++ new))) (Err an_answer.TooLong)
    (MadeWith IsSayable) (λ t. text_both old new h k) (λ t. tt)
value_said an_edit.Add (a_value.Int v) (a_value.Text new) h k = h
value_said an_edit.Add (a_value.Text old) by h k = h
value_said an_edit.Append (a_value.Text old) (a_value.Int i) h k = h
value_said an_edit.Append (a_value.Int v) by h k = h
value_said an_edit.Min (a_value.Int v) (a_value.Int i) h k = cond_both (int_le v i) v i (FitsSigned w64) (λ t. h) (λ t. k)
value_said an_edit.Min (a_value.Int v) (a_value.Text new) h k = h
value_said an_edit.Min (a_value.Text old) by h k = h
value_said an_edit.Max (a_value.Int v) (a_value.Int i) h k = cond_both (int_le v i) i v (FitsSigned w64) (λ t. k) (λ t. h)
value_said an_edit.Max (a_value.Int v) (a_value.Text new) h k = h
value_said an_edit.Max (a_value.Text old) by h k = h

edits_said : (old object : List Value) (edits : List Edit) → All IsSayable old → All IsSayable object
    → ((e : Edit) → IsIn e edits → IsSayable e.value) → MadeWith (All IsSayable) (edited_from old object edits)
edits_said old object [] h k f = k
edits_said old object (e ∷ rest) h k f =
    and_then-made IsSayable (All IsSayable) (edit_of old e) (λ (v : Value). edited_from old (slice_set object (e.attribute - 1) v) rest)
    (when_some_both (slice_get old (e.attribute - 1)) (Ok e.value) (λ (v : Value). edited_value e.what v e.value) (MadeWith IsSayable) (λ q. f e (inl refl))
    (λ v q. value_said e.what v e.value (all-in IsSayable old v h (in-slice_get old (e.attribute - 1) v q)) (f e (inl refl))))
    (λ v m. edits_said old (slice_set object (e.attribute - 1) v) rest h (set_said object (e.attribute - 1) v k m) (λ d i. f d (inr i)))

-- ---- effects

assigns_in : (assigns : List Assign) → All (λ (a : Assign). IsSayable a.value) assigns → (a : Assign) → IsIn a assigns → IsSayable a.value
assigns_in assigns h a i = all-in (λ (b : Assign). IsSayable b.value) assigns a h i

pub effect_said : (space : Space) → All (λ (a : Attribute). BoundsAreSayable a.kind) space.attributes
    → (old : Option (List Value)) (op : Op) → CanBeSaid old → CallIsSayable op → CanBeSaid (effect_of space old op).object
effect_said space bounds None (Put key sets) h k = written_said (defaults space) sets (defaults_said space bounds) (assigns_in sets k.1)
effect_said space bounds (Some old) (Put key sets) h k = written_said old sets h (assigns_in sets k.1)
effect_said space bounds None (Get key) h k = tt
effect_said space bounds (Some old) (Get key) h k = h
effect_said space bounds None (Del key) h k = tt
effect_said space bounds (Some old) (Del key) h k = tt
effect_said space bounds None (Cput key tests sets) h k = tt
effect_said space bounds (Some old) (Cput key tests sets) h k =
    cond_both (tests_hold old tests) (changed_to (Some (written old sets))) (left_as (Some old) an_answer.CmpFail) (λ (e : Effect). CanBeSaid e.object)
    (λ t. written_said old sets h (assigns_in sets k.2))
    (λ t. h)
effect_said space bounds None (Atomic key edits) h k = tt
effect_said space bounds (Some old) (Atomic key edits) h k =
    edited-both (λ (e : Effect). CanBeSaid e.object) (All IsSayable) old (edited_from old old edits)
    (edits_said old old edits h h (λ e i. all-in (λ (d : Edit). IsSayable d.value) edits e k.1 i))
    (λ object m. m) h h
effect_said space bounds old other h k = h

-- ---- histories

module _ (space : Space) (bounds : All (λ (a : Attribute). BoundsAreSayable a.kind) space.attributes) where
  -- the object of each item is of the space and can be said
  abbrev pub IsGood : Option (List Value) → Type 0
  IsGood o = CanBeSaid o × IsMaybeObjectOf space o

  effect_good : (old : Option (List Value)) (op : Op) → IsGood old → Fits space op → CallIsSayable op → IsGood (effect_of space old op).object
  effect_good old op h f k = (effect_said space bounds old op h.0 k, (effect-sound space old op h.1 f).0)

  pub now_good : (items : List Item) → IsLegal space items → ((x : Item) → IsIn x items → Fits space x.op × CallIsSayable x.op) → IsGood (object_now items)
  now_good [] legal ops = (tt, tt)
  now_good (x ∷ older) legal ops =
      let o = ops x (inl refl) in
      subst IsGood (sym legal.0.object) (effect_good (object_now older) x.op (now_good older legal.1 (λ y i. ops y (inr i))) o.0 o.1)

  pub objects_good : (items : List Item) → IsLegal space items
      → ((x : Item) → IsIn x items → Fits space x.op × CallIsSayable x.op) → (x : Item) → IsIn x items → IsGood x.object
  objects_good [] legal ops x i = absurd i
  objects_good (y ∷ older) legal ops x (inl e) = subst (λ (z : Item). IsGood z.object) (sym e) (now_good (y ∷ older) legal ops)
  objects_good (y ∷ older) legal ops x (inr i) = objects_good older legal.1 (λ z j. ops z (inr j)) x i
