-- The lines of subspaces are read again.
use Rattle.hx_law_texts.proofs.Vocabulary.{[], All, All-head, All-tail, AllDiffer, ap, append-nil, append_assoc, ArePart, arith, AxesDraft, Axis, begins_with}
use Rattle.hx_law_texts.proofs.Vocabulary.{codes, decimal, declared_number, false, flat_map, flat_map-cons, has_axis, inl, inr, is_digit, IsSpace, le-leb}
use Rattle.hx_law_texts.proofs.Vocabulary.{length, length-append, line_of_toks, List, lt-ltb, map, MOST_AXES, MOST_PARTS, MOST_REGIONS, MOST_SUBSPACES, name_of}
use Rattle.hx_law_texts.proofs.Vocabulary.{no_axes_yet, Number, Ok, pos, Reason, refl, repeat, Result, Script, Section, Sign, size_of, sizes_sum, Space, subst}
use Rattle.hx_law_texts.proofs.Vocabulary.{sym, Tok, Word, ℕ, ◌*◌, ◌++◌, ◌+◌, ◌<◌, ◌∙◌, ◌∷◌, ◌≡◌, ◌≤◌, ◌⊎◌}
use Rattle.std.proofs.Math.Nat.{mul_assoc, one-le-mul, le-mul_of_pos_right}
use Rattle.hx_types.specs.Spaces.{IsSubspaceOf}
use Rattle.hx_print.specs.Printing.{axis_text, next_axis_text, axes_text, subspace_line as subspace_text}
use Rattle.hx_script.specs.declared.draft.Section.TheVariants as sections
use Rattle.hx_script.specs.declared.line.Until.TheVariants as until
use Rattle.hx_script.specs.Axes.{free_axis, parts, axis, next_axis, subspace}
use Rattle.hx_script.specs.Grammar.{command, subspace_line}
use Rattle.hx_script.specs.Readers.{number_in}
use Rattle.hx_script.specs.Words.{named}
use Rattle.hx_script.proofs.Lemmas.{axes_go_on, axes_end}
use Rattle.hx_law_texts.proofs.Drafts.{cutting}
use Rattle.hx_law_texts.proofs.Names.{IsNamed, all_here, none_before, IsDeclaredAs, declared}
use Rattle.hx_law_texts.proofs.Numbers.{number_says}
use Rattle.hx_law_texts.proofs.Reading.{ReadsTo, line_reads}
use Rattle.hx_law_texts.proofs.Says.{Says, nil_says, blank_says, word_and_blank, comma_says}

-- ---- what the axes say

abbrev pub axis_toks : Space → Axis → List Tok → List Tok
axis_toks s a ts = Word (name_of s a.attribute) ∷ Number (pos a.parts) ∷ ts

abbrev pub more_toks : Space → List Axis → List Tok
more_toks s [] = []
more_toks s (a ∷ rest) = Sign (codes ",") ∷ axis_toks s a (more_toks s rest)

-- an axis of a declared attribute
pub record IsAxis (s : Space) (a : Axis) : Type 0 where
  pub declared : IsDeclaredAs s a.attribute
  pub parts : ArePart a.parts

axis_parts : (w o d r : List ℕ) → (w ++ o ++ d) ++ r ≡ w ++ (o ++ (d ++ r))
axis_parts w o d r = simp append_assoc

axis_says : (s : Space) (a : Axis) (ts : List Tok) (rest : List ℕ) → IsAxis s a → begins_with is_digit rest ≡ false
    → Says ts rest → Says (axis_toks s a ts) (axis_text s a ++ rest)
unfolding axis_text
axis_says s a ts rest is stop h =
    let high : a.parts ≤ MOST_PARTS = is.parts.1 in
    subst (λ (x : List ℕ). Says (axis_toks s a ts) x) (sym (axis_parts (name_of s a.attribute) (codes " ") (decimal a.parts) rest))
    (word_and_blank (name_of s a.attribute) (Number (pos a.parts) ∷ ts)
    (decimal a.parts ++ rest) is.declared.name.word (number_says a.parts ts rest (omega (arith, high)) stop h))

no_digit : (s : Space) (rest : List Axis) → begins_with is_digit (flat_map (next_axis_text s) rest ++ []) ≡ false
unfolding next_axis_text
no_digit s [] = refl
no_digit s (a ∷ rest) = ap (λ (x : List ℕ). begins_with is_digit (x ++ [])) (flat_map-cons (next_axis_text s) a rest)

next_parts : (c t f : List ℕ) → ((c ++ t) ++ f) ++ [] ≡ c ++ (t ++ (f ++ []))
next_parts c t f = simp append_assoc

more_say : (s : Space) (rest : List Axis) → All (IsAxis s) rest → Says (more_toks s rest) (flat_map (next_axis_text s) rest ++ [])
unfolding next_axis_text
more_say s [] all = nil_says
more_say s (a ∷ rest) all =
    let text : flat_map (next_axis_text s) (a ∷ rest) ++ [] ≡ codes ", "
    ++ (axis_text s a ++ (flat_map (next_axis_text s) rest ++ [])) =
    ap (λ (x : List ℕ). x ++ []) (flat_map-cons (next_axis_text s) a rest)
    ∙ next_parts (codes ", ") (axis_text s a) (flat_map (next_axis_text s) rest) in
    let tail : List ℕ = axis_text s a ++ (flat_map (next_axis_text s) rest ++ []) in
    subst (λ (x : List ℕ). Says (more_toks s (a ∷ rest)) x) (sym text)
    (comma_says (axis_toks s a (more_toks s rest)) (32 ∷ tail) (blank_says (axis_toks s a (more_toks s rest)) tail
    (axis_says s a (more_toks s rest) (flat_map (next_axis_text s) rest ++ []) (All-head (IsAxis s) a rest all)
    (no_digit s rest) (more_say s rest (All-tail (IsAxis s) a rest all)))))

-- ---- the axes are read

abbrev grown : AxesDraft → Axis → AxesDraft
grown c a = record { axes = c.axes ++ a ∷ []; size = c.size * a.parts }

-- the axis may stand behind the others
record MayGrow (d : Space) (regions : ℕ) (c : AxesDraft) (w : List ℕ) (a : Axis) : Type 0 where
  pub name : IsNamed w
  pub number : declared_number d w ≡ Ok a.attribute
  pub new : has_axis c.axes a.attribute ≡ false
  pub room : length c.axes < MOST_AXES
  pub part : ArePart a.parts
  pub few : regions + c.size * a.parts ≤ MOST_REGIONS

axis_again : (d : Space) (regions : ℕ) (c : AxesDraft) (w : List ℕ) (a : Axis) (ts : List Tok)
    → MayGrow d regions c w a → axis d regions c (Word w ∷ Number (pos a.parts) ∷ ts) ≡ Ok (grown c a, ts)
unfolding axis free_axis parts number_in named
axis_again d regions c w a ts is = rw (
  is.name.free,
  is.number,
  is.new,
  lt-ltb (length c.axes) MOST_AXES is.room,
  le-leb 1 a.parts is.part.0,
  le-leb a.parts MOST_PARTS is.part.1,
  le-leb (regions + c.size * a.parts) MOST_REGIONS is.few,
) refl

next_again : (d : Space) (regions : ℕ) (c : AxesDraft) (w : List ℕ) (a : Axis) (ts : List Tok)
    → MayGrow d regions c w a → next_axis d regions c (Sign (codes ",") ∷ Word w ∷ Number (pos a.parts) ∷ ts) ≡ Ok (grown c a, ts)
unfolding next_axis
next_again d regions c w a ts is = axis_again d regions c w a ts is

-- the axes that were read and those that are left, of one subspace
pub record IsLeft (s : Space) (regions : ℕ) (c : AxesDraft) (left : List Axis) : Type 0 where
  pub each : All (IsAxis s) left
  pub once : AllDiffer (map (λ (a : Axis). a.attribute) (c.axes ++ left))
  pub few : length c.axes + length left ≤ MOST_AXES
  pub room : regions + c.size * size_of left ≤ MOST_REGIONS

some_size : (s : Space) (axes : List Axis) → All (IsAxis s) axes → 1 ≤ size_of axes
some_size s [] all = omega arith
some_size s (a ∷ axes) all = one-le-mul (All-head (IsAxis s) a axes all).parts.0 (some_size s axes (All-tail (IsAxis s) a axes all))

may_grow : (s d : Space) (regions : ℕ) (c : AxesDraft) (a : Axis) (left : List Axis) → IsLeft s regions c (a ∷ left)
    → declared_number d (name_of s a.attribute) ≡ Ok a.attribute → MayGrow d regions c (name_of s a.attribute) a
may_grow s d regions c a left is number =
    let x : IsAxis s a = All-head (IsAxis s) a left is.each in
    let some : 1 ≤ size_of left = some_size s left (All-tail (IsAxis s) a left is.each) in
    let grows : c.size * a.parts ≤ c.size * a.parts * size_of left = le-mul_of_pos_right (c.size * a.parts) some in
    let same : c.size * a.parts * size_of left ≡ c.size * (a.parts * size_of left) = mul_assoc c.size a.parts (size_of left) in
    let few : length c.axes + length (a ∷ left) ≤ MOST_AXES = is.few in
    let room : regions + c.size * (a.parts * size_of left) ≤ MOST_REGIONS = is.room in
    record {
      name = x.declared.name;
      number = number;
      new = none_before (λ (y : Axis). y.attribute) c.axes a left is.once;
      room = omega (arith, few);
      part = x.parts;
      few = omega (arith, room, same, grows);
    }

left_after : (s : Space) (regions : ℕ) (c : AxesDraft) (a : Axis) (left : List Axis) → IsLeft s regions c (a ∷ left) → IsLeft s regions (grown c a) left
left_after s regions c a left is =
    let few : length c.axes + length (a ∷ left) ≤ MOST_AXES = is.few in
    record {
      each = All-tail (IsAxis s) a left is.each;
      once = subst (λ (xs : List Axis). AllDiffer (map (λ (y : Axis). y.attribute) xs)) (sym (append_assoc c.axes (a ∷ []) left)) is.once;
      few = omega (arith, few, length-append c.axes (a ∷ []));
      room = subst (λ (m : ℕ). regions + m ≤ MOST_REGIONS) (sym (mul_assoc c.size a.parts (size_of left))) is.room;
    }

abbrev axes_ok : List Axis → ℕ → Result (AxesDraft × List Tok) Reason
axes_ok axes size = Ok (record { axes = axes; size = size }, [])

same_axes : (xs ys : List Axis) (m n : ℕ) → xs ≡ ys → m ≡ n → axes_ok xs m ≡ axes_ok ys n
same_axes xs ys m n p q = rw (p, q) refl

-- attributes are found in d as in s
abbrev Finds : Space → Space → List Axis → Type 0
Finds s d axes = All (λ (a : Axis). declared_number d (name_of s a.attribute) ≡ Ok a.attribute) axes

more_again : (left : List Axis) (s d : Space) (regions : ℕ) (c : AxesDraft) → IsLeft s regions c left → Finds s d left
    → repeat until.End (next_axis d regions) c (more_toks s left) ≡ axes_ok (c.axes ++ left) (c.size * size_of left)
more_again [] s d regions c is finds = axes_end d regions c [] refl
    ∙ same_axes c.axes (c.axes ++ []) c.size (c.size * 1) (sym (append-nil c.axes)) (omega arith)
more_again (a ∷ left) s d regions c is finds =
    let P : Axis → Type 0 = λ (x : Axis). declared_number d (name_of s x.attribute) ≡ Ok x.attribute in
    axes_go_on d regions c (more_toks s (a ∷ left)) (grown c a) (more_toks s left) refl
    (next_again d regions c (name_of s a.attribute) a (more_toks s left)
    (may_grow s d regions c a left is (All-head P a left finds)))
    ∙ more_again left s d regions (grown c a) (left_after s regions c a left is) (All-tail P a left finds)
    ∙ same_axes ((c.axes ++ a ∷ []) ++ left) (c.axes ++ a ∷ left) (c.size * a.parts * size_of left)
    (c.size * (a.parts * size_of left)) (append_assoc c.axes (a ∷ []) left) (mul_assoc c.size a.parts (size_of left))

pub subspace_again : (a : Axis) (left : List Axis) (s d : Space) (regions : ℕ)
    → IsLeft s regions no_axes_yet (a ∷ left) → Finds s d (a ∷ left)
    → subspace d regions (axis_toks s a (more_toks s left)) ≡ axes_ok (a ∷ left) (size_of (a ∷ left))
unfolding subspace
subspace_again a left s d regions is finds =
    let P : Axis → Type 0 = λ (x : Axis). declared_number d (name_of s x.attribute) ≡ Ok x.attribute in
    let first : axis d regions no_axes_yet (axis_toks s a (more_toks s left))
    ≡ Ok (grown no_axes_yet a, more_toks s left) =
    axis_again d regions no_axes_yet (name_of s a.attribute) a (more_toks s left)
    (may_grow s d regions no_axes_yet a left is (All-head P a left finds)) in
    let one : 1 * a.parts ≡ a.parts = omega arith in
    rw first (more_again left s d regions (grown no_axes_yet a) (left_after s regions no_axes_yet a left is)
    (All-tail P a left finds) ∙ same_axes (a ∷ left) (a ∷ left) (1 * a.parts * size_of left)
    (a.parts * size_of left) refl (ap (λ (m : ℕ). m * size_of left) one))

-- ---- a subspace

-- the section of a draft in which a subspace may come
abbrev pub MayCut : Section → Type 0
MayCut at = (at ≡ sections.Attributes) ⊎ (at ≡ sections.Subspaces)

subspace_toks : (n : ℕ) (at : Section) (s : Space) (front : List (List Axis)) (regions : ℕ) (a : Axis)
    (left : List Axis) → MayCut at → length front < MOST_SUBSPACES → IsLeft s regions no_axes_yet (a ∷ left) → Finds s s (a ∷ left)
    → line_of_toks n (cutting at s front regions) (Word (codes "subspace") ∷ axis_toks s a (more_toks s left))
    ≡ Ok (cutting sections.Subspaces s (front ++ (a ∷ left) ∷ []) (regions + size_of (a ∷ left)))
unfolding command subspace_line
subspace_toks n at s front regions a left (inl e) room is finds =
    rw (e, lt-ltb (length front) MOST_SUBSPACES room, subspace_again a left s (cutting at s front regions).space regions is finds) refl
subspace_toks n at s front regions a left (inr e) room is finds =
    rw (e, lt-ltb (length front) MOST_SUBSPACES room, subspace_again a left s (cutting at s front regions).space regions is finds) refl

pub line_parts : (k o t f n r : List ℕ) → (k ++ (o ++ t ++ f) ++ n) ++ r ≡ (k ++ (o ++ (t ++ (f ++ [])))) ++ (n ++ r)
line_parts k o t f n r = simp (append_assoc, append-nil)

pub subspace_says : (s : Space) (a : Axis) (left : List Axis) → All (IsAxis s) (a ∷ left)
    → Says (Word (codes "subspace") ∷ axis_toks s a (more_toks s left))
    (codes "subspace" ++ (32 ∷ (axis_text s a ++ (flat_map (next_axis_text s) left ++ []))))
subspace_says s a left all =
    let tail : List ℕ = flat_map (next_axis_text s) left ++ [] in
    word_and_blank (codes "subspace") (axis_toks s a (more_toks s left)) (axis_text s a ++ tail) (record { letter = refl; parts = refl })
    (axis_says s a (more_toks s left) tail (All-head (IsAxis s) a left all) (no_digit s left) (more_say s left (All-tail (IsAxis s) a left all)))

-- what holds of a subspace that may come next
pub record IsNextCut (s : Space) (front : List (List Axis)) (regions : ℕ) (axes : List Axis) : Type 0 where
  pub some : 0 < length axes
  pub left : IsLeft s regions no_axes_yet axes
  pub finds : Finds s s axes
  pub room : length front < MOST_SUBSPACES

subspace_reads : (n : ℕ) (at : Section) (s : Space) (front : List (List Axis)) (regions : ℕ) (axes : List Axis)
    (rest : List ℕ) (script : Script) → MayCut at → IsNextCut s front regions axes
    → ReadsTo (n + 1) (cutting sections.Subspaces s (front ++ axes ∷ []) (regions + size_of axes)) rest script
    → ReadsTo n (cutting at s front regions) (subspace_text s axes ++ rest) script
unfolding subspace_text axes_text
subspace_reads n at s front regions [] rest script here is next = absurd (let some : 0 < length {A = Axis} [] = is.some in omega (arith, some))
subspace_reads n at s front regions (a ∷ left) rest script here is next =
    line_reads n (cutting at s front regions) (cutting sections.Subspaces s (front ++ (a ∷ left) ∷ [])
    (regions + size_of (a ∷ left))) (subspace_text s (a ∷ left) ++ rest)
    (codes "subspace" ++ (32 ∷ (axis_text s a ++ (flat_map (next_axis_text s) left ++ [])))) rest (Word (codes "subspace") ∷ axis_toks s a (more_toks s left)) script
    (line_parts (codes "subspace") (codes " ") (axis_text s a) (flat_map (next_axis_text s) left) (codes "\n") rest)
    (subspace_says s a left is.left.each) (subspace_toks (n + 1) at s front regions a left here is.room is.left is.finds) next

all_map : {A : Type 0} (P Q : A → Type 0) → ((x : A) → P x → Q x) → (xs : List A) → All P xs → All Q xs
all_map P Q f xs all k d lt = f _ (all k d lt)

pub may_cut : (s : Space) (front : List (List Axis)) (regions : ℕ) (axes : List Axis) (more : List (List Axis))
    → IsSpace s → front ++ axes ∷ more ≡ s.subspaces → regions + size_of axes ≤ MOST_REGIONS → IsNextCut s front regions axes
may_cut s front regions axes more is split room =
    let sub : IsSubspaceOf s axes = all_here (IsSubspaceOf s) front axes more (subst (All (IsSubspaceOf s)) (sym split) is.subspaces) in
    let D : Axis → Type 0 = λ (a : Axis). (0 < a.attribute) × (a.attribute ≤ length s.attributes) × ArePart a.parts in
    let each : All (IsAxis s) axes = all_map D (IsAxis s) (λ a d. record { declared = declared s a.attribute is d.0 d.1; parts = d.2 }) axes sub.declared in
    let size : length front + length (axes ∷ more) ≡ length s.subspaces = sym (length-append front (axes ∷ more)) ∙ ap length split in
    let few : length s.subspaces ≤ MOST_SUBSPACES = is.few_subspaces in
    let four : length axes ≤ MOST_AXES = sub.few in
    record {
      some = sub.some;
      left = record {
        each = each;
        once = sub.once;
        few = omega (arith, four);
        room = subst (λ (m : ℕ). regions + m ≤ MOST_REGIONS) (one_times (size_of axes)) room;
      };
      finds = all_map (IsAxis s) (λ (a : Axis). declared_number s (name_of s a.attribute) ≡ Ok a.attribute) (λ a x. x.declared.number) axes each;
      room = omega (arith, size, few);
    }
  where
    one_times : (m : ℕ) → m ≡ 1 * m
    one_times m = omega arith

pub subspaces_read : (more : List (List Axis)) (n : ℕ) (at : Section) (s : Space) (front : List (List Axis))
    (regions : ℕ) (rest : List ℕ) (script : Script) → MayCut at → IsSpace s → front ++ more ≡ s.subspaces
    → regions + sizes_sum more ≤ MOST_REGIONS
    → ((last : Section) → MayCut last → ReadsTo (n + length more)
    (cutting last s s.subspaces (regions + sizes_sum more)) rest script)
    → ReadsTo n (cutting at s front regions) (flat_map (subspace_text s) more ++ rest) script
subspaces_read [] n at s front regions rest script here is split room next =
    let k : n + length {A = List Axis} [] ≡ n = omega arith in
    let r : regions + 0 ≡ regions = omega arith in
    let all : s.subspaces ≡ front = sym split ∙ append-nil front in
    subst (λ (m : ℕ). ReadsTo m (cutting at s front regions) rest script) k
    (subst (λ (m : ℕ). ReadsTo (n + length {A = List Axis} []) (cutting at s front m) rest script) r
    (subst (λ (xs : List (List Axis)). ReadsTo (n + length {A = List Axis} [])
    (cutting at s xs (regions + 0)) rest script) all (next at here)))
subspaces_read (axes ∷ more) n at s front regions rest script here is split room next =
    let text : flat_map (subspace_text s) (axes ∷ more) ++ rest ≡ subspace_text s axes
    ++ (flat_map (subspace_text s) more ++ rest) =
    ap (λ (x : List ℕ). x ++ rest) (flat_map-cons (subspace_text s) axes more)
    ∙ append_assoc (subspace_text s axes) (flat_map (subspace_text s) more) rest in
    let k : n + length (axes ∷ more) ≡ n + 1 + length more = omega arith in
    let whole : regions + (size_of axes + sizes_sum more) ≤ MOST_REGIONS = room in
    let r : regions + (size_of axes + sizes_sum more) ≡ regions + size_of axes + sizes_sum more = omega arith in
    let moved : (front ++ axes ∷ []) ++ more ≡ s.subspaces = append_assoc front (axes ∷ []) more ∙ split in
    subst (λ (x : List ℕ). ReadsTo n (cutting at s front regions) x script) (sym text)
    (subspace_reads n at s front regions axes (flat_map (subspace_text s) more ++ rest) script here
    (may_cut s front regions axes more is split (omega (arith, whole)))
    (subspaces_read more (n + 1) sections.Subspaces s (front ++ axes ∷ []) (regions + size_of axes) rest script (inr refl) is moved (omega (arith, whole))
    (λ last may. subst (λ (m : ℕ). ReadsTo m (cutting last s s.subspaces (regions + size_of axes + sizes_sum more))
    rest script) k (subst (λ (m : ℕ). ReadsTo (n + length (axes ∷ more))
    (cutting last s s.subspaces m) rest script) r (next last may)))))
