-- Parts of runs that are put behind each other, and lists of them.
use Rattle.std.proofs.Common.{◌≡◌, ◌∙◌, ◌-◌, ◌≤◌, ℕ, List, [], ◌∷◌, ◌++◌, length, map, take, drop, refl, sym, ap, subst, arith}
use Rattle.std.proofs.Math.ListN.{drop_of_length-le}
use Rattle.std.proofs.lemmas.Grind.{flat_map-append}
use Rattle.std.proofs.lemmas.List.{append-nil, length-drop, map-append, take_all}
use Rattle.std.specs.List.{flat_map}
use Rattle.hx_types.specs.declared.traces.Entry.{Entry}
use Rattle.hx_types.specs.declared.traces.Script.{Script}
use Rattle.hx_command.specs.Threads.{no_entries}

-- ---- one more
pub map_more : {A B : Type 0} (f : A → B) (xs : List A) (x : A) (old new : List B) → old ≡ map f xs → new ≡ old ++ f x ∷ [] → new ≡ map f (xs ++ x ∷ [])
map_more f xs x old new was is = is ∙ ap (λ (l : List _). l ++ f x ∷ []) was ∙ sym (map-append f xs (x ∷ []))

pub flat_more : {A B : Type 0} (f : A → List B) (xs : List A) (x : A) (old new : List B) → old ≡ flat_map f xs
    → new ≡ old ++ f x → new ≡ flat_map f (xs ++ x ∷ [])
flat_more f xs x old new was is =
    is ∙ ap (λ (l : List _). l ++ f x) was ∙ ap (λ (l : List _). flat_map f xs ++ l) (sym (append-nil (f x))) ∙ sym (flat_map-append f xs (x ∷ []))

-- all of them
pub flat_all : {A B : Type 0} (f : A → List B) (xs : List A) (i : ℕ) (new : List B) → length xs ≤ i → new ≡ flat_map f (take i xs) → new ≡ flat_map f xs
flat_all f xs i new past is = is ∙ ap (λ (l : List _). flat_map f l) (take_all i xs past)

-- ---- empty traces
-- what stands from a place on
pub from_place : {A : Type 0} (xs ys : List A) (n m : ℕ) → xs ≡ ys → n ≡ m → take (length xs - n) (drop n xs) ≡ drop m ys
from_place xs ys n m same at =
    let past : length (drop n xs) ≤ length xs - n = omega (arith, length-drop n xs) in
    take_all (length xs - n) (drop n xs) past ∙ ap (λ (k : ℕ). drop k xs) at ∙ ap (λ (l : List _). drop m l) same

-- for the spaces from a place on
pub empty_behind : (scripts rest : List Script) (n : ℕ) (own old new : List (List Entry)) → old ≡ own
    → rest ≡ drop n scripts → new ≡ old ++ no_entries rest → new ≡ own ++ no_entries (drop n scripts)
empty_behind scripts rest n own old new same later is =
    is ∙ ap (λ (l : List (List Entry)). l ++ no_entries rest) same ∙ ap (λ (l : List Script). own ++ no_entries l) later

-- where all spaces were run there is none
pub none_empty : (scripts : List Script) (n : ℕ) (traces : List (List Entry)) → n ≡ length scripts → traces ++ no_entries (drop n scripts) ≡ traces
none_empty scripts n traces all =
    let past : length scripts ≤ n = omega (arith, all) in
    ap (λ (l : List Script). traces ++ no_entries l) (drop_of_length-le scripts past) ∙ append-nil traces

-- ---- what is said of two values
pub of_both : {A B : Type 0} (told : A → B → Type 0) (a c : A) (b d : B) → a ≡ c → b ≡ d → told a b → told c d
of_both told a c b d e f h = subst (told c) f (subst (λ x. told x b) e h)

-- ---- all of an iterator's items
no_more : {A : Type 0} (rest : List A) (n : ℕ) → length rest ≡ n → n ≡ 0 → rest ≡ []
no_more [] n h z = refl
no_more (x ∷ rest) n h z = absurd (omega (arith, h, z))

pub all_yielded : {A : Type 0} (xs rest all : List A) (n : ℕ) → xs ++ rest ≡ all → length rest ≡ n → n ≡ 0 → xs ≡ all
all_yielded xs rest all n e h z = sym (append-nil xs) ∙ ap (λ (l : List _). xs ++ l) (sym (no_more rest n h z)) ∙ e
