-- Words say options one after the other.
use Rattle.std.proofs.Common.{ℕ, ◌≡◌, ◌≢◌, ◌<◌, ◌≤◌, ◌-◌, List, [], ◌∷◌, ◌++◌, map, get_or, take, drop, length, Option}
use Rattle.std.proofs.Common.{Some, None, refl, ap, sym, subst, ◌∙◌, arith}
use Rattle.std.proofs.lemmas.List.{take_all}
use Rattle.std.proofs.lemmas.Option.{none-some, same_Some}
use Rattle.std.specs.declared.string.String.{String}
use Rattle.std.specs.declared.alloc.Global.{Global}
use Rattle.std.specs.Prelude.{◌↔◌, codes, string_bytes}
use Rattle.std.specs.List.{flat_map}
use Rattle.hx_words.specs.declared.options.CommandOption.{CommandOption}
use Rattle.hx_words.specs.declared.options.CommandOption.TheVariants.{Workers, Lose, Repeat, Seed, Trace}
use Rattle.hx_words.specs.declared.choosing.Chosen.{Chosen}
use Rattle.hx_words.specs.Options.{words_of, IsWithin, IsFree, choosing, Choose}
use Rattle.hx_words.specs.Saying.{AreSaid}
use Rattle.hx_words.proofs.Words.{told}

-- an option has a word
spoken : {P : Type 0} (option : CommandOption) (rest : List (List ℕ)) → [] ≡ words_of option ++ rest → P
spoken option rest e = absurd (at option (ap length e))
  where
    at : (option : CommandOption) → 0 ≡ length (words_of option ++ rest) → ⊥
    at (Workers n) e = omega (arith, e)
    at (Lose n) e = omega (arith, e)
    at (Repeat n) e = omega (arith, e)
    at (Seed n) e = omega (arith, e)
    at Trace e = omega (arith, e)

pub none_said : (before after : Chosen) → AreSaid [] before after ↔ (before ≡ after)
none_said before after = (λ s. to s.options s.choose s.said, λ e. record { options = []; choose = e; said = refl })
  where
    to : (options : List CommandOption) → Choose before options after → [] ≡ flat_map words_of options → before ≡ after
    to [] h e = h
    to (o ∷ os) h e = spoken o (flat_map words_of os) e

-- the words of an option, and more: it was free, and the others are said after it
pub first_said : (option : CommandOption) (rest : List (List ℕ)) (before after : Chosen) → IsWithin option
    → AreSaid (words_of option ++ rest) before after ↔ (IsFree before option × AreSaid rest (choosing before option) after)
first_said option rest before after within = (
  λ s. to s.options s.choose s.said,
  λ h. record {
    options = option ∷ h.1.options;
    choose = (within, h.0, h.1.choose);
    said = ap (λ words. words_of option ++ words) h.1.said;
  },
)
  where
    matched : (o : CommandOption) (os : List CommandOption) → IsFree before o → Choose (choosing before o) os after
        → option ≡ o → rest ≡ flat_map words_of os → IsFree before option × AreSaid rest (choosing before option) after
    matched o os free h e said = subst (λ p. IsFree before p × AreSaid rest (choosing before p) after) (sym e)
        (free, record { options = os; choose = h; said = said })

    to : (options : List CommandOption) → Choose before options after
        → words_of option ++ rest ≡ flat_map words_of options → IsFree before option × AreSaid rest (choosing before option) after
    to [] h e = spoken option rest (sym e)
    to (o ∷ os) h e = let same = told option o rest (flat_map words_of os) within h.0 e in matched o os h.1 h.2 same.0 same.1

-- no option has such a name and value
pub never_said : (words rest : List (List ℕ)) (name text : List ℕ) (before after : Chosen)
    → words ≡ name ∷ text ∷ rest → name ≢ codes "--trace"
    → ((option : CommandOption) → words_of option ≡ name ∷ text ∷ [] → IsWithin option → ⊥) → AreSaid words before after → ⊥
never_said words rest name text before after spelled other none s = to s.options s.choose (sym spelled ∙ s.said)
  where
    first : (o : CommandOption) (os : List (List ℕ)) → IsWithin o → name ∷ text ∷ rest ≡ words_of o ++ os → ⊥
    first (Workers n) os h e = none (Workers n) (sym (ap (take 2) e)) h
    first (Lose n) os h e = none (Lose n) (sym (ap (take 2) e)) h
    first (Repeat n) os h e = none (Repeat n) (sym (ap (take 2) e)) h
    first (Seed n) os h e = none (Seed n) (sym (ap (take 2) e)) h
    first Trace os h e = other (ap (λ ws. get_or ws 0 []) e)

    to : (options : List CommandOption) → Choose before options after → name ∷ text ∷ rest ≡ flat_map words_of options → ⊥
    to [] h e = absurd (omega (arith, ap length e))
    to (o ∷ os) h e = first o (flat_map words_of os) h.0 e

-- one word alone is no option but the trace
pub alone_never_said : (words : List (List ℕ)) (name : List ℕ) (before after : Chosen) → words ≡ name ∷ []
    → name ≢ codes "--trace" → AreSaid words before after → ⊥
alone_never_said words name before after spelled other s = to s.options (sym spelled ∙ s.said)
  where
    first : (o : CommandOption) (os : List (List ℕ)) → name ∷ [] ≡ words_of o ++ os → ⊥
    first (Workers n) os e = omega (arith, ap length e)
    first (Lose n) os e = omega (arith, ap length e)
    first (Repeat n) os e = omega (arith, ap length e)
    first (Seed n) os e = omega (arith, ap length e)
    first Trace os e = other (ap (λ ws. get_or ws 0 []) e)

    to : (options : List CommandOption) → name ∷ [] ≡ flat_map words_of options → ⊥
    to [] e = absurd (omega (arith, ap length e))
    to (o ∷ os) e = first o (flat_map words_of os) e

-- an option stands first and is chosen, and what follows says the rest
pub goes_on : (option : CommandOption) (words front rest : List (List ℕ)) (before chosen after : Chosen) (P : Type 0)
    → words_of option ≡ front → IsWithin option → words ≡ front ++ rest → IsFree before option
    × (chosen ≡ choosing before option) → P ↔ AreSaid rest chosen after → P ↔ AreSaid words before after
goes_on option words front rest before chosen after P told within spelled free more = (
  λ p. subst (λ ws. AreSaid ws before after) (sym e)
      (said.1 (free.0, subst (λ x. AreSaid rest x after) free.1 (more.0 p))),
  λ s. more.1 (subst (λ x. AreSaid rest x after) (sym free.1) (said.0 (subst (λ ws. AreSaid ws before after) e s)).1),
)
  where
    e : words ≡ words_of option ++ rest
    e = spelled ∙ ap (λ ws. ws ++ rest) (sym told)

    said : AreSaid (words_of option ++ rest) before after ↔ (IsFree before option × AreSaid rest (choosing before option) after)
    said = first_said option rest before after within

-- an option stands first and was chosen before
pub refused : (option : CommandOption) (words front rest : List (List ℕ)) (before after : Chosen)
    → words_of option ≡ front → IsWithin option → words ≡ front ++ rest → (IsFree before option → ⊥)
    → AreSaid words before after → ⊥
refused option words front rest before after told within spelled taken s =
    taken ((first_said option rest before after within).0
    (subst (λ ws. AreSaid ws before after) (spelled ∙ ap (λ ws. ws ++ rest) (sym told)) s)).0

-- an option that isn't chosen was before
pub taken : (answer : Option Chosen) (option : CommandOption) (before : Chosen)
    → ((after : Chosen) → (answer ≡ Some after) ↔ (IsFree before option × (after ≡ choosing before option)))
    → answer ≡ None → IsFree before option → ⊥
taken answer option before h e free = none-some (choosing before option) (sym e ∙ (h (choosing before option)).1 (free, refl))

-- the first word and the others
pub first_word : (words : List (String Global)) (name : String Global) → 1 ≤ length words → name ≡ get_or words 0 name
    → map string_bytes words ≡ string_bytes name ∷ map string_bytes (take (length words - 1) (drop 1 words))
first_word [] name h e = absurd (omega (arith, h))
first_word (w ∷ words) name h e = ap (λ x. string_bytes x ∷ map string_bytes words) (sym e)
    ∙ ap (λ xs. string_bytes name ∷ map string_bytes xs) (sym (take_all (length (w ∷ words) - 1) words (omega arith)))

-- the first two words and the others
pub two_words : (words : List (String Global)) (one two : String Global) → 2 ≤ length words → one ≡ get_or words 0 one → two ≡ get_or words 1 two
    → map string_bytes words ≡ string_bytes one ∷ string_bytes two ∷ map string_bytes (take (length words - 2) (drop 2 words))
two_words [] one two h e f = absurd (omega (arith, h))
two_words (v ∷ []) one two h e f = absurd (omega (arith, h))
two_words (v ∷ w ∷ words) one two h e f =
    ap (λ x. string_bytes x ∷ string_bytes w ∷ map string_bytes words) (sym e)
    ∙ ap (λ x. string_bytes one ∷ string_bytes x ∷ map string_bytes words) (sym f)
    ∙ ap (λ xs. string_bytes one ∷ string_bytes two ∷ map string_bytes xs) (sym (take_all (length (v ∷ w ∷ words) - 2) words (omega arith)))

-- one word alone
pub one_word : (words : List (String Global)) (name : String Global) → 1 ≤ length words → length words < 2 → name ≡ get_or words 0 name
    → map string_bytes words ≡ string_bytes name ∷ []
one_word [] name h g e = absurd (omega (arith, h))
one_word (w ∷ []) name h g e = ap (λ x. string_bytes x ∷ []) (sym e)
one_word (v ∷ w ∷ words) name h g e = absurd (omega (arith, g))

pub nothing_left : (words : List (String Global)) (before after : Chosen) → length words < 1
    → (Some before ≡ Some after) ↔ AreSaid (map string_bytes words) before after
nothing_left [] before after h = (λ e. (none_said before after).1 (same_Some before after e), λ s. ap Some ((none_said before after).0 s))
nothing_left (w ∷ words) before after h = absurd (omega (arith, h))

pub one_left : (words : List (List ℕ)) (others : List (String Global)) (name first : List ℕ)
    → words ≡ first ∷ map string_bytes others → length others < 1 → name ≡ first → words ≡ name ∷ []
one_left words [] name first e h same = e ∙ ap (λ w. w ∷ []) (sym same)
one_left words (w ∷ others) name first e h same = absurd (omega (arith, h))

pub two_left : (words others rest : List (List ℕ)) (name text first second : List ℕ) → words ≡ first ∷ others
    → others ≡ second ∷ rest → name ≡ first → text ≡ second → words ≡ name ∷ text ∷ rest
two_left words others rest name text first second e f same also =
    e ∙ ap (λ ws. first ∷ ws) f ∙ ap (λ w. w ∷ second ∷ rest) (sym same) ∙ ap (λ w. name ∷ w ∷ rest) (sym also)

-- an answer that is given to no words
pub unanswered : {A : Type 0} (answer : Option A) (x : A) (P : Type 0) → answer ≡ None → (P → ⊥) → (answer ≡ Some x) ↔ P
unanswered answer x P e never = (λ some. absurd (none-some x (sym e ∙ some)), λ p. absurd (never p))
