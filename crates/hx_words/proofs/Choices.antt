-- Words choose one run, one soak and one share at most.
use Rattle.std.proofs.Common.{ℕ, ◌≡◌, ◌<◌, ◌≤◌, ◌^◌, List, [], ◌∷◌, get_or, drop, Option, Some, None, refl, ap, sym, subst, ◌∙◌, arith}
use Rattle.std.specs.Prelude.{◌↔◌, unwrap_or}
use Rattle.std.specs.Fmt.{decimal}
use Rattle.std.specs.List.{flat_map}
use Rattle.std.proofs.lemmas.Fmt.{decimal_injective}
use Rattle.std.proofs.lemmas.Option.{none-some, same_Some}
use Rattle.hx_types.specs.declared.limits.TheConstants.{MOST_CALLS}
use Rattle.hx_words.specs.declared.options.CommandOption.{CommandOption}
use Rattle.hx_words.specs.declared.choosing.Chosen.{Chosen}
use Rattle.hx_words.specs.declared.commands.Run.{Run}
use Rattle.hx_words.specs.declared.commands.Share.{Share}
use Rattle.hx_words.specs.declared.commands.Soak.{Soak}
use Rattle.hx_words.specs.Options.{words_of, choosing, Choose}
use Rattle.hx_words.specs.Saying.{AreSaid, ChooseRun, ChooseShare, ChooseSoak, OnlyWorkers, nothing_chosen, run_by}
use Rattle.hx_words.proofs.Sayings.{first_said, none_said}

-- what is answered is so exactly where this holds, which it does of one thing alone
pub exactly : {A : Type 0} (Holds : A → Type 0) (answer x : A) → Holds answer → ((x : A) → Holds x → answer ≡ x) → (Some answer ≡ Some x) ↔ Holds x
exactly Holds answer x holds alone = (λ e. subst Holds (same_Some answer x e) holds, λ h. ap Some (alone x h))

one_choice : (options : List CommandOption) (before a b : Chosen) → Choose before options a → AreSaid (flat_map words_of options) before b → a ≡ b
one_choice [] before a b h s = sym h ∙ (none_said before b).0 s
one_choice (o ∷ os) before a b h s = one_choice os (choosing before o) a b h.2 ((first_said o (flat_map words_of os) before b h.0).0 s).1

one_chosen : (words : List (List ℕ)) (a b : Chosen) → AreSaid words nothing_chosen a → AreSaid words nothing_chosen b → a ≡ b
one_chosen words a b s t = one_choice s.options nothing_chosen a b s.choose (subst (λ ws. AreSaid ws nothing_chosen b) s.said t)

pub one_run : (words : List (List ℕ)) (a b : Run) → ChooseRun words a → ChooseRun words b → a ≡ b
one_run words a b s t = s.run_is ∙ ap run_by (one_chosen words s.chosen t.chosen s.said t.said) ∙ sym t.run_is

same_workers : (words : List (List ℕ)) (m n : ℕ) (a b : Chosen) → AreSaid words nothing_chosen a → AreSaid words nothing_chosen b
    → m ≡ unwrap_or a.workers 2 → n ≡ unwrap_or b.workers 2 → m ≡ n
same_workers words m n a b s t first second = first ∙ ap (λ c. unwrap_or c.workers 2) (one_chosen words a b s t) ∙ sym second

pub one_soak : (words : List (List ℕ)) (a b : Soak) → ChooseSoak words a → ChooseSoak words b → a ≡ b
one_soak words a b s t =
    let e = sym s.numbers ∙ t.numbers in
    let seeds : a.seed ≡ b.seed = decimal_injective a.seed b.seed s.seed t.seed (ap (λ ws. get_or ws 0 []) e) in
    let counts : a.calls ≡ b.calls = decimal_injective a.calls b.calls (omega (arith, s.calls.1)) (omega (arith, t.calls.1)) (ap (λ ws. get_or ws 1 []) e) in
    let said = subst (λ ws. AreSaid ws nothing_chosen t.chosen) (sym (ap (drop 2) e)) t.said in
    let threads : a.workers ≡ b.workers = same_workers s.options a.workers b.workers s.chosen t.chosen s.said said s.workers_is t.workers_is in
    ap (λ x. record { seed = x; calls = a.calls; workers = a.workers }) seeds
    ∙ ap (λ x. record { seed = b.seed; calls = x; workers = a.workers }) counts
    ∙ ap (λ x. record { seed = b.seed; calls = b.calls; workers = x }) threads

pub one_share : (words : List (List ℕ)) (a b : Share) → ChooseShare words a → ChooseShare words b → a ≡ b
one_share words a b s t = ap (λ x. record { workers = x }) (same_workers words a.workers b.workers s.chosen t.chosen s.said t.said s.workers_is t.workers_is)

module _ {words : List (List ℕ)} {answer : Option Chosen} (told : (chosen : Chosen) → (answer ≡ Some chosen) ↔ AreSaid words nothing_chosen chosen) where
  -- the words are no options
  pub no_options : (chosen : Chosen) → answer ≡ None → AreSaid words nothing_chosen chosen → ⊥
  no_options chosen none said = none-some chosen (sym none ∙ (told chosen).1 said)

  -- more is chosen than the workers
  pub more_than_workers : (chosen other : Chosen) (alone : Option ℕ)
      → answer ≡ Some chosen → ((n : ℕ) → (alone ≡ Some n) ↔ (OnlyWorkers chosen × (n ≡ unwrap_or chosen.workers 2))) → alone ≡ None
      → AreSaid words nothing_chosen other → OnlyWorkers other → ⊥
  more_than_workers chosen other alone some workers none said only =
      let same = one_chosen words other chosen said ((told chosen).0 some) in
      none-some _ (sym none ∙ (workers (unwrap_or chosen.workers 2)).1 (subst OnlyWorkers same only, refl))

-- the options after a soak's numbers are those of the words
pub options_of : {words options : List (List ℕ)} {seed calls : List ℕ} (soak : Soak) → words ≡ seed ∷ calls ∷ options → (s : ChooseSoak words soak)
    → AreSaid options nothing_chosen s.chosen
options_of soak spelled s = subst (λ ws. AreSaid ws nothing_chosen s.chosen) (sym (ap (drop 2) (sym spelled ∙ s.numbers))) s.said

-- a soak whose numbers the first two words are, and whose workers the others choose
pub numbered : {words options : List (List ℕ)} {seed calls : List ℕ} {chosen : Chosen} (soak : Soak)
    → words ≡ seed ∷ calls ∷ options → AreSaid options nothing_chosen chosen
    → OnlyWorkers chosen × (soak.workers ≡ unwrap_or chosen.workers 2)
    → soak.seed < 2 ^ 64 → seed ≡ decimal soak.seed → (calls ≡ decimal soak.calls) × (1 ≤ soak.calls) × (soak.calls ≤ MOST_CALLS) → ChooseSoak words soak
numbered {options = options} {calls = calls} {chosen} soak spelled said workers small is_seed is_calls = record {
  options = options;
  chosen = chosen;
  said = said;
  only = workers.0;
  workers_is = workers.1;
  seed = small;
  calls = (is_calls.1, is_calls.2);
  numbers = spelled ∙ ap (λ w. w ∷ calls ∷ options) is_seed ∙ ap (λ w. decimal soak.seed ∷ w ∷ options) is_calls.0;
}
