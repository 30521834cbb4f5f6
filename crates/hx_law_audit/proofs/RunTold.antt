-- The lines of a legal history tell its answers.
use Rattle.hx_law_lemmas.proofs.Lemmas.Vocabulary.{[], Answer, ap, Atomic, changed_to, cond_both, Cput, Del, Effect, effect_of, Get, inl, inr, IsIn, IsLegal}
use Rattle.hx_law_lemmas.proofs.Lemmas.Vocabulary.{Item, left_as, List, None, object_now, Op, Option, Put, refl, Some, Space, sym, tests_hold, Value, written}
use Rattle.hx_law_lemmas.proofs.Lemmas.Vocabulary.{◌∙◌, ◌∷◌, ◌≡◌}
use Rattle.hx_types.specs.declared.calls.Answer.TheVariants as an_answer
use Rattle.hx_law_lemmas.proofs.Lemmas.{atomic-both}
use Rattle.hx_report_lines.specs.declared.histories.ItemWord.{ItemWord}
use Rattle.hx_report_lines.specs.declared.histories.ItemWord.TheVariants as words
use Rattle.hx_report_lines.specs.Printed.{word_text}
use Rattle.hx_report.specs.Reporting.{word_of}
use Rattle.hx_audit.specs.Told.{answer_told}
use Rattle.hx_law_audit.proofs.RunLines.{word_for}

-- the answer is the one that its word and the object tell
abbrev TellsBy : Answer → Option (List Value) → Type 0
TellsBy answer object = answer_told (word_for answer) object ≡ answer

-- an item's answer is the one that its line tells
abbrev pub IsTold : Item → Type 0
IsTold x = TellsBy x.answer x.object

pub told_effect : (space : Space) (old : Option (List Value)) (op : Op) → TellsBy (effect_of space old op).answer (effect_of space old op).object
told_effect space old (Put key sets) = refl
told_effect space None (Get key) = refl
told_effect space (Some old) (Get key) = refl
told_effect space None (Del key) = refl
told_effect space (Some old) (Del key) = refl
told_effect space None (Cput key tests sets) = refl
told_effect space (Some old) (Cput key tests sets) =
    cond_both (tests_hold old tests) (changed_to (Some (written old sets))) (left_as (Some old) an_answer.CmpFail) (λ (e : Effect). TellsBy e.answer e.object)
    (λ t. refl)
    (λ t. refl)
told_effect space old (Atomic key edits) = atomic-both (λ (e : Effect). TellsBy e.answer e.object) space old key edits (λ o. refl) refl (λ o. refl) (λ o. refl)
told_effect space old other = refl

pub all_told : (space : Space) (items : List Item) → IsLegal space items → (x : Item) → IsIn x items → IsTold x
all_told space [] legal x i = absurd i
all_told space (y ∷ older) legal x (inl e) =
    (λ j. answer_told (word_for ((ap (λ (z : Item). z.answer) e ∙ legal.0.answer) j)) ((ap (λ (z : Item). z.object) e ∙ legal.0.object) j))
    ∙ told_effect space (object_now older) y.op
    ∙ sym (ap (λ (z : Item). z.answer) e ∙ legal.0.answer)
all_told space (y ∷ older) legal x (inr i) = all_told space older legal.1 x i

-- the word of an answer that is told so is printed as the word of the line
word_is : (w : ItemWord) (object : Option (List Value)) → word_of (answer_told w object) ≡ word_text w
unfolding word_of
word_is words.Done object = refl
word_is words.NotFound object = refl
word_is words.CmpFail object = refl
word_is words.Found object = refl
word_is words.Overflow object = refl
word_is words.TooLong object = refl

pub word_told : (x : Item) → IsTold x → word_of x.answer ≡ word_text (word_for x.answer)
word_told x t = sym (ap word_of t) ∙ word_is (word_for x.answer) x.object
