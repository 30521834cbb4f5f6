-- Posts that were offered to a fate.
use Rattle.std.specs.Prelude.{ℕ, zero, suc, ◌≡◌, ◌+◌, ◌*◌, ◌≤◌, Bool, true, false, not, eqb, List, [], ◌∷◌, map, length}
use Rattle.std.specs.List.{AllByRecursion}
use Rattle.hx_types.specs.declared.messages.Message.{Message}
use Rattle.hx_types.specs.declared.messages.Message.TheVariants as a_message
use Rattle.hx_types.specs.declared.messages.Post.{Post}
use Rattle.hx_types.specs.declared.totals.Totals.{Totals}
use Rattle.hx_clock.specs.Views.{one, total}
use Rattle.hx_fate.specs.declared.fates.Choice.{Choice}
use Rattle.hx_fate.specs.declared.fates.Choice.TheVariants.{Deliver, Lose, Twice}
use Rattle.hx_fate.specs.declared.fates.FateState.{FateState}
use Rattle.hx_fate.specs.States.{after_choice, raised_if, MayRepeat}
use Rattle.hx_mail.specs.declared.views.Mailed.{Mailed}
use Rattle.hx_mail.specs.Ports.{mailed}
use Rattle.hx_outbox.specs.declared.copies.Copies.{Copies}

-- a server's word that it has halted: it is never lost
abbrev pub is_gone : Message → Bool
is_gone a_message.Gone = true
is_gone other = false

abbrev pub times_of : Choice → ℕ
times_of Deliver = 1
times_of Lose = 0
times_of Twice = 2

-- a post, and how often it was put, or kept to be put
pub record Offer : Type 0 where
  pub mailed : Mailed
  pub times : ℕ

abbrev pub offer : Mailed → ℕ → Offer
offer m k = record { mailed = m; times = k }

-- the posts of an entry with their names, from a place on
abbrev pub named : ℕ → ℕ → List Post → List Mailed
named entry place [] = []
named entry place (p ∷ ps) = mailed (record { entry = entry; place = place }) p ∷ named entry (suc place) ps

-- how many were put so often
abbrev pub count_of : ℕ → List Offer → ℕ
count_of k offers = total (λ o. one (eqb k o.times)) offers

-- how many were asked about
abbrev pub asked_of : List Offer → ℕ
asked_of offers = total (λ o. one (not (is_gone o.mailed.post.message))) offers

-- h of all that was put or kept
abbrev pub put_weight : (Mailed → ℕ) → List Offer → ℕ
put_weight h offers = total (λ o. o.times * h o.mailed) offers

-- a count after n more, where it stops at the greatest number
abbrev pub raised_by : ℕ → ℕ → ℕ
raised_by zero count = count
raised_by (suc n) count = raised_by n (raised_if true count)

-- a post that was offered: a word of halting was put once, any other at most twice
pub record IsFair (o : Offer) : Type 0 where
  pub few : o.times ≤ 2
  pub gone : is_gone o.mailed.post.message ≡ true → o.times ≡ 1

-- these posts were offered, in order: what was put or kept went from w to w', the totals from t to t', and the fate's state from f to f'
pub record IsOffered (w w' : (Mailed → ℕ) → ℕ) (t t' : Totals) (f f' : FateState) (ms : List Mailed) : Type 0 where
  pub offers : List Offer
  pub are : map (λ o. o.mailed) offers ≡ ms
  pub fair : AllByRecursion IsFair offers
  -- each was put or kept as often as it was to be, and nothing else was
  pub put : (h : Mailed → ℕ) → w' h ≡ w h + put_weight h offers
  pub posts : t'.posts ≡ t.posts + length offers
  pub deliver : t'.deliver ≡ t.deliver + count_of 1 offers
  pub lose : t'.lose ≡ t.lose + count_of 0 offers
  pub twice : t'.twice ≡ t.twice + count_of 2 offers
  -- the fate was asked about each but the words of halting, and counted what it answered
  pub chosen : f'.chosen ≡ raised_by (asked_of offers) f.chosen
  pub lost : f'.lost ≡ raised_by (count_of 0 offers) f.lost
  pub doubled : f'.doubled ≡ raised_by (count_of 2 offers) f.doubled
  pub tuning : f'.tuning ≡ f.tuning

-- the totals add up
abbrev pub IsTotal : Totals → Type 0
IsTotal t = t.posts ≡ t.deliver + t.lose + t.twice

-- each post has a second copy, where the fate may repeat
abbrev pub HasSeconds : FateState → Copies → Type 0
HasSeconds f c = MayRepeat f → c.seconds.items ≡ c.firsts.items

-- what was chosen for a post, and the fate's state before and after: it isn't asked about a word of halting
abbrev pub IsChoiceOn : Post → Choice → FateState → FateState → Type 0
IsChoiceOn p choice f f' =
    (is_gone p.message ≡ true → (choice ≡ Deliver) × (f' ≡ f))
    × (is_gone p.message ≡ false → f' ≡ after_choice choice f)

-- one more post was counted, by what was chosen for it
pub record IsCounted (choice : Choice) (t t' : Totals) : Type 0 where
  pub posts : t'.posts ≡ t.posts + 1
  pub deliver : t'.deliver ≡ t.deliver + one (eqb 1 (times_of choice))
  pub lose : t'.lose ≡ t.lose + one (eqb 0 (times_of choice))
  pub twice : t'.twice ≡ t.twice + one (eqb 2 (times_of choice))
