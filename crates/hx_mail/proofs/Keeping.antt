-- What stays of a port: its name, and that it carries it.
use Rattle.std.proofs.Common.{◌≡◌, ℕ, ◌≤◌, eqb, List, ◌++◌, map, Some, refl, sym, subst, ◌∙◌, arith}
use Rattle.std.specs.Prelude.{Option, None, MatchOption}
use Rattle.crossbeam_queue.specs.Fifo.{Forks}
use Rattle.hx_clock.specs.Views.{either_count, one}
use Rattle.hx_clock.proofs.Lemmas.{total-append}
use Rattle.hx_mail.specs.declared.envelopes.Letter.{Letter}
use Rattle.hx_mail.specs.declared.views.BoxNames.{BoxNames}
use Rattle.hx_mail.specs.declared.views.Mailed.{Mailed}
use Rattle.hx_mail.specs.declared.views.PortLists.{PortLists}
use Rattle.hx_mail.specs.declared.views.PortView.{PortView}
use Rattle.hx_mail.specs.declared.views.Sent.{Sent}
use Rattle.hx_mail.specs.Boxes.{IsFor}
use Rattle.hx_mail.specs.Ports.{port, first_port, spent_port, times, put_in, take_in, after_put, after_take, joined_port, sent_of, CarriesName}
use Rattle.hx_mail.specs.Rule.{IsKept}
use Rattle.hx_mail.proofs.Lists.{times-map, put_in-name, take_in-name}
use Rattle.hx_mail.proofs.Steps.{binds}

pub binds_first : (id : ℕ) (v : PortView) (given : Option BoxNames) (m : BoxNames) → v ≡ first_port None
    → given ≡ Some m → Forks IsKept id v (port v.own given v.lists v.splits) spent_port
binds_first id v given m is e =
    let P : PortView → Type 0 = λ v. Forks IsKept id v (port v.own given v.lists v.splits) spent_port in
    subst P (sym is) (binds id 0 0 _ given m e)

pub put_more : (own : ℕ) (m : Mailed) (bs : List PortLists) (k : ℕ) → times k bs ≤ times k (map (put_in own m) bs)
put_more own m bs k = omega (arith, times-map k (put_in own m) bs (put_in-name own m))

pub take_more : (own : ℕ) (s : Sent) (bs : List PortLists) (k : ℕ) → times k bs ≤ times k (map (take_in own s) bs)
take_more own s bs k = omega (arith, times-map k (take_in own s) bs (take_in-name own s))

pub join_more : (k : ℕ) (xs ys : List PortLists) → times k xs ≤ times k (xs ++ ys)
join_more k xs ys = omega (arith, total-append (λ b. one (eqb k b.name)) xs ys)

-- what a port's fields say of its view
abbrev pub IsNamed : ℕ → ℕ → PortView → Type 0
IsNamed name splits v = (v.own ≡ name) × CarriesName name v × ((n : ℕ) → v.splits ≡ Some n → (n ≡ splits) × CarriesName 0 v)

-- the port carries its own name
pub own_carried : (name splits : ℕ) (v : PortView) → IsNamed name splits v → CarriesName v.own v
own_carried name splits v h = subst (λ k. CarriesName k v) (sym h.0) h.1

named_on : (name splits : ℕ) (v w : PortView) → w.own ≡ v.own → ((n : ℕ) → w.splits ≡ Some n → v.splits ≡ Some n)
    → ((k : ℕ) → times k v.lists ≤ times k w.lists) → IsNamed name splits v → IsNamed name splits w
named_on name splits v w own count more h = (
  own ∙ h.0,
  (let a = more name in let b = h.1 in omega arith),
  λ n e. let x = h.2 n (count n e) in (x.0, (let a = more 0 in let b = x.1 in omega arith)),
)

pub put_named : (name splits : ℕ) (m : Mailed) (v w : PortView) → IsNamed name splits v → w ≡ after_put m v → IsNamed name splits w
put_named name splits m v w h is =
    subst (IsNamed name splits) (sym is) (named_on name splits v (after_put m v) refl (λ n e. e) (put_more v.own m v.lists) h)

pub take_named : (name splits : ℕ) (s : Sent) (v w : PortView) → IsNamed name splits v → w ≡ after_take s v → IsNamed name splits w
take_named name splits s v w h is =
    subst (IsNamed name splits) (sym is) (named_on name splits v (after_take s v) refl (λ n e. e) (take_more v.own s v.lists) h)

pub same_named : (name splits : ℕ) (v w : PortView) → IsNamed name splits v → w ≡ v → IsNamed name splits w
same_named name splits v w h is = subst (IsNamed name splits) (sym is) h

first_count : (c d : Option ℕ) (n : ℕ) → ((m : ℕ) → d ≡ Some m → ⊥) → either_count c d ≡ Some n → c ≡ Some n
first_count None d n none e = absurd (none n e)
first_count (Some m) d n none e = e

pub join_named : (name splits : ℕ) (v w both : PortView) → IsNamed name splits v → ((n : ℕ) → w.splits ≡ Some n → ⊥)
    → both ≡ joined_port v w → IsNamed name splits both
join_named name splits v w both h none is =
    subst (IsNamed name splits) (sym is)
    (named_on name splits v (joined_port v w) refl (λ n e. first_count v.splits w.splits n none e) (λ k. join_more k v.lists w.lists) h)

pub take_either : (H : Type 0) (name splits : ℕ) (v w : PortView) (r : Option Letter) → IsNamed name splits v
    → MatchOption r ((w ≡ v) × H) (λ x. (w ≡ after_take (sent_of x) v) × ((n : BoxNames) → v.of_box ≡ Some n → IsFor n x)) → IsNamed name splits w
take_either H name splits v w None h e = same_named name splits v w h e.0
take_either H name splits v w (Some x) h e = take_named name splits (sent_of x) v w h e.0
