-- What was taken from a box, and its counts.
use Rattle.std.proofs.Common.{◌≡◌, ◌≢◌, ℕ, zero, suc, ◌+◌, ◌<◌, ◌≤◌, Bool, true, false, cond, eqb, List, [], ◌∷◌, ◌++◌}
use Rattle.std.proofs.Common.{map, length, slice_index_or, slice_set, Some, ap, sym, ◌∙◌, arith, length-append}
use Rattle.std.specs.Prelude.{nat_lt}
use Rattle.std.specs.List.{list_all}
use Rattle.std.proofs.lemmas.Bool.{and_parts, ltb-true}
use Rattle.hx_types.specs.declared.ids.Actor.{Actor}
use Rattle.hx_types.specs.declared.limits.TheConstants.{MOST_ENTRIES}
use Rattle.hx_types.specs.declared.traces.Input.{Input}
use Rattle.hx_types.specs.declared.traces.Input.TheVariants.{Tick, Halt, Deliver}
use Rattle.hx_clock.specs.declared.parts.Stamped.{Stamped}
use Rattle.hx_mail.specs.declared.views.Mailed.{Mailed}
use Rattle.hx_mail.specs.declared.views.PortView.{PortView}
use Rattle.hx_mail.specs.declared.views.Sent.{Sent}
use Rattle.hx_mail.specs.Boxes.{Boxed, Ported, IsPortOf}
use Rattle.hx_mail.specs.Ports.{after_take, lists_of, port, put_by, sent}
use Rattle.hx_mail.proofs.Lemmas.{put-other, put-own}
use Rattle.hx_outbox.proofs.Lemmas.{map-length}
use Rattle.hx_driver.specs.Desks.{told}
use Rattle.hx_driver.specs.Told.{told_by}
use Rattle.hx_driver.specs.Givings.{CanCount}
use Rattle.hx_driver.specs.Inboxes.{taken_first, ins_of, IsInPort, IsHeardFrom}

put-short-case : (b : Bool) (m : Mailed) (xs : List Mailed) (n : ℕ) → length xs ≤ n → length (cond b (m ∷ xs) xs) ≤ suc n
put-short-case true m xs n h = omega (arith, h)
put-short-case false m xs n h = omega (arith, h)

put-short : (k : ℕ) (ins : List Sent) → length (put_by k ins) ≤ length ins
put-short k [] = omega arith
put-short k (s ∷ ss) = put-short-case (eqb k s.port) s.mailed (put_by k ss) (length ss) (put-short k ss)

pub count-at : (ns : List ℕ) (i n : ℕ) → CanCount ns → i < length ns → n ≡ slice_index_or ns i n → n < 18446744073709551615
count-at [] i n h lt e = absurd (omega (arith, lt))
count-at (a ∷ ns) zero n h lt e = let l = h.0 in omega (arith, e, l)
count-at (a ∷ ns) (suc i) n h lt e = count-at ns i n h.1 (omega (arith, lt)) e

pub heard-other : (k : ℕ) (ns : List ℕ) (ins : List Sent) (name : ℕ) (m : Mailed) → IsHeardFrom k ns ins
    → ((i : ℕ) → i < length ns → k + i ≢ name) → IsHeardFrom k ns (ins ++ sent name m ∷ [])
heard-other k [] ins name m h d = tt
heard-other k (n ∷ ns) ins name m h d =
    let z : k + 0 ≡ k = omega arith in (
      h.0 ∙ ap length (sym (put-other k ins (sent name m) (λ e. d 0 (omega arith) (z ∙ e)))),
      heard-other (suc k) ns ins name m h.1 (λ i lt e. d (suc i) (omega (arith, lt)) (omega (arith, e))),
    )

pub heard-set : (k : ℕ) (ns : List ℕ) (ins : List Sent) (i n name : ℕ) (m : Mailed) → IsHeardFrom k ns ins
    → i < length ns → n ≡ slice_index_or ns i n → name ≡ k + i
    → IsHeardFrom k (slice_set ns i (n + 1)) (ins ++ sent name m ∷ [])
heard-set k [] ins i n name m h lt e f = absurd (omega (arith, lt))
heard-set k (a ∷ ns) ins zero n name m h lt e f =
    let same : k ≡ name = omega (arith, f) in (
      omega (arith, e, h.0, ap length (put-own k ins (sent name m) same), length-append (put_by k ins) (m ∷ [])),
      heard-other (suc k) ns ins name m h.1 (λ j l d. omega (arith, d, f)),
    )
heard-set k (a ∷ ns) ins (suc i) n name m h lt e f = (
  h.0 ∙ ap length (sym (put-other k ins (sent name m) (λ d. omega (arith, d, f)))),
  heard-set (suc k) ns ins i n name m h.1 (omega (arith, lt)) e (omega (arith, f)),
)

-- the port after an envelope was taken
pub take-in : (w : ℕ) (box : Boxed) (p q : Ported) (s : Sent) → IsInPort w box p → IsPortOf box q
    → q.view ≡ after_take s p.view → IsInPort w box q × (ins_of q ≡ ins_of p ++ s ∷ [])
take-in w box p q s h of e =
    let v : q.view ≡ port 0 (Some box.names) (lists_of 0 [] (ins_of p ++ s ∷ []) ∷ []) (Some w) = e ∙ ap (after_take s) h.view in
    let o : ins_of q ≡ ins_of p ++ s ∷ [] = ap (λ (x : PortView). taken_first x.lists) v in
    (record { of = of; view = v ∙ ap (λ is. port 0 (Some box.names) (lists_of 0 [] is ∷ []) (Some w)) (sym o) }, o)

told-one : (a : Actor) (i : Input) → length (told_by a i) ≤ 1
told-one a Tick = omega arith
told-one a Halt = omega arith
told-one a (Deliver id from message) = omega arith

told-short : (xs : List Stamped) → length (told xs) ≤ length xs
told-short [] = omega arith
told-short (x ∷ xs) = omega (arith, length-append (told_by x.entry.actor x.entry.input) (told xs), told-one x.entry.actor x.entry.input, told-short xs)

few-counts : (k : ℕ) (ns : List ℕ) (ins : List Sent) → length ins ≤ 1048576 → IsHeardFrom k ns ins → CanCount ns
few-counts k [] ins few h = tt
few-counts k (n ∷ ns) ins few h = (omega (arith, h.0, put-short k ins, few), few-counts (suc k) ns ins few h.1)

-- where all that was taken was delivered, each count can be raised
pub can-count : (xs : List Stamped) (ins : List Sent) (ns : List ℕ) → told xs ++ [] ≡ map (λ s. s.mailed) ins
    → length xs ≤ MOST_ENTRIES → IsHeardFrom 0 ns ins → CanCount ns
can-count xs ins ns e few h =
    few-counts 0 ns ins (omega (arith, ap length e, length-append (told xs) [], map-length (λ (s : Sent). s.mailed) ins, told-short xs, few)) h

-- each count was found to be small
pub counted : (ns : List ℕ) → list_all (λ n. nat_lt n 18446744073709551615) ns ≡ true → CanCount ns
counted [] e = tt
counted (n ∷ ns) e =
    let both = and_parts (nat_lt n 18446744073709551615) (list_all (λ n. nat_lt n 18446744073709551615) ns) e in
    (ltb-true n 18446744073709551615 both.0, counted ns both.1)
