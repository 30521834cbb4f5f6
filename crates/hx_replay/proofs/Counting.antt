-- How many entries an actor made grows with the trace.
use Rattle.std.proofs.Common.{◌≡◌, ◌≤◌, ◌+◌, Bool, true, false, cond, List, ◌∷◌, Option, Some, None, refl, ap, ◌∙◌, arith}
use Rattle.std.proofs.lemmas.Bool.{eq-eqb}
use Rattle.hx_model.specs.Types.{Actor, Coordinator, Entry, Server, Session}
use Rattle.hx_types.specs.Words.{same_actor}
use Rattle.hx_model.specs.Schedule.{entries_of, with_entry}

same_as_itself : (a : Actor) → same_actor a a ≡ true
same_as_itself Coordinator = refl
same_as_itself (Server s) = eq-eqb s.0 s.0 refl
same_as_itself (Session u) = eq-eqb u.0 u.0 refl

pub grows : (a : Actor) (trace : List Entry) (o : Option Entry) → entries_of a trace ≤ entries_of a (with_entry trace o)
grows a trace None = omega arith
grows a trace (Some x) = by (same_actor x.actor a)
  where
    by : (b : Bool) → entries_of a trace ≤ cond b (entries_of a trace + 1) (entries_of a trace)
    by true = omega arith
    by false = omega arith

pub counts_own : (a : Actor) (trace : List Entry) (x : Entry) → x.actor ≡ a → entries_of a (x ∷ trace) ≡ entries_of a trace + 1
counts_own a trace x is =
    let same : same_actor x.actor a ≡ true = ap (λ (b : Actor). same_actor b a) is ∙ same_as_itself a in
    ap (λ (b : Bool). cond b (entries_of a trace + 1) (entries_of a trace)) same
