-- Bytes to which something was appended, once or more often.
use Rattle.std.proofs.Common.{◌≡◌, ℕ, List, [], ◌++◌, Result, Ok, Err, refl, ap, sym, ◌∙◌}
use Rattle.std.specs.Prelude.{OnErr}
use Rattle.std.proofs.lemmas.List.{append-nil, append_assoc}
use Rattle.hx_print.specs.Prefixes.{IsPrefix}

pub same : (old new : List ℕ) → new ≡ old → IsPrefix old new
same old new e = record { more = []; appended = e ∙ sym (append-nil old) }

pub further : (old mid new x : List ℕ) → mid ≡ old ++ x → IsPrefix mid new → IsPrefix old new
further old mid new x e p = record { more = x ++ p.more; appended = p.appended ∙ ap (λ (l : List ℕ). l ++ p.more) e ∙ append_assoc old x p.more }

-- what holds anyway holds on an error
pub on_err : {T E : Type 0} (r : Result T E) (P : Type 0) → P → OnErr r P
on_err (Ok x) P p = tt
on_err (Err e) P p = p

-- bytes begin with themselves
pub begun : (bytes : List ℕ) → IsPrefix bytes bytes
begun bytes = same bytes bytes refl

-- and with what those at their front begin with
pub longer : (old mid new : List ℕ) → IsPrefix old mid → IsPrefix mid new → IsPrefix old new
longer old mid new p q = further old mid new p.more p.appended q

pub longer_by : (old mid new x : List ℕ) → IsPrefix old mid → new ≡ mid ++ x → IsPrefix old new
longer_by old mid new x p e = longer old mid new p (record { more = x; appended = e })
