-- Lists that a step added to before it failed.
use Rattle.std.proofs.Common.{◌≡◌, List, ◌++◌, Result, Ok, Err, OnErr}
use Rattle.hx_session.specs.Lists.{Grows}

pub grows_by : {A : Type 0} (xs ys more : List A) → ys ≡ xs ++ more → Grows xs ys
grows_by xs ys more e = record { more = more; is = e }

pub on_err : {T E Q : Type 0} (r : Result T E) → Q → OnErr r Q
on_err (Ok x) q = tt
on_err (Err e) q = q
