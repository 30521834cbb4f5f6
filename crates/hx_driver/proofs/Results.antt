-- What holds of results.
use Rattle.std.proofs.Common.{IfOk, OnOk, Result, Ok, Err}
use Rattle.std.specs.Prelude.{MatchResult}

pub match-map : {T E : Type 0} (P P' : T → Type 0) (Q Q' : E → Type 0) (r : Result T E) → ((x : T) → P x → P' x)
    → ((e : E) → Q e → Q' e) → MatchResult r P Q → MatchResult r P' Q'
match-map P P' Q Q' (Ok x) f g h = f x h
match-map P P' Q Q' (Err e) f g h = g e h

pub match-elim : {T E : Type 0} (P : T → Type 0) (Q : E → Type 0) (G : Type 0) (r : Result T E) → ((x : T) → P x → G)
    → ((e : E) → Q e → G) → MatchResult r P Q → G
match-elim P Q G (Ok x) f g h = f x h
match-elim P Q G (Err e) f g h = g e h

pub ok-from : {T E : Type 0} (P R : T → Type 0) {Q S : Type 0} (r : Result T E) → IfOk r P → OnOk r Q → OnOk r S → ((x : T) → P x → Q → S → R x) → IfOk r R
ok-from P R (Ok x) p q s f = f x p q s
ok-from P R (Err e) p q s f = tt
