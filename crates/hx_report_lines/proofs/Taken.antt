-- What a reader gives where it gives something.
use Rattle.std.proofs.Common.{◌≡◌, ℕ, ◌^◌, Bool, true, false, cond, List, take, drop, Option, None, Some, refl, subst, ltb}
use Rattle.std.specs.Prelude.{⊤}
use Rattle.std.specs.Option.{option_map}
use Rattle.std.proofs.lemmas.Bool.{ltb-true}
use Rattle.hx_lex.specs.Numbers.{digits_len, value}
use Rattle.hx_report_lines.specs.Readers.{◌>>=◌, Reader, check, give, number, on_some, short_number}
use Rattle.hx_report_lines.specs.Values.{Is32, Is64}

-- what was bound to what
pub bound : {A B : Type 0} (o : Option A) (f : A → Option B) (y : B) → on_some o f ≡ Some y → (x : A) × (o ≡ Some x) × (f x ≡ Some y)
bound None f y e = absurd cc
bound (Some x) f y e = (x, refl, e)

pub mapped : {A B : Type 0} (o : Option A) (f : A → B) (y : B) → option_map f o ≡ Some y → (x : A) × (o ≡ Some x) × (f x ≡ y)
mapped None f y e = absurd cc
mapped (Some x) f y e = (x, refl, let q : f x ≡ y = cc in q)

pub where_so : {A : Type 0} (b : Bool) (o : Option A) (y : A) → cond b o None ≡ Some y → (b ≡ true) × (o ≡ Some y)
where_so true o y e = (refl, e)
where_so false o y e = absurd cc

pub some_is : {A : Type 0} (x y : A) → Some x ≡ Some y → x ≡ y
some_is x y e = cc

pub record Tells {A : Type 0} (p : Reader A) (Q : A → Type 0) : Type 0 where
  pub at : (bs : List ℕ) (x : A × List ℕ) → p bs ≡ Some x → Q x.0

-- nothing is said of the value
abbrev pub Any : {A : Type 0} → A → Type 0
Any x = ⊤

pub tells_then : {A B : Type 0} {p : Reader A} {f : A → Reader B} (P : A → Type 0) {Q : B → Type 0} → Tells p P
    → ((a : A) → P a → Tells (f a) Q) → Tells (p >>= f) Q
tells_then {A} {B} {p} {f} P {Q} tp tf = record {
  at = λ bs x e.
      let o = bound (p bs) (λ y. f y.0 y.1) x e in
      (tf o.0.0 (tp.at bs o.0 o.1)).at o.0.1 x o.2;
}

pub tells_give : {A : Type 0} {Q : A → Type 0} (a : A) → Q a → Tells (give a) Q
tells_give {A} {Q} a q = record { at = λ bs x e. subst (λ (y : A × List ℕ). Q y.0) (some_is (a, bs) x e) q }

pub tells_any : {A : Type 0} (p : Reader A) → Tells p Any
tells_any p = record { at = λ bs x e. tt }

pub tells_check : (b : Bool) → Tells (check b) (λ u. b ≡ true)
tells_check b = record { at = λ bs x e. (where_so b (Some (tt, bs)) x e).0 }

pub tells_number : Tells number Is64
tells_number = record {
  at = λ bs x e.
      let v : ℕ = value (take (digits_len bs) bs) in
      let w = where_so (ltb v (2 ^ 64)) (Some (v, drop (digits_len bs) bs)) x e in
      subst (λ (y : ℕ × List ℕ). Is64 y.0) (some_is (v, drop (digits_len bs) bs) x w.1) (ltb-true v (2 ^ 64) w.0);
}

pub tells_short : Tells short_number Is32
unfolding short_number
tells_short = tells_then Is64 tells_number (λ n big. tells_then (λ u. ltb n (2 ^ 32) ≡ true)
    (tells_check (ltb n (2 ^ 32))) (λ u short. tells_give {Q = Is32} n (ltb-true n (2 ^ 32) short)))
