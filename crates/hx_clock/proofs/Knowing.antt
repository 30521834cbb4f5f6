-- What is known stays known.
use Rattle.std.proofs.Common.{ℕ, refl, append-nil, ◌≡◌, ◌∙◌, ◌⊎◌, inl, inr, ⊎_elim, List, [], ◌∷◌, ◌++◌, length, ◌<◌}
use Rattle.std.proofs.Common.{◌≤◌, nat_lt, lt-ltb, cond, true, false, eqb, sym, ap, subst, arith}
use Rattle.std.proofs.Math.Logic.{∥∥₁_map}
use Rattle.std.proofs.lemmas.Bool.{le-ltb}
use Rattle.std.proofs.lemmas.Bool.Decides.{leb_tells}
use Rattle.hx_types.specs.declared.messages.Post.{Post}
use Rattle.hx_types.specs.declared.messages.PostId.{PostId}
use Rattle.hx_types.specs.Words.{IsIn}
use Rattle.hx_clock.specs.declared.parts.Stamped.{Stamped}
use Rattle.hx_clock.specs.declared.view.NumberedPart.{NumberedPart}
use Rattle.hx_clock.specs.declared.view.View.{View}
use Rattle.hx_clock.specs.Parts.{Posted}
use Rattle.hx_clock.specs.Views.{handed_to, joined, known_part, longer, told, Has, IsAmong, Knows, Owns}
use Rattle.hx_clock.proofs.Lists.{in_left, in_right}

among_left : (ps qs : List NumberedPart) (x : Stamped) → IsAmong ps x → IsAmong (ps ++ qs) x
among_left ps qs x h = (h.0, in_left h.0 ps qs h.1, h.2)

among_right : (ps qs : List NumberedPart) (x : Stamped) → IsAmong qs x → IsAmong (ps ++ qs) x
among_right ps qs x h = (h.0, in_right h.0 ps qs h.1, h.2)

knows_more : (v w : View) → ((x : Stamped) → Has v x → Has w x) → (id : PostId) (p : Post) → Knows v id p → Knows w id p
knows_more v w f id p h = ∥∥₁_map h (λ (y : (x : Stamped) × Has v x × Posted x id p). (y.0, f y.0 y.1, y.2))

-- what another is told
pub told_knows : (v m : View) → m ≡ told v → (id : PostId) (p : Post) → Knows v id p → Knows m id p
told_knows v m e id p h =
    subst (λ (u : View). Knows u id p) (sym e)
    (knows_more v (told v) (λ x k. inr (⊎_elim (λ a. among_left v.carried v.known x a) (λ b. among_right v.carried v.known x b) k)) id p h)

pub carried_known : (v : View) (x : Stamped) (id : PostId) (p : Post) → IsAmong v.carried x → Posted x id p → Knows v id p
carried_known v x id p h made = ∣ (x, inl h, made) ∣₁

-- what a new actor knows where the counting seat carries nothing
pub handed_knows : (v m : View) (n : ℕ) → m ≡ handed_to n v → v.carried ≡ [] → (id : PostId) (p : Post) → Knows v id p → Knows m id p
handed_knows v m n e none id p h =
    subst (λ (u : View). Knows u id p) (sym e)
    (knows_more v (handed_to n v) (λ x k. inr (⊎_elim
    (λ (a : IsAmong v.carried x). absurd (subst (IsIn a.0) none a.1)) (λ (b : IsAmong v.known x). b) k)) id p h)

pub joined_left : (v w m : View) → m ≡ joined v w → (id : PostId) (p : Post) → Knows v id p → Knows m id p
joined_left v w m e id p h =
    subst (λ (u : View). Knows u id p) (sym e)
    (knows_more v (joined v w) (λ x k. ⊎_elim (λ a. inl (among_left v.carried w.carried x a)) (λ b. inr (among_left v.known w.known x b)) k) id p h)

pub joined_right : (v w m : View) → m ≡ joined v w → (id : PostId) (p : Post) → Knows w id p → Knows m id p
joined_right v w m e id p h =
    subst (λ (u : View). Knows u id p) (sym e)
    (knows_more w (joined v w) (λ x k. ⊎_elim (λ a. inl (among_right v.carried w.carried x a)) (λ b. inr (among_right v.known w.known x b)) k) id p h)

-- the same part after a pass that carries nothing
pub owns_joined : (v w m : View) → m ≡ joined v w → w.carried ≡ [] → (k : ℕ) (part : List Stamped) → Owns v k part → Owns m k part
owns_joined v w m e none k part h = ap (λ (u : View). u.carried) e ∙ ap (λ ps. v.carried ++ ps) none ∙ append-nil v.carried ∙ h

pub longer-first : (xs ys : List Stamped) → length ys ≤ length xs → longer xs ys ≡ xs
longer-first xs ys h = ap (λ b. cond b ys xs) (le-ltb (length xs) (length ys) h)

pub longer-second : (xs ys : List Stamped) → length xs < length ys → longer xs ys ≡ ys
longer-second xs ys h = ap (λ b. cond b ys xs) (lt-ltb (length xs) (length ys) h)

pub lt_tells : (a b : ℕ) → ((nat_lt a b ≡ true) × (a < b)) ⊎ ((nat_lt a b ≡ false) × (b ≤ a))
lt_tells a b = ⊎_elim (λ h. inr (le-ltb a b h.1, h.1)) (λ h. inl (lt-ltb a b h.1, h.1)) (leb_tells b a)

longer-both : (xs ys zs : List Stamped) → longer xs (longer ys zs) ≡ longer (longer xs ys) zs
longer-both xs ys zs =
    ⊎_elim
    (λ (h : (nat_lt (length xs) (length ys) ≡ true) × (length xs < length ys)).
    let a = h.1 in
    ⊎_elim
    (λ (k : (nat_lt (length ys) (length zs) ≡ true) × (length ys < length zs)).
    let b = k.1 in
    ap (longer xs) (longer-second ys zs b) ∙ longer-second xs zs (omega arith) ∙ sym (longer-second ys zs b)
    ∙ ap (λ w. longer w zs) (sym (longer-second xs ys a)))
    (λ (k : (nat_lt (length ys) (length zs) ≡ false) × (length zs ≤ length ys)).
    let b = k.1 in
    ap (longer xs) (longer-first ys zs b) ∙ longer-second xs ys a ∙ sym (longer-first ys zs b) ∙ ap (λ w. longer w zs) (sym (longer-second xs ys a)))
    (lt_tells (length ys) (length zs)))
    (λ (h : (nat_lt (length xs) (length ys) ≡ false) × (length ys ≤ length xs)).
    let a = h.1 in
    ⊎_elim
    (λ (k : (nat_lt (length ys) (length zs) ≡ true) × (length ys < length zs)).
    let b = k.1 in
    ap (longer xs) (longer-second ys zs b) ∙ ap (λ w. longer w zs) (sym (longer-first xs ys a)))
    (λ (k : (nat_lt (length ys) (length zs) ≡ false) × (length zs ≤ length ys)).
    let b = k.1 in
    ap (longer xs) (longer-first ys zs b) ∙ longer-first xs ys a ∙ sym (longer-first xs zs (omega arith)) ∙ ap (λ w. longer w zs) (sym (longer-first xs ys a)))
    (lt_tells (length ys) (length zs)))
    (lt_tells (length xs) (length ys))

pub longer-none : (xs : List Stamped) → longer [] xs ≡ xs
longer-none [] = refl
longer-none (x ∷ xs) = longer-second [] (x ∷ xs) (omega arith)

-- of each number the longer part
pub known-append : (k : ℕ) (ps qs : List NumberedPart) → known_part k (ps ++ qs) ≡ longer (known_part k ps) (known_part k qs)
known-append k [] qs = sym (longer-none (known_part k qs))
known-append k (p ∷ ps) qs =
    ap (longer (cond (eqb k p.number) p.entries [])) (known-append k ps qs)
    ∙ longer-both (cond (eqb k p.number) p.entries []) (known_part k ps) (known_part k qs)
