-- The second byte of a key that is drawn is the digit of its session.
use Rattle.std.proofs.Common.{◌≡◌, ℕ, zero, suc, ◌+◌, ◌/◌, ◌%◌, ◌^◌, inl, inr, ◌==◌, List, [], ◌∷◌, ◌++◌, map, Option, Some, refl, ap, sym, ◌∙◌, subst, arith}
use Rattle.std.specs.Prelude.{codes, nat_lt, slice_get}
use Rattle.std.specs.Fmt.{decimal, digits}
use Rattle.std.proofs.lemmas.Bool.{cond_both}
use Rattle.std.proofs.lemmas.Option.{same_Some}
use Rattle.hx_model.specs.Types.{Op}
use Rattle.hx_types.specs.Effects.{key_of}
use Rattle.hx_types.specs.Fitting.{numbered}
use Rattle.hx_types.specs.Words.{IsIn, when_some}
use Rattle.hx_soak.specs.Calling.{call_drawn, call_of_kind, key_drawn}
use Rattle.hx_soak.specs.Drawing.{draw_of}
use Rattle.hx_soak.specs.Owning.{KeysAreOwned}
use Rattle.hx_soak.specs.Soaking.{calls_drawn, script_drawn, turns_of}

abbrev second : List ℕ → Option ℕ
second key = slice_get key 1

second_of_1 : (rest : List ℕ) → second (codes "s" ++ decimal 1 ++ codes "k" ++ rest) ≡ Some 49
unfolding digits
second_of_1 rest = refl

second_of_2 : (rest : List ℕ) → second (codes "s" ++ decimal 2 ++ codes "k" ++ rest) ≡ Some 50
unfolding digits
second_of_2 rest = refl

second_of_3 : (rest : List ℕ) → second (codes "s" ++ decimal 3 ++ codes "k" ++ rest) ≡ Some 51
unfolding digits
second_of_3 rest = refl

second_of_4 : (rest : List ℕ) → second (codes "s" ++ decimal 4 ++ codes "k" ++ rest) ≡ Some 52
unfolding digits
second_of_4 rest = refl

-- a call is on the key that is drawn, if on any
on_its_key : (kind session draw : ℕ) (key : List ℕ) → key_of (call_of_kind kind session draw) ≡ Some key → key ≡ key_drawn session draw
on_its_key kind session draw key =
    cond_both (nat_lt kind 4) _ _ (λ (op : Op). key_of op ≡ Some key → key ≡ key_drawn session draw) (λ t e. cc)
    (
    λ t. cond_both (kind == 4) _ _ (λ (op : Op). key_of op ≡ Some key → key ≡ key_drawn session draw) (λ u e. cc)
    (
    λ u. cond_both (kind == 5) _ _ (λ (op : Op). key_of op ≡ Some key → key ≡ key_drawn session draw) (λ v e. cc)
    (λ v. cond_both (kind == 6) _ _ (λ (op : Op). key_of op ≡ Some key → key ≡ key_drawn session draw) (λ w e. cc) (λ w e. absurd (cc)))
    )
    )

in_map : {A B : Type 0} (g : A → B) (xs : List A) (p : B) → IsIn p (map g xs) → (x : A) × (p ≡ g x)
in_map g [] p i = absurd i
in_map g (x ∷ xs) p (inl e) = (x, e)
in_map g (x ∷ xs) p (inr i) = in_map g xs p i

-- a key of a session's calls
of_session : (seed calls session byte : ℕ) → ((rest : List ℕ) → second (codes "s" ++ decimal session ++ codes "k" ++ rest) ≡ Some byte)
    → (op : Op) → IsIn op (calls_drawn seed calls session) → (key : List ℕ) → key_of op ≡ Some key → second key ≡ Some byte
of_session seed calls session byte tells op i key e =
    let turn = in_map (λ t. call_drawn session (draw_of seed t)) (turns_of calls session) op i in
    ap second (on_its_key ((draw_of seed turn.0 / 2 ^ 8) % 8) session (draw_of seed turn.0) key
    (subst (λ (o : Op). key_of o ≡ Some key) turn.1 e)) ∙ tells (decimal (draw_of seed turn.0 % 64))

owner : (seed calls n : ℕ) (op : Op) → IsIn op (when_some (numbered (script_drawn seed calls).sessions n) []
    (λ (ops : List Op). ops)) → (key : List ℕ) → key_of op ≡ Some key → second key ≡ Some (n + 48)
owner seed calls zero op i key e = absurd i
owner seed calls (suc zero) op i key e = of_session seed calls 1 49 second_of_1 op i key e
owner seed calls (suc (suc zero)) op i key e = of_session seed calls 2 50 second_of_2 op i key e
owner seed calls (suc (suc (suc zero))) op i key e = of_session seed calls 3 51 second_of_3 op i key e
owner seed calls (suc (suc (suc (suc zero)))) op i key e = of_session seed calls 4 52 second_of_4 op i key e
owner seed calls (suc (suc (suc (suc (suc n))))) op i key e = absurd i

pub keys_are_owned : (seed calls : ℕ) → KeysAreOwned (script_drawn seed calls)
keys_are_owned seed calls u v key a b =
    let first = owner seed calls u.0 a.op a.called key a.of_key in
    let other = owner seed calls v.0 b.op b.called key b.of_key in
    let same : u.0 + 48 ≡ v.0 + 48 = same_Some (u.0 + 48) (v.0 + 48) (sym first ∙ other) in
    let number : u.0 ≡ v.0 = omega (arith, same) in
    λ j. record { 0 = number j }
