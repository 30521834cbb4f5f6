-- What is drawn is a script: its space is one, its calls fit it, and there are as many as were asked for.
use Rattle.std.proofs.Common.{◌≡◌, ℕ, zero, suc, ◌+◌, ◌/◌, ◌%◌, ◌^◌, ◌<◌, ◌≤◌, true, ◌==◌, List, [], ◌∷◌, ◌++◌, length, refl, ap, ◌∙◌, arith, cond}
use Rattle.std.specs.Prelude.{◌≢◌, ◌≤ℤ◌, codes, nat_lt, pos}
use Rattle.std.proofs.Math.Dec.{le→leb}
use Rattle.std.specs.List.{All, filter, sum_by}
use Rattle.std.proofs.Math.ListN.{get_or}
use Rattle.std.specs.Fmt.{decimal}
use Rattle.std.proofs.Math.Nat.{mod-lt}
use Rattle.std.proofs.lemmas.Bool.{cond_both}
use Rattle.std.proofs.lemmas.Fmt.{length-decimal-le}
use Rattle.std.proofs.lemmas.List.{length-append, length-map}
use Rattle.std.proofs.lemmas.List.Elements.{All-cons, All-from_recursion, All-map, All-nil}
use Rattle.hx_model.specs.Types.{Assign, Attribute, Axis, Op}
use Rattle.hx_types.specs.declared.limits.TheConstants.{MOST_CALLS}
use Rattle.hx_types.specs.declared.spaces.Kind.TheVariants as a_kind
use Rattle.hx_types.specs.Fitting.{IsScript}
use Rattle.hx_types.specs.Spaces.{ArePart, AssignFits, AssignsFit, Fits, IsKind, IsName, IsSpace, IsSubspaceOf, KeyFits, TermFits, TermsFit, is_word}
use Rattle.hx_soak.specs.Calling.{call_drawn, call_of_kind, color_drawn, key_drawn, size_drawn, sizes_drawn}
use Rattle.hx_soak.specs.Drawing.{draw_of}
use Rattle.hx_soak.specs.Soaking.{calls_drawn, script_drawn, session_at, soak, turns_of}
use Rattle.hx_soak.proofs.Dealing.{one_more}

-- ---- the space

is_name : (name : List ℕ) → is_word name ≡ true → length name ≤ 32 → name ≢ (105 ∷ 102 ∷ []) → name ≢ (115 ∷ 101 ∷ 116 ∷ []) → IsName name
is_name name word short not_if not_set = record { word = word; short = short; not_if = not_if; not_set = not_set }

one_axis : (attribute : ℕ) → 0 < attribute → attribute ≤ 2 → IsSubspaceOf soak (record { attribute = attribute; parts = 4 } ∷ [])
one_axis attribute some few = record {
  some = omega arith;
  few = omega arith;
  declared = All-cons (λ (a : Axis). (0 < a.attribute) × (a.attribute ≤ length soak.attributes) × ArePart a.parts)
      (record { attribute = attribute; parts = 4 }) [] (some, few, (omega arith, omega arith)) (All-nil _);
  once = (All-nil _, tt);
}

differ_from : (first : ℕ) (name : List ℕ) (n : ℕ) (rest : List ℕ) → (n ≡ first → ⊥) → (n ∷ rest) ≢ (first ∷ name)
differ_from first name n rest differ = λ e. differ (cc)

pub soak_is_space : IsSpace soak
soak_is_space = record {
  name = is_name (codes "soak") refl (omega arith) (differ_from 105 (102 ∷ []) 115 _ (λ e. omega (arith, e))) (λ e. cc);
  key_name = is_name (codes "k") refl (omega arith) (differ_from 105 (102 ∷ []) 107 _ (λ e. omega (arith, e)))
      (differ_from 115 (101 ∷ 116 ∷ []) 107 _ (λ e. omega (arith, e)));
  names = All-cons (λ (a : Attribute). IsName a.name × IsKind a.kind)
      (record { name = codes "color"; kind = a_kind.Text })
      (record { name = codes "size"; kind = a_kind.Int (pos 0) (pos 999) } ∷ []) (color, tt)
      (All-cons (λ (a : Attribute). IsName a.name × IsKind a.kind)
      (record { name = codes "size"; kind = a_kind.Int (pos 0) (pos 999) }) [] (size, omega arith) (All-nil _));
  names_differ = (
    All-cons (λ (m : List ℕ). m ≢ codes "k") (codes "color") (codes "size" ∷ [])
        (differ_from 107 [] 99 _ (λ e. omega (arith, e)))
        (All-cons (λ (m : List ℕ). m ≢ codes "k") (codes "size") [] (differ_from 107 [] 115 _ (λ e. omega (arith, e))) (All-nil _)),
    (All-cons (λ (m : List ℕ). m ≢ codes "color") (codes "size") [] (differ_from 99 _ 115 _ (λ e. omega (arith, e))) (All-nil _), (All-nil _, tt)),
  );
  attributes = omega arith;
  key_parts = (omega arith, omega arith);
  subspaces = All-cons (IsSubspaceOf soak) (record { attribute = 1; parts = 4 } ∷ [])
      ((record { attribute = 2; parts = 4 } ∷ []) ∷ []) (one_axis 1 (omega arith) (omega arith))
      (All-cons (IsSubspaceOf soak) (record { attribute = 2; parts = 4 } ∷ []) []
      (one_axis 2 (omega arith) (omega arith)) (All-nil _));
  few_subspaces = omega arith;
  regions = omega arith;
  servers = (omega arith, omega arith);
  tolerate = (omega arith, omega arith);
}
  where
    color : IsName (codes "color")
    color = is_name (codes "color") refl (omega arith) (differ_from 105 (102 ∷ []) 99 _ (λ e. omega (arith, e)))
        (differ_from 115 (101 ∷ 116 ∷ []) 99 _ (λ e. omega (arith, e)))

    size : IsName (codes "size")
    size = is_name (codes "size") refl (omega arith) (differ_from 105 (102 ∷ []) 115 _ (λ e. omega (arith, e))) (λ e. cc)

-- ---- calls

key_fits : (session draw : ℕ) → session ≤ 4 → KeyFits (key_drawn session draw)
key_fits session draw few =
    let number : draw % 64 < 64 = mod-lt draw (omega arith) in
    let a = length-decimal-le 2 session (omega arith) (omega (arith, few)) (omega (arith, few)) in
    let b = length-decimal-le 2 (draw % 64) (omega arith) (omega (arith, number)) (omega (arith, number)) in
    let c = length-append (codes "s") (decimal session) in
    let d = length-append (codes "s" ++ decimal session) (codes "k") in
    let e = length-append (codes "s" ++ decimal session ++ codes "k") (decimal (draw % 64)) in
    omega (arith, a, b, c, d, e)

color_fits : (draw : ℕ) → AssignFits soak (color_drawn draw)
color_fits draw =
    let number : (draw / 2 ^ 16) % 4 < 4 = mod-lt (draw / 2 ^ 16) (omega arith) in
    let a = length-decimal-le 1 ((draw / 2 ^ 16) % 4) (omega arith) (omega (arith, number)) (omega (arith, number)) in
    let b = length-append (codes "c") (decimal ((draw / 2 ^ 16) % 4)) in
    (omega arith, omega (arith, a, b))

size_fits : (draw : ℕ) → AssignFits soak (size_drawn draw)
size_fits draw = (omega arith, tt)

one_fits : (assign : Assign) → AssignFits soak assign → AssignsFit soak (assign ∷ [])
one_fits assign fits = record { each = All-cons (AssignFits soak) assign [] fits (All-nil _); once = (All-nil _, tt) }

two_fit : (draw : ℕ) → AssignsFit soak (color_drawn draw ∷ size_drawn draw ∷ [])
two_fit draw = record {
  each = All-cons (AssignFits soak) (color_drawn draw) (size_drawn draw ∷ []) (color_fits draw)
      (All-cons (AssignFits soak) (size_drawn draw) [] (size_fits draw) (All-nil _));
  once = (All-cons (λ m. m ≢ 1) 2 [] (λ e. omega (arith, e)) (All-nil _), (All-nil _, tt));
}

up : (low : ℕ) → pos low ≤ℤ pos (low + 99)
up low = omega (arith, le→leb)

sizes_fit : (draw : ℕ) → TermsFit soak (sizes_drawn draw ∷ [])
sizes_fit draw = record {
  each = All-cons (TermFits soak) (sizes_drawn draw) []
      (omega arith, tt, up ((draw / 2 ^ 24) % 900)) (All-nil _);
  once = (All-nil _, tt);
}

call_fits : (kind session draw : ℕ) → session ≤ 4 → Fits soak (call_of_kind kind session draw)
call_fits kind session draw few =
    cond_both (nat_lt kind 4) _ _ (Fits soak) (λ t. (key_fits session draw few, two_fit draw))
    (
    λ t. cond_both (kind == 4) _ _ (Fits soak) (λ u. key_fits session draw few)
    (
    λ u. cond_both (kind == 5) _ _ (Fits soak) (λ v. key_fits session draw few)
    (
    λ v. cond_both (kind == 6) _ _ (Fits soak)
    (λ w. (key_fits session draw few, one_fits (color_drawn draw) (color_fits draw), one_fits (size_drawn draw) (size_fits draw), omega arith, omega arith))
    (λ w. sizes_fit draw)
    )
    )
    )

calls_fit : (seed calls session : ℕ) → session ≤ 4 → All (Fits soak) (calls_drawn seed calls session)
calls_fit seed calls session few =
    All-map (Fits soak) (λ turn. call_drawn session (draw_of seed turn)) (turns_of calls session)
    (λ k d l. let draw = draw_of seed (get_or (turns_of calls session) k d) in call_fits ((draw / 2 ^ 8) % 8) session draw few)

-- ---- how many

-- each turn is that of one of the four sessions
one_of_four : (turn d : ℕ) → d < 4
    → length (cond (d + 1 == 1) (turn ∷ []) []) + length (cond (d + 1 == 2) (turn ∷ []) []) + length
    (cond (d + 1 == 3) (turn ∷ []) []) + length (cond (d + 1 == 4) (turn ∷ []) []) ≡ 1
one_of_four turn zero l = refl
one_of_four turn (suc zero) l = refl
one_of_four turn (suc (suc zero)) l = refl
one_of_four turn (suc (suc (suc zero))) l = refl
one_of_four turn (suc (suc (suc (suc d)))) l = absurd (omega (arith, l))

dealt_out : (calls : ℕ) → length (turns_of calls 1) + length (turns_of calls 2) + length (turns_of calls 3) + length (turns_of calls 4) ≡ calls
dealt_out zero = refl
dealt_out (suc turn) =
    let a = more 1 in
    let b = more 2 in
    let c = more 3 in
    let d = more 4 in
    let before = dealt_out turn in
    let here = one_of_four turn (turn % 4) (mod-lt turn (omega arith)) in
    omega (arith, a, b, c, d, before, here)
  where
    more : (session : ℕ) → length (turns_of (suc turn) session) ≡ length (turns_of turn session) + length (cond (turn % 4 + 1 == session) (turn ∷ []) [])
    more session = ap (λ (ts : List ℕ). length ts) (one_more session turn)
        ∙ length-append (turns_of turn session) (filter (λ t. session_at t == session) (turn ∷ []))

pub is_script : (seed calls : ℕ) → calls ≤ MOST_CALLS → IsScript (script_drawn seed calls)
is_script seed calls few = record {
  space = soak_is_space;
  sessions = omega arith;
  calls = All-from_recursion (All (Fits soak)) (script_drawn seed calls).sessions (
    calls_fit seed calls 1 (omega arith),
    (
      calls_fit seed calls 2 (omega arith),
      (calls_fit seed calls 3 (omega arith), (calls_fit seed calls 4 (omega arith), tt)),
    ),
  );
  few_calls = total;
  few_steps = omega arith;
}
  where
    size : (session : ℕ) → length (calls_drawn seed calls session) ≡ length (turns_of calls session)
    size session = length-map (turns_of calls session) (λ turn. call_drawn session (draw_of seed turn))

    total : sum_by (λ (ops : List Op). length ops) (script_drawn seed calls).sessions ≤ MOST_CALLS
    total =
        let a = size 1 in
        let b = size 2 in
        let c = size 3 in
        let d = size 4 in
        let all = dealt_out calls in
        omega (arith, a, b, c, d, all, few)
