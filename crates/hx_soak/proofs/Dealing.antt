-- What one more turn deals out.
use Rattle.std.proofs.Common.{◌≡◌, ℕ, suc, ◌+◌, add-one, Bool, true, false, ◌==◌, [], ◌∷◌, ◌++◌, map, ap, ◌∙◌}
use Rattle.std.specs.List.{filter}
use Rattle.std.proofs.lemmas.Bool.{cond-true, cond-false}
use Rattle.std.proofs.lemmas.List.{append-nil, map-append}
use Rattle.std.proofs.lemmas.List.Elements.{filter-append}
use Rattle.hx_model.specs.Types.{Op}
use Rattle.hx_types.specs.Words.{below}
use Rattle.hx_soak.specs.Calling.{call_drawn}
use Rattle.hx_soak.specs.Drawing.{draw_of, next_state, state_after}
use Rattle.hx_soak.specs.Soaking.{calls_drawn, session_at, turns_of}

abbrev pub is_turn : ℕ → ℕ → Bool
is_turn session turn = session_at turn == session

pub one_more : (session turn : ℕ) → turns_of (suc turn) session ≡ turns_of turn session ++ filter (is_turn session) (turn ∷ [])
one_more session turn = filter-append (is_turn session) (below turn) (turn ∷ [])

abbrev call_at : ℕ → ℕ → ℕ → Op
call_at seed session turn = call_drawn session (draw_of seed turn)

-- its own turn deals a session one more call
pub dealt : (seed session turn : ℕ) → is_turn session turn ≡ true
    → calls_drawn seed (turn + 1) session ≡ calls_drawn seed turn session ++ call_drawn session (draw_of seed turn) ∷ []
dealt seed session turn own =
    ap (λ n. calls_drawn seed n session) (add-one turn)
    ∙ ap (map (call_at seed session)) (one_more session turn ∙ ap (λ ts. turns_of turn session ++ ts) (cond-true (is_turn session turn) (turn ∷ []) [] own))
    ∙ map-append (call_at seed session) (turns_of turn session) (turn ∷ [])

-- another's turn deals it none
pub passed : (seed session turn : ℕ) → is_turn session turn ≡ false → calls_drawn seed (turn + 1) session ≡ calls_drawn seed turn session
passed seed session turn other =
    ap (λ n. calls_drawn seed n session) (add-one turn)
    ∙ ap (map (call_at seed session)) (one_more session turn
    ∙ ap (λ ts. turns_of turn session ++ ts) (cond-false (is_turn session turn) (turn ∷ []) [] other)
    ∙ append-nil (turns_of turn session))

-- and every turn moves the state
pub moved : (seed turn : ℕ) → state_after seed (turn + 1) ≡ next_state (state_after seed turn)
moved seed turn = ap (state_after seed) (add-one turn)
