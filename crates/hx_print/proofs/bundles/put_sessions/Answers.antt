use Rattle.std.proofs.Common.{◌<◌, ℕ, List, ◌∷◌, length, arith, sym, ap, ◌∙◌, subst}
use Rattle.std.specs.List.{All}
use Rattle.std.proofs.lemmas.List.Elements.{All-head, All-tail}
use Rattle.hx_print.proofs.BundleSessions.{sessions_on}
use Rattle.hx_print.proofs.bundles.put_sessions.Goals as goal

pub put_session-requires : goal.put_session-requires
put_session-requires c =
    let Within : List ℕ → Type 0 = λ turns. All (λ (k : ℕ). k < length c.args.spaces.now) turns in
    subst Within (sym c.as_slice.ensures) (All-head Within c.in-Some.turns.now c.in-Some.after.now
    (subst (λ (l : List (List ℕ)). All Within l) c.in-Some.ensures.cases.0 c.sessions.invariant.within))

pub sessions-preserved : goal.sessions-preserved
sessions-preserved c =
    let Within : List ℕ → Type 0 = λ turns. All (λ (k : ℕ). k < length c.args.spaces.now) turns in
    record {
      room = omega (arith, c.in-Some.ensures.cases.1, c.sessions.invariant.room);
      within = All-tail Within c.in-Some.turns.now c.in-Some.after.now
          (subst (λ (l : List (List ℕ)). All Within l) c.in-Some.ensures.cases.0 c.sessions.invariant.within);
      so_far =
          sessions_on c.args.spaces.now c.sessions.number c.as_slice.result.now c.sessions.rest.now
          c.in-Some.after.now c.sessions.out.items c.put_session.new.out.items
          (c.in-Some.ensures.cases.0 ∙ ap (λ (t : List ℕ). t ∷ c.in-Some.after.now) (sym c.as_slice.ensures)) c.in_ok-put_session.ensures
          ∙ c.sessions.invariant.so_far;
    }
