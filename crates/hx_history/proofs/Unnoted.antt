-- Entries without notes say nothing of a call.
use Rattle.std.proofs.Common.{◌≡◌, ℕ, Bool, cond, List, [], Option, None, Some, refl, sym, ap, subst}
use Rattle.std.proofs.lemmas.Bool.{cond_both}
use Rattle.std.specs.Option.{option_map}
use Rattle.hx_model.specs.Types.{Caller, Entry, Note}
use Rattle.hx_model.specs.Histories.{is_session}
use Rattle.hx_history.specs.Calls.{CallSpan, after_entry, after_notes}

same_either : (b : Bool) (s : CallSpan) → s ≡ cond b s s
same_either b s = cond_both b s s (λ t. s ≡ t) (λ _. refl) (λ _. refl)

pub unsaid : (c : Caller) (place : ℕ) (x : Entry) → x.notes ≡ [] → (o : Option CallSpan) → o ≡ option_map (after_entry c place x) o
unsaid c place x none None = refl
unsaid c place x none (Some s) =
    let is : s ≡ after_entry c place x s =
    subst (λ (ns : List Note). s ≡ cond (is_session c.session x.actor) (after_notes c.session place c.number ns s) s)
    (sym none) (same_either (is_session c.session x.actor) s) in
    ap (λ t. Some t) is
