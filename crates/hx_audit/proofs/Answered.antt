-- Items of calls that were answered.
use Rattle.std.proofs.Common.{◌≡◌, ℕ, false, List, Option, Some, None, refl, sym, ap, ◌∙◌, subst}
use Rattle.std.specs.Option.{option_map}
use Rattle.hx_model.specs.Types.{Answer}
use Rattle.hx_types.specs.Effects.{key_of}
use Rattle.hx_types.specs.Fitting.{is_refused}
use Rattle.hx_model.specs.Histories.{CallEnd}
use Rattle.hx_report_lines.specs.declared.blocks.Block.{Block}
use Rattle.hx_report_lines.specs.declared.calls.CallLine.{CallLine}
use Rattle.hx_audit.specs.Clauses.{HasItem, IsItemOfCall}
use Rattle.hx_audit.specs.Told.{end_told}

-- a call on a key that ended has its item where this key and answer have it
pub item_told_at : (b : Block) (l : CallLine) (key : List ℕ) (answer : Answer) → key_of l.op ≡ Some key
    → option_map (λ (e : CallEnd). e.answer) (end_told l) ≡ Some answer
    → (is_refused answer ≡ false → IsItemOfCall b key l.caller answer) → HasItem b l
item_told_at b l key answer k a has key' e k' e' apart =
    let p : Some answer ≡ Some e.answer = sym a ∙ ap (option_map (λ (e : CallEnd). e.answer)) e' in
    let same : answer ≡ e.answer = cc in
    let q : Some key ≡ Some key' = sym k ∙ k' in
    let one : key ≡ key' = cc in
    subst (λ (a : Answer). IsItemOfCall b key' l.caller a) same (subst (λ j. IsItemOfCall b j l.caller answer) one (has (ap is_refused same ∙ apart)))

pub item_at_told : (b : Block) (l : CallLine) (key : List ℕ) (answer : Answer) → key_of l.op ≡ Some key
    → option_map (λ (e : CallEnd). e.answer) (end_told l) ≡ Some answer
    → HasItem b l → is_refused answer ≡ false → IsItemOfCall b key l.caller answer
item_at_told b l key answer k a has apart = by (end_told l) refl a
  where
    by : (o : Option CallEnd) → end_told l ≡ o → option_map (λ (e : CallEnd). e.answer) o ≡ Some answer → IsItemOfCall b key l.caller answer
    by None q z = absurd (cc)
    by (Some e) q z = let same : e.answer ≡ answer = cc in
        subst (λ (a : Answer). IsItemOfCall b key l.caller a) same (has key e k q (ap is_refused same ∙ apart))
