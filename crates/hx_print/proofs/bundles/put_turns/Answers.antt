use Rattle.std.proofs.Common.{◌++◌, ◌<◌, ℕ, List, length, sym, ap, ◌∙◌, subst}
use Rattle.std.specs.List.{All}
use Rattle.std.proofs.lemmas.List.{append-nil}
use Rattle.std.proofs.lemmas.List.Elements.{All-tail}
use Rattle.hx_print.specs.BundlePrinting.{turns_text}
use Rattle.hx_print.proofs.Turning.{hands_stay, shown, turns_end, turns_on}
use Rattle.hx_print.proofs.bundles.put_turns.Goals as goal

pub turns-preserved : goal.turns-preserved
turns-preserved c =
    let left = c.put_turn.new.hands.items in
    record {
      within =
          subst (λ (n : ℕ). All (λ (k : ℕ). k < n) c.in-Some.after.now)
          (sym (hands_stay c.args.spaces.now c.in-Some.space.now c.turns.hands.items left c.turns.out.items
          c.put_turn.new.out.items c.in_ok-put_turn.ensures))
          (All-tail (λ (k : ℕ). k < length c.turns.hands.items) c.in-Some.space.now c.in-Some.after.now
          (subst (λ (l : List ℕ). All (λ (k : ℕ). k < length c.turns.hands.items) l) c.in-Some.ensures.cases.0
          c.turns.invariant.within));
      so_far =
          turns_on c.args.spaces.now (shown c.turns.hands.items)
          (shown left) c.in-Some.space.now c.in-Some.after.now c.turns.out.items c.put_turn.new.out.items
          c.in_ok-put_turn.ensures
          ∙ ap (λ (l : List ℕ). c.turns.out.items ++ turns_text c.args.spaces.now (shown c.turns.hands.items) l) (sym c.in-Some.ensures.cases.0)
          ∙ c.turns.invariant.so_far;
    }

pub returns : goal.returns
returns c =
    sym (append-nil c.turns.out.items)
    ∙ ap (λ (l : List ℕ). c.turns.out.items ++ l) (sym (turns_end c.args.spaces.now (shown c.turns.hands.items) c.turns.rest.now c.in_default.ensures.cases))
    ∙ c.turns.invariant.so_far
