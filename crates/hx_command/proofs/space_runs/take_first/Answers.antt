-- A fate that is taken stands behind those that were taken before it.
use Rattle.std.proofs.Common.{◌≡◌, ◌<◌, ◌∙◌, ◌++◌, ◌∷◌, [], ap, length, length-append, arith}
use Rattle.std.specs.List.{remove}
use Rattle.hx_command.proofs.Running.{first_taken}
use Rattle.hx_command.proofs.space_runs.take_first.Goals as goal

pub remove-requires : goal.remove-requires
remove-requires g c =
    let i = c.loop-taken.invariant in
    omega (arith, i.count, ap length i.split, length-append c.loop-taken.first.items c.loop-taken.fates.items, c.requires)

pub loop-taken-preserved : goal.loop-taken-preserved
loop-taken-preserved g c =
    let i = c.loop-taken.invariant in
    let first = c.loop-taken.first.items in
    let fates = c.loop-taken.fates.items in
    let x = c.remove.result in
    let pushed : c.push.new.self.items ≡ first ++ x ∷ [] = c.in_ok-push.ensures.items in
    let long : length c.push.new.self.items ≡ length (first ++ x ∷ []) = ap (λ l. length l) pushed in
    let some : 0 < length fates = omega (arith, i.count, ap length i.split, length-append first fates, c.requires) in
    let left : c.remove.new.self.items ≡ remove fates 0 = c.remove.ensures.items in
    record {
      count = omega (arith, i.count, long, length-append first (x ∷ []));
      split = ap (λ l. l ++ c.remove.new.self.items) pushed ∙ ap (λ l. (first ++ x ∷ []) ++ l) left
          ∙ first_taken first fates x c.args.fates.now.items some c.remove.ensures.value i.split;
    }
