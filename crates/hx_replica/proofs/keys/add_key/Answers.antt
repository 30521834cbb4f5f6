use Rattle.std.proofs.Common.{◌≡◌, ◌<◌, List, ℕ, Some, ap, arith, get_or, length, slice_get, sym, ◌∙◌}
use Rattle.std.specs.Borrow.{Bor}
use Rattle.std.specs.List.{insert}
use Rattle.hx_replica.specs.Installing.{texts}
use Rattle.hx_replica.proofs.KeyOrder.{clash, differs, goes_here, goes_on, is_there, texts_at, texts_insert}
use Rattle.hx_replica.proofs.keys.add_key.Goals as goal

pub returns-then-same : goal.returns-then-same
returns-then-same c =
    let i = c.loop-number.number in
    let x = c.index-other.result.now in
    let old = c.args.keys.now.items in
    let l : i < length old = omega (arith, c.loop-number-test.true, c.len-number-end.ensures, c.args.keys.now.ok) in
    let at : slice_get (texts old) i ≡ Some x.now =
    texts_at old i x l (c.index-other.ensures ∙ ap
    (λ (bs : List (Bor (List ℕ))). get_or bs i x) c.loop-number.invariant.same) in
    ap texts c.loop-number.invariant.same ∙ is_there c.args.key.now (texts old) i x.now c.loop-number.invariant.gone at (c.same.ensures.same.0 c.if-same.true)

pub returns-then-is_below : goal.returns-then-is_below
returns-then-is_below c =
    let i = c.loop-number.number in
    let x = c.index-other.result.now in
    let old = c.args.keys.now.items in
    let l : i < length old = omega (arith, c.loop-number-test.true, c.len-number-end.ensures, c.args.keys.now.ok) in
    let at : slice_get (texts old) i ≡ Some x.now =
    texts_at old i x l (c.index-other.ensures ∙ ap
    (λ (bs : List (Bor (List ℕ))). get_or bs i x) c.loop-number.invariant.same) in
    ap texts (c.in_ok-insert.ensures.items ∙ ap (λ (bs : List (Bor (List ℕ))). insert bs i c.args.key) c.loop-number.invariant.same)
    ∙ texts_insert old i c.args.key
    ∙ goes_here c.args.key.now (texts old) i x.now c.loop-number.invariant.gone at
    (differs c.args.key.now x.now (λ e. clash (sym (c.same.ensures.same.1 e) ∙ c.if-same.false)))
    (sym c.is_below.ensures ∙ c.if-is_below.true)

pub loop-number-preserved : goal.loop-number-preserved
loop-number-preserved c =
    let i = c.loop-number.number in
    let x = c.index-other.result.now in
    let old = c.args.keys.now.items in
    let l : i < length old = omega (arith, c.loop-number-test.true, c.len-number-end.ensures, c.args.keys.now.ok) in
    let at : slice_get (texts old) i ≡ Some x.now =
    texts_at old i x l (c.index-other.ensures ∙ ap
    (λ (bs : List (Bor (List ℕ))). get_or bs i x) c.loop-number.invariant.same) in
    record {
      gone = goes_on c.args.key.now (texts old) i x.now c.loop-number.invariant.gone at
          (differs c.args.key.now x.now (λ e. clash (sym (c.same.ensures.same.1 e) ∙ c.if-same.false)))
          (sym c.is_below.ensures ∙ c.if-is_below.false);
      same = c.loop-number.invariant.same;
    }
