use Rattle.std.proofs.Common.{◌≡◌, suc, ◌<◌, ◌+◌, ◌*◌, add-one, arith, drop, get_or, sym, ◌∙◌}
use Rattle.std.proofs.Math.Facts.{Fits-lt-pow, Fits-of_lt}
use Rattle.hx_types.specs.Prefixes.{prefix_from}
use Rattle.hx_types.proofs.prefixes.prefix_by_bytes.Goals as goal
use Rattle.hx_types.proofs.prefixes.prefix_by_bytes.Goals.{in-Some, in-None}
use Rattle.hx_types.proofs.Prefixed.{few-bytes, more-bytes, one-byte}

pub overflow_mul-prefix : goal.overflow_mul-prefix
overflow_mul-prefix c = let l = few-bytes c.loop-place.prefix c.loop-place.place c.loop-place.invariant.1
    c.loop-place-test.true in Fits-of_lt (omega (arith, l))

pub overflow_add-prefix : goal.overflow_add-prefix
overflow_add-prefix c =
    let l = few-bytes c.loop-place.prefix c.loop-place.place c.loop-place.invariant.1 c.loop-place-test.true in
    let b : c.match-get.byte ≡ get_or c.args.bytes.now c.loop-place.place 0 = elim c.match-get.branch [
      | in-Some w ↦ w.byte-is ∙ w.in-Some.ensures.lookup.4 (omega arith) 0
      | in-None w ↦ w.byte-is ∙ w.in-None.ensures.lookup.4 (omega arith) 0
    ] in
    let f : get_or c.args.bytes.now c.loop-place.place 0 < 256 = Fits-lt-pow (c.type_inv.bytes c.loop-place.place) in
    Fits-of_lt (omega (arith, l, b, f))

pub loop-place-preserved : goal.loop-place-preserved
loop-place-preserved c =
    let bytes = c.args.bytes.now in
    let i = c.loop-place.place in
    let n = c.loop-place.prefix in
    let b : c.match-get.byte ≡ get_or bytes i 0 = elim c.match-get.branch [
      | in-Some w ↦ w.byte-is ∙ w.in-Some.ensures.lookup.4 (omega arith) 0
      | in-None w ↦ w.byte-is ∙ w.in-None.ensures.lookup.4 (omega arith) 0
    ] in
    let f : get_or bytes i 0 < 256 = Fits-lt-pow (c.type_inv.bytes i) in (
      (λ k e. (λ j. prefix_from k (n * 256 + b j) (drop (add-one i j) bytes)) ∙ sym (one-byte k n i bytes)
          ∙ c.loop-place.invariant.0 (suc k) (omega (arith, e))),
      more-bytes n i c.match-get.byte c.loop-place.invariant.1 (omega (arith, b, f)),
    )

pub returns : goal.returns
returns c =
    let within = c.loop-place.auto.place-end in
    let done = c.loop-place-test.false in
    c.loop-place.invariant.0 0 (omega (arith, within, done))
