use Rattle.std.proofs.Common.{ap}
use Rattle.std.proofs.lemmas.List.{take_rest}
use Rattle.hx_io.proofs.Fronts.{read_front}
use Rattle.hx_io.specs.InMemory.{SourceState}
use Rattle.hx_io.proofs.memory_source.MemorySourceSource.read.Goals as goal

pub returns-clause-bytes : goal.returns-clause-bytes
returns-clause-bytes c =
    let left = ap (λ (s : SourceState). s.left) c.self.view_is in
    let front = rw (c.deref-2.ensures.value, take_rest) at c.copy_from_slice.ensures.after in
    let count = rw (c.deref-2.ensures.value, take_rest, c.min.ensures) at c.min-count.ensures in
    read_front c.self.inside.bytes.items _ _ c.args.buf.now c.self.inside.given c.self.inside.chunk c.min-count.result left front count c.self.invariant.0
