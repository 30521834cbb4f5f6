-- What a call did to the source that it drew from and to the sink that it filled.
use Rattle.std.specs.Prelude.{ℕ, List, Option}
use Rattle.hx_io.specs.declared.ends.Source.{Ghosts as SeenOfSource}
use Rattle.hx_io.specs.declared.ends.Sink.{Ghosts as SeenOfSink}

-- a source or a sink before and after a call: the bytes that are left in it or that it holds, where it tells them, and its count of faults
pub record Stream : Type 0 where
  pub before : Option (List ℕ)
  pub after : Option (List ℕ)
  pub faults_before : ℕ
  pub faults_after : ℕ

-- what was drawn from a source: its bytes are those that are left
abbrev pub drawn : {S : Type 0} → SeenOfSource S → S → S → Stream
drawn seen old new = record { before = seen.left old; after = seen.left new; faults_before = seen.faults old; faults_after = seen.faults new }

-- what was filled into a sink: its bytes are those that it holds
abbrev pub filled : {K : Type 0} → SeenOfSink K → K → K → Stream
filled seen old new = record { before = seen.held old; after = seen.held new; faults_before = seen.faults old; faults_after = seen.faults new }
