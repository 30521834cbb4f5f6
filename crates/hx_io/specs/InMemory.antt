-- What a source and a sink in memory do, from call to call.
use Rattle.std.specs.Prelude.{ℕ, ◌-◌, List, [], ◌++◌, take, drop, Contains, Result, Ok, Err}
use Rattle.hx_io.specs.Causes.{counted}

-- a source: the bytes that are left, how many it gives at most in a call,
-- the numbers of the calls that fail, and how many calls and faults there were
pub record SourceState : Type 0 where
  pub left : List ℕ
  pub chunk : ℕ
  pub fails : List ℕ
  pub calls : ℕ
  pub faults : ℕ

-- a sink: the bytes that it holds, how many more it has room for, how many it takes at most
-- in a call, the numbers of the calls that fail, and how many calls and faults there were
pub record SinkState : Type 0 where
  pub held : List ℕ
  pub room : ℕ
  pub chunk : ℕ
  pub fails : List ℕ
  pub calls : ℕ
  pub faults : ℕ

-- the next call is one of those that fail
abbrev pub FailsNext : List ℕ → ℕ → Type 0
FailsNext fails calls = Contains fails (counted calls)

-- a source before its first call
abbrev pub unread : List ℕ → ℕ → List ℕ → SourceState
unread bytes most failing = record { left = bytes; chunk = most; fails = failing; calls = 0; faults = 0 }

-- a sink before its first call
abbrev pub unwritten : ℕ → ℕ → List ℕ → SinkState
unwritten space most failing = record { held = []; room = space; chunk = most; fails = failing; calls = 0; faults = 0 }

-- a source after a read: without the bytes that it gave, or with one more fault
abbrev pub after_read : {E : Type 0} → SourceState → Result ℕ E → SourceState
after_read s (Ok n) = record s { left = drop n s.left; calls = counted s.calls }
after_read s (Err _) = record s { calls = counted s.calls; faults = counted s.faults }

-- a sink after a write: with the bytes that it took, or with one more fault
abbrev pub after_write : {E : Type 0} → SinkState → List ℕ → Result ℕ E → SinkState
after_write s bytes (Ok n) = record s { held = s.held ++ take n bytes; room = s.room - n; calls = counted s.calls }
after_write s bytes (Err _) = record s { calls = counted s.calls; faults = counted s.faults }
