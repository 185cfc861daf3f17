-- Sources and sinks in memory, as contracts see them.
use Rattle.std.specs.Prelude.{ℕ, ◌-◌, ◌==◌, Bool, true, false, List, ◌++◌, length, take, drop, min, if◌then◌else◌, Ok, Err}
use Rattle.std.specs.declared.result.Result.{Result}
use Rattle.std.specs.List.{list_any}
use Rattle.nk_io.specs.declared.traits.Failed.{Failed}
use Rattle.nk_io.specs.Faults.{next}

-- the one value of its type
abbrev pub failed : Failed
failed = record {}

-- the call that comes after so many is one of those with these numbers, from 1
abbrev pub call_fails : ℕ → List ℕ → Bool
call_fails calls fails = list_any (λ n. n == next calls) fails

-- a source: what is left, how many bytes a call gives at most, the numbers of the calls that fail,
-- and how many calls there were and failed
pub record SourceState : Type 0 where
  pub left : List ℕ
  pub piece : ℕ
  pub fails : List ℕ
  pub calls : ℕ
  pub faults : ℕ

-- the next call fails
abbrev pub source_fails : SourceState → Bool
source_fails s = call_fails s.calls s.fails

-- how many bytes a call gives into a slice of that length
abbrev pub given_count : SourceState → ℕ → ℕ
given_count s room = min s.piece (min room (length s.left))

-- what the next call answers, with a slice of that length
abbrev pub read_answer : SourceState → ℕ → Result ℕ Failed
read_answer s room = if source_fails s then Err failed else Ok (given_count s room)

-- the source after the next call
abbrev pub after_read : SourceState → ℕ → SourceState
after_read s room = record s {
  left = if source_fails s then s.left else drop (given_count s room) s.left;
  calls = next s.calls;
  faults = if source_fails s then next s.faults else s.faults;
}

-- a sink: what was taken, how much in all there is room for, and the rest as for a source
pub record SinkState : Type 0 where
  pub taken : List ℕ
  pub room : ℕ
  pub piece : ℕ
  pub fails : List ℕ
  pub calls : ℕ
  pub faults : ℕ

-- how many bytes of a piece of that length a call takes
abbrev pub taken_count : SinkState → ℕ → ℕ
taken_count s len = min s.piece (min len (s.room - length s.taken))

-- the next call fails with a piece of that length: it is one of those that fail, or there is no room
-- for a piece that isn't empty
abbrev pub sink_fails : SinkState → ℕ → Bool
sink_fails s len =
    if call_fails s.calls s.fails then true
    else if len == 0 then false else s.room - length s.taken == 0

-- what the next call answers, with a piece of that length
abbrev pub write_answer : SinkState → ℕ → Result ℕ Failed
write_answer s len = if sink_fails s len then Err failed else Ok (taken_count s len)

-- the sink after the next call
abbrev pub after_write : SinkState → List ℕ → SinkState
after_write s bytes = record s {
  taken = if sink_fails s (length bytes) then s.taken
      else s.taken ++ take (taken_count s (length bytes)) bytes;
  calls = next s.calls;
  faults = if sink_fails s (length bytes) then next s.faults else s.faults;
}
