use Rattle.std.proofs.Common.{◌≡◌, ◌<◌, ◌-◌, ◌++◌, length}
use Rattle.std.specs.Prelude.{reverse}
use Rattle.nk_flight.specs.Trails.{hop_at, records_at}
use Rattle.nk_flight.proofs.hops.records.Given as goal

-- the records that are left, and then those so far
abbrev pub invariant-loop-step : goal.invariant-loop-step
invariant-loop-step l = record {
  there : l.at < length l.hops;
  count : (hop_at l.hops l.at).crossings ≡ l.crossings - l._step;
  joined : records_at l.fields l.hops (l.crossings - l._step) (hop_at l.hops l.at) ++ reverse l.backwards.items ≡ records_at l.fields l.hops l.crossings (hop_at l.hops l.place);
}
