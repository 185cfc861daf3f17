use Rattle.std.proofs.Common.{◌≡◌, ◌≤◌, ◌-◌, false, length, drop}
use Rattle.std.specs.Prelude.{filter, map, replicate}
use Rattle.std.specs.List.{range_with_len}
use Rattle.nk_field.specs.Texts.{read_items, shown, is_shown}
use Rattle.nk_field.proofs.reading.packet_in.Given as goal

-- the fields and items that are left give what all give
abbrev pub invariant-loop-place : goal.invariant-loop-place
invariant-loop-place l = record {
  few : l.reading.read ≤ l.place;
  same : read_items l.fields (filter (is_shown l.fields false) (range_with_len l.place (length l.fields.maxima - l.place)))
      (drop l.reading.read (map (λ i. i.now) l.items)) l.reading.read l.reading.packet
      ≡ read_items l.fields (shown l.fields false) (map (λ i. i.now) l.items) 0 (replicate 18 0);
}
