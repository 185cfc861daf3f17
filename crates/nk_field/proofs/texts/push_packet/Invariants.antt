use Rattle.std.proofs.Common.{◌≡◌, ◌++◌, ◌-◌, length}
use Rattle.std.specs.List.{flat_map, range_with_len}
use Rattle.nk_field.specs.Texts.{packet_bytes}
use Rattle.nk_field.proofs.Printing.{further}
use Rattle.nk_field.proofs.texts.push_packet.Given as goal

-- what is made so far, then the fields that are left, is the whole
abbrev pub invariant-loop-place : goal.invariant-loop-place
invariant-loop-place l =
    l.out.items ++ flat_map (further l.fields l.with_tag l.p) (range_with_len l.place (length l.fields.maxima - l.place))
    ≡ l.fn.out.items ++ packet_bytes l.fields l.with_tag l.p
