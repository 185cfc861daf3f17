use Rattle.std.proofs.Common.{◌≡◌, ◌++◌, [], ◌∷◌, drop, codes}
use Rattle.std.specs.List.{join_by}
use Rattle.nk_field.specs.Texts.{packet_bytes}
use Rattle.nk_field.proofs.texts.history_text.Given as goal

-- what is made so far, then the packets that are left, is the whole
abbrev pub invariant-loop-record : goal.invariant-loop-record
invariant-loop-record l =
    l.out.items ++ join_by (packet_bytes l.fields l.with_tag) (codes " ") (drop l.record-index l.record-items ++ l.h.last ∷ [])
    ≡ join_by (packet_bytes l.fields l.with_tag) (codes " ") (l.record-items ++ l.h.last ∷ [])
