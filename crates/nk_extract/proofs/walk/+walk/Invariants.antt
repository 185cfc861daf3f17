use Rattle.std.proofs.Common.{◌≡◌, ◌+◌, ◌*◌, ◌++◌, [], ◌∷◌, List, drop}
use Rattle.std.specs.List.{flat_map}
use Rattle.nk_store.specs.Nodes.{Rises}
use Rattle.nk_table.specs.declared.Plain.{Plain}
use Rattle.nk_store.specs.ElseChild.{spans}
use Rattle.nk_extract.specs.Ways.{ways, span_rows, rows_following}
use Rattle.nk_extract.proofs.walk.+walk.Given as goal

abbrev pub decreases-walk : goal.decreases-walk
decreases-walk g l = 5 * l.d + 3

abbrev pub decreases-walk_case : goal.decreases-walk_case
decreases-walk_case g l = 5 * l.d + 2

abbrev pub decreases-walk_span : goal.decreases-walk_span
decreases-walk_span g l = 5 * l.span.child + 6

abbrev pub decreases-walk_blocks : goal.decreases-walk_blocks
decreases-walk_blocks g l = 5 * l.child + 5

abbrev pub decreases-walk_block : goal.decreases-walk_block
decreases-walk_block g l = 5 * l.child + 4

-- rows were put, and with those of the parts that are left they are those of all parts
abbrev pub invariant-walk_case-loop-end : goal.invariant-walk_case-loop-end
invariant-walk_case-loop-end g l = record {
  same : l.matches.items ≡ l.fn.matches.items;
  rise : Rises l.max l.from (drop l.end-index l.parts);
  made : (rows : List Plain)
      × g.S.RowSink.puts l.fn.sink rows l.sink
      × (rows ++ flat_map (span_rows l.frame.width l.frame.tag l.fn.matches.items l.max l.f l.after_block l.other (ways l.frame.tag.0 l.st)) (spans (drop l.end-index l.parts) l.from) ≡ flat_map (span_rows l.frame.width l.frame.tag l.fn.matches.items l.max l.f l.after_block l.other (ways l.frame.tag.0 l.st)) (spans l.parts 0));
}

-- rows were put, and with those of the blocks that are left they are those of all blocks
abbrev pub invariant-walk_blocks-loop-value : goal.invariant-walk_blocks-loop-value
invariant-walk_blocks-loop-value g l = record {
  same : l.matches.items ≡ l.fn.matches.items;
  made : (rows : List Plain)
      × g.S.RowSink.puts l.fn.sink rows l.sink
      × (rows ++ flat_map (λ b. rows_following l.frame.width l.frame.tag (l.fn.matches.items ++ (l.choice.field, b.0, b.1) ∷ []) l.choice.shown (ways l.frame.tag.0 l.st l.child)) (drop l.value-index l.blocks) ≡ flat_map (λ b. rows_following l.frame.width l.frame.tag (l.fn.matches.items ++ (l.choice.field, b.0, b.1) ∷ []) l.choice.shown (ways l.frame.tag.0 l.st l.child)) l.blocks);
}
