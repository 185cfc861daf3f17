use Rattle.std.proofs.Common.{◌≡◌, ◌<◌, ℕ, length}
use Rattle.std.specs.Prelude.{slice_index}
use Rattle.nk_determ.specs.Sets.{IsSetOf, SetsGrow}
use Rattle.nk_group.specs.Tagged.{set_of_tag}
use Rattle.nk_merge.specs.Alike.{labels_after}
use Rattle.nk_compact.proofs.met.sets_after.Given as goal

-- the sets after the tags so far
abbrev pub invariant-loop-s : goal.invariant-loop-s
invariant-loop-s l = record {
  sets : SetsGrow l.fn.ss l.ss;
  len : length l.all ≡ l.s-index;
  following : (i : ℕ) → i < l.s-index → IsSetOf l.ss (slice_index l.all i) (labels_after (set_of_tag l.fn.ss l.tags i));
}
