-- The ways through a diagram of the store, node by node, and what a way's row is. The else-child is found by number.
use Rattle.std.specs.Prelude.{◌≡◌, ℕ, ◌<◌, ◌≤◌, ◌==◌, ◌||◌, Bool, false, not, min, if◌then◌else◌, List, [], ◌∷◌, ◌++◌, length, map, filter, slice_index}
use Rattle.std.specs.List.{flat_map}
use Rattle.nk_store.specs.ElseChild.{Span, spans, else_of}
use Rattle.nk_field.specs.Act.{act_then, left_without}
use Rattle.nk_store.specs.declared.node.Node.{Node}
use Rattle.nk_store.specs.declared.node.Node.TheVariants.{Leaf, Case}
use Rattle.nk_store.specs.declared.node.Out.{Out}
use Rattle.nk_store.specs.Nodes.{node_at, child_at}
pub use Rattle.nk_store.specs.Nodes.{is_empty_leaf}
use Rattle.nk_store.specs.StoreState.{StoreState}
use Rattle.nk_store.specs.Diagram.{Diagram}
use Rattle.nk_store.specs.Trees.{tree_in}
use Rattle.nk_prefix.specs.Blocks.{blocks_of}
use Rattle.nk_table.specs.declared.Bucket.{Bucket}
use Rattle.nk_table.specs.declared.Exit.{Exit}
use Rattle.nk_table.specs.declared.Exit.TheVariants.{Back, Port}
use Rattle.nk_table.specs.declared.Plain.{Plain}
use Rattle.nk_extract.specs.RuleTree.{Path, paths_of, is_drop_list, with_match, put_match, exactly, priority_of, bit_of, rows_for}
use Rattle.nk_extract.specs.Chosen.{IsRowTree}

-- the port that the assignments set, or back
abbrev pub exit_of : List (ℕ × ℕ) → Exit
exit_of [] = Back
exit_of (s ∷ ss) = if s.0 == 1 then Port (min s.1 65535) else exit_of ss

-- the bucket of an out: its assignments but the port's, the tag, and its port
abbrev pub bucket_for : ℕ → Out → Bucket
bucket_for tag o = record { sets = act_then (left_without 1 o.act) ((tag, o.target) ∷ []); exit = exit_of o.act }

abbrev pub bucket_list : ℕ → List Out → List Bucket
bucket_list tag outs = map (bucket_for tag) outs

-- the ways of an interval's blocks, the field's largest value being given
abbrev pub span_ways : (max f : ℕ) → Bool → ℕ → (ℕ → List Path) → Span → List Path
span_ways max f drops other ways s =
    if s.child == other then []
    else flat_map (λ b. map (with_match f drops b) (ways s.child)) (blocks_of s.first s.last max)

-- the ways of a node, by those of its children
abbrev pub node_ways : List ℕ → ℕ → Node → (ℕ → Bool) → (ℕ → List Path) → List Path
node_ways maxes tag (Leaf outs) drops ways = record { matches = []; buckets = bucket_list tag outs; shown = false } ∷ []
node_ways maxes tag (Case f parts) drops ways =
    flat_map (span_ways (slice_index maxes f) f (drops (else_of parts)) (else_of parts) ways) (spans parts 0)
    ++ ways (else_of parts)

-- the ways of the node of a number
abbrev pub ways_in : List ℕ → ℕ → List Node → ℕ → List Path
ways_in maxes tag [] i = []
ways_in maxes tag (n ∷ older) i =
    if i == length older then node_ways maxes tag n (λ c. is_empty_leaf (node_at older c)) (λ c. ways_in maxes tag older c)
    else ways_in maxes tag older i

-- the ways of a diagram of the store
unfoldable pub ways : ℕ → StoreState → ℕ → List Path
ways tag st d = ways_in st.maxes tag st.nodes d

-- a table of the bit of each field
abbrev pub AreBits : ℕ → ℕ → List ℕ → Type 0
AreBits width tag bits = (f : ℕ) → f < 18 → slice_index bits f ≡ bit_of width tag f

-- the row of a way after the matches made before it, of which the tag is to be matched
abbrev pub row_after : ℕ → ℕ × ℕ × ℕ → List (ℕ × ℕ × ℕ) → Path → Plain
row_after width tag before p = record {
  priority = min 65535 (priority_of width tag.0 (before ++ p.matches));
  matches = put_match tag (before ++ p.matches);
  buckets = p.buckets;
}

-- the rows of ways, all of them where all holds
abbrev pub rows_following : ℕ → ℕ × ℕ × ℕ → List (ℕ × ℕ × ℕ) → Bool → List Path → List Plain
rows_following width tag before all ps =
    map (row_after width tag before) (filter (λ p. (not (is_drop_list p.buckets) || p.shown) || all) ps)

-- the rows of an interval's blocks, after a way
abbrev pub span_rows : ℕ → ℕ × ℕ × ℕ → List (ℕ × ℕ × ℕ) → (max f : ℕ) → Bool → ℕ → (ℕ → List Path) → Span → List Plain
span_rows width tag before max f all other ways s =
    if s.child == other then []
    else flat_map (λ b. rows_following width tag (before ++ (f, b.0, b.1) ∷ []) all (ways s.child)) (blocks_of s.first s.last max)

-- the child of a node for a switch, or the diagram itself where it doesn't test the switch
abbrev pub at_switch : ℕ → ℕ → Node → ℕ
at_switch sw d (Leaf outs) = d
at_switch sw d (Case f parts) = if f == 0 then child_at 0 parts sw else d

-- the tree of bucket lists of a diagram of the store
unfoldable pub tree_of : ℕ → StoreState → ℕ → Diagram (List Bucket)
tree_of tag st d = tree_in (bucket_list tag) st.nodes d

-- the rows made of a tree's ways are its rows, where all bits fit
abbrev pub RowsAreMade : Type 0
RowsAreMade =
    (maxima : List ℕ) (tag t : ℕ) (d : Diagram (List Bucket)) → IsRowTree maxima tag d → bit_of (length maxima) tag 0 ≤ 65536
    → rows_following (length maxima) (exactly maxima tag t) [] false (paths_of maxima d) ≡ rows_for maxima tag t d
