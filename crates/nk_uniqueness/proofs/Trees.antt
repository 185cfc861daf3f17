-- The printed tree of a tag at a switch is one, where packets in range can be at the switch.
use Rattle.std.proofs.Common.{◌≡◌, ◌≢◌, ℕ, ◌+◌, ◌<◌, ◌≤◌, Bool, true, false, List, [], length, refl, sym, ap, ◌∙◌, arith, get_or-set_other, get_or-set_same}
use Rattle.std.specs.Prelude.{if◌then◌else◌, nat_le, slice_index, slice_set}
use Rattle.nk_field.specs.Packet.{FieldTable, IsPacket}
use Rattle.nk_field.proofs.Lists.{in_from_contains, contains_from_in}
use Rattle.nk_policy.specs.Policy.{Policy}
use Rattle.nk_store.specs.Nodes.{InRange}
use Rattle.nk_store.specs.Diagram.{Diagram, Branches, leaf, case, no_branch, branch, leaf_at, leaf_among, IsReduced, AreReduced}
use Rattle.nk_store.proofs.Same.{set_in_range}
use Rattle.nk_table.specs.declared.Bucket.{Bucket}
use Rattle.nk_extract.specs.Buckets.{bucket_key, tag_of, IsBucketBefore}
use Rattle.nk_compile.specs.PrintedTable.{IsBucketList, IsTreeOfTag}
use Rattle.nk_check.proofs.OneTree.{one_tree}
use Rattle.nk_compile.proofs.Orders.{lex_once, listed_once, same_sorted}
use Rattle.nk_field.specs.Order.{IsListedBefore}

abbrev pub Tree : Type 0
Tree = Diagram (List Bucket)

-- a choice between what is the same
same_choice : {X : Type 0} (b : Bool) (x x' y y' : X) → x ≡ x' → y ≡ y' → (if b then x else y) ≡ (if b then x' else y')
same_choice true x x' y y' e f = e
same_choice false x x' y y' e f = f

-- a tree that tests later fields alone doesn't depend on a field
mutual
  free : (maxima : List ℕ) (d : Tree) (low f v : ℕ) (pk : List ℕ) → IsReduced d maxima low → f < low
      → leaf_at d [] (slice_set pk f v) ≡ leaf_at d [] pk
  free maxima (leaf a) low f v pk r lt = refl
  free maxima (case g bs) low f v pk r lt =
      let ne : g ≢ f = λ e. omega (arith, e, lt, r.0) in
      let le : f ≤ g = omega (arith, lt, r.0) in
      ap (λ w. leaf_among bs [] w (slice_set pk f v)) (get_or-set_other pk f g v 0 ne)
      ∙ frees maxima bs g f v (slice_index pk g) pk r.2 le

  -- likewise branches
  frees : (maxima : List ℕ) (bs : Branches (List Bucket)) (g f v w : ℕ) (pk : List ℕ) → AreReduced bs maxima g → f ≤ g
      → leaf_among bs [] w (slice_set pk f v) ≡ leaf_among bs [] w pk
  frees maxima no_branch g f v w pk r le = refl
  frees maxima (branch end d bs) g f v w pk r le =
      same_choice (nat_le w end) (leaf_at d [] (slice_set pk f v)) (leaf_at d [] pk) (leaf_among bs [] w (slice_set pk f v)) (leaf_among bs [] w pk)
      (free maxima d (g + 1) f v pk r.1 (omega (arith, le)))
      (frees maxima bs g f v w pk r.3 le)

-- a tree over later fields is one over all
over_all : (maxima : List ℕ) (d : Tree) → IsReduced d maxima 1 → IsReduced d maxima 0
over_all maxima (leaf a) r = tt
over_all maxima (case f bs) r = (omega (arith, r.0), r.1, r.2)

-- of two buckets at most one comes before the other
pub bucket_once : (tag : ℕ) (a b : Bucket) → IsBucketBefore tag a b → IsBucketBefore tag b a → ⊥
bucket_once tag a b =
    lex_once IsListedBefore listed_once (bucket_key tag a) (bucket_key tag b) (listed_once (tag_of tag a) (tag_of tag b))

-- the bucket list of a tag at a packet is one
pub one_bucket_list : (width tag : ℕ) (p : Policy) (tags : List (List ℕ)) (t : ℕ) (pk : List ℕ) (xs ys : List Bucket)
    → IsBucketList width tag p tags t pk xs → IsBucketList width tag p tags t pk ys → xs ≡ ys
one_bucket_list width tag p tags t pk xs ys h k =
    same_sorted (IsBucketBefore tag) (bucket_once tag) xs ys h.in_order k.in_order
    (λ b i. in_from_contains ys b ((k.exactly b).1 ((h.exactly b).0 (contains_from_in xs b i))))
    (λ b i. in_from_contains xs b ((h.exactly b).1 ((k.exactly b).0 (contains_from_in ys b i))))

-- two reduced trees over the port and later fields are one where they give the same at the packets of a switch
pub one_tree_at : (fields : FieldTable) (sw : ℕ) (d e : Tree) → length fields.maxima ≤ 18 → sw ≤ slice_index fields.maxima 0
    → IsReduced d fields.maxima 1 → IsReduced e fields.maxima 1
    → ((pk : List ℕ) → IsPacket fields pk → slice_index pk 0 ≡ sw → leaf_at d [] pk ≡ leaf_at e [] pk) → d ≡ e
one_tree_at fields sw d e few within d_reduced e_reduced there =
    one_tree fields.maxima few [] d e (over_all fields.maxima d d_reduced) (over_all fields.maxima e e_reduced) alike
  where
    alike : (pk : List ℕ) → InRange fields.maxima pk → leaf_at d [] pk ≡ leaf_at e [] pk
    alike pk ok =
        let moved = set_in_range fields.maxima pk 0 sw ok within in
        let good : IsPacket fields (slice_set pk 0 sw) = record { places = moved.0; within = moved.1 } in
        let first : 0 < length pk = omega (arith, ok.0) in
        let at : slice_index (slice_set pk 0 sw) 0 ≡ sw = get_or-set_same pk 0 sw 0 first in
        let low : 0 < 1 = omega arith in
        sym (free fields.maxima d 1 0 sw pk d_reduced low)
        ∙ there (slice_set pk 0 sw) good at
        ∙ free fields.maxima e 1 0 sw pk e_reduced low

-- the tree of a tag at a switch is one
pub one_tag_tree : (fields : FieldTable) (tag : ℕ) (p : Policy) (tags : List (List ℕ)) (t sw : ℕ) (d e : Tree)
    → length fields.maxima ≤ 18 → sw ≤ slice_index fields.maxima 0
    → IsTreeOfTag fields tag p tags t sw d → IsTreeOfTag fields tag p tags t sw e → d ≡ e
one_tag_tree fields tag p tags t sw d e few within h k =
    one_tree_at fields sw d e few within h.reduced k.reduced
    (λ pk good at. one_bucket_list (length fields.maxima) tag p tags t pk (leaf_at d [] pk) (leaf_at e [] pk) (h.leaves pk good at) (k.leaves pk good at))
