-- The laws on rows, from those on the ways through the tree.
use Rattle.std.proofs.Common.{◌≡◌, ◌≢◌, ℕ, Bool, true, false, cond, inl, inr, ⊎_elim, List, [], ◌∷◌, length, refl, sym, ap, subst, ◌∙◌, arith}
use Rattle.std.specs.Prelude.{◌==◌, ◌&&◌, ◌||◌, not, map, filter, slice_index, nat_lt}
use Rattle.std.specs.List.{list_all}
use Rattle.std.proofs.lemmas.Bool.Decides.{nat_tests}
use Rattle.nk_field.proofs.Lists.{from_mapped, in_from_contains}
use Rattle.nk_prefix.specs.Prefix.{digits_of}
use Rattle.nk_prefix.proofs.Covers.{exact}
use Rattle.nk_table.specs.declared.Plain.{Plain}
use Rattle.nk_table.specs.Rules.{agrees_at}
use Rattle.nk_table.proofs.SameBuckets.{eq_self}
use Rattle.nk_extract.specs.RuleTree.{Path, is_drop_list, paths_of, put_match, exactly, plain_row, rows_for}
use Rattle.nk_extract.specs.Chosen.{NoDupBy, IsTop, agrees_with, rank, matching, RowsGiveLeaves, RowsDiffer, RowsAreChosen}
use Rattle.nk_extract.proofs.Lists.{filter_same, filter_map_is, filter_twice, top_map, no_dup_map, in_filter}
use Rattle.nk_extract.proofs.Trees.{Tree, tests_only}
use Rattle.nk_extract.proofs.Paths.{goes, is_printed, met}
use Rattle.nk_extract.proofs.Highest.{weight, law}
use Rattle.nk_extract.proofs.Reached.{reached}

-- two tests in either order
swapped : (a b c : Bool) → b && (a && c) ≡ a && (b && c)
swapped true true c = refl
swapped true false c = refl
swapped false true c = refl
swapped false false c = refl

-- a test on all matches, of which one was put in by field
pub put_all :
    (test : ℕ × ℕ × ℕ → Bool) (m : ℕ × ℕ × ℕ) (ms : List (ℕ × ℕ × ℕ))
    → list_all test (put_match m ms) ≡ test m && list_all test ms
put_all test m [] = refl
put_all test m (n ∷ ns) = by (nat_lt m.0 n.0) (ap (λ x. test n && x) (put_all test m ns) ∙ swapped (test m) (test n) (list_all test ns))
  where
    by :
        (t : Bool) → test n && list_all test (put_match m ns) ≡ test m && (test n && list_all test ns)
        → list_all test (cond t (m ∷ n ∷ ns) (n ∷ put_match m ns)) ≡ test m && (test n && list_all test ns)
    by true e = refl
    by false e = e

-- a packet agrees with the exact value that it has
pub exactly_agrees :
    (maxima pk : List ℕ) (f v : ℕ) → slice_index pk f ≡ v → agrees_at maxima pk (exactly maxima f v) ≡ true
exactly_agrees maxima pk f v h =
    exact v (digits_of (slice_index maxima f)) (slice_index pk f) ∙ ap (λ n. n == v) h ∙ eq_self v

-- and not with another one
pub exactly_differs :
    (maxima pk : List ℕ) (f v : ℕ) → slice_index pk f ≢ v → agrees_at maxima pk (exactly maxima f v) ≡ false
exactly_differs maxima pk f v h =
    exact v (digits_of (slice_index maxima f)) (slice_index pk f) ∙ (let n : (slice_index pk f == v) ≡ false = grind (arith, nat_tests, h) in n)

-- false changes nothing
or_false : (a : Bool) → a ≡ a || false
or_false true = refl
or_false false = refl

module _ (maxima : List ℕ) (tag t : ℕ) (d : Tree) where
  -- a row of the tag matches a packet with the tag where the packet goes its way
  row_goes :
      (pk : List ℕ) → slice_index pk tag ≡ t → (p : Path)
      → agrees_with maxima pk (put_match (exactly maxima tag t) p.matches) ≡ goes maxima pk p
  row_goes pk h p = put_all (agrees_at maxima pk) (exactly maxima tag t) p.matches ∙ ap (λ b. b && goes maxima pk p) (exactly_agrees maxima pk tag t h)

  -- the rows that match are those of the printed ways that the packet goes
  matching_is :
      (pk : List ℕ) → slice_index pk tag ≡ t
      → matching maxima (rows_for maxima tag t d) pk ≡ map (plain_row maxima tag t) (met maxima pk false (paths_of maxima d))
  matching_is pk h =
      filter_map_is (λ r. agrees_with maxima pk r.matches) (plain_row maxima tag t) (filter (λ p. not (is_drop_list p.buckets) || p.shown) (paths_of maxima d))
      ∙ ap (map (plain_row maxima tag t))
      (filter_twice (λ p. agrees_with maxima pk (put_match (exactly maxima tag t) p.matches)) (λ p. not (is_drop_list p.buckets) || p.shown) (paths_of maxima d)
      ∙ filter_same (λ p. agrees_with maxima pk (put_match (exactly maxima tag t) p.matches) && (not (is_drop_list p.buckets) || p.shown)) (λ p. goes maxima pk p && (is_printed p || false)) (paths_of maxima d) (λ p. ap (λ b. b && is_printed p) (row_goes pk h p) ∙ ap (λ b. goes maxima pk p && b) (or_false (is_printed p))))

  -- the highest of some ways has the highest of their rows
  lift_top :
      (ps : List Path) (p : Path) → IsTop Path (weight (length maxima) tag) ps p
      → IsTop Plain rank (map (plain_row maxima tag t) ps) (plain_row maxima tag t p)
  lift_top ps p top = top_map (weight (length maxima) tag) rank (plain_row maxima tag t) ps p (λ y l. l) top

-- the rows choose the leaf
pub rows_give_leaves : RowsGiveLeaves
rows_give_leaves maxima tag t d ok pk at =
    let width = length maxima in
    let is = matching_is maxima tag t d pk at.tagged in
    ⊎_elim
    (λ q. inl (plain_row maxima tag t q.0, subst (λ ms. IsTop Plain rank ms (plain_row maxima tag t q.0)) (sym is) (lift_top maxima tag t d (met maxima pk false (paths_of maxima d)) q.0 q.1), q.2))
    (λ n. inr (is ∙ ap (map (plain_row maxima tag t)) n.0, n.1))
    ((law width tag maxima pk at.within d 1 ok.reduced (tests_only maxima tag 1 d ok.reduced ok.tag_free)).outcome false)

-- rows that match differ in priority
pub rows_differ : RowsDiffer
rows_differ maxima tag t d ok pk at =
    let width = length maxima in
    subst (NoDupBy rank) (sym (matching_is maxima tag t d pk at.tagged))
    (no_dup_map (weight width tag) rank (plain_row maxima tag t) (met maxima pk false (paths_of maxima d)) (λ x y n. n)
    ((law width tag maxima pk at.within d 1 ok.reduced (tests_only maxima tag 1 d ok.reduced ok.tag_free)).apart false))

-- each row is chosen somewhere
pub rows_are_chosen : RowsAreChosen
rows_are_chosen maxima tag t d ok few base packet h r among =
    let width = length maxima in
    let p = from_mapped (plain_row maxima tag t) (filter (λ p. not (is_drop_list p.buckets) || p.shown) (paths_of maxima d)) r (in_from_contains (rows_for maxima tag t d) r among) in
    let m = in_filter (λ p. not (is_drop_list p.buckets) || p.shown) (paths_of maxima d) p.0 p.1 in
    let x = reached width tag maxima few d 0 ok.reduced (tests_only maxima tag 1 d ok.reduced ok.tag_free) false p.0 m.0 (sym (or_false (is_printed p.0)) ∙ m.1) base packet in
    let tagged : slice_index x.packet tag ≡ t = x.tag_kept ∙ h in (
      x.packet,
      x.in_range,
      x.before 0 (omega arith),
      tagged,
      subst (λ ms. IsTop Plain rank ms r) (sym (matching_is maxima tag t d x.packet tagged)) (subst (IsTop Plain rank (map (plain_row maxima tag t) (met maxima x.packet false (paths_of maxima d)))) (sym p.2) (lift_top maxima tag t d (met maxima x.packet false (paths_of maxima d)) p.0 x.top)),
    )
