-- The tree of a diagram of a sound store: its leaves, that it is reduced, and the fields that it doesn't test.
use Rattle.std.proofs.Common.{◌≡◌, ◌≢◌, ℕ, zero, suc, ◌+◌, ◌<◌, ◌≤◌, List, [], ◌∷◌, length, refl, sym, ap, subst, ◌∙◌, arith}
use Rattle.std.specs.Prelude.{slice_index, slice_set}
use Rattle.std.proofs.lemmas.List.{length-set}
use Rattle.nk_store.specs.declared.node.Node.{Node}
use Rattle.nk_store.specs.declared.node.Node.TheVariants.{Leaf, Case}
use Rattle.nk_store.specs.Leaves.{Every, Suits}
use Rattle.nk_store.specs.Nodes.{child_at, node_at, look_in, field_of_node, root_field_in, Rises, Each, TestsLater, Differ, Sound, InRange}
use Rattle.nk_store.specs.Diagram.{leaf_at, IsReduced, AreReduced, EndsRight, IsOther, IsFreeOf, AreFreeOf}
use Rattle.nk_store.proofs.Children.{each_value}
use Rattle.nk_store.proofs.Looks.{look_tidy, fits_at, joined_some, each_child}
use Rattle.nk_store.proofs.Same.{set_in_range, no_choice, AgreeIn, look_child, same_number}
use Rattle.nk_store.specs.Trees.{branches_of, tree_in}
use Rattle.nk_store.proofs.Trees.{tree_leaf, tree_case, tree_leaf_at, ends_right, two, differ, both_each}
use Rattle.nk_extract.specs.Ways.{bucket_list}
use Rattle.nk_extract.proofs.Acts.{Avoids}
use Rattle.nk_extract.proofs.BucketLists.{IsPlainOut, list_one, every_out, out_each}
use Rattle.nk_store.proofs.Children.{each_of}

-- two fields are set in either order
pub set_swap :
    (xs : List ℕ) (i j x y : ℕ) → i ≢ j
    → slice_set (slice_set xs i x) j y ≡ slice_set (slice_set xs j y) i x
set_swap [] i j x y n = refl
set_swap (z ∷ xs) zero zero x y n = absurd (n refl)
set_swap (z ∷ xs) zero (suc j) x y n = refl
set_swap (z ∷ xs) (suc i) zero x y n = refl
set_swap (z ∷ xs) (suc i) (suc j) x y n = ap (λ l. z ∷ l) (set_swap xs i j x y (λ e. n (ap suc e)))

module _ (maxes : List ℕ) (ns : List Node) (sound : Sound maxes ns) where
  -- a tree's leaf is the bucket list
  pub leaf_is :
      (tag i : ℕ) (pk : List ℕ) → i < length ns → InRange maxes pk
      → leaf_at (tree_in (bucket_list tag) ns i) [] pk ≡ bucket_list tag (look_in ns i pk)
  leaf_is tag i pk h r = tree_leaf_at (bucket_list tag) [] maxes ns sound i pk h r

  -- a number whose leaves' acts assign neither the switch nor the tag, whatever the tag's value
  pub record IsGood (tag i : ℕ) : Type 0 where
    pub id : i < length ns
    pub avoids : (pk : List ℕ) → InRange maxes pk → Every (λ o. Avoids tag o.act) (look_in ns i pk)
    pub free : (pk : List ℕ) (n : ℕ) → InRange maxes pk → n ≤ slice_index maxes tag → look_in ns i (slice_set pk tag n) ≡ look_in ns i pk

  -- its leaves' outs are plain
  plain :
      (tag i : ℕ) (pk : List ℕ) → IsGood tag i → InRange maxes pk
      → Every (IsPlainOut maxes tag) (look_in ns i pk)
  plain tag i pk g r =
      out_each (IsPlainOut maxes tag) (look_in ns i pk) (λ o j. record {
        act = every_out (Suits maxes) (look_in ns i pk) o (look_tidy maxes ns i pk sound).1 j;
        avoids = every_out (λ z. Avoids tag z.act) (look_in ns i pk) o (g.avoids pk r) j;
      })

  -- trees tell good numbers apart
  pub one :
      (tag c d : ℕ) → slice_index maxes 1 ≡ 65535 → IsGood tag c → IsGood tag d
      → tree_in (bucket_list tag) ns c ≡ tree_in (bucket_list tag) ns d → c ≡ d
  one tag c d ports g h e =
      same_number maxes ns c d sound g.id h.id (λ pk r.
      list_one maxes tag ports (look_in ns c pk) (look_in ns d pk) (plain tag c pk g r) (plain tag d pk h r)
      (sym (leaf_is tag c pk g.id r) ∙ ap (λ t. leaf_at t [] pk) e ∙ leaf_is tag d pk h.id r))

  -- a good number doesn't test the tag
  pub tag_untested :
      (tag i f : ℕ) (ps : List (ℕ × ℕ)) → IsGood tag i → node_at ns i ≡ Case f ps → f ≢ tag
  tag_untested tag i f ps g e same =
      let e' : node_at ns i ≡ Case tag ps = e ∙ ap (λ z. Case z ps) same in
      let h = g.id in
      let both = fits_at maxes ns i tag ps sound h e' in
      let some = joined_some ps both.0.3 in
      no_choice (slice_index maxes tag) tag ps (λ c d. (c < i) × (d < i) × AgreeIn maxes ns c d) (λ c d a. same_number maxes ns c d sound (omega (arith, a.0, h)) (omega (arith, a.1, h)) a.2) both.0.1 both.0.3
      (λ v w l m. (
        each_child (λ c. c < i) 0 ps v some both.1,
        each_child (λ c. c < i) 0 ps w some both.1,
        λ pk r. sym (look_child maxes ns i tag v ps pk sound h e' r.0) ∙ g.free pk v r l ∙ sym (g.free pk w r m) ∙ look_child maxes ns i tag w ps pk sound h e' r.0,
      ))

  -- the child at a value of a good number is good
  good_child :
      (tag i f v : ℕ) (ps : List (ℕ × ℕ)) → IsGood tag i → node_at ns i ≡ Case f ps
      → v ≤ slice_index maxes f → IsGood tag (child_at 0 ps v)
  good_child tag i f v ps g e l =
      let h = g.id in
      let both = fits_at maxes ns i f ps sound h e in
      let less = each_child (λ c. c < i) 0 ps v (joined_some ps both.0.3) both.1 in
      record {
        id = omega (arith, less, h);
        avoids = λ pk r. subst (Every (λ o. Avoids tag o.act)) (look_child maxes ns i f v ps pk sound h e r.0) (g.avoids (slice_set pk f v) (set_in_range maxes pk f v r l));
        free = λ pk n r k.
            sym (look_child maxes ns i f v ps (slice_set pk tag n) sound h e (length-set pk tag n ∙ r.0))
            ∙ ap (look_in ns i) (set_swap pk tag f n v (λ s. tag_untested tag i f ps g e (sym s)))
            ∙ g.free (slice_set pk f v) n (set_in_range maxes pk f v r l) k
            ∙ look_child maxes ns i f v ps pk sound h e r.0;
      }

  -- the children of a good number are good
  pub good_children :
      (tag i f : ℕ) (ps : List (ℕ × ℕ)) → IsGood tag i → node_at ns i ≡ Case f ps → Each (IsGood tag) ps
  good_children tag i f ps g e =
      let both = fits_at maxes ns i f ps sound g.id e in
      each_value (IsGood tag) (slice_index maxes f) 0 0 ps both.0.1 (λ v lo hi. good_child tag i f v ps g e hi)

  -- the neighbours of a child have other trees
  is_other :
      (tag c : ℕ) (ps : List (ℕ × ℕ)) → slice_index maxes 1 ≡ 65535 → IsGood tag c
      → Each (IsGood tag) ps → Differ c ps
      → IsOther (tree_in (bucket_list tag) ns c) (branches_of ps (λ k. tree_in (bucket_list tag) ns k))
  is_other tag c [] ports g e d = tt
  is_other tag c (p ∷ ps) ports g e d = λ same. d.0 (sym (one tag c p.1 ports g e.0 same))

  -- parts with reduced trees are reduced branches
  parts_reduced :
      (tag f high from : ℕ) (ps : List (ℕ × ℕ)) → slice_index maxes 1 ≡ 65535
      → slice_index maxes f ≡ high → Rises high from ps → Each (IsGood tag) ps
      → Each (λ c. IsReduced (tree_in (bucket_list tag) ns c) maxes (f + 1)) ps → (c : ℕ) → Differ c ps
      → AreReduced (branches_of ps (λ k. tree_in (bucket_list tag) ns k)) maxes f
  parts_reduced tag f high from [] ports is r g e c d = tt
  parts_reduced tag f high from (p ∷ ps) ports is r g e c d = (
    subst (λ z. EndsRight z p.0 (branches_of ps (λ k. tree_in (bucket_list tag) ns k))) (sym is) (ends_right (λ k. tree_in (bucket_list tag) ns k) high p.0 ps r.2),
    e.0,
    is_other tag p.1 ps ports g.0 g.1 d.1,
    parts_reduced tag f high (p.0 + 1) ps ports is r.2 g.1 e.1 p.1 d.1,
  )

  -- branches whose trees do not test the tag
  free_parts :
      (tag : ℕ) (ps : List (ℕ × ℕ)) → Each (λ c. IsFreeOf tag (tree_in (bucket_list tag) ns c)) ps
      → AreFreeOf tag (branches_of ps (λ k. tree_in (bucket_list tag) ns k))
  free_parts tag [] e = tt
  free_parts tag (p ∷ ps) e = (e.0, free_parts tag ps e.1)

  -- a good number's tree is reduced over later fields, and doesn't test the tag
  shape_below :
      (tag m i low : ℕ) → slice_index maxes 1 ≡ 65535 → i < m → IsGood tag i → low ≤ root_field_in ns i
      → IsReduced (tree_in (bucket_list tag) ns i) maxes low × IsFreeOf tag (tree_in (bucket_list tag) ns i)
  shape_below tag zero i low ports l g t = absurd (omega (arith, l))
  shape_below tag (suc m) i low ports l g t =
      by (node_at ns i) refl (λ c k less good later. shape_below tag m c k ports (omega (arith, less, l)) good later)
    where
      by :
          (n : Node) → node_at ns i ≡ n
          → ((c k : ℕ) → c < i → IsGood tag c → k ≤ root_field_in ns c → IsReduced (tree_in (bucket_list tag) ns c) maxes k × IsFreeOf tag (tree_in (bucket_list tag) ns c))
          → IsReduced (tree_in (bucket_list tag) ns i) maxes low × IsFreeOf tag (tree_in (bucket_list tag) ns i)
      by (Leaf outs) e ih = subst (λ z. IsReduced z maxes low × IsFreeOf tag z) (sym (tree_leaf (bucket_list tag) ns i outs g.id e)) (tt, tt)
      by (Case f ps) e ih =
          let fits = fits_at maxes ns i f ps sound g.id e in
          let good = good_children tag i f ps g e in
          let shapes : Each (λ c. IsReduced (tree_in (bucket_list tag) ns c) maxes (f + 1) × IsFreeOf tag (tree_in (bucket_list tag) ns c)) ps =
          each_of (λ c. (c < i) × (IsGood tag c × TestsLater ns f c)) (λ c. IsReduced (tree_in (bucket_list tag) ns c) maxes (f + 1) × IsFreeOf tag (tree_in (bucket_list tag) ns c)) ps
          (λ c a. let later = a.1.1.1 in ih c (f + 1) a.0 a.1.0 (omega (arith, later)))
          (both_each (λ c. c < i) (λ c. IsGood tag c × TestsLater ns f c) ps fits.1 (both_each (IsGood tag) (TestsLater ns f) ps good fits.0.2)) in
          let low_f : low ≤ f = subst (λ n. low ≤ field_of_node n) e t in
          let d = differ ps fits.0.3 in
          subst (λ z. IsReduced z maxes low × IsFreeOf tag z) (sym (tree_case (bucket_list tag) ns i f ps g.id e fits.1)) (
            (
              low_f,
              two (λ k. tree_in (bucket_list tag) ns k) ps fits.0.3,
              parts_reduced tag f (slice_index maxes f) 0 ps ports refl fits.0.1 good (each_of _ (λ c. IsReduced (tree_in (bucket_list tag) ns c) maxes (f + 1)) ps (λ c a. a.0) shapes) d.0 d.1,
            ),
            (
              tag_untested tag i f ps g e,
              free_parts tag ps (each_of _ (λ c. IsFreeOf tag (tree_in (bucket_list tag) ns c)) ps (λ c a. a.1) shapes),
            ),
          )

  -- a good number's tree is reduced, and does not test the tag
  pub shape :
      (tag i low : ℕ) → slice_index maxes 1 ≡ 65535 → IsGood tag i → low ≤ root_field_in ns i
      → IsReduced (tree_in (bucket_list tag) ns i) maxes low × IsFreeOf tag (tree_in (bucket_list tag) ns i)
  shape tag i low ports g t = shape_below tag (suc i) i low ports (omega arith) g t
