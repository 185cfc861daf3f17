-- Where the links of parts end, one part after another.
use Rattle.std.proofs.Common.{◌≡◌, ℕ, ◌+◌, ◌<◌, Option, Some, None, List, ◌∷◌, length, get_or, drop, refl, sym, ap, subst, ◌∙◌, arith}
use Rattle.std.proofs.lemmas.List.{drop_more}
use Rattle.nk_policy.specs.Policy.{Policy, Policies, part}
use Rattle.nk_policy.specs.Tree.{tree_of, trees_of}
use Rattle.nk_policy.specs.declared.policy.Pol.{Pol}
use Rattle.nk_compile.specs.WholeTable.{first_number, link_end, link_end_among}
use Rattle.nk_compile.specs.Comings.{HasEnds, HaveEnds}

-- three in turn
or_turn : (a b c : Option ℕ) → first_number (first_number a b) c ≡ first_number a (first_number b c)
or_turn None b c = refl
or_turn (Some n) b c = refl

-- one more part in front
pub ends_before : (old mid new : List (Option ℕ)) (p : Policy) (ps : Policies) → HasEnds old mid p → HaveEnds mid new ps → HaveEnds old new (part p ps)
ends_before old mid new p ps a b = record {
  count = b.count ∙ a.count;
  each = λ l lt.
      let inside : l < length mid = let c = b.count in omega (arith, lt, c) in
      b.each l lt ∙ ap (λ o. first_number o (link_end_among ps l)) (a.each l inside) ∙ or_turn (get_or old l None) (link_end p l) (link_end_among ps l);
}

-- what is left of the parts, after one of them
pub ends_left : (old mid new : List (Option ℕ)) (ps : List Pol) (i : ℕ) (q : Pol) → i < length ps → q ≡ get_or ps i q → HasEnds old mid (tree_of q) →
    HaveEnds mid new (trees_of (drop (i + 1) ps)) → HaveEnds old new (trees_of (drop i ps))
ends_left old mid new ps i q lt at a b =
    subst (λ l. HaveEnds old new (trees_of l)) (sym (drop_more ps i q lt ∙ ap (λ x. x ∷ drop (i + 1) ps) (sym at)))
    (ends_before old mid new (tree_of q) (trees_of (drop (i + 1) ps)) a b)
