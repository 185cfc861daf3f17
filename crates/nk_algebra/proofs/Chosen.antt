-- Parts for a choice between diagrams that test any fields, and how they are made.
use Rattle.std.proofs.Common.{◌≡◌, ℕ, zero, suc, ◌+◌, ◌<◌, ◌≤◌, List, [], ◌∷◌, ◌++◌, length, sym, ◌∙◌, ap, subst, arith, get_or, inl, inr}
use Rattle.std.proofs.lemmas.Bool.Decides.{leb_tells}
use Rattle.nk_store.specs.declared.node.Out.{Out}
use Rattle.nk_store.specs.Nodes.{child_at, Rises, Each}
use Rattle.nk_store.specs.StoreState.{StoreState, IsId, look, Grows, HasLeaves, IsChild, AreParts}
use Rattle.nk_store.proofs.Looks.{each_child, each_weaker}
use Rattle.nk_apply.specs.Cofactors.{cofactor, IsPart, IsSplit}
use Rattle.nk_algebra.specs.Choices.{AreChoices}
use Rattle.nk_apply.proofs.Parts.{child_past}
use Rattle.nk_apply.proofs.Built.{Ends, ends_push, ends_rise, child_old, child_new, each_push, some_ends, part_old}

-- parts stay parts in a store that grew
pub choices_grown : (old new : StoreState) (f : ℕ) (ps : List (ℕ × ℕ)) → Grows old new → AreChoices old f ps →
    AreChoices new f ps
choices_grown old new f ps g c = record {
  field = c.field;
  rise = subst (λ ms. Rises (get_or ms f 0) 0 ps) (sym g.maxes) c.rise;
  ids = each_weaker (IsId old) (IsId new) ps g.ids c.ids;
}

-- parts of all values are some
pub choices_some : (st : StoreState) (f : ℕ) (ps : List (ℕ × ℕ)) → AreChoices st f ps → 0 < length ps
choices_some st f ps c = some ps c.rise
  where
    some : (qs : List (ℕ × ℕ)) → Rises (get_or st.maxes f 0) 0 qs → 0 < length qs
    some [] r = absurd (omega (arith, r))
    some (q ∷ qs) r = omega arith

-- what holds of each part's diagram holds of the one at a place
pub each_place : (P : ℕ → Type 0) (ps : List (ℕ × ℕ)) (k : ℕ) (e : ℕ × ℕ) → Each P ps → k < length ps →
    P (get_or ps k e).1
each_place P [] k e h l = absurd (omega arith)
each_place P (p ∷ ps) zero e h l = h.0
each_place P (p ∷ ps) (suc k) e h l = each_place P ps k e h.1 (omega arith)

-- parts whose diagrams test later fields make a node
pub choices_parts : (st : StoreState) (f : ℕ) (ps : List (ℕ × ℕ)) → AreChoices st f ps → Each (IsChild st f) ps →
    AreParts st f ps
choices_parts st f ps c e = record { field = c.field; rise = c.rise; children = e }

-- parts that serve the values below to: at the value v of f, what R v gives
pub record Serving (R : ℕ → List ℕ → List Out) (st : StoreState) (f to : ℕ) (ps : List (ℕ × ℕ)) : Type 0 where
  pub ends : Ends to 0 ps
  pub ids : Each (IsId st) ps
  pub leaf : (v : ℕ) (pk : List ℕ) → length pk ≡ 18 → v < to → look st (child_at 0 ps v) pk ≡ R v pk

-- one part more, which serves the values up to e
pub serving_push : (R : ℕ → List ℕ → List Out) (st new : StoreState) (f from : ℕ) (ps : List (ℕ × ℕ)) (d e : ℕ) →
    Serving R st f from ps → Grows st new → from ≤ e → IsId new d →
    ((v : ℕ) (pk : List ℕ) → length pk ≡ 18 → from ≤ v → v ≤ e → look new d pk ≡ R v pk) →
    Serving R new f (e + 1) (ps ++ (e, d) ∷ [])
serving_push R st new f from ps d e made h low id serves = record {
  ends = ends_push from 0 e d ps made.ends low;
  ids = each_push (IsId new) e d ps (each_weaker (IsId st) (IsId new) ps h.ids made.ids) id;
  leaf = λ v pk w l. elim (leb_tells from v) [
    | inl new_one ↦ ap (λ k. look new k pk) (child_new from 0 0 v e d ps made.ends new_one.1) ∙ serves v pk w new_one.1 (omega arith)
    | inr old_one ↦
        let c = child_at 0 ps v in
        let was : IsId st c = each_child (IsId st) 0 ps v (some_ends from v ps made.ends old_one.1) made.ids in
        ap (λ k. look new k pk) (child_old from 0 0 v ps ((e, d) ∷ []) made.ends (omega arith) old_one.1)
        ∙ h.leaves c pk was ∙ made.leaf v pk w old_one.1
  ];
}

-- what S makes of the leaf of a diagram at a value of f
abbrev pub value_leaf : (List ℕ → List Out → List Out) → StoreState → ℕ → ℕ → ℕ → List ℕ → List Out
value_leaf S old f a v pk = S pk (look old (cofactor old f v a) pk)

-- one part more of what is made of a diagram
pub value_push : (S : List ℕ → List Out → List Out) (old st new : StoreState) (f a from : ℕ) (ps : List (ℕ × ℕ))
    (p : ℕ × ℕ) (r : ℕ) →
    Serving (value_leaf S old f a) st f from ps → Grows old st → Grows st new → IsId old a → IsSplit old f a →
    IsPart st f a from p → HasLeaves new r (λ pk. S pk (look st p.1 pk)) →
    Serving (value_leaf S old f a) new f (p.0 + 1) (ps ++ (p.0, r) ∷ [])
value_push S old st new f a from ps p r made g h i s part leaves =
    serving_push (value_leaf S old f a) st new f from ps r p.0 made h part.from leaves.id
    (λ v pk w l m. leaves.leaf pk w ∙ ap (λ x. S pk x) (part_old old st f a from v p pk g i s part l m))

-- parts that serve all values of the field
pub value_choices : (R : ℕ → List ℕ → List Out) (old new : StoreState) (f e : ℕ) (ps : List (ℕ × ℕ)) → Grows old new →
    Serving R new f (e + 1) ps → f < 18 → e ≡ get_or old.maxes f 0 → AreChoices new f ps
value_choices R old new f e ps g made h is = record {
  field = h;
  rise = subst (λ m. Rises m 0 ps) (is ∙ ap (λ ms. get_or ms f 0) (sym g.maxes)) (ends_rise e 0 ps made.ends);
  ids = made.ids;
}

-- parts that serve the values up to the highest serve each value
pub value_all : (S : List ℕ → List Out → List Out) (old new : StoreState) (f a e : ℕ) (ps : List (ℕ × ℕ)) →
    Serving (value_leaf S old f a) new f (e + 1) ps → IsSplit old f a → e ≡ get_or old.maxes f 0 → (v : ℕ)
    (pk : List ℕ) → length pk ≡ 18 → look new (child_at 0 ps v) pk ≡ value_leaf S old f a v pk
value_all S old new f a e ps made s is v pk w =
    elim (leb_tells v e) [
      | inl within ↦ made.leaf v pk w (omega (arith, within.1))
      | inr far ↦
          let past : cofactor old f v a ≡ cofactor old f e a = s.past v (omega (arith, far.1, is)) ∙ ap (λ x. cofactor old f x a) (sym is) in
          ap (λ k. look new k pk) (child_past e 0 0 v ps (ends_rise e 0 ps made.ends) (omega (arith, far.1)))
          ∙ made.leaf e pk w (omega arith) ∙ ap (λ k. S pk (look old k pk)) (sym past)
    ]

-- the choice between the parts is made of the whole diagram
pub value_made : (S : List ℕ → List Out → List Out) (old s1 s2 : StoreState) (f a d : ℕ) (ps : List (ℕ × ℕ)) →
    IsSplit old f a →
    ((v : ℕ) (pk : List ℕ) → length pk ≡ 18 → look s1 (child_at 0 ps v) pk ≡ value_leaf S old f a v pk) →
    HasLeaves s2 d (λ pk. look s1 (child_at 0 ps (get_or pk f 0)) pk) →
    HasLeaves s2 d (λ pk. S pk (look old a pk))
value_made S old s1 s2 f a d ps s all h = record {
  id = h.id;
  leaf = λ pk w. h.leaf pk w ∙ all (get_or pk f 0) pk w ∙ ap (λ x. S pk x) (sym (s.leaf pk));
}
