-- A choice between diagrams that test any fields, by halves.
use Rattle.std.proofs.Common.{◌≡◌, ℕ, zero, suc, ◌+◌, ◌<◌, ◌≤◌, min, Bool, true, false, cond, leb, ltb, ◌&&◌, List, [], ◌∷◌, length, refl, sym, ◌∙◌, ap, subst, arith, get_or, inl, inr}
use Rattle.std.proofs.lemmas.Bool.Decides.{nat_tests, leb_tells}
use Rattle.nk_store.specs.declared.node.Out.{Out}
use Rattle.nk_store.specs.Nodes.{child_at, Rises}
use Rattle.nk_store.specs.StoreState.{StoreState, IsId, look, Grows, HasLeaves}
use Rattle.nk_store.proofs.Looks.{each_child}
use Rattle.nk_store.proofs.Same.{child-first, child-rest}
use Rattle.nk_apply.specs.Leaves.{merged, guarded}
use Rattle.nk_apply.specs.Seqs.{in_span, no_out}
use Rattle.nk_algebra.specs.Choices.{AreChoices}
use Rattle.nk_algebra.specs.Halves.{start, chosen}
use Rattle.nk_algebra.proofs.Chosen.{choices_some}
use Rattle.nk_apply.proofs.Weaves.{merged-nil}

-- parts begin at the first value or later
pub start_above : (high low : ℕ) (ps : List (ℕ × ℕ)) (k : ℕ) → Rises high low ps → low ≤ start low ps k
start_above high low ps zero r = omega arith
start_above high low [] (suc k) r = omega arith
start_above high low (p ∷ ps) (suc k) r = omega (arith, r.0, start_above high (p.0 + 1) ps k r.2)

-- later parts begin later
pub start_later : (high low : ℕ) (ps : List (ℕ × ℕ)) (k n : ℕ) → Rises high low ps → k ≤ n →
    start low ps k ≤ start low ps n
start_later high low ps zero n r l = start_above high low ps n r
start_later high low [] (suc k) zero r l = omega arith
start_later high low [] (suc k) (suc n) r l = omega arith
start_later high low (p ∷ ps) (suc k) zero r l = absurd (omega arith)
start_later high low (p ∷ ps) (suc k) (suc n) r l = start_later high (p.0 + 1) ps k n r.2 (omega arith)

-- the next part begins after a part's end
pub start_next : (low : ℕ) (ps : List (ℕ × ℕ)) (k : ℕ) (e : ℕ × ℕ) → k < length ps →
    start low ps (suc k) ≡ (get_or ps k e).0 + 1
start_next low [] k e l = absurd (omega arith)
start_next low (p ∷ ps) zero e l = refl
start_next low (p ∷ ps) (suc k) e l = start_next (p.0 + 1) ps k e (omega arith)

-- a part's end is not before its beginning, nor past the highest value
pub end_within : (high low : ℕ) (ps : List (ℕ × ℕ)) (k : ℕ) (e : ℕ × ℕ) → Rises high low ps → k < length ps →
    (start low ps k ≤ (get_or ps k e).0) × ((get_or ps k e).0 ≤ high)
end_within high low [] k e r l = absurd (omega arith)
end_within high low (p ∷ ps) zero e r l = (r.0, r.1)
end_within high low (p ∷ ps) (suc k) e r l = end_within high (p.0 + 1) ps k e r.2 (omega arith)

-- after all parts comes the value past the highest one
pub start_last : (high low : ℕ) (ps : List (ℕ × ℕ)) → Rises high low ps → start low ps (length ps) ≡ high + 1
start_last high low [] r = r
start_last high low (p ∷ ps) r = start_last high (p.0 + 1) ps r.2

-- no part begins past the highest value
no_more : (high low : ℕ) (ps : List (ℕ × ℕ)) → Rises high low ps → high < low → (d v : ℕ) → child_at d ps v ≡ d
no_more high low [] r l d v = refl
no_more high low (p ∷ ps) r l d v = absurd (omega (arith, r.0, r.1, l))

-- the child at a value is that of the part that holds it
pub held_child : (high low d : ℕ) (ps : List (ℕ × ℕ)) (k v : ℕ) (e : ℕ × ℕ) → Rises high low ps → k < length ps →
    start low ps k ≤ min v high → min v high < start low ps (suc k) → child_at d ps v ≡ (get_or ps k e).1
held_child high low d [] k v e r l a b = absurd (omega arith)
held_child high low d (p ∷ ps) zero v e r l a b =
    elim (leb_tells v p.0) [
      | inl under ↦ child-first d p ps v under.1
      | inr out ↦ child-rest d p ps v out.1 ∙ no_more high (p.0 + 1) ps r.2 (omega (arith, out.1, b)) p.1 v
    ]
held_child high low d (p ∷ ps) (suc k) v e r l a b =
    let later : p.0 + 1 ≤ start (p.0 + 1) ps k = start_above high (p.0 + 1) ps k r.2 in
    child-rest d p ps v (omega (arith, later, a)) ∙ held_child high (p.0 + 1) p.1 ps k v e r.2 (omega arith) a b

-- two neighbouring spans together
pub spans_join : (s m t v : ℕ) (S : List Out) → s ≤ m → m ≤ t →
    merged (cond (leb s v && ltb v m) S []) (cond (leb m v && ltb v t) S []) ≡ cond (leb s v && ltb v t) S []
spans_join s m t v S a b =
    elim (leb_tells s v) [
      | inl from ↦ elim (leb_tells m v) [
        | inl right ↦
            let x : leb s v && ltb v m ≡ false = grind (arith, nat_tests) in
            let y : leb m v && ltb v t ≡ (leb s v && ltb v t) = grind (arith, nat_tests) in
            ap (λ c. merged (cond c S []) (cond (leb m v && ltb v t) S [])) x ∙ ap (λ c. cond c S []) y
        | inr left ↦
            let x : leb m v && ltb v t ≡ false = grind (arith, nat_tests) in
            let y : leb s v && ltb v m ≡ (leb s v && ltb v t) = grind (arith, nat_tests) in
            ap (λ c. merged (cond (leb s v && ltb v m) S []) (cond c S [])) x ∙ merged-nil (cond (leb s v && ltb v m) S []) ∙ ap (λ c. cond c S []) y
      ]
      | inr before ↦
          let x : leb s v && ltb v m ≡ false = grind (arith, nat_tests) in
          let y : leb m v && ltb v t ≡ (leb s v && ltb v t) = grind (arith, nat_tests) in
          ap (λ c. merged (cond c S []) (cond (leb m v && ltb v t) S [])) x ∙ ap (λ c. cond c S []) y
    ]

-- the choice between some parts stays in a store that grew
chosen_grown : (old new : StoreState) (f : ℕ) (ps : List (ℕ × ℕ)) (from to : ℕ) (pk : List ℕ) → Grows old new →
    AreChoices old f ps → chosen new f ps from to pk ≡ chosen old f ps from to pk
chosen_grown old new f ps from to pk g c =
    let v = get_or pk f 0 in
    let child : IsId old (child_at 0 ps v) = each_child (IsId old) 0 ps v (choices_some old f ps c) c.ids in
    ap (λ ms. cond (leb (start 0 ps from) (min v (get_or ms f 0)) && ltb (min v (get_or ms f 0)) (start 0 ps to)) (look new (child_at 0 ps v) pk) []) g.maxes
    ∙ ap (λ S. cond (leb (start 0 ps from) (min v (get_or old.maxes f 0)) && ltb (min v (get_or old.maxes f 0)) (start 0 ps to)) S []) (g.leaves (child_at 0 ps v) pk child)

-- the choices between two halves of some parts, together
pub chosen_halves : (old s1 s2 s3 : StoreState) (f : ℕ) (ps : List (ℕ × ℕ)) (from middle to left right new : ℕ) →
    AreChoices old f ps → from ≤ middle → middle ≤ to → Grows old s1 → Grows s1 s2 →
    HasLeaves s1 left (λ pk. chosen old f ps from middle pk) →
    HasLeaves s2 right (λ pk. chosen s1 f ps middle to pk) →
    HasLeaves s3 new (λ pk. merged (look s2 left pk) (look s2 right pk)) →
    HasLeaves s3 new (λ pk. chosen old f ps from to pk)
chosen_halves old s1 s2 s3 f ps from middle to left right new c a b g h gl gr gn = record {
  id = gn.id;
  leaf = λ pk w.
      let high = get_or old.maxes f 0 in
      gn.leaf pk w
      ∙ ap (λ x. merged x (look s2 right pk)) (h.leaves left pk gl.id ∙ gl.leaf pk w)
      ∙ ap (λ y. merged (chosen old f ps from middle pk) y) (gr.leaf pk w ∙ chosen_grown old s1 f ps middle to pk g c)
      ∙ spans_join (start 0 ps from) (start 0 ps middle) (start 0 ps to) (min (get_or pk f 0) high) (look old (child_at 0 ps (get_or pk f 0)) pk)
      (start_later high 0 ps from middle c.rise a) (start_later high 0 ps middle to c.rise b);
}

-- a diagram where a guard lets pass, by the guard's test
guarded_span : (b : Bool) (x : Out) (L S : List Out) → (b ≡ true → L ≡ S) → guarded (cond b (x ∷ []) []) L ≡ cond b S []
guarded_span true x L S e = e refl
guarded_span false x L S e = refl

-- one part's diagram, for its values
pub chosen_one : (old s1 s2 : StoreState) (f : ℕ) (ps : List (ℕ × ℕ)) (k from end d guard new : ℕ) (e : ℕ × ℕ) →
    AreChoices old f ps → k < length ps → from ≡ start 0 ps k → end ≡ (get_or ps k e).0 → d ≡ (get_or ps k e).1 →
    Grows old s1 → HasLeaves s1 guard (λ pk. in_span (get_or old.maxes f 0) from end (get_or pk f 0)) →
    HasLeaves s2 new (λ pk. guarded (look s1 guard pk) (look s1 d pk)) →
    HasLeaves s2 new (λ pk. chosen old f ps k (k + 1) pk)
chosen_one old s1 s2 f ps k from end d guard new e c l is_from is_end is_d g gg gn = record {
  id = gn.id;
  leaf = λ pk w.
      let high = get_or old.maxes f 0 in
      let v = get_or pk f 0 in
      let m = min v high in
      let up : k + 1 ≡ suc k = omega arith in
      let next : start 0 ps (k + 1) ≡ end + 1 = ap (λ n. start 0 ps n) up ∙ start_next 0 ps k e l ∙ ap (λ n. n + 1) (sym is_end) in
      let test : leb from m && leb m end ≡ (leb (start 0 ps k) m && ltb m (start 0 ps (k + 1))) = grind (arith, nat_tests, is_from, next) in
      let child : (leb (start 0 ps k) m && ltb m (start 0 ps (k + 1))) ≡ true → child_at 0 ps v ≡ d = λ t.
      let lower : start 0 ps k ≤ m = grind (arith, nat_tests, t) in
      let upper : m < start 0 ps (k + 1) = grind (arith, nat_tests, t) in
      held_child high 0 0 ps k v e c.rise l lower (subst (λ n. m < start 0 ps n) up upper) ∙ sym is_d in
      let there : IsId old (child_at 0 ps v) = each_child (IsId old) 0 ps v (choices_some old f ps c) c.ids in
      gn.leaf pk w ∙ ap (λ x. guarded x (look s1 d pk)) (gg.leaf pk w ∙ ap (λ b. cond b (no_out ∷ []) []) test)
      ∙ guarded_span (leb (start 0 ps k) m && ltb m (start 0 ps (k + 1))) no_out (look s1 d pk) (look old (child_at 0 ps v) pk)
      (λ t. ap (λ q. look s1 q pk) (sym (child t)) ∙ g.leaves (child_at 0 ps v) pk there);
}

-- the choice between all parts is the choice
pub chosen_all : (old st : StoreState) (f : ℕ) (ps : List (ℕ × ℕ)) (n d : ℕ) → AreChoices old f ps → n ≡ length ps →
    HasLeaves st d (λ pk. chosen old f ps 0 n pk) →
    HasLeaves st d (λ pk. look old (child_at 0 ps (get_or pk f 0)) pk)
chosen_all old st f ps n d c is h = record {
  id = h.id;
  leaf = λ pk w.
      let high = get_or old.maxes f 0 in
      let m = min (get_or pk f 0) high in
      let last : start 0 ps n ≡ high + 1 = ap (λ k. start 0 ps k) is ∙ start_last high 0 ps c.rise in
      let test : leb 0 m && ltb m (start 0 ps n) ≡ true = grind (arith, nat_tests, last) in
      h.leaf pk w ∙ ap (λ b. cond b (look old (child_at 0 ps (get_or pk f 0)) pk) []) test;
}
