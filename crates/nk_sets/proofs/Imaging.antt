-- What an act makes of a set: its fields forgotten one by one, then its values tested one by one.
use Rattle.std.proofs.Common.{◌≡◌, ◌≢◌, ℕ, zero, suc, ◌+◌, ◌<◌, ◌≤◌, min, eqb, Bool, true, false, cond, List, [], ◌∷◌, ◌++◌, length, take, refl, sym, ap, subst, ◌∙◌, arith, get_or, set, get_or-set_other, get_or-set_same, inl, inr}
use Rattle.std.specs.Prelude.{◌&&◌}
use Rattle.std.proofs.lemmas.Bool.Decides.{nat_tests, eqb_tells}
use Rattle.std.proofs.lemmas.List.{take_more}
use Rattle.std.proofs.lemmas.Grind.{same_number_lists}
use Rattle.nk_field.specs.Act.{applied}
use Rattle.nk_store.specs.Leaves.{IsActFrom}
use Rattle.nk_store.specs.Nodes.{InRange}
use Rattle.nk_store.specs.StoreState.{StoreState, look, IsWhole, Grows, HasLeaves}
use Rattle.nk_store.proofs.Same.{set_in_range}
use Rattle.nk_apply.specs.Leaves.{guarded}
use Rattle.nk_apply.specs.Seqs.{no_out}
use Rattle.nk_apply.specs.Predicates.{IsPass, IsPredicate}
use Rattle.nk_apply.proofs.Predicates.{predicate_by, pass_cond, whole_set, whole_applied}
use Rattle.nk_sets.specs.PacketSets.{has_some_out, is_in, IsSet, IsPacketSetOf, IsImage}
use Rattle.nk_sets.specs.Forgets.{is_in_for_some, forgotten, IsForgotten}
use Rattle.nk_sets.specs.Images.{Omits, SameBeside, IsFree, are_assigned}
use Rattle.nk_sets.proofs.SetLemmas.{both_pass, pass_both, guarded_out, predicate_grows}
use Rattle.nk_sets.proofs.Forgetting.{some_found, found_some}

-- the rest of a list up to an element
pub taken_more :
    {A : Type 0} (xs : List A) (i : ℕ) (x : A) → i < length xs → x ≡ get_or xs i x
    → take (i + 1) xs ≡ take i xs ++ x ∷ []
taken_more xs i x h e = take_more xs i x h ∙ ap (λ y. take i xs ++ y ∷ []) (sym e)

-- whether there is an out in the packet itself or nothing
test_out : (b : Bool) → has_some_out (cond b (no_out ∷ []) []) ≡ b
test_out true = refl
test_out false = refl

-- assignments in front omit what all of them omit
omits_front : (g : List (ℕ × ℕ)) (p : ℕ × ℕ) (f : ℕ) → Omits (g ++ p ∷ []) f → Omits g f × (p.0 ≢ f)
omits_front [] p f o = (tt, o.0)
omits_front (s ∷ ss) p f o = let r = omits_front ss p f o.1 in ((o.0, r.0), r.1)

omits_push : (g : List (ℕ × ℕ)) (p : ℕ × ℕ) (f : ℕ) → Omits g f → p.0 ≢ f → Omits (g ++ p ∷ []) f
omits_push [] p f o n = (n, tt)
omits_push (s ∷ ss) p f o n = (o.0, omits_push ss p f o.1 n)

-- one field more forgotten
pub free_push :
    (old st new : StoreState) (g : List (ℕ × ℕ)) (s r d : ℕ) (p : ℕ × ℕ) → Grows old st → Grows st new → p.0 < 18
    → IsFree old g s st r → IsForgotten new p.0 r d → IsFree old (g ++ p ∷ []) s new d
free_push old st new g s r d p a b h free k =
    let f = p.0 in
    let high : get_or new.maxes f 0 ≡ get_or old.maxes f 0 = ap (λ ms. get_or ms f 0) (b.maxes ∙ a.maxes) in
    record {
      set = record { id = k.leaves.id; predicate = predicate_by new d (forgotten new f r) k.leaves (λ pk w. pass_cond (is_in_for_some new f r pk)) };
      comes = λ y range e.
          let some = some_found (λ v. is_in new r (set y f v)) (get_or new.maxes f 0) (sym (test_out (is_in_for_some new f r y)) ∙ sym (ap has_some_out (k.leaves.leaf y range.0)) ∙ e) in
          let v = some.0 in
          let le = some.1 in
          let in_range = set_in_range old.maxes y f v range (omega (arith, le, high)) in
          let x = free.comes (set y f v) in_range (ap has_some_out (sym (b.leaves r (set y f v) free.set.id)) ∙ some.2) in (
            x.0,
            x.1,
            x.2,
            λ j o. let front = omits_front g p j o in x.3 j front.0 ∙ get_or-set_other y f j v 0 (λ q. front.1 (sym q)),
          );
      goes = λ x y rx ry e same.
          let v = get_or x f 0 in
          let le = rx.1 f in
          let in_range = set_in_range old.maxes y f v ry le in
          let beside : SameBeside g x (set y f v) =
          (λ j o. elim (eqb_tells j f) [
            | inl is ↦ ap (λ k. get_or x k 0) is.1 ∙ sym (ap (λ k. get_or (set y f v) k 0) is.1 ∙ get_or-set_same y f v 0 (let w = ry.0 in omega (arith, w, h)))
            | inr other ↦ same j (omits_push g p j o (λ q. other.1 (sym q))) ∙ sym (get_or-set_other y f j v 0 other.1)
          ]) in
          ap has_some_out (k.leaves.leaf y ry.0) ∙ test_out (is_in_for_some new f r y)
          ∙ found_some (λ n. is_in new r (set y f n)) (get_or new.maxes f 0) v (omega (arith, le, high))
          (ap has_some_out (b.leaves r (set y f v) free.set.id) ∙ free.goes x (set y f v) rx in_range e beside);
    }

-- one value more
assigned_more :
    (maxes : List ℕ) (g : List (ℕ × ℕ)) (p : ℕ × ℕ) (pk : List ℕ) (b : Bool)
    → are_assigned maxes (g ++ p ∷ []) pk && b ≡ eqb (min (get_or pk p.0 0) (get_or maxes p.0 0)) p.1 && (are_assigned maxes g pk && b)
assigned_more maxes [] p pk b = one (eqb (min (get_or pk p.0 0) (get_or maxes p.0 0)) p.1)
  where
    one : (a : Bool) → (a && true) && b ≡ a && (true && b)
    one true = refl
    one false = refl
assigned_more maxes (s ∷ ss) p pk b =
    let a = eqb (min (get_or pk s.0 0) (get_or maxes s.0 0)) s.1 in
    let c = eqb (min (get_or pk p.0 0) (get_or maxes p.0 0)) p.1 in
    assoc a (are_assigned maxes (ss ++ p ∷ []) pk) b ∙ ap (λ x. a && x) (assigned_more maxes ss p pk b) ∙ swap a c (are_assigned maxes ss pk) b
  where
    assoc : (a x y : Bool) → (a && x) && y ≡ a && (x && y)
    assoc true x y = refl
    assoc false x y = refl

    swap : (a c x y : Bool) → a && (c && (x && y)) ≡ c && ((a && x) && y)
    swap true c x y = refl
    swap false true x y = refl
    swap false false x y = refl

-- the packets of a set that have one value more
pub assigned_push :
    (old st s1 new : StoreState) (g : List (ℕ × ℕ)) (s kept t d : ℕ) (p : ℕ × ℕ) → Grows old st → Grows st s1
    → IsPacketSetOf st kept (λ pk. are_assigned old.maxes g pk && is_in old s pk)
    → HasLeaves s1 t (λ pk. cond (eqb (min (get_or pk p.0 0) (get_or st.maxes p.0 0)) p.1) (no_out ∷ []) [])
    → HasLeaves new d (λ pk. guarded (look s1 t pk) (look s1 kept pk)) → (IsPredicate s1 kept → IsPredicate new d)
    → IsPacketSetOf new d (λ pk. are_assigned old.maxes (g ++ p ∷ []) pk && is_in old s pk)
assigned_push old st s1 new g s kept t d p a b k test h predicate = record {
  set = record { id = h.id; predicate = predicate (predicate_grows st s1 kept b k.set.id k.set.predicate) };
  at = λ pk w.
      ap has_some_out (h.leaf pk w)
      ∙ guarded_out (look s1 t pk) (look s1 kept pk)
      ∙ ap (λ x. x && is_in s1 kept pk) (ap has_some_out (test.leaf pk w) ∙ test_out _ ∙ ap (λ ms. eqb (min (get_or pk p.0 0) (get_or ms p.0 0)) p.1) a.maxes)
      ∙ ap (λ x. eqb (min (get_or pk p.0 0) (get_or old.maxes p.0 0)) p.1 && x) (ap has_some_out (b.leaves kept pk k.set.id) ∙ k.at pk w)
      ∙ sym (assigned_more old.maxes g p pk (is_in old s pk));
}

-- assigned values stand where the packet is the same beside them
made_same :
    (maxes : List ℕ) (low : ℕ) (g : List (ℕ × ℕ)) (x y : List ℕ) → IsActFrom maxes low g → IsWhole x
    → InRange maxes y → are_assigned maxes g y ≡ true → SameBeside g x y → (k : ℕ)
    → get_or (applied g x) k 0 ≡ get_or y k 0
made_same maxes low [] x y act w r e same k = same k tt
made_same maxes low (s ∷ ss) x y act w r e same k =
    let tests = both_pass _ _ e in
    let value : get_or y s.0 0 ≡ s.1 =
    (let is = tells (min (get_or y s.0 0) (get_or maxes s.0 0)) s.1 tests.0 in let le = r.1 s.0 in omega (arith, is, le)) in
    made_same maxes (s.0 + 1) ss (set x s.0 s.1) y act.3 (whole_set x s.0 s.1 w) r tests.1
    (λ j o. elim (eqb_tells j s.0) [
      | inl is ↦ ap (λ i. get_or (set x s.0 s.1) i 0) is.1 ∙ get_or-set_same x s.0 s.1 0 (let l = act.1 in omega (arith, l, w)) ∙ sym value ∙ sym (ap (λ i. get_or y i 0) is.1)
      | inr other ↦ get_or-set_other x s.0 j s.1 0 other.1 ∙ same j ((λ q. other.1 (sym q)), o)
    ])
    k
  where
    tells : (m n : ℕ) → eqb m n ≡ true → m ≡ n
    tells m n e = grind (arith, nat_tests, e)

-- an act leaves the fields that it omits
applied_beside : (g : List (ℕ × ℕ)) (x : List ℕ) (f : ℕ) → Omits g f → get_or (applied g x) f 0 ≡ get_or x f 0
applied_beside [] x f o = refl
applied_beside (s ∷ ss) x f o = applied_beside ss (set x s.0 s.1) f o.1 ∙ get_or-set_other x s.0 f s.1 0 (λ q. o.0 (sym q))

-- assignments of later fields omit the earlier ones
later_omits : (maxes : List ℕ) (low : ℕ) (g : List (ℕ × ℕ)) (f : ℕ) → IsActFrom maxes low g → f < low → Omits g f
later_omits maxes low [] f act h = tt
later_omits maxes low (s ∷ ss) f act h = ((λ e. let l = act.0 in omega (arith, l, h, e)), later_omits maxes (s.0 + 1) ss f act.3 (let l = act.0 in omega (arith, l, h)))

-- an act brings a packet into its range
applied_in_range :
    (maxes : List ℕ) (low : ℕ) (g : List (ℕ × ℕ)) (x : List ℕ) → IsActFrom maxes low g → InRange maxes x
    → InRange maxes (applied g x)
applied_in_range maxes low [] x act r = r
applied_in_range maxes low (s ∷ ss) x act r = applied_in_range maxes (s.0 + 1) ss (set x s.0 s.1) act.3 (set_in_range maxes x s.0 s.1 r act.2)

-- an act's values stand in what it makes
applied_assigned :
    (maxes : List ℕ) (low : ℕ) (g : List (ℕ × ℕ)) (x : List ℕ) → IsActFrom maxes low g → IsWhole x
    → are_assigned maxes g (applied g x) ≡ true
applied_assigned maxes low [] x act w = refl
applied_assigned maxes low (s ∷ ss) x act w =
    let value : get_or (applied ss (set x s.0 s.1)) s.0 0 ≡ s.1 =
    applied_beside ss (set x s.0 s.1) s.0 (later_omits maxes (s.0 + 1) ss s.0 act.3 (omega arith))
    ∙ get_or-set_same x s.0 s.1 0 (let l = act.1 in omega (arith, l, w)) in
    let is : min (get_or (applied ss (set x s.0 s.1)) s.0 0) (get_or maxes s.0 0) ≡ s.1 = let le = act.2 in omega (arith, value, le) in
    pass_both _ _ (ap (λ n. eqb n s.1) is ∙ same s.1) (applied_assigned maxes (s.0 + 1) ss (set x s.0 s.1) act.3 (whole_set x s.0 s.1 w))
  where
    same : (n : ℕ) → eqb n n ≡ true
    same n = grind (arith, nat_tests)

-- the fields forgotten, then the values tested: what the act makes of the set
pub image_is :
    (old st new : StoreState) (g : List (ℕ × ℕ)) (s r d : ℕ) → Grows old st → IsActFrom old.maxes 0 g
    → IsFree old g s st r → IsPacketSetOf new d (λ pk. are_assigned st.maxes g pk && is_in st r pk)
    → IsImage old g s new d
image_is old st new g s r d a act free made = record {
  set = made.set;
  comes = λ y range e.
      let tests = both_pass _ _ (sym (made.at y range.0) ∙ e) in
      let x = free.comes y range tests.1 in
      let assigned : are_assigned old.maxes g y ≡ true = subst (λ ms. are_assigned ms g y ≡ true) a.maxes tests.0 in (
        x.0,
        x.1,
        x.2,
        same_number_lists (applied g x.0) y (whole_applied g x.0 x.1.0 ∙ sym range.0) (λ k l. made_same old.maxes 0 g x.0 y act x.1.0 range assigned x.3 k),
      );
  goes = λ x range e.
      let to = applied_in_range old.maxes 0 g x act range in
      made.at (applied g x) to.0
      ∙ pass_both _ _
      (subst (λ ms. are_assigned ms g (applied g x) ≡ true) (sym a.maxes) (applied_assigned old.maxes 0 g x act range.0))
      (free.goes x (applied g x) range to e (λ f o. sym (applied_beside g x f o)));
}

-- an act's value is in range
pub act_value :
    (maxes : List ℕ) (low : ℕ) (g : List (ℕ × ℕ)) (i : ℕ) (p : ℕ × ℕ) → IsActFrom maxes low g → i < length g
    → p ≡ get_or g i p → p.1 ≤ get_or maxes p.0 0
act_value maxes low [] i p act h e = absurd (omega (arith, h))
act_value maxes low (s ∷ ss) zero p act h e = subst (λ (q : ℕ × ℕ). q.1 ≤ get_or maxes q.0 0) (sym e) act.2
act_value maxes low (s ∷ ss) (suc i) p act h e = act_value maxes (s.0 + 1) ss i p act.3 (omega (arith, h)) e

-- the packets that an act brings into a set
pub preimage_is :
    (old new : StoreState) (g : List (ℕ × ℕ)) (s r : ℕ) → IsSet old s
    → HasLeaves new r (λ pk. look old s (applied g pk)) → IsPacketSetOf new r (λ pk. is_in old s (applied g pk))
preimage_is old new g s r is h = record {
  set = record { id = h.id; predicate = λ pk w. subst IsPass (sym (h.leaf pk w)) (is.predicate (applied g pk) (whole_applied g pk w)) };
  at = λ pk w. ap has_some_out (h.leaf pk w);
}
