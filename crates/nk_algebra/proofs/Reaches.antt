-- Outs that end with values of a field that one part of the second diagram is for.
use Rattle.std.proofs.Common.{◌≡◌, ℕ, ◌+◌, ◌<◌, ◌≤◌, Bool, true, false, cond, eqb, leb, ◌&&◌, List, [], ◌∷◌, length, drop, refl, sym, ◌∙◌, ap, subst, arith, get_or, set, inl, inr, length-set, get_or-set_same, suc, zero}
use Rattle.std.proofs.lemmas.Bool.Decides.{eqb_tells, leb_tells}
use Rattle.nk_field.specs.Act.{applied}
use Rattle.nk_store.specs.declared.node.Out.{Out}
use Rattle.nk_store.specs.Leaves.{Every}
use Rattle.nk_store.specs.StoreState.{StoreState, IsId, look, root_field, Grows, HasLeaves, AreTidy}
use Rattle.nk_algebra.specs.Partition.{assigns, last_value, ends_between, partition}
use Rattle.nk_apply.specs.Leaves.{merged}
use Rattle.nk_apply.specs.Seqs.{prefixed, seq_leaf}
use Rattle.nk_apply.specs.Cofactors.{cofactor, IsPart, IsSplit}
use Rattle.nk_apply.proofs.Members.{Has, every_from}
use Rattle.nk_apply.proofs.Sequences.{same_looks}
use Rattle.nk_algebra.proofs.Splits.{kept_value, has_partition, partition_whole}

-- the last assignment to a field is found from the end
pub found_last : (f i : ℕ) (xs : List (ℕ × ℕ)) (x : ℕ × ℕ) → i < length xs → x ≡ get_or xs i x → x.0 ≡ f →
    assigns f (drop (suc i) xs) ≡ false → (assigns f xs ≡ true) × (last_value f xs ≡ x.1)
found_last f i [] x h is e none = absurd (omega (arith, h))
found_last f zero (y ∷ ys) x h is e none =
    let here : eqb y.0 f ≡ true = same (ap (λ (z : ℕ × ℕ). z.0) (sym is) ∙ e) in
    (ap (λ b. cond b true (assigns f ys)) here, ap (λ b. cond b (last_value f ys) y.1) none ∙ ap (λ (z : ℕ × ℕ). z.1) (sym is))
  where
    same : y.0 ≡ f → eqb y.0 f ≡ true
    same k = elim (eqb_tells y.0 f) [
      | inl t ↦ t.0
      | inr n ↦ absurd (n.1 k)
    ]
found_last f (suc i) (y ∷ ys) x h is e none =
    let r = found_last f i ys x (omega (arith, h)) is e none in
    (by (eqb y.0 f) r.0, ap (λ b. cond b (last_value f ys) y.1) r.0 ∙ r.1)
  where
    by : (b : Bool) → assigns f ys ≡ true → cond b true (assigns f ys) ≡ true
    by true k = refl
    by false k = k

-- after an act that assigns f the packet has its last value there
pub value_after : (f : ℕ) (g : List (ℕ × ℕ)) (pk : List ℕ) → assigns f g ≡ true → f < length pk →
    get_or (applied g pk) f 0 ≡ last_value f g
value_after f [] pk e h = absurd (clash e)
  where
    clash : false ≡ true → ⊥
    clash k = cc
value_after f (s ∷ ss) pk e h =
    by (assigns f ss) refl (λ k. value_after f ss (set pk s.0 s.1) k (subst (λ n. f < n) (sym (length-set pk s.0 s.1)) h))
  where
    clash : false ≡ true → ⊥
    clash k = cc

    first : assigns f ss ≡ false → s.0 ≡ f
    first none = elim (eqb_tells s.0 f) [
      | inl t ↦ t.1
      | inr n ↦ absurd (clash (sym (ap (λ b. cond b true (assigns f ss)) n.0 ∙ none) ∙ e))
    ]

    by : (b : Bool) → assigns f ss ≡ b → (assigns f ss ≡ true → get_or (applied ss (set pk s.0 s.1)) f 0 ≡ last_value f ss) →
        get_or (applied ss (set pk s.0 s.1)) f 0 ≡ cond (assigns f ss) (last_value f ss) s.1
    by true k later = later k ∙ ap (λ c. cond c (last_value f ss) s.1) (sym k)
    by false k later = kept_value f ss (set pk s.0 s.1) k
        ∙ subst (λ n. get_or (set pk n s.1) f 0 ≡ s.1) (sym (first k)) (get_or-set_same pk f s.1 0 h)
        ∙ ap (λ c. cond c (last_value f ss) s.1) (sym k)

-- diagrams that are one at what each out makes make one sequence
pub seq_alike : (os : List Out) (C B : List ℕ → List Out) (pk : List ℕ) →
    ((o : Out) → Has os o → C (applied o.act pk) ≡ B (applied o.act pk)) → seq_leaf os C pk ≡ seq_leaf os B pk
seq_alike [] C B pk same = refl
seq_alike (o ∷ os) C B pk same =
    ap (λ z. merged (prefixed o.act z) (seq_leaf os C pk)) (same o (inl refl))
    ∙ ap (λ z. merged (prefixed o.act (B (applied o.act pk))) z) (seq_alike os C B pk (λ p h. same p (inr h)))

-- what ends between two values assigns the field, and its last value is between them
between_is : (f lo hi : ℕ) (g : List (ℕ × ℕ)) → ends_between f lo hi g ≡ true →
    (assigns f g ≡ true) × (lo ≤ last_value f g) × (last_value f g ≤ hi)
between_is f lo hi g e = by (assigns f g) (leb lo (last_value f g)) (leb (last_value f g) hi) refl refl refl e
  where
    clash : false ≡ true → ⊥
    clash k = cc

    at_most : (m n : ℕ) → leb m n ≡ true → m ≤ n
    at_most m n k = elim (leb_tells m n) [
      | inl t ↦ t.1
      | inr x ↦ absurd (clash (sym x.0 ∙ k))
    ]

    by : (x y z : Bool) → assigns f g ≡ x → leb lo (last_value f g) ≡ y → leb (last_value f g) hi ≡ z → (x && y && z) ≡ true →
        (assigns f g ≡ true) × (lo ≤ last_value f g) × (last_value f g ≤ hi)
    by true true true a b c k = (a, at_most lo (last_value f g) b, at_most (last_value f g) hi c)
    by true true false a b c k = absurd (clash k)
    by true false z a b c k = absurd (clash k)
    by false y z a b c k = absurd (clash k)

-- at a packet whose value of f a part is for, the diagram is that part
part_looks : (st : StoreState) (f b from : ℕ) (p : ℕ × ℕ) (q : List ℕ) → IsSplit st f b → IsPart st f b from p →
    from ≤ get_or q f 0 → get_or q f 0 ≤ p.0 → look st p.1 q ≡ look st b q
part_looks st f b from p q sb part l m =
    ap (λ x. look st x q) (sym (part.same (get_or q f 0) l m)) ∙ sym (sb.leaf q)

-- the outs that end where a part is for go on with that part
pub ends_there : (st : StoreState) (f b from : ℕ) (p : ℕ × ℕ) (os : List Out) (pk : List ℕ) → IsSplit st f b → IsPart st f b from p →
    f < length pk → seq_leaf (partition (ends_between f from p.0) true os) (look st p.1) pk
    ≡ seq_leaf (partition (ends_between f from p.0) true os) (look st b) pk
ends_there st f b from p os pk sb part h =
    seq_alike (partition (ends_between f from p.0) true os) (look st p.1) (look st b) pk
    (λ o has.
    let r = between_is f from p.0 o.act (has_partition (ends_between f from p.0) true os o has).1 in
    let v = value_after f o.act pk r.0 h in
    part_looks st f b from p (applied o.act pk) sb part (subst (λ n. from ≤ n) (sym v) r.1) (subst (λ n. n ≤ p.0) (sym v) r.2))

-- what ends there, put through, and the others
pub ending_made : (s0 s1 s2 s3 s4 s5 : StoreState) (f a b from : ℕ) (p : ℕ × ℕ) (here one rest others d : ℕ) → f < 18 → IsId s0 a → IsId s0 b →
    IsSplit s0 f b → IsPart s0 f b from p → Grows s0 s1 → Grows s1 s2 → Grows s2 s3 → Grows s3 s4 →
    HasLeaves s1 here (λ pk. partition (ends_between f from p.0) true (look s0 a pk)) →
    HasLeaves s2 one (λ pk. seq_leaf (look s1 here pk) (look s1 p.1) pk) →
    HasLeaves s3 rest (λ pk. partition (ends_between f from p.0) false (look s2 a pk)) →
    HasLeaves s4 others (λ pk. seq_leaf (look s3 rest pk) (look s3 b) pk) →
    HasLeaves s5 d (λ pk. merged (look s4 one pk) (look s4 others pk)) →
    HasLeaves s5 d (λ pk. seq_leaf (look s0 a pk) (look s0 b) pk)
ending_made s0 s1 s2 s3 s4 s5 f a b from p here one rest others d lt ia ib sb part g1 g2 g3 g4 h1 h2 h3 h4 h5 = record {
  id = h5.id;
  leaf = λ pk w.
      let K = ends_between f from p.0 in
      let os = look s0 a pk in
      let B = look s0 b in
      let c1 : look s1 p.1 ≡ look s0 p.1 = same_looks s0 s1 p.1 g1 part.child.id in
      let b2 : look s2 b ≡ B = same_looks s1 s2 b g2 (g1.ids b ib) ∙ same_looks s0 s1 b g1 ib in
      let b3 : look s3 b ≡ B = same_looks s2 s3 b g3 (g2.ids b (g1.ids b ib)) ∙ b2 in
      let a2 : look s2 a pk ≡ os = g2.leaves a pk (g1.ids a ia) ∙ g1.leaves a pk ia in
      let is_one : look s4 one pk ≡ seq_leaf (partition K true os) B pk =
      g4.leaves one pk (g3.ids one h2.id) ∙ g3.leaves one pk h2.id ∙ h2.leaf pk w
      ∙ ap (λ C. seq_leaf (look s1 here pk) C pk) c1 ∙ ap (λ x. seq_leaf x (look s0 p.1) pk) (h1.leaf pk w)
      ∙ ends_there s0 f b from p os pk sb part (subst (λ n. f < n) (sym w) lt) in
      let is_others : look s4 others pk ≡ seq_leaf (partition K false os) B pk =
      h4.leaf pk w ∙ ap (λ C. seq_leaf (look s3 rest pk) C pk) b3 ∙ ap (λ x. seq_leaf x B pk) (h3.leaf pk w)
      ∙ ap (λ x. seq_leaf (partition K false x) B pk) a2 in
      h5.leaf pk w ∙ ap (λ x. merged x (look s4 others pk)) is_one
      ∙ ap (λ y. merged (seq_leaf (partition K true os) B pk) y) is_others ∙ partition_whole K os B pk;
}
