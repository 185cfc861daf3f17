-- A sequence whose outs that assign a field are taken apart from the others.
use Rattle.std.proofs.Common.{◌≡◌, ◌≢◌, ℕ, ◌+◌, ◌<◌, ◌≤◌, min, Bool, true, false, cond, List, [], ◌∷◌, ◌++◌, length, refl, sym, ◌∙◌, ap, subst, arith, get_or, set, get_or-set_other, inl, inr}
use Rattle.std.proofs.lemmas.Bool.Decides.{eqb_tells, leb_tells}
use Rattle.std.specs.List.{flat_map}
use Rattle.nk_field.specs.Act.{applied}
use Rattle.nk_store.specs.declared.node.Out.{Out}
use Rattle.nk_store.specs.Nodes.{child_at}
use Rattle.nk_store.specs.Leaves.{Every, Strict, Suits, AreOrdered}
use Rattle.nk_store.specs.StoreState.{StoreState, IsId, IsNodeOf, node_of, look, root_field, Grows, HasLeaves}
use Rattle.nk_algebra.specs.Partition.{assigns, passed, partition, partition_on_field, Keep}
use Rattle.nk_apply.specs.Leaves.{merged}
use Rattle.nk_apply.specs.Seqs.{out_after, prefixed, seq_leaf}
use Rattle.nk_apply.specs.Cofactors.{cofactor, IsPart, IsSplit}
use Rattle.nk_apply.proofs.Built.{part_old, ends_rise}
use Rattle.nk_algebra.proofs.Chosen.{Serving, serving_push}
use Rattle.nk_apply.proofs.Gathers.{flat_ordered}
use Rattle.nk_apply.proofs.Members.{Has, merged_left, merged_right, merged_has, every_from, strict_same, gathered_has, has_gathered, gathered_strict, gathered_every, seq_leaf_is, seq_leaf_has, has_seq_leaf}
use Rattle.nk_apply.proofs.Parts.{child_past, split_at}
use Rattle.nk_apply.proofs.Sequences.{same_looks}
use Rattle.nk_apply.proofs.Sorted.{merged_strict, prefixed_strict}

-- an act that doesn't assign f leaves its value
pub kept_value : (f : ℕ) (g : List (ℕ × ℕ)) (pk : List ℕ) → assigns f g ≡ false →
    get_or (applied g pk) f 0 ≡ get_or pk f 0
kept_value f [] pk e = refl
kept_value f (s ∷ ss) pk e =
    elim (eqb_tells s.0 f) [
      | inl same ↦ absurd (clash (ap (λ b. cond b true (assigns f ss)) (sym same.0) ∙ e))
      | inr other ↦
          let n : f ≢ s.0 = λ x. other.1 (sym x) in
          kept_value f ss (set pk s.0 s.1) (ap (λ b. cond b true (assigns f ss)) (sym other.0) ∙ e)
          ∙ get_or-set_other pk s.0 f s.1 0 n
    ]
  where
    clash : true ≡ false → ⊥
    clash k = cc

-- an out is let pass where it is of its kind
passed_here : (o : Out) (s : Bool) → Has (cond s (cond s (o ∷ []) []) (cond s [] (o ∷ []))) o
passed_here o true = inl refl
passed_here o false = inl refl

-- and only there
passed_one : (s b : Bool) (p o : Out) → Has (cond s (cond b (p ∷ []) []) (cond b [] (p ∷ []))) o →
    (p ≡ o) × (s ≡ b)
passed_one true true p o (inl e) = (e, refl)
passed_one true true p o (inr k) = absurd k
passed_one true false p o h = absurd h
passed_one false true p o h = absurd h
passed_one false false p o (inl e) = (e, refl)
passed_one false false p o (inr k) = absurd k

-- a single out, or none, ascends
pub passed_strict : (K : List (ℕ × ℕ) → Bool) (b : Bool) (o : Out) → Strict (passed K b o)
passed_strict K b o = by (K o.act) b
  where
    by : (s c : Bool) → Strict (cond s (cond c (o ∷ []) []) (cond c [] (o ∷ [])))
    by true true = (tt, tt)
    by true false = tt
    by false true = tt
    by false false = (tt, tt)

-- what holds of the out holds of what is let pass
passed_every : (P : Out → Type 0) (K : List (ℕ × ℕ) → Bool) (b : Bool) (o : Out) → P o → Every P (passed K b o)
passed_every P K b o h = by (K o.act) b
  where
    by : (s c : Bool) → Every P (cond s (cond c (o ∷ []) []) (cond c [] (o ∷ [])))
    by true true = (h, tt)
    by true false = tt
    by false true = tt
    by false false = (h, tt)

-- an out of its kind is among those taken apart
partition_has : (K : List (ℕ × ℕ) → Bool) (b : Bool) (os : List Out) (o : Out) → Has os o → K o.act ≡ b → Has (partition K b os) o
partition_has K b os o h e =
    gathered_has (passed K b) os o o h
    (subst (λ c. Has (cond (K o.act) (cond c (o ∷ []) []) (cond c [] (o ∷ []))) o) e (passed_here o (K o.act)))

-- and those are outs of that kind
pub has_partition : (K : List (ℕ × ℕ) → Bool) (b : Bool) (os : List Out) (o : Out) → Has (partition K b os) o → Has os o × (K o.act ≡ b)
has_partition K b os o h =
    let r = has_gathered (passed K b) os o h in
    let k = passed_one (K r.0.act) b r.0 o r.2 in
    (subst (Has os) k.0 r.1, subst (λ (z : Out). K z.act ≡ b) k.0 k.1)

-- outs that don't assign f keep it
pub partition_keep : (f : ℕ) (os : List Out) → Keep f (partition_on_field f false os)
partition_keep f os = every_from (λ o. assigns f o.act ≡ false) (partition_on_field f false os) (λ o h. (has_partition (assigns f) false os o h).1)

-- outs taken apart, in their order
pub partition_ordered : (K : List (ℕ × ℕ) → Bool) (b : Bool) (os all : List Out) → all ≡ flat_map (passed K b) os →
    AreOrdered all (partition K b os)
partition_ordered K b os all e =
    subst (λ xs. AreOrdered xs (partition K b os)) (sym e) (flat_ordered (passed K b) os (λ o. passed_strict K b o))

-- they suit the highest values
pub partition_suits : (maxes : List ℕ) (K : List (ℕ × ℕ) → Bool) (b : Bool) (os : List Out) → Every (Suits maxes) os →
    Every (Suits maxes) (partition K b os)
partition_suits maxes K b os e = gathered_every (Suits maxes) (Suits maxes) (passed K b) os (λ o k. passed_every (Suits maxes) K b o k) e

-- the leaf of a sequence ascends
pub seq_strict : (os : List Out) (B : List ℕ → List Out) (pk : List ℕ) → Strict (seq_leaf os B pk)
seq_strict os B pk =
    subst Strict (sym (seq_leaf_is os B pk))
    (gathered_strict (λ o. prefixed o.act (B (applied o.act pk))) os (λ o. prefixed_strict o.act (B (applied o.act pk))))

-- both kinds of outs together make the sequence
pub partition_whole : (K : List (ℕ × ℕ) → Bool) (os : List Out) (B : List ℕ → List Out) (pk : List ℕ) →
    merged (seq_leaf (partition K true os) B pk) (seq_leaf (partition K false os) B pk) ≡ seq_leaf os B pk
partition_whole K os B pk =
    strict_same (merged (seq_leaf (partition K true os) B pk) (seq_leaf (partition K false os) B pk)) (seq_leaf os B pk)
    (merged_strict (seq_leaf (partition K true os) B pk) (seq_leaf (partition K false os) B pk) (seq_strict (partition K true os) B pk) (seq_strict (partition K false os) B pk))
    (seq_strict os B pk) to back
  where
    of_kind : (b : Bool) (o : Out) → Has (seq_leaf (partition K b os) B pk) o → Has (seq_leaf os B pk) o
    of_kind b o h =
        let r = has_seq_leaf (partition K b os) B pk o h in
        subst (Has (seq_leaf os B pk)) r.4 (seq_leaf_has os B pk r.0 r.1 (has_partition K b os r.0 r.2).0 r.3)

    to : (o : Out) → Has (merged (seq_leaf (partition K true os) B pk) (seq_leaf (partition K false os) B pk)) o → Has (seq_leaf os B pk) o
    to o h = elim (merged_has o (seq_leaf (partition K true os) B pk) (seq_leaf (partition K false os) B pk) h) [
      | inl k ↦ of_kind true o k
      | inr k ↦ of_kind false o k
    ]

    made : (b : Bool) (p q o : Out) → Has os p → Has (B (applied p.act pk)) q → out_after p.act q ≡ o →
        K p.act ≡ b → Has (seq_leaf (partition K b os) B pk) o
    made b p q o h k is e =
        subst (Has (seq_leaf (partition K b os) B pk)) is (seq_leaf_has (partition K b os) B pk p q (partition_has K b os p h e) k)

    by : (b : Bool) (p q o : Out) → Has os p → Has (B (applied p.act pk)) q → out_after p.act q ≡ o →
        K p.act ≡ b → Has (merged (seq_leaf (partition K true os) B pk) (seq_leaf (partition K false os) B pk)) o
    by true p q o h k is e = merged_left o (seq_leaf (partition K true os) B pk) (seq_leaf (partition K false os) B pk) (made true p q o h k is e)
    by false p q o h k is e = merged_right o (seq_leaf (partition K true os) B pk) (seq_leaf (partition K false os) B pk) (made false p q o h k is e)

    back : (o : Out) → Has (seq_leaf os B pk) o → Has (merged (seq_leaf (partition K true os) B pk) (seq_leaf (partition K false os) B pk)) o
    back o h =
        let r = has_seq_leaf os B pk o h in
        by (K r.0.act) r.0 r.1 o r.2 r.3 r.4 refl

-- where no out assigns f, a diagram that is the second one at packets with the packet's own value does as well
kept_seq : (f : ℕ) (os : List Out) (C B : List ℕ → List Out) (pk : List ℕ) → Keep f os →
    ((q : List ℕ) → get_or q f 0 ≡ get_or pk f 0 → C q ≡ B q) → seq_leaf os C pk ≡ seq_leaf os B pk
kept_seq f [] C B pk k same = refl
kept_seq f (o ∷ os) C B pk k same =
    ap (λ z. merged (prefixed o.act z) (seq_leaf os C pk)) (same (applied o.act pk) (kept_value f o.act pk k.0))
    ∙ ap (λ z. merged (prefixed o.act (B (applied o.act pk))) z) (kept_seq f os C B pk k.1 same)

-- what both diagrams make at the value v of f
abbrev pub kept_leaf : StoreState → ℕ → ℕ → ℕ → ℕ → List ℕ → List Out
kept_leaf old f a b v pk = seq_leaf (look old (cofactor old f v a) pk) (look old (cofactor old f v b)) pk

-- one part more
pub kept_push : (old st new : StoreState) (f a b from : ℕ) (ps : List (ℕ × ℕ)) (p q : ℕ × ℕ) (d e : ℕ) →
    Serving (kept_leaf old f a b) st f from ps → Grows old st → Grows st new → IsId old a → IsId old b →
    IsSplit old f a → IsSplit old f b → IsPart st f a from p → IsPart st f b from q → e ≡ min p.0 q.0 →
    HasLeaves new d (λ pk. seq_leaf (look st p.1 pk) (look st q.1) pk) →
    Serving (kept_leaf old f a b) new f (e + 1) (ps ++ (e, d) ∷ [])
kept_push old st new f a b from ps p q d e made g h ia ib sa sb pa pb is leaves =
    serving_push (kept_leaf old f a b) st new f from ps d e made h (omega (arith, is, pa.from, pb.from)) leaves.id
    (λ v pk w l m. leaves.leaf pk w
    ∙ ap (λ x. seq_leaf x (look st q.1) pk) (part_old old st f a from v p pk g ia sa pa l (omega (arith, is, m)))
    ∙ ap (λ B. seq_leaf (look old (cofactor old f v a) pk) B pk) (at v l (omega (arith, is, m))))
  where
    at : (v : ℕ) → from ≤ v → v ≤ q.0 → look st q.1 ≡ look old (cofactor old f v b)
    at v l m = λ j x. part_old old st f b from v q x g ib sb pb l m j

-- values past the highest count as the highest
kept_past : (old : StoreState) (f a b e : ℕ) → IsSplit old f a → IsSplit old f b → e ≡ get_or old.maxes f 0 → (v : ℕ)
    (pk : List ℕ) → e ≤ v → kept_leaf old f a b v pk ≡ kept_leaf old f a b e pk
kept_past old f a b e sa sb is v pk l =
    let high = get_or old.maxes f 0 in
    let far : high ≤ v = omega (arith, l, is) in
    ap (λ x. seq_leaf (look old x pk) (look old (cofactor old f v b)) pk) (sa.past v far)
    ∙ ap (λ y. seq_leaf (look old (cofactor old f high a) pk) (look old y) pk) (sb.past v far)
    ∙ ap (λ w. kept_leaf old f a b w pk) (sym is)

-- parts that serve the values up to the highest serve each value
pub kept_all : (old new : StoreState) (f a b e : ℕ) (ps : List (ℕ × ℕ)) → Serving (kept_leaf old f a b) new f (e + 1) ps →
    IsSplit old f a → IsSplit old f b → e ≡ get_or old.maxes f 0 → (v : ℕ) (pk : List ℕ) → length pk ≡ 18 →
    look new (child_at 0 ps v) pk ≡ kept_leaf old f a b v pk
kept_all old new f a b e ps made sa sb is v pk w =
    elim (leb_tells v e) [
      | inl within ↦ made.leaf v pk w (omega (arith, within.1))
      | inr far ↦
          ap (λ k. look new k pk) (child_past e 0 0 v ps (ends_rise e 0 ps made.ends) (omega (arith, far.1)))
          ∙ made.leaf e pk w (omega arith) ∙ sym (kept_past old f a b e sa sb is v pk (omega (arith, far.1)))
    ]

-- the choice between the parts is the sequence
pub kept_made : (old s1 s2 : StoreState) (f a b d : ℕ) (ps : List (ℕ × ℕ)) → IsSplit old f a → IsSplit old f b →
    ((pk : List ℕ) → length pk ≡ 18 → Keep f (look old a pk)) →
    ((v : ℕ) (pk : List ℕ) → length pk ≡ 18 → look s1 (child_at 0 ps v) pk ≡ kept_leaf old f a b v pk) →
    HasLeaves s2 d (λ pk. look s1 (child_at 0 ps (get_or pk f 0)) pk) →
    HasLeaves s2 d (λ pk. seq_leaf (look old a pk) (look old b) pk)
kept_made old s1 s2 f a b d ps sa sb keep all h = record {
  id = h.id;
  leaf = λ pk w.
      let v = get_or pk f 0 in
      h.leaf pk w ∙ all v pk w ∙ ap (λ x. seq_leaf x (look old (cofactor old f v b)) pk) (sym (sa.leaf pk))
      ∙ kept_seq f (look old a pk) (look old (cofactor old f v b)) (look old b) pk (keep pk w)
      (λ q e. ap (λ x. look old (cofactor old f x b) q) (sym e) ∙ sym (sb.leaf q));
}

-- both kinds of outs, each put through, together
pub partition_made : (old s1 s2 s3 s4 : StoreState) (f a b kept right left d : ℕ) → IsId old a → IsId old b → Grows old s1 →
    Grows s1 s2 → Grows s2 s3 → HasLeaves s1 kept (λ pk. partition_on_field f false (look old a pk)) →
    HasLeaves s2 right (λ pk. seq_leaf (look s1 kept pk) (look s1 b) pk) →
    HasLeaves s3 left (λ pk. seq_leaf (partition_on_field f true (look s2 a pk)) (look s2 b) pk) →
    HasLeaves s4 d (λ pk. merged (look s3 left pk) (look s3 right pk)) →
    HasLeaves s4 d (λ pk. seq_leaf (look old a pk) (look old b) pk)
partition_made old s1 s2 s3 s4 f a b kept right left d ia ib g h k hk hr hl hd = record {
  id = hd.id;
  leaf = λ pk w.
      let B = look old b in
      let b1 : look s1 b ≡ B = same_looks old s1 b g ib in
      let b2 : look s2 b ≡ B = same_looks s1 s2 b h (g.ids b ib) ∙ b1 in
      let a2 : look s2 a pk ≡ look old a pk = h.leaves a pk (g.ids a ia) ∙ g.leaves a pk ia in
      let is_left : look s3 left pk ≡ seq_leaf (partition_on_field f true (look old a pk)) B pk =
      hl.leaf pk w ∙ ap (λ C. seq_leaf (partition_on_field f true (look s2 a pk)) C pk) b2 ∙ ap (λ x. seq_leaf (partition_on_field f true x) B pk) a2 in
      let is_right : look s3 right pk ≡ seq_leaf (partition_on_field f false (look old a pk)) B pk =
      k.leaves right pk hr.id ∙ hr.leaf pk w ∙ ap (λ C. seq_leaf (look s1 kept pk) C pk) b1 ∙ ap (λ x. seq_leaf x B pk) (hk.leaf pk w) in
      hd.leaf pk w ∙ ap (λ x. merged x (look s3 right pk)) is_left
      ∙ ap (λ y. merged (seq_leaf (partition_on_field f true (look old a pk)) B pk) y) is_right ∙ partition_whole (assigns f) (look old a pk) B pk;
}

-- where all outs are kept, these put through are the sequence
pub kept_whole : (old s1 s2 : StoreState) (a b kept right : ℕ) → IsId old a → IsId old b → Grows old s1 → kept ≡ a →
    HasLeaves s2 right (λ pk. seq_leaf (look s1 kept pk) (look s1 b) pk) →
    HasLeaves s2 right (λ pk. seq_leaf (look old a pk) (look old b) pk)
kept_whole old s1 s2 a b kept right ia ib g same h = record {
  id = h.id;
  leaf = λ pk w.
      h.leaf pk w ∙ ap (λ C. seq_leaf (look s1 kept pk) C pk) (same_looks old s1 b g ib)
      ∙ ap (λ d. seq_leaf (look s1 d pk) (look old b) pk) same ∙ ap (λ os. seq_leaf os (look old b) pk) (g.leaves a pk ia);
}

-- the outs that assign f, put through
pub moved_made : (old s1 s2 : StoreState) (f a b moved d : ℕ) → IsId old b → Grows old s1 →
    HasLeaves s1 moved (λ pk. partition_on_field f true (look old a pk)) →
    HasLeaves s2 d (λ pk. seq_leaf (look s1 moved pk) (look s1 b) pk) →
    HasLeaves s2 d (λ pk. seq_leaf (partition_on_field f true (look old a pk)) (look old b) pk)
moved_made old s1 s2 f a b moved d ib g hm hd = record {
  id = hd.id;
  leaf = λ pk w.
      hd.leaf pk w ∙ ap (λ C. seq_leaf (look s1 moved pk) C pk) (same_looks old s1 b g ib)
      ∙ ap (λ x. seq_leaf x (look old b) pk) (hm.leaf pk w);
}

-- any diagram splits by a field that is not after the one that it tests
pub split_first : (st : StoreState) (f d : ℕ) → IsId st d → ((e : ℕ) → IsId st e → IsNodeOf st e (node_of st e)) →
    f ≤ root_field st d → f < 18 → IsSplit st f d
split_first st f d i k l h = split_at st f d (node_of st d) i refl (k d i) l h
