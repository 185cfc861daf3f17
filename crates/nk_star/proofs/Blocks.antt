-- What rounds added, kept in a few diagrams.
use Rattle.std.proofs.Common.{◌≡◌, ℕ, zero, suc, ◌+◌, ◌-◌, ◌<◌, ◌≤◌, Bool, true, false, cond, not, ◌||◌, List, [], ◌∷◌, ◌++◌, length, take, drop, refl, sym, ◌∙◌, ap, subst, arith, get_or, inl, inr, length-append}
use Rattle.std.proofs.lemmas.Bool.Decides.{leb_tells}
use Rattle.std.proofs.lemmas.List.{get_or_append_left, get_or_at, get_or-take, get_or-drop, length-take-le, length-drop}
use Rattle.nk_store.specs.declared.node.Out.{Out}
use Rattle.nk_store.specs.Leaves.{Strict, Suits}
use Rattle.nk_store.specs.StoreState.{StoreState, IsId, IsWhole, look, Grows, HasLeaves, AreTidy, Agree}
use Rattle.nk_store.specs.Operations.{has_out, lacking}
use Rattle.nk_apply.specs.Leaves.{merged}
use Rattle.nk_apply.specs.Seqs.{seq_leaf}
use Rattle.nk_apply.specs.Predicates.{HasOnlyFinals}
use Rattle.nk_apply.specs.Unions.{AreIds, unions}
use Rattle.nk_apply.proofs.Sorted.{merged_strict}
use Rattle.nk_apply.proofs.Members.{Has, every_from, merged_left, merged_right, merged_has, strict_same}
use Rattle.nk_apply.proofs.Unite.{merged_assoc, unions_halves}
use Rattle.nk_apply.proofs.Weaves.{merged-nil}
use Rattle.nk_star.specs.Steps.{rounds, IsLastRound, AreTogether}
use Rattle.nk_star.proofs.Lacks.{found_has, has_found, lacking_has, has_lacking}
use Rattle.nk_star.proofs.Room.{room, leaf_room}
use Rattle.nk_star.proofs.Rounds.{climbs, rounds_end, rounds_strict, rounds_step, seq_strict, IsFresh, fresh_enough}
use Rattle.nk_star.proofs.Leads.{AllSuit, steps_range}

-- leaves together are one where the leaves are
unions_alike : (old new : StoreState) (ds es : List ℕ) (f g n : ℕ) (pk : List ℕ) →
    ((k : ℕ) → k < n → look new (get_or ds (k + f) 0) pk ≡ look old (get_or es (k + g) 0) pk) →
    unions new ds f n pk ≡ unions old es g n pk
unions_alike old new ds es f g zero pk h = refl
unions_alike old new ds es f g (suc n) pk h =
    let zf : 0 + f ≡ f = omega arith in
    let zg : 0 + g ≡ g = omega arith in
    ap (λ x. merged x (unions new ds (f + 1) n pk)) (ap (λ m. look new (get_or ds m 0) pk) (sym zf) ∙ h 0 (omega arith) ∙ ap (λ m. look old (get_or es m 0) pk) zg)
    ∙ ap (λ y. merged (look old (get_or es g 0) pk) y) (unions_alike old new ds es (f + 1) (g + 1) n pk (λ k l.
    let e : k + (f + 1) ≡ suc k + f = omega arith in
    let i : suc k + g ≡ k + (g + 1) = omega arith in
    ap (λ m. look new (get_or ds m 0) pk) e ∙ h (suc k) (omega (arith, l)) ∙ ap (λ m. look old (get_or es m 0) pk) i))

-- leaves together stay in a store that grew
pub unions_on : (old new : StoreState) (ds : List ℕ) (pk : List ℕ) → Grows old new → AreIds old ds →
    unions new ds 0 (length ds) pk ≡ unions old ds 0 (length ds) pk
unions_on old new ds pk g ids = unions_alike old new ds ds 0 0 (length ds) pk (λ k l.
    let e : k + 0 ≡ k = omega arith in
    subst (λ m. look new (get_or ds m 0) pk ≡ look old (get_or ds m 0) pk) (sym e) (g.leaves (get_or ds k 0) pk (ids k l)))

-- one more at the end
pub unions_more : (st : StoreState) (ds : List ℕ) (n : ℕ) (pk : List ℕ) → AreTidy st →
    unions st ds 0 (n + 1) pk ≡ merged (unions st ds 0 n pk) (look st (get_or ds n 0) pk)
unions_more st ds n pk t =
    let z : 0 + n ≡ n = omega arith in
    sym (unions_halves st ds 0 n 1 pk t) ∙ ap (λ m. merged (unions st ds 0 n pk) (unions st ds m 1 pk)) z ∙ ap (λ y. merged (unions st ds 0 n pk) y) (merged-nil (look st (get_or ds n 0) pk))

-- leaves together ascend
unions_strict : (st : StoreState) (ds : List ℕ) (from n : ℕ) (pk : List ℕ) → AreTidy st → Strict (unions st ds from n pk)
unions_strict st ds from zero pk t = tt
unions_strict st ds from (suc n) pk t =
    merged_strict (look st (get_or ds from 0) pk) (unions st ds (from + 1) n pk) ((t (get_or ds from 0)).sorted pk) (unions_strict st ds (from + 1) n pk t)

-- an out is found in two leaves together where it is in one of them
found_merged : (a b : List Out) (o : Out) → has_out (merged a b) o ≡ (has_out a o || has_out b o)
found_merged a b o = by (has_out a o) (has_out b o) refl refl
  where
    neither : (z : Bool) → has_out (merged a b) o ≡ z → has_out a o ≡ false → has_out b o ≡ false → has_out (merged a b) o ≡ false
    neither false g e f = g
    neither true g e f = elim (merged_has o a b (found_has (merged a b) o g)) [
      | inl h ↦ let k : false ≡ true = sym e ∙ has_found a o h in absurd cc
      | inr h ↦ let k : false ≡ true = sym f ∙ has_found b o h in absurd cc
    ]

    by : (x y : Bool) → has_out a o ≡ x → has_out b o ≡ y → has_out (merged a b) o ≡ (x || y)
    by true y e f = has_found (merged a b) o (merged_left o a b (found_has a o e))
    by false true e f = has_found (merged a b) o (merged_right o a b (found_has b o f))
    by false false e f = neither (has_out (merged a b) o) refl e f

-- what two leaves lack one after the other, they lack together
pub lacking_twice : (xs a b : List Out) → lacking (lacking xs a) b ≡ lacking xs (merged a b)
lacking_twice [] a b = refl
lacking_twice (x ∷ xs) a b =
    by (has_out a x) (has_out b x) refl (lacking_twice xs a b)
    ∙ ap (λ z. cond (not z) (x ∷ lacking xs (merged a b)) (lacking xs (merged a b))) (sym (found_merged a b x))
  where
    by : (p q : Bool) → has_out b x ≡ q → lacking (lacking xs a) b ≡ lacking xs (merged a b) →
        lacking (cond (not p) (x ∷ lacking xs a) (lacking xs a)) b ≡ cond (not (p || q)) (x ∷ lacking xs (merged a b)) (lacking xs (merged a b))
    by true q f ih = ih
    by false q f ih =
        ap (λ z. cond (not z) (x ∷ lacking (lacking xs a) b) (lacking (lacking xs a) b)) f
        ∙ ap (λ zs. cond (not q) (x ∷ zs) zs) ih

-- a leaf that has each of these outs lacks none
pub lacking_no : (xs ys : List Out) → ((o : Out) → Has xs o → Has ys o) → lacking xs ys ≡ []
lacking_no [] ys f = refl
lacking_no (x ∷ xs) ys f =
    ap (λ b. cond (not b) (x ∷ lacking xs ys) (lacking xs ys)) (has_found ys x (f x (inl refl)))
    ∙ lacking_no xs ys (λ o h. f o (inr h))

-- what a leaf lacks is enough to be put to it
pub lacking_enough : (L M : List Out) → Strict L → Strict (lacking M L) → Strict M → merged L (lacking M L) ≡ merged L M
lacking_enough L M s t u = strict_same (merged L (lacking M L)) (merged L M) (merged_strict L (lacking M L) s t) (merged_strict L M s u) to back
  where
    to : (o : Out) → Has (merged L (lacking M L)) o → Has (merged L M) o
    to o h = elim (merged_has o L (lacking M L) h) [
      | inl k ↦ merged_left o L M k
      | inr k ↦ merged_right o L M (has_lacking M L o k)
    ]

    tell : (o : Out) (b : Bool) → has_out L o ≡ b → Has M o → Has (merged L (lacking M L)) o
    tell o true e k = merged_left o L (lacking M L) (found_has L o e)
    tell o false e k = merged_right o L (lacking M L) (lacking_has M L o k e)

    back : (o : Out) → Has (merged L M) o → Has (merged L (lacking M L)) o
    back o h = elim (merged_has o L M h) [
      | inl k ↦ merged_left o L (lacking M L) k
      | inr k ↦ tell o (has_out L o) refl k
    ]

-- a first diagram alone
pub together_one : (st : StoreState) (d : ℕ) (F : List ℕ → List Out) → HasLeaves st d F → AreTogether st (d ∷ []) F
together_one st d F h = record {
  ids = λ k l. let e : 0 ≡ k = omega (arith, l) in subst (λ j. IsId st (get_or (d ∷ []) j 0)) e h.id;
  leaf = λ pk w. merged-nil (look st d pk) ∙ h.leaf pk w;
}

-- diagrams stay together in a store that grew
pub together_on : (old new : StoreState) (ds : List ℕ) (F : List ℕ → List Out) → Grows old new → AreTogether old ds F →
    AreTogether new ds F
together_on old new ds F g h = record {
  ids = λ k l. g.ids (get_or ds k 0) (h.ids k l);
  leaf = λ pk w. unions_on old new ds pk g h.ids ∙ h.leaf pk w;
}

-- the first of these diagrams, and the others put together with a new one
pub put_together : (old s2 : StoreState) (ds ls : List ℕ) (kept last new : ℕ) → Grows old s2 → AreTidy old →
    AreTidy s2 → AreIds old ds → kept ≤ length ds → ls ≡ take kept ds ++ last ∷ [] →
    HasLeaves s2 last (λ pk. merged (unions old (drop kept ds) 0 (length (drop kept ds)) pk) (look old new pk)) →
    AreTogether s2 ls (λ pk. merged (unions old ds 0 (length ds) pk) (look old new pk))
put_together old s2 ds ls kept last new h t u ids few is gl =
    subst (λ xs. AreTogether s2 xs (λ pk. merged (unions old ds 0 (length ds) pk) (look old new pk))) (sym is) (record { ids = there; leaf = λ pk w. whole pk w })
  where
    first : length (take kept ds) ≡ kept
    first = length-take-le kept ds few

    long : length (take kept ds ++ last ∷ []) ≡ kept + 1
    long = length-append (take kept ds) (last ∷ []) ∙ ap (λ m. m + 1) first

    before : (k : ℕ) → k < kept → get_or (take kept ds ++ last ∷ []) k 0 ≡ get_or ds k 0
    before k l = get_or_append_left (take kept ds) (last ∷ []) 0 k (omega (arith, l, first)) ∙ get_or-take kept ds k 0 l

    end : get_or (take kept ds ++ last ∷ []) kept 0 ≡ last
    end = get_or_at (take kept ds) last [] 0 kept first

    there : AreIds s2 (take kept ds ++ last ∷ [])
    there k l = elim (leb_tells kept k) [
      | inl past ↦ let e : kept ≡ k = omega (arith, past.1, l, long) in subst (λ j. IsId s2 (get_or (take kept ds ++ last ∷ []) j 0)) e (subst (IsId s2) (sym end) gl.id)
      | inr less ↦ subst (IsId s2) (sym (before k less.1)) (h.ids (get_or ds k 0) (ids k (omega (arith, less.1, few))))
    ]

    front : (pk : List ℕ) → unions s2 (take kept ds ++ last ∷ []) 0 kept pk ≡ unions old ds 0 kept pk
    front pk = unions_alike old s2 (take kept ds ++ last ∷ []) ds 0 0 kept pk (λ k l.
        let e : k + 0 ≡ k = omega arith in
        subst (λ m. look s2 (get_or (take kept ds ++ last ∷ []) m 0) pk ≡ look old (get_or ds m 0) pk) (sym e)
        (ap (λ i. look s2 i pk) (before k l) ∙ h.leaves (get_or ds k 0) pk (ids k (omega (arith, l, few)))))

    rest : (pk : List ℕ) → unions old (drop kept ds) 0 (length (drop kept ds)) pk ≡ unions old ds kept (length ds - kept) pk
    rest pk =
        unions_alike old old (drop kept ds) ds 0 kept (length (drop kept ds)) pk (λ k l.
        let e : k + 0 ≡ k = omega arith in
        let i : kept + k ≡ k + kept = omega arith in
        ap (λ m. look old (get_or (drop kept ds) m 0) pk) e ∙ ap (λ j. look old j pk) (get_or-drop kept ds k 0) ∙ ap (λ m. look old (get_or ds m 0) pk) i)
        ∙ ap (λ n. unions old ds kept n pk) (length-drop kept ds)

    tail : (pk : List ℕ) → IsWhole pk → look s2 last pk ≡ merged (unions old ds kept (length ds - kept) pk) (look old new pk)
    tail pk w = gl.leaf pk w ∙ ap (λ x. merged x (look old new pk)) (rest pk)

    whole : (pk : List ℕ) → IsWhole pk → unions s2 (take kept ds ++ last ∷ []) 0 (length (take kept ds ++ last ∷ [])) pk ≡ merged (unions old ds 0 (length ds) pk) (look old new pk)
    whole pk w =
        let n : kept + (length ds - kept) ≡ length ds = omega (arith, few) in
        let z : 0 + kept ≡ kept = omega arith in
        let A = unions old ds 0 kept pk in
        let B = unions old ds kept (length ds - kept) pk in
        ap (λ m. unions s2 (take kept ds ++ last ∷ []) 0 m pk) long
        ∙ unions_more s2 (take kept ds ++ last ∷ []) kept pk u
        ∙ ap (λ x. merged x (look s2 (get_or (take kept ds ++ last ∷ []) kept 0) pk)) (front pk)
        ∙ ap (λ i. merged A (look s2 i pk)) end
        ∙ ap (λ y. merged A y) (tail pk w)
        ∙ sym (merged_assoc A B (look old new pk) (unions_strict old ds 0 kept pk t) (unions_strict old ds kept (length ds - kept) pk t) ((t new).sorted pk))
        ∙ ap (λ x. merged x (look old new pk)) (ap (λ m. merged A (unions old ds m (length ds - kept) pk)) (sym z) ∙ unions_halves old ds 0 kept (length ds - kept) pk t ∙ ap (λ m. unions old ds 0 m pk) n)

-- one diagram more before those that are put together with a new one already
pub one_before : (old st on : StoreState) (ds : List ℕ) (d one all more k : ℕ) → Grows old st → AreTidy old → AreIds old ds → k < length ds →
    one ≡ get_or ds k 0 → HasLeaves st all (λ pk. merged (unions old ds (k + 1) (length ds - (k + 1)) pk) (look old d pk)) →
    HasLeaves on more (λ pk. merged (look st one pk) (look st all pk)) →
    HasLeaves on more (λ pk. merged (unions old ds k (length ds - k) pk) (look old d pk))
one_before old st on ds d one all more k g t ids l is h gl = record {
  id = gl.id;
  leaf = λ pk w.
      let first = look old (get_or ds k 0) pk in
      let rest = unions old ds (k + 1) (length ds - (k + 1)) pk in
      let at : look st one pk ≡ first = ap (λ i. look st i pk) is ∙ g.leaves (get_or ds k 0) pk (ids k l) in
      let count : suc (length ds - (k + 1)) ≡ length ds - k = omega (arith, l) in
      gl.leaf pk w ∙ ap (λ x. merged x (look st all pk)) at ∙ ap (λ y. merged first y) (h.leaf pk w)
      ∙ sym (merged_assoc first rest (look old d pk) ((t (get_or ds k 0)).sorted pk) (unions_strict old ds (k + 1) (length ds - (k + 1)) pk t) ((t d).sorted pk))
      ∙ ap (λ n. merged (unions old ds k n pk) (look old d pk)) count;
}

-- what a further copy makes of the outs that the last round added, and that no round has
pub record IsAdded (st : StoreState) (new : ℕ) (D : List ℕ → List Out) (n : ℕ) : Type 0 where
  pub id : IsId st new
  pub made : List ℕ → List Out
  pub sorted : (pk : List ℕ) → Strict (made pk)
  pub round : (pk : List ℕ) → IsWhole pk → merged (rounds D n pk) (made pk) ≡ rounds D (suc n) pk
  pub leaf : (pk : List ℕ) → IsWhole pk → look st new pk ≡ lacking (made pk) (rounds D n pk)

-- it is what the diagrams of all rounds lack
pub added_of : (old s0 s1 s2 : StoreState) (d fresh more new n : ℕ) (ds all : List ℕ) → all ≡ ds → Grows old s0 → IsId old d → Grows s0 s1 →
    AreTogether s0 ds (λ pk. rounds (look old d) n pk) → IsFresh s0 fresh (look old d) n →
    HasLeaves s1 more (λ pk. seq_leaf (look s0 fresh pk) (look s0 d) pk) →
    HasLeaves s2 new (λ pk. lacking (look s1 more pk) (unions s1 all 0 (length all) pk)) → IsAdded s2 new (look old d) n
added_of old s0 s1 s2 d fresh more new n ds all same g id h together gf gm gn = record {
  id = gn.id;
  made = λ pk. seq_leaf (look s0 fresh pk) (look old d) pk;
  sorted = λ pk. seq_strict (look s0 fresh pk) (look old d) pk;
  round = gf.enough;
  leaf = λ pk w.
      let D = look old d in
      let same_d : look s0 d ≡ D = λ i p. g.leaves d p id i in
      let is_more : look s1 more pk ≡ seq_leaf (look s0 fresh pk) D pk = gm.leaf pk w ∙ ap (λ B. seq_leaf (look s0 fresh pk) B pk) same_d in
      let is_all : unions s1 all 0 (length all) pk ≡ rounds D n pk = ap (λ xs. unions s1 xs 0 (length xs) pk) same ∙ unions_on s0 s1 ds pk h together.ids ∙ together.leaf pk w in
      gn.leaf pk w ∙ ap (λ x. lacking x (unions s1 all 0 (length all) pk)) is_more ∙ ap (λ y. lacking (seq_leaf (look s0 fresh pk) D pk) y) is_all;
}

-- with it the rounds are those of one copy more
pub added_round : (st : StoreState) (new : ℕ) (D : List ℕ → List Out) (n : ℕ) → AreTidy st → IsAdded st new D n → (pk : List ℕ) → IsWhole pk →
    merged (rounds D n pk) (look st new pk) ≡ rounds D (suc n) pk
added_round st new D n t a pk w =
    ap (λ x. merged (rounds D n pk) x) (a.leaf pk w)
    ∙ lacking_enough (rounds D n pk) (a.made pk) (rounds_strict D n pk) (subst Strict (a.leaf pk w) ((t new).sorted pk)) (a.sorted pk)
    ∙ a.round pk w

-- and it is enough to make the next ones
pub added_fresh : (st on : StoreState) (new : ℕ) (D : List ℕ → List Out) (n : ℕ) → Grows st on → IsAdded st new D n → IsFresh on new D (suc n)
added_fresh st on new D n g a = record {
  id = g.ids new a.id;
  enough = λ pk w.
      ap (λ x. merged (rounds D (suc n) pk) (seq_leaf x D pk)) (g.leaves new pk a.id ∙ a.leaf pk w)
      ∙ fresh_enough D pk (rounds D n pk) (a.made pk) (rounds D (suc n) pk) (rounds_strict D (suc n) pk) refl (a.round pk w);
}

-- where nothing was added, the rounds are all
pub added_last : (st on : StoreState) (new nothing r n : ℕ) (D : List ℕ → List Out) → IsAdded st new D n → HasLeaves st nothing (λ pk. []) →
    new ≡ nothing → AreTidy st → HasLeaves on r (λ pk. rounds D n pk) → IsLastRound on r D
added_last st on new nothing r n D a z e t h = record {
  count = n;
  leaves = h;
  still = λ pk w.
      sym (added_round st new D n t a pk w) ∙ ap (λ x. merged (rounds D n pk) x) (ap (λ i. look st i pk) e ∙ z.leaf pk w) ∙ merged-nil (rounds D n pk);
}

-- where something was added, there were fewer rounds than acts
pub added_below : (st : StoreState) (new nothing n : ℕ) (D : List ℕ → List Out) → HasOnlyFinals D → AllSuit st.maxes D → IsAdded st new D n →
    HasLeaves st nothing (λ pk. []) → (Agree st new nothing → ⊥) → n < room st.maxes
added_below st new nothing n D z suits a bare other = elim (leb_tells (room st.maxes) n) [
  | inr less ↦ less.1
  | inl full ↦ absurd (other (λ pk r. a.leaf pk r.0 ∙ none pk r.0 full.1 ∙ sym (bare.leaf pk r.0)))
]
  where
    still : (pk : List ℕ) → IsWhole pk → room st.maxes ≤ n → rounds D (suc n) pk ≡ rounds D n pk
    still pk w full = elim (climbs D pk n) [
      | inr same ↦ same
      | inl less ↦
          let fits : length (rounds D n pk) ≤ room st.maxes = leaf_room st.maxes (rounds D n pk) (rounds_strict D n pk)
          (every_from (Suits st.maxes) (rounds D n pk) (λ o h. let s = rounds_step D n pk o z w h in steps_range st.maxes D s.0 pk o.act suits s.1)) (rounds_end D n pk z w) in
          absurd (omega (arith, fits, less, full))
    ]

    none : (pk : List ℕ) → IsWhole pk → room st.maxes ≤ n → lacking (a.made pk) (rounds D n pk) ≡ []
    none pk w full = lacking_no (a.made pk) (rounds D n pk) (λ o h.
        subst (λ xs. Has xs o) (a.round pk w ∙ still pk w full) (merged_right o (rounds D n pk) (a.made pk) h))

-- what is left after one diagram more
pub less_more : (old st new : StoreState) (ds : List ℕ) (d rest one less k : ℕ) → Grows old st → AreTidy old → AreIds old ds → k < length ds →
    one ≡ get_or ds k 0 → HasLeaves st rest (λ pk. lacking (look old d pk) (unions old ds 0 k pk)) →
    HasLeaves new less (λ pk. lacking (look st rest pk) (look st one pk)) →
    HasLeaves new less (λ pk. lacking (look old d pk) (unions old ds 0 (k + 1) pk))
less_more old st new ds d rest one less k g t ids l is h gl = record {
  id = gl.id;
  leaf = λ pk w.
      let U = unions old ds 0 k pk in
      let at : look st one pk ≡ look old (get_or ds k 0) pk = ap (λ i. look st i pk) is ∙ g.leaves (get_or ds k 0) pk (ids k l) in
      gl.leaf pk w ∙ ap (λ x. lacking x (look st one pk)) (h.leaf pk w) ∙ lacking_twice (look old d pk) U (look st one pk)
      ∙ ap (λ y. lacking (look old d pk) (merged U y)) at ∙ ap (λ y. lacking (look old d pk) y) (sym (unions_more old ds k pk t));
}

-- the diagrams of one round more
pub added_more : (st on : StoreState) (new : ℕ) (ds all ls : List ℕ) (n : ℕ) (D : List ℕ → List Out) → all ≡ ds → AreTidy st → IsAdded st new D n →
    AreTogether st ds (λ pk. rounds D n pk) → AreTogether on ls (λ pk. merged (unions st all 0 (length all) pk) (look st new pk)) →
    AreTogether on ls (λ pk. rounds D (suc n) pk)
added_more st on new ds all ls n D same t a h k = record {
  ids = k.ids;
  leaf = λ pk w.
      k.leaf pk w ∙ ap (λ xs. merged (unions st xs 0 (length xs) pk) (look st new pk)) same
      ∙ ap (λ x. merged x (look st new pk)) (h.leaf pk w) ∙ added_round st new D n t a pk w;
}
