-- A round of the levels, the first one, and the two ends.
use Rattle.std.proofs.Common.{◌≡◌, ℕ, ◌<◌, ◌+◌, inl, inr, refl, sym, ◌∙◌, ap, subst, arith, List, [], ◌∷◌, ◌++◌, length, get_or, length-append}
use Rattle.std.proofs.lemmas.Bool.Decides.{eqb_tells}
use Rattle.nk_store.specs.declared.node.Out.{Out}
use Rattle.nk_store.specs.StoreState.{StoreState, IsStorePacket, Grows}
use Rattle.nk_store.proofs.Stores.{grows_on, grows_same}
use Rattle.nk_apply.proofs.Members.{Has as Among}
use Rattle.nk_sets.specs.PacketSets.{IsSet}
use Rattle.nk_sets.proofs.Kept.{packet_on, packet_back}
use Rattle.nk_determ.specs.Sets.{SetsGrow}
use Rattle.nk_determ.specs.Pairs.{Node, EachPair, Within, AreStates, AreLabelsBelow, ArePairs, IsStart, IsStep, IsGood}
use Rattle.nk_determ.specs.Levels.{InLevel, IsLaterLevel, IsFilled, IsViolation}
use Rattle.nk_goal.specs.Entries.{HaveSets, IsMerged}
use Rattle.nk_reach.specs.Rounds.{IsNextLevel}
use Rattle.nk_goal.proofs.Graphs.{IsNext, exact_push, exact_start}
use Rattle.nk_goal.proofs.Growing.{sets_refl, named_known, pairs_of, packets_of, pairs_on, within_on, within_back, within_places, step_on, step_back, step_places, filled_on}
use Rattle.nk_goal.proofs.Everything.{all_nodes, among_nodes}
use Rattle.nk_goal.proofs.Going.{Going, level_old, level_new, level_on, level_back, going_on}

-- a level that is not empty has a packet
pub first_node : (st : StoreState) (ss : List (List ℕ)) (ps : List (ℕ × ℕ)) → 0 < length ps → HaveSets st ps → EachPair (λ p. IsFilled st p.1) ps → (n : Node) × IsStorePacket st n.1 × Within st ss ps n
first_node st ss [] l e f = absurd (omega (arith, l))
first_node st ss (p ∷ ps) l e f = ((get_or ss p.0 [], f.0.0), f.0.1, (p.0, refl, inl (refl, f.0.2)))

-- the new level follows from the ones before
pub round_next : (old : StoreState) (oss : List (List ℕ)) (st mid new : StoreState) (ss nss : List (List ℕ)) (states : List ℕ) (set start : ℕ) (bad : List ℕ → List ℕ → List Out) (visited : List (ℕ × ℕ)) (ls : List (List (ℕ × ℕ))) (level : List (ℕ × ℕ)) (h : ℕ) → AreStates old states → Going old oss st ss states set start bad visited ls h → IsNextLevel st ss states visited (get_or ls h []) mid nss level → Grows st mid → SetsGrow ss nss → Grows mid new → IsNext (IsStep old states) (IsGood old) (InLevel new nss ls) h (Within new nss level)
round_next old oss st mid new ss nss states set start bad visited ls level h states_ok go next g1 s1 g2 =
    let r = length states in
    let last = get_or ls h [] in
    let g : Grows st new = grows_on st mid new g1 g2 in
    let h_in : h < h + 1 = omega arith in
    let to_mid : (n : Node) → Within new nss level n → Within mid nss level n = λ n v. within_back mid new nss nss r level n g2 (sets_refl nss) next.pairs v in
    record {
      from = λ n p v.
          let w = next.from n (packet_on old st n.1 go.grows p) (to_mid n v) in
          let m : Node = w.0 in
          let places : AreLabelsBelow r m.0 = within_places st ss r last m (go.pairs h h_in) w.2 in
          (m, packet_back old st m.1 go.grows w.1, level_on old oss st new ss nss states set start bad visited ls h h m go g s1 h_in w.2, step_back old st states m n go.grows states_ok places w.3);
      fresh = λ n p v j l lev.
          next.fresh n (packet_on old st n.1 go.grows p) (to_mid n v) (go.in_visited j n p l (level_back old oss st new ss nss states set start bad visited ls h j n go g s1 l lev));
      every = λ m n p lev step none.
          let was : Within st ss last m = level_back old oss st new ss nss states set start bad visited ls h h m go g s1 h_in lev in
          let places : AreLabelsBelow r m.0 = within_places st ss r last m (go.pairs h h_in) was in
          let made = next.every m n (packet_on old st m.1 go.grows p) was (step_on old st states m n go.grows states_ok places step)
          (λ w. let q = go.visited_in n step.packet w in none q.0 q.1 (level_on old oss st new ss nss states set start bad visited ls h q.0 n go g s1 q.1 q.2)) in
          within_on mid new nss nss r level n g2 (sets_refl nss) next.pairs made;
    }

-- a round keeps what holds between rounds
pub going_next : (old : StoreState) (oss : List (List ℕ)) (st mid new : StoreState) (ss nss : List (List ℕ)) (states : List ℕ) (set start : ℕ) (bad : List ℕ → List ℕ → List Out) (visited all : List (ℕ × ℕ)) (ls : List (List (ℕ × ℕ))) (level : List (ℕ × ℕ)) (h : ℕ) → AreStates old states → Going old oss st ss states set start bad visited ls h → ((n : Node) → IsGood old n → InLevel st ss ls h n → IsViolation bad n → ⊥) → IsNextLevel st ss states visited (get_or ls h []) mid nss level → Grows st mid → SetsGrow ss nss → IsMerged mid visited level new all → Grows mid new → 0 < length level → Going old oss new nss states set start bad all (ls ++ level ∷ []) (h + 1)
going_next old oss st mid new ss nss states set start bad visited all ls level h states_ok go none next g1 s1 merged g2 some =
    let r = length states in
    let g : Grows st new = grows_on st mid new g1 g2 in
    let s2 : SetsGrow nss nss = sets_refl nss in
    let gm : Going old oss mid nss states set start bad visited ls h = going_on old oss st mid ss nss states set start bad visited ls h g1 s1 go in
    let gn : Going old oss new nss states set start bad visited ls h = going_on old oss mid new nss nss states set start bad visited ls h g2 s2 gm in
    let is_next = round_next old oss st mid new ss nss states set start bad visited ls level h states_ok go next g1 s1 g2 in
    let nls = ls ++ level ∷ [] in
    let is_old : (i : ℕ) → i < h + 1 → get_or nls i [] ≡ get_or ls i [] = λ i l. level_old ls level i (omega (arith, l, go.count)) in
    let is_new : (i : ℕ) → i ≡ h + 1 → get_or nls i [] ≡ level = λ i e. level_new ls level i (omega (arith, e, go.count)) in
    let back : (i : ℕ) (n : Node) → i < h + 1 → InLevel new nss nls i n → InLevel new nss ls i n = λ i n l v. subst (λ (q : List (ℕ × ℕ)). Within new nss q n) (is_old i l) v in
    let on : (i : ℕ) (n : Node) → i < h + 1 → InLevel new nss ls i n → InLevel new nss nls i n = λ i n l v. subst (λ (q : List (ℕ × ℕ)). Within new nss q n) (sym (is_old i l)) v in
    let last_back : (i : ℕ) (n : Node) → i ≡ h + 1 → InLevel new nss nls i n → Within new nss level n = λ i n e v. subst (λ (q : List (ℕ × ℕ)). Within new nss q n) (is_new i e) v in
    let last_on : (i : ℕ) (n : Node) → i ≡ h + 1 → Within new nss level n → InLevel new nss nls i n = λ i n e v. subst (λ (q : List (ℕ × ℕ)). Within new nss q n) (sym (is_new i e)) v in
    let level_pairs : ArePairs new nss r level = pairs_on mid new nss nss r level g2 s2 next.pairs in
    let mid_packets : HaveSets mid level = packets_of mid nss r level next.pairs.each in
    let one = first_node mid nss level some mid_packets next.filled in
    let n0 : Node = one.0 in
    let good0 : IsGood old n0 = packet_back old mid n0.1 gm.grows one.1 in
    let in0 : Within new nss level n0 = within_on mid new nss nss r level n0 g2 s2 next.pairs one.2 in
    let came = is_next.from n0 good0 in0 in
    let m0 : Node = came.0 in
    let places0 : AreLabelsBelow r m0.0 = within_places new nss r (get_or ls h []) m0 (gn.pairs h (omega arith)) came.2 in
    record {
      grows = gn.grows;
      sets = gn.sets;
      count = omega (arith, length-append ls (level ∷ []), go.count);
      exact = exact_push (IsStart old (get_or oss set []) start) (IsStep old states) (IsGood old) (InLevel new nss ls) (InLevel new nss nls) (Within new nss level) h
          (λ n s. s.packet) (λ m n s. s.packet) gn.exact is_next back on (λ n v. last_back (h + 1) n refl v) (λ n v. last_on (h + 1) n refl v);
      start_is = is_old 0 (omega arith) ∙ go.start_is;
      pairs = λ i l. elim (eqb_tells i (h + 1)) [
        | inl same ↦ subst (λ (q : List (ℕ × ℕ)). ArePairs new nss r q) (sym (is_new i same.1)) level_pairs
        | inr other ↦ subst (λ (q : List (ℕ × ℕ)). ArePairs new nss r q) (sym (is_old i (omega (arith, l, other.1)))) (gn.pairs i (omega (arith, l, other.1)))
      ];
      shape = λ i a l. elim (eqb_tells i (h + 1)) [
        | inl same ↦ subst (λ (q : List (ℕ × ℕ)). IsLaterLevel new q) (sym (is_new i same.1)) (record { some = some; filled = filled_on mid new level g2 mid_packets next.filled })
        | inr other ↦ subst (λ (q : List (ℕ × ℕ)). IsLaterLevel new q) (sym (is_old i (omega (arith, l, other.1)))) (gn.shape i a (omega (arith, l, other.1)))
      ];
      goal = λ i n l p v b. elim (eqb_tells i h) [
        | inl same ↦ none n p (level_back old oss st new ss nss states set start bad visited ls h h n go g s1 (omega arith) (subst (λ j. InLevel new nss ls j n) same.1 (back i n l v))) b
        | inr other ↦ gn.goal i n (omega (arith, l, other.1)) p (back i n l v) b
      ];
      visited_pairs = record {
        each = pairs_of new nss r all (λ i q. elim (merged.named i q) [
          | inl was ↦ named_known new nss r visited i gn.visited_pairs.each was
          | inr now ↦ named_known mid nss r level i next.pairs.each now
        ]) merged.packets;
        once = merged.once;
      };
      visited_in = λ n p w. elim (merged.either w.0 n.1 (packet_on old mid n.1 gm.grows p) w.2) [
        | inl was ↦
            let q = gm.visited_in n p (w.0, w.1, was) in
            (q.0, omega (arith, q.1), on q.0 n q.1 (level_on old oss mid new nss nss states set start bad visited ls h q.0 n gm g2 s2 q.1 q.2))
        | inr now ↦ (h + 1, omega arith, last_on (h + 1) n refl (within_on mid new nss nss r level n g2 s2 next.pairs (w.0, w.1, now)))
      ];
      in_visited = λ j n p l v. elim (eqb_tells j (h + 1)) [
        | inl same ↦
            let w : Within mid nss level n = within_back mid new nss nss r level n g2 s2 next.pairs (last_back j n same.1 v) in
            (w.0, w.1, merged.more w.0 n.1 (packet_on old mid n.1 gm.grows p) w.2)
        | inr other ↦
            let b : j < h + 1 = omega (arith, l, other.1) in
            let w : Within mid nss visited n = gm.in_visited j n p b (level_back old oss mid new nss nss states set start bad visited ls h j n gm g2 s2 b (back j n b v)) in
            (w.0, w.1, merged.old w.0 n.1 (packet_on old mid n.1 gm.grows p) w.2)
      ];
      seen = n0 ∷ gn.seen;
      seen_count = omega (arith, gn.seen_count);
      seen_no_dup = (λ q. let w = gn.seen_in n0 q in is_next.fresh n0 good0 in0 w.1.0 w.1.1 w.1.2, gn.seen_no_dup);
      seen_in = λ n q. elim q [
        | inl e ↦ subst (λ (k : Node). IsGood old k × ((j : ℕ) × (j < h + 1 + 1) × InLevel new nss nls j k)) e (good0, (h + 1, omega arith, last_on (h + 1) n0 refl in0))
        | inr later ↦ let w = gn.seen_in n later in (w.0, (w.1.0, omega (arith, w.1.1), on w.1.0 n w.1.1 w.1.2))
      ];
      seen_all = λ n q. elim q [
        | inl e ↦ subst (λ (k : Node). Among (all_nodes old.maxes r) k) e
            (among_nodes old.maxes r n0 came.3.ascend (step_places old states m0 n0 states_ok places0 came.1 came.3) good0.0 good0.1)
        | inr later ↦ gn.seen_all n later
      ];
    }

-- before the first round
pub going_start : (old : StoreState) (oss : List (List ℕ)) (states : List ℕ) (set start : ℕ) (bad : List ℕ → List ℕ → List Out) → (set < length oss) → AreLabelsBelow (length states) (get_or oss set []) → IsSet old start → Going old oss old oss states set start bad ((set, start) ∷ []) (((set, start) ∷ []) ∷ []) 0
going_start old oss states set start bad k p q =
    let one : ArePairs old oss (length states) ((set, start) ∷ []) = record { each = (record { known = k; places = p; packets = q }, tt); once = (λ e. e, tt) } in
    let ls : List (List (ℕ × ℕ)) = ((set, start) ∷ []) ∷ [] in
    record {
      grows = grows_same old;
      sets = sets_refl oss;
      count = refl;
      exact = exact_start (IsStart old (get_or oss set []) start) (IsStep old states) (IsGood old) (InLevel old oss ls)
          (λ n g w. elim w.2 [
            | inl here ↦ record { set_is = sym w.1 ∙ ap (λ i. get_or oss i []) (sym here.0); packet = g; has = here.1 }
            | inr later ↦ absurd later
          ])
          (λ n s. (set, sym s.set_is, inl (refl, s.has)));
      start_is = refl;
      pairs = λ i l. let z : i ≡ 0 = omega (arith, l) in subst (λ j. ArePairs old oss (length states) (get_or ls j [])) (sym z) one;
      shape = λ i a l. absurd (omega (arith, a, l));
      goal = λ i n l. absurd (omega (arith, l));
      visited_pairs = one;
      visited_in = λ n g w. (0, omega arith, w);
      in_visited = λ j n g l v. let z : j ≡ 0 = omega (arith, l) in subst (λ j. InLevel old oss ls j n) z v;
      seen = [];
      seen_count = refl;
      seen_no_dup = tt;
      seen_in = λ n m. absurd m;
      seen_all = λ n m. absurd m;
    }
