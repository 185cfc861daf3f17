-- Packets that come under sets, in turn, and whether any of them is new.
use Rattle.std.proofs.Common.{◌≡◌, ℕ, ◌⊎◌, ◌&&◌, Bool, true, false, inl, inr, sym, subst, arith, Some, List, length, eqb}
use Rattle.std.specs.Map.{lookup}
use Rattle.std.proofs.lemmas.Bool.Decides.{leb_tells}
use Rattle.nk_store.specs.StoreState.{StoreState, IsStorePacket, IsWhole, HasLeaves, Grows}
use Rattle.nk_apply.specs.Unions.{unions}
use Rattle.nk_sets.specs.PacketSets.{is_in}
use Rattle.nk_sets.proofs.SetLemmas.{both_pass}
use Rattle.nk_sets.proofs.Kept.{Has, packet_on, has_back}
use Rattle.nk_determ.specs.Pairs.{Under, Once}
use Rattle.nk_goal.specs.Entries.{HaveSets, IsAdded}
use Rattle.nk_goal.proofs.Growing.{under_on, under_back}
use Rattle.nk_goal.proofs.Adding.{found_set, found_under, under_found}
use Rattle.nk_backward.specs.Predecessors.{diagram_at, IsRunOfSet}
use Rattle.nk_backward.specs.Sweeps.{IsWidened}
use Rattle.nk_backward.proofs.Gaining.{sets_on}
use Rattle.nk_backward.proofs.Putting.{StandsBetween, between_under, under_between, run_between, between_run}

-- all that came stood there already
pub widened_none : (a st : StoreState) (Comes : ℕ → List ℕ → Type 0) (old : List (ℕ × ℕ)) → Grows a st → HaveSets a old → Once old → ((i : ℕ) (z : List ℕ) → IsStorePacket a z → Comes i z → Under a old i z) → IsWidened a Comes old st old true
widened_none a st Comes old g sets once known = record {
  from = λ i z w u. inl (under_back a st old i z g sets u);
  kept = λ i z w u. under_on a st old i z g sets u;
  every = λ i z w c. under_on a st old i z g sets (known i z w c);
  same = λ e i z w u. under_back a st old i z g sets u;
  packets = sets_on a st old g sets;
  once = once;
}

-- what came, and then came more
pub widened_then : (a st new : StoreState) (One Two Both : ℕ → List ℕ → Type 0) (old mid all : List (ℕ × ℕ)) (closed none : Bool) → Grows a st → IsWidened a One old st mid closed → IsWidened st Two mid new all none →
    ((i : ℕ) (z : List ℕ) → IsStorePacket a z → Both i z → One i z ⊎ Two i z) → ((i : ℕ) (z : List ℕ) → IsStorePacket a z → One i z → Both i z) → ((i : ℕ) (z : List ℕ) → IsStorePacket a z → Two i z → Both i z) → IsWidened a Both old new all (closed && none)
widened_then a st new One Two Both old mid all closed none g first second parts left right = record {
  from = λ i z w u. elim (second.from i z (on z w) u) [
    | inl was ↦ elim (first.from i z w was) [ inl x ↦ inl x | inr c ↦ inr (left i z w c) ]
    | inr c ↦ inr (right i z w c)
  ];
  kept = λ i z w u. second.kept i z (on z w) (first.kept i z w u);
  every = λ i z w c. elim (parts i z w c) [
    | inl one ↦ second.kept i z (on z w) (first.every i z w one)
    | inr two ↦ second.every i z (on z w) two
  ];
  same = λ e i z w u. let b = both_pass closed none e in first.same b.0 i z w (second.same b.1 i z (on z w) u);
  packets = second.packets;
  once = second.once;
}
  where
    on : (z : List ℕ) → IsStorePacket a z → IsStorePacket st z
    on z w = packet_on a st z g w

-- the same of a store before, in which the entries stood already
pub widened_before : (a st new : StoreState) (One Two : ℕ → List ℕ → Type 0) (old all : List (ℕ × ℕ)) (none : Bool) → Grows a st → HaveSets a old → Once old → IsWidened st One old new all none →
    ((i : ℕ) (z : List ℕ) → IsStorePacket a z → One i z → Two i z) → ((i : ℕ) (z : List ℕ) → IsStorePacket a z → Two i z → One i z) → IsWidened a Two old new all none
widened_before a st new One Two old all none g sets once m on back =
    widened_then a st new (λ i z. ⊥) One Two old old all true none g (widened_none a st (λ i z. ⊥) old g sets once (λ i z w c. absurd c)) m (λ i z w c. inr (back i z w c)) (λ i z w c. absurd c) on

-- packets that were put under a set, of which none is new if its diagram is the same as before
pub widened_put : (st new : StoreState) (s y : ℕ) (back all : List (ℕ × ℕ)) (none : Bool) → Grows st new → HaveSets st back → IsAdded st back s y new all →
    (none ≡ true → (x : ℕ) × (lookup (eqb s) back ≡ Some x) × (lookup (eqb s) all ≡ Some x)) → IsWidened st (λ i z. (i ≡ s) × (is_in st y z ≡ true)) back new all none
widened_put st new s y back all none g sets add alike = record {
  from = add.either;
  kept = add.old;
  every = λ i z w c. subst (λ j. Under new all j z) (sym c.0) (add.more z w c.1);
  same = λ e i z w u. elim (add.either i z w u) [
    | inl was ↦ was
    | inr here ↦
        let x = alike e in
        let has : Has new x.0 z = under_found new all s x.0 z add.once x.2 (subst (λ j. Under new all j z) here.0 u) in
        subst (λ j. Under st back j z) (sym here.0) (found_under st back s x.0 z x.1 (has_back st new x.0 z g (found_set st back s x.0 x.1 sets).id has))
  ];
  packets = add.packets;
  once = add.once;
}

-- no packets come under a set
pub widened_empty : (st : StoreState) (s y : ℕ) (back : List (ℕ × ℕ)) → Grows st st → HaveSets st back → Once back → ((pk : List ℕ) → IsWhole pk → is_in st y pk ≡ false) → IsWidened st (λ i z. (i ≡ s) × (is_in st y z ≡ true)) back st back true
widened_empty st s y back g sets once empty =
    widened_none st st (λ i z. (i ≡ s) × (is_in st y z ≡ true)) back g sets once
    (λ i z w c. let has : is_in st y z ≡ true = c.1 in let no : is_in st y z ≡ false = empty z w.0 in absurd cc)

-- one run more
pub widened_run : (a st mid new : StoreState) (ds : List (ℕ × ℕ)) (from to s y : ℕ) (run : List ℕ) (old back all : List (ℕ × ℕ)) (closed none : Bool) → Grows a st → Grows st mid → HaveSets a ds → s ≡ (diagram_at ds from).0 → IsRunOfSet ds from to run → HasLeaves mid y (λ pk. unions st run 0 (length run) pk) →
    IsWidened a (StandsBetween a ds 0 from) old st back closed → IsWidened mid (λ i z. (i ≡ s) × (is_in mid y z ≡ true)) back new all none → IsWidened a (StandsBetween a ds 0 to) old new all (closed && none)
widened_run a st mid new ds from to s y run old back all closed none g1 g2 sets set r h was one =
    widened_then a st new (StandsBetween a ds 0 from) (StandsBetween a ds from to) (StandsBetween a ds 0 to) old back all closed none g1 was
    (widened_before st mid new (λ i z. (i ≡ s) × (is_in mid y z ≡ true)) (StandsBetween a ds from to) back all none g2 was.packets was.once one
    (run_between a st mid ds from to s y run g1 g2 sets set r h) (between_run a st mid ds from to s y run g1 g2 sets set r h))
    (λ i z w c. elim (leb_tells from c.0) [
      | inl up ↦ inr (c.0, up.1, c.2, c.3, c.4)
      | inr down ↦ inl (c.0, omega arith, down.1, c.3, c.4)
    ])
    (λ i z w c. (c.0, omega arith, let m = c.2 in omega (arith, m, r.later), c.3, c.4))
    (λ i z w c. (c.0, omega arith, c.2, c.3, c.4))

-- all runs
pub widened_whole : (a new : StoreState) (ds : List (ℕ × ℕ)) (to : ℕ) (old all : List (ℕ × ℕ)) (none : Bool) → Grows a a → HaveSets a old → Once old → to ≡ length ds → IsWidened a (StandsBetween a ds 0 to) old new all none → IsWidened a (Under a ds) old new all none
widened_whole a new ds to old all none g sets once is m =
    widened_before a a new (StandsBetween a ds 0 to) (Under a ds) old all none g sets once m (λ i z w s. between_under a ds to i z is s) (λ i z w u. under_between a ds to i z is u)
