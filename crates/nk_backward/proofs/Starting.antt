-- What transitions lead to a violation is what starts a history that breaks.
use Rattle.std.proofs.Common.{◌≡◌, ℕ, zero, suc, ◌<◌, ◌≤◌, ◌&&◌, inl, refl, sym, ◌∙◌, ap, subst, arith, true, false, Some, None, List, [], ◌∷◌, length, get_or, eqb, Contains}
use Rattle.std.specs.Map.{lookup}
use Rattle.nk_field.specs.Act.{applied}
use Rattle.nk_field.specs.Order.{Found}
use Rattle.nk_store.specs.declared.node.Out.{Out}
use Rattle.nk_store.specs.StoreState.{StoreState, IsId, IsStorePacket, HasLeaves, look, Grows}
use Rattle.nk_store.proofs.Stores.{grows_on}
use Rattle.nk_apply.specs.Leaves.{guarded}
use Rattle.nk_apply.specs.Predicates.{IsPredicate}
use Rattle.nk_sets.specs.PacketSets.{has_some_out, is_in, IsSet}
use Rattle.nk_sets.proofs.SetLemmas.{guarded_out, both_pass, pass_both, set_grows}
use Rattle.nk_sets.proofs.Kept.{Has, packet_on, has_on, has_back}
use Rattle.nk_determ.specs.Sets.{SetsGrow, HasEachSetOnce}
use Rattle.nk_determ.specs.Pairs.{Node, Under, Once, EachPair, AreLabelsBelow, IsPair, ArePairs, IsStep, IsGood}
use Rattle.nk_determ.specs.Levels.{At, AreLevels}
use Rattle.nk_determ.specs.Counterexamples.{Walks}
use Rattle.nk_witness.specs.Finds.{target_of}
use Rattle.nk_witness.specs.Backs.{AreViolationsSoFar}
use Rattle.nk_witness.specs.declared.found.Side.{Side}
use Rattle.nk_goal.proofs.Growing.{sets_known, sets_same, under_on, under_back, under_named, named_known, packets_of, pair_on, each_weaker}
use Rattle.nk_goal.proofs.Adding.{not_found, found_under, under_found}
use Rattle.nk_witness.proofs.PreimageSteps.{empty_not}
use Rattle.nk_backward.specs.declared.transitions.Transitions.{Transitions}
use Rattle.nk_backward.specs.Transitions.{explored_entries, OutsSuitStore, LeadsInto, AreTransitions}
use Rattle.nk_backward.specs.Closures.{IsClosure}
use Rattle.nk_backward.specs.CounterexampleStarts.{StartsCounterexample, AreCounterexampleStarts, of_side, IsSideViolation, LeadToSide, StandUnder}
use Rattle.nk_backward.proofs.Listing.{under_entries, each_entry}
use Rattle.nk_backward.proofs.Taking.{leads_on, leads_grow}
use Rattle.nk_backward.proofs.Sided.{side_has, has_side}

-- the packets under a set that has an entry
pub under_some : (st new : StoreState) (back : List (ℕ × ℕ)) (s x y r : ℕ) → Once back → lookup (eqb s) back ≡ Some y → IsSet st x → HasLeaves new r (λ pk. guarded (look st y pk) (look st x pk)) → (IsPredicate st x → IsPredicate new r) → StandUnder st back s x new r
under_some st new back s x y r once found set h pred = record {
  packets = record { id = h.id; predicate = pred set.predicate };
  goes = λ z w m.
      let two = both_pass (is_in st y z) (is_in st x z) (sym (key z w.0) ∙ m) in
      (two.1, found_under st back s y z found two.0);
  comes = λ z w hx u. key z w.0 ∙ pass_both (is_in st y z) (is_in st x z) (under_found st back s y z once found u) hx;
}
  where
    key : (z : List ℕ) → length z ≡ 18 → is_in new r z ≡ is_in st y z && is_in st x z
    key z w = ap has_some_out (h.leaf z w) ∙ guarded_out (look st y z) (look st x z)

-- no packets where it has none
pub under_none : (st new : StoreState) (back : List (ℕ × ℕ)) (s x r : ℕ) → lookup (eqb s) back ≡ None → HasLeaves new r (λ pk. []) → IsPredicate new r → StandUnder st back s x new r
under_none st new back s x r none h pred = record {
  packets = record { id = h.id; predicate = pred };
  goes = λ z w m. absurd (empty_not new r z h w.0 m);
  comes = λ z w hx u. absurd (not_found back s none (under_named st back s z u));
}

-- from violations by their closure
pub lead_to_side_of : (st s1 s2 new : StoreState) (ss : List (List ℕ)) (ts : List Transitions) (entries : List (ℕ × ℕ)) (bad : List ℕ → List ℕ → List Out) (side : Side) (s x : ℕ) (goal back : List (ℕ × ℕ)) (r : ℕ) → Grows st s1 → Grows s1 s2 → IsId st x → OutsSuitStore st ts →
    AreViolationsSoFar st ss (λ set pk. of_side side (bad set pk)) entries s1 goal → IsClosure s1 ts goal s2 back → StandUnder s2 back s x new r → LeadToSide st ss ts entries bad side s x new r
lead_to_side_of st s1 s2 new ss ts entries bad side s x goal back r g1 g2 id suits_store so close un = record {
  packets = un.packets;
  goes = λ y w m.
      let v = un.goes y (packet_on st s2 y g w) m in
      let l = close.sound s y (packet_on st s1 y g1 w) v.1 in
      (has_back st s2 x y g id v.0, leads_on st s1 ts (Under s1 goal) (IsSideViolation st ss entries bad side) g1 suits_store (λ i z p u. (0, so.from i z p u)) l.0 s y w l.1);
  comes = λ n y w hx l.
      let into : LeadsInto s1 ts (Under s1 goal) n s y = leads_grow st s1 ts (IsSideViolation st ss entries bad side) (Under s1 goal) g1 suits_store (λ i z p v. so.every i z p v.0 v.1) n s y w l in
      un.comes y (packet_on st s2 y g w) (has_on st s2 x y g id hx) (close.full n s y (packet_on st s1 y g1 w) into);
}
  where
    g : Grows st s2
    g = grows_on st s1 s2 g1 g2

-- a way along transitions is a walk
walk_of : (old st : StoreState) (oss ss : List (List ℕ)) (states : List ℕ) (entries : List (ℕ × ℕ)) (ts : List Transitions) (Goal : ℕ → List ℕ → Type 0) → AreTransitions old oss states entries st ss ts →
    (n i : ℕ) (z : List ℕ) → IsStorePacket old z → LeadsInto st ts Goal n i z → (u : List (List ℕ)) × (j : ℕ) × (x : List ℕ) × Walks (IsStep old states) (get_or ss i [], z) u (get_or ss j [], x) × IsStorePacket old x × Goal j x
walk_of old st oss ss states entries ts Goal k zero i z w l = ([], i, z, refl, w, l)
walk_of old st oss ss states entries ts Goal k (suc n) i z w l =
    let t : ℕ = l.0 in
    let y : List ℕ = l.1 in
    let step = k.goes i t z y w l.2 in
    let rest = walk_of old st oss ss states entries ts Goal k n t y step.2.packet l.3 in
    (y ∷ rest.0, rest.1, rest.2, (get_or ss t [], step.2, rest.3), rest.4, rest.5)

-- what is known of a graph that was made of all levels
pub record IsGraph (old : StoreState) (oss : List (List ℕ)) (states : List ℕ) (set start : ℕ) (ls : List (List (ℕ × ℕ))) (st : StoreState) (ss : List (List ℕ)) (entries : List (ℕ × ℕ)) (ts : List Transitions) : Type 0 where
  pub levels : AreLevels old old oss states set start (λ s pk. []) ls false
  pub is : entries ≡ explored_entries ls
  pub transitions : AreTransitions old oss states entries st ss ts
  pub grows : Grows old st
  pub sets : SetsGrow oss ss
  pub once : HasEachSetOnce ss

-- each entry of all levels is over the states
pub entries_pairs : (old : StoreState) (oss : List (List ℕ)) (states : List ℕ) (set start : ℕ) (bad : List ℕ → List ℕ → List Out) (ls : List (List (ℕ × ℕ))) → AreLevels old old oss states set start bad ls false → EachPair (IsPair old oss (length states)) (explored_entries ls)
entries_pairs old oss states set start bad ls k = each_entry (IsPair old oss (length states)) ls (λ j l. (k.pairs j l).each)

-- entries over some labels are entries over more, as store and sets grow
pub pairs_wider : (a b : StoreState) (ss nss : List (List ℕ)) (n m : ℕ) (ps : List (ℕ × ℕ)) → Grows a b → SetsGrow ss nss → n ≤ m → EachPair (IsPair a ss n) ps → EachPair (IsPair b nss m) ps
pairs_wider a b ss nss n m ps g h le e =
    each_weaker (IsPair a ss n) (IsPair b nss m) ps
    (λ p q. let k = pair_on a b ss nss n p g h q in record { known = k.known; places = λ j d l. omega (arith, k.places j d l, le); packets = k.packets }) e

module _ (old : StoreState) (oss : List (List ℕ)) (states : List ℕ) (set start : ℕ) (ls : List (List (ℕ × ℕ))) (st : StoreState) (ss : List (List ℕ)) (entries : List (ℕ × ℕ)) (ts : List Transitions) (gr : IsGraph old oss states set start ls st ss entries ts) where
  first_pair : IsPair old oss (length states) (set, start)
  first_pair = (subst (ArePairs old oss (length states)) gr.levels.start_is (gr.levels.pairs 0 gr.levels.some)).each.0

  each_pair : EachPair (IsPair old oss (length states)) entries
  each_pair = subst (EachPair (IsPair old oss (length states))) (sym gr.is) (entries_pairs old oss states set start (λ s pk. []) ls gr.levels)

  first_members : get_or ss set [] ≡ get_or oss set []
  first_members = sets_same oss ss set gr.sets first_pair.known

  places_at : (j : ℕ) (x : List ℕ) → Under old entries j x → AreLabelsBelow (length states) (get_or ss j [])
  places_at j x u =
      let k = named_known old oss (length states) entries j each_pair (under_named old entries j x u) in
      subst (AreLabelsBelow (length states)) (sym (sets_same oss ss j gr.sets k.0)) k.1

  old_under : (j : ℕ) (x : List ℕ) → Under st entries j x → Under old entries j x
  old_under j x u = under_back old st entries j x gr.grows (packets_of old oss (length states) entries each_pair) u

  now_under : (j : ℕ) (x : List ℕ) → Under old entries j x → Under st entries j x
  now_under j x u = under_on old st entries j x gr.grows (packets_of old oss (length states) entries each_pair) u

  -- what is reached stands under the number of its set
  reached : (k i : ℕ) (s y : List ℕ) → At old states (get_or oss set []) start k (s, y) → i < length ss → get_or ss i [] ≡ s → Under old entries i y
  reached k i s y at l is =
      let c = gr.levels.complete refl k (s, y) at in
      let j : ℕ = c.3.0 in
      let here : Under old (explored_entries ls) j y = under_entries old ls c.0 j y c.2 c.3.2 in
      let u : Under old entries j y = subst (λ (es : List (ℕ × ℕ)). Under old es j y) (sym gr.is) here in
      let known : j < length oss = gr.transitions.known j (under_named old entries j y u) in
      let same : j ≡ i = gr.once j i (sets_known oss ss j gr.sets known) l (sets_same oss ss j gr.sets known ∙ c.3.1 ∙ sym is) in
      subst (λ n. Under old entries n y) same u

  -- a walk from what is reached is a way along transitions
  lead_of : (Goal : ℕ → List ℕ → Type 0) (u : List (List ℕ)) (m end : Node) (i k : ℕ) → get_or ss i [] ≡ m.0 → Under old entries i m.1 → IsGood old m → At old states (get_or oss set []) start k m → Walks (IsStep old states) m u end →
      ((j : ℕ) → get_or ss j [] ≡ end.0 → Under old entries j end.1 → Goal j end.1) → (n : ℕ) × LeadsInto st ts Goal n i m.1
  lead_of Goal [] m end i k is un good at w f =
      let goal : Goal i end.1 = f i (is ∙ ap (λ (n : Node). n.0) w) (subst (λ (n : Node). Under old entries i n.1) w un) in
      (0, subst (λ (n : Node). Goal i n.1) (sym w) goal)
  lead_of Goal (y ∷ u) m end i k is un good at w f =
      let s : List ℕ = w.0 in
      let step : IsStep old states m (s, y) = w.1 in
      let v = gr.transitions.comes i m.1 (s, y) good un (subst (λ (l : List ℕ). IsStep old states (l, m.1) (s, y)) (sym is) step) in
      let next : At old states (get_or oss set []) start (suc k) (s, y) = (m, at, step) in
      let there : Under old entries v.0 y = reached (suc k) v.0 s y next v.2 v.3 in
      let rest = lead_of Goal u (s, y) end v.0 (suc k) v.3 there step.packet next w.2 f in
      (suc rest.0, (v.0, y, v.1, rest.1))

  -- the packets from where transitions lead to a violation of a side are those that start such a history
  pub side_starts : (bad now : List ℕ → List ℕ → List Out) (side : Side) (new : StoreState) (r : ℕ) → ((n : Node) → AreLabelsBelow (length states) n.0 → now n.0 n.1 ≡ bad n.0 n.1) →
      LeadToSide st ss ts entries now side set start new r → AreCounterexampleStarts old states (get_or oss set []) start bad (target_of side) new r
  side_starts bad now side new r same lead = record {
    packets = lead.packets;
    exactly = λ y w. (sound y w, full y w);
  }
    where
      first : List ℕ
      first = get_or oss set []

      sound : (y : List ℕ) → IsStorePacket old y → is_in new r y ≡ true → StartsCounterexample old states first start bad (target_of side) y
      sound y w m =
          let l = lead.goes y (packet_on old st y gr.grows w) m in
          let k = walk_of old st oss ss states entries ts (IsSideViolation st ss entries now side) gr.transitions l.1.0 set y w l.1.1 in
          let j : ℕ = k.1 in
          let x : List ℕ = k.2 in
          let s : List ℕ = get_or ss j [] in
          let v = side_has side (now s x) k.5.1 in
          let o : Out = v.0 in
          let is : now s x ≡ bad s x = same (s, x) (places_at j x (old_under j x k.5.0)) in
          let c : Contains (bad s x) (record { act = o.act; target = target_of side }) = subst (λ (os : List Out). Contains os (record { act = o.act; target = target_of side })) is (subst (λ (t : ℕ). Contains (now s x) (record { act = o.act; target = t })) v.2 v.1) in
          let f : Found = record { start = y; records = k.0; last = applied o.act x } in (
            f,
            refl,
            record {
              starts = record { set_is = refl; packet = w; has = has_back old st start y gr.grows first_pair.packets.id l.0 };
              end = (s, x);
              walk = subst (λ (q : List ℕ). Walks (IsStep old states) (q, y) k.0 (s, x)) first_members k.3;
              makes = (o.act, c, refl);
            },
          )

      full : (y : List ℕ) → IsStorePacket old y → StartsCounterexample old states first start bad (target_of side) y → is_in new r y ≡ true
      full y w b =
          let f : Found = b.0 in
          let k = b.2 in
          let has : Has old start f.start = k.starts.has in
          let under : Under old entries set f.start = subst (λ (es : List (ℕ × ℕ)). Under old es set f.start) (sym gr.is)
          (under_entries old ls 0 set f.start gr.levels.some (subst (λ (l : List (ℕ × ℕ)). Under old l set f.start) (sym gr.levels.start_is) (inl (refl, has)))) in
          let end : Node = k.end in
          let goal : (j : ℕ) → get_or ss j [] ≡ end.0 → Under old entries j end.1 → IsSideViolation st ss entries now side j end.1 = λ j e u.
          let is : now (get_or ss j []) end.1 ≡ bad (get_or ss j []) end.1 = same (get_or ss j [], end.1) (places_at j end.1 u) in
          let c : Contains (bad (get_or ss j []) end.1) (record { act = k.makes.0; target = target_of side }) = subst (λ (l : List ℕ). Contains (bad l end.1) (record { act = k.makes.0; target = target_of side })) (sym e) k.makes.1 in
          let d : Contains (now (get_or ss j []) end.1) (record { act = k.makes.0; target = target_of side }) = subst (λ (os : List Out). Contains os (record { act = k.makes.0; target = target_of side })) (sym is) c in
          (now_under j end.1 u, has_side side (now (get_or ss j []) end.1) (record { act = k.makes.0; target = target_of side }) d refl) in
          let l = lead_of (IsSideViolation st ss entries now side) f.records (first, f.start) end set 0 first_members under k.starts.packet k.starts k.walk goal in
          let hx : Has st start f.start = has_on old st start f.start gr.grows first_pair.packets.id has in
          let in_r : is_in new r f.start ≡ true = lead.comes l.0 f.start (packet_on old st f.start gr.grows k.starts.packet) hx l.1 in
          subst (λ (z : List ℕ). is_in new r z ≡ true) b.1 in_r

-- sets of starts stay so as the store grows
pub starts_on : (old st new : StoreState) (states set : List ℕ) (start : ℕ) (bad : List ℕ → List ℕ → List Out) (target r : ℕ) → Grows old st → Grows st new → AreCounterexampleStarts old states set start bad target st r → AreCounterexampleStarts old states set start bad target new r
starts_on old st new states set start bad target r g0 g k = record {
  packets = set_grows st new r g k.packets;
  exactly = λ y w. (λ m. (k.exactly y w).0 (has_back st new r y g k.packets.id m), λ b. has_on st new r y g k.packets.id ((k.exactly y w).1 b));
}
