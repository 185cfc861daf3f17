-- The parts of one out's packets, from the lowest value on.
use Rattle.std.proofs.Common.{◌≡◌, ℕ, ◌<◌, ◌≤◌, ◌+◌, ◌-◌, cond, inl, inr, sym, ◌∙◌, ap, subst, arith, List, [], ◌∷◌, ◌++◌, length, get_or}
use Rattle.std.proofs.lemmas.Bool.Decides.{leb_tells, eqb_tells}
use Rattle.nk_store.specs.declared.node.Out.{Out}
use Rattle.nk_store.specs.Nodes.{child_at, Each, Rises}
use Rattle.nk_store.specs.StoreState.{StoreState, IsWhole, IsChild, HasLeaves, look, root_field}
use Rattle.nk_store.proofs.Looks.{each_child}
use Rattle.nk_apply.specs.Predicates.{IsPass, IsPredicate}
use Rattle.nk_apply.proofs.Built.{Ends, ends_push, ends_rise, each_push, child_old, child_new}
use Rattle.nk_apply.proofs.PartSums.{rising_some}
use Rattle.nk_sets.specs.PacketSets.{has_some_out}
use Rattle.nk_sets.specs.declared.groups.Stretch.{Stretch}
use Rattle.nk_sets.specs.Outs.{piece, IsStretch, AreStretches, HasAt, IsNone, HaveOneOut, with_gap, with_stretch, HaveRun, IsRunOf}
use Rattle.nk_sets.proofs.Kept.{Has}

-- at each value below a bound the parts have the packets of those at these places, which end below it
pub record IsLaid (st : StoreState) (f : ℕ) (ss : List Stretch) (from to bound : ℕ) (parts : List (ℕ × ℕ)) : Type 0 where
  pub ends : Ends bound 0 parts
  pub children : Each (IsChild st f) parts
  pub sets : Each (IsPredicate st) parts
  pub alike : HaveOneOut ss from to
  pub below : (k : ℕ) → from ≤ k → k < to → (piece ss k).end < bound
  pub goes : (v : ℕ) (x : List ℕ) → IsWhole x → v < bound → Has st (child_at 0 parts v) x → HasAt st ss from to v x (piece ss from).out
  pub comes : (v : ℕ) (x : List ℕ) (o : Out) → IsWhole x → v < bound → HasAt st ss from to v x o → Has st (child_at 0 parts v) x

-- the set of no packets has none
none_has : (st : StoreState) (none : ℕ) (x : List ℕ) → IsWhole x → IsNone st none → Has st none x → ⊥
none_has st none x w n h = let e = sym (ap has_some_out (n.leaves.leaf x w)) ∙ h in absurd cc

-- one part more of no packets, up to the value e
laid_empty : (st : StoreState) (f : ℕ) (ss : List Stretch) (from to bound e none : ℕ) (parts : List (ℕ × ℕ)) → IsLaid st f ss from to bound parts → IsNone st none → f < 18 → bound ≤ e →
    IsLaid st f ss from to (e + 1) (parts ++ (e, none) ∷ [])
laid_empty st f ss from to bound e none parts h n field l = record {
  ends = ends_push bound 0 e none parts h.ends l;
  children = each_push (IsChild st f) e none parts h.children (record { id = n.leaves.id; later = omega (arith, field, n.later) });
  sets = each_push (IsPredicate st) e none parts h.sets (λ pk w. subst IsPass (sym (n.leaves.leaf pk w)) tt);
  alike = h.alike;
  below = λ k a b. omega (arith, h.below k a b, l);
  goes = λ v x w m has. elim (leb_tells bound v) [
    | inl following ↦ absurd (none_has st none x w n (subst (λ c. Has st c x) (child_new bound 0 0 v e none parts h.ends following.1) has))
    | inr before ↦ h.goes v x w before.1 (subst (λ c. Has st c x) (child_old bound 0 0 v parts ((e, none) ∷ []) h.ends (omega arith) before.1) has)
  ];
  comes = λ v x o w m at. elim (leb_tells bound v) [
    | inl following ↦ absurd (omega (arith, following.1, at.5, h.below at.0 at.1 at.2))
    | inr before ↦ subst (λ c. Has st c x) (sym (child_old bound 0 0 v parts ((e, none) ∷ []) h.ends (omega arith) before.1)) (h.comes v x o w before.1 at)
  ];
}

-- up to a value that isn't served yet
laid_gap : (st : StoreState) (f : ℕ) (ss : List Stretch) (from to bound low none : ℕ) (parts : List (ℕ × ℕ)) → IsLaid st f ss from to bound parts → IsNone st none → f < 18 → bound ≤ low →
    IsLaid st f ss from to low (with_gap bound none low parts)
laid_gap st f ss from to bound low none parts h n field l = elim (leb_tells low bound) [
  | inl within ↦
      let e : bound ≡ low = omega (arith, within.1, l) in
      subst (λ b. IsLaid st f ss from to low (cond b parts (parts ++ (low - 1, none) ∷ []))) (sym within.0) (subst (λ n. IsLaid st f ss from to n parts) e h)
  | inr past ↦
      let e : low - 1 + 1 ≡ low = omega (arith, past.1) in
      subst (λ b. IsLaid st f ss from to low (cond b parts (parts ++ (low - 1, none) ∷ []))) (sym past.0)
      (subst (λ n. IsLaid st f ss from to n (parts ++ (low - 1, none) ∷ [])) e (laid_empty st f ss from to bound (low - 1) none parts h n field (omega (arith, past.1))))
]

-- one more at the value where it begins
laid_part : (st : StoreState) (f : ℕ) (ss : List Stretch) (from to : ℕ) (parts : List (ℕ × ℕ)) → IsLaid st f ss from to (piece ss to).from parts → IsStretch st f (piece ss to) → from ≤ to → (piece ss to).out ≡ (piece ss from).out →
    IsLaid st f ss from (to + 1) ((piece ss to).end + 1) (parts ++ ((piece ss to).end, (piece ss to).packets) ∷ [])
laid_part st f ss from to parts h k le is =
    let s : Stretch = piece ss to in
    let more : List (ℕ × ℕ) = (s.end, s.packets) ∷ [] in
    record {
      ends = ends_push s.from 0 s.end s.packets parts h.ends k.order;
      children = each_push (IsChild st f) s.end s.packets parts h.children k.child;
      sets = each_push (IsPredicate st) s.end s.packets parts h.sets k.predicate;
      alike = λ i a b. elim (eqb_tells i to) [
        | inl same ↦ ap (λ j. (piece ss j).out) same.1 ∙ is
        | inr other ↦ h.alike i a (omega (arith, b, other.1))
      ];
      below = λ i a b. elim (eqb_tells i to) [
        | inl same ↦ let e : (piece ss i).end ≡ s.end = ap (λ j. (piece ss j).end) same.1 in omega (arith, e)
        | inr other ↦ omega (arith, h.below i a (omega (arith, b, other.1)), k.order)
      ];
      goes = λ v x w l has. elim (leb_tells s.from v) [
        | inl following ↦ (to, le, omega arith, is, following.1, omega (arith, l), subst (λ c. Has st c x) (child_new s.from 0 0 v s.end s.packets parts h.ends following.1) has)
        | inr before ↦
            let z = h.goes v x w before.1 (subst (λ c. Has st c x) (child_old s.from 0 0 v parts more h.ends (omega arith) before.1) has) in
            (z.0, z.1, omega (arith, z.2), z.3, z.4, z.5, z.6)
      ];
      comes = λ v x o w l at. elim (leb_tells s.from v) [
        | inl following ↦
            subst (λ c. Has st c x) (sym (child_new s.from 0 0 v s.end s.packets parts h.ends following.1)) (elim (eqb_tells at.0 to) [
              | inl same ↦ subst (λ j. Has st (piece ss j).packets x) same.1 at.6
              | inr other ↦ absurd (omega (arith, following.1, at.5, h.below at.0 at.1 (omega (arith, at.2, other.1))))
            ])
        | inr before ↦
            subst (λ c. Has st c x) (sym (child_old s.from 0 0 v parts more h.ends (omega arith) before.1)) (elim (eqb_tells at.0 to) [
              | inl same ↦ let e : (piece ss at.0).from ≡ s.from = ap (λ j. (piece ss j).from) same.1 in absurd (omega (arith, before.1, at.4, e))
              | inr other ↦ h.comes v x o w before.1 (at.0, at.1, omega (arith, at.2, other.1), at.3, at.4, at.5, at.6)
            ])
      ];
    }

-- one more after the others
laid_push : (st : StoreState) (f : ℕ) (ss : List Stretch) (from to bound none : ℕ) (parts : List (ℕ × ℕ)) → IsLaid st f ss from to bound parts → IsNone st none → f < 18 → IsStretch st f (piece ss to) → from ≤ to → (piece ss to).out ≡ (piece ss from).out → bound ≤ (piece ss to).from →
    IsLaid st f ss from (to + 1) ((piece ss to).end + 1) (with_stretch bound none (piece ss to) parts)
laid_push st f ss from to bound none parts h n field k le is l =
    laid_part st f ss from to (with_gap bound none (piece ss to).from parts) (laid_gap st f ss from to bound (piece ss to).from none parts h n field l) k le is

-- one more after the others, by what stands there
pub laid_step : (st : StoreState) (f : ℕ) (ss : List Stretch) (from k bound none e : ℕ) (parts new : List (ℕ × ℕ)) → IsLaid st f ss from k bound parts → IsNone st none → f < 18 → AreStretches st f ss → k < length ss → from ≤ k → (piece ss k).out ≡ (piece ss from).out → bound ≤ (piece ss k).from →
    new ≡ with_stretch bound none (piece ss k) parts → e ≡ (piece ss k).end → IsLaid st f ss from (k + 1) (e + 1) new
laid_step st f ss from k bound none e parts new h n field are l le is low at last =
    let laid = laid_push st f ss from k bound none parts h n field (are k l) le is low in
    subst (λ b. IsLaid st f ss from (k + 1) (b + 1) new) (sym last) (subst (IsLaid st f ss from (k + 1) ((piece ss k).end + 1)) (sym at) laid)

-- parts up to the highest value
pub have_run : (st : StoreState) (f : ℕ) (ss : List Stretch) (from to high : ℕ) (parts : List (ℕ × ℕ)) → IsLaid st f ss from to (high + 1) parts → f < 18 → high ≡ get_or st.maxes f 0 → from < to → to ≤ length ss → HaveRun st f ss from to parts
have_run st f ss from to high parts h field is later within = record {
  later = later;
  within = within;
  alike = h.alike;
  parts_ok = record { field = field; rise = subst (λ m. Rises m 0 parts) is (ends_rise high 0 parts h.ends); children = h.children };
  sets = h.sets;
  goes = λ v x w l has. h.goes v x w (omega (arith, l, is)) has;
  comes = λ v x o w l at. h.comes v x o w (omega (arith, l, is)) at;
}

-- parts with one more of no packets up to the highest value
pub have_run_empty : (st : StoreState) (f : ℕ) (ss : List Stretch) (from to bound high none : ℕ) (parts : List (ℕ × ℕ)) → IsLaid st f ss from to bound parts → IsNone st none → f < 18 → bound ≤ high → high ≡ get_or st.maxes f 0 → from < to → to ≤ length ss →
    HaveRun st f ss from to (parts ++ (high, none) ∷ [])
have_run_empty st f ss from to bound high none parts h n field l is later within =
    have_run st f ss from to high (parts ++ (high, none) ∷ []) (laid_empty st f ss from to bound high none parts h n field l) field is later within

-- the set of the parts has the packets
pub run_of : (st new : StoreState) (f : ℕ) (ss : List Stretch) (from to p : ℕ) (parts : List (ℕ × ℕ)) → HaveRun st f ss from to parts → HasLeaves new p (λ pk. look st (child_at 0 parts (get_or pk f 0)) pk) → f ≤ root_field new p → IsRunOf st f ss from to new p
run_of st new f ss from to p parts h leaves first = record {
  later = h.later;
  within = h.within;
  alike = h.alike;
  packets = record {
    id = leaves.id;
    predicate = λ pk w. subst IsPass (sym (leaves.leaf pk w)) (each_child (IsPredicate st) 0 parts (get_or pk f 0) (rising_some (get_or st.maxes f 0) parts h.parts_ok.rise) h.sets pk w);
  };
  first = first;
  goes = λ x w has. h.goes (get_or x f 0) x w.0 (w.1 f) (sym (ap has_some_out (leaves.leaf x w.0)) ∙ has);
  comes = λ x o w at. ap has_some_out (leaves.leaf x w.0) ∙ h.comes (get_or x f 0) x o w.0 (w.1 f) at;
}
