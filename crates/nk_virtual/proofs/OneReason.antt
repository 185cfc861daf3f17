-- A policy has at most one first reason that it has no physical policy, and none where it has one.
use Rattle.std.proofs.Common.{◌≡◌, ℕ, ◌<◌, ◌≤◌, ◌⊎◌, inl, inr, ⊎_elim, Bool, true, false, List, refl, sym, ap, subst, ◌∙◌, arith}
use Rattle.std.specs.Prelude.{Option, Some, None, map, All, AllPairs, Contains, slice_index_or}
use Rattle.std.proofs.lemmas.Bool.{cases_lt}
use Rattle.std.proofs.lemmas.Bool.Decides.{nat_tests}
use Rattle.std.proofs.lemmas.List.{get_or_default}
use Rattle.std.proofs.lemmas.List.Elements.{All-contains}
use Rattle.nk_field.specs.declared.history.History.{History}
use Rattle.nk_field.specs.declared.packet.Packet.{Packet}
use Rattle.nk_field.specs.Order.{Found}
use Rattle.nk_field.specs.Packet.{FieldTable}
use Rattle.nk_topo.specs.Topology.{Topology, starts_below}
use Rattle.nk_policy.specs.Policy.{Policy, size_of}
use Rattle.nk_names.specs.ProgramValue.{VirtualLink, HaveOneSource}
use Rattle.nk_static.specs.StaticFaults.{static_fault_of}
use Rattle.nk_static.specs.declared.faults.StaticFault.{StaticFault}
use Rattle.nk_virtual.specs.Answers.{IsPhysicalOf}
use Rattle.nk_virtual.specs.Carriage.{IsOnTarget, IsFirstOffTarget, IsFirstNotCarried, history_from}
use Rattle.nk_virtual.specs.Physical.{physical}
use Rattle.nk_virtual.specs.Reasons.{BeginsBefore, IsUsable, IsFlawOf, IsFirstFlaw, IsFlawOver, IsLaterFlaw, IsReasonAgainst}
use Rattle.nk_virtual.specs.declared.refusal.VirtualRefusal.{VirtualRefusal}
use Rattle.nk_virtual.specs.declared.refusal.VirtualRefusal.TheVariants.{NoPolicy, NoTag, Static, OffTarget, NotCarried, TooLarge}
use Rattle.nk_virtual.proofs.OneCarriage.{one_off_target, one_not_carried, none_off_target, carried_not_off, carried_has_all}

static_fault_is : (a b : StaticFault) → Some a ≡ Some b → a ≡ b
static_fault_is a b e = cc

pub none_some : {A : Type 0} (a : A) → None ≡ Some a → ⊥
none_some a e = cc

pub number_is : (a b : ℕ) → Some a ≡ Some b → a ≡ b
number_is a b e = cc

module _ (fields : FieldTable) (topo : Topology) (tag : ℕ) (k : VirtualLink) where
  -- the three kinds of flaw
  abbrev Shows : VirtualRefusal → Type 0
  Shows r = (static_kind : StaticFault) × (r ≡ Static static_kind) × (static_fault_of tag topo.links k.fabric ≡ Some static_kind)

  abbrev IsOff : VirtualRefusal → Type 0
  IsOff r =
      (start : Packet) × (history : History)
      × (r ≡ OffTarget k.ends.from_switch k.ends.from_port start history)
      × (static_fault_of tag topo.links k.fabric ≡ None)
      × IsFirstOffTarget fields k (history_from start history)

  abbrev IsLeft : VirtualRefusal → Type 0
  IsLeft r =
      (start : Packet)
      × (r ≡ NotCarried k.ends.from_switch k.ends.from_port start)
      × (static_fault_of tag topo.links k.fabric ≡ None)
      × IsOnTarget fields k
      × IsFirstNotCarried fields k start

  kind_of : (r : VirtualRefusal) → IsFlawOf fields topo tag k r → Shows r ⊎ (IsOff r ⊎ IsLeft r)
  kind_of (Static static_kind) h = inl (static_kind, refl, h)
  kind_of (OffTarget switch port start history) h =
      inr (inl (start, history, cc (h.1.0, h.1.1), h.0, h.2))
  kind_of (NotCarried switch port start) h =
      inr (inr (start, cc (h.1.0, h.1.1), h.0, h.2, h.3))
  kind_of r h = absurd h

  same_off : (r s : VirtualRefusal) → IsOff r → IsOff s → r ≡ s
  same_off r s h j =
      let e = one_off_target fields k (history_from h.0 h.1) (history_from j.0 j.1) h.4 j.4 in
      h.2
      ∙ ap (λ (f : Found). OffTarget k.ends.from_switch k.ends.from_port f.start record { records = f.records; last = f.last }) e
      ∙ sym j.2

  same_left : (r s : VirtualRefusal) → IsLeft r → IsLeft s → r ≡ s
  same_left r s h j =
      h.1 ∙ ap (NotCarried k.ends.from_switch k.ends.from_port) (one_not_carried fields k h.0 j.0 h.4 j.4) ∙ sym j.1

  -- a virtual link has one flaw
  pub one_flaw : (r s : VirtualRefusal) → IsFlawOf fields topo tag k r → IsFlawOf fields topo tag k s → r ≡ s
  one_flaw r s h j = by (kind_of r h) (kind_of s j)
    where
      by : Shows r ⊎ (IsOff r ⊎ IsLeft r) → Shows s ⊎ (IsOff s ⊎ IsLeft s) → r ≡ s
      by (inl a) (inl b) = a.1 ∙ ap Static (static_fault_is a.0 b.0 (sym a.2 ∙ b.2)) ∙ sym b.1
      by (inl a) (inr (inl b)) = absurd (none_some a.0 (sym b.3 ∙ a.2))
      by (inl a) (inr (inr b)) = absurd (none_some a.0 (sym b.2 ∙ a.2))
      by (inr (inl a)) (inl b) = absurd (none_some b.0 (sym a.3 ∙ b.2))
      by (inr (inl a)) (inr (inl b)) = same_off r s a b
      by (inr (inl a)) (inr (inr b)) = absurd (none_off_target fields k b.3 (history_from a.0 a.1) a.4.0)
      by (inr (inr a)) (inl b) = absurd (none_some b.0 (sym a.2 ∙ b.2))
      by (inr (inr a)) (inr (inl b)) = absurd (none_off_target fields k a.3 (history_from b.0 b.1) b.4.0)
      by (inr (inr a)) (inr (inr b)) = same_left r s a b

  -- and none where it is usable
  pub no_flaw : (r : VirtualRefusal) → IsUsable fields topo tag k → IsFlawOf fields topo tag k r → ⊥
  no_flaw r u h = by (kind_of r h)
    where
      by : Shows r ⊎ (IsOff r ⊎ IsLeft r) → ⊥
      by (inl a) = none_some a.0 (sym u.plain ∙ a.2)
      by (inr (inl a)) = carried_not_off fields k u.carried (history_from a.0 a.1) a.4.0
      by (inr (inr a)) = carried_has_all fields k u.carried a.0 a.4.0

-- ---- which virtual link is the first

-- of two links one begins before the other, or they begin at one port
which_first : (j k : VirtualLink) → BeginsBefore j k ⊎ (BeginsBefore k j ⊎ HaveOneSource j k)
which_first j k =
    by (starts_below k.ends.from_switch k.ends.from_port j.ends) (starts_below j.ends.from_switch j.ends.from_port k.ends) refl refl
  where
    by : (a b : Bool) → starts_below k.ends.from_switch k.ends.from_port j.ends ≡ a
        → starts_below j.ends.from_switch j.ends.from_port k.ends ≡ b
        → BeginsBefore j k ⊎ (BeginsBefore k j ⊎ HaveOneSource j k)
    by true b e f = inl e
    by false true e f = inr (inl f)
    by false false e f = inr (inr (grind (arith, nat_tests, e, f), grind (arith, nat_tests, e, f)))

-- where no two begin at one port, two that do are one
one_source : (links : List VirtualLink) → AllPairs (λ k l. ¬ (HaveOneSource k l)) links
    → (j k : VirtualLink) → Contains links j → Contains links k → HaveOneSource j k → j ≡ k
one_source links apart j k c d same = by (cases_lt c.0 d.0) (cases_lt d.0 c.0)
  where
    -- at places of which the first is before the second
    never : (x y : VirtualLink) (a : Contains links x) (b : Contains links y) → a.0 < b.0 → HaveOneSource x y → ⊥
    never x y a b lt h =
        apart a.0 b.0 x lt b.1
        (subst (λ z. HaveOneSource z (slice_index_or links b.0 x)) (sym a.2)
        (subst (λ z. HaveOneSource x z) (sym (get_or_default links b.0 x y b.1 ∙ b.2)) h))

    by : (c.0 < d.0) ⊎ (d.0 ≤ c.0) → (d.0 < c.0) ⊎ (c.0 ≤ d.0) → j ≡ k
    by (inl lt) b = absurd (never j k c d lt same)
    by (inr a) (inl gt) = absurd (never k j d c gt (sym same.0, sym same.1))
    by (inr a) (inr b) =
        let place : c.0 ≡ d.0 = omega (arith, a, b) in
        sym c.2 ∙ ap (λ i. slice_index_or links i j) place ∙ get_or_default links d.0 j k d.1 ∙ d.2

module _ (fields : FieldTable) (topo : Topology) (tag : ℕ) (links : List VirtualLink)
    (apart : AllPairs (λ k l. ¬ (HaveOneSource k l)) links) where
  -- the first flaw of virtual links is one
  pub one_first : (r s : VirtualRefusal) → IsFirstFlaw fields topo tag links r → IsFirstFlaw fields topo tag links s → r ≡ s
  one_first r s h j =
      ⊎_elim
      (λ b. absurd (no_flaw fields topo tag h.link r (j.before h.link h.held b) h.flaw))
      (λ o.
      ⊎_elim
      (λ b. absurd (no_flaw fields topo tag j.link s (h.before j.link j.held b) j.flaw))
      (λ same.
      let e = one_source links apart h.link j.link h.held j.held same in
      one_flaw fields topo tag h.link r s h.flaw (subst (λ l. IsFlawOf fields topo tag l s) (sym e) j.flaw))
      o)
      (which_first h.link j.link)

-- where all virtual links are usable none has a flaw
pub no_first : (fields : FieldTable) (topo : Topology) (tag : ℕ) (links : List VirtualLink) (r : VirtualRefusal)
    → All (IsUsable fields topo tag) links → IsFirstFlaw fields topo tag links r → ⊥
no_first fields topo tag links r usable h =
    no_flaw fields topo tag h.link r (All-contains (IsUsable fields topo tag) links h.link usable h.held) h.flaw

-- ---- the policy's

module _ (links : List VirtualLink) (tag : ℕ) (p : Policy) where
  abbrev seen_over : Option StaticFault
  seen_over = static_fault_of tag (map (λ k. k.ends) links) p

  abbrev ShowsOver : VirtualRefusal → Type 0
  ShowsOver r = (static_kind : StaticFault) × (r ≡ Static static_kind) × (seen_over ≡ Some static_kind)

  abbrev IsLarge : VirtualRefusal → Type 0
  IsLarge r = (r ≡ TooLarge) × (seen_over ≡ None) × (1048576 < size_of (physical links p))

  kind_over : (r : VirtualRefusal) → IsFlawOver links tag p r → ShowsOver r ⊎ IsLarge r
  kind_over (Static static_kind) h = inl (static_kind, refl, h)
  kind_over TooLarge h = inr (refl, h.0, h.1)
  kind_over r h = absurd h

  pub one_over : (r s : VirtualRefusal) → IsFlawOver links tag p r → IsFlawOver links tag p s → r ≡ s
  one_over r s h j = by (kind_over r h) (kind_over s j)
    where
      by : ShowsOver r ⊎ IsLarge r → ShowsOver s ⊎ IsLarge s → r ≡ s
      by (inl a) (inl b) = a.1 ∙ ap Static (static_fault_is a.0 b.0 (sym a.2 ∙ b.2)) ∙ sym b.1
      by (inl a) (inr b) = absurd (none_some a.0 (sym b.1 ∙ a.2))
      by (inr a) (inl b) = absurd (none_some b.0 (sym a.1 ∙ b.2))
      by (inr a) (inr b) = a.0 ∙ sym b.0

  pub none_over : (r : VirtualRefusal) → seen_over ≡ None → size_of (physical links p) ≤ 1048576 → IsFlawOver links tag p r → ⊥
  none_over r plain small h = by (kind_over r h)
    where
      by : ShowsOver r ⊎ IsLarge r → ⊥
      by (inl a) = none_some a.0 (sym plain ∙ a.2)
      by (inr a) = let large = a.2 in omega (arith, small, large)

-- ---- in all

module _ (fields : FieldTable) (topo : Topology) (links : List VirtualLink) (p : Policy) where
  abbrev IsUntaggable : VirtualRefusal → Type 0
  IsUntaggable r = (r ≡ NoTag) × (fields.tag ≡ None)

  abbrev IsLater : VirtualRefusal → Type 0
  IsLater r = (tag : ℕ) × (fields.tag ≡ Some tag) × IsLaterFlaw fields topo links tag p r

  kind_against : (r : VirtualRefusal) → IsReasonAgainst fields topo links p r → IsUntaggable r ⊎ IsLater r
  kind_against NoPolicy h = absurd h
  kind_against NoTag h = inl (refl, h)
  kind_against r h = inr h

  module _ (apart : AllPairs (λ k l. ¬ (HaveOneSource k l)) links) where
    one_later : (tag : ℕ) (r s : VirtualRefusal) → IsLaterFlaw fields topo links tag p r → IsLaterFlaw fields topo links tag p s → r ≡ s
    one_later tag r s (inl a) (inl b) = one_first fields topo tag links apart r s a b
    one_later tag r s (inl a) (inr b) = absurd (no_first fields topo tag links r b.0 a)
    one_later tag r s (inr a) (inl b) = absurd (no_first fields topo tag links s a.0 b)
    one_later tag r s (inr a) (inr b) = one_over links tag p r s a.1 b.1

    -- no two reasons
    pub one_against : (r s : VirtualRefusal) → IsReasonAgainst fields topo links p r → IsReasonAgainst fields topo links p s → r ≡ s
    one_against r s h j = by (kind_against r h) (kind_against s j)
      where
        by : IsUntaggable r ⊎ IsLater r → IsUntaggable s ⊎ IsLater s → r ≡ s
        by (inl a) (inl b) = a.0 ∙ sym b.0
        by (inl a) (inr b) = absurd (none_some b.0 (sym a.1 ∙ b.1))
        by (inr a) (inl b) = absurd (none_some a.0 (sym b.1 ∙ a.1))
        by (inr a) (inr b) =
            let e = number_is b.0 a.0 (sym b.1 ∙ a.1) in
            one_later a.0 r s a.2 (subst (λ t. IsLaterFlaw fields topo links t p s) e b.2)

  -- and none where there is a physical policy
  pub none_against : (tag : ℕ) (q : Policy) (r : VirtualRefusal) → fields.tag ≡ Some tag → IsPhysicalOf fields topo links tag p q
      → IsReasonAgainst fields topo links p r → ⊥
  none_against tag q r declared is h = by (kind_against r h)
    where
      later : IsLaterFlaw fields topo links tag p r → ⊥
      later (inl a) = no_first fields topo tag links r is.usable a
      later (inr a) = none_over links tag p r is.plain is.built.small a.1

      by : IsUntaggable r ⊎ IsLater r → ⊥
      by (inl a) = none_some tag (sym a.1 ∙ declared)
      by (inr a) =
          let e = number_is a.0 tag (sym a.1 ∙ declared) in
          later (subst (λ t. IsLaterFlaw fields topo links t p r) e a.2)
