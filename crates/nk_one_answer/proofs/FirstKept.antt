-- The least history that one policy alone has starts at the first packet that one of the predicates of their difference keeps.
use Rattle.std.proofs.Common.{◌≡◌, ◌⊎◌, inl, inr, ⊎_elim, ◌<◌, ℕ, length, refl, sym, ap, subst, ◌∙◌}
use Rattle.nk_field.specs.declared.packet.Packet.{Packet}
use Rattle.nk_field.specs.Order.{Found, IsLess, Precedes}
use Rattle.nk_field.specs.Packet.{FieldTable, IsPacket}
use Rattle.nk_policy.specs.Policy.{Policy}
use Rattle.nk_cert.specs.Equality.{Side, on_left, on_right, IsOfOneAlone, IsLeastDifference}
use Rattle.nk_difference.specs.Alone.{KeepsPacket}
use Rattle.nk_difference.specs.Difference.{AreTheirPredicates}
use Rattle.nk_compile.proofs.Orders.{one_least}
use Rattle.nk_one_answer.specs.FirstKept.{side_predicate, EitherKeeps, StartsAlone, IsFirstKept}

module _ (fields : FieldTable) (p q : Policy) where
  in_range : (side : Side) (f : Found) → IsOfOneAlone fields p q side f → IsPacket fields f.start
  in_range on_left f h = h.0
  in_range on_right f h = h.0

  module _ (left right : Policy) (k : AreTheirPredicates fields p q left right) where
    -- a history of one side alone starts at a packet that the predicate of its side keeps
    pub side_keeps : (side : Side) (f : Found) → IsOfOneAlone fields p q side f → KeepsPacket (side_predicate side left right) f.start
    side_keeps on_left f h = (k.left_is.keeps f.start h.0).1 (f.records, f.last, h.1, h.2)
    side_keeps on_right f h = (k.right_is.keeps f.start h.0).1 (f.records, f.last, h.1, h.2)

    kept_by : (side : Side) (pk : Packet) → KeepsPacket (side_predicate side left right) pk → EitherKeeps left right pk
    kept_by on_left pk h = inl h
    kept_by on_right pk h = inr h

    module _ (side : Side) (f : Found) (least : IsLeastDifference fields p q side f) where
      start_kept : EitherKeeps left right f.start
      start_kept = kept_by side f.start (side_keeps side f least.0)

      before_or_same : (g : Found) → ((s : Side) × IsOfOneAlone fields p q s g) → (f ≡ g) ⊎ IsLess f g
      before_or_same g h = let rest = least.1 in rest.1 g h

      -- that the least history comes before another says so of the packets that they start from
      comes_first : (other : Packet) (n : ℕ) → StartsAlone fields p q other n
          → (length f.records < n) ⊎ ((length f.records ≡ n) × ((f.start ≡ other) ⊎ Precedes f.start other))
      comes_first other n s =
          let g : Found = s.1 in
          let at : g.start ≡ other = s.3 in
          let many : length g.records ≡ n = s.4 in
          ⊎_elim
          (λ e. inr (ap (λ (z : Found). length z.records) e ∙ many, inl (ap (λ (z : Found). z.start) e ∙ at)))
          (λ less.
          ⊎_elim
          (λ fewer. inl (subst (λ m. length f.records < m) many fewer))
          (λ rest. inr (
            rest.0 ∙ many,
            ⊎_elim (λ before. inr (subst (λ z. Precedes f.start z) at before)) (λ later. inl (later.0 ∙ at)) rest.1,
          ))
          less)
          (before_or_same g (s.0, s.2))

      pub first_kept : IsFirstKept fields p q left right f.start
      first_kept = record {
        range = in_range side f least.0;
        kept = start_kept;
        count = length f.records;
        starts = (side, f, least.0, refl, refl);
        first = λ other n kept s. comes_first other n s;
      }

      -- two histories of which each is the other or comes before it are one
      same_history : (g : Found) → (f ≡ g) ⊎ IsLess f g → IsLess g f → f ≡ g
      same_history g before back =
          ⊎_elim
          (λ e. e)
          (λ less.
          one_least (λ z. (z ≡ f) ⊎ (z ≡ g)) f g
          (inl refl, λ b i. ⊎_elim (λ e. inl (sym e)) (λ e. inr (subst (λ z. IsLess f z) (sym e) less)) i)
          (inr refl, λ b i. ⊎_elim (λ e. inr (subst (λ z. IsLess g z) (sym e) back)) (λ e. inl (sym e)) i))
          before

      -- no other packet is the first one
      pub only_first : (pk : Packet) → IsFirstKept fields p q left right pk → pk ≡ f.start
      only_first pk k =
          let s = k.starts in
          let g : Found = s.1 in
          let at : g.start ≡ pk = s.3 in
          let many : length g.records ≡ k.count = s.4 in
          let back : IsLess g f → pk ≡ f.start =
          λ less. sym at ∙ ap (λ (z : Found). z.start) (sym (same_history g (before_or_same g (s.0, s.2)) less)) in
          ⊎_elim
          (λ fewer. back (inl (subst (λ m. m < length f.records) (sym many) fewer)))
          (λ rest.
          ⊎_elim
          (λ e. e)
          (λ before. back (inr (many ∙ rest.0, inl (subst (λ x. Precedes x f.start) (sym at) before))))
          rest.1)
          (k.first f.start (length f.records) start_kept (side, f, least.0, refl, refl))
