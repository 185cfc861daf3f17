-- What comparing policies of a fabric tells of it.
use Rattle.std.proofs.Common.{◌≡◌, ◌⊎◌, inl, inr, ⊎_elim, List, [], length, refl, sym, ap, subst, ◌∙◌, arith}
use Rattle.nk_field.specs.declared.packet.Packet.{Packet}
use Rattle.nk_field.specs.Packet.{FieldTable, IsPacket}
use Rattle.nk_field.specs.Order.{Found, IsLess}
use Rattle.nk_policy.specs.Policy.{Policy}
use Rattle.nk_policy.specs.Meaning.{Gives}
use Rattle.nk_policy.specs.After.{drop_policy}
use Rattle.nk_policy.specs.Ranges.{IsInRange}
use Rattle.nk_witness.specs.Histories.{PrecedesOrEquals}
use Rattle.nk_cert.specs.Equality.{Side, on_left, on_right, AreSame, IsOfFirstAlone, IsOfOneAlone, IsLeastDifference}
use Rattle.nk_names.specs.ProgramValue.{VirtualLink}
use Rattle.nk_virtual.specs.Fabrics.{moved_along, IsCarried}
use Rattle.nk_virtual.specs.Endings.{without_records}
use Rattle.nk_virtual.specs.Questions.{from_entry, move, ends_or_move, elsewhere}
use Rattle.nk_virtual.specs.Carriage.{Enters, IsOnTarget, IsOffTarget, IsNotCarried, IsFirstNotCarried, IsLeastFrom}
use Rattle.nk_virtual.proofs.Endings.{same_ends}
use Rattle.nk_virtual.proofs.Entries.{entered, move_way}
use Rattle.nk_virtual.proofs.Only.{elsewhere_way}

-- a start, records and a last packet
abbrev pub found : Packet → List Packet → Packet → Found
found x w y = record { start = x; records = w; last = y }

-- what is no later than a history without records starts no later
starts_no_later : (a b : Found) → b.records ≡ [] → (a ≡ b) ⊎ IsLess a b → PrecedesOrEquals a.start b.start
starts_no_later a b none h =
    ⊎_elim
    (λ e. inl (ap (λ (f : Found). f.start) e))
    (λ l.
    ⊎_elim
    (λ fewer. absurd (omega (arith, fewer, ap length none)))
    (λ same. ⊎_elim (λ less. inr less) (λ rest. inl rest.0) same.1)
    l)
    h

module _ (fields : FieldTable) (k : VirtualLink) where
  -- from the packets that enter: the fabric's ends with that of the move, the fabric's ends, and the move
  abbrev pub either : Policy
  either = from_entry fields.tag k (ends_or_move k)

  abbrev pub ends : Policy
  ends = from_entry fields.tag k (without_records k.fabric)

  abbrev pub moves : Policy
  moves = from_entry fields.tag k (move k)

  -- a history from a packet that enters
  enters : (p : Policy) (x : Packet) (w : List Packet) (y : Packet) → IsPacket fields x
      → Gives (from_entry fields.tag k p) x w y → Enters fields k x × Gives p x w y
  enters p x w y packet g =
      let e = (entered fields.tag k p x w y).0 g in
      (record { packet = packet; untagged = e.1; at_start = e.0 }, e.2)

  -- and the other way round
  from_there : (p : Policy) (x : Packet) (w : List Packet) (y : Packet) → Enters fields k x → Gives p x w y
      → Gives (from_entry fields.tag k p) x w y
  from_there p x w y e g = (entered fields.tag k p x w y).1 (e.at_start, e.untagged, g)

  -- the move of a packet that enters
  moved_there : (x : Packet) → Enters fields k x → Gives moves x [] (moved_along k x)
  moved_there x e = from_there (move k) x [] (moved_along k x) e ((move_way k x [] (moved_along k x)).1 (refl, refl))

  -- where the fabric ends
  ended : (x : Packet) (w : List Packet) (y : Packet) → Gives k.fabric x w y → Gives (without_records k.fabric) x [] y
  ended x w y g = (same_ends k.fabric x [] y).1 (refl, (w, g))

  -- the fabric's ends add none to that of the move: each history is on target
  pub on_target : AreSame fields either moves → IsOnTarget fields k
  on_target same x w last e g =
      let left : Gives either x [] last = from_there (ends_or_move k) x [] last e (inl (ended x w last g)) in
      let right = (same x e.packet [] last).0 left in
      ((move_way k x [] last).0 (enters (move k) x [] last e.packet right).1).1

  -- what they add is off target
  added : (f : Found) → IsOfFirstAlone fields either moves f
      → (u : List Packet) × IsOffTarget fields k (found f.start u f.last)
  added f a =
      let e = enters (ends_or_move k) f.start f.records f.last a.0 a.1 in
      ⊎_elim
      (λ s.
      let u = (same_ends k.fabric f.start f.records f.last).0 s in (
        u.1.0,
        record {
          enters = e.0;
          given = u.1.1;
          elsewhere = λ t. a.2 (from_there (move k) f.start f.records f.last e.0 ((move_way k f.start f.records f.last).1 (u.0, t)));
        },
      ))
      (λ s.
      ⊎_elim
      (λ m. absurd (a.2 (from_there (move k) f.start f.records f.last e.0 m)))
      (λ n. absurd n)
      s)
      e.1

  -- the move alone gives nothing
  none_less : (f : Found) → IsOfFirstAlone fields moves either f → ⊥
  none_less f a =
      let e = enters (move k) f.start f.records f.last a.0 a.1 in
      a.2 (from_there (ends_or_move k) f.start f.records f.last e.0 (inr (inl e.1)))

  -- a history off target is added
  is_added : (g : Found) → IsOffTarget fields k g → IsOfFirstAlone fields either moves (found g.start [] g.last)
  is_added g o = (
    o.enters.packet,
    from_there (ends_or_move k) g.start [] g.last o.enters (inl (ended g.start g.records g.last o.given)),
    λ m.
        let e = enters (move k) g.start [] g.last o.enters.packet m in
        o.elsewhere ((move_way k g.start [] g.last).0 e.1).1,
  )

  -- so the least difference starts at the least packet from which one is off target
  pub least_start : (side : Side) (f : Found) → IsLeastDifference fields either moves side f
      → ((g : Found) × IsOffTarget fields k g × (g.start ≡ f.start))
      × ((g : Found) → IsOffTarget fields k g → PrecedesOrEquals f.start g.start)
  least_start side f d = (some side f d.0, λ g o. starts_no_later f (found g.start [] g.last) refl (d.1.1 (found g.start [] g.last) (on_left, is_added g o)))
    where
      some : (side : Side) (f : Found) → IsOfOneAlone fields either moves side f
          → (g : Found) × IsOffTarget fields k g × (g.start ≡ f.start)
      some on_left f a = let u = added f a in (found f.start u.0 f.last, u.1, refl)
      some on_right f a = absurd (none_less f a)

  module _ (target : IsOnTarget fields k) where
    -- the fabric's ends are that of the move: the link is carried
    pub is_carried : AreSame fields ends moves → IsCarried fields k
    is_carried same = record {
      on_target = λ x w last packet untagged at g. target x w last (record { packet = packet; untagged = untagged; at_start = at }) g;
      carried = λ x packet untagged at.
          let e : Enters fields k x = record { packet = packet; untagged = untagged; at_start = at } in
          let g = (same x packet [] (moved_along k x)).1 (moved_there x e) in
          let u = ((same_ends k.fabric x [] (moved_along k x)).0 (enters (without_records k.fabric) x [] (moved_along k x) packet g).1).1 in
          (u.0, moved_along k x, u.1);
    }

    -- the fabric has no end that the move hasn't
    none_more : (f : Found) → IsOfFirstAlone fields ends moves f → ⊥
    none_more f a =
        let e = enters (without_records k.fabric) f.start f.records f.last a.0 a.1 in
        let u = (same_ends k.fabric f.start f.records f.last).0 e.1 in
        let t = target f.start u.1.0 f.last e.0 u.1.1 in
        a.2 (from_there (move k) f.start f.records f.last e.0 ((move_way k f.start f.records f.last).1 (u.0, t)))

    -- what the move alone gives starts where the fabric has no history
    left_out : (f : Found) → IsOfFirstAlone fields moves ends f → IsNotCarried fields k f.start
    left_out f a =
        let e = enters (move k) f.start f.records f.last a.0 a.1 in
        let m = (move_way k f.start f.records f.last).0 e.1 in
        record {
          enters = e.0;
          none = λ w y g.
              let t : y ≡ f.last = target f.start w y e.0 g ∙ sym m.1 in
              let g' : Gives k.fabric f.start w f.last = subst (λ z. Gives k.fabric f.start w z) t g in
              a.2 (from_there (without_records k.fabric) f.start f.records f.last e.0 ((same_ends k.fabric f.start f.records f.last).1 (m.0, (w, g'))));
        }

    -- and the other way round
    is_left_out : (x : Packet) → IsNotCarried fields k x → IsOfFirstAlone fields moves ends (found x [] (moved_along k x))
    is_left_out x n = (
      n.enters.packet,
      moved_there x n.enters,
      λ g.
          let e = enters (without_records k.fabric) x [] (moved_along k x) n.enters.packet g in
          let u = ((same_ends k.fabric x [] (moved_along k x)).0 e.1).1 in
          n.none u.0 (moved_along k x) u.1,
    )

    -- so the least difference starts at the least packet without a history
    pub least_left : (side : Side) (f : Found) → IsLeastDifference fields ends moves side f
        → IsFirstNotCarried fields k f.start
    least_left side f d = (some side f d.0, λ x n. starts_no_later f (found x [] (moved_along k x)) refl (d.1.1 (found x [] (moved_along k x)) (on_right, is_left_out x n)))
      where
        some : (side : Side) (f : Found) → IsOfOneAlone fields ends moves side f → IsNotCarried fields k f.start
        some on_left f a = absurd (none_more f a)
        some on_right f a = left_out f a

  module _ (range : IsInRange k.fabric fields) (x : Packet) (enters : Enters fields k x) (there : IsPacket fields (moved_along k x)) where
    -- a history off target from the packet is one of those that end elsewhere
    is_elsewhere : (g : Found) → IsOffTarget fields k g → g.start ≡ x
        → IsOfFirstAlone fields (elsewhere fields k x) drop_policy g
    is_elsewhere g o e = (
      o.enters.packet,
      (elsewhere_way fields k range x enters.packet there g.start o.enters.packet g.records g.last).1 (e, o.given, λ t. o.elsewhere (t ∙ ap (moved_along k) (sym e))),
      λ n. absurd n,
    )

    -- one of those is off target
    off_target : (f : Found) → IsOfFirstAlone fields (elsewhere fields k x) drop_policy f
        → IsOffTarget fields k f × (f.start ≡ x)
    off_target f a =
        let h = (elsewhere_way fields k range x enters.packet there f.start a.0 f.records f.last).0 a.1 in (
          record {
            enters = subst (λ z. Enters fields k z) (sym h.0) enters;
            given = h.1;
            elsewhere = λ t. h.2 (t ∙ ap (moved_along k) h.0);
          },
          h.0,
        )

    -- where one is, some end elsewhere
    pub some_elsewhere : (g : Found) → IsOffTarget fields k g → g.start ≡ x
        → AreSame fields (elsewhere fields k x) drop_policy → ⊥
    some_elsewhere g o e same = let a = is_elsewhere g o e in a.2 ((same g.start a.0 g.records g.last).0 a.1)

    -- so the least difference is the least of them
    pub least_from : (side : Side) (f : Found) → IsLeastDifference fields (elsewhere fields k x) drop_policy side f
        → IsLeastFrom fields k x f
    least_from side f d =
        let o = some side f d.0 in (
          o.0,
          o.1,
          λ g t e. d.1.1 g (on_left, is_elsewhere g t e),
        )
      where
        some : (side : Side) (f : Found) → IsOfOneAlone fields (elsewhere fields k x) drop_policy side f
            → IsOffTarget fields k f × (f.start ≡ x)
        some on_left f a = off_target f a
        some on_right f a = absurd a.1
