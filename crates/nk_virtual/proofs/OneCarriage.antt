-- At most one thing is found of a virtual link.
use Rattle.std.proofs.Common.{◌≡◌, ℕ, ◌<◌, ◌⊎◌, ⊎_elim, List, [], ◌∷◌, length, sym, subst, arith}
use Rattle.nk_field.specs.declared.packet.Packet.{Packet}
use Rattle.nk_field.specs.Packet.{FieldTable}
use Rattle.nk_field.specs.Order.{Found, Precedes, AllPrecede, IsLess}
use Rattle.nk_witness.proofs.Choosing.{precedes_on, precedes_not}
use Rattle.nk_names.specs.ProgramValue.{VirtualLink}
use Rattle.nk_virtual.specs.Fabrics.{IsCarried}
use Rattle.nk_virtual.specs.Carriage.{IsOnTarget, IsOffTarget, IsNotCarried, IsBefore, IsFirstOffTarget, IsFirstNotCarried}

-- a packet doesn't come before one that comes before it
precedes_once : (x y : List ℕ) → Precedes x y → Precedes y x → ⊥
precedes_once x y h k = precedes_not x (precedes_on x y x h k)

-- nor, in order by a first part and then a second, does what is so by both
in_turn_once : {A : Type 0} (P : A → A → Type 0) → ((x y : A) → P x y → P y x → ⊥) → (x y : A) {U V : Type 0} → (U → V → ⊥)
    → P x y ⊎ ((x ≡ y) × U) → P y x ⊎ ((y ≡ x) × V) → ⊥
in_turn_once P once x y rest h k =
    ⊎_elim
    (λ p. ⊎_elim (λ q. once x y p q) (λ f. let self = subst (P x) f.0 p in once x x self self) k)
    (λ e. ⊎_elim (λ q. let self = subst (P y) e.0 q in once y y self self) (λ f. rest e.1 f.1) k)
    h

records_once : (u v : List Packet) → AllPrecede u v → AllPrecede v u → ⊥
records_once [] v h k = h
records_once (x ∷ u) [] h k = h
records_once (x ∷ u) (y ∷ v) h k = in_turn_once Precedes precedes_once x y (records_once u v) h k

fewer_once : (m n : ℕ) → m < n → n < m → ⊥
fewer_once m n lt gt = omega (arith, lt, gt)

-- so histories are in order one way alone
less_once : (f g : Found) → IsLess f g → IsLess g f → ⊥
less_once f g =
    in_turn_once (λ m n. m < n) fewer_once (length f.records) (length g.records)
    (in_turn_once Precedes precedes_once f.start g.start (in_turn_once AllPrecede records_once f.records g.records (precedes_once f.last g.last)))

before_once : (f g : Found) → IsBefore f g → IsBefore g f → ⊥
before_once f g = in_turn_once Precedes precedes_once f.start g.start (less_once f g)

module _ (fields : FieldTable) (k : VirtualLink) where
  -- the first history off target is one
  pub one_off_target : (f g : Found) → IsFirstOffTarget fields k f → IsFirstOffTarget fields k g → f ≡ g
  one_off_target f g h j =
      ⊎_elim
      (λ e. e)
      (λ before. ⊎_elim (λ e. sym e) (λ back. absurd (before_once f g before back)) (j.1 f h.0))
      (h.1 g j.0)

  -- so is the first packet without a history
  pub one_not_carried : (x y : Packet) → IsFirstNotCarried fields k x → IsFirstNotCarried fields k y → x ≡ y
  one_not_carried x y h j =
      ⊎_elim
      (λ e. e)
      (λ before. ⊎_elim (λ e. sym e) (λ back. absurd (precedes_once x y before back)) (j.1 x h.0))
      (h.1 y j.0)

  -- a virtual link that is carried is on target
  carried_on_target : IsCarried fields k → IsOnTarget fields k
  carried_on_target h x w last e g = h.on_target x w last e.packet e.untagged e.at_start g

  -- where each history is on target, none is off
  pub none_off_target : IsOnTarget fields k → (f : Found) → IsOffTarget fields k f → ⊥
  none_off_target h f o = o.elsewhere (h f.start f.records f.last o.enters o.given)

  -- and a link that is carried has none that is off, nor a packet without one
  pub carried_not_off : IsCarried fields k → (f : Found) → IsOffTarget fields k f → ⊥
  carried_not_off h = none_off_target (carried_on_target h)

  pub carried_has_all : IsCarried fields k → (x : Packet) → IsNotCarried fields k x → ⊥
  carried_has_all h x n = let g = h.carried x n.enters.packet n.enters.untagged n.enters.at_start in n.none g.0 g.1 g.2
