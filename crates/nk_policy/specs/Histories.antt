-- The histories of a policy as a list: the plain, slow way, for small policies without a star.
use Rattle.std.specs.Prelude.{◌≡◌, ◌==◌, ◌&&◌, true, nat_le, if◌then◌else◌, List, [], ◌∷◌, ◌++◌, slice_index, slice_set}
use Rattle.std.specs.List.{flat_map}
use Rattle.nk_field.specs.declared.packet.Packet.{Packet}
use Rattle.nk_field.specs.declared.history.History.{History}
use Rattle.nk_policy.specs.Policy.{Policy, Policies, test, range, assign, sum_of, seq_of, not_of, star_of, dup, link, no_part, part, is_predicate}

-- a history that ends at another packet
abbrev pub at_packet : History → Packet → History
at_packet h x = record { records = h.records; last = x }

-- a history whose last packet is recorded
abbrev pub recorded : History → History
recorded h = record { records = h.records ++ h.last ∷ []; last = h.last }

-- the history alone where the list is empty, else nothing
abbrev pub unless_any : List History → History → List History
unless_any [] h = h ∷ []
unless_any (g ∷ gs) h = []

-- The histories that go on from one: the policy works on its last packet, and what is recorded comes after its records.
abbrev mutual
  pub histories_from : Policy → History → List History
  histories_from (test f n) h = if slice_index h.last f == n then h ∷ [] else []
  histories_from (range f lo hi) h =
      if nat_le lo (slice_index h.last f) && nat_le (slice_index h.last f) hi then h ∷ [] else []
  histories_from (assign f n) h = at_packet h (slice_set h.last f n) ∷ []
  histories_from (sum_of ps) h = histories_of_some ps h
  histories_from (seq_of ps) h = histories_of_all ps h
  histories_from (not_of p) h = unless_any (histories_from p h) h
  histories_from (star_of p) h = []
  histories_from (dup l) h = recorded h ∷ []
  histories_from (link a m b n l) h =
      if (slice_index h.last 0 == a) && (slice_index h.last 1 == m) then
      recorded (at_packet (recorded h) (slice_set (slice_set h.last 0 b) 1 n)) ∷ []
      else
      []

  -- those of each part
  pub histories_of_some : Policies → History → List History
  histories_of_some no_part h = []
  histories_of_some (part p ps) h = histories_from p h ++ histories_of_some ps h

  -- those of the parts in turn
  pub histories_of_all : Policies → History → List History
  histories_of_all no_part h = h ∷ []
  histories_of_all (part p ps) h = flat_map (λ g. histories_of_all ps g) (histories_from p h)

-- all histories of the policy from a packet
abbrev pub histories_of : Policy → Packet → List History
histories_of p pk = histories_from p record { records = []; last = pk }

-- the policy has no star, and each complement negates a predicate
abbrev mutual
  pub IsFlat : Policy → Type 0
  IsFlat (test f n) = Unit {0}
  IsFlat (range f lo hi) = Unit {0}
  IsFlat (assign f n) = Unit {0}
  IsFlat (sum_of ps) = AllFlat ps
  IsFlat (seq_of ps) = AllFlat ps
  IsFlat (not_of p) = (is_predicate p ≡ true) × IsFlat p
  IsFlat (star_of p) = ⊥
  IsFlat (dup l) = Unit {0}
  IsFlat (link a m b n l) = Unit {0}

  -- all parts are so
  pub AllFlat : Policies → Type 0
  AllFlat no_part = Unit {0}
  AllFlat (part p ps) = IsFlat p × AllFlat ps
