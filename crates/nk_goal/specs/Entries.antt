-- Sets of packets under sets of labels, and how they grow.
use Rattle.std.specs.Prelude.{◌≡◌, ℕ, ◌⊎◌, true, cond, List, [], ◌∷◌}
use Rattle.std.specs.Bool.{nat_eq}
use Rattle.std.specs.List.{position_from}
use Rattle.std.specs.Map.{lookup}
use Rattle.nk_store.specs.StoreState.{StoreState, IsStorePacket}
use Rattle.nk_sets.specs.PacketSets.{is_in, IsSet}
use Rattle.nk_determ.specs.Pairs.{Under, Named, Once, EachPair}

-- each entry has a set of packets
abbrev pub HaveSets : StoreState → List (ℕ × ℕ) → Type 0
HaveSets st ps = EachPair (λ p. IsSet st p.1) ps

-- the entries of both, a set once
pub record IsMerged (st : StoreState) (visited level : List (ℕ × ℕ)) (new : StoreState) (all : List (ℕ × ℕ)) : Type 0 where
  pub either : (i : ℕ) (x : List ℕ) → IsStorePacket st x → Under new all i x → Under st visited i x ⊎ Under st level i x
  pub old : (i : ℕ) (x : List ℕ) → IsStorePacket st x → Under st visited i x → Under new all i x
  pub more : (i : ℕ) (x : List ℕ) → IsStorePacket st x → Under st level i x → Under new all i x
  pub named : (i : ℕ) → Named all i → Named visited i ⊎ Named level i
  pub packets : HaveSets new all
  pub once : Once all

-- y's packets are under t as well
pub record IsAdded (st : StoreState) (ps : List (ℕ × ℕ)) (t y : ℕ) (new : StoreState) (qs : List (ℕ × ℕ)) : Type 0 where
  pub either : (i : ℕ) (x : List ℕ) → IsStorePacket st x → Under new qs i x → Under st ps i x ⊎ ((i ≡ t) × (is_in st y x ≡ true))
  pub old : (i : ℕ) (x : List ℕ) → IsStorePacket st x → Under st ps i x → Under new qs i x
  pub more : (x : List ℕ) → IsStorePacket st x → is_in st y x ≡ true → Under new qs t x
  pub named : (i : ℕ) → Named qs i → Named ps i ⊎ (i ≡ t)
  pub packets : HaveSets new qs
  pub once : Once qs

-- r has the packets under t and those of y
pub record IsJoined (st : StoreState) (ps : List (ℕ × ℕ)) (t y : ℕ) (new : StoreState) (r : ℕ) : Type 0 where
  pub packets : IsSet new r
  pub either : (x : List ℕ) → IsStorePacket st x → is_in new r x ≡ true → Under st ps t x ⊎ (is_in st y x ≡ true)
  pub old : (x : List ℕ) → IsStorePacket st x → Under st ps t x → is_in new r x ≡ true
  pub more : (x : List ℕ) → IsStorePacket st x → is_in st y x ≡ true → is_in new r x ≡ true

-- r has the packets of y that do not stand under t
pub record IsRest (st : StoreState) (ps : List (ℕ × ℕ)) (t y : ℕ) (new : StoreState) (r : ℕ) : Type 0 where
  pub packets : IsSet new r
  pub first : (x : List ℕ) → IsStorePacket st x → is_in new r x ≡ true → is_in st y x ≡ true
  pub second : (x : List ℕ) → IsStorePacket st x → is_in new r x ≡ true → Under st ps t x → ⊥
  pub both : (x : List ℕ) → IsStorePacket st x → is_in st y x ≡ true → (Under st ps t x → ⊥) → is_in new r x ≡ true

-- the entries with v as the packets of a set t, which comes last where it has no entry
abbrev pub with_packets : List (ℕ × ℕ) → ℕ → ℕ → List (ℕ × ℕ)
with_packets [] t v = (t, v) ∷ []
with_packets (p ∷ ps) t v = cond (nat_eq t p.0) ((p.0, v) ∷ ps) (p ∷ with_packets ps t v)

-- a set has a place exactly where it has an entry, the place of that one
pub record ArePlaced (places : List (ℕ × ℕ)) (ps : List (ℕ × ℕ)) : Type 0 where
  pub once : Once ps
  pub placed : (t : ℕ) → lookup (nat_eq t) places ≡ position_from (λ p. nat_eq t p.0) 0 ps
