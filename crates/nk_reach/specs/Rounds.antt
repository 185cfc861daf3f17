-- What one round of the levels makes.
use Rattle.std.specs.Prelude.{◌≡◌, ℕ, ◌+◌, ◌<◌, ◌⊎◌, true, List, [], length, slice_index_or}
use Rattle.nk_field.specs.Act.{applied}
use Rattle.nk_store.specs.declared.node.Out.{Out}
use Rattle.nk_store.specs.StoreState.{StoreState, IsStorePacket}
use Rattle.nk_sets.specs.PacketSets.{is_in}
use Rattle.nk_sets.specs.Outs.{GivesOut, sent_to}
use Rattle.nk_sets.specs.declared.outs.OutPackets.{OutPackets}
use Rattle.nk_determ.specs.Sets.{HasEachSetOnce}
use Rattle.nk_determ.specs.Pairs.{Node, Under, Named, Once, EachPair, Within, ArePairs, AreLabelsBelow, IsStep}
use Rattle.nk_determ.specs.Levels.{IsFilled}
use Rattle.nk_goal.specs.Entries.{HaveSets}

-- the level has exactly what the last level leads to and was not visited
pub record IsNextLevel (st : StoreState) (ss : List (List ℕ)) (states : List ℕ) (visited last : List (ℕ × ℕ)) (new : StoreState) (nss : List (List ℕ)) (level : List (ℕ × ℕ)) : Type 0 where
  pub from : (n : Node) → IsStorePacket st n.1 → Within new nss level n → (m : Node) × IsStorePacket st m.1 × Within st ss last m × IsStep st states m n
  pub fresh : (n : Node) → IsStorePacket st n.1 → Within new nss level n → Within st ss visited n → ⊥
  pub every : (m n : Node) → IsStorePacket st m.1 → Within st ss last m → IsStep st states m n → (Within st ss visited n → ⊥) → Within new nss level n
  pub pairs : ArePairs new nss (length states) level
  pub filled : EachPair (λ p. IsFilled new p.1) level

-- the level has exactly what the last level leads to
pub record IsRaw (st : StoreState) (ss : List (List ℕ)) (states : List ℕ) (last : List (ℕ × ℕ)) (new : StoreState) (nss : List (List ℕ)) (raw : List (ℕ × ℕ)) : Type 0 where
  pub from : (n : Node) → IsStorePacket st n.1 → Within new nss raw n → (m : Node) × IsStorePacket st m.1 × Within st ss last m × IsStep st states m n
  pub every : (m n : Node) → IsStorePacket st m.1 → Within st ss last m → IsStep st states m n → Within new nss raw n
  pub pairs : ArePairs new nss (length states) raw
  pub differ : HasEachSetOnce nss

-- the level has the entries of raw without what was visited, where there are any
pub record IsFresh (st : StoreState) (visited raw : List (ℕ × ℕ)) (new : StoreState) (level : List (ℕ × ℕ)) : Type 0 where
  pub from : (i : ℕ) (x : List ℕ) → IsStorePacket st x → Under new level i x → Under st raw i x
  pub unvisited : (i : ℕ) (x : List ℕ) → IsStorePacket st x → Under new level i x → Under st visited i x → ⊥
  pub every : (i : ℕ) (x : List ℕ) → IsStorePacket st x → Under st raw i x → (Under st visited i x → ⊥) → Under new level i x
  pub named : (i : ℕ) → Named level i → Named raw i
  pub packets : HaveSets new level
  pub filled : EachPair (λ p. IsFilled new p.1) level
  pub once : Once level

-- beside what was there stands exactly what the set records next at the packets of x
pub record IsFollowed (st : StoreState) (states set : List ℕ) (x : ℕ) (ps : List (ℕ × ℕ)) (new : StoreState) (nss : List (List ℕ)) (qs : List (ℕ × ℕ)) : Type 0 where
  pub from : (i : ℕ) (y : List ℕ) → IsStorePacket st y → Under new qs i y → Under st ps i y ⊎ ((z : List ℕ) × IsStorePacket st z × (is_in st x z ≡ true) × IsStep st states (set, z) (slice_index_or nss i [], y))
  pub old : (i : ℕ) (y : List ℕ) → IsStorePacket st y → Under st ps i y → Under new qs i y
  pub every : (z : List ℕ) (n : Node) → IsStorePacket st z → is_in st x z ≡ true → IsStep st states (set, z) n → Within new nss qs n
  pub named : (i : ℕ) → Named qs i → Named ps i ⊎ ((i < length nss) × AreLabelsBelow (length states) (slice_index_or nss i []))
  pub packets : HaveSets new qs
  pub once : Once qs

-- what some entries lead to
pub record IsSoFar (st : StoreState) (ss : List (List ℕ)) (states : List ℕ) (last : List (ℕ × ℕ)) (new : StoreState) (nss : List (List ℕ)) (raw : List (ℕ × ℕ)) : Type 0 where
  pub from : (i : ℕ) (y : List ℕ) → IsStorePacket st y → Under new raw i y → (m : Node) × IsStorePacket st m.1 × Within st ss last m × IsStep st states m (slice_index_or nss i [], y)
  pub every : (m n : Node) → IsStorePacket st m.1 → Within st ss last m → IsStep st states m n → Within new nss raw n
  pub named : (i : ℕ) → Named raw i → (i < length nss) × AreLabelsBelow (length states) (slice_index_or nss i [])
  pub packets : HaveSets new raw
  pub once : Once raw

-- beside what was there stands what one out makes of the packets of p
pub record IsSent (st : StoreState) (o : Out) (p : ℕ) (ps : List (ℕ × ℕ)) (new : StoreState) (qs : List (ℕ × ℕ)) : Type 0 where
  pub from : (i : ℕ) (y : List ℕ) → IsStorePacket st y → Under new qs i y → Under st ps i y ⊎ ((i + 1 ≡ o.target) × ((z : List ℕ) × IsStorePacket st z × (is_in st p z ≡ true) × (applied o.act z ≡ y)))
  pub old : (i : ℕ) (y : List ℕ) → IsStorePacket st y → Under st ps i y → Under new qs i y
  pub every : (i : ℕ) (z y : List ℕ) → IsStorePacket st z → IsStorePacket st y → is_in st p z ≡ true → i + 1 ≡ o.target → applied o.act z ≡ y → Under new qs i y
  pub named : (i : ℕ) → Named qs i → Named ps i ⊎ ((i + 1 ≡ o.target) × ((z : List ℕ) × IsStorePacket st z × (is_in st p z ≡ true) × IsStorePacket st (applied o.act z)))
  pub packets : HaveSets new qs
  pub once : Once qs

-- beside what was there stands what the first n of these entries make
pub record IsAllSent (st : StoreState) (es : List OutPackets) (n : ℕ) (ps : List (ℕ × ℕ)) (new : StoreState) (qs : List (ℕ × ℕ)) : Type 0 where
  pub from : (i : ℕ) (y : List ℕ) → IsStorePacket st y → Under new qs i y → Under st ps i y ⊎ ((z : List ℕ) × (g : List (ℕ × ℕ)) × IsStorePacket st z × GivesOut st es 0 n z (sent_to g (i + 1)) × (applied g z ≡ y))
  pub old : (i : ℕ) (y : List ℕ) → IsStorePacket st y → Under st ps i y → Under new qs i y
  pub every : (i : ℕ) (z y : List ℕ) (g : List (ℕ × ℕ)) → IsStorePacket st z → IsStorePacket st y → GivesOut st es 0 n z (sent_to g (i + 1)) → applied g z ≡ y → Under new qs i y
  pub named : (i : ℕ) → Named qs i → Named ps i ⊎ ((z : List ℕ) × (g : List (ℕ × ℕ)) × IsStorePacket st z × GivesOut st es 0 n z (sent_to g (i + 1)) × IsStorePacket st (applied g z))
  pub packets : HaveSets new qs
  pub once : Once qs
