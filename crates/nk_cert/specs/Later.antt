-- Rows made of the packets that levels have under sets.
use Rattle.std.specs.Prelude.{◌≡◌, ℕ, ◌<◌, nat_eq, List, [], slice_index_or, unwrap_or}
use Rattle.std.specs.Map.{lookup}
use Rattle.nk_store.specs.StoreState.{StoreState, IsStorePacket}
use Rattle.nk_sets.specs.PacketSets.{IsSet}
use Rattle.nk_sets.specs.PolicyOf.{IsPolicyOf}
use Rattle.nk_determ.specs.Pairs.{Under, Once}
use Rattle.nk_goal.specs.Entries.{HaveSets}
use Rattle.nk_tag.specs.Numbers.{later_level}
use Rattle.nk_cert.specs.Certificates.{RowValue}

-- the packets under a set, none where it has no entry
abbrev pub packets_at : List (ℕ × ℕ) → ℕ → ℕ → ℕ
packets_at met none s = unwrap_or (lookup (nat_eq s) met) none

-- the row of a set: its members, and the predicate of its packets
pub record IsRowBy (st : StoreState) (ss : List (List ℕ)) (met : List (ℕ × ℕ)) (none s : ℕ) (row : RowValue) : Type 0 where
  pub positions : row.positions ≡ slice_index_or ss s []
  pub set : IsSet st (packets_at met none s)
  pub predicate : IsPolicyOf st (packets_at met none s) row.predicate

-- the packets under sets of the first n levels after the first one, an entry for each set
pub record AreLaterPackets (old : StoreState) (ls : List (List (ℕ × ℕ))) (n : ℕ) (new : StoreState) (met : List (ℕ × ℕ)) : Type 0 where
  pub from : (i : ℕ) (x : List ℕ) → IsStorePacket old x → Under new met i x → (j : ℕ) × (j < n) × Under old (later_level ls j) i x
  pub every : (i j : ℕ) (x : List ℕ) → IsStorePacket old x → j < n → Under old (later_level ls j) i x → Under new met i x
  pub packets : HaveSets new met
  pub once : Once met
