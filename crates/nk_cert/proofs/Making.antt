-- The certificate that is made of levels.
use Rattle.std.proofs.Common.{◌≡◌, ℕ, suc, ◌+◌, ◌-◌, ◌<◌, ◌≤◌, true, false, inl, inr, ⊎_elim, List, [], ◌∷◌, ◌++◌, length, Option, Some, None, refl, sym, ap, subst, ◌∙◌, arith}
use Rattle.std.specs.Prelude.{◌↔◌, eqb, All, slice_index_or, unwrap_or}
use Rattle.std.specs.Map.{lookup}
use Rattle.std.proofs.lemmas.Bool.Decides.{eqb_tells}
use Rattle.std.proofs.lemmas.List.Elements.{All-head, All-tail}
use Rattle.nk_field.proofs.Lists.{contains_from_in}
use Rattle.nk_field.proofs.Ascending.{all_from_members}
use Rattle.nk_policy.specs.After.{id_policy}
use Rattle.nk_store.specs.StoreState.{StoreState, IsStorePacket, Grows, HasLeaves}
use Rattle.nk_sets.specs.PacketSets.{has_some_out, is_in, IsSet}
use Rattle.nk_sets.proofs.Kept.{packet_on}
use Rattle.nk_determ.specs.Pairs.{Under, Named}
use Rattle.nk_goal.specs.Entries.{HaveSets, IsMerged}
use Rattle.nk_goal.proofs.Growing.{under_on, under_back, under_named}
use Rattle.nk_goal.proofs.Adding.{not_found, found_set, found_under, under_found}
use Rattle.nk_tag.specs.Numbers.{later_level, AreEntries, AreLaterSets}
use Rattle.nk_determ.proofs.Naming.{named_within}
use Rattle.nk_cert.specs.Certificates.{RowValue, CertificateValue}
use Rattle.nk_cert.specs.FromLevels.{HaveRows, IsRowOf, IsCertificateOf}
use Rattle.nk_cert.specs.Later.{packets_at, IsRowBy, AreLaterPackets}

-- no packets before any level
pub none_later : (st : StoreState) (ls : List (List (ℕ × ℕ))) → AreLaterPackets st ls 0 st []
none_later st ls = record {
  from = λ i x range u. absurd u;
  every = λ i j x range lt u. absurd (omega (arith, lt));
  packets = tt;
  once = tt;
}

-- those of one level more
pub later_more : (old st new : StoreState) (ls : List (List (ℕ × ℕ))) (n : ℕ) (met all level : List (ℕ × ℕ)) → Grows old st
    → AreLaterPackets old ls n st met → HaveSets old level → level ≡ later_level ls n → IsMerged st met level new all
    → AreLaterPackets old ls (n + 1) new all
later_more old st new ls n met all level g k sets is m = record {
  from = λ i x range u.
      ⊎_elim
      (λ was. let w = k.from i x range was in (w.0, omega (arith, w.1), w.2))
      (λ now. (n, omega arith, subst (λ l. Under old l i x) is (under_back old st level i x g sets now)))
      (m.either i x (packet_on old st x g range) u);
  every = λ i j x range lt u. elim (eqb_tells j n) [
    | inl same ↦
        let here = subst (λ q. Under old (later_level ls q) i x) same.1 u in
        m.more i x (packet_on old st x g range) (under_on old st level i x g sets (subst (λ l. Under old l i x) (sym is) here))
    | inr other ↦ m.old i x (packet_on old st x g range) (k.every i j x range (omega (arith, lt, other.1)) u)
  ];
  packets = m.packets;
  once = m.once;
}

-- those of all levels, as many as there are after the first one
pub later_done : (old : StoreState) (ls : List (List (ℕ × ℕ))) (i : ℕ) (st : StoreState) (met : List (ℕ × ℕ)) → length ls ≤ i → AreLaterPackets old ls (i - 1) st met
    → AreLaterPackets old ls (length ls - 1) st met
later_done old ls i st met le k = record {
  from = λ s x range u.
      let w = k.from s x range u in
      let lt = named_within ls (suc w.0) s (under_named old (later_level ls w.0) s x w.2) in
      (w.0, omega (arith, lt), w.2);
  every = λ s j x range lt u. k.every s j x range (omega (arith, lt, le)) u;
  packets = k.packets;
  once = k.once;
}

-- the set of the packets under a set
pub packets_set : (st : StoreState) (met : List (ℕ × ℕ)) (none s : ℕ) → HaveSets st met → IsSet st none → IsSet st (packets_at met none s)
packets_set st met none s h k = by (lookup (eqb s) met) refl
  where
    by : (o : Option ℕ) → lookup (eqb s) met ≡ o → IsSet st (unwrap_or o none)
    by (Some d) e = found_set st met s d e h
    by None e = k

-- no packets in a store that grew
pub none_on : (a b : StoreState) (d : ℕ) → Grows a b → HasLeaves a d (λ pk. []) → HasLeaves b d (λ pk. [])
none_on a b d g h = record { id = g.ids d h.id; leaf = λ pk w. g.leaves d pk h.id ∙ h.leaf pk w }

-- packets of levels that were there in an older store
pub later_of_old : (old st new : StoreState) (ls : List (List (ℕ × ℕ))) (met : List (ℕ × ℕ)) → Grows old st
    → ((i : ℕ) → i < length ls → HaveSets old (slice_index_or ls i [])) → AreLaterPackets st ls (length ls - 1) new met
    → AreLaterPackets old ls (length ls - 1) new met
later_of_old old st new ls met g sets k = record {
  from = λ s x range u.
      let w = k.from s x (packet_on old st x g range) u in
      let lt = named_within ls (suc w.0) s (under_named st (later_level ls w.0) s x w.2) in
      (w.0, w.1, under_back old st (later_level ls w.0) s x g (sets (suc w.0) lt) w.2);
  every = λ s j x range lt u. k.every s j x (packet_on old st x g range) lt (under_on old st (later_level ls j) s x g (sets (suc j) (omega (arith, lt))) u);
  packets = k.packets;
  once = k.once;
}

-- one row more
pub rows_more : (P : ℕ → RowValue → Type 0) (sets : List ℕ) (rows : List RowValue) (s : ℕ) (r : RowValue) → HaveRows P sets rows → P s r
    → HaveRows P (sets ++ s ∷ []) (rows ++ r ∷ [])
rows_more P [] [] s r h k = (k, tt)
rows_more P [] (q ∷ qs) s r h k = absurd h
rows_more P (t ∷ ts) [] s r h k = absurd h
rows_more P (t ∷ ts) (q ∷ qs) s r h k = (h.0, rows_more P ts qs s r h.1 k)

-- rows of which less is said
rows_weaker : (P Q : ℕ → RowValue → Type 0) → ((s : ℕ) (r : RowValue) → P s r → Q s r) → (sets : List ℕ) (rows : List RowValue) → HaveRows P sets rows
    → HaveRows Q sets rows
rows_weaker P Q f [] [] h = tt
rows_weaker P Q f [] (r ∷ rs) h = absurd h
rows_weaker P Q f (s ∷ ss) [] h = absurd h
rows_weaker P Q f (s ∷ ss) (r ∷ rs) h = (f s r h.0, rows_weaker P Q f ss rs h.1)

-- a set that entries name is one of those that are known of all
named_known_of : (ps : List (ℕ × ℕ)) (n s : ℕ) → Named ps s → All (λ p. p.0 < n) ps → s < n
named_known_of [] n s h a = absurd h
named_known_of (p ∷ ps) n s h a =
    ⊎_elim
    (λ e. subst (λ k. k < n) e (All-head (λ (q : ℕ × ℕ). q.0 < n) p ps a))
    (λ k. named_known_of ps n s k (All-tail (λ (q : ℕ × ℕ). q.0 < n) p ps a))
    h

-- the sets that later levels name are known
pub later_known : (ss : List (List ℕ)) (ls : List (List (ℕ × ℕ))) (sets : List ℕ) → AreEntries ss ls → AreLaterSets ss ls sets
    → All (λ s. s < length ss) sets
later_known ss ls sets entries k =
    all_from_members (λ s. s < length ss) sets (λ s i.
    let w = (k.exactly s).0 (contains_from_in sets s i) in
    named_known_of (later_level ls w.0) (length ss) s w.1 (entries (suc w.0) (named_within ls (suc w.0) s w.1)).0)

module _ (old final : StoreState) (ss : List (List ℕ)) (ls : List (List (ℕ × ℕ))) (met : List (ℕ × ℕ)) (none : ℕ) (k : AreLaterPackets old ls (length ls - 1) final met) (leaves : HasLeaves final none (λ pk. [])) where
  -- the packets of a row are all those under its set
  row_packets : (s : ℕ) (x : List ℕ) → IsStorePacket old x → (is_in final (packets_at met none s) x ≡ true) ↔ ((j : ℕ) × Under old (later_level ls j) s x)
  row_packets s x range = by (lookup (eqb s) met) refl
    where
      under_some : (j : ℕ) → Under old (later_level ls j) s x → Under final met s x
      under_some j u =
          let lt = named_within ls (suc j) s (under_named old (later_level ls j) s x u) in
          k.every s j x range (omega (arith, lt)) u

      by : (o : Option ℕ) → lookup (eqb s) met ≡ o → (is_in final (unwrap_or o none) x ≡ true) ↔ ((j : ℕ) × Under old (later_level ls j) s x)
      by (Some d) e = (
        λ h. let w = k.from s x range (found_under final met s d x e h) in (w.0, w.2),
        λ u. under_found final met s d x k.once e (under_some u.0 u.1),
      )
      by None e = (
        λ h. let z : false ≡ true = sym (ap has_some_out (leaves.leaf x range.0)) ∙ h in absurd cc,
        λ u. absurd (not_found met s e (under_named final met s x (under_some u.0 u.1))),
      )

  -- a row by its packets is the row of its set
  row_of : (s : ℕ) (r : RowValue) → IsRowBy final ss met none s r → IsRowOf old final ss ls s r
  row_of s r h = record {
    positions = h.positions;
    all = packets_at met none s;
    set = h.set;
    predicate = h.predicate;
    packets = λ x range. row_packets s x range;
  }

  -- rows of all sets in order are the certificate
  pub certificate_made : (sets : List ℕ) (c : CertificateValue) → AreLaterSets ss ls sets → c.start ≡ id_policy
      → HaveRows (IsRowBy final ss met none) sets c.rows → IsCertificateOf old final ss ls c
  certificate_made sets c o start rows = record {
    start = start;
    sets = sets;
    exactly = o.exactly;
    in_order = o.in_order;
    rows = rows_weaker (IsRowBy final ss met none) (λ s r. IsRowOf old final ss ls s r) row_of sets c.rows rows;
  }
