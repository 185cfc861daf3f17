-- The rows of states with each label twice, one after the other.
use Rattle.std.proofs.Common.{◌≡◌, ℕ, ◌+◌, ◌-◌, ◌^◌, ◌<◌, Option, Some, None, inl, inr, ⊎_elim, List, [], ◌∷◌, ◌++◌, length, get_or, refl, sym, ap, subst, ◌∙◌, arith, cond, eqb}
use Rattle.std.specs.Prelude.{◌↔◌, slice_index, slice_index_or}
use Rattle.std.specs.Map.{lookup}
use Rattle.std.proofs.lemmas.Bool.Decides.{leb_tells}
use Rattle.nk_store.specs.declared.node.Out.{Out}
use Rattle.nk_store.specs.StoreState.{StoreState, IsId, IsStorePacket, look, Grows, HasLeaves}
use Rattle.nk_store.proofs.Stores.{grows_on}
use Rattle.nk_apply.specs.Unions.{AreIds}
use Rattle.nk_apply.proofs.Members.{Has, contains_has, has_contains, gathered_has, has_gathered}
use Rattle.nk_determ.specs.Exact.{Sends}
use Rattle.nk_determ.specs.Targets.{option_out, out_by_table, retargeted}
use Rattle.nk_determ.specs.Pairs.{AreLabelsBelow, AreStates}
use Rattle.nk_reach.specs.Sides.{alone, ends_of, AreOneSided, IsPropertyOfEnds}
use Rattle.nk_sets.proofs.Kept.{packet_on, packet_back}
use Rattle.nk_goal.proofs.Growing.{sends_on, sends_back, states_grow}
use Rattle.nk_merge.specs.DisjointCopies.{again, label_count, AreDisjointCopies, IsDisjointCopy, IsDisjointCopyUpTo, IsMadeBy, AreMadeBy}
use Rattle.nk_merge.specs.declared.disjoint_copy.DisjointCopy.{DisjointCopy}
use Rattle.nk_merge.proofs.Marks.{again_is}
use Rattle.nk_reach.proofs.OneSided.{table_put}
use Rattle.nk_merge.proofs.Numbering.{before, last_is, longer, last_or_before}
use Rattle.nk_merge.proofs.Growing.{one_sided_on, rows_on}

-- an act to what a table has
option_has : (a : List (ℕ × ℕ)) (q : Option ℕ) (o : Out) → Has (option_out a q) o → (t : ℕ) × (q ≡ Some t) × ((record { act = a; target = t }) ≡ o)
option_has a None o h = absurd h
option_has a (Some t) o (inl e) = (t, refl, e)
option_has a (Some t) o (inr h) = absurd h

-- what is there twice is one
some_one : (a b : ℕ) → Some a ≡ Some b → a ≡ b
some_one a b e = cc

-- a diagram with targets by a table sends what it sent to what the table has
module _ (st new : StoreState) (table : List (Option ℕ)) (d r : ℕ) (h : HasLeaves new r (λ pk. retargeted table (look st d pk))) (pk y : List ℕ) (p : IsStorePacket st pk) (t : ℕ) where
  by_table : Sends new r pk y t → (u : ℕ) × Sends st d pk y u × (get_or table u None ≡ Some t)
  by_table s =
      let a = s.0 in
      let m = has_gathered (out_by_table table) (look st d pk) (record { act = a; target = t }) (subst (λ os. Has os (record { act = a; target = t })) (h.leaf pk p.0) (contains_has (look new r pk) (record { act = a; target = t }) s.1)) in
      let o = option_has m.0.act (get_or table m.0.target None) (record { act = a; target = t }) m.2 in
      let act : m.0.act ≡ a = ap (λ (x : Out). x.act) o.2 in
      let to : o.0 ≡ t = ap (λ (x : Out). x.target) o.2 in
      let there : Has (look st d pk) (record { act = a; target = m.0.target }) = subst (λ x. Has (look st d pk) (record { act = x; target = m.0.target })) act m.1 in
      (m.0.target, (a, has_contains (look st d pk) (record { act = a; target = m.0.target }) there, s.2), o.1 ∙ ap Some to)

  to_table : (u : ℕ) → Sends st d pk y u → get_or table u None ≡ Some t → Sends new r pk y t
  to_table u s e =
      let a = s.0 in
      let made : Has (option_out a (get_or table u None)) (record { act = a; target = t }) = subst (λ q. Has (option_out a q) (record { act = a; target = t })) (sym e) (inl refl) in
      let all = gathered_has (out_by_table table) (look st d pk) (record { act = a; target = u }) (record { act = a; target = t }) (contains_has (look st d pk) (record { act = a; target = u }) s.1) made in
      (a, has_contains (look new r pk) (record { act = a; target = t }) (subst (λ os. Has os (record { act = a; target = t })) (sym (h.leaf pk p.0)) all), s.2)

module _ (old mid new : StoreState) (states rows : List ℕ) (n row : ℕ) (table : List (Option ℕ)) (begun : Grows old mid) (grows : Grows mid new) (ok : AreStates old states) (some : 0 < n) (lt : n < length states)
    (k : IsDisjointCopyUpTo old mid states rows n)
    (is : (t : ℕ) → t < length states → slice_index_or table t None ≡ Some (again (label_count states) t))
    (h : HasLeaves new row (λ pk. retargeted table (look mid (slice_index states n) pk))) where
  -- an earlier row, and the new one
  earlier : (l : ℕ) → 0 < l → l < n → slice_index (rows ++ row ∷ []) (again (label_count states) l) ≡ slice_index rows (again (label_count states) l)
  earlier l above less =
      let e = again_is (label_count states) l above in
      before rows row (again (label_count states) l) (omega (arith, e, less, lt, k.count))

  newest : slice_index (rows ++ row ∷ []) (again (label_count states) n) ≡ row
  newest = last_is rows row (again (label_count states) n) (omega (arith, again_is (label_count states) n some, lt, k.count))

  -- the new row does what the state does, to labels that are marked again
  new_sends : (pk y : List ℕ) (t : ℕ) → IsStorePacket old pk
      → Sends new row pk y t ↔ ((u : ℕ) × Sends old (slice_index states n) pk y u × (t ≡ again (label_count states) u))
  new_sends pk y t r =
      let q : IsStorePacket mid pk = packet_on old mid pk begun r in
      let id = ok.ids n lt in (
        λ s.
            let b = by_table mid new table (slice_index states n) row h pk y q t s in
            let was : Sends old (slice_index states n) pk y b.0 = sends_back old mid (slice_index states n) pk y b.0 begun id b.1 in
            let within : b.0 < length states = ok.targets n pk y b.0 lt r was in
            (b.0, was, some_one t (again (label_count states) b.0) (sym b.2 ∙ is b.0 within)),
        λ s.
            let within : s.0 < length states = ok.targets n pk y s.0 lt r s.1 in
            to_table mid new table (slice_index states n) row h pk y q t s.0 (sends_on old mid (slice_index states n) pk y s.0 begun id s.1)
            (is s.0 within ∙ ap Some (sym s.2)),
      )

  -- one label more
  pub one_again : IsDisjointCopyUpTo old new states (rows ++ row ∷ []) (n + 1)
  one_again = record {
    count = omega (arith, longer rows row, k.count);
    once = λ l less. before rows row l (omega (arith, less, k.count, some)) ∙ k.once l less;
    ids = λ l above less.
        ⊎_elim
        (λ old_one. subst (λ d. IsId new d) (sym (earlier l above old_one)) (grows.ids (get_or rows (again (label_count states) l) 0) (k.ids l above old_one)))
        (λ e. subst (λ d. IsId new d) (sym (ap (λ j. slice_index (rows ++ row ∷ []) (again (label_count states) j)) e ∙ newest)) h.id)
        (last_or_before n l (omega (arith, less)));
    disjoint = λ l pk y t above less r.
        ⊎_elim
        (λ old_one. by_earlier l pk y t above old_one r)
        (λ e. by_newest l pk y t e r)
        (last_or_before n l (omega (arith, less)));
  }
    where
      by_earlier : (l : ℕ) (pk y : List ℕ) (t : ℕ) → 0 < l → l < n → IsStorePacket old pk
          → Sends new (slice_index (rows ++ row ∷ []) (again (label_count states) l)) pk y t
          ↔ ((u : ℕ) × Sends old (slice_index states l) pk y u × (t ≡ again (label_count states) u))
      by_earlier l pk y t above old_one r =
          let e = earlier l above old_one in
          let b = k.disjoint l pk y t above old_one r in
          let id = k.ids l above old_one in (
            λ s. b.0 (sends_back mid new (get_or rows (again (label_count states) l) 0) pk y t grows id (subst (λ d. Sends new d pk y t) e s)),
            λ s. subst (λ d. Sends new d pk y t) (sym e) (sends_on mid new (get_or rows (again (label_count states) l) 0) pk y t grows id (b.1 s)),
          )

      by_newest : (l : ℕ) (pk y : List ℕ) (t : ℕ) → l ≡ n → IsStorePacket old pk
          → Sends new (slice_index (rows ++ row ∷ []) (again (label_count states) l)) pk y t
          ↔ ((u : ℕ) × Sends old (slice_index states l) pk y u × (t ≡ again (label_count states) u))
      by_newest l pk y t e r =
          let at = ap (λ j. slice_index (rows ++ row ∷ []) (again (label_count states) j)) e ∙ newest in
          let b = new_sends pk y t r in (
            λ s. let w = b.0 (subst (λ d. Sends new d pk y t) at s) in (w.0, subst (λ j. Sends old (slice_index states j) pk y w.0) (sym e) w.1, w.2),
            λ s. subst (λ d. Sends new d pk y t) (sym at) (b.1 (s.0, subst (λ j. Sends old (slice_index states j) pk y s.0) e s.1, s.2)),
          )

-- all labels
pub all_again : (old new : StoreState) (states rows : List ℕ) (n : ℕ) → Grows old new → AreStates old states → 0 < length states → n ≡ length states
    → IsDisjointCopyUpTo old new states rows n → AreDisjointCopies new states rows
all_again old new states rows n g ok some e k = record {
  some = some;
  count = omega (arith, k.count, e);
  ids = λ i lt. id_at i lt;
  once = k.once;
  disjoint = λ l pk y t above less r.
      let b = k.disjoint l pk y t above (omega (arith, less, e)) (packet_back old new pk g r) in (
        λ s. let w = b.0 s in (w.0, sends_on old new (get_or states l 0) pk y w.0 g (ok.ids l less) w.1, w.2),
        λ s. b.1 (s.0, sends_back old new (get_or states l 0) pk y s.0 g (ok.ids l less) s.1, s.2),
      );
}
  where
    id_at : (i : ℕ) → i < length rows → IsId new (slice_index rows i)
    id_at i lt =
        ⊎_elim
        (λ high.
        let l : ℕ = i - label_count states in
        let above : 0 < l = omega (arith, high.1, some) in
        let less : l < n = omega (arith, lt, k.count, high.1, some) in
        let is : again (label_count states) l ≡ i = again_is (label_count states) l above ∙ omega (arith, high.1, some) in
        subst (λ j. IsId new (slice_index rows j)) is (k.ids l above less))
        (λ low. subst (λ d. IsId new d) (sym (k.once i low.1)) (g.ids (get_or states i 0) (ok.ids i low.1)))
        (leb_tells (length states) i)

-- with a goal of ends of one copy alone
pub made_twice : (old mid new : StoreState) (states rows given : List ℕ) (start : ℕ) (t : DisjointCopy) → AreStates old states → length states + length states < 2 ^ 64
    → Grows old mid → Grows mid new → AreDisjointCopies mid states rows → given ≡ rows → start ≡ slice_index states 0 → t.rows ≡ rows
    → IsPropertyOfEnds new t.goal.ends t.goal.seen.entries → length t.goal.ends ≡ length given
    → ((set pk : List ℕ) → AreLabelsBelow (length given) set → IsStorePacket mid pk → AreOneSided mid given start start (length states) set pk (alone (ends_of new t.goal.ends set pk)))
    → IsDisjointCopy new states t
made_twice old mid new states rows given start t ok few begun grows disjoint same first rows_is fits labels sides = record {
  states_are = states_grow old new states (grows_on old mid new begun grows) ok;
  few = few;
  rows = subst (λ r. AreDisjointCopies new states r) (sym rows_is) (rows_on mid new states rows grows states_mid disjoint);
  fits = fits;
  labels = labels ∙ ap length (same ∙ sym rows_is);
  sides = λ set pk places range.
      let one : given ≡ t.rows = same ∙ sym rows_is in
      let there : AreLabelsBelow (length given) set = subst (λ r. AreLabelsBelow (length r) set) (sym one) places in
      let kept = one_sided_on mid new given start (length states) set pk (alone (ends_of new t.goal.ends set pk)) grows
      (subst (λ d. IsId mid d) (sym first) (states_mid.ids 0 disjoint.some)) (subst (λ r. AreIds mid r) (sym same) disjoint.ids) there (sides set pk there (packet_back mid new pk grows range)) in
      subst (λ r. AreOneSided new r (slice_index states 0) (slice_index states 0) (length states) set pk (alone (ends_of new t.goal.ends set pk))) one
      (subst (λ d. AreOneSided new given d d (length states) set pk (alone (ends_of new t.goal.ends set pk))) first kept);
}
  where
    states_mid : AreStates mid states
    states_mid = states_grow old mid states begun ok

-- what is made of states stays so as the store grows, with one state more
made_on : (a b : StoreState) (table : List (Option ℕ)) (entries : List (ℕ × ℕ)) → Grows a b → AreMadeBy a table entries → AreMadeBy b table entries
made_on a b table entries g k state r e =
    let s = k state r e in
    record {
      state_id = g.ids state s.state_id;
      leaves = record {
        id = g.ids r s.leaves.id;
        leaf = λ pk w. g.leaves r pk s.leaves.id ∙ s.leaves.leaf pk w ∙ sym (ap (retargeted table) (g.leaves state pk s.state_id));
      };
    }

pub made_more : (a b : StoreState) (table : List (Option ℕ)) (state r : ℕ) (entries after : List (ℕ × ℕ)) → Grows a b → IsId a state → AreMadeBy a table entries
    → HasLeaves b r (λ pk. retargeted table (look a state pk))
    → ((q : ℕ) → lookup (eqb q) after ≡ cond (eqb state q) (Some r) (lookup (eqb q) entries)) → AreMadeBy b table after
made_more a b table state r entries after g id k h put =
    table_put (λ q v. IsMadeBy b table q v) state r entries after (made_on a b table entries g k)
    (record {
      state_id = g.ids state id;
      leaves = record { id = h.id; leaf = λ pk w. h.leaf pk w ∙ sym (ap (retargeted table) (g.leaves state pk id)) };
    })
    put
