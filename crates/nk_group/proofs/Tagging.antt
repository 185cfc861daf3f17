-- The tags of targets: one tag more in the table, and where a state sends by the table.
use Rattle.std.proofs.Common.{◌≡◌, ℕ, zero, suc, ◌+◌, ◌<◌, ◌≤◌, ⊎_elim, Option, Some, None, List, [], length, sym, ap, subst, ◌∙◌, arith, get_or}
use Rattle.std.specs.Prelude.{slice_index, Contains, All}
use Rattle.nk_store.specs.StoreState.{StoreState, IsStorePacket}
use Rattle.nk_determ.specs.Exact.{Sends}
use Rattle.nk_determ.specs.Sets.{HasEachSetOnce, HasAscendingSets, SetsGrow}
use Rattle.nk_group.specs.States.{IsStateAtSwitch}
use Rattle.nk_group.specs.Tagged.{set_of_tag, LeadsWith, SendsBy, IsTagTable, AreOnce}
use Rattle.nk_group.proofs.Growing.{tag_set_kept}
use Rattle.nk_group.proofs.Printing.{some_member, one_set}

-- equal values that are there
pub same_some : (a b : ℕ) → Some a ≡ Some b → a ≡ b
same_some a b e = cc

-- tags stay once while the sets grow
pub once_kept : (ss more : List (List ℕ)) (tags : List ℕ) → SetsGrow ss more → All (λ s. s < length ss) tags → AreOnce ss tags → AreOnce more tags
once_kept ss more tags g known once i j a b some e = once i j a b (λ none. some (tag_set_kept ss more tags i g known a ∙ none)) e

module _ (st : StoreState) (first ss : List (List ℕ)) (states tags members : List ℕ) (sw d : ℕ) (table : List (Option ℕ)) (differ : HasEachSetOnce ss) (ascend : HasAscendingSets ss)
    (grew : SetsGrow first ss) (known : All (λ s. s < length first) tags) (more : length first ≤ length ss)
    (is : IsTagTable (length tags) ss tags table) (state : IsStateAtSwitch st ss states members sw d) where
  -- a tag's set is the one of the beginning
  same_set : (i : ℕ) → i < length tags → get_or ss (get_or tags i 0) [] ≡ set_of_tag first tags i
  same_set i lt = tag_set_kept first ss tags i grew known lt

  -- where the table sends is where the states lead with a tag
  pub sends_leads : (pk y : List ℕ) (t : ℕ) → IsStorePacket st pk → slice_index pk 0 ≡ sw → SendsBy st table d pk y t → LeadsWith st first states tags members pk y t
  sends_leads pk y t p here s =
      ⊎_elim
      (λ z. subst (λ n. LeadsWith st first states tags members pk y n) (sym z.1) ((state.ends pk y p here).0 (subst (λ u. Sends st d pk y u) z.0 s.1)))
      (λ i.
      let l = state.leads pk y (get_or tags i.0 0) p here (subst (λ u. Sends st d pk y u) i.2 s.1) in
      let same = same_set i.0 i.1 in
      let next : suc i.0 ≡ t = let e = i.3 in omega (arith, e) in
      subst (λ n. LeadsWith st first states tags members pk y n) next (
        i.1,
        (λ e. l.some (same ∙ e)),
        λ m. (λ c. (l.every m).0 (subst (λ x. Contains x m) (sym same) c), λ q. subst (λ x. Contains x m) same ((l.every m).1 q)),
      ))
      (is.only s.0 t s.2)

  pub leads_sends : (pk y : List ℕ) (t : ℕ) → IsStorePacket st pk → slice_index pk 0 ≡ sw → LeadsWith st first states tags members pk y t → SendsBy st table d pk y t
  leads_sends pk y zero p here h = (0, (state.ends pk y p here).1 h, is.zero_is)
  leads_sends pk y (suc t) p here h =
      let same = same_set t h.0 in
      let m = some_member (set_of_tag first tags t) h.1 in
      let q = (h.2 m.0).0 m.1 in
      let i = state.led pk y m.0 p here q.0 q.1 in
      let l = state.leads pk y i.0 p here i.1 in
      let inside : get_or tags t 0 < length ss = let a = known t 0 h.0 in omega (arith, a, more) in
      let one : i.0 ≡ get_or tags t 0 =
      one_set ss i.0 (get_or tags t 0) differ ascend l.within inside
      (λ x c. subst (λ z. Contains z x) (sym same) ((h.2 x).1 ((l.every x).0 c)))
      (λ x c. (l.every x).1 ((h.2 x).0 (subst (λ z. Contains z x) same c))) in
      let next : t + 1 ≡ suc t = omega arith in
      (i.0 + 1, i.1, ap (λ u. get_or table (u + 1) None) one ∙ is.tagged t h.0 (λ e. h.1 (sym same ∙ e)) ∙ ap Some next)
