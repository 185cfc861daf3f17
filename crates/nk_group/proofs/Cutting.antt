-- States cut to a switch do there what the states do.
use Rattle.std.proofs.Common.{◌≡◌, ℕ, ◌+◌, ◌<◌, ◌↔◌, List, length, sym, ◌∙◌, ap, subst, arith, get_or, set}
use Rattle.std.specs.Prelude.{All}
use Rattle.std.specs.List.{Contains}
use Rattle.std.proofs.lemmas.List.{set-get_or}
use Rattle.nk_store.specs.declared.node.Out.{Out}
use Rattle.nk_store.specs.Nodes.{InRange}
use Rattle.nk_store.specs.StoreState.{StoreState, IsId, IsStorePacket, look, Grows, HasLeaves}
use Rattle.nk_apply.specs.Unions.{AreIds}
use Rattle.nk_determ.specs.Exact.{AreExact, Sends}
use Rattle.nk_determ.specs.States.{SomeLeads, AreLedTo, StateLeads, HaveEach}
use Rattle.nk_determ.proofs.StatesAt.{at_state, from_state, met_same}
use Rattle.nk_group.specs.States.{IsStateAtSwitch}

-- what states at these places have at one value of the switch
abbrev pub cut_each : StoreState → List ℕ → List ℕ → ℕ → ℕ → List ℕ → List Out
cut_each st states members sw k pk = look st (get_or states (get_or members k 0) 0) (set pk 0 sw)

-- a state is cut in a store that grew
pub cut_before : (old st new : StoreState) (states members : List ℕ) (k state d sw : ℕ) → Grows old st → IsId old state → state ≡ get_or states (get_or members k 0) 0 →
    HasLeaves new d (λ pk. look st state (set pk 0 sw)) → HasLeaves new d (cut_each old states members sw k)
cut_before old st new states members k state d sw g id is one = record {
  id = one.id;
  leaf = λ pk w. one.leaf pk w ∙ g.leaves state (set pk 0 sw) id ∙ ap (λ j. look old j (set pk 0 sw)) is;
}

module _ (old mid new : StoreState) (states members cut : List ℕ) (sw : ℕ) (first : Grows old mid) (then : Grows mid new) (ids : AreIds old states)
    (inside : All (λ l. l < length states) members) (same : length cut ≡ length members) (all : HaveEach mid cut (cut_each old states members sw) (length cut)) where
  -- at a packet of the switch the cut state has the state's leaf
  look_cut : (k : ℕ) → k < length members → (pk : List ℕ) → IsStorePacket mid pk → get_or pk 0 0 ≡ sw → look mid (get_or cut k 0) pk ≡ look new (get_or states (get_or members k 0) 0) pk
  look_cut k lt pk p here =
      let state = get_or states (get_or members k 0) 0 in
      let id : IsId old state = ids (get_or members k 0) (inside k 0 lt) in
      (all k (omega (arith, lt, same))).leaf pk p.0 ∙ ap (look old state) (ap (λ v. set pk 0 v) (sym here) ∙ set-get_or pk 0 0) ∙ sym (first.leaves state pk id) ∙ sym (then.leaves state pk (first.ids state id))

  -- so they lead where the states do
  pub cut_leads : (pk y : List ℕ) (t : ℕ) → IsStorePacket mid pk → get_or pk 0 0 ≡ sw → SomeLeads mid cut pk y t ↔ StateLeads new states members pk y t
  cut_leads pk y t p here = (
    λ s. at_state states members cut same (λ d. Sends mid d pk y t) (λ d. Sends new d pk y t) (λ k lt q. (q.0, subst (λ os. Contains os (record { act = q.0; target = t })) (look_cut k lt pk p here) q.1, q.2)) s,
    λ s. from_state states members cut same (λ d. Sends mid d pk y t) (λ d. Sends new d pk y t) (λ k lt q. (q.0, subst (λ os. Contains os (record { act = q.0; target = t })) (sym (look_cut k lt pk p here)) q.1, q.2)) s,
  )

  -- the set state of the cut states is that of the states at the switch
  pub state_cut : (sets : List (List ℕ)) (d : ℕ) → IsId new d → AreExact new d →
      ((pk y : List ℕ) → IsStorePacket mid pk → Sends new d pk y 0 ↔ SomeLeads mid cut pk y 0) →
      ((pk y : List ℕ) (i : ℕ) → IsStorePacket mid pk → Sends new d pk y (i + 1) → AreLedTo sets mid cut pk y i) →
      ((pk y : List ℕ) (l : ℕ) → IsStorePacket mid pk → 0 < l → SomeLeads mid cut pk y l → (i : ℕ) × Sends new d pk y (i + 1)) →
      IsStateAtSwitch new sets states members sw d
  state_cut sets d id exact ends leads led = record {
    id = id;
    exact = exact;
    ends = λ pk y p here.
        let e = ends pk y (before pk p) in
        let c = cut_leads pk y 0 (before pk p) here in
        (λ s. c.0 (e.0 s), λ r. e.1 (c.1 r));
    leads = λ pk y i p here s.
        met_same sets i (λ l. SomeLeads mid cut pk y l) (λ l. StateLeads new states members pk y l) (λ l. cut_leads pk y l (before pk p) here) (leads pk y i (before pk p) s);
    led = λ pk y l p here pos r. led pk y l (before pk p) pos ((cut_leads pk y l (before pk p) here).1 r);
  }
    where
      before : (pk : List ℕ) → IsStorePacket new pk → IsStorePacket mid pk
      before pk p = subst (λ m. InRange m pk) then.maxes p
