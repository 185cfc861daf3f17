-- The diagram of a set state by packets: at a packet in range equal packets are made by equal exact acts.
use Rattle.std.proofs.Common.{◌≡◌, ℕ, ◌+◌, ◌<◌, ◌↔◌, List, [], ◌∷◌, refl, sym, ◌∙◌, ap, subst, inl, inr}
use Rattle.std.specs.List.{Contains}
use Rattle.nk_field.specs.Act.{applied}
use Rattle.nk_store.specs.declared.node.Out.{Out}
use Rattle.nk_store.specs.Leaves.{IsActFrom, Suits}
use Rattle.nk_store.specs.StoreState.{StoreState, IsStorePacket, look, AreTidy}
use Rattle.nk_apply.proofs.Members.{Has, has_contains, contains_has, every_has, gathered_has, has_gathered}
use Rattle.nk_determ.specs.Exact.{exact, exact_out, split_leaf, IsExact, Sends}
use Rattle.nk_determ.specs.States.{SomeSends, SomeLeads, AreLedTo, IsStateOf}
use Rattle.nk_determ.proofs.Exacts.{exact_acts}
use Rattle.nk_determ.proofs.Laws.{exact_applied, exact_changes, exact_one}
use Rattle.nk_determ.proofs.Regrouped.{finals_are, next_is, next_comes, next_from}

-- the member of a list of one
only : {X : Type 0} {a o : X} → Has (a ∷ []) o → a ≡ o
only (inl e) = e
only (inr k) = absurd k

-- what a split leaf sends is made of an out of the leaf
split_from : (maxes pk : List ℕ) (os : List Out) (g : List (ℕ × ℕ)) (t : ℕ) → Contains (split_leaf maxes pk os) (record { act = g; target = t }) →
    (h : List (ℕ × ℕ)) × Has os (record { act = h; target = t }) × (exact maxes pk h ≡ g)
split_from maxes pk os g t c =
    let s = has_gathered (λ x. exact_out maxes pk x ∷ []) os (record { act = g; target = t }) (contains_has (split_leaf maxes pk os) (record { act = g; target = t }) c) in
    let is : exact_out maxes pk s.0 ≡ record { act = g; target = t } = only s.2 in
    let to : s.0.target ≡ t = ap (λ (x : Out). x.target) is in
    let from : s.0 ≡ record { act = s.0.act; target = t } = ap (λ u. record { act = s.0.act; target = u }) to in
    (s.0.act, subst (Has os) from s.1, ap (λ (x : Out). x.act) is)

-- and the other way round
from_split : (maxes pk : List ℕ) (os : List Out) (h : List (ℕ × ℕ)) (t : ℕ) → Has os (record { act = h; target = t }) → Contains (split_leaf maxes pk os) (record { act = exact maxes pk h; target = t })
from_split maxes pk os h t m =
    has_contains (split_leaf maxes pk os) (record { act = exact maxes pk h; target = t })
    (gathered_has (λ x. exact_out maxes pk x ∷ []) os (record { act = h; target = t }) (record { act = exact maxes pk h; target = t }) m (inl refl))

module _ (st : StoreState) (tidy : AreTidy st) (ds pk : List ℕ) (p : IsStorePacket st pk) where
  -- a diagram's act is in range
  act_within : (l : ℕ) (h : List (ℕ × ℕ)) (t : ℕ) → Has (look st l pk) (record { act = h; target = t }) → IsActFrom st.maxes 0 h
  act_within l h t m = every_has (Suits st.maxes) (look st l pk) (record { act = h; target = t }) ((tidy l).suits pk) m

  -- what a diagram sends by an act it sends as a packet
  to_lead : (g : List (ℕ × ℕ)) (t : ℕ) → SomeSends st ds pk g t → SomeLeads st ds pk (applied g pk) t
  to_lead g t s =
      let f = split_from st.maxes pk (look st s.0 pk) g t s.2 in (
        s.0,
        s.1,
        (
          f.0,
          has_contains (look st s.0 pk) (record { act = f.0; target = t }) f.1,
          ap (λ a. applied a pk) (sym f.2) ∙ exact_applied st.maxes pk pk 0 f.0 p p.0 (act_within s.0 f.0 t f.1) (λ j l. refl),
        ),
      )

  -- and the other way round
  from_lead : (y : List ℕ) (t : ℕ) → SomeLeads st ds pk y t → (g : List (ℕ × ℕ)) × SomeSends st ds pk g t × (y ≡ applied g pk)
  from_lead y t s =
      let h = s.2.0 in
      let m = contains_has (look st s.0 pk) (record { act = h; target = t }) s.2.1 in (
        exact st.maxes pk h,
        (s.0, s.1, from_split st.maxes pk (look st s.0 pk) h t m),
        s.2.2 ∙ sym (exact_applied st.maxes pk pk 0 h p p.0 (act_within s.0 h t m) (λ j l. refl)),
      )

  -- what a diagram sends is by an exact act in range
  sent_act : (g : List (ℕ × ℕ)) (t : ℕ) → SomeSends st ds pk g t → IsActFrom st.maxes 0 g × IsExact pk g
  sent_act g t s =
      let f = split_from st.maxes pk (look st s.0 pk) g t s.2 in (
        subst (IsActFrom st.maxes 0) f.2 (exact_acts st.maxes pk 0 f.0 (act_within s.0 f.0 t f.1)),
        subst (IsExact pk) f.2 (exact_changes st.maxes pk f.0 p),
      )

  -- acts of diagrams that make one packet are one
  one_act : (g h : List (ℕ × ℕ)) (t u : ℕ) → SomeSends st ds pk g t → SomeSends st ds pk h u → applied g pk ≡ applied h pk → g ≡ h
  one_act g h t u a b e =
      let x = sent_act g t a in
      let y = sent_act h u b in
      exact_one st.maxes pk 0 g h p.0 x.0 y.0 x.1 y.1 e

  -- diagrams send as a packet what they send by the act that makes it
  lead_is : (g : List (ℕ × ℕ)) (t l : ℕ) → SomeSends st ds pk g t → SomeSends st ds pk g l ↔ SomeLeads st ds pk (applied g pk) l
  lead_is g t l a = (
    λ s. to_lead g l s,
    λ s. let f = from_lead (applied g pk) l s in subst (λ h. SomeSends st ds pk h l) (sym (one_act g f.0 t l a f.1 f.2)) f.1,
  )

module _ (old mid new : StoreState) (sets : List (List ℕ)) (ds : List ℕ) (d r : ℕ) (k : IsStateOf old mid new sets ds d r) (tidy : AreTidy old) where
  -- where a set state ends
  pub ends_are : (pk y : List ℕ) → IsStorePacket old pk → Sends new r pk y 0 ↔ SomeLeads old ds pk y 0
  ends_are pk y p = (
    λ s. subst (λ q. SomeLeads old ds pk q 0) (sym s.2) (to_lead old tidy ds pk p s.0 0 ((finals_are old mid new sets ds d r k pk s.0 p.0).0 s.1)),
    λ s. let f = from_lead old tidy ds pk p y 0 s in (f.0, (finals_are old mid new sets ds d r k pk f.0 p.0).1 f.1, f.2),
  )

  -- where it leads
  pub led_to : (pk y : List ℕ) (i : ℕ) → IsStorePacket old pk → Sends new r pk y (i + 1) → AreLedTo sets old ds pk y i
  led_to pk y i p s =
      let n = next_is old mid new sets ds d r k pk s.0 i p.0 s.1 in
      let a = next_from old mid new sets ds d r k pk s.0 i p.0 s.1 in
      record {
        within = n.within;
        some = n.some;
        every = λ l.
            let e = lead_is old tidy ds pk p s.0 a.0 l a.1 in (
              λ m. let q = (n.every l).0 m in (q.0, subst (λ z. SomeLeads old ds pk z l) (sym s.2) (e.0 q.1)),
              λ q. (n.every l).1 (q.0, e.1 (subst (λ z. SomeLeads old ds pk z l) s.2 q.1)),
            );
      }

  -- it leads wherever some label does
  pub led_on : (pk y : List ℕ) (l : ℕ) → IsStorePacket old pk → 0 < l → SomeLeads old ds pk y l → (i : ℕ) × Sends new r pk y (i + 1)
  led_on pk y l p m s =
      let f = from_lead old tidy ds pk p y l s in
      let c = next_comes old mid new sets ds d r k pk f.0 l p.0 m f.1 in
      (c.0, (f.0, c.1, f.2))
