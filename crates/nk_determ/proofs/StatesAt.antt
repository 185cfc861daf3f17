-- What states at labels do is what the list of their diagrams does.
use Rattle.std.proofs.Common.{◌≡◌, ℕ, ◌<◌, ◌↔◌, List, length, sym, ◌∙◌, ap, subst, arith, get_or}
use Rattle.std.specs.Prelude.{All, map}
use Rattle.std.specs.List.{Contains}
use Rattle.std.proofs.lemmas.List.{get_or_default, get_or-map, length-map}
use Rattle.nk_store.specs.StoreState.{StoreState, IsId, look}
use Rattle.nk_apply.specs.Unions.{AreIds}
use Rattle.nk_determ.specs.Exact.{split_leaf, Sends}
use Rattle.nk_determ.specs.States.{SomeSends, SomeLeads, StateSends, StateLeads, IsSetOfMet}

module _ (states labels ds : List ℕ) (len : length ds ≡ length labels) (P Q : ℕ → Type 0) where
  -- one of the states at these labels is one of as many diagrams
  pub at_state : ((k : ℕ) → k < length labels → P (get_or ds k 0) → Q (get_or states (get_or labels k 0) 0)) → (d : ℕ) × Contains ds d × P d → (l : ℕ) × Contains labels l × Q (get_or states l 0)
  at_state go s =
      let k = s.1.0 in
      let within : k < length labels = omega (arith, s.1.1, len) in
      let is : s.0 ≡ get_or ds k 0 = sym s.1.2 ∙ get_or_default ds k s.0 0 s.1.1 in
      let l = get_or labels k 0 in
      (l, (k, within, get_or_default labels k l 0 within), go k within (subst P is s.2))

  -- and the other way round
  pub from_state : ((k : ℕ) → k < length labels → Q (get_or states (get_or labels k 0) 0) → P (get_or ds k 0)) → (l : ℕ) × Contains labels l × Q (get_or states l 0) → (d : ℕ) × Contains ds d × P d
  from_state go s =
      let k = s.1.0 in
      let within : k < length ds = omega (arith, s.1.1, len) in
      let is : s.0 ≡ get_or labels k 0 = sym s.1.2 ∙ get_or_default labels k s.0 0 s.1.1 in
      let d = get_or ds k 0 in
      (d, (k, within, get_or_default ds k d 0 within), go k s.1.1 (subst (λ l. Q (get_or states l 0)) is s.2))

-- labels that are met in one way are met in the other
pub met_same : (sets : List (List ℕ)) (i : ℕ) (P Q : ℕ → Type 0) → ((l : ℕ) → P l ↔ Q l) → IsSetOfMet sets i P → IsSetOfMet sets i Q
met_same sets i P Q same s = record {
  within = s.within;
  some = s.some;
  every = λ l. (
    λ m. let q = (s.every l).0 m in (q.0, (same l).0 q.1),
    λ q. (s.every l).1 (q.0, (same l).1 q.1),
  );
}

module _ (st : StoreState) (states labels ds : List ℕ) (are : ds ≡ map (λ l. get_or states l 0) labels) where
  state_count : length ds ≡ length labels
  state_count = ap (λ (xs : List ℕ). length xs) are ∙ length-map labels (λ l. get_or states l 0)

  state_is : (k : ℕ) → k < length labels → get_or ds k 0 ≡ get_or states (get_or labels k 0) 0
  state_is k lt = ap (λ (xs : List ℕ). get_or xs k 0) are ∙ get_or-map (λ l. get_or states l 0) labels k 0 0 lt

  -- they are diagrams of the store
  pub states_ids : AreIds st states → All (λ l. l < length states) labels → AreIds st ds
  states_ids ids inside k lt =
      let within : k < length labels = omega (arith, lt, state_count) in
      subst (IsId st) (sym (state_is k within)) (ids (get_or labels k 0) (inside k 0 within))

  -- what they have is the states'
  states_have : (P : ℕ → Type 0) → ((d : ℕ) × Contains ds d × P d) ↔ ((l : ℕ) × Contains labels l × P (get_or states l 0))
  states_have P = (
    λ s. at_state states labels ds state_count P P (λ k lt p. subst P (state_is k lt) p) s,
    λ s. from_state states labels ds state_count P P (λ k lt p. subst P (sym (state_is k lt)) p) s,
  )

  -- so is what they send
  pub sends_states : (pk : List ℕ) (g : List (ℕ × ℕ)) (t : ℕ) → SomeSends st ds pk g t ↔ StateSends st states labels pk g t
  sends_states pk g t = states_have (λ d. Contains (split_leaf st.maxes pk (look st d pk)) (record { act = g; target = t }))

  -- and where they lead
  pub leads_states : (pk y : List ℕ) (t : ℕ) → SomeLeads st ds pk y t ↔ StateLeads st states labels pk y t
  leads_states pk y t = states_have (λ d. Sends st d pk y t)
