-- What a set of labels gives is what its members give, each followed from label to label.
use Rattle.std.proofs.Common.{◌≡◌, ℕ, ◌<◌, List, [], ◌∷◌, ◌++◌, length, refl, sym, ap, subst}
use Rattle.std.specs.Prelude.{◌↔◌, Contains, slice_index}
use Rattle.nk_policy.specs.Labels.{HasExactly}
use Rattle.nk_policy.specs.PositionSets.{last_from}
use Rattle.nk_store.specs.StoreState.{StoreState, IsStorePacket, AreTidy}
use Rattle.nk_determ.specs.Exact.{Sends}
use Rattle.nk_determ.specs.States.{StateLeads}
use Rattle.nk_determ.specs.Pairs.{Node, AreLabelsBelow, AreStates, IsStep}
use Rattle.nk_determ.specs.Counterexamples.{Walks}
use Rattle.nk_determ.proofs.Sending.{sent_in_range}
use Rattle.nk_goal.proofs.Growing.{place_of, step_places}
use Rattle.nk_runs.proofs.Listings.{all_listed, both_decided, above_zero}
use Rattle.nk_merge.specs.Alike.{SetGives}
use Rattle.nk_merge.proofs.Marks.{leads_decided, none_in}

-- from the label l at the packet x these packets are recorded, each at a next label, the last one being m
abbrev pub RunsTo : StoreState → List ℕ → ℕ → List ℕ → List (List ℕ) → ℕ → Type 0
RunsTo st states l x [] m = l ≡ m
RunsTo st states l x (z ∷ w) m = (k : ℕ) × (0 < k) × Sends st (slice_index states l) x z k × RunsTo st states k z w m

-- from the label l at the packet x the records lead to a label whose state ends at y
abbrev pub LabelGives : StoreState → List ℕ → ℕ → List ℕ → List (List ℕ) → List ℕ → Type 0
LabelGives st states l x w y = (m : ℕ) × RunsTo st states l x w m × Sends st (slice_index states m) (last_from x w) y 0

-- from a label above 0 such records lead to one
pub runs_above : (st : StoreState) (states : List ℕ) (w : List (List ℕ)) (l : ℕ) (x : List ℕ) (m : ℕ) → 0 < l → RunsTo st states l x w m → 0 < m
runs_above st states [] l x m lt h = subst (λ k. 0 < k) h lt
runs_above st states (z ∷ w) l x m lt h = runs_above st states w h.0 z m h.1 h.3

-- a walk and a step more
pub walk_more : (Step : Node → Node → Type 0) (u : List (List ℕ)) (m k n : Node) → Walks Step m u k → Step k n → Walks Step m (u ++ n.1 ∷ []) n
walk_more Step [] m k n w s = (n.0, subst (λ (q : Node). Step q n) (sym w) s, refl)
walk_more Step (y ∷ u) m k n w s = (w.0, w.1, walk_more Step u (w.0, y) k n w.2 s)

module _ (st : StoreState) (states : List ℕ) where
  -- where a walk leads are exactly the labels to which its records lead
  pub walk_members : (w : List (List ℕ)) (set x : List ℕ) (n : Node) → Walks (IsStep st states) (set, x) w n → (m : ℕ)
      → Contains n.0 m ↔ ((l : ℕ) × Contains set l × RunsTo st states l x w m)
  walk_members [] set x n h m = (
    λ c. (m, subst (λ (k : Node). Contains k.0 m) (sym h) c, refl),
    λ r. subst (λ (k : Node). Contains k.0 m) h (subst (λ l. Contains set l) r.2 r.1),
  )
  walk_members (z ∷ w) set x n h m =
      let e = walk_members w h.0 z n h.2 m in (
        λ c.
            let b = e.0 c in
            let a = (h.1.every b.0).0 b.1 in
            (a.1.0, a.1.1, (b.0, a.0, a.1.2, b.2)),
        λ r. e.1 (r.2.0, (h.1.every r.2.0).1 (r.2.1, (r.0, r.1, r.2.2)), r.2.3),
      )

  -- a walk ends at the packet recorded last
  pub walk_last : (w : List (List ℕ)) (set x : List ℕ) (n : Node) → Walks (IsStep st states) (set, x) w n → n.1 ≡ last_from x w
  walk_last [] set x n h = ap (λ (k : Node). k.1) (sym h)
  walk_last (z ∷ w) set x n h = walk_last w h.0 z n h.2

  -- a walk leads to places among the states, and to a packet in range
  pub walk_places : AreStates st states → (w : List (List ℕ)) (set x : List ℕ) (n : Node) → AreLabelsBelow (length states) set → IsStorePacket st x
      → Walks (IsStep st states) (set, x) w n → AreLabelsBelow (length states) n.0 × IsStorePacket st n.1
  walk_places ok [] set x n p r h = (subst (λ (k : Node). AreLabelsBelow (length states) k.0) h p, subst (λ (k : Node). IsStorePacket st k.1) h r)
  walk_places ok (z ∷ w) set x n p r h =
      walk_places ok w h.0 z n (step_places st states (set, x) (h.0, z) ok p r h.1) h.1.packet h.2

  module _ (ok : AreStates st states) (tidy : AreTidy st) where
    -- records lead to packets in range and to labels of the automaton
    pub runs_in_range : (w : List (List ℕ)) (l : ℕ) (x : List ℕ) (m : ℕ) → l < length states → IsStorePacket st x → RunsTo st states l x w m
        → IsStorePacket st (last_from x w) × (m < length states)
    runs_in_range [] l x m lt r h = (r, subst (λ k. k < length states) h lt)
    runs_in_range (z ∷ w) l x m lt r h =
        runs_in_range w h.0 z m (ok.targets l x z h.0 lt r h.2) (sent_in_range st (slice_index states l) x z h.0 tidy r h.2) h.3

    -- all labels at which a set records a packet next
    pub led_set : (set x z : List ℕ) → AreLabelsBelow (length states) set → IsStorePacket st x
        → (s : List ℕ) × HasExactly (λ k. (0 < k) × StateLeads st states set x z k) s
    led_set set x z p r =
        all_listed (λ k. (0 < k) × StateLeads st states set x z k)
        (λ k. both_decided (above_zero k) (leads_decided st states set x z k)) (length states)
        (λ k h. ok.targets h.1.0 x z k (place_of (length states) set h.1.0 p h.1.1) r h.1.2)

    -- what a member records next is walked to
    pub run_walks : (w : List (List ℕ)) (set x : List ℕ) (l m : ℕ) → AreLabelsBelow (length states) set → IsStorePacket st x → Contains set l
        → RunsTo st states l x w m → (n : Node) × Walks (IsStep st states) (set, x) w n
    run_walks [] set x l m p r c h = ((set, x), refl)
    run_walks (z ∷ w) set x l m p r c h =
        let led = led_set set x z p r in
        let here : Contains led.0 h.0 = (led.1.1 h.0).1 (h.1, (l, c, h.2)) in
        let range : IsStorePacket st z = sent_in_range st (slice_index states l) x z h.0 tidy r h.2 in
        let step : IsStep st states (set, x) (led.0, z) =
        record { packet = range; some = λ e. none_in led.0 h.0 e here; ascend = led.1.0; every = led.1.1 } in
        let rest = run_walks w led.0 z h.0 m (step_places st states (set, x) (led.0, z) ok p r step) range here h.3 in
        (rest.0, (led.0, step, rest.1))

    -- a set gives what its members give
    pub gives_runs : (set x : List ℕ) (w : List (List ℕ)) (y : List ℕ) → AreLabelsBelow (length states) set → IsStorePacket st x
        → SetGives st states set x w y ↔ ((l : ℕ) × Contains set l × LabelGives st states l x w y)
    gives_runs set x w y p r = (
      λ h.
          let b = (walk_members w set x h.0 h.1 h.2.0).0 h.2.1 in
          (b.0, b.1, (h.2.0, b.2, subst (λ v. Sends st (slice_index states h.2.0) v y 0) (walk_last w set x h.0 h.1) h.2.2)),
      λ h.
          let e = run_walks w set x h.0 h.2.0 p r h.1 h.2.1 in
          let c = (walk_members w set x e.0 e.1 h.2.0).1 (h.0, h.1, h.2.1) in
          (e.0, e.1, (h.2.0, c, subst (λ v. Sends st (slice_index states h.2.0) v y 0) (sym (walk_last w set x e.0 e.1)) h.2.2)),
    )
