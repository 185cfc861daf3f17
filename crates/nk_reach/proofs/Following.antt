-- Entry by entry, what a level leads to.
use Rattle.std.proofs.Common.{◌≡◌, ℕ, ◌<◌, inl, inr, refl, sym, ◌∙◌, ap, subst, List, [], ◌∷◌, ◌++◌, length, get_or}
use Rattle.nk_store.specs.StoreState.{StoreState, Grows}
use Rattle.nk_determ.specs.Sets.{SetsGrow, HasEachSetOnce}
use Rattle.nk_determ.specs.Pairs.{Node, AreStates, AreLabelsBelow, IsPair, IsStep}
use Rattle.nk_reach.specs.Rounds.{IsRaw, IsFollowed, IsSoFar}
use Rattle.nk_sets.proofs.Kept.{packet_on, packet_back, has_on, has_back}
use Rattle.nk_goal.proofs.Growing.{sets_known, sets_same, under_named, pairs_of, step_on, step_back}
use Rattle.nk_goal.proofs.Adding.{under_append, under_left, under_right}

-- one entry more
pub so_far_push : (a st new : StoreState) (ass ss nss : List (List ℕ)) (states : List ℕ) (done raw more : List (ℕ × ℕ)) (p : ℕ × ℕ) → AreStates a states → IsSoFar a ass states done st ss raw → Grows a st → SetsGrow ass ss → SetsGrow ss nss → IsPair a ass (length states) p → IsFollowed st states (get_or ss p.0 []) p.1 raw new nss more → IsSoFar a ass states (done ++ p ∷ []) new nss more
so_far_push a st new ass ss nss states done raw more p states_ok m g s t q f =
    let same : get_or ss p.0 [] ≡ get_or ass p.0 [] = sets_same ass ss p.0 s q.known in
    record {
      from = λ i y w u. elim (f.from i y (packet_on a st y g w) u) [
        | inl was ↦
            let r = m.from i y w was in
            let k : (i < length ss) = (m.named i (under_named st raw i y was)).0 in
            (r.0, r.1, (r.2.0, r.2.1, under_left a done (p ∷ []) r.2.0 r.0.1 r.2.2), subst (λ (l : List ℕ). IsStep a states r.0 (l, y)) (sym (sets_same ss nss i t k)) r.3)
        | inr now ↦
            let z : List ℕ = now.0 in
            let n : Node = (get_or nss i [], y) in
            let step : IsStep st states (get_or ass p.0 [], z) n = subst (λ (l : List ℕ). IsStep st states (l, z) n) same now.3 in (
              (get_or ass p.0 [], z),
              packet_back a st z g now.1,
              (p.0, refl, under_right a done (p ∷ []) p.0 z (inl (refl, has_back a st p.1 z g q.packets.id now.2))),
              step_back a st states (get_or ass p.0 [], z) n g states_ok q.places step,
            )
      ];
      every = λ k n pk w step. elim (under_append a done (p ∷ []) w.0 k.1 w.2) [
        | inl was ↦
            let r = m.every k n pk (w.0, w.1, was) step in
            let known : (r.0 < length ss) = (m.named r.0 (under_named st raw r.0 n.1 r.2)).0 in
            (r.0, sets_same ss nss r.0 t known ∙ r.1, f.old r.0 n.1 (packet_on a st n.1 g step.packet) r.2)
        | inr now ↦ elim now [
          | inl here ↦
              let e : k.0 ≡ get_or ss p.0 [] = sym w.1 ∙ ap (λ i. get_or ass i []) (sym here.0) ∙ sym same in
              let places : AreLabelsBelow (length states) k.0 = subst (AreLabelsBelow (length states)) (sym same ∙ sym e) q.places in
              let up : IsStep st states k n = step_on a st states k n g states_ok places step in
              f.every k.1 n (packet_on a st k.1 g pk) (has_on a st p.1 k.1 g q.packets.id here.1) (subst (λ (l : List ℕ). IsStep st states (l, k.1) n) e up)
          | inr z ↦ absurd z
        ]
      ];
      named = λ i n. elim (f.named i n) [
        | inl was ↦
            let k = m.named i was in
            (sets_known ss nss i t k.0, subst (AreLabelsBelow (length states)) (sym (sets_same ss nss i t k.0)) k.1)
        | inr now ↦ now
      ];
      packets = f.packets;
      once = f.once;
    }

-- all entries are the level
pub raw_of : (st new : StoreState) (ss nss : List (List ℕ)) (states : List ℕ) (last raw : List (ℕ × ℕ)) → IsSoFar st ss states last new nss raw → HasEachSetOnce nss → IsRaw st ss states last new nss raw
raw_of st new ss nss states last raw m differ = record {
  from = λ n p w.
      let r = m.from w.0 n.1 p w.2 in
      (r.0, r.1, r.2, subst (λ (l : List ℕ). IsStep st states r.0 (l, n.1)) w.1 r.3);
  every = m.every;
  pairs = record { each = pairs_of new nss (length states) raw m.named m.packets; once = m.once };
  differ = differ;
}
