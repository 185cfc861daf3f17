-- What is left of a level without what was visited.
use Rattle.std.proofs.Common.{◌≡◌, ℕ, ◌+◌, true, false, inl, inr, sym, ◌∙◌, subst, List, [], ◌∷◌, ◌++◌}
use Rattle.nk_store.specs.StoreState.{StoreState, IsWhole, Grows}
use Rattle.nk_sets.specs.PacketSets.{is_in, IsSet}
use Rattle.nk_sets.proofs.SetLemmas.{set_grows}
use Rattle.nk_sets.proofs.Kept.{Has, packet_on, has_on, has_back}
use Rattle.nk_determ.specs.Pairs.{Under, Named}
use Rattle.nk_determ.specs.Levels.{IsFilled}
use Rattle.nk_goal.specs.Entries.{HaveSets, IsRest}
use Rattle.nk_reach.specs.Rounds.{IsFresh}
use Rattle.nk_goal.proofs.Growing.{under_on, under_back, each_weaker, filled_on}
use Rattle.nk_goal.proofs.Adding.{under_append, under_left, under_right, named_append, named_left, named_right, each_append, once_push}

-- an entry with packets left
pub fresh_push : (a st new : StoreState) (visited done level : List (ℕ × ℕ)) (p : ℕ × ℕ) (r : ℕ) → HaveSets a visited → IsFresh a visited done st level → Grows a st → IsSet a p.1 → Grows st new → IsRest st visited p.0 p.1 new r → IsFilled new r → (Named done p.0 → ⊥) → IsFresh a visited (done ++ p ∷ []) new (level ++ (p.0, r) ∷ [])
fresh_push a st new visited done level p r e m g k h rest fill apart = record {
  from = λ i x w u. elim (under_append new level ((p.0, r) ∷ []) i x u) [
    | inl was ↦ under_left a done (p ∷ []) i x (m.from i x w (under_back st new level i x h m.packets was))
    | inr now ↦ elim now [
      | inl here ↦ under_right a done (p ∷ []) i x (inl (here.0, has_back a st p.1 x g k.id (rest.first x (packet_on a st x g w) here.1)))
      | inr z ↦ absurd z
    ]
  ];
  unvisited = λ i x w u v. elim (under_append new level ((p.0, r) ∷ []) i x u) [
    | inl was ↦ m.unvisited i x w (under_back st new level i x h m.packets was) v
    | inr now ↦ elim now [
      | inl here ↦ rest.second x (packet_on a st x g w) here.1 (under_on a st visited p.0 x g e (subst (λ j. Under a visited j x) (sym here.0) v))
      | inr z ↦ absurd z
    ]
  ];
  every = λ i x w u n. elim (under_append a done (p ∷ []) i x u) [
    | inl was ↦ under_left new level ((p.0, r) ∷ []) i x (under_on st new level i x h m.packets (m.every i x w was n))
    | inr now ↦ elim now [
      | inl here ↦ under_right new level ((p.0, r) ∷ []) i x (inl (
        here.0,
        rest.both x (packet_on a st x g w) (has_on a st p.1 x g k.id here.1)
            (λ v. n (subst (λ j. Under a visited j x) here.0 (under_back a st visited p.0 x g e v))),
      ))
      | inr z ↦ absurd z
    ]
  ];
  named = λ i n. elim (named_append level ((p.0, r) ∷ []) i n) [
    | inl was ↦ named_left done (p ∷ []) i (m.named i was)
    | inr now ↦ elim now [ inl here ↦ named_right done (p ∷ []) i (inl here) | inr z ↦ absurd z ]
  ];
  packets = each_append (λ q. IsSet new q.1) level ((p.0, r) ∷ []) (each_weaker (λ q. IsSet st q.1) (λ q. IsSet new q.1) level (λ q s. set_grows st new q.1 h s) m.packets) (rest.packets, tt);
  filled = each_append (λ q. IsFilled new q.1) level ((p.0, r) ∷ []) (filled_on st new level h m.packets m.filled) (fill, tt);
  once = once_push level (p.0, r) m.once (λ n. apart (m.named p.0 n));
}

-- an entry with no packets left
pub fresh_skip : (a st new : StoreState) (visited done level : List (ℕ × ℕ)) (p : ℕ × ℕ) (r : ℕ) → HaveSets a visited → IsFresh a visited done st level → Grows a st → IsSet a p.1 → Grows st new → IsRest st visited p.0 p.1 new r → ((pk : List ℕ) → IsWhole pk → is_in new r pk ≡ false) → IsFresh a visited (done ++ p ∷ []) new level
fresh_skip a st new visited done level p r e m g k h rest none = record {
  from = λ i x w u. under_left a done (p ∷ []) i x (m.from i x w (under_back st new level i x h m.packets u));
  unvisited = λ i x w u. m.unvisited i x w (under_back st new level i x h m.packets u);
  every = λ i x w u n. elim (under_append a done (p ∷ []) i x u) [
    | inl was ↦ under_on st new level i x h m.packets (m.every i x w was n)
    | inr now ↦ elim now [
      | inl here ↦
          let left : Has new r x = rest.both x (packet_on a st x g w) (has_on a st p.1 x g k.id here.1) (λ v. n (subst (λ j. Under a visited j x) here.0 (under_back a st visited p.0 x g e v))) in
          let both : false ≡ true = sym (none x w.0) ∙ left in absurd cc
      | inr z ↦ absurd z
    ]
  ];
  named = λ i n. named_left done (p ∷ []) i (m.named i n);
  packets = each_weaker (λ q. IsSet st q.1) (λ q. IsSet new q.1) level (λ q s. set_grows st new q.1 h s) m.packets;
  filled = filled_on st new level h m.packets m.filled;
  once = m.once;
}
