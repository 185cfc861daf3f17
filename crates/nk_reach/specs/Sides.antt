-- What one of two sides alone ends at. Each label has a diagram of marked ends: an out has target 1 where the left side
-- ends and 2 where the right side does, and its act assigns exactly the fields that it changes, so that equal packets come
-- of equal acts.
pub use Rattle.nk_determ.specs.Counterexamples.{MakesWithTarget}
use Rattle.std.specs.Prelude.{◌≡◌, ◌==◌, ℕ, ◌<◌, ◌⊎◌, ◌↔◌, Bool, true, false, nat_lt, nat_eq, eqb, cond, List, [], ◌∷◌, if◌then◌else◌, Some, length, slice_index, Contains}
use Rattle.std.specs.List.{list_any}
use Rattle.std.specs.Map.{lookup}
use Rattle.std.proofs.Common.{inl, inr, refl, sym, ap, ◌∙◌}
use Rattle.std.proofs.lemmas.List.Elements.{All-head, All-tail}
use Rattle.nk_store.specs.declared.node.Out.{Out}
use Rattle.nk_store.specs.contracts.node.OutPartialEq.TheImpl.{ghosts}
use Rattle.nk_store.specs.StoreState.{StoreState, IsId, look, Grows, HasLeaves}
use Rattle.nk_apply.specs.Leaves.{merged, gathered}
use Rattle.nk_apply.specs.Unions.{AreIds}
use Rattle.nk_apply.proofs.Members.{Has, contains_has, has_gathered}
use Rattle.nk_determ.specs.Exact.{split_leaf, Sends}
use Rattle.nk_determ.specs.Targets.{retargeted}
use Rattle.nk_determ.specs.Pairs.{AreLabelsBelow}

-- the end of the other side with the same act
abbrev pub twin : Out → Out
twin o = record { act = o.act; target = if o.target == 1 then 2 else 1 }

-- an end that the other side has not: 0 on the left, 1 on the right
abbrev pub alone_out : List Out → Out → List Out
alone_out outs o = if list_any (λ p. ghosts.eq p (twin o)) outs then [] else record { act = o.act; target = if o.target == 1 then 0 else 1 } ∷ []

-- the ends that one side alone has
abbrev pub alone : List Out → List Out
alone outs = gathered (alone_out outs) outs

-- such an end has target 0 or 1
end_sided : (outs : List Out) (p o : Out) → Has (alone_out outs p) o → (o.target ≡ 0) ⊎ (o.target ≡ 1)
end_sided outs p o h = kept (list_any (λ q. ghosts.eq q (twin p)) outs) h
  where
    marks : (b : Bool) (t : ℕ) → t ≡ cond b 0 1 → (t ≡ 0) ⊎ (t ≡ 1)
    marks true t e = inl e
    marks false t e = inr e

    kept : (b : Bool) → Has (cond b [] (record { act = p.act; target = cond (eqb p.target 1) 0 1 } ∷ [])) o → (o.target ≡ 0) ⊎ (o.target ≡ 1)
    kept true k = absurd k
    kept false (inl e) = marks (eqb p.target 1) o.target (sym (ap (λ (x : Out). x.target) e))
    kept false (inr k) = absurd k

-- and so has each of those that one side alone has
pub alone_sided : (outs : List Out) (o : Out) → Contains (alone outs) o → (o.target ≡ 0) ⊎ (o.target ≡ 1)
alone_sided outs o c =
    let r = has_gathered (alone_out outs) outs o (contains_has (alone outs) o c) in
    end_sided outs r.0 o r.2

-- the marked ends of a set of labels
abbrev pub ends_of : StoreState → List ℕ → List ℕ → List ℕ → List Out
ends_of st ends [] pk = []
ends_of st ends (l ∷ ls) pk = merged (look st (slice_index ends l) pk) (ends_of st ends ls pk)

-- they stay as they are while the store grows
pub ends_same : (a b : StoreState) (ends set pk : List ℕ) → Grows a b → AreIds a ends → AreLabelsBelow (length ends) set → ends_of b ends set pk ≡ ends_of a ends set pk
ends_same a b ends [] pk g k p = refl
ends_same a b ends (l ∷ ls) pk g k p =
    ap (λ xs. merged xs (ends_of b ends ls pk)) (g.leaves (slice_index ends l) pk (k l (All-head (λ j. j < length ends) l ls p)))
    ∙ ap (λ xs. merged (look a (slice_index ends l) pk) xs) (ends_same a b ends ls pk g k (All-tail (λ j. j < length ends) l ls p))

-- r has at each packet what one side alone has of the ends d
pub record IsAloneOf (st : StoreState) (d r : ℕ) : Type 0 where
  pub ends_id : IsId st d
  pub leaves : HasLeaves st r (λ pk. alone (look st d pk))

-- each entry leads from ends to what one side alone has of them
abbrev pub AreAloneOf : StoreState → List (ℕ × ℕ) → Type 0
AreAloneOf st entries = (d r : ℕ) → lookup (nat_eq d) entries ≡ Some r → IsAloneOf st d r

-- these marked ends are diagrams of the store, and the table has what one side alone has of some ends
pub record IsPropertyOfEnds (st : StoreState) (ends : List ℕ) (table : List (ℕ × ℕ)) : Type 0 where
  pub ids : AreIds st ends
  pub made : AreAloneOf st table

-- what one side alone has of ends stays so while the store grows
pub alone_on : (old new : StoreState) (d r : ℕ) → Grows old new → IsAloneOf old d r → IsAloneOf new d r
alone_on old new d r g k = record {
  ends_id = g.ids d k.ends_id;
  leaves = record {
    id = g.ids r k.leaves.id;
    leaf = λ pk w. g.leaves r pk k.leaves.id ∙ k.leaves.leaf pk w ∙ sym (ap alone (g.leaves d pk k.ends_id));
  };
}

-- and so do the marked ends with such a table
pub property_grows : (old new : StoreState) (ends : List ℕ) (table : List (ℕ × ℕ)) → IsPropertyOfEnds old ends table → Grows old new → IsPropertyOfEnds new ends table
property_grows old new ends table k g = record {
  ids = λ i l. g.ids (slice_index ends i) (k.ids i l);
  made = λ d r e. alone_on old new d r g (k.made d r e);
}

-- the finals of a diagram at a packet, their acts assigning what they change, with a mark in place of their target
abbrev pub finals_of_side : StoreState → ℕ → ℕ → List ℕ → List Out
finals_of_side st d mark pk = retargeted (Some mark ∷ []) (split_leaf st.maxes pk (look st d pk))

-- r has at each packet the finals of the state, with the mark
pub record IsFinalsOfSide (st : StoreState) (mark state r : ℕ) : Type 0 where
  pub state_id : IsId st state
  pub leaves : HasLeaves st r (λ pk. finals_of_side st state mark pk)

-- each entry leads from a state to its marked finals
abbrev pub AreFinalsOfSide : StoreState → ℕ → List (ℕ × ℕ) → Type 0
AreFinalsOfSide st mark entries = (state r : ℕ) → lookup (nat_eq state) entries ≡ Some r → IsFinalsOfSide st mark state r

-- the mark of a label's side: labels below the bound are of the left side
abbrev pub label_side : ℕ → ℕ → ℕ
label_side bound l = if nat_lt l bound then 1 else 2

-- the marked ends of each of the first n labels: of both starts at label 0, of the states from 1 on
pub record AreSideFinals (old : StoreState) (states : List ℕ) (left right bound n : ℕ) (new : StoreState) (ends : List ℕ) : Type 0 where
  pub count : length ends ≡ n
  pub start : 0 < n → HasLeaves new (slice_index ends 0) (λ pk. merged (finals_of_side old left 1 pk) (finals_of_side old right 2 pk))
  pub rest : (l : ℕ) → 0 < l → l < n → HasLeaves new (slice_index ends l) (λ pk. finals_of_side old (slice_index states l) (label_side bound l) pk)

-- the side with that mark and start ends with y at some label of the set
abbrev pub EndsAt : StoreState → List ℕ → ℕ → ℕ → ℕ → List ℕ → List ℕ → List ℕ → Type 0
EndsAt st states start bound mark set pk y =
    (Contains set 0 × Sends st start pk y 0) ⊎ ((l : ℕ) × Contains set l × (0 < l) × (label_side bound l ≡ mark) × Sends st (slice_index states l) pk y 0)

-- the finals with target 0 are what the left side alone ends with, those with target 1 what the right side alone does
pub record AreOneSided (st : StoreState) (states : List ℕ) (left right bound : ℕ) (set pk : List ℕ) (outs : List Out) : Type 0 where
  pub left_alone : (y : List ℕ) → MakesWithTarget outs pk y 0 ↔ (EndsAt st states left bound 1 set pk y × (EndsAt st states right bound 2 set pk y → ⊥))
  pub right_alone : (y : List ℕ) → MakesWithTarget outs pk y 1 ↔ (EndsAt st states right bound 2 set pk y × (EndsAt st states left bound 1 set pk y → ⊥))
