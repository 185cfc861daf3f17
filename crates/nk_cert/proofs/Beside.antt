-- The states of the automaton of two policies are put together of theirs.
use Rattle.std.proofs.Common.{◌≡◌, ℕ, suc, ◌+◌, ◌<◌, inl, inr, ⊎_elim, List, [], ◌∷◌, ◌++◌, length, length-append, refl, sym, ap, subst, ◌∙◌, arith, drop, get_or}
use Rattle.std.specs.Prelude.{slice_index, slice_set}
use Rattle.std.proofs.lemmas.List.{get_or_append_left}
use Rattle.nk_field.specs.Packet.{FieldTable}
use Rattle.nk_policy.specs.Policy.{Policy, dups_of}
use Rattle.nk_store.specs.StoreState.{StoreState, IsId, IsOver, Grows, AreTidy, HasLeaves, look}
use Rattle.nk_store.proofs.Stores.{grows_on}
use Rattle.nk_apply.specs.Leaves.{merged}
use Rattle.nk_auto.specs.Automaton.{IsState, IsAutomaton}
use Rattle.nk_auto.proofs.Sending.{sends_on, sends_back, union_sends, sends_left, sends_right}
use Rattle.nk_runs.proofs.Stands.{stands}
use Rattle.nk_cert.specs.Together.{AreNumbered, either_of}
use Rattle.nk_cert.specs.Levelled.{IsAutomatonOfBoth, AreJoined}
use Rattle.nk_cert.proofs.Joining.{either_state, joined_automaton}

-- after a list come the elements of the next
after_list : (xs ys : List ℕ) (i : ℕ) → get_or (xs ++ ys) (length xs + i) 0 ≡ get_or ys i 0
after_list [] ys i = let e : 0 + i ≡ i = omega arith in ap (λ k. get_or ys k 0) e
after_list (x ∷ xs) ys i =
    let e : length (x ∷ xs) + i ≡ suc (length xs + i) = omega arith in
    ap (λ k. get_or (x ∷ (xs ++ ys)) k 0) e ∙ after_list xs ys i

-- the states after the start
joined_states : (of_left of_right : List ℕ) (start : ℕ) (p q : Policy) → length of_left ≡ 1 + dups_of p → length of_right ≡ 1 + dups_of q
    → AreJoined of_left of_right (slice_set of_left 0 start ++ drop 1 of_right) p q
joined_states [] of_right start p q e f = absurd (omega (arith, e))
joined_states (x ∷ ls) [] start p q e f = absurd (omega (arith, f))
joined_states (x ∷ ls) (y ∷ rs) start p q e f = record {
  count = omega (arith, e, f, length-append ls rs);
  left = λ i lt.
      let is : 1 + i ≡ suc i = omega arith in
      let less : i < length ls = omega (arith, lt, e) in
      ap (λ k. get_or (start ∷ (ls ++ rs)) k 0) is ∙ get_or_append_left ls rs 0 i less ∙ sym (ap (λ k. get_or (x ∷ ls) k 0) is);
  right = λ i lt.
      let is : 1 + (dups_of p + i) ≡ suc (length ls + i) = omega (arith, e) in
      let one : 1 + i ≡ suc i = omega arith in
      ap (λ k. get_or (start ∷ (ls ++ rs)) k 0) is ∙ after_list ls rs i ∙ sym (ap (λ k. get_or (y ∷ rs) k 0) one);
}

-- and the start
first_state : (of_left more : List ℕ) (start : ℕ) → 0 < length of_left → slice_index (slice_set of_left 0 start ++ more) 0 ≡ start
first_state [] more start lt = absurd (omega (arith, lt))
first_state (x ∷ ls) more start lt = refl

-- the states that are put together are the automaton of both
pub both_are : (fields : FieldTable) (first second third : StoreState) (of_left of_right states : List ℕ) (left right start : ℕ) (p q : Policy)
    → IsOver fields third → AreTidy third → AreNumbered p q
    → IsAutomaton first of_left 1 p → Grows first second → IsAutomaton second of_right (1 + dups_of p) q → Grows second third
    → left ≡ slice_index of_left 0 → right ≡ slice_index of_right 0
    → HasLeaves third start (λ pk. merged (look second left pk) (look second right pk))
    → states ≡ slice_set of_left 0 start ++ drop 1 of_right
    → IsAutomatonOfBoth fields third states left right p q
both_are fields first second third of_left of_right states left right start p q over tidy numbered al begun ar grown left_is right_is leaves states_are = record {
  over = over;
  tidy = tidy;
  numbered = numbered;
  states_are = subst (λ r. IsAutomaton third r 1 (either_of p q)) (sym states_are)
      (joined_automaton third of_left of_right made p q numbered in_left in_right
      (subst (λ d. IsState third d (either_of p q)) (sym (first_state of_left (drop 1 of_right) start some)) of_both)
      (joined_states of_left of_right start p q al.count ar.count));
  left_start = of_left_start;
  right_start = of_right_start;
}
  where
    made : List ℕ
    made = slice_set of_left 0 start ++ drop 1 of_right

    some : 0 < length of_left
    some = omega (arith, al.count)

    in_left : IsAutomaton third of_left 1 p
    in_left = stands first third of_left 1 p al (grows_on first second third begun grown)

    in_right : IsAutomaton third of_right (1 + dups_of p) q
    in_right = stands second third of_right (1 + dups_of p) q ar grown

    of_left_start : IsState third left p
    of_left_start = subst (λ d. IsState third d p) (sym left_is) in_left.start

    of_right_start : IsState third right q
    of_right_start = subst (λ d. IsState third d q) (sym right_is) in_right.start

    left_id : IsId second left
    left_id = subst (IsId second) (sym left_is) (begun.ids (slice_index of_left 0) al.start.id)

    right_id : IsId second right
    right_id = subst (IsId second) (sym right_is) ar.start.id

    of_both : IsState third start (either_of p q)
    of_both =
        either_state third left right start p q of_left_start of_right_start leaves.id
        (λ pk y t ok. (
          λ s.
              ⊎_elim
              (λ k. inl (sends_on second third left pk y t grown left_id k))
              (λ k. inr (sends_on second third right pk y t grown right_id k))
              (union_sends second third left right start pk y t leaves ok.0 s),
          λ s.
              ⊎_elim
              (λ k. sends_left second third left right start pk y t leaves ok.0 (sends_back second third left pk y t grown left_id k))
              (λ k. sends_right second third left right start pk y t leaves ok.0 (sends_back second third right pk y t grown right_id k))
              s,
        ))
