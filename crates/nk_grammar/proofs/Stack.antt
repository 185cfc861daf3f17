-- What is open, the innermost first, from a list that has it last.
use Rattle.std.proofs.Common.{◌≡◌, ◌+◌, ◌-◌, ◌<◌, ◌≤◌, ◌∙◌, ℕ, Bool, true, false, List, [], ◌∷◌, ◌++◌, length, get_or, take, refl, sym, ap, subst, arith, Option}
use Rattle.std.specs.Prelude.{Some, None}
use Rattle.std.proofs.lemmas.List.{take_more}
use Rattle.nk_grammar.specs.declared.frame.Frame.{Frame}
use Rattle.nk_grammar.specs.Terminal.{closing}
use Rattle.nk_grammar.specs.Machine.{Open, group, negation, State, HasNoNegation, atom_ended, done_at, step_done}
use Rattle.nk_grammar.specs.Tree.{Tree, Trees, not_of}
use Rattle.nk_grammar.specs.declared.place.Place.TheVariants as place
use Rattle.nk_grammar.specs.Reader.{Follows, encloses, open_of, stack_on, stack_of}

-- one more that is open stands first
pub stack_push : (fs : List Open) (xs : List Frame) (x : Frame)
    → stack_on fs (xs ++ x ∷ []) ≡ open_of x ∷ stack_on fs xs
stack_push fs [] x = refl
stack_push fs (y ∷ xs) x = stack_push (open_of y ∷ fs) xs x

-- how many are open
pub stack_length : (fs : List Open) (xs : List Frame) → length (stack_on fs xs) ≡ length fs + length xs
stack_length fs [] = omega arith
stack_length fs (x ∷ xs) = omega (arith, stack_length (open_of x ∷ fs) xs)

-- after a parenthesis no `~` is the innermost
pub group_is_top : (fs : List Open) (ts us : Trees) (below : List Open) → fs ≡ group ts us ∷ below → HasNoNegation fs
group_is_top fs ts us below e = subst HasNoNegation (sym e) (λ t ts us. refl)

-- nothing is the innermost where nothing is open
pub nothing_is_top : (xs : List Frame) → length xs ≡ 0 → HasNoNegation (stack_of xs)
nothing_is_top [] e = λ t ts us. refl
nothing_is_top (x ∷ xs) e = absurd (omega (arith, e))

-- a policy does not end where something is open
done_with_open : (b : Bool) (fs : List Open) (t : Tree) → 0 < length fs → done_at (place.After b) fs t ≡ None
done_with_open b [] t lt = absurd (omega (arith, lt))
done_with_open b (x ∷ fs) t lt = refl

-- a policy may end where nothing is open, and not where something is
pub nothing_open : (b : Bool) (xs : List Frame) (t : Tree) → length xs ≡ 0
    → done_at (place.After b) (stack_of xs) t ≡ Some t
nothing_open b [] t e = refl
nothing_open b (x ∷ xs) t e = absurd (omega (arith, e))

-- a policy may not end where something is open in the code's list
pub something_open : (b : Bool) (xs : List Frame) (t : Tree) → 0 < length xs
    → done_at (place.After b) (stack_of xs) t ≡ None
something_open b xs t lt = done_with_open b (stack_of xs) t (omega (arith, lt, stack_length [] xs))

-- one more of the code's list, before those of a front
stack_take : (xs : List Frame) (i : ℕ) (x : Frame) → i < length xs
    → stack_of (take (i + 1) xs) ≡ open_of (get_or xs i x) ∷ stack_of (take i xs)
stack_take xs i x lt = ap stack_of (take_more xs i x lt) ∙ stack_push [] (take i xs) (get_or xs i x)

-- a front of the code's list encloses as its last, put before the others, does
pub encloses_before : (xs : List Frame) (n : ℕ) (x : Frame) → 0 < n → n ≤ length xs → x ≡ get_or xs (n - 1) x
    → encloses (stack_of (take n xs)) ≡ encloses (open_of x ∷ stack_of (take (n - 1) xs))
encloses_before xs n x some le is =
    ap (λ k. encloses (stack_of (take k xs))) before ∙ ap encloses (stack_take xs (n - 1) x (omega arith))
    ∙ ap (λ y. encloses (open_of y ∷ stack_of (take (n - 1) xs))) (sym is)
  where
    before : n ≡ (n - 1) + 1
    before = omega arith

-- where no parenthesis is open, none closes after an atom
pub none_closes : (fs : List Open) (t : Tree) (ts us : Trees) → encloses fs ≡ false → step_done (atom_ended t fs ts us) closing ≡ None
none_closes [] t ts us e = refl
none_closes (group xs ys ∷ fs) t ts us e = absurd (cc)
none_closes (negation line ∷ fs) t ts us e = none_closes fs (not_of t line) ts us e

-- where one is open, one closes after an atom
pub one_closes : (fs : List Open) (t : Tree) (ts us : Trees) → encloses fs ≡ true → step_done (atom_ended t fs ts us) closing ≡ None → ⊥
one_closes [] t ts us e n = absurd (cc)
one_closes (group xs ys ∷ fs) t ts us e n = absurd (cc)
one_closes (negation line ∷ fs) t ts us e n = one_closes fs (not_of t line) ts us e n

-- what is not refused is taken, whatever was before
pub taken_whatever : (taken : Bool) (wanted : Option State) (old other new : State) → (wanted ≡ None → ⊥)
    → Follows taken wanted old new → Follows taken wanted other new
taken_whatever true wanted old other new n h = h
taken_whatever false wanted old other new n h = absurd (n h.0)
