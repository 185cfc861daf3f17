-- Tokens on later lines: the readers do with them what they do with the tokens, on later lines.
use Rattle.std.proofs.Common.{◌≡◌, ◌+◌, ℕ, List, [], ◌∷◌, Bool, true, false, length, refl, sym, ◌∙◌, ap, Option}
use Rattle.std.specs.Prelude.{Some, None, map, option_map, if◌then◌else◌}
use Rattle.std.proofs.lemmas.List.{length-map}
use Rattle.nk_lex.specs.declared.kind.Kind.{Kind}
use Rattle.nk_lex.specs.declared.kind.Kind.TheVariants as kind
use Rattle.nk_lex.specs.declared.token.Token.{Token}
use Rattle.nk_lex.specs.Joined.{token_moved}
use Rattle.nk_lex.specs.declared.ident.Number.{Number}
use Rattle.nk_grammar.specs.declared.place.Place.{Place}
use Rattle.nk_grammar.specs.declared.place.Place.TheVariants as place
use Rattle.nk_lex.specs.declared.quad.Quad.{Quad}
use Rattle.nk_lex.specs.declared.quad.Quad.TheVariants as quad
use Rattle.nk_lex.specs.declared.quad.QuadNext.{QuadNext}
use Rattle.nk_lex.specs.declared.quad.QuadNext.TheVariants as next
use Rattle.nk_grammar.specs.Terminal.{Terminal, Outside, name, number, tilde, closing, plus_sign, star_sign, equal, becomes, colon, fat_arrow, id_word, drop_word, dup_word, in_word, dots, outside, let_word, fabric_word, row_word, terminal_from, terminal_of, is_equal, is_in_word, is_dots, is_becomes, is_colon_terminal, is_link_sign}
use Rattle.nk_grammar.specs.Tree.{Tree, Trees, name_of, test, range, assign, sum_of, seq_of, not_of, dup, link, no_part, part, with_part, with_star, sum_from, seq_from}
use Rattle.nk_grammar.specs.Machine.{Open, group, negation, State, state, atom_ended, terms_joined, close, number_in, in_option, with_number, quad_step, begin, after_factor, linked, step_done, go_on_from, step_at, step, settled_at, settled, done_at, done, policy_ended}
use Rattle.nk_grammar.specs.Moved.{word_moved, number_moved, tree_moved, trees_moved}

module _ (lines : ℕ) where
  -- ---- what is moved

  abbrev outside_moved : Outside → Outside
  outside_moved (let_word l) = let_word (l + lines)
  outside_moved (fabric_word l) = fabric_word (l + lines)
  outside_moved (row_word l) = row_word (l + lines)
  outside_moved z = z

  abbrev pub terminal_moved : Terminal → Terminal
  terminal_moved (name w) = name (word_moved lines w)
  terminal_moved (number n) = number (number_moved lines n)
  terminal_moved (tilde l) = tilde (l + lines)
  terminal_moved (outside z) = outside (outside_moved z)
  terminal_moved t = t

  abbrev quad_moved : Quad → Quad
  quad_moved quad.Start = quad.Start
  quad_moved (quad.Switch a) = quad.Switch (number_moved lines a)
  quad_moved (quad.SwitchColon a) = quad.SwitchColon (number_moved lines a)
  quad_moved (quad.Port a m) = quad.Port (number_moved lines a) (number_moved lines m)
  quad_moved (quad.Arrow a m) = quad.Arrow (number_moved lines a) (number_moved lines m)
  quad_moved (quad.ToSwitch a m b) = quad.ToSwitch (number_moved lines a) (number_moved lines m) (number_moved lines b)
  quad_moved (quad.ToColon a m b) = quad.ToColon (number_moved lines a) (number_moved lines m) (number_moved lines b)

  abbrev next_moved : QuadNext → QuadNext
  next_moved next.Refused = next.Refused
  next_moved (next.Going q) = next.Going (quad_moved q)
  next_moved (next.Full a m b n) =
      next.Full (number_moved lines a) (number_moved lines m) (number_moved lines b) (number_moved lines n)

  abbrev place_moved : Place → Place
  place_moved place.Want = place.Want
  place_moved (place.Named w) = place.Named (word_moved lines w)
  place_moved (place.Tested w) = place.Tested (word_moved lines w)
  place_moved (place.Ranged w) = place.Ranged (word_moved lines w)
  place_moved (place.RangedFrom w a) = place.RangedFrom (word_moved lines w) (number_moved lines a)
  place_moved (place.RangedTo w a) = place.RangedTo (word_moved lines w) (number_moved lines a)
  place_moved (place.Assigned w) = place.Assigned (word_moved lines w)
  place_moved (place.Linked q) = place.Linked (quad_moved q)
  place_moved (place.After b) = place.After b

  abbrev open_moved : Open → Open
  open_moved (group ts us) = group (trees_moved lines ts) (trees_moved lines us)
  open_moved (negation l) = negation (l + lines)

  abbrev pub state_moved : State → State
  state_moved s = state (place_moved s.place) (map open_moved s.frames) (trees_moved lines s.terms) (trees_moved lines s.factors)

  -- as many are open
  pub open_moves : (s : State) → length (state_moved s).frames ≡ length s.frames
  open_moves s = length-map s.frames open_moved

  -- ---- tokens

  from_moves : (k : Kind) (line value : ℕ) (text : List ℕ)
      → terminal_from k (line + lines) value text ≡ terminal_moved (terminal_from k line value text)
  from_moves kind.Name line value text = refl
  from_moves k line value text = refl

  pub token_terminal : (places : ℕ) (t : Token) → terminal_of (token_moved lines places t) ≡ terminal_moved (terminal_of t)
  token_terminal places t = from_moves t.kind t.line t.value t.text

  pub number_in_moves : (t : Terminal) → number_in (terminal_moved t) ≡ option_map (number_moved lines) (number_in t)
  number_in_moves (number n) = refl
  number_in_moves t = refl

  equal_moves : (t : Terminal) → is_equal (terminal_moved t) ≡ is_equal t
  equal_moves equal = refl
  equal_moves t = refl

  in_moves : (t : Terminal) → is_in_word (terminal_moved t) ≡ is_in_word t
  in_moves in_word = refl
  in_moves t = refl

  dots_moves : (t : Terminal) → is_dots (terminal_moved t) ≡ is_dots t
  dots_moves dots = refl
  dots_moves t = refl

  becomes_moves : (t : Terminal) → is_becomes (terminal_moved t) ≡ is_becomes t
  becomes_moves becomes = refl
  becomes_moves t = refl

  pub colon_moves : (t : Terminal) → is_colon_terminal (terminal_moved t) ≡ is_colon_terminal t
  colon_moves colon = refl
  colon_moves t = refl

  -- a literal's sign alone is asked for in a policy
  between_moves : (t : Terminal) → is_link_sign true (terminal_moved t) ≡ is_link_sign true t
  between_moves fat_arrow = refl
  between_moves t = refl

  -- ---- trees

  part_moves : (ts : Trees) (t : Tree)
      → with_part (trees_moved lines ts) (tree_moved lines t) ≡ trees_moved lines (with_part ts t)
  part_moves no_part t = refl
  part_moves (part u us) t = ap (part (tree_moved lines u)) (part_moves us t)

  star_moves : (ts : Trees) → with_star (trees_moved lines ts) ≡ trees_moved lines (with_star ts)
  star_moves no_part = refl
  star_moves (part t no_part) = refl
  star_moves (part t (part u us)) = ap (part (tree_moved lines t)) (star_moves (part u us))

  star_if : (b : Bool) (ts : Trees)
      → (if b then trees_moved lines ts else with_star (trees_moved lines ts)) ≡ trees_moved lines (if b then ts else with_star ts)
  star_if true ts = refl
  star_if false ts = star_moves ts

  sum_moves : (ts : Trees) → sum_from (trees_moved lines ts) ≡ tree_moved lines (sum_from ts)
  sum_moves no_part = refl
  sum_moves (part t no_part) = refl
  sum_moves (part t (part u us)) = refl

  seq_moves : (ts : Trees) → seq_from (trees_moved lines ts) ≡ tree_moved lines (seq_from ts)
  seq_moves no_part = refl
  seq_moves (part t no_part) = refl
  seq_moves (part t (part u us)) = refl

  joined_moves : (ts us : Trees) → terms_joined (trees_moved lines ts) (trees_moved lines us) ≡ tree_moved lines (terms_joined ts us)
  joined_moves ts us =
      ap (λ x. sum_from (with_part (trees_moved lines ts) x)) (seq_moves us)
      ∙ ap sum_from (part_moves ts (seq_from us))
      ∙ sum_moves (with_part ts (seq_from us))

  -- ---- a policy

  some : (x y : State) → x ≡ y → ◌≡◌ {A = Option State} (Some x) (Some y)
  some x y e = ap (λ z. Some z) e

  ended_moves : (t : Tree) (fs : List Open) (ts us : Trees)
      → atom_ended (tree_moved lines t) (map open_moved fs) (trees_moved lines ts) (trees_moved lines us) ≡ state_moved (atom_ended t fs ts us)
  ended_moves t [] ts us = ap (state (place.After false) [] (trees_moved lines ts)) (part_moves us t)
  ended_moves t (group ts' us' ∷ fs) ts us =
      ap (state (place.After false) (map open_moved (group ts' us' ∷ fs)) (trees_moved lines ts)) (part_moves us t)
  ended_moves t (negation l ∷ fs) ts us = ended_moves (not_of t l) fs ts us

  close_moves : (fs : List Open) (t : Tree)
      → close (map open_moved fs) (tree_moved lines t) ≡ option_map state_moved (close fs t)
  close_moves [] t = refl
  close_moves (group ts us ∷ fs) t = some _ _ (ended_moves t fs ts us)
  close_moves (negation l ∷ fs) t = refl

  -- where a number may come
  with_number_moves : {A : Type 0} (t : Terminal) (g : A → A) (other : A) (f f' : Number → A) → g other ≡ other
      → ((n : Number) → f' (number_moved lines n) ≡ g (f n))
      → with_number (terminal_moved t) other f' ≡ g (with_number t other f)
  with_number_moves t g other f f' stays same =
      ap (λ o. in_option o other f') (number_in_moves t) ∙ by_number (number_in t)
    where
      by_number : (o : Option Number) → in_option (option_map (number_moved lines) o) other f' ≡ g (in_option o other f)
      by_number None = sym stays
      by_number (Some n) = same n

  -- where a sign may come
  if_moves : {A : Type 0} (b b' : Bool) (g : A → A) (x y x' y' : A) → b' ≡ b → x' ≡ g x → y' ≡ g y
      → (if b' then x' else y') ≡ g (if b then x else y)
  if_moves b b' g x y x' y' e f h = ap (λ c. if c then x' else y') e ∙ by_test b
    where
      by_test : (c : Bool) → (if c then x' else y') ≡ g (if c then x else y)
      by_test true = f
      by_test false = h

  quad_moves : (q : Quad) (t : Terminal) → quad_step true (quad_moved q) (terminal_moved t) ≡ next_moved (quad_step true q t)
  quad_moves (quad.Switch a) t = if_moves (is_colon_terminal t) _ next_moved _ next.Refused _ _ (colon_moves t) refl refl
  quad_moves (quad.Port a m) t = if_moves (is_link_sign true t) _ next_moved _ next.Refused _ _ (between_moves t) refl refl
  quad_moves (quad.ToSwitch a m b) t = if_moves (is_colon_terminal t) _ next_moved _ next.Refused _ _ (colon_moves t) refl refl
  quad_moves q t = with_number_moves t next_moved next.Refused _ _ refl (λ n. refl)

  linked_moves : (fs : List Open) (ts us : Trees) (q : QuadNext)
      → linked (map open_moved fs) (trees_moved lines ts) (trees_moved lines us) (next_moved q) ≡ option_map state_moved (linked fs ts us q)
  linked_moves fs ts us next.Refused = refl
  linked_moves fs ts us (next.Going q) = refl
  linked_moves fs ts us (next.Full a m b n) = some _ _ (ended_moves (link a m b n) fs ts us)

  begin_moves : (fs : List Open) (ts us : Trees) (t : Terminal)
      → begin (map open_moved fs) (trees_moved lines ts) (trees_moved lines us) (terminal_moved t) ≡ option_map state_moved (begin fs ts us t)
  begin_moves fs ts us id_word = some _ _ (ended_moves (seq_of no_part) fs ts us)
  begin_moves fs ts us drop_word = some _ _ (ended_moves (sum_of no_part) fs ts us)
  begin_moves fs ts us dup_word = some _ _ (ended_moves dup fs ts us)
  begin_moves fs ts us t = refl

  go_on_moves : (b : Bool) (fs : List Open) (ts us : Trees) (t : Terminal)
      → after_factor b (map open_moved fs) (trees_moved lines ts) (trees_moved lines us) (terminal_moved t) ≡ option_map state_moved (after_factor b fs ts us t)
  go_on_moves b fs ts us closing = ap (close (map open_moved fs)) (joined_moves ts us) ∙ close_moves fs (terms_joined ts us)
  go_on_moves b fs ts us plus_sign = ap (λ x. Some (state place.Want (map open_moved fs) x no_part)) (ap (λ x. with_part (trees_moved lines ts) x) (seq_moves us) ∙ part_moves ts (seq_from us))
  go_on_moves b fs ts us star_sign = ap (λ x. Some (state (place.After true) (map open_moved fs) (trees_moved lines ts) x)) (star_if b us)
  go_on_moves b fs ts us t = refl

  done_moves : (s : State) (t : Terminal) → step_done (state_moved s) (terminal_moved t) ≡ option_map state_moved (step_done s t)
  done_moves s t = by_place s.place
    where
      by_place : (p : Place)
          → go_on_from (place_moved p) (map open_moved s.frames) (trees_moved lines s.terms) (trees_moved lines s.factors) (terminal_moved t)
          ≡ option_map state_moved (go_on_from p s.frames s.terms s.factors t)
      by_place (place.After b) = go_on_moves b s.frames s.terms s.factors t
      by_place p = refl

  at_moves : (p : Place) (fs : List Open) (ts us : Trees) (t : Terminal)
      → step_at (place_moved p) (map open_moved fs) (trees_moved lines ts) (trees_moved lines us) (terminal_moved t)
      ≡ option_map state_moved (step_at p fs ts us t)
  at_moves place.Want fs ts us t = begin_moves fs ts us t
  at_moves (place.Named w) fs ts us t =
      if_moves (is_equal t) _ (option_map state_moved) _ _ _ _ (equal_moves t) refl
      (if_moves (is_in_word t) _ (option_map state_moved) _ _ _ _ (in_moves t) refl
      (if_moves (is_becomes t) _ (option_map state_moved) _ _ _ _ (becomes_moves t) refl
      (ap (λ s. step_done s (terminal_moved t)) (ended_moves (name_of w) fs ts us) ∙ done_moves (atom_ended (name_of w) fs ts us) t)))
  at_moves (place.Tested w) fs ts us t =
      with_number_moves t (option_map state_moved) None _ _ refl (λ n. some _ _ (ended_moves (test w n) fs ts us))
  at_moves (place.Ranged w) fs ts us t = with_number_moves t (option_map state_moved) None _ _ refl (λ a. refl)
  at_moves (place.RangedFrom w a) fs ts us t = if_moves (is_dots t) _ (option_map state_moved) _ None _ _ (dots_moves t) refl refl
  at_moves (place.RangedTo w a) fs ts us t =
      with_number_moves t (option_map state_moved) None _ _ refl (λ b. some _ _ (ended_moves (range w a b) fs ts us))
  at_moves (place.Assigned w) fs ts us t =
      with_number_moves t (option_map state_moved) None _ _ refl (λ n. some _ _ (ended_moves (assign w n) fs ts us))
  at_moves (place.Linked q) fs ts us t =
      ap (linked (map open_moved fs) (trees_moved lines ts) (trees_moved lines us)) (quad_moves q t)
      ∙ linked_moves fs ts us (quad_step true q t)
  at_moves (place.After b) fs ts us t = go_on_moves b fs ts us t

  -- one more token
  pub step_moves : (s : State) (t : Terminal) → step (state_moved s) (terminal_moved t) ≡ option_map state_moved (step s t)
  step_moves s t = at_moves s.place s.frames s.terms s.factors t

  settled_moves : (s : State) → settled (state_moved s) ≡ state_moved (settled s)
  settled_moves s = by_place s.place
    where
      by_place : (p : Place) → settled_at (place_moved p) (state_moved s) ≡ state_moved (settled_at p s)
      by_place (place.Named w) = ended_moves (name_of w) s.frames s.terms s.factors
      by_place p = refl

  at_end_moves : (p : Place) (fs : List Open) (t : Tree)
      → done_at (place_moved p) (map open_moved fs) (tree_moved lines t) ≡ option_map (tree_moved lines) (done_at p fs t)
  at_end_moves (place.After b) [] t = refl
  at_end_moves p fs t = refl

  -- the end
  pub end_moves : (s : State) → policy_ended (state_moved s) ≡ option_map (tree_moved lines) (policy_ended s)
  end_moves s =
      let z : State = settled s in
      ap done (settled_moves s)
      ∙ ap (done_at (place_moved z.place) (map open_moved z.frames)) (joined_moves z.terms z.factors)
      ∙ at_end_moves z.place z.frames (terms_joined z.terms z.factors)
