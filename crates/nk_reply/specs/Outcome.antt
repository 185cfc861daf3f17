-- The kinds of answer that a command has.
use Rattle.std.specs.Prelude.{ℕ, List}

-- the kinds of answer that a command has, each with its text: it is done; what was compared differs, what was checked isn't
-- valid or what was asked is broken; the text of the input is refused; the policy is refused
pub data Outcome : Type 0 where
  done : List ℕ → Outcome
  differs : List ℕ → Outcome
  text_refused : List ℕ → Outcome
  policy_refused : List ℕ → Outcome
