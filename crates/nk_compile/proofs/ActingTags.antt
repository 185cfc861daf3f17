-- What tables that send for each copy the results of the tag that acts for its number are asked for.
use Rattle.std.proofs.Common.{◌≡◌, ℕ, List}
use Rattle.std.specs.Prelude.{◌↔◌, slice_set}
use Rattle.nk_field.specs.declared.packet.Packet.{Packet}
use Rattle.nk_field.proofs.Lists.{In, NoDup}
use Rattle.nk_policy.specs.Policy.{Policy}
use Rattle.nk_policy.specs.Meaning.{Gives}
use Rattle.nk_table.specs.declared.Tables.{Tables}
use Rattle.nk_table.specs.Rules.{sent_for}
use Rattle.nk_compile.specs.PrintedTable.{IsOfTag, IsResult}
use Rattle.nk_compile.proofs.Reached.{Under}

-- a policy of the tag gives the history
abbrev pub GivesAs : Policy → List (List ℕ) → ℕ → Packet → List Packet → Packet → Type 0
GivesAs p tags tg x w last = (s : Policy) × IsOfTag p tags tg s × Gives s x w last

-- for a copy with this number at x a tag acts under which x is met: each packet sent is a result of it, with the number of
-- the result's tag, and each result is sent once
pub record Acts (t : Tables) (p : Policy) (tag : ℕ) (tags : List (List ℕ)) (number : ℕ → ℕ) (c : ℕ) (x : Packet) : Type 0 where
  pub state : ℕ
  pub under : Under t p tags state x
  pub number_is : number state ≡ c
  pub emits : (q : Packet) → In (sent_for t (slice_set x tag c)) q ↔ ((z : Packet) × (t' : ℕ) × IsResult p tags state x z t' × (q ≡ slice_set z tag (number t')))
  pub apart : NoDup (sent_for t (slice_set x tag c))

-- the numbers of tags: one acts wherever a packet is met under a tag, and from a packet that is met under two tags with one
-- number both give the same histories
pub record Numbering (t : Tables) (p : Policy) (tag : ℕ) (tags : List (List ℕ)) (number : ℕ → ℕ) : Type 0 where
  pub zero_is : number 0 ≡ 0
  pub acts : (tg : ℕ) (x : Packet) → Under t p tags tg x → Acts t p tag tags number (number tg) x
  pub alike :
      (a b : ℕ) (x : Packet) → number a ≡ number b → Under t p tags a x → Under t p tags b x
      → (w : List Packet) (last : Packet) → GivesAs p tags a x w last → GivesAs p tags b x w last
