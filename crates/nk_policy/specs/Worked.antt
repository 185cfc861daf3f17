-- The histories of small policies, worked out by hand: from the packet with switch 1, port 1 and 3 in the third field.
use Rattle.std.specs.Prelude.{◌≡◌, ℕ, List, [], ◌∷◌}
use Rattle.nk_field.specs.declared.packet.Packet.{Packet}
use Rattle.nk_field.specs.declared.history.History.{History}
use Rattle.nk_policy.specs.Policy.{Policy, test, assign, sum_of, seq_of, link, no_part, part}
use Rattle.nk_policy.specs.Histories.{histories_of}

-- a packet by its first three fields
abbrev pub packet : ℕ → ℕ → ℕ → Packet
packet s p d = s ∷ p ∷ d ∷ []

-- the packet with which each row begins
abbrev pub start : Packet
start = packet 1 1 3

-- a history
abbrev pub ending : List Packet → Packet → History
ending w y = record { records = w; last = y }

-- a sum of two parts
abbrev pub sum2 : Policy → Policy → Policy
sum2 p q = sum_of (part p (part q no_part))

-- a sequence of two parts
abbrev pub seq2 : Policy → Policy → Policy
seq2 p q = seq_of (part p (part q no_part))

-- sw=1;pt=1;pt:=2;1:2=>2:1;pt:=2, the link's dups numbered 1 and 2
abbrev pub over_one_link : Policy
over_one_link =
    seq_of (part (test 0 1) (part (test 1 1) (part (assign 1 2) (part (link 1 2 2 1 1) (part (assign 1 2) no_part)))))

-- the policy has these histories from the start packet
abbrev pub HasHistories : Policy → List History → Type 0
HasHistories p hs = histories_of p start ≡ hs

-- a policy that keeps the start packet alone
abbrev pub Keeps : Policy → Type 0
Keeps p = HasHistories p (ending [] start ∷ [])

-- a policy that drops it
abbrev pub Drops : Policy → Type 0
Drops p = HasHistories p []
