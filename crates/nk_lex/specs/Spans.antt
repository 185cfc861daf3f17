-- What holds of every token that a text gives.
use Rattle.std.specs.Prelude.{◌≡◌, ◌+◌, ◌-◌, ◌<◌, ◌≤◌, ℕ, List, [], ◌∷◌, length, take, drop, ◌==◌, ⊤}
use Rattle.std.specs.List.{All, count_by}
use Rattle.nk_lex.specs.declared.kind.Kind.TheVariants as kind
use Rattle.nk_lex.specs.declared.token.Token.{Token}
use Rattle.nk_lex.specs.Lex.{largest, scan, value_of}

-- the tokens of a text up to its first fault
abbrev pub tokens_before_fault : List ℕ → List Token
tokens_before_fault text = (scan text 0 1 0).0

-- what the text has between the token's start and its end
abbrev pub span_of : List ℕ → Token → List ℕ
span_of text t = take (t.end - t.start) (drop t.start text)

-- the last token's line, or the one given where there is no token
abbrev pub last_line : ℕ → List Token → ℕ
last_line line [] = line
last_line line (t ∷ ts) = last_line t.line ts

-- how many line feeds there are
abbrev pub line_feeds : List ℕ → ℕ
line_feeds text = count_by (λ b. b == 10) text

-- the tokens follow one another from this index on, each with at least one byte
abbrev pub StandInOrder : ℕ → List Token → Type 0
StandInOrder from [] = ⊤
StandInOrder from (t ∷ ts) = (from ≤ t.start) × (t.start < t.end) × StandInOrder t.end ts

-- no token's value is above the largest number
abbrev pub ValuesAreSmall : Type 0
ValuesAreSmall = (text : List ℕ) → All (λ t. t.value ≤ largest) (tokens_before_fault text)

-- the spans ascend, don't overlap, and stand in the text
abbrev pub SpansAscend : Type 0
SpansAscend = (text : List ℕ) → StandInOrder 0 (tokens_before_fault text)
    × All (λ t. t.end ≤ length text) (tokens_before_fault text)

-- a name's text is what stands in its span
abbrev pub NamesAreSlices : Type 0
NamesAreSlices = (text : List ℕ) →
    All (λ t. t.kind ≡ kind.Name → t.text ≡ span_of text t) (tokens_before_fault text)

-- a token's line is 1 plus the line feeds before its start
abbrev pub LinesCount : Type 0
LinesCount = (text : List ℕ) →
    All (λ t. t.line ≡ 1 + line_feeds (take t.start text)) (tokens_before_fault text)

-- a number's value is the decimal value of the digits in its span
abbrev pub NumbersAreDigits : Type 0
NumbersAreDigits = (text : List ℕ) →
    All (λ t. t.kind ≡ kind.Number → t.value ≡ value_of (span_of text t)) (tokens_before_fault text)
