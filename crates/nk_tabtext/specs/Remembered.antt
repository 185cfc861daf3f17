-- The row that was put last, as a writer remembers it with its text.
use Rattle.std.specs.Prelude.{◌≡◌, ℕ, ◌<◌, ◌≤◌, Bool, true, false, codes, IfSome, List, [], ◌∷◌, ◌++◌, map, take, length, slice_index_or}
use Rattle.std.specs.Fmt.{decimal}
use Rattle.std.specs.List.{flat_map}
use Rattle.nk_field.specs.Packet.{FieldTable}
use Rattle.nk_tabtext.specs.declared.last_bucket.LastBucket.{LastBucket}
use Rattle.nk_tabtext.specs.declared.last_matches.LastMatches.{LastMatches}
use Rattle.nk_tabtext.specs.declared.last_matches.PrintedMatch.{PrintedMatch}
use Rattle.nk_tabtext.specs.declared.last_row.LastRow.{LastRow}
use Rattle.nk_tabtext.specs.Text.{bucket_text, is_tag, match_text}

-- a match where two flags agree, else none
abbrev pub match_where : Bool → Bool → ℕ × ℕ × ℕ → List (ℕ × ℕ × ℕ)
match_where true true m = m ∷ []
match_where true false m = []
match_where false true m = []
match_where false false m = m ∷ []

-- the matches of the tag, or the other ones
abbrev pub those : FieldTable → Bool → List (ℕ × ℕ × ℕ) → List (ℕ × ℕ × ℕ)
those fs tag ms = flat_map (λ m. match_where (is_tag fs m.0) tag m) ms

-- the matches of a row in the order of its text: the tag first
abbrev pub as_printed : FieldTable → List (ℕ × ℕ × ℕ) → List (ℕ × ℕ × ℕ)
as_printed fs ms = those fs true ms ++ those fs false ms

-- these matches are remembered, as these fields print them
pub record Remembers (fs : FieldTable) (ms : List (ℕ × ℕ × ℕ)) (l : LastMatches) : Type 0 where
  -- they and no others, in this order
  pub matches : map (λ (p : PrintedMatch). p.matched) l.matches.items ≡ ms
  -- their text
  pub text : l.text.items ≡ flat_map (match_text fs) ms
  -- each knows how long the text is before it
  pub starts : (i : ℕ) (d : PrintedMatch) → i < length ms → (slice_index_or l.matches.items i d).start ≡ length (flat_map (match_text fs) (take i ms))

-- the line of a row up to what it does, by the text of its matches
abbrev pub row_front_text : ℕ → List ℕ → List ℕ
row_front_text priority matches = codes "row " ++ decimal priority ++ codes " : " ++ matches

-- the line of a row after its matches, by the text of what it does
abbrev pub row_end_text : List ℕ → List ℕ
row_end_text target = codes "-> " ++ target ++ codes "\n"

-- where a bucket is remembered, the text is that after the matches of a row with it, as these fields print it
abbrev pub RemembersBucket : FieldTable → LastBucket → Type 0
RemembersBucket fs l = IfSome l.bucket (λ b. l.text.items ≡ row_end_text (bucket_text fs b))

-- what is remembered of a row is right, as these fields print it
pub record RemembersSome (fs : FieldTable) (l : LastRow) : Type 0 where
  -- its matches
  pub ms : List (ℕ × ℕ × ℕ)
  pub matches : Remembers fs ms l.matches
  pub bucket : RemembersBucket fs l.bucket

-- some matches are remembered, and the first n of them are these of a row
pub record BeginsWith (fs : FieldTable) (row : List (ℕ × ℕ × ℕ)) (n : ℕ) (l : LastMatches) : Type 0 where
  -- those that are remembered
  pub kept : List (ℕ × ℕ × ℕ)
  pub remembers : Remembers fs kept l
  -- there are as many
  pub within : n ≤ length kept
  -- they are the row's
  pub front : take n kept ≡ row
