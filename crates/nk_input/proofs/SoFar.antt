-- A source that is read piece by piece.
use Rattle.std.proofs.Common.{rules, ◌≡◌, ◌≤◌, ◌+◌, ◌++◌, [], ℕ, List, length, take, min, arith, subst}
use Rattle.std.specs.declared.option.Option.{Option}
use Rattle.std.specs.Io.KnownBytes.{Consumes, IsAtEnd}
use Rattle.std.specs.Prelude.{Some, None}
use Rattle.nk_io.specs.Piece.{GivesPiece, IsPieceCause}
use Rattle.nk_io.specs.declared.by_piece.PieceError.TheVariants.{TooLong}
use Rattle.nk_io.proofs.Pieces.{more_given, within_given}
use Rattle.nk_io.specs.Faults.{last_count}
use Rattle.nk_io.specs.Reading.{GaveMore, GaveWithin, IsAllOf}
use Rattle.nk_lex.specs.declared.token.Token.{Token}
use Rattle.nk_lex.specs.Kept.{FeedState, IsFed}
use Rattle.nk_lex.specs.Lex.{tokens_of}
use Rattle.nk_lex.specs.Pieces.{completed}
use Rattle.nk_input.specs.declared.pieces.Lexed.{Lexed}
use Rattle.nk_reply.specs.Answer.{limit}
use Rattle.nk_input.specs.Pieces.{IsLexedAs, IsLexedOf}

-- the bytes that were read so far, which were fed, and whose tokens were taken
pub record IsReadSoFar (old now : Option (List ℕ)) (P : List Token → Type 0) (s : FeedState) (n : ℕ) : Type 0 where
  pub bytes : List ℕ
  pub read : Consumes old now bytes
  pub count : n ≡ length bytes
  pub fits : length bytes ≤ limit
  pub fed : IsFed bytes s
  pub taken : P (completed bytes)

-- all that was left was read, where nothing is left
pub all_read : (old new : Option (List ℕ)) (bytes : List ℕ) → Consumes old new bytes → IsAtEnd new → IsAllOf old bytes
all_read None new bytes c e = tt
all_read (Some xs) None bytes c e = absurd c
all_read (Some xs) (Some ys) bytes c e = search rules

-- a piece came that goes past the limit
pub more_so_far : (old mid new : Option (List ℕ)) (P : List Token → Type 0) (s : FeedState) (n now before after : ℕ) (into : List ℕ)
    → IsReadSoFar old mid P s n → IsPieceCause mid new n now before after into TooLong → GaveMore limit old new
more_so_far old mid new P s n now before after into so cause =
    let piece = cause.3 in
    let count : now ≡ min (length so.bytes + cause.2) last_count = subst (λ m. now ≡ min (m + cause.2) last_count) so.count piece.count in
    more_given old mid new so.bytes into cause.2 limit piece.fits (grind (arith, count, cause.1)) so.read piece.bytes

-- a piece came that stays within it
pub within_so_far : (old mid new : Option (List ℕ)) (P : List Token → Type 0) (s : FeedState) (n now k : ℕ) (into : List ℕ)
    → IsReadSoFar old mid P s n → now ≤ limit → GivesPiece mid new n now into k → GaveWithin limit old new
within_so_far old mid new P s n now k into so within piece =
    let count : now ≡ min (length so.bytes + k) last_count = subst (λ m. now ≡ min (m + k) last_count) so.count piece.count in
    within_given old mid new so.bytes into k limit piece.fits (grind (arith, count, within)) so.read piece.bytes

-- no more bytes were read
same_read : (old mid new : Option (List ℕ)) (bytes : List ℕ) → Consumes old mid bytes → Consumes mid new [] → Consumes old new bytes
same_read None mid new bytes c e = tt
same_read (Some xs) None new bytes c e = absurd c
same_read (Some xs) (Some ys) None bytes c e = absurd e
same_read (Some xs) (Some ys) (Some zs) bytes c e = subst (λ t. xs ≡ bytes ++ t) e c

-- the source is at its end, and all of its bytes are cut so
pub read_whole : (old mid new : Option (List ℕ)) (P Q : List Token → Type 0) (s : FeedState) (n now k : ℕ) (into : List ℕ) (l : Lexed)
    → IsReadSoFar old mid P s n → k ≡ 0 → GivesPiece mid new n now into k → IsAtEnd new
    → ((text : List ℕ) → IsFed text s → P (completed text) → IsLexedAs Q l (tokens_of text)) → IsLexedOf old new Q l
read_whole old mid new P Q s n now k into l so none piece end h =
    let read = same_read old mid new so.bytes so.read (subst (λ m. Consumes mid new (take m into)) none piece.bytes) in record {
      bytes = so.bytes;
      read = read;
      end = end;
      left = all_read old new so.bytes read end;
      fits = so.fits;
      lexed = h so.bytes so.fed so.taken;
    }
