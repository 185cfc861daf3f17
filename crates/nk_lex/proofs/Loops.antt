-- The loop that cuts one lexeme after another, and what it leaves.
use Rattle.std.proofs.Common.{◌≡◌, ◌<◌, ◌≤◌, ◌+◌, ◌-◌, ℕ, List, [], ◌∷◌, ◌++◌, Bool, true, false, not, length, take, drop, get_or, refl, sym, ◌∙◌, ap, arith, cond, Option, option_to_list, subst, append-nil}
use Rattle.std.proofs.lemmas.List.{length-append, get_or-drop, drop-drop, take_rest, length-drop}
use Rattle.std.proofs.Common.{add-zero}
use Rattle.std.specs.Prelude.{Some, None, Ok, Err, IfOk, OnErr, OnOk}
use Rattle.std.specs.declared.result.Result.{Result}
use Rattle.nk_lex.specs.declared.token.Token.{Token}
use Rattle.nk_lex.specs.declared.token.LexError.{LexError}
use Rattle.nk_lex.specs.declared.token.LexError.TheVariants as error
use Rattle.nk_lex.specs.declared.settling.Next.{Next}
use Rattle.nk_lex.specs.declared.unfinished.Pending.TheVariants as pending
use Rattle.std.specs.Prelude.{min}
use Rattle.std.proofs.Common.{◌==◌}
use Rattle.nk_lex.specs.declared.unfinished.Pending.{Pending}
use Rattle.nk_lex.specs.Classes.{is_digit}
use Rattle.nk_lex.proofs.Standing.{of_both}
use Rattle.nk_lex.specs.Lex.{largest, value_of, LexFails, cut, cut_front, front_of, line_after, HasToken, IsFaultOfText}
use Rattle.nk_lex.proofs.Cuts.{settle_after, front_settles, whole_opens}
use Rattle.nk_lex.specs.Kept.{IsKept, IsPendingWithin, pending_of}
use Rattle.nk_lex.specs.NextPiece.{Fits, IsNext, has_whole, wanted}
use Rattle.nk_lex.specs.Pieces.{Left, Rest, Fault, Settled, held_in, held_of, is_open, settle, settle_on}
use Rattle.nk_lex.proofs.Steps.{lines_most}

-- what the loop keeps, over the lexemes of the slice from `from` on
pub record Going (bytes : List ℕ) (at first : ℕ) (before : List Token) (from line : ℕ) (ts : List Token) : Type 0 where
  pub within : from ≤ length bytes
  pub lines : line ≤ at + from + 1
  pub more : length before ≤ length ts
  pub rest : settle_after ts (settle (drop from bytes) 0 line (at + from)) ≡ settle_after before (settle bytes 0 first at)

pub going_on : (bytes : List ℕ) (at first : ℕ) (before : List Token) (from line : ℕ) (ts : List Token) (n : ℕ) (t : Option Token)
    → Going bytes at first before from line ts
    → has_whole (take (length bytes - from) (drop from bytes)) ≡ true
    → (0 < n) × (n ≤ length (take (length bytes - from) (drop from bytes)))
    → cut_front (take (length bytes - from) (drop from bytes)) line (at + from) ≡ Ok (n, t)
    → Going bytes at first before (from + n) (line_after line (get_or bytes from 0)) (ts ++ option_to_list t)
going_on bytes at first before from line ts n t g w some e =
    let fits : n ≤ length (drop from bytes) = rw take_rest at some.1 in
    let is : cut_front (drop from bytes) line (at + from) ≡ Ok (n, t) = rw take_rest at e in
    let whole : has_whole (drop from bytes) ≡ true = rw take_rest at w in
    let byte : get_or (drop from bytes) 0 0 ≡ get_or bytes from 0
    = get_or-drop from bytes 0 0 ∙ ap (λ i. get_or bytes i 0) (add-zero from) in
    let rest : drop n (drop from bytes) ≡ drop (from + n) bytes = drop-drop n from bytes in
    let place : at + from + n ≡ at + (from + n) = omega arith in
    let step : settle_after (ts ++ option_to_list t) (settle (drop (from + n) bytes) 0 (line_after line (get_or bytes from 0)) (at + (from + n)))
    ≡ settle_after ts (settle (drop from bytes) 0 line (at + from))
    = rw (← rest, ← byte, ← place) (front_settles (drop from bytes) n line (at + from) t ts some.0 fits whole is) in
    let lines : line_after line (get_or bytes from 0) ≤ at + from + n + 1
    = lines_most line (get_or bytes from 0) (at + from) n g.lines some.0 in
    record {
      within = omega (arith, length-drop from bytes, g.within, fits);
      lines = omega (arith, lines);
      more = omega (arith, g.more, length-append ts (option_to_list t));
      rest = step ∙ g.rest;
    }

-- a lexeme with a token makes a list that isn't empty
token_some : (bytes : List ℕ) (line at : ℕ) → has_whole bytes ≡ true → HasToken (cut_front bytes line at)
    → 0 < length (settle bytes 0 line at).0
token_some [] line at w h = absurd cc
token_some (b ∷ rest) line at w h =
    rw (whole_opens b rest w) (one (cut (front_of b rest) line at (b ∷ rest)) (λ n. settle rest (n - 1) (line_after line b) (at + 1)) h)
  where
    one : (r : Result (ℕ × Option Token) LexError) (next : ℕ → Settled) → HasToken r → 0 < length (settle_on r next).0
    one (Ok (n, Some t)) next h = omega arith
    one (Ok (n, None)) next h = absurd h
    one (Err e) next h = absurd h

-- memory was wanted for a token
pub token_wants : (bytes : List ℕ) (at first : ℕ) (before : List Token) (from line : ℕ) (ts : List Token)
    → Going bytes at first before from line ts → has_whole (take (length bytes - from) (drop from bytes)) ≡ true
    → HasToken (cut_front (take (length bytes - from) (drop from bytes)) line (at + from))
    → 0 < wanted (settle bytes 0 first at)
token_wants bytes at first before from line ts g w h =
    let whole : has_whole (drop from bytes) ≡ true = rw take_rest at w in
    let has : HasToken (cut_front (drop from bytes) line (at + from)) = rw take_rest at h in
    omega (
      arith,
      g.more,
      token_some (drop from bytes) line (at + from) whole has,
      ap (λ r. length r.0) g.rest,
      length-append ts (settle (drop from bytes) 0 line (at + from)).0,
      length-append before (settle bytes 0 first at).0,
    )

whole_rest : (bytes : List ℕ) (line at : ℕ) → has_whole bytes ≡ false → settle bytes 0 line at ≡ ([], Rest line at bytes)
whole_rest [] line at h = refl
whole_rest (b ∷ rest) line at h = by_test (is_open b rest) h
  where
    by_test : (t : Bool) → not t ≡ false
        → cond t ([], Rest line at (b ∷ rest)) (settle_on (cut (front_of b rest) line at (b ∷ rest)) (λ n. settle rest (n - 1) (line_after line b) (at + 1)))
        ≡ ([], Rest line at (b ∷ rest))
    by_test true h = refl
    by_test false h = absurd cc

fault_rest : (bytes : List ℕ) (line at : ℕ) (e : LexError) → has_whole bytes ≡ true → cut_front bytes line at ≡ Err e
    → settle bytes 0 line at ≡ ([], Fault e)
fault_rest [] line at e w h = absurd cc
fault_rest (b ∷ rest) line at e w h = rw (whole_opens b rest w, h) refl

-- what the loop leaves, where the rest is left so
left_so : (bytes : List ℕ) (at first : ℕ) (before : List Token) (from line : ℕ) (ts : List Token) (l : Left)
    → Going bytes at first before from line ts → settle (drop from bytes) 0 line (at + from) ≡ ([], l)
    → (ts ≡ before ++ (settle bytes 0 first at).0) × ((settle bytes 0 first at).1 ≡ l)
left_so bytes at first before from line ts l g e =
    let all : settle_after ts ([], l) ≡ settle_after before (settle bytes 0 first at) = sym (ap (settle_after ts) e) ∙ g.rest in
    (sym (append-nil ts) ∙ ap (λ r. r.0) all, sym (ap (λ r. r.1) all))

pub left_at_end : (bytes : List ℕ) (at first : ℕ) (before : List Token) (from line : ℕ) (ts : List Token)
    → Going bytes at first before from line ts → has_whole (take (length bytes - from) (drop from bytes)) ≡ false
    → (ts ≡ before ++ (settle bytes 0 first at).0)
    × ((settle bytes 0 first at).1 ≡ Rest line (at + from) (take (length bytes - from) (drop from bytes)))
left_at_end bytes at first before from line ts g w =
    let whole : has_whole (drop from bytes) ≡ false = rw take_rest at w in
    rw take_rest (left_so bytes at first before from line ts (Rest line (at + from) (drop from bytes)) g (whole_rest (drop from bytes) line (at + from) whole))

pub left_at_fault : (bytes : List ℕ) (at first : ℕ) (before : List Token) (from line : ℕ) (ts : List Token) (e : LexError)
    → Going bytes at first before from line ts → has_whole (take (length bytes - from) (drop from bytes)) ≡ true
    → cut_front (take (length bytes - from) (drop from bytes)) line (at + from) ≡ Err e
    → (ts ≡ before ++ (settle bytes 0 first at).0) × ((settle bytes 0 first at).1 ≡ Fault e)
left_at_fault bytes at first before from line ts e g w h =
    let whole : has_whole (drop from bytes) ≡ true = rw take_rest at w in
    let is : cut_front (drop from bytes) line (at + from) ≡ Err e = rw take_rest at h in
    left_so bytes at first before from line ts (Fault e) g (fault_rest (drop from bytes) line (at + from) e whole is)

-- ---- what is answered

-- a fault that isn't running out of memory is the text's
pub fails_is : {Y : Type 0} (e : LexError) (read : Result Y LexError) → IsFaultOfText e → LexFails e read → read ≡ Err e
fails_is error.NoMemory read f h = absurd f
fails_is (error.BadByte line) read f h = h
fails_is (error.NumberTooLarge line) read f h = h

pub stop_next : {E : Type 0} (r : Result Next E) (before ts : List Token) (s : Settled) (e : LexError)
    → (IsFaultOfText e → (ts ≡ before ++ s.0) × (s.1 ≡ Fault e)) → OnOk r (IsFaultOfText e)
    → IfOk r (λ n. n.tokens.items ≡ ts) → IfOk r (λ n. n.pending ≡ pending.Fault e) → IfOk r (λ n. n.held.items ≡ [])
    → IfOk r (IsNext before s)
stop_next (Ok n) before ts s e l f t p h = record {
  tokens = t ∙ (l f).0;
  kept = subst (λ m. IsKept m n.line n.pending n.held.items) (sym (l f).1) (p, h);
}
stop_next (Err x) before ts s e l f t p h = tt

pub stop_fits : {E : Type 0} (r : Result Next E) (line fed : ℕ) (e : LexError) → line ≤ fed + 1
    → IfOk r (λ n. n.line ≡ line) → IfOk r (λ n. n.pending ≡ pending.Fault e) → IfOk r (λ n. n.held.items ≡ [])
    → IfOk r (Fits fed)
stop_fits (Ok n) line fed e most i p h = record {
  line = rw (h, i) (omega (arith, most));
  held = rw h (omega arith);
  pending = subst (λ q. IsPendingWithin q fed) (sym p) tt;
}
stop_fits (Err x) line fed e most i p h = tt

pub stop_wants : {X E : Type 0} {P : Type 0} (r : Result X E) (e : LexError) → (e ≡ error.NoMemory → P)
    → OnErr r (e ≡ error.NoMemory) → OnErr r P
stop_wants (Ok n) e f h = tt
stop_wants (Err x) e f h = f h

pub opened_next : {E : Type 0} (r : Result Next E) (before ts : List Token) (s : Settled) (line at : ℕ) (slice : List ℕ)
    → (ts ≡ before ++ s.0) × (s.1 ≡ Rest line at slice)
    → IfOk r (λ n. n.tokens.items ≡ ts) → IfOk r (λ n. n.line ≡ line) → IfOk r (λ n. n.pending ≡ pending_of at slice)
    → IfOk r (λ n. n.held.items ≡ held_of slice) → IfOk r (IsNext before s)
opened_next (Ok n) before ts s line at slice l t i p h = record {
  tokens = t ∙ l.0;
  kept = subst (λ m. IsKept m n.line n.pending n.held.items) (sym l.1) (i, p, h);
}
opened_next (Err e) before ts s line at slice l t i p h = tt

pub opened_wants : {E : Type 0} (r : Result Next E) (before ts : List Token) (s : Settled) (line at : ℕ) (slice : List ℕ)
    → (ts ≡ before ++ s.0) × (s.1 ≡ Rest line at slice)
    → OnErr r (0 < length (held_of slice)) → OnErr r (0 < wanted s)
opened_wants (Ok n) before ts s line at slice l h = tt
opened_wants (Err e) before ts s line at slice l h = omega (arith, h, ap (λ m. length (held_in m)) l.1)

held_short : (bytes : List ℕ) → length (held_of bytes) ≤ length bytes
held_short [] = omega arith
held_short (b ∷ rest) =
    of_both P (b == 35) [] _ (omega arith) (of_both P (is_digit b) [] (b ∷ rest) (omega arith) (omega arith))
  where
    P : List ℕ → Type 0
    P held = length held ≤ length (b ∷ rest)

pending_within : (at : ℕ) (bytes : List ℕ) (fed : ℕ) → at ≤ fed → IsPendingWithin (pending_of at bytes) fed
pending_within at [] fed most = tt
pending_within at (b ∷ rest) fed most =
    of_both P (b == 35) pending.Comment _ tt
    (of_both P (is_digit b) (pending.Number at (min (value_of (b ∷ rest)) (largest + 1))) pending.Held (most, omega arith) tt)
  where
    P : Pending → Type 0
    P p = IsPendingWithin p fed

pub opened_fits : {E : Type 0} (r : Result Next E) (line at fed : ℕ) (slice : List ℕ) → line ≤ at + 1 → at + length slice ≤ fed
    → IfOk r (λ n. n.line ≡ line) → IfOk r (λ n. n.pending ≡ pending_of at slice) → IfOk r (λ n. n.held.items ≡ held_of slice)
    → IfOk r (Fits fed)
opened_fits (Ok n) line at fed slice l f i p h = record {
  line = rw (i, h) (omega (arith, l, f, held_short slice));
  held = rw h (omega (arith, f, held_short slice));
  pending = subst (λ q. IsPendingWithin q fed) (sym p) (pending_within at slice fed (omega (arith, f)));
}
opened_fits (Err e) line at fed slice l f i p h = tt
