-- A text that is translated piece by piece: what was read and written so far, and how the run ends.
use Rattle.std.proofs.Common.{rules, ◌≡◌, ◌≤◌, ◌<◌, ◌+◌, ◌++◌, [], ◌∷◌, suc, inl, inr, ℕ, List, length, take, min, sym, ap, ◌∙◌, arith, subst, zero-add, append_assoc, append-nil}
use Rattle.std.proofs.KnownBytes.{Appends-trans, Consumes-kept, Consumes-trans}
use Rattle.std.proofs.lemmas.List.{length-append, length-take}
use Rattle.std.specs.declared.option.Option.{Option}
use Rattle.std.specs.declared.result.Result.{Result}
use Rattle.std.specs.Io.KnownBytes.{Appends, Consumes, IsAtEnd, Keeps}
use Rattle.std.specs.Prelude.{Some, None, Ok, Err}
use Rattle.nk_io.specs.Faults.{AppendsProperPrefix, Rose, last_count}
use Rattle.nk_io.specs.Piece.{GivesPiece, IsPieceCause}
use Rattle.nk_io.specs.declared.by_piece.PieceError.TheVariants.{TooLong}
use Rattle.nk_io.specs.Reading.{IsAllOf}
use Rattle.nk_reply.specs.Answer.{limit}
use Rattle.nk_reply.specs.Use.{Use}
use Rattle.nk_notation.specs.Cutting.{lexemes_left}
use Rattle.nk_notation.specs.Lexemes.{TextLexeme, lexemes_of}
use Rattle.nk_notation.specs.declared.cutter.Open.{Open}
use Rattle.nk_notation.specs.declared.pieces.Ending.{Ending}
use Rattle.nk_notation.specs.declared.pieces.Ending.TheVariants as ending
use Rattle.nk_notation.specs.Run.{BeginsEach, TranslationEnds, Finishes, HasRest, AreBytesSent, IsSoundSoFar, Passes, piece_size}
use Rattle.nk_notation.specs.Translation.{Translated, then_rest}

-- what came of a piece was written, or the sink failed at it
pub passed : {X : Type 0} (whole rest : List ℕ → Translated) (piece old bytes : List ℕ) (out : Use) (r : Result X Ending)
    → old ≡ [] → ((more : List ℕ) → then_rest old (whole (piece ++ more)) ≡ then_rest bytes (rest more)) → AreBytesSent bytes out r → Passes whole rest piece out r
passed whole rest piece old bytes out (Ok x) none h sent = (bytes, λ more. subst (λ l. then_rest l (whole (piece ++ more)) ≡ then_rest bytes (rest more)) none (h more), sent)
passed whole rest piece old bytes out (Err ending.WriteFault) none h sent =
    (bytes, λ more. ((rest more).bytes, ap (λ t. t.bytes) (subst (λ l. then_rest l (whole (piece ++ more)) ≡ then_rest bytes (rest more)) none (h more))), sent)
passed whole rest piece old bytes out r none h sent = absurd sent

-- The bytes that were read so far, and what was written; what comes of the whole text is that and what comes of the bytes that are left.
pub record IsSoFar (made left : List ℕ → Translated) (s0 s1 o0 o1 : Option (List ℕ)) (n : ℕ) : Type 0 where
  pub text : List ℕ
  pub read : Consumes s0 s1 text
  pub count : n ≡ length text
  pub fits : length text ≤ limit
  pub written : List ℕ
  pub taken : Appends o0 o1 written
  pub all : (more : List ℕ) → made (text ++ more) ≡ then_rest written (left more)

two_parts : (w v : List ℕ) (t : Translated) → then_rest w (then_rest v t) ≡ then_rest (w ++ v) t
two_parts w v t = ap (λ l. record { bytes = l; fault = t.fault }) (sym (append_assoc w v t.bytes))

count_more : (a k n now : ℕ) → n ≡ a → now ≡ min (n + k) last_count → now ≤ limit → (now ≡ a + k) × (a + k ≤ limit)
count_more a k n now e is_now le = let small : now ≤ 16777216 = le in (grind arith, grind arith)

length_of_piece : (text into : List ℕ) (k : ℕ) → k ≤ length into → length (text ++ take k into) ≡ length text + k
length_of_piece text into k le = rw (length-append, length-take) (omega arith)

-- one more piece
pub more_so_far : {X : Type 0} (x : X) (made left rest : List ℕ → Translated) (s0 s1 s2 o0 o1 o2 : Option (List ℕ)) (n now k b c : ℕ) (into : List ℕ)
    → IsSoFar made left s0 s1 o0 o1 n → GivesPiece s1 s2 n now into k → now ≤ limit
    → Passes {X = X} left rest (take k into) (record { old = o1; new = o2; before = b; now = c }) (Ok x)
    → IsSoFar made rest s0 s2 o0 o2 now
more_so_far x made left rest s0 s1 s2 o0 o1 o2 n now k b c into so piece le p =
    let counted = count_more (length so.text) k n now so.count piece.count le in
    let len : length (so.text ++ take k into) ≡ length so.text + k = length_of_piece so.text into k piece.fits in record {
      text = so.text ++ take k into;
      read = Consumes-trans s0 s1 s2 so.text (take k into) so.read piece.bytes;
      count = counted.0 ∙ sym len;
      fits = subst (λ m. m ≤ limit) (sym len) counted.1;
      written = so.written ++ p.0;
      taken = Appends-trans o0 o1 o2 so.written p.0 so.taken p.2.taken;
      all = λ more.
          ap made (append_assoc so.text (take k into) more)
          ∙ so.all (take k into ++ more)
          ∙ ap (then_rest so.written) (p.1 more)
          ∙ two_parts so.written p.0 (rest more);
    }

take_past : (w v : List ℕ) (n : ℕ) → take (length w + n) (w ++ v) ≡ w ++ take n v
take_past [] v n = ap (λ k. take k v) (zero-add n)
take_past (x ∷ xs) v n =
    let e : suc (length xs) + n ≡ suc (length xs + n) = omega arith in
    ap (λ k. take k (x ∷ xs ++ v)) e ∙ ap (λ l. x ∷ l) (take_past xs v n)

pub failed_past : (o0 o1 o2 : Option (List ℕ)) (w v : List ℕ) → Appends o0 o1 w → AppendsProperPrefix o1 o2 v → AppendsProperPrefix o0 o2 (w ++ v)
failed_past o0 o1 o2 w v a p = (
  length w + p.0,
  (let lt : p.0 < length v = p.1 in omega (arith, length-append w v)),
  subst (λ l. Appends o0 o2 l) (sym (take_past w v p.0)) (Appends-trans o0 o1 o2 w (take p.0 v) a p.2),
)

rest_past : (w v : List ℕ) (t : Translated) → HasRest v t → HasRest (w ++ v) (then_rest w t)
rest_past w v t h = (h.0, ap (λ l. w ++ l) h.1 ∙ sym (append_assoc w v h.0))

rest_of : (w : List ℕ) (t u : Translated) → t ≡ u → HasRest w u → HasRest w t
rest_of w t u e h = subst (HasRest w) (sym e) h

-- all that begins with what was read is written beginning with what was written
begins_so_far : (made left : List ℕ → Translated) (text written : List ℕ) → ((more : List ℕ) → made (text ++ more) ≡ then_rest written (left more))
    → BeginsEach made text written
begins_so_far made left text written all = λ more. ((left more).bytes, ap (λ t. t.bytes) (all more))

-- after a piece of which nothing was written, all that begins with what was read is written beginning with what was written
begins_after : (made left : List ℕ → Translated) (text piece written : List ℕ) → ((more : List ℕ) → made (text ++ more) ≡ then_rest written (left more))
    → BeginsEach made (text ++ piece) written
begins_after made left text piece written all = λ more.
    ((left (piece ++ more)).bytes, ap (λ t. t.bytes) (ap made (append_assoc text piece more) ∙ all (piece ++ more)))

untouched_after : (o0 o1 o2 : Option (List ℕ)) (w : List ℕ) (b c : ℕ) → Appends o0 o1 w → Keeps o1 o2 → Appends o0 o2 w
untouched_after None o1 o2 w b c a k = tt
untouched_after (Some x) None o2 w b c a k = absurd a
untouched_after (Some x) (Some y) None w b c a k = absurd k
untouched_after (Some x) (Some y) (Some z) w b c a k = k ∙ a

-- a run that ends at a piece
pub ends_at_piece : (X : Type 0) (e : Ending) (made left rest : List ℕ → Translated) (s0 s1 s2 o0 o1 o2 : Option (List ℕ)) (n now k fs0 fs2 fo0 fo1 fo2 : ℕ) (into : List ℕ)
    → IsSoFar made left s0 s1 o0 o1 n → GivesPiece s1 s2 n now into k → now ≤ limit → fs2 ≡ fs0 → fo1 ≡ fo0
    → Passes {X = X} left rest (take k into) (record { old = o1; new = o2; before = fo1; now = fo2 }) (Err e)
    → TranslationEnds made (record { old = s0; new = s2; before = fs0; now = fs2 }) (record { old = o0; new = o2; before = fo0; now = fo2 }) e
ends_at_piece X (ending.Refused f) made left rest s0 s1 s2 o0 o1 o2 n now k fs0 fs2 fo0 fo1 fo2 into so piece le qs qo p =
    let counted = count_more (length so.text) k n now so.count piece.count le in record {
      text = so.text ++ take k into;
      read = Consumes-trans s0 s1 s2 so.text (take k into) so.read piece.bytes;
      fits = subst (λ m. m ≤ limit) (sym (length_of_piece so.text into k piece.fits)) counted.1;
      quiet = qs;
      written = so.written ++ p.0;
      refused = inl (λ more.
          ap made (append_assoc so.text (take k into) more)
          ∙ so.all (take k into ++ more)
          ∙ ap (then_rest so.written) (p.1 more));
      taken = record { taken = Appends-trans o0 o1 o2 so.written p.0 so.taken p.2.taken; quiet = p.2.quiet ∙ qo };
    }
ends_at_piece X ending.NoMemory made left rest s0 s1 s2 o0 o1 o2 n now k fs0 fs2 fo0 fo1 fo2 into so piece le qs qo p =
    let counted = count_more (length so.text) k n now so.count piece.count le in (
      record {
        text = so.text ++ take k into;
        read = Consumes-trans s0 s1 s2 so.text (take k into) so.read piece.bytes;
        fits = subst (λ m. m ≤ limit) (sym (length_of_piece so.text into k piece.fits)) counted.1;
        so_far = record {
          written = so.written;
          begins = begins_after made left so.text (take k into) so.written so.all;
          taken = record { taken = untouched_after o0 o1 o2 so.written fo1 fo2 so.taken p.same; quiet = p.quiet ∙ qo };
        };
      },
      qs,
    )
ends_at_piece X ending.WriteFault made left rest s0 s1 s2 o0 o1 o2 n now k fs0 fs2 fo0 fo1 fo2 into so piece le qs qo p =
    let counted = count_more (length so.text) k n now so.count piece.count le in record {
      text = so.text ++ take k into;
      read = Consumes-trans s0 s1 s2 so.text (take k into) so.read piece.bytes;
      fits = subst (λ m. m ≤ limit) (sym (length_of_piece so.text into k piece.fits)) counted.1;
      quiet = qs;
      written = so.written ++ p.0;
      begins = inl (λ more.
          rest_of (so.written ++ p.0) (made ((so.text ++ take k into) ++ more)) (then_rest so.written (left (take k into ++ more)))
          (ap made (append_assoc so.text (take k into) more) ∙ so.all (take k into ++ more))
          (rest_past so.written p.0 (left (take k into ++ more)) (p.1 more)));
      failed = record {
        rose = subst (λ m. Rose m fo2) qo p.2.rose;
        part = failed_past o0 o1 o2 so.written p.0 so.taken p.2.part;
      };
    }
ends_at_piece X e made left rest s0 s1 s2 o0 o1 o2 n now k fs0 fs2 fo0 fo1 fo2 into so piece le qs qo p = absurd p

-- all that was left was read, where nothing is left
all_read : (old new : Option (List ℕ)) (bytes : List ℕ) → Consumes old new bytes → IsAtEnd new → IsAllOf old bytes
all_read None new bytes c e = tt
all_read (Some xs) None bytes c e = absurd c
all_read (Some xs) (Some ys) bytes c e = search rules

same_read : (old mid new : Option (List ℕ)) (bytes : List ℕ) → Consumes old mid bytes → Consumes mid new [] → Consumes old new bytes
same_read None mid new bytes c e = tt
same_read (Some xs) None new bytes c e = absurd c
same_read (Some xs) (Some ys) None bytes c e = absurd e
same_read (Some xs) (Some ys) (Some zs) bytes c e = subst (λ t. xs ≡ bytes ++ t) e c

-- no more bytes were read
read_last : (old mid new : Option (List ℕ)) (n now k : ℕ) (into bytes : List ℕ) → Consumes old mid bytes → k ≡ 0 → GivesPiece mid new n now into k → Consumes old new bytes
read_last old mid new n now k into bytes c none piece = same_read old mid new bytes c (subst (λ m. Consumes mid new (take m into)) none piece.bytes)

whole_text : (made left : List ℕ → Translated) (text written : List ℕ) → ((more : List ℕ) → made (text ++ more) ≡ then_rest written (left more))
    → made text ≡ then_rest written (left [])
whole_text made left text written all = ap made (sym (append-nil text)) ∙ all []

-- a run that ends with the text
pub ends_with_text : (e : Ending) (made left : List ℕ → Translated) (s0 s1 s2 o0 o1 o2 : Option (List ℕ)) (n now k fs0 fs2 fo0 fo1 fo2 : ℕ) (into : List ℕ)
    → IsSoFar made left s0 s1 o0 o1 n → k ≡ 0 → GivesPiece s1 s2 n now into k → IsAtEnd s2 → fs2 ≡ fs0 → fo1 ≡ fo0
    → Finishes (left []) (record { old = o1; new = o2; before = fo1; now = fo2 }) e
    → TranslationEnds made (record { old = s0; new = s2; before = fs0; now = fs2 }) (record { old = o0; new = o2; before = fo0; now = fo2 }) e
ends_with_text ending.ReadFault made left s0 s1 s2 o0 o1 o2 n now k fs0 fs2 fo0 fo1 fo2 into so none piece end qs qo p = absurd p
ends_with_text ending.TooLong made left s0 s1 s2 o0 o1 o2 n now k fs0 fs2 fo0 fo1 fo2 into so none piece end qs qo p = absurd p
ends_with_text ending.Done made left s0 s1 s2 o0 o1 o2 n now k fs0 fs2 fo0 fo1 fo2 into so none piece end qs qo p =
    let read = read_last s0 s1 s2 n now k into so.text so.read none piece in
    let whole = whole_text made left so.text so.written so.all ∙ ap (then_rest so.written) p.1 in record {
      text = so.text;
      read = read;
      end = end;
      left = all_read s0 s2 so.text read end;
      fits = so.fits;
      quiet = qs;
      sound = ap (λ t. t.fault) whole;
      taken = record {
        taken = subst (λ l. Appends o0 o2 l) (sym (ap (λ t. t.bytes) whole ∙ ap (λ l. so.written ++ l) (append-nil p.0)))
            (Appends-trans o0 o1 o2 so.written p.0 so.taken p.2.taken);
        quiet = p.2.quiet ∙ qo;
      };
    }
ends_with_text (ending.Refused f) made left s0 s1 s2 o0 o1 o2 n now k fs0 fs2 fo0 fo1 fo2 into so none piece end qs qo p = record {
  text = so.text;
  read = read_last s0 s1 s2 n now k into so.text so.read none piece;
  fits = so.fits;
  quiet = qs;
  written = so.written ++ p.0;
  refused = inr (end, whole_text made left so.text so.written so.all ∙ ap (then_rest so.written) p.1);
  taken = record { taken = Appends-trans o0 o1 o2 so.written p.0 so.taken p.2.taken; quiet = p.2.quiet ∙ qo };
}
ends_with_text ending.NoMemory made left s0 s1 s2 o0 o1 o2 n now k fs0 fs2 fo0 fo1 fo2 into so none piece end qs qo p = (
  record {
    text = so.text;
    read = read_last s0 s1 s2 n now k into so.text so.read none piece;
    fits = so.fits;
    so_far = record {
      written = so.written;
      begins = begins_so_far made left so.text so.written so.all;
      taken = record { taken = untouched_after o0 o1 o2 so.written fo1 fo2 so.taken p.same; quiet = p.quiet ∙ qo };
    };
  },
  qs,
)
ends_with_text ending.WriteFault made left s0 s1 s2 o0 o1 o2 n now k fs0 fs2 fo0 fo1 fo2 into so none piece end qs qo p = record {
  text = so.text;
  read = read_last s0 s1 s2 n now k into so.text so.read none piece;
  fits = so.fits;
  quiet = qs;
  written = so.written ++ p.0;
  begins = inr (
    end,
    rest_of (so.written ++ p.0) (made so.text) (then_rest so.written (left []))
        (whole_text made left so.text so.written so.all) (rest_past so.written p.0 (left []) p.1),
  );
  failed = record {
    rose = subst (λ m. Rose m fo2) qo p.2.rose;
    part = failed_past o0 o1 o2 so.written p.0 so.taken p.2.part;
  };
}

-- the text that was read can go on without a malformed word, where the bytes that are left can
sound_so_far : (made left : List ℕ → Translated) (text written : List ℕ) → ((more : List ℕ) → made (text ++ more) ≡ then_rest written (left more))
    → IsSoundSoFar left [] → IsSoundSoFar made text
sound_so_far made left text written all sound = (sound.0, ap (λ t. t.fault) (all sound.0) ∙ sound.1)

-- the source failed
pub ends_unread : (made left : List ℕ → Translated) (s0 s1 s2 o0 o1 : Option (List ℕ)) (n fs0 fs1 fs2 fo0 fo1 : ℕ)
    → IsSoFar made left s0 s1 o0 o1 n → IsSoundSoFar left [] → Keeps s1 s2 → Rose fs1 fs2 → fs1 ≡ fs0 → fo1 ≡ fo0
    → TranslationEnds made (record { old = s0; new = s2; before = fs0; now = fs2 }) (record { old = o0; new = o1; before = fo0; now = fo1 }) ending.ReadFault
ends_unread made left s0 s1 s2 o0 o1 n fs0 fs1 fs2 fo0 fo1 so sound same rose qs qo = (
  record {
    to = record {
      text = so.text;
      read = Consumes-kept s0 s1 s2 so.text so.read same;
      fits = so.fits;
      so_far = record { written = so.written; begins = begins_so_far made left so.text so.written so.all; taken = record { taken = so.taken; quiet = qo } };
    };
    sound = sound_so_far made left so.text so.written so.all sound;
  },
  subst (λ m. Rose m fs2) qs rose,
)

-- the text is too long
pub ends_too_long : (made left : List ℕ → Translated) (s0 s1 s2 o0 o1 : Option (List ℕ)) (n now before after fs0 fo0 fo1 : ℕ) (into : List ℕ)
    → IsSoFar made left s0 s1 o0 o1 n → IsSoundSoFar left [] → length into ≤ piece_size → IsPieceCause s1 s2 n now before after into TooLong → before ≡ fs0 → fo1 ≡ fo0
    → TranslationEnds made (record { old = s0; new = s2; before = fs0; now = after }) (record { old = o0; new = o1; before = fo0; now = fo1 }) ending.TooLong
ends_too_long made left s0 s1 s2 o0 o1 n now before after fs0 fo0 fo1 into so sound near cause qs qo =
    let piece = cause.3 in
    let count : now ≡ min (length so.text + cause.2) last_count = subst (λ m. now ≡ min (m + cause.2) last_count) so.count piece.count in (
      record {
        text = so.text;
        rest = take cause.2 into;
        read = Consumes-trans s0 s1 s2 so.text (take cause.2 into) so.read piece.bytes;
        past = subst (λ m. limit < m) (sym (length_of_piece so.text into cause.2 piece.fits)) (grind (arith, count, cause.1));
        near = let k = length-take cause.2 into in omega (arith, k, near);
        fits = so.fits;
        so_far = record { written = so.written; begins = begins_so_far made left so.text so.written so.all; taken = record { taken = so.taken; quiet = qo } };
        sound = sound_so_far made left so.text so.written so.all sound;
      },
      cause.0 ∙ qs,
    )

-- a translation ends as another that makes the same of each text
pub ends_as : (f h : List ℕ → Translated) (source out : Use) (e : Ending) → ((text : List ℕ) → f text ≡ h text) → TranslationEnds f source out e → TranslationEnds h source out e
ends_as f h source out e same ends = subst (λ (m : List ℕ → Translated). TranslationEnds m source out e) (λ i text. same text i) ends

-- a cutter before the first byte makes of a text what its translation makes of the lexemes
pub made_as : {A : Type 0} (made : A → List TextLexeme → Translated) (a b : A) (state : Open) (held : List ℕ) → a ≡ b
    → ((more : List ℕ) → lexemes_left state held more ≡ lexemes_of more) → (text : List ℕ) → made a (lexemes_left state held text) ≡ made b (lexemes_of text)
made_as made a b state held e left text = ap (λ x. made x (lexemes_left state held text)) e ∙ ap (made b) (left text)
