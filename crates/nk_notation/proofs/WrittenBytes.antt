-- Bytes that are written one after the other.
use Rattle.std.proofs.Common.{◌≡◌, ◌++◌, ℕ, List, take, sym, ◌∙◌, arith, subst}
use Rattle.std.proofs.KnownBytes.{Appends-trans}
use Rattle.std.proofs.lemmas.List.{length-append, take-append-le}
use Rattle.std.specs.declared.option.Option.{Option}
use Rattle.std.specs.declared.result.Result.{Result}
use Rattle.std.specs.Io.KnownBytes.{Appends}
use Rattle.std.specs.Prelude.{Ok, Err}
use Rattle.nk_io.specs.Faults.{Rose}
use Rattle.nk_reply.specs.Use.{FailedAt, Took, Use}
use Rattle.nk_notation.specs.Answer.{AreBytesWritten}
use Rattle.nk_notation.proofs.SoFar.{failed_past}

-- some bytes were written, and then others, or the sink failed at them
pub then_written : {X E : Type 0} (r : Result X E) (o0 o1 o2 : Option (List ℕ)) (f0 f1 f2 : ℕ) (a b : List ℕ)
    → Took (record { old = o0; new = o1; before = f0; now = f1 }) a → AreBytesWritten b (record { old = o1; new = o2; before = f1; now = f2 }) r
    → AreBytesWritten (a ++ b) (record { old = o0; new = o2; before = f0; now = f2 }) r
then_written (Ok x) o0 o1 o2 f0 f1 f2 a b p q = record { taken = Appends-trans o0 o1 o2 a b p.taken q.taken; quiet = q.quiet ∙ p.quiet }
then_written (Err e) o0 o1 o2 f0 f1 f2 a b p q = record { rose = subst (λ m. Rose m f2) p.quiet q.rose; part = failed_past o0 o1 o2 a b p.taken q.part }

-- the sink failed at the first ones
pub first_failed : (sink : Use) (a b : List ℕ) → FailedAt sink a → FailedAt sink (a ++ b)
first_failed sink a b h =
    let n = h.part.0 in
    let lt = h.part.1 in
    let front : take n (a ++ b) ≡ take n a = take-append-le n a b (omega arith) in record {
      rose = h.rose;
      part = (n, omega (arith, length-append a b), subst (λ l. Appends sink.old sink.new l) (sym front) h.part.2);
    }

-- equal bytes are written
pub written_as : {X E : Type 0} (r : Result X E) (sink : Use) (a b : List ℕ) → a ≡ b → AreBytesWritten a sink r → AreBytesWritten b sink r
written_as r sink a b e h = subst (λ l. AreBytesWritten l sink r) e h

pub failed_as : (sink : Use) (a b : List ℕ) → a ≡ b → FailedAt sink a → FailedAt sink b
failed_as sink a b e h = subst (λ l. FailedAt sink l) e h
