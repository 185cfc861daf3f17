use Rattle.std.proofs.Common.{◌≡◌, ◌≢◌, ◌≤◌, zero, suc, [], ◌∷◌, refl, arith, codes, decimal}
use Rattle.std.specs.Prelude.{AllPairs}
use Rattle.std.specs.List.Sorted.{IsStrictlyIncreasing}
use Rattle.std.proofs.lemmas.Fmt.{decimal_digit}
use Rattle.std.proofs.lemmas.List.Elements.{All-nil, All-cons}
use Rattle.nk_field.specs.Packet.{built_in}
use Rattle.nk_lex.specs.Lex.{largest}
use Rattle.nk_cert.specs.Certificates.{RowValue}
use Rattle.nk_certtext.specs.Text.{cert_bytes}
use Rattle.nk_certtext.specs.ReadBack.{IsReadableRow, IsPrintableCertificate, small_predicate, small_certificate}
use Rattle.nk_certtext.proofs.laws.a_small_certificate_is_printable.Goals as goal

up : IsStrictlyIncreasing (1 ∷ 3 ∷ [])
up zero lt = omega arith
up (suc k) lt = absurd (omega (arith, lt))

abbrev later : RowValue
later = record { positions = 1 ∷ 3 ∷ []; predicate = small_predicate }

is_row : IsReadableRow built_in later
is_row = record {
  some = omega arith;
  small = All-cons (λ n. n ≤ largest) 1 (3 ∷ []) (omega arith)
      (All-cons (λ n. n ≤ largest) 3 [] (omega arith) (All-nil (λ n. n ≤ largest)));
  ascend = up;
  predicate = record {
    predicate = refl;
    over = ((omega arith, omega arith), (((omega arith, omega arith), (omega arith, omega arith)), tt));
    shallow = omega arith;
    no_lone_part = (tt, (tt, (tt, tt)));
  };
}

apart : AllPairs (λ r s. r.positions ≢ s.positions) (later ∷ [])
apart i j d lt short = absurd (omega (arith, lt, short))

printable : IsPrintableCertificate built_in small_certificate
printable = record {
  start = record { predicate = refl; over = tt; shallow = omega arith; no_lone_part = (tt, tt) };
  rows = All-cons (IsReadableRow built_in) later [] is_row (All-nil (IsReadableRow built_in));
  apart = apart;
}

text : cert_bytes built_in small_certificate ≡ codes "certificate\nrow start : id\nrow 1 3 : sw=1;~pt in 2..3\n"
text =
    let one : decimal 1 ≡ 49 ∷ [] = decimal_digit 1 (omega arith) in
    let two : decimal 2 ≡ 50 ∷ [] = decimal_digit 2 (omega arith) in
    let three : decimal 3 ≡ 51 ∷ [] = decimal_digit 3 (omega arith) in
    rw (one, two, three) refl

pub returns : goal.returns
returns c = record { printable = printable; text = text }
