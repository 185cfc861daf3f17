use Rattle.std.proofs.Common.{◌≡◌, [], ◌∷◌, refl, arith, codes, decimal}
use Rattle.std.proofs.lemmas.Fmt.{decimal_digit}
use Rattle.nk_field.specs.Packet.{built_in}
use Rattle.nk_policy.specs.Text.{pol_bytes}
use Rattle.nk_names.specs.ReadBack.{IsReadable, small_policy}
use Rattle.nk_declare.proofs.Kept.{built_in_writable}
use Rattle.nk_names.proofs.laws.a_small_policy_is_readable.Goals as goal

readable : IsReadable built_in small_policy
readable = record {
  over = (
    ((omega arith, omega arith), ((omega arith, omega arith), (((omega arith, omega arith), (omega arith, omega arith), (omega arith, omega arith), (omega arith, omega arith)), tt))),
    (((omega arith, omega arith), (((omega arith, omega arith), (omega arith, omega arith)), tt)), tt),
  );
  shallow = omega arith;
  small = omega arith;
  complements = ((tt, (tt, (tt, tt))), ((refl, (tt, (tt, tt))), tt));
  no_lone_part = (tt, ((tt, (tt, (tt, (tt, tt)))), ((tt, (tt, (tt, tt))), tt)));
}

text : pol_bytes built_in small_policy ≡ codes "(sw=1;pt:=2;1:2=>2:1 + ~(pt=1 + pt in 2..3))*"
text =
    let one : decimal 1 ≡ 49 ∷ [] = decimal_digit 1 (omega arith) in
    let two : decimal 2 ≡ 50 ∷ [] = decimal_digit 2 (omega arith) in
    let three : decimal 3 ≡ 51 ∷ [] = decimal_digit 3 (omega arith) in
    rw (one, two, three) refl

pub returns : goal.returns
returns c = record { writable = built_in_writable; readable = readable; text = text }
