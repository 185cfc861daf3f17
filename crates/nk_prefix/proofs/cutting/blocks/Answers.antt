use Rattle.std.proofs.Common.{arith, ◌≡◌, ◌≤◌, ◌*◌, ◌^◌, ◌%◌}
use Rattle.std.proofs.lemmas.Nat.{one_shl}
use Rattle.std.proofs.Math.Pow.{pow_mono}
use Rattle.nk_prefix.proofs.Cuts.{pushed}
use Rattle.nk_prefix.proofs.cutting.blocks.Goals as goal

pub loop-from-preserved : goal.loop-from-preserved
loop-from-preserved c =
    let size : (1 * 2 ^ c.free_digits-free.result) % 2 ^ 128 ≡ 2 ^ c.free_digits-free.result = one_shl c.free_digits-free.result 128 (omega arith) in
    let small : 2 ^ c.free_digits-free.result ≤ 2 ^ 64 = pow_mono {i = c.free_digits-free.result} {j = 64} (omega arith) in
    record {
      small = omega (arith, size, small);
      made = pushed c.digits_of-digits.result c.last-end.result c.args.max c.loop-from.from c.free_digits-free.result _ c.loop-from.all.items c.push.new.self.items _ (omega arith) (omega arith) c.free_digits-free.ensures.is size c.in_ok-push.ensures.items c.loop-from.invariant.made;
    }
