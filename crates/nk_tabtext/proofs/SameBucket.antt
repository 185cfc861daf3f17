-- `==` of buckets tells whether they are one.
use Rattle.std.proofs.Common.{◌≡◌, ℕ, ◌&&◌, true, refl, ap, eqb}
use Rattle.std.specs.Bool.{Decides}
use Rattle.std.specs.Cmp.Lexicographic.{pointwise_decides}
use Rattle.std.proofs.lemmas.Bool.Decides.{Decides-eqb, Decides-and, Decides-like}
use Rattle.nk_table.specs.declared.Bucket.{Bucket}
use Rattle.nk_table.specs.declared.Exit.{Exit}
use Rattle.nk_table.specs.declared.Exit.TheVariants.{Back, Port}
use Rattle.nk_table.specs.contracts.BucketPartialEq.TheImpl as bucket_impl
use Rattle.nk_table.specs.contracts.ExitPartialEq.TheImpl as exit_impl

-- of assignments
pair_decides : (p q : ℕ × ℕ) → Decides (eqb p.0 q.0 && eqb p.1 q.1) (p ≡ q)
pair_decides p q = Decides-like _ (λ (h : (p.0 ≡ q.0) × (p.1 ≡ q.1)) i. (h.0 i, h.1 i)) (λ e. (ap (λ r. r.0) e, ap (λ r. r.1) e)) (Decides-and _ _ (Decides-eqb p.0 q.0) (Decides-eqb p.1 q.1))

-- of exits
exit_decides : (a b : Exit) → Decides (exit_impl.ghosts.eq a b) (a ≡ b)
exit_decides Back Back = (λ e. refl, λ e. refl)
exit_decides Back (Port n) = (λ e. cc, λ e. cc)
exit_decides (Port m) Back = (λ e. cc, λ e. cc)
exit_decides (Port m) (Port n) = Decides-like _ (λ (h : m ≡ n). ap Port h) (λ e. cc) (Decides-eqb m n)

-- of buckets
bucket_decides : (a b : Bucket) → Decides (bucket_impl.ghosts.eq a b) (a ≡ b)
bucket_decides a b =
    Decides-like _ (λ (h : (a.sets ≡ b.sets) × (a.exit ≡ b.exit)) i. record { sets = h.0 i; exit = h.1 i }) (λ e. (ap (λ (o : Bucket). o.sets) e, ap (λ (o : Bucket). o.exit) e))
    (Decides-and _ _ (pointwise_decides pair_decides a.sets b.sets) (exit_decides a.exit b.exit))

pub bucket_same : (a b : Bucket) → bucket_impl.ghosts.eq a b ≡ true → a ≡ b
bucket_same a b = (bucket_decides a b).0
