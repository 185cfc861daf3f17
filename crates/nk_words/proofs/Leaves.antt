-- The arguments of a command, one after another.
use Rattle.std.proofs.Common.{◌≡◌, ◌<◌, ◌+◌, ℕ, List, [], ◌∷◌, length, map, take, get_or, refl, sym, fold, Bor}
use Rattle.std.proofs.lemmas.List.{map_more, map-append}
use Rattle.std.proofs.lemmas.List.Sums.{fold_more}
use Rattle.clap.specs.Walk.{Text}
use Rattle.clap.specs.Simple.{App, with_rule, with_subcommand}
use Rattle.nk_words.specs.App.{leaf_app, leaf_shape, wanted_argument, with_leaf}

-- a command with one more of its arguments
pub more_leaf : (name : Text) (arguments : List (Bor Text)) (i : ℕ) (d : Bor Text) (a : App)
    → i < length arguments
    → a ≡ leaf_app name (map (λ t. t.now) (take i arguments))
    → with_rule a (wanted_argument (get_or arguments i d).now) ≡ leaf_app name (map (λ t. t.now) (take (i + 1) arguments))
more_leaf name arguments i d a h e =
    rw (
      e,
      map_more (λ (t : Bor Text). t.now) arguments i d h,
      map-append wanted_argument (map (λ (t : Bor Text). t.now) (take i arguments)) ((get_or arguments i d).now ∷ []),
    ) refl

-- an application with one more of its subcommands
pub more_leaves : (leaves : List (Bor Text × Bor (List (Bor Text)))) (i : ℕ) (d : Bor Text × Bor (List (Bor Text))) (o a : App)
    → i < length leaves
    → a ≡ fold with_leaf o (take i leaves)
    → with_subcommand a (leaf_shape (get_or leaves i d).0.now (map (λ t. t.now) (get_or leaves i d).1.now))
    ≡ fold with_leaf o (take (i + 1) leaves)
more_leaves leaves i d o a h e = rw (e) (sym (fold_more with_leaf o leaves i d h))
