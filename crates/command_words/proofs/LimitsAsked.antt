-- The limits that the matches of a command ask for, by the numbers of its options.
use Rattle.std.proofs.Common.{◌≡◌, ℕ, List, Option, Some, None, refl}
use Rattle.std.specs.Prelude.{codes, unwrap_or}
use Rattle.clap.specs.Words.{Row, one_of}
use Rattle.command_words.specs.Commands.{limits_of, number_in}
use Rattle.command_words.specs.Limits.{most_workers, default_nodes, default_workers}
use Rattle.problem.specs.Limits.{most_cuts}
use Rattle.node_tree.specs.Limits.{most_nodes}

module _ (rows : List Row) where
  pub limits_are : (nodes cuts workers : Option ℕ) → number_in 1 most_nodes (one_of (codes "nodes") rows) ≡ Some nodes → number_in 0 most_cuts (one_of (codes "cuts") rows) ≡ Some cuts
      → number_in 1 most_workers (one_of (codes "workers") rows) ≡ Some workers
      → limits_of rows ≡ Some (record { nodes = unwrap_or nodes default_nodes; cuts = unwrap_or cuts most_cuts; workers = unwrap_or workers default_workers })
  unfolding limits_of
  limits_are nodes cuts workers n c w = rw (n, c, w) refl

  pub no_nodes : number_in 1 most_nodes (one_of (codes "nodes") rows) ≡ None → limits_of rows ≡ None
  unfolding limits_of
  no_nodes n = rw n refl

  pub no_cuts : (nodes : Option ℕ) → number_in 1 most_nodes (one_of (codes "nodes") rows) ≡ Some nodes → number_in 0 most_cuts (one_of (codes "cuts") rows) ≡ None → limits_of rows ≡ None
  unfolding limits_of
  no_cuts nodes n c = rw (n, c) refl

  pub no_workers : (nodes cuts : Option ℕ) → number_in 1 most_nodes (one_of (codes "nodes") rows) ≡ Some nodes → number_in 0 most_cuts (one_of (codes "cuts") rows) ≡ Some cuts
      → number_in 1 most_workers (one_of (codes "workers") rows) ≡ None → limits_of rows ≡ None
  unfolding limits_of
  no_workers nodes cuts n c w = rw (n, c, w) refl
