-- `==` of nodes tells whether they are one.
pub use Rattle.nk_store.specs.Equal.{pair_decides, out_decides, node_eq_decides}
