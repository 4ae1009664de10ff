-- The names from below that the proofs of this crate cite, passed on from one place. Declares nothing.
pub use Rattle.ordered_lists.proofs.ByKey.Keys.{apart-permutation, lefts, order_antisymm}
pub use Rattle.ordered_lists.proofs.Lists.ByPlace.{decides_same}
pub use Rattle.renamings.specs.Images.{is_turned_once, named_images, pair_on}
pub use Rattle.std.proofs.Common.{ltb}
pub use Rattle.std.proofs.lemmas.Bool.{true≢false}
pub use Rattle.std.proofs.lemmas.Map.Keys.{sorted_from_all_adjacent}
pub use Rattle.std.specs.List.{IsAllAdjacentAnswer}
pub use Rattle.std.specs.Map.{lookup}
