use Rattle.std.proofs.Common.{List, Some, [], ap, ℕ}
use Rattle.tigercanon.proofs.library.products.text_in_memory.Goals as goal

pub returns-in-Ok : goal.returns-in-Ok
returns-in-Ok g c =
    let held = c.in-Ok.ensures.bytes [] (c.new-sink.ensures.bytes [] (ap (λ (bytes : List ℕ). Some bytes) c.text_with_capacity.ensures)) in
    let found = c.into_inner.ensures _ held in cc
