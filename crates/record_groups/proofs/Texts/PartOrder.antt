-- Comparisons one before another.
use Rattle.record_groups.proofs.Common.{Equal, Greater, Less, Ordering, ordering_then, refl, ◌≡◌}

-- a comparison before two others, which agree if it finds both equal
pub then_same : (o p q : Ordering) → (o ≡ Equal → p ≡ q) → ordering_then o p ≡ ordering_then o q
then_same Less p q h = refl
then_same Equal p q h = h refl
then_same Greater p q h = refl
