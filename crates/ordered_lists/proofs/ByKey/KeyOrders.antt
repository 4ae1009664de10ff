-- Orders whose equal keys are the same key: of lists, bytes, integers and pairs.
use Rattle.ordered_lists.proofs.Common.{Equal, Greater, Less, List, Ordering, [], exact_pairs, lists_total, nat_cmp, on_total, ordering_then, refl, slice_cmp, then_total, ◌∷◌, ◌≡◌}
use Rattle.ordered_lists.proofs.ByKey.Keys.{IsKeyOrder, nat_keys}

-- what follows if two orders, one after the other, compare as equal
pub then-equal : (a b : Ordering) → ordering_then a b ≡ Equal → (a ≡ Equal) × (b ≡ Equal)
then-equal Less b e = absurd (less e)
  where
    less : Less ≡ Equal → ⊥
    less e = cc
then-equal Equal b e = (refl, e)
then-equal Greater b e = absurd (greater e)
  where
    greater : Greater ≡ Equal → ⊥
    greater e = cc

pub lists_exact : {X : Type 0} (cmp : X → X → Ordering) → ((x y : X) → cmp x y ≡ Equal → x ≡ y) → (xs ys : List X)
    → slice_cmp cmp xs ys ≡ Equal → xs ≡ ys
lists_exact cmp h [] [] e = refl
lists_exact cmp h [] (y ∷ ys) e = cc
lists_exact cmp h (x ∷ xs) [] e = cc
lists_exact cmp h (x ∷ xs) (y ∷ ys) e =
    let both : (cmp x y ≡ Equal) × (slice_cmp cmp xs ys ≡ Equal) = then-equal (cmp x y) (slice_cmp cmp xs ys) e in
    λ i. h x y both.0 i ∷ lists_exact cmp h xs ys both.1 i

pub lists_keys : {X : Type 0} {cmp : X → X → Ordering} → IsKeyOrder cmp → IsKeyOrder (slice_cmp cmp)
lists_keys {X} {cmp} o = record { total = lists_total o.total; exact = lists_exact cmp o.exact }

pub bytes_keys : IsKeyOrder (slice_cmp nat_cmp)
bytes_keys = lists_keys nat_keys

-- the order of pairs by two orders, one per part
pub pair_keys : {A B : Type 0} {P : A → A → Ordering} {Q : B → B → Ordering} → IsKeyOrder P → IsKeyOrder Q
    → IsKeyOrder (λ (x y : A × B). ordering_then (P x.0 y.0) (Q x.1 y.1))
pair_keys {A} {B} {P} {Q} p q = record {
  total = then_total (on_total (λ (x : A × B). x.0) p.total) (on_total (λ (x : A × B). x.1) q.total);
  exact = exact_pairs P Q p.exact q.exact;
}
