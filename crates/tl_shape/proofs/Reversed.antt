-- Comparing a list with its reverse, item by item.
use Rattle.std.proofs.Common.{List, ap, arith, drop, get_or, length, refl, reverse, sym, ℕ, ◌+◌, ◌-◌, ◌<◌, ◌∙◌, ◌≡◌}
use Rattle.std.proofs.lemmas.List.{drop_more, get_or-reverse, get_or_read, length-reverse}
use Rattle.std.specs.declared.cmp.Ordering.TheVariants.{Equal, Greater, Less}
use Rattle.std.specs.Cmp.Lexicographic.{slice_cmp}
use Rattle.std.specs.Ordering.{ordering_then}
use Rattle.std.specs.declared.cmp.Ordering.{Ordering}

-- from an item on, that item's pair decides, and then the pairs after it
pub from_item : {X : Type 0} (cmp : X → X → Ordering) (xs : List X) (i : ℕ) (d : X) → i < length xs
    → slice_cmp cmp (drop i (reverse xs)) (drop i xs) ≡ ordering_then (cmp (get_or xs (length xs - 1 - i) d) (get_or xs i d))
    (slice_cmp cmp (drop (i + 1) (reverse xs)) (drop (i + 1) xs))
from_item cmp xs i d h =
    let long : i < length (reverse xs) = (let e = length-reverse xs in omega arith) in
    rw (drop_more (reverse xs) i d long, drop_more xs i d h, get_or-reverse xs i d h) refl

-- the same for items that were read
from_read : {X : Type 0} (cmp : X → X → Ordering) (xs : List X) (i : ℕ) (there here : X) → i < length xs
    → there ≡ get_or xs (length xs - 1 - i) there → here ≡ get_or xs i here
    → slice_cmp cmp (drop i (reverse xs)) (drop i xs) ≡ ordering_then (cmp there here)
    (slice_cmp cmp (drop (i + 1) (reverse xs)) (drop (i + 1) xs))
from_read cmp xs i there here h t e =
    let there_is = get_or_read xs (length xs - 1 - i) there (omega arith) t here in
    from_item cmp xs i here h ∙ ap (λ x. ordering_then (cmp x (get_or xs i here))
    (slice_cmp cmp (drop (i + 1) (reverse xs)) (drop (i + 1) xs))) (sym there_is)
    ∙ ap (λ x. ordering_then (cmp there x) (slice_cmp cmp (drop (i + 1) (reverse xs)) (drop (i + 1) xs))) (sym e)

-- an equal pair leaves the decision to the pairs after it
pub after_equal : {X : Type 0} (cmp : X → X → Ordering) (xs : List X) (i : ℕ) (there here : X) (all : Ordering) → i < length xs
    → there ≡ get_or xs (length xs - 1 - i) there → here ≡ get_or xs i here → slice_cmp cmp (drop i (reverse xs)) (drop i xs) ≡ all
    → cmp there here ≡ Equal → slice_cmp cmp (drop (i + 1) (reverse xs)) (drop (i + 1) xs) ≡ all
after_equal cmp xs i there here all h t e was equal =
    sym (ap (λ o. ordering_then o (slice_cmp cmp (drop (i + 1) (reverse xs)) (drop (i + 1) xs))) equal)
    ∙ sym (from_read cmp xs i there here h t e) ∙ was

decided : (o rest : Ordering) → (o ≡ Equal → ⊥) → ordering_then o rest ≡ o
decided Less rest h = refl
decided Equal rest h = absurd (h refl)
decided Greater rest h = refl

-- an unequal pair decides
pub at_unequal : {X : Type 0} (cmp : X → X → Ordering) (xs : List X) (i : ℕ) (there here : X) (all : Ordering) → i < length xs
    → there ≡ get_or xs (length xs - 1 - i) there → here ≡ get_or xs i here → slice_cmp cmp (drop i (reverse xs)) (drop i xs) ≡ all
    → (cmp there here ≡ Equal → ⊥) → cmp there here ≡ all
at_unequal cmp xs i there here all h t e was unequal = sym (decided (cmp there here) _ unequal) ∙ sym (from_read cmp xs i there here h t e)
    ∙ was
