-- The records of groups that were passed so far, and the rest.
use Rattle.record_groups.proofs.Common.{List, add-one, ap, arith, drop, group_at, grouped, length, length_headed, map, map-append, suc, take, ℕ, ◌++◌, ◌+◌, ◌<◌, ◌∙◌, ◌≡◌, ◌≤◌}
use Rattle.record_groups.proofs.Records.Grouped.{group_headed, grouped_around, grouped_parted, grouped_up_to, next_grouped}

module _ {X Y : Type 0} (f : X → Y) (groups : List (List X)) where
  -- some consecutive groups: the records before and after one of them, and the records passed with it
  pub around_group : (first count ahead : ℕ) → first + count ≤ length groups → ahead < count
      → map f (grouped (take count (drop first groups))) ≡ map f (grouped (take ahead (take count (drop first groups))))
      ++ (map f (group_at groups (first + ahead)) ++ map f (grouped (drop (suc ahead) (take count (drop first groups)))))
  around_group first count ahead within there =
      let gs = take count (drop first groups) in
      let counted : length gs ≡ count = length_headed groups first count within in
      let rest = grouped (drop (suc ahead) gs) in
      ap (map f) (grouped_parted gs ahead (omega (arith, there, counted)))
      ∙ map-append f (grouped (take ahead gs)) (group_at gs ahead ++ rest)
      ∙ ap (λ rs. map f (grouped (take ahead gs)) ++ rs) (map-append f (group_at gs ahead) rest)
      ∙ ap (λ xs. map f (grouped (take ahead gs)) ++ (map f xs ++ map f rest)) (group_headed groups first count ahead there)

  pub with_group : (first count ahead : ℕ) → first + count ≤ length groups → ahead < count
      → map f (grouped (take (ahead + 1) (take count (drop first groups))))
      ≡ map f (grouped (take ahead (take count (drop first groups)))) ++ map f (group_at groups (first + ahead))
  with_group first count ahead within there =
      let gs = take count (drop first groups) in
      let counted : length gs ≡ count = length_headed groups first count within in
      rw (add-one) (ap (map f) (next_grouped gs ahead (omega (arith, there, counted)))
      ∙ map-append f (grouped (take ahead gs)) (group_at gs ahead)
      ∙ ap (λ xs. map f (grouped (take ahead gs)) ++ map f xs) (group_headed groups first count ahead there))

  -- the next n groups: the records before and after them, and the records passed with them
  pub around_groups : (first n : ℕ) → map f (grouped groups)
      ≡ map f (grouped (take first groups)) ++ (map f (grouped (take n (drop first groups))) ++ map f (grouped (drop n (drop first groups))))
  around_groups first n =
      let given = grouped (take n (drop first groups)) in
      let rest = grouped (drop n (drop first groups)) in
      ap (map f) (grouped_around groups first n) ∙ map-append f (grouped (take first groups)) (given ++ rest)
      ∙ ap (λ rs. map f (grouped (take first groups)) ++ rs) (map-append f given rest)

  pub with_groups : (first n : ℕ) → map f (grouped (take (first + n) groups))
      ≡ map f (grouped (take first groups)) ++ map f (grouped (take n (drop first groups)))
  with_groups first n = ap (map f) (grouped_up_to groups first n)
      ∙ map-append f (grouped (take first groups)) (grouped (take n (drop first groups)))
