-- The names and the landmarks of a county in classes with the same content.
use Rattle.std.specs.Prelude.{List, [], cond, map, ℕ, ◌+◌, ◌∷◌, ◌≡◌}
use Rattle.std.specs.Cmp.Lexicographic.{slice_cmp}
use Rattle.std.specs.List.{AllByRecursion, range_with_len}
use Rattle.std.specs.Option.{option_cmp}
use Rattle.std.specs.Ordering.{is_eq, nat_cmp}
use Rattle.std.specs.declared.cmp.Ordering.{Ordering}
use Rattle.county_chart.specs.BodyOrder.{landmark_body_cmp, name_body_cmp}
use Rattle.county_chart.specs.ChartWords.{bodies_at, name_at}
use Rattle.county_chart.specs.County.{County}
use Rattle.ordered_lists.specs.Orders.{in_order}

-- the order of the names at two places by their content
abbrev pub name_content_cmp : County → ℕ → ℕ → Ordering
name_content_cmp county a b = option_cmp name_body_cmp (name_at county a) (name_at county b)

-- the order of the landmarks at two places by their bodies
abbrev pub landmark_bodies_cmp : County → ℕ → ℕ → Ordering
landmark_bodies_cmp county a b = slice_cmp landmark_body_cmp (bodies_at county a) (bodies_at county b)

-- the class of the place after this one: the same class if the same is there, else the next one
abbrev pub class_after : (ℕ → ℕ → Ordering) → ℕ → ℕ → List ℕ → ℕ
class_after cmp class place [] = class
class_after cmp class place (next ∷ later) = cond (is_eq (cmp place next)) class (class + 1)

-- places, each after its class; this is the class of the first one
abbrev pub classes_along : (ℕ → ℕ → Ordering) → ℕ → List ℕ → List (ℕ × ℕ)
classes_along cmp class [] = []
classes_along cmp class (place ∷ places) = (class, place) ∷ classes_along cmp (class_after cmp class place places) places

abbrev pub classed_place : ℕ × ℕ → ℕ
classed_place classed = classed.1

-- the two orders agree on each pair of the list's elements
abbrev pub AgreeOn : {X : Type 0} → (X → X → Ordering) → (X → X → Ordering) → List X → Type 0
AgreeOn by to xs = AllByRecursion (λ a. AllByRecursion (λ b. by a b ≡ to a b) xs) xs

-- the places below a count, each after its class; classes are in the order of the items at their places
pub record AreClasses (count : ℕ) (cmp : ℕ → ℕ → Ordering) (classed : List (ℕ × ℕ)) : Type 0 where
  pub all : in_order nat_cmp (map classed_place classed) ≡ range_with_len 0 count
  pub agree : AgreeOn (λ a b. nat_cmp a.0 b.0) (λ a b. cmp a.1 b.1) classed
