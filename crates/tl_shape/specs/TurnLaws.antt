-- Turning a chain twice restores it, and each chain has exactly one turned chain.
use Rattle.std.proofs.Common.{List, [], ap, map, refl, ◌∷◌, ◌≡◌}
use Rattle.std.proofs.lemmas.List.{reverse-reverse}
use Rattle.tl_layout.specs.Turned.{turned_ranges}
use Rattle.tl_layout.specs.declared.ranges.Ranges.{Ranges}
use Rattle.tl_shape.specs.Chain.{Chain}
use Rattle.tl_shape.specs.Turned.{IsTurned, turned}

pub all_turned-turned : (ranges : List Ranges) → map turned_ranges (map turned_ranges ranges) ≡ ranges
all_turned-turned [] = refl
all_turned-turned (entry ∷ ranges) = ap (λ (l : List Ranges). entry ∷ l) (all_turned-turned ranges)

pub turned-turned : (c : Chain) → turned (turned c) ≡ c
turned-turned c =
    let points = reverse-reverse c.points in
    let ranges = all_turned-turned c.ranges in
    λ i. record {
      body = c.body;
      points = points i;
      feats = c.feats;
      ranges = ranges i;
      topology = c.topology;
      start_node = c.start_node;
      end_node = c.end_node;
      left = c.left;
      right = c.right;
    }

-- by the relation, d is c turned exactly if it is the chain turned c
pub turned_from_relation : (c d : Chain) → IsTurned c d → d ≡ turned c
turned_from_relation c d t =
    λ i. record {
      body = t.body i;
      points = t.points i;
      feats = t.feats i;
      ranges = t.ranges i;
      topology = t.topology i;
      start_node = t.start_node i;
      end_node = t.end_node i;
      left = t.left i;
      right = t.right i;
    }

pub relation_of_turned : (c : Chain) → IsTurned c (turned c)
relation_of_turned c =
    record {
      body = refl;
      points = refl;
      feats = refl;
      ranges = refl;
      topology = refl;
      start_node = refl;
      end_node = refl;
      left =
          refl;
      right = refl;
    }
