-- If a renaming carries one arranged county onto another, keeps each TLID and turns no chain, the nodes and the polygons on sides
-- have equal numbers: they are numbered by first appearance along the same chains.
use Rattle.canonical_form.proofs.Common.{AllByRecursion, Among, Carries, Chain, County, Grows, IsApart, IsArranged, IsAscending, IsClosed, IsPermutation, IsTrue, Known, List, PolygonKey, Renumbering, [], all_among, all_joined, all_known, all_themselves, all_weaker, among-map, ap, apart-distinct, apart-permutation, apart_from_sorted, ap₂, chain_nodes, chain_nodes-renumbered, chain_polygons, chain_polygons-renumbered, contains, image, image-injective, image-keeps, key_cmp, key_keys, known-distinct, known-permutation, lefts, ltb-true, map, map-append, map-id, map-map, nat_cmp, nat_keys, nodes, nodes_along, polygon_keys, polygons_along, refl, renumbered, rights, subst, sym, times, up_to, ℕ, ◌++◌, ◌∙◌, ◌∷◌, ◌≡◌}
use Rattle.canonical_form.proofs.Lists.Counting.{up_to-strict}
use Rattle.canonical_form.proofs.Numbering.Growth.{grown}

-- A renaming onto numbers that count from 1 gives different numbers to different ones.
pub counted_injective : (pairs : List (ℕ × ℕ)) (olds news : List ℕ) (count : ℕ) → IsPermutation (lefts pairs) olds
    → IsPermutation (rights pairs) news → news ≡ up_to count → (n m : ℕ) → Known nat_cmp olds n → Known nat_cmp olds m
    → image nat_cmp pairs n ≡ image nat_cmp pairs m → n ≡ m
counted_injective pairs olds news count left right counted n m k l = image-injective nat_keys pairs n m
    (apart-permutation nat_keys (rights pairs) news right
    (subst (IsApart nat_cmp) (sym counted) (apart_from_sorted nat_keys (up_to count) (up_to-strict count))))
    (known-permutation nat_keys n (lefts pairs) olds left k) (known-permutation nat_keys m (lefts pairs) olds left l)

-- an entry with its own TLID, and with the chain's numbers renamed
abbrev pub kept_entry : Renumbering → ℕ × Chain → ℕ × Chain
kept_entry r entry = (entry.0, renumbered r entry.1)

-- b has the chains of a, with their numbers renamed
abbrev pub KeepsChains : Renumbering → County → County → Type 0
KeepsChains r a b = b.chains ≡ map (kept_entry r) a.chains

pub nodes_along-kept : (r : Renumbering) (cs : List (ℕ × Chain))
    → nodes_along (map (kept_entry r) cs) ≡ map (image nat_cmp r.nodes) (nodes_along cs)
nodes_along-kept r [] = refl
nodes_along-kept r (c ∷ cs) = ap₂ (λ xs ys. xs ++ ys) (chain_nodes-renumbered r c.1) (nodes_along-kept r cs)
    ∙ sym (map-append (image nat_cmp r.nodes) (chain_nodes c.1) (nodes_along cs))

pub polygons_along-kept : (r : Renumbering) (cs : List (ℕ × Chain))
    → polygons_along (map (kept_entry r) cs) ≡ map (image key_cmp r.polygons) (polygons_along cs)
polygons_along-kept r [] = refl
polygons_along-kept r (c ∷ cs) = ap₂ (λ xs ys. xs ++ ys) (chain_polygons-renumbered r c.1) (polygons_along-kept r cs)
    ∙ sym (map-append (image key_cmp r.polygons) (chain_polygons c.1) (polygons_along cs))

module _ (r : Renumbering) (a b : County) (h : Carries r a b) (asc : IsAscending b) (ca : IsClosed a) (ta : IsArranged a)
    (tb : IsArranged b)
    (e : KeepsChains r a b) where
  -- nodes
  node_injective : (n m : ℕ) → Known nat_cmp (nodes a) n → Known nat_cmp (nodes a) m → image nat_cmp r.nodes n ≡ image nat_cmp r.nodes m
      → n ≡ m
  node_injective n m k l = image-injective nat_keys r.nodes n m
      (apart-permutation nat_keys (rights r.nodes) (nodes b) h.numbers.nodes.right (apart-distinct nat_keys (nodes_along b.chains)))
      (known-permutation nat_keys n (lefts r.nodes) (nodes a) h.numbers.nodes.left k)
      (known-permutation nat_keys m (lefts r.nodes) (nodes a) h.numbers.nodes.left l)

  pub nodes_kept : AllByRecursion (λ n. n ≡ image nat_cmp r.nodes n) (nodes_along a.chains)
  nodes_kept = grown (λ n. n) (image nat_cmp r.nodes) (Known nat_cmp (nodes a))
      (λ n m k l same. ap (image nat_cmp r.nodes) same)
      node_injective
      (nodes_along a.chains)
      (all_known nat_keys (Known nat_cmp (nodes a)) (nodes_along a.chains) (λ n k. known-distinct nat_keys (nodes_along a.chains) n k))
      (subst Grows (sym (map-id (nodes_along a.chains))) ta.nodes)
      (subst Grows (ap (λ cs. nodes_along cs) e ∙ nodes_along-kept r a.chains) tb.nodes)

  -- polygons on sides
  polygon_known : (k : PolygonKey) → Among k (polygons_along a.chains) → Known key_cmp (lefts r.polygons) k
  polygon_known k m =
      let all : AllByRecursion (λ j. IsTrue (contains key_cmp j (polygon_keys a))) (polygons_along a.chains) =
      all_joined (λ j. IsTrue (contains key_cmp j (polygon_keys a))) (λ c. chain_polygons c.1) a.chains ca.sides in
      known-permutation key_keys k (lefts r.polygons) (polygon_keys a) h.numbers.polygons.left
      (ltb-true 0 (times key_cmp k (polygon_keys a))
      (all_among (λ j. IsTrue (contains key_cmp j (polygon_keys a))) k (polygons_along a.chains) all m))

  one_cenid_of : (keys : List PolygonKey) (all : AllByRecursion (λ key. AllByRecursion (λ other. key.1 ≡ other.1 → key ≡ other) keys) keys)
      (k j : PolygonKey) → Among k keys → Among j keys → k.1 ≡ j.1 → k ≡ j
  one_cenid_of keys all k j m n =
      all_among (λ other. k.1 ≡ other.1 → k ≡ other) j keys
      (all_among (λ key. AllByRecursion (λ other. key.1 ≡ other.1 → key ≡ other) keys) k keys all m) n

  image_among : (k : PolygonKey) → Among k (polygons_along a.chains) → Among (image key_cmp r.polygons k) (polygons_along b.chains)
  image_among k m = subst (Among (image key_cmp r.polygons k)) (sym (ap (λ cs. polygons_along cs) e ∙ polygons_along-kept r a.chains))
      (among-map (image key_cmp r.polygons) k (polygons_along a.chains) m)

  polygon_forth : (k j : PolygonKey) → Among k (polygons_along a.chains) → Among j (polygons_along a.chains) → k.1 ≡ j.1
      → (image key_cmp r.polygons k).1 ≡ (image key_cmp r.polygons j).1
  polygon_forth k j m n same = ap (λ i. (image key_cmp r.polygons i).1) (one_cenid_of (polygons_along a.chains) ta.one_cenid k j m n same)

  polygon_back : (k j : PolygonKey) → Among k (polygons_along a.chains) → Among j (polygons_along a.chains)
      → (image key_cmp r.polygons k).1 ≡ (image key_cmp r.polygons j).1 → k.1 ≡ j.1
  polygon_back k j m n same =
      let images : image key_cmp r.polygons k ≡ image key_cmp r.polygons j =
      one_cenid_of (polygons_along b.chains) tb.one_cenid (image key_cmp r.polygons k) (image key_cmp r.polygons j) (image_among k m)
      (image_among j n) same in
      ap (λ i. i.1) (image-injective key_keys r.polygons k j
      (apart-permutation key_keys (rights r.polygons) (polygon_keys b) h.numbers.polygons.right
      (apart_from_sorted key_keys (polygon_keys b) asc.polygons))
      (polygon_known k m) (polygon_known j n) images)

  polyids_kept : AllByRecursion (λ k. k.1 ≡ (image key_cmp r.polygons k).1) (polygons_along a.chains)
  polyids_kept = grown (λ k. k.1) (λ k. (image key_cmp r.polygons k).1) (λ k. Among k (polygons_along a.chains)) polygon_forth polygon_back
      (polygons_along a.chains) (all_themselves (polygons_along a.chains)) ta.polygons
      (subst Grows (ap (λ cs. map (λ (k : PolygonKey). k.1) (polygons_along cs)) e
      ∙ ap (map (λ (k : PolygonKey). k.1)) (polygons_along-kept r a.chains)
      ∙ map-map (λ (k : PolygonKey). k.1) (image key_cmp r.polygons) (polygons_along a.chains)) tb.polygons)

  pub polygons_kept : AllByRecursion (λ k. k ≡ image key_cmp r.polygons k) (polygons_along a.chains)
  polygons_kept = all_weaker (λ k. k.1 ≡ (image key_cmp r.polygons k).1) (λ k. k ≡ image key_cmp r.polygons k)
      (λ k same i. (sym (image-keeps r.polygons h.numbers.cenids k) i, same i)) (polygons_along a.chains) polyids_kept
