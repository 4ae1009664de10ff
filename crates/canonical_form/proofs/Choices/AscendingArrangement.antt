-- All chains in the order of their shapes and places are the ascending arrangement.
use Rattle.canonical_form.proofs.Common.{AllByRecursion, AreInShapeOrder, Bool, Chain, County, DirectedChain, Equal, HasChainsOf, IsTotalOrder, Less, List, None, Option, Ordering, Some, [], all_unmap, along_from, along_shape, ap, ap₂, arrangement_of, ascending, chain_at, comes_turned, directed_cmp, entry_shape, get_or_from_slice_get, in_order, is_lt, least_points, length, map, nat_cmp, on, on_total, option_cmp, option_map, ordering_reverse, ordering_then, places_below, points_along, points_cmp, points_keys, points_of, refl, reverse, slice_get, slice_get-map, subst, sym, tlid_at, tlids, ℕ, ◌<◌, ◌∙◌, ◌∷◌, ◌≡◌}
use Rattle.canonical_form.proofs.Lists.SortedPlaces.{each_item, item_places, sorted_items}
use Rattle.canonical_form.proofs.Choices.LesserDirections.{turned_same}

-- an order of optional values with none first
pub options_total : {X : Type 0} {R : X → X → Ordering} → IsTotalOrder R → IsTotalOrder (option_cmp R)
options_total {X} {R} o = record { antisymm = antisymm; trans = trans; congr = congr }
  where
    antisymm : (x y : Option X) → option_cmp R x y ≡ ordering_reverse (option_cmp R y x)
    antisymm None None = refl
    antisymm None (Some y) = refl
    antisymm (Some x) None = refl
    antisymm (Some x) (Some y) = o.antisymm x y

    trans : (x y z : Option X) → option_cmp R x y ≡ Less → option_cmp R y z ≡ Less → option_cmp R x z ≡ Less
    trans None None z e f = cc
    trans None (Some y) None e f = cc
    trans None (Some y) (Some z) e f = refl
    trans (Some x) None z e f = cc
    trans (Some x) (Some y) None e f = cc
    trans (Some x) (Some y) (Some z) e f = o.trans x y z e f

    congr : (x y z : Option X) → option_cmp R x y ≡ Equal → option_cmp R x z ≡ option_cmp R y z
    congr None None z e = refl
    congr None (Some y) z e = cc
    congr (Some x) None z e = cc
    congr (Some x) (Some y) None e = refl
    congr (Some x) (Some y) (Some z) e = o.congr x y z e

module _ (county : County) where
  chain_read : (i : ℕ) (x : ℕ × Chain) → slice_get county.chains i ≡ Some x → chain_at county i ≡ Some x.1
  chain_read i x e = slice_get-map (λ (d : ℕ × Chain). d.1) county.chains i ∙ ap (option_map (λ (d : ℕ × Chain). d.1)) e

  along_read : (i : ℕ) (x : ℕ × Chain) → slice_get county.chains i ≡ Some x → points_along county (along_shape county i) ≡ entry_shape x
  along_read i x e = along_from county (along_shape county i) ∙ ap (λ o. least_points (points_of o)) (chain_read i x e)

  turned_read : (i : ℕ) (x : ℕ × Chain) → slice_get county.chains i ≡ Some x → (along_shape county i).turned ≡ comes_turned x.1
  turned_read i x e =
      ap (λ o. is_lt (points_cmp (reverse (points_of o)) (points_of o))) (chain_read i x e) ∙ turned_same x.1.points

  agrees : (i j : ℕ) (x y : ℕ × Chain) → slice_get county.chains i ≡ Some x → slice_get county.chains j ≡ Some y
      → directed_cmp county (along_shape county i) (along_shape county j) ≡ ordering_then (points_cmp (entry_shape x) (entry_shape y))
      (nat_cmp i j)
  agrees i j x y e f = ap₂ (λ ps qs. ordering_then (points_cmp ps qs) (nat_cmp i j)) (along_read i x e) (along_read j y f)

  abbrev place_of : DirectedChain → ℕ
  place_of w = w.place

  -- what is read from chains in order, each in its lesser direction
  each_stated : {Y : Type 0} (read : DirectedChain → Y) (stated : ℕ × Chain → Y)
      → ((w : DirectedChain) (x : ℕ × Chain) → w ≡ along_shape county (place_of w) → slice_get county.chains w.place ≡ Some x → read w ≡ stated x)
      → (by_shape : List DirectedChain) (ordered : List (ℕ × Chain)) → AllByRecursion (λ w. w ≡ along_shape county (place_of w)) by_shape
      → map (slice_get county.chains) (map place_of by_shape) ≡ map Some ordered → map read by_shape ≡ map stated ordered
  each_stated read stated same [] [] a e = refl
  each_stated read stated same [] (x ∷ xs) a e = cc
  each_stated read stated same (w ∷ ws) [] a e = cc
  each_stated read stated same (w ∷ ws) (x ∷ xs) a e =
      let here : slice_get county.chains w.place ≡ Some x = cc in
      let rest : map (slice_get county.chains) (map place_of ws) ≡ map Some xs = cc in
      λ i. same w x a.0 here i ∷ each_stated read stated same ws xs a.1 rest i

  abbrev new_directed : DirectedChain → ℕ × Bool
  new_directed w = (tlid_at county w.place, w.turned)

  abbrev least_directed : ℕ × Chain → ℕ × Bool
  least_directed x = (x.0, comes_turned x.1)

  directed_stated : (w : DirectedChain) (x : ℕ × Chain) → w ≡ along_shape county (place_of w) → slice_get county.chains w.place ≡ Some x
      → new_directed w ≡ least_directed x
  directed_stated w x is here =
      let tlid : tlid_at county w.place ≡ x.0 =
      get_or_from_slice_get (tlids county) w.place x.0 0
      (slice_get-map (λ (d : ℕ × Chain). d.0) county.chains w.place ∙ ap (option_map (λ (d : ℕ × Chain). d.0)) here) in
      let turned : w.turned ≡ comes_turned x.1 = ap (λ (v : DirectedChain). v.turned) is ∙ turned_read w.place x here in
      λ i. (tlid i, turned i)

  module _ (by_shape : List DirectedChain) (order : AreInShapeOrder county by_shape) where
    read : map (slice_get county.chains) (map place_of by_shape) ≡ map Some (in_order (on entry_shape points_cmp) county.chains)
    read = sorted_items (along_shape county) place_of (λ i. refl) (directed_cmp county) (on_total entry_shape points_keys.total) county.chains
        agrees by_shape order.all order.in_order

    each_directed : AllByRecursion (λ w. w ≡ along_shape county (place_of w)) by_shape
    each_directed = each_item (along_shape county) place_of (λ i. refl) (directed_cmp county) (on_total entry_shape points_keys.total) county.chains
        agrees by_shape order.all order.in_order

    -- the points of the directed chains are the shapes in order
    pub shapes_of_order : map (points_along county) by_shape ≡ map entry_shape (in_order (on entry_shape points_cmp) county.chains)
    shapes_of_order = each_stated (points_along county) entry_shape (λ w x is here. ap (points_along county) is ∙ along_read w.place x here) by_shape
        (in_order (on entry_shape points_cmp) county.chains) each_directed read

    -- The chains in the order of their shapes are the ascending arrangement.
    pub arrangement_ascend : (arrangement : List DirectedChain) → arrangement ≡ by_shape → arrangement_of county arrangement ≡ ascending county
    arrangement_ascend arrangement e =
        ap (arrangement_of county) e ∙ each_stated new_directed least_directed directed_stated by_shape
        (in_order (on entry_shape points_cmp) county.chains) each_directed read

    pub arrangement_there : (arrangement : List DirectedChain) → arrangement ≡ by_shape → HasChainsOf county arrangement
    arrangement_there arrangement e =
        subst (HasChainsOf county) (sym e)
        (all_unmap (λ n. n < length county.chains) place_of by_shape (places_below (length county.chains) (map place_of by_shape)
        (item_places (along_shape county) place_of (λ i. refl) (directed_cmp county) (on_total entry_shape points_keys.total) county.chains
        agrees by_shape order.all order.in_order)))
