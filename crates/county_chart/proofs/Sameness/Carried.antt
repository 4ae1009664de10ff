-- The numbers of a carried chain are the images of its numbers.
use Rattle.county_chart.proofs.Common.{Among, Bool, Chain, IsKeyOrder, Known, List, None, Option, Ordering, PolygonKey, Renumbering, SameElements, Some, [], among-pieces, among_known, among_left, among_right, chain_nodes, chain_polygons, contains, contains_alike, false, flat_map, image, inl, inr, key_cmp, key_on, key_under, known_is_among, map, map-append, nat_cmp, option_map, option_to_list, refl, renumbered, renumbered_polygon, rules, true, turned_if, ℕ, ◌++◌, ◌∷◌, ◌≡◌, ◌⊎◌}

pub key_on-renumbered : (r : Renumbering) (cenid : List ℕ) (polyid : Option ℕ)
    → key_on (renumbered_polygon r cenid polyid) ≡ map (image key_cmp r.polygons) (key_under cenid polyid)
key_on-renumbered r cenid None = refl
key_on-renumbered r cenid (Some polyid) = refl

pub chain_polygons-renumbered : (r : Renumbering) (c : Chain)
    → chain_polygons (renumbered r c) ≡ map (image key_cmp r.polygons) (chain_polygons c)
chain_polygons-renumbered r c = search (rules, key_on-renumbered, map-append)

node-renumbered : (f : ℕ → ℕ) (o : Option ℕ) → option_to_list (option_map f o) ≡ map f (option_to_list o)
node-renumbered f None = refl
node-renumbered f (Some n) = refl

pub chain_nodes-renumbered : (r : Renumbering) (c : Chain) → chain_nodes (renumbered r c) ≡ map (image nat_cmp r.nodes) (chain_nodes c)
chain_nodes-renumbered r c = search (rules, node-renumbered, map-append)

pub among-unappend : {X : Type 0} (x : X) (ys zs : List X) → Among x (ys ++ zs) → Among x ys ⊎ Among x zs
among-unappend x [] zs h = inr h
among-unappend x (y ∷ ys) zs (inl e) = inl (inl e)
among-unappend x (y ∷ ys) zs (inr h) = search (rules, among-unappend x ys zs h)

pub among-unpieces : {X Y : Type 0} (f : X → List Y) (y : Y) (xs : List X) → Among y (flat_map f xs) → (x : X) × Among x xs × Among y (f x)
among-unpieces f y [] h = absurd h
among-unpieces {X} f y (x ∷ xs) h = go (among-unappend y (f x) (flat_map f xs) h) (among-unpieces f y xs)
  where
    go : Among y (f x) ⊎ Among y (flat_map f xs) → (Among y (flat_map f xs) → (z : X) × Among z xs × Among y (f z))
        → (z : X) × Among z (x ∷ xs) × Among y (f z)
    go (inl k) ih = (x, inl refl, k)
    go (inr k) ih = let r : (z : X) × Among z xs × Among y (f z) = ih k in (r.0, inr r.1, r.2)

-- an element of two joined lists is in them joined the other way round
pub among-swapped : {X : Type 0} (x : X) (xs ys : List X) → Among x (xs ++ ys) → Among x (ys ++ xs)
among-swapped x xs ys h = go (among-unappend x xs ys h)
  where
    go : Among x xs ⊎ Among x ys → Among x (ys ++ xs)
    go (inl h) = among_right x ys xs h
    go (inr h) = among_left x ys xs h

-- a turn keeps the polygons on the sides
pub among-turned : (k : PolygonKey) (b : Bool) (c : Chain) → Among k (chain_polygons c) → Among k (chain_polygons (turned_if b c))
among-turned k false c h = h
among-turned k true c h = among-swapped k (key_on c.left) (key_on c.right) h

-- lists with the same elements have the same keys in their pieces
module _ {K : Type 0} {cmp : K → K → Ordering} (o : IsKeyOrder cmp) {X : Type 0} (f : X → List K) where
  piece_there : (xs ys : List X) → ((x : X) → Among x xs → Among x ys) → (k : K) → Known cmp (flat_map f xs) k → Known cmp (flat_map f ys) k
  piece_there xs ys there k known =
      let r = among-unpieces f k xs (known_is_among o k (flat_map f xs) known) in
      among_known o k (flat_map f ys) (among-pieces f r.0 k ys (there r.0 r.1) r.2)

  pub pieces_alike : (xs ys : List X) → SameElements xs ys → (k : K)
      → contains cmp k (flat_map f xs) ≡ contains cmp k (flat_map f ys)
  pieces_alike xs ys s k =
      contains_alike o (flat_map f xs) (flat_map f ys) k (piece_there xs ys s.there k) (piece_there ys xs s.back k)
