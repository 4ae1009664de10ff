-- The chain at a place of a county.
use Rattle.county_chart.proofs.Common.{AllByRecursion, Among, Bool, Chain, Coordinates, County, DirectedChain, IsCounty, IsSome, List, Option, Ordering, Some, [], all_among, ap, arith, chain_at, drop, false, inl, inr, least_points, length, length-reverse, option_map, points_along, points_at, points_cmp, points_from, points_of, refl, reverse, slice_get, slice_get-map, subst, suc, sym, take, true, zero, ℕ, ◌++◌, ◌<◌, ◌∙◌, ◌∷◌, ◌≡◌, ◌≤◌}
use Rattle.county_chart.proofs.DirectedChains.{points_turned}
use Rattle.std.specs.Ordering.{is_lt}

-- an item, and the lists before and after it
pub record IsAt {X : Type 0} (xs : List X) (place : ℕ) : Type 0 where
  pub item : X
  pub get : slice_get xs place ≡ Some item
  pub upto : take (suc place) xs ≡ take place xs ++ (item ∷ [])
  pub whole : xs ≡ take place xs ++ (item ∷ drop (suc place) xs)

pub is_at : {X : Type 0} (xs : List X) (place : ℕ) → place < length xs → IsAt xs place
is_at [] place h = absurd (omega arith)
is_at (x ∷ xs) zero h = record { item = x; get = refl; upto = refl; whole = refl }
is_at (x ∷ xs) (suc place) h =
    let s = is_at xs place (omega arith) in
    record {
      item = s.item;
      get = s.get;
      upto = ap (λ l. x ∷ l) s.upto;
      whole = ap (λ l. x ∷ l) s.whole;
    }

pub all_next : {X : Type 0} (P : X → Type 0) (xs : List X) (x : X) → AllByRecursion P xs → P x → AllByRecursion P (xs ++ (x ∷ []))
all_next P [] x a p = (p, tt)
all_next P (y ∷ ys) x a p = (a.0, all_next P ys x a.1 p)

-- the chain at a place
pub record ChainIsAt (county : County) (place : ℕ) : Type 0 where
  pub is_at : IsAt county.chains place
  pub chain : chain_at county place ≡ Some is_at.item.1
  pub points : points_at county place ≡ is_at.item.1.points

pub chain_is_at : (county : County) (place : ℕ) → place < length county.chains → ChainIsAt county place
chain_is_at county place h =
    let s : IsAt county.chains place = is_at county.chains place h in
    let chain : chain_at county place ≡ Some s.item.1 =
    slice_get-map (λ entry. entry.1) county.chains place ∙ ap (option_map (λ entry. entry.1)) s.get in
    record {
      is_at = s;
      chain = chain;
      points = ap points_of chain;
    }

-- a shape has a start and an end
pub record HasTwo (points : List Coordinates) : Type 0 where
  pub one : Coordinates
  pub two : Coordinates
  pub rest : List Coordinates
  pub is : points ≡ one ∷ two ∷ rest

pub two_of : (points : List Coordinates) → 2 ≤ length points → HasTwo points
two_of [] h = absurd (omega arith)
two_of (p ∷ []) h = absurd (omega arith)
two_of (p ∷ q ∷ ps) h = record { one = p; two = q; rest = ps; is = refl }

pub length_from : (turned : Bool) (points : List Coordinates) → length (points_from turned points) ≡ length points
length_from true points = length-reverse points
length_from false points = refl

pub shape_two : (county : County) → IsCounty county → (place : ℕ) → place < length county.chains
    → HasTwo (least_points (points_at county place))
shape_two county is place h =
    let s = chain_is_at county place h in
    let item : Among s.is_at.item county.chains =
    subst (Among s.is_at.item) (sym s.is_at.whole) (behind (take place county.chains) s.is_at.item (drop (suc place) county.chains)) in
    let two : 2 ≤ length s.is_at.item.1.points =
    all_among (λ entry. 2 ≤ length entry.1.points) s.is_at.item county.chains is.whole.points item in
    let points : List Coordinates = points_at county place in
    let same : length points ≡ length s.is_at.item.1.points = ap length s.points in
    let from = length_from (is_lt (points_cmp (reverse points) points)) points in
    two_of (least_points points) (omega arith)
  where
    behind : (xs : List (ℕ × Chain)) (y : ℕ × Chain) (zs : List (ℕ × Chain)) → Among y (xs ++ (y ∷ zs))
    behind [] y zs = inl refl
    behind (x ∷ xs) y zs = inr (behind xs y zs)

-- a directed chain has the points of its chain, or their reverse
pub along_from : (county : County) (directed : DirectedChain) → points_along county directed ≡ points_from directed.turned (points_at county directed.place)
along_from county directed = points_turned directed.turned (chain_at county directed.place)

-- so a directed chain along a chain's shape has a start and an end
pub two_along : (county : County) → IsCounty county → (place : ℕ) → place < length county.chains → (turned : Bool) (reversed : Ordering)
    → turned ≡ is_lt reversed → reversed ≡ points_cmp (reverse (points_at county place)) (points_at county place)
    → HasTwo (points_along county (record { place = place; turned = turned }))
two_along county is place h turned reversed turns compared =
    let two = shape_two county is place h in
    record {
      one = two.one;
      two = two.two;
      rest = two.rest;
      is = along_from county (record { place = place; turned = turned })
          ∙ ap (λ b. points_from b (points_at county place)) (turns ∙ ap is_lt compared) ∙ two.is;
    }

pub some-same : {X : Type 0} (o : Option X) (x y : X) → o ≡ Some x → o ≡ Some y → x ≡ y
some-same o x y e f = cc

pub is_some_from : {X : Type 0} (o : Option X) (x : X) → o ≡ Some x → IsSome o
is_some_from o x e = subst IsSome (sym e) refl
