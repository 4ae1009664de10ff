-- The chain at a place of a county within its limits.
use Rattle.canonical_form.proofs.Common.{Chain, Coordinates, County, FitsNumbers, IfSome, IsCounty, IsNumber, IsNumberOrNone, IsWithinLimits, List, ListsFit, None, Option, Some, [], ap, arith, chain_at, first_point, inner_points, last_point, length, most_records, most_shape_points, option_map, points_of, refl, slice_get, slice_get-map, subst, suc, sym, tlids, without_last, zero, ℕ, ◌+◌, ◌-◌, ◌<◌, ◌∙◌, ◌∷◌, ◌≡◌, ◌≤◌}
use Rattle.ordered_lists.proofs.Lists.ByPlace.{all-get, some_at}
use Rattle.canonical_form.proofs.Lists.ListPlaces.{some-same}

pub record ChainThere (county : County) (place : ℕ) : Type 0 where
  pub entry : ℕ × Chain
  pub get : slice_get county.chains place ≡ Some entry
  pub tlid : slice_get (tlids county) place ≡ Some entry.0
  pub chain : chain_at county place ≡ Some entry.1
  pub two : 2 ≤ length entry.1.points
  pub is_number : IsNumber 10 entry.0
  pub named : FitsNumbers entry.1
  pub lists : ListsFit entry.1

pub chain_there : (county : County) → IsCounty county → IsWithinLimits most_records county → (place : ℕ) → place < length county.chains
    → ChainThere county place
chain_there county is within place h =
    let at = some_at county.chains place h in
    record {
      entry = at.0;
      get = at.1;
      tlid = slice_get-map (λ (e : ℕ × Chain). e.0) county.chains place ∙ ap (option_map (λ (e : ℕ × Chain). e.0)) at.1;
      chain = slice_get-map (λ (e : ℕ × Chain). e.1) county.chains place ∙ ap (option_map (λ (e : ℕ × Chain). e.1)) at.1;
      two = all-get (λ (e : ℕ × Chain). 2 ≤ length e.1.points) county.chains place at.0 is.whole.points at.1;
      is_number = all-get (λ (e : ℕ × Chain). IsNumber 10 e.0) county.chains place at.0 within.numbers.chains at.1;
      named = all-get (λ (e : ℕ × Chain). FitsNumbers e.1) county.chains place at.0 within.numbers.named at.1;
      lists = all-get (λ (e : ℕ × Chain). ListsFit e.1) county.chains place at.0 within.lists at.1;
    }

-- the ends of a chain, and the points between them
pub first_at : (points : List Coordinates) → 1 ≤ length points → slice_get points 0 ≡ Some (first_point points)
first_at [] h = absurd (omega (arith, h))
first_at (p ∷ points) h = refl

pub last_at : (points : List Coordinates) → 1 ≤ length points → slice_get points (length points - 1) ≡ Some (last_point points)
last_at [] h = absurd (omega (arith, h))
last_at (p ∷ []) h = refl
last_at (p ∷ q ∷ points) h =
    ap (slice_get (p ∷ q ∷ points)) (let e : length (p ∷ q ∷ points) - 1 ≡ suc (length (q ∷ points) - 1) = omega arith in e)
    ∙ last_at (q ∷ points) (omega arith)

-- the two ends of a chain, read by place
pub ends_at : (o : Option Chain) (count : ℕ) (ends : Coordinates × Coordinates) → 2 ≤ length (points_of o) → count ≡ length (points_of o)
    → Some ends.0 ≡ slice_get (points_of o) 0 → Some ends.1 ≡ slice_get (points_of o) (count - 1)
    → Some ends ≡ option_map (λ chain. (first_point chain.points, last_point chain.points)) o
ends_at None count ends two counted first last = absurd (omega (arith, two))
ends_at (Some chain) count ends two counted first last =
    let start_is : ends.0 ≡ first_point chain.points =
    some-same _ ends.0 (first_point chain.points) first (first_at chain.points (omega (arith, two))) in
    let end_is : ends.1 ≡ last_point chain.points =
    some-same _ ends.1 (last_point chain.points) last
    (ap (λ n. slice_get chain.points (n - 1)) counted ∙ last_at chain.points (omega (arith, two))) in
    λ i. Some (start_is i, end_is i)

without_at : (points : List Coordinates) (k : ℕ) → k < length (without_last points) → slice_get (without_last points) k ≡ slice_get points k
without_at [] k h = absurd (omega (arith, h))
without_at (p ∷ []) k h = absurd (omega (arith, h))
without_at (p ∷ q ∷ points) zero h = refl
without_at (p ∷ q ∷ points) (suc k) h = without_at (q ∷ points) k (omega (arith, h))

pub inner_at : (points : List Coordinates) (k : ℕ) → k < length (inner_points points)
    → slice_get (inner_points points) k ≡ slice_get points (k + 1)
inner_at [] k h = absurd (omega (arith, h))
inner_at (p ∷ points) k h = without_at points k h ∙ ap (slice_get (p ∷ points)) (let e : suc k ≡ k + 1 = omega arith in e)

-- there are few of them
pub few_inner : (county : County) → IsWithinLimits most_records county → (place k : ℕ)
    → k < length (inner_points (points_of (chain_at county place))) → k < most_shape_points
few_inner county within place k h = go (slice_get county.chains place) refl
  where
    chain_is : (o : Option (ℕ × Chain)) → slice_get county.chains place ≡ o → chain_at county place ≡ option_map (λ (e : ℕ × Chain). e.1) o
    chain_is o e = slice_get-map (λ (e : ℕ × Chain). e.1) county.chains place ∙ ap (option_map (λ (e : ℕ × Chain). e.1)) e

    go : (o : Option (ℕ × Chain)) → slice_get county.chains place ≡ o → k < most_shape_points
    go None e = absurd (omega (arith, subst (λ c. k < length (inner_points (points_of c))) (chain_is None e) h))
    go (Some entry) e = omega (
      arith,
      subst (λ c. k < length (inner_points (points_of c))) (chain_is (Some entry) e) h,
      (all-get (λ (e : ℕ × Chain). ListsFit e.1) county.chains place entry within.lists e).points,
    )

-- a part read of the chain at a place is its part
pub part_of : {X : Type 0} (part : Chain → X) {county : County} {place : ℕ} (there : ChainThere county place) (x : X)
    → Some x ≡ option_map part (chain_at county place) → x ≡ part there.entry.1
part_of part {county} {place} there x read =
    some-same (option_map part (chain_at county place)) x (part there.entry.1) read (ap (option_map part) there.chain)

-- a node at an end of a chain is missing, or counts from 1
pub node_from_one : (node_of : Chain → Option ℕ) {county : County} {place : ℕ} (there : ChainThere county place)
    → (FitsNumbers there.entry.1 → IsNumberOrNone 10 (node_of there.entry.1)) → {node : Option ℕ}
    → Some node ≡ option_map node_of (chain_at county place) → IfSome node (λ number. 0 < number)
node_from_one node_of there fits {node} read =
    from_one node (subst (IsNumberOrNone 10) (sym (part_of node_of there node read)) (fits there.named))
  where
    from_one : (node : Option ℕ) → IsNumberOrNone 10 node → IfSome node (λ number. 0 < number)
    from_one None h = tt
    from_one (Some number) h = h.0
