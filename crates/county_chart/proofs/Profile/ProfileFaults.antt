-- A county is in the profile, or exactly one clause is broken first.
use Rattle.county_chart.proofs.Common.{Among, BodyP, County, IsFirstBrokenClause, IsInProfile, List, Memory, Option, PolygonKey, PolygonWithoutChain, ProfileFault, TooSymmetric, [], among-map, and_parts, any_among, cond, contains, false≢true, has_body, inl, inr, is_clause_broken, is_eq, is_some, key_cmp, key_keys, map, not, polygons_along, profile_fault_place, refl, same-true, subst, suc, sym, true, zero, ℕ, ◌&&◌, ◌==◌, ◌∷◌, ◌≡◌, ◌⊎◌}
use Rattle.county_chart.proofs.Rules.FirstFault.{first_or_none, not_first, one_first}

-- the fault at a place
abbrev part : List (List ℕ) → ℕ → List ℕ
part [] i = []
part (p ∷ ps) zero = p
part (p ∷ ps) (suc i) = part ps i

abbrev head_of : List ℕ → ℕ
head_of [] = 0
head_of (n ∷ ns) = n

abbrev number : List (List ℕ) → ℕ → ℕ
number place i = head_of (part place i)

abbrev fault_at : List (List ℕ) → ProfileFault
fault_at p =
    cond (number p 0 == 23) (PolygonWithoutChain (part p 1) (number p 2))
    (cond (number p 0 == 24) TooSymmetric Memory)

fault_at-place : (f : ProfileFault) → fault_at (profile_fault_place f) ≡ f
fault_at-place (PolygonWithoutChain cenid polyid) = refl
fault_at-place TooSymmetric = refl
fault_at-place Memory = refl

-- These include each broken clause with its place.
abbrev pub polygon_faults : County → List ProfileFault
polygon_faults county = map (λ e. PolygonWithoutChain e.0.0 e.0.1) county.polygons

abbrev pub all_faults : County → List ProfileFault
all_faults county = TooSymmetric ∷ polygon_faults county

-- a polygon with a type P record
pub body_entry : (county : County) (key : PolygonKey) → has_body county key ≡ true
    → (e : PolygonKey × Option BodyP) × Among e county.polygons × (key ≡ e.0) × (is_some e.1 ≡ true)
body_entry county key h =
    let r : (e : PolygonKey × Option BodyP) × Among e county.polygons × ((is_eq (key_cmp key e.0) && is_some e.1) ≡ true) =
    any_among (λ e. is_eq (key_cmp key e.0) && is_some e.1) county.polygons h in
    let both : (is_eq (key_cmp key r.0.0) ≡ true) × (is_some r.0.1 ≡ true) = and_parts (is_eq (key_cmp key r.0.0)) (is_some r.0.1) r.2 in
    (r.0, r.1, same-true key_keys key r.0.0 both.0, both.1)

pub broken_among : (county : County) (f : ProfileFault) → is_clause_broken county f ≡ true → Among f (all_faults county)
broken_among county (PolygonWithoutChain cenid polyid) h =
    let both : (has_body county (cenid, polyid) ≡ true) × (not (contains key_cmp (cenid, polyid) (polygons_along county.chains)) ≡ true) =
    and_parts (has_body county (cenid, polyid)) (not (contains key_cmp (cenid, polyid) (polygons_along county.chains))) h in
    let r = body_entry county (cenid, polyid) both.0 in
    let there : Among (PolygonWithoutChain r.0.0.0 r.0.0.1) (polygon_faults county) =
    among-map (λ e. PolygonWithoutChain e.0.0 e.0.1) r.0 county.polygons r.1 in
    inr (subst (λ k. Among (PolygonWithoutChain k.0 k.1) (polygon_faults county)) (sym r.2) there)
broken_among county TooSymmetric h = inl refl
broken_among county Memory h = absurd (false≢true h)

pub profile_or_first : (county : County) → IsInProfile county ⊎ ((fault : ProfileFault) × IsFirstBrokenClause county fault)
profile_or_first county = first_or_none (is_clause_broken county) profile_fault_place (all_faults county) (broken_among county)

pub profile_has_none : (county : County) (fault : ProfileFault) → IsInProfile county → IsFirstBrokenClause county fault → ⊥
profile_has_none county fault within h = not_first (is_clause_broken county) profile_fault_place fault within h

pub one_first_clause : (county : County) (f g : ProfileFault) → IsFirstBrokenClause county f → IsFirstBrokenClause county g → f ≡ g
one_first_clause county = one_first (is_clause_broken county) profile_fault_place fault_at fault_at-place
