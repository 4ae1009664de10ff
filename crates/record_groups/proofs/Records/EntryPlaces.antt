-- The name, the landmark and the polygon at a place of a county within its limits.
use Rattle.record_groups.proofs.Common.{AllByRecursion, Body5, Body7, BodyP, County, IsNumber, IsText, IsWithinLimits, List, Option, PolygonKey, Some, all-get, all-in_order, ap, entry_polyid, entry_values, group_at, length, length-in_order, length-map, map, most_records, nat_cmp, on, option_map, option_to_list, packed_p, polygons_by_number, slice_get, slice_get-map, some_at, subst, sym, type_p_by_number, ℕ, ◌<◌, ◌∙◌, ◌≡◌}
use Rattle.record_groups.proofs.Records.Grouped.{group_of}

-- the entry at a place, with its number and its value
pub record EntryThere {V : Type 0} (entries : List (ℕ × V)) (width place : ℕ) : Type 0 where
  pub entry : ℕ × V
  pub get : slice_get entries place ≡ Some entry
  pub number : slice_get (map (λ (e : ℕ × V). e.0) entries) place ≡ Some entry.0
  pub value : slice_get (entry_values entries) place ≡ Some entry.1
  pub is_number : IsNumber width entry.0

entry_of_group : {V Y : Type 0} (width : ℕ) (entries : List (ℕ × V)) → AllByRecursion (λ (e : ℕ × V). IsNumber width e.0) entries → (place : ℕ)
    (f : ℕ × V → List Y) → place < length (map f entries) → EntryThere entries width place
entry_of_group {V} width entries fit place f h =
    let at = some_at entries place (subst (λ n. place < n) (length-map entries f) h) in
    record {
      entry = at.0;
      get = at.1;
      number = slice_get-map (λ (e : ℕ × V). e.0) entries place ∙ ap (option_map (λ (e : ℕ × V). e.0)) at.1;
      value = slice_get-map (λ (e : ℕ × V). e.1) entries place ∙ ap (option_map (λ (e : ℕ × V). e.1)) at.1;
      is_number = all-get (λ (e : ℕ × V). IsNumber width e.0) entries place at.0 fit at.1;
    }

module _ (county : County) (within : IsWithinLimits most_records county) (place : ℕ) where
  pub name_of_group : {Y : Type 0} (f : ℕ × Body5 → List Y) → place < length (map f county.names) → EntryThere county.names 8 place
  name_of_group = entry_of_group 8 county.names within.numbers.names place

  pub landmark_of_group : {Y : Type 0} (f : ℕ × List Body7 → List Y) → place < length (map f county.landmarks)
      → EntryThere county.landmarks 10 place
  landmark_of_group = entry_of_group 10 county.landmarks within.numbers.landmarks place

  -- the polygon at a place by number
  pub polygon_fits : (entry : PolygonKey × Option BodyP) → slice_get (polygons_by_number county) place ≡ Some entry
      → IsText 5 entry.0.0 × IsNumber 10 entry.0.1
  polygon_fits entry e = (
    all-get (λ (e : PolygonKey × Option BodyP). IsText 5 e.0.0) (polygons_by_number county) place entry
        (all-in_order (λ (e : PolygonKey × Option BodyP). IsText 5 e.0.0) (on entry_polyid nat_cmp) county.polygons within.contents.cenids)
        e,
    all-get (λ (e : PolygonKey × Option BodyP). IsNumber 10 e.0.1) (polygons_by_number county) place entry
        (all-in_order (λ (e : PolygonKey × Option BodyP). IsNumber 10 e.0.1) (on entry_polyid nat_cmp) county.polygons
        within.numbers.polygons) e,
  )

pub polygons_counted : {Y : Type 0} (f : PolygonKey × Option BodyP → List Y) (county : County)
    → length (map f (polygons_by_number county)) ≡ length county.polygons
polygons_counted f county = length-map (polygons_by_number county) f ∙ length-in_order (on entry_polyid nat_cmp) county.polygons

-- the group of a polygon by number
pub polygon_group : (county : County) (place : ℕ) (entry : PolygonKey × Option BodyP) → Some entry ≡ slice_get (polygons_by_number county)
    place
    → group_at (type_p_by_number county) place ≡ option_to_list (packed_p entry)
polygon_group county place entry e = group_of (λ (e : PolygonKey × Option BodyP). option_to_list (packed_p e)) (polygons_by_number county)
    place
    entry (sym e)
