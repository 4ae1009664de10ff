-- Lists in which points determine every TLID and every direction. They are the canonical lists of the sets that were accepted
-- before chains with the same shape, and chains that are their own reverse, were accepted too.
use Rattle.std.specs.Prelude.{List, reverse, ◌≡◌}
use Rattle.std.specs.List.{AllByRecursion}
use Rattle.std.specs.List.Sorted.{IsStrictlySortedBy}
use Rattle.std.specs.Ordering.{on}
use Rattle.std.specs.declared.cmp.Ordering.TheVariants.{Less}
use Rattle.tl_layout.specs.declared.record_type.Record.{Record}
use Rattle.tl_shape.specs.PointOrder.{points_cmp}
use Rattle.county_chart.specs.County.{County, county_of}
use Rattle.county_chart.specs.LinkRules.{IsLinked}
use Rattle.county_chart.specs.Profile.{AreAllOnSides}
use Rattle.county_chart.specs.Renumbering.{AreSame}
use Rattle.canonical_form.specs.ArrangedCounty.{entry_points}
use Rattle.canonical_form.specs.Canonical.{IsArrangedList}
use Rattle.canonical_form.specs.CountyViews.{plain}
use Rattle.canonical_form.specs.Tidy.{HasShapesApart}

-- each chain's points come before their reverse, and before the points of each later chain
pub record IsStrict (county : County) : Type 0 where
  pub directions : AllByRecursion (λ entry. points_cmp (entry_points entry) (reverse (entry_points entry)) ≡ Less) county.chains
  pub ascending : IsStrictlySortedBy (on entry_points points_cmp) county.chains

-- a list in the canonical order, packing and numbering, with a strict county
pub record IsStrictList (records : List Record) : Type 0 where
  pub in_form : IsArrangedList records
  pub strict : IsStrict (county_of records)

-- Accepted by the older, stricter rules: the records fit together, each polygon with a type P record is on a side, no two
-- chains have the same shape, and none is its own reverse.
pub record IsStrictlyAccepted (records : List Record) : Type 0 where
  pub linked : IsLinked records
  pub on_sides : AreAllOnSides (county_of records)
  pub apart : HasShapesApart (county_of records)

-- a list that the stricter rules accept, and a strict list whose county the view shows whole and which is the same as the view
-- of the first list's county
pub record IsStrictInView (view : County → County) (records answer : List Record) : Type 0 where
  pub accepted : IsStrictlyAccepted records
  pub strict : IsStrictList answer
  pub own : view (county_of answer) ≡ county_of answer
  pub same : AreSame (view (county_of records)) (county_of answer)

-- a list that the stricter rules accept, and a strict list with the same county
abbrev pub IsStrictOf : List Record → List Record → Type 0
IsStrictOf = IsStrictInView plain
