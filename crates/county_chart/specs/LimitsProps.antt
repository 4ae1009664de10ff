-- The fact that a county is within its limits has at most one proof.
use Rattle.std.specs.Prelude.{List, ℕ}
use Rattle.std.proofs.Props.{props}
use Rattle.tl_layout.specs.ColumnTable.{Filler, FitsValue, Kind, Number, NumberOrNone, NumberPlaces, Opaque, Pair, PairOrNone, PointPlaces, ValueOf}
use Rattle.tl_layout.specs.RecordTypes.{FitsFields, Type5, Type7, TypeI, TypeP}
use Rattle.tl_layout.specs.Bytes.{AreAllowed}
use Rattle.tl_layout.specs.Fields.{Fields5, Fields7, FieldsI, FieldsP}
use Rattle.county_chart.specs.County.{County}
use Rattle.county_chart.specs.Limits.{IsWithinLimits}

AreAllowed-prop : (bytes : List ℕ) → IsProp (AreAllowed bytes)
unfolding AreAllowed
AreAllowed-prop bytes = hlevel props

FitsValue-prop : (width : ℕ) (kind : Kind) (value : ValueOf kind) → IsProp (FitsValue width kind value)
FitsValue-prop width Number value = hlevel props
FitsValue-prop width NumberOrNone value = hlevel props
FitsValue-prop width Pair value = hlevel props
FitsValue-prop width PairOrNone value = hlevel props
FitsValue-prop width NumberPlaces value = hlevel props
FitsValue-prop width PointPlaces value = hlevel props
FitsValue-prop width Opaque value = hlevel (props, AreAllowed-prop)
FitsValue-prop width Filler value = hlevel props

FitsType5-prop : (r : Fields5) → IsProp (FitsFields Type5 r)
unfolding FitsFields
FitsType5-prop r = hlevel (props, FitsValue-prop)

FitsType7-prop : (r : Fields7) → IsProp (FitsFields Type7 r)
unfolding FitsFields
FitsType7-prop r = hlevel (props, FitsValue-prop)

FitsTypeI-prop : (r : FieldsI) → IsProp (FitsFields TypeI r)
unfolding FitsFields
FitsTypeI-prop r = hlevel (props, FitsValue-prop)

FitsTypeP-prop : (r : FieldsP) → IsProp (FitsFields TypeP r)
unfolding FitsFields
FitsTypeP-prop r = hlevel (props, FitsValue-prop)

pub IsWithinLimits-prop : (limit : ℕ) (c : County) → IsProp (IsWithinLimits limit c)
IsWithinLimits-prop limit c = hlevel (props, AreAllowed-prop, FitsType5-prop, FitsType7-prop, FitsTypeI-prop, FitsTypeP-prop)
