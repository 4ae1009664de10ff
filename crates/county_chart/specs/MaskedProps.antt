-- The ghost field of a masked county has at most one proof.
use Rattle.std.specs.Prelude.{List}
use Rattle.std.proofs.Props.{props}
use Rattle.tl_layout.specs.declared.mask.Mask.{Mask}
use Rattle.tl_layout.specs.declared.type7.Body7.{Body7}
use Rattle.county_chart.specs.County.{County}
use Rattle.county_chart.specs.MaskedTables.{MatchesBodies}

pub MatchesBodies-prop : (mask : Mask) (county : County) (bodies : List (List Body7)) → IsProp (MatchesBodies mask county bodies)
MatchesBodies-prop mask county bodies = hlevel props
