-- An arranged county: its source county, its arrangement, and the resulting county.
use Rattle.std.specs.Global.{Vec}
use Rattle.county_chart.specs.declared.chart.Chart.{Ghosts as Charts}
use Rattle.county_chart.specs.County.{County}
use Rattle.county_chart.specs.declared.directed_chain.DirectedChain.{DirectedChain}
use Rattle.canonical_form.specs.Arrangement.{Arrangement}
use Rattle.canonical_form.specs.DirectedChains.{arrangement_of}
use Rattle.canonical_form.specs.WholeArrangements.{arranged_by}
use Rattle.arranged_county.specs.declared.arranged.Evidence.{Ghosts as Evidences}
use Rattle.arranged_county.specs.declared.arranged.Arranged.{Arranged}
use Rattle.arranged_county.specs.declared.content_classes.Classes.{Classes}

-- the source county, as it is stored
abbrev pub source_of : {C S : Type 0} {chart : Charts C} {evidence : Evidences S} → Arranged C S chart evidence → C
source_of view = view.chart

-- its chains in their new order
abbrev pub directed_chains_of : {C S : Type 0} {chart : Charts C} {evidence : Evidences S} → Arranged C S chart evidence → Vec DirectedChain
directed_chains_of view = view.arrangement

-- its arrangement: the TLIDs of the source county in their new order, and which chains are turned
abbrev pub arrangement_in : {C S : Type 0} {chart : Charts C} {evidence : Evidences S} → Arranged C S chart evidence → Arrangement
arrangement_in {chart = chart} view = arrangement_of (chart.county (source_of view)) (directed_chains_of view).items

-- the resulting county
abbrev pub arranged_county : {C S : Type 0} {chart : Charts C} {evidence : Evidences S} → Arranged C S chart evidence → County
arranged_county {chart = chart} view = arranged_by (chart.county (source_of view)) (directed_chains_of view).items

-- the county whose names and landmarks are in classes
abbrev pub classed_county : {C : Type 0} {chart : Charts C} → Classes C chart → County
classed_county {chart = chart} classes = chart.county classes.chart.now
