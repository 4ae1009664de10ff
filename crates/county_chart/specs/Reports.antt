-- How faults of linking are reported.
use Rattle.std.specs.Prelude.{List, ℕ}
use Rattle.fault_report.specs.Reports.{at, at_two, bare}
use Rattle.fault_report.specs.declared.report.FaultPlace.TheVariants.{Cenid, Number, RecordType}
use Rattle.fault_report.specs.declared.kind.FaultKind.{FaultKind}
use Rattle.fault_report.specs.declared.report.FaultReport.{FaultReport}
use Rattle.county_chart.specs.LinkedTypes.{byte_of, linked_type}
use Rattle.county_chart.specs.declared.fault.LinkFault.TheVariants.{ChainTwice, LandUnknown, LinkMissing, LinkTwice, Memory, NameTwice, NameUnknown, NoChain, PolygonTwice, PolygonUnknown, SequenceBroken}
use Rattle.county_chart.specs.declared.fault.LinkFault.{LinkFault}
use Rattle.county_chart.specs.declared.fault.LinkedType.{LinkedType}
use Rattle.fault_report.specs.declared.kind.FaultKind.TheVariants as kind

-- A fault whose places are a record type and a TLID.
abbrev pub at_type : FaultKind → LinkedType → ℕ → FaultReport
at_type kind rtype tlid = at_two kind (RecordType (byte_of rtype)) (Number tlid)

-- A fault whose places are the CENID and the POLYID of a polygon.
abbrev pub at_polygon : FaultKind → List ℕ → ℕ → FaultReport
at_polygon kind cenid polyid = at_two kind (Cenid cenid) (Number polyid)

-- The report of a fault of linking.
abbrev pub link_report : LinkFault → FaultReport
link_report (ChainTwice tlid) = at kind.ChainTwice (Number tlid)
link_report (NoChain rtype tlid) = at_type kind.NoChain rtype tlid
link_report (SequenceBroken rtype tlid) = at_type kind.SequenceBroken (linked_type rtype) tlid
link_report (LinkMissing tlid) = at kind.LinkMissing (Number tlid)
link_report (LinkTwice tlid) = at kind.LinkTwice (Number tlid)
link_report (NameTwice feat) = at kind.NameTwice (Number feat)
link_report (NameUnknown tlid feat) = at_two kind.NameUnknown (Number tlid) (Number feat)
link_report (PolygonTwice cenid polyid) = at_polygon kind.PolygonTwice cenid polyid
link_report (LandUnknown land) = at kind.LandUnknown (Number land)
link_report (PolygonUnknown cenid polyid) = at_polygon kind.PolygonUnknown cenid polyid
link_report Memory = bare kind.Memory
