-- A content that fits also fits when seen from the chain's other end.
use Rattle.std.proofs.Common.{rules}
use Rattle.tl_layout.specs.AddressRanges.{FitsRanges}
use Rattle.tl_layout.specs.Turned.{turned_body, turned_ranges}
use Rattle.tl_layout.specs.Type1Groups.{FitsBody1}
use Rattle.tl_layout.specs.declared.ranges.Ranges.{Ranges}
use Rattle.tl_layout.specs.declared.type1.fields.Body1Fields.{Body1Fields}

-- a turn exchanges fields of the same width
pub ranges_turned_fit : (ranges : Ranges) → FitsRanges ranges → FitsRanges (turned_ranges ranges)
ranges_turned_fit ranges f = search rules

pub body_turned_fits : (body : Body1Fields) → FitsBody1 body → FitsBody1 (turned_body body)
body_turned_fits body f = search (rules, ranges_turned_fit)
