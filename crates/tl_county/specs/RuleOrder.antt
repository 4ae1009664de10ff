-- The rules in turn: those that hold, and the first one that is broken.
use Rattle.std.specs.Prelude.{List, false, true, ℕ, ◌<◌, ◌≡◌, ◌≤◌}
use Rattle.std.specs.Ordering.{is_gt}
use Rattle.tl_layout.specs.declared.record_type.Record.{Record}
use Rattle.county_chart.specs.declared.fault.LinkFault.TheVariants.{ChainTwice, LandUnknown, LinkMissing, LinkTwice, Memory, NameTwice, NameUnknown, NoChain, PolygonTwice, PolygonUnknown, SequenceBroken}
use Rattle.county_chart.specs.declared.fault.LinkedType.TheVariants.{Four, I, Six, Two}
use Rattle.county_chart.specs.FirstOf.{place_cmp}
use Rattle.county_chart.specs.LinkRules.{is_rule_broken, link_fault_place}
use Rattle.county_chart.specs.declared.fault.LinkFault.{LinkFault}
use Rattle.county_chart.specs.declared.fault.SequencedType.TheVariants as sequenced

-- the place of a fault's rule among the rules as they are checked; rules 12 and 13 count once for each record type
abbrev pub rule_place : LinkFault → ℕ
rule_place (ChainTwice tlid) = 0
rule_place (NoChain Two tlid) = 1
rule_place (NoChain Four tlid) = 2
rule_place (NoChain Six tlid) = 3
rule_place (NoChain I tlid) = 4
rule_place (SequenceBroken sequenced.Two tlid) = 5
rule_place (SequenceBroken sequenced.Four tlid) = 6
rule_place (SequenceBroken sequenced.Six tlid) = 7
rule_place (LinkMissing tlid) = 8
rule_place (LinkTwice tlid) = 9
rule_place (NameTwice feat) = 10
rule_place (NameUnknown tlid feat) = 11
rule_place (PolygonTwice cenid polyid) = 12
rule_place (LandUnknown land) = 13
rule_place (PolygonUnknown cenid polyid) = 14
rule_place Memory = 15

-- no rule from the first place up to, but not including, the second is broken
abbrev pub RulesHold : List Record → ℕ → ℕ → Type 0
RulesHold records low high = (fault : LinkFault) → low ≤ rule_place fault → rule_place fault < high → is_rule_broken records fault ≡ false

-- among the rules from this place, this is the first that is broken, at its least place
pub record IsFirstFrom (records : List Record) (low : ℕ) (fault : LinkFault) : Type 0 where
  pub from : low ≤ rule_place fault
  pub broken : is_rule_broken records fault ≡ true
  pub least : (other : LinkFault) → low ≤ rule_place other → is_rule_broken records other ≡ true
      → is_gt (place_cmp (link_fault_place fault) (link_fault_place other)) ≡ false
