-- What the calls of a table need: its entries are its keys beside its values, and its keys ascend.
use Rattle.county_chart.proofs.Common.{in_order-strict, keys-zip, values-zip}

pub ruleset table_entries = (keys-zip, values-zip, in_order-strict)
