use Rattle.canonical_form.proofs.Packing.PackedCounty.{packed_county}
use Rattle.canonical_form.proofs.laws.a_packed_county_is_read_back.Goals as goal

pub returns : goal.returns
returns c = packed_county
