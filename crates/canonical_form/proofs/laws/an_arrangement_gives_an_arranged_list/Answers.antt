use Rattle.canonical_form.proofs.Arrangements.ArrangedCounties.{arranged_county, is_arranged}
use Rattle.canonical_form.proofs.Arrangements.ArrangedPacking.{packed_arranged}
use Rattle.canonical_form.proofs.Arrangements.Carrying.{arrangement_carries}
use Rattle.canonical_form.proofs.laws.an_arrangement_gives_an_arranged_list.Goals as goal

pub returns : goal.returns
returns c = record {
  carries = arrangement_carries;
  county = λ county arrangement is arranges sides. (arranged_county county arrangement is arranges sides, is_arranged county arrangement is arranges sides);
  list = packed_arranged;
}
