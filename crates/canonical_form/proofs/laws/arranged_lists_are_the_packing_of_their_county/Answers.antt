use Rattle.canonical_form.proofs.Arrangements.RepackedPolygons.{arranged_list_is_packed}
use Rattle.canonical_form.proofs.laws.arranged_lists_are_the_packing_of_their_county.Goals as goal

pub returns : goal.returns
returns c = arranged_list_is_packed
