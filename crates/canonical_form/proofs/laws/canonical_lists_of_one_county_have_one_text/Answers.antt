use Rattle.canonical_form.proofs.CanonicalLists.TidyLists.{canonical_texts_equal}
use Rattle.canonical_form.proofs.laws.canonical_lists_of_one_county_have_one_text.Goals as goal

pub returns : goal.returns
returns c = canonical_texts_equal
