use Rattle.canonical_form.proofs.Common.{plain}
use Rattle.canonical_form.proofs.CanonicalLists.Accepted.{canonical_of_itself, one_canonical_same, plain_view, same_canonical_text}
use Rattle.canonical_form.proofs.laws.one_canonical_text_for_one_map.Goals as goal

pub returns : goal.returns
returns c = record {
  same = same_canonical_text plain plain_view;
  equal = one_canonical_same plain plain_view;
  itself = canonical_of_itself plain plain_view;
}
