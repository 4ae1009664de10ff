use Rattle.canonical_form.proofs.CanonicalLists.OneChoice.{one_choice, only_choice}
use Rattle.canonical_form.proofs.laws.one_choice_where_shapes_are_apart.Goals as goal

pub returns : goal.returns
returns c = record {
  count = one_choice;
  only = λ county arrangement is apart. only_choice county is apart arrangement;
}
