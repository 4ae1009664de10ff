use Rattle.canonical_form.proofs.CanonicalLists.StrictLists.{strict_alone, strict_as_it_is, strict_in_view, strict_under_mask, strictly_accepted}
use Rattle.canonical_form.proofs.laws.strict_lists_are_canonical.Goals as goal

pub returns : goal.returns
returns c = record {
  accepted = strictly_accepted;
  exists = strict_as_it_is;
  exists_masked = strict_under_mask;
  canonical = strict_in_view;
  only = λ seen records answer canonical view_laws. strict_alone seen records view_laws answer canonical;
}
