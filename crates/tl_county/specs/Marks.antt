-- Type 4 records whose FEATs all have names.
use Rattle.std.specs.List.{list_all}
use Rattle.std.specs.Ordering.{nat_cmp}
use Rattle.std.specs.Prelude.{Bool, List, ℕ}
use Rattle.tl_layout.specs.Fields.{Fields4}
use Rattle.ordered_lists.specs.Orders.{contains}

-- whether each FEAT of the list is one of the names
abbrev pub have_names : List ℕ → List ℕ → Bool
have_names names feats = list_all (λ feat. contains nat_cmp feat names) feats

-- whether each FEAT of the records is one of the names
abbrev pub all_have_names : List ℕ → List Fields4 → Bool
all_have_names names records = list_all (λ r. have_names names r.feats) records
