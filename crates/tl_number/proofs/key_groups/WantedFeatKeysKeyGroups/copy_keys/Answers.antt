use Rattle.tl_number.proofs.Common.{Bool, ap, contains, filter, nat_cmp, sym, ℕ, ◌∙◌}
use Rattle.tl_number.proofs.Ties.Narrowed.{names_narrow}
use Rattle.tl_number.proofs.key_groups.WantedFeatKeysKeyGroups.copy_keys.Goals as goal

pub returns : goal.returns
returns g c =
    let keeps : ℕ → Bool = λ feat. contains nat_cmp feat c.args.self.now.wanted.now in
    c.keep_wanted.ensures ∙ ap (filter keeps) c.in_ok-copy_keys.ensures
    ∙ sym (names_narrow keeps (g.C.Chart.county c.args.self.now.names.0.now) c.args.self.now.names.1.now c.args.place)
