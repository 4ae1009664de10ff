use Rattle.tl_county.proofs.Common.{Bool, List, ap, contains, false, is_unknown, map, not, refl, sym, true, ◌&&◌, ◌∙◌, ◌≡◌}
use Rattle.tl_county.proofs.keys.absent.least_absent.Goals as goal

neither : (b : Bool) → (b && not b) ≡ false
neither true = refl
neither false = refl

pub returns-then-have_same_keys : goal.returns-then-have_same_keys
returns-then-have_same_keys g c key =
    let asked : List g.row.K.Denot = map g.A.Keyed.key_of c.args.items.now in
    ap (λ l. is_unknown g.K.Ord.cmp asked l key) (sym (c.have_same_keys.ensures c.if-have_same_keys.true))
    ∙ neither (contains g.K.Ord.cmp key asked)
