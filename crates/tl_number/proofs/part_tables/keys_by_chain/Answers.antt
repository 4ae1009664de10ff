use Rattle.tl_number.proofs.Common.{[], ap, append-nil, append_assoc, arith, drop, drop_all, length, map, map-append, rules, sym, ◌++◌, ◌+◌, ◌<◌, ◌∙◌, ◌∷◌, ◌≡◌}
use Rattle.tl_number.proofs.Ties.SearchSteps.{group_dropped}
use Rattle.tl_number.proofs.part_tables.keys_by_chain.Goals as goal

pub copy_keys-requires : goal.copy_keys-requires
copy_keys-requires g c = omega (arith, c.loop-place-test.true, c.count-place-end.ensures)

pub loop-place-preserved : goal.loop-place-preserved
loop-place-preserved g c =
    let groups = g.G.KeyGroups.groups c.args.chains.now in
    let i = c.loop-place.place in
    let within : i < length groups = omega (arith, c.loop-place-test.true, c.count-place-end.ensures) in
    let same : c.in_ok-own.own.items ≡ c.copy_keys.new.keys.items = search rules in
    ap (λ l. l ++ drop (i + 1) groups)
    (ap (map (λ own. own.items)) c.in_ok-push.ensures.items ∙ map-append (λ own. own.items) c.loop-place.keys.items (_ ∷ []))
    ∙ append_assoc (map (λ own. own.items) c.loop-place.keys.items) (_ ∷ []) (drop (i + 1) groups)
    ∙ ap (λ l. map (λ own. own.items) c.loop-place.keys.items ++ l) (sym (group_dropped groups i _ within (same ∙ c.in_ok-copy_keys.ensures)))
    ∙ c.loop-place.invariant

pub returns : goal.returns
returns g c =
    sym (ap (λ rest. map (λ own. own.items) c.loop-place.keys.items ++ rest)
    (drop_all c.loop-place.place (g.G.KeyGroups.groups c.args.chains.now) (omega (arith, c.loop-place-test.false, c.count-place-end.ensures)))
    ∙ append-nil (map (λ own. own.items) c.loop-place.keys.items)) ∙ c.loop-place.invariant
