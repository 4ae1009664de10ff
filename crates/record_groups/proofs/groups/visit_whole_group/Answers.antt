use Rattle.record_groups.proofs.Common.{Ok, [], add-one, ap, arith, drop, err_from_is_err_and, group_at, map, map-append, next_taken, parted, some_at, subst, suc, sym, take, ◌++◌, ◌+◌, ◌∙◌, ◌∷◌, ◌≡◌}
use Rattle.record_groups.proofs.Records.OneAfterAnother.{second_stops}
use Rattle.record_groups.proofs.groups.visit_whole_group.Goals as goal

pub returns-in_err-visit_group-clause-given : goal.returns-in_err-visit_group-clause-given
returns-in_err-visit_group-clause-given g c =
    let f = g.G.Item.Tabled.as_record in
    let xs = group_at (g.G.RecordGroups.groups c.args.groups.now) c.args.group in
    let i = c.loop-place.place in
    let found = some_at xs i (omega (arith, c.count_in-place-end.ensures, c.loop-place-test.true)) in
    let x = found.0 in
    let p = err_from_is_err_and c.from_residual.result c.from_residual.ensures.1 in
    let all : map f xs ≡ map f (take i xs) ++ ((f x ∷ []) ++ map f (drop (suc i) xs)) =
    ap (map f) (parted xs i x (sym found.1)) ∙ map-append f (take i xs) (x ∷ drop (suc i) xs) in
    subst (λ rs. g.T.RecordVisitor.Takes rs c.args.visitor.now c.args.device.now c.from_residual.result c.visit_group.new.self c.visit_group.new.device)
    (sym all)
    (rw (p.1, p.2) (second_stops g.T.RecordVisitor.Takes g.met.T.RecordVisitor.then g.met.T.RecordVisitor.stops (map f (take i xs)) (f x ∷ [])
    (map f (drop (suc i) xs)) c.loop-place.invariant.taken (c.in_err-visit_group.ensures.takes x found.1)))

pub loop-place-preserved : goal.loop-place-preserved
loop-place-preserved g c =
    let f = g.G.Item.Tabled.as_record in
    let xs = group_at (g.G.RecordGroups.groups c.args.groups.now) c.args.group in
    let i = c.loop-place.place in
    let found = some_at xs i (omega (arith, c.count_in-place-end.ensures, c.loop-place-test.true)) in
    let x = found.0 in
    let next : map f (take (i + 1) xs) ≡ map f (take i xs) ++ (f x ∷ []) =
    rw (add-one) (ap (map f) (next_taken xs i x (sym found.1)) ∙ map-append f (take i xs) (x ∷ [])) in
    record {
      taken = subst (λ rs. g.T.RecordVisitor.Takes rs c.args.visitor.now c.args.device.now (Ok tt) c.visit_group.new.self c.visit_group.new.device) (sym next)
          (g.met.T.RecordVisitor.then (map f (take i xs)) (f x ∷ []) c.args.visitor.now c.loop-place.visitor c.visit_group.new.self
          c.args.device.now c.loop-place.device c.visit_group.new.device (Ok tt) c.loop-place.invariant.taken (c.in_ok-visit_group.ensures.takes x found.1));
      ready = c.in_ok-visit_group.ensures.ready;
    }
