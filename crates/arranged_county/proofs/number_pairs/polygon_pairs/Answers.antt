use Rattle.arranged_county.proofs.Common.{IfOk, YieldsList-at, YieldsList-from_copied, YieldsList-from_map, YieldsList-from_range, YieldsList-from_slice, YieldsList-from_zip, ap, arith, items_from_collect, length, map, rules, subst, tests, under_cenid, ◌+◌, ◌≡◌}
use Rattle.arranged_county.proofs.Views.RenamingPairs.{zip_numbered}
use Rattle.arranged_county.proofs.number_pairs.polygon_pairs.Goals as goal

pub returns : goal.returns
returns c =
    let polygons = c.args.polygons.now in
    subst (λ pairs. IfOk c.collect.result (λ made. made.items ≡ pairs)) (ap (map under_cenid) (zip_numbered polygons))
    (items_from_collect _ c.collect.ensures.ran
    (YieldsList-from_map _ under_cenid
    (YieldsList-at c.map.ensures.source
    (YieldsList-from_zip
    (YieldsList-at c.zip.ensures.first
    (YieldsList-from_copied (YieldsList-at c.copied.ensures.source (YieldsList-from_slice polygons c.iter.ensures.rest))))
    (YieldsList-from_range 1 (length polygons + 1) (length polygons) c.zip.ensures.second (omega arith))))
    c.map.ensures.closure (λ x r q k. search (rules, tests))))
