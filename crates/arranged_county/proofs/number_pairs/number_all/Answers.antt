use Rattle.arranged_county.proofs.Common.{IfOk, YieldsList-at, YieldsList-from_copied, YieldsList-from_range, YieldsList-from_slice, YieldsList-from_zip, arith, items_from_collect, length, subst, ◌+◌, ◌≡◌}
use Rattle.arranged_county.proofs.Views.RenamingPairs.{zip_numbered}
use Rattle.arranged_county.proofs.number_pairs.number_all.Goals as goal

pub returns : goal.returns
returns c =
    let olds = c.args.olds.now in
    subst (λ pairs. IfOk c.collect.result (λ made. made.items ≡ pairs)) (zip_numbered olds)
    (items_from_collect _ c.collect.ensures.ran
    (YieldsList-from_zip
    (YieldsList-at c.zip.ensures.first
    (YieldsList-from_copied (YieldsList-at c.copied.ensures.source (YieldsList-from_slice olds c.iter.ensures.rest))))
    (YieldsList-from_range 1 (length olds + 1) (length olds) c.zip.ensures.second (omega arith))))
