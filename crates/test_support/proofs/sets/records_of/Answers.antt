use Rattle.std.proofs.Common.{[]}
use Rattle.std.proofs.lemmas.Result.{IfOk-weaker}
use Rattle.tl_layout.specs.Limits.{IsWithinLimit, most_records}
use Rattle.tl_load.proofs.RecordLines.{accepted_within}
use Rattle.tl_load.specs.Choice.{tiger}
use Rattle.tl_load.specs.Loaded.{all_parts}
use Rattle.tl_load.specs.Outcome.{SpellsWithin}
use Rattle.test_support.proofs.sets.records_of.Goals as goal

pub returns-clause-few : goal.returns-clause-few
returns-clause-few c =
    let parts = all_parts [] c.args.set.now in
    IfOk-weaker c.finish.result (λ records. SpellsWithin tiger most_records parts records.items)
    (λ records. IsWithinLimit most_records records.items) (λ records. accepted_within most_records parts records.items)
    (c.finish.ensures.loaded most_records [] c.args.set.now (c.in_ok-feed.ensures.fed most_records [] [] c.new-loader.ensures.fed))
