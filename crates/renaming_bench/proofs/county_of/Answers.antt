use Rattle.tl_load.proofs.RecordLines.{accepted_within}
use Rattle.tl_layout.specs.Limits.{most_records}
use Rattle.renaming_bench.proofs.county_of.Goals as goal

pub link-requires : goal.link-requires
link-requires c = record {
  few = accepted_within most_records _ _
      (c.in_ok-records.ensures.loaded most_records _ _
      (c.in_ok-end_part.ensures.fed _ _ _ (c.in_ok-feed.ensures.fed _ _ _ c.new-loader.ensures.fed)));
}
