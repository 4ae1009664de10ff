-- the TLIDs of the chains that are kept so far, and the searches at the place
use Rattle.tl_number.proofs.Common.{AreSearched, at_places, filter, is_kept, map, range_with_len, tlid_at, ◌≡◌}
use Rattle.tl_number.proofs.kept_places.kept_along.Given as goal

abbrev pub invariant-loop-place : goal.invariant-loop-place
invariant-loop-place g l = record {
  tlids : l.tlids.items ≡ map (λ directed. tlid_at (g.C.Chart.county l.chart) directed.place)
      (at_places l.shape_order.by_shape (filter (is_kept (g.C.Chart.county l.chart) l.shape_order l.still_open) (range_with_len 0 l.place)));
  searches : AreSearched (g.C.Chart.county l.chart) l.still_open l.place l.searches;
}
