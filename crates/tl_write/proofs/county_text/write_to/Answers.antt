use Rattle.std.proofs.Common.{[], arith, length, subst, sym}
use Rattle.canonical_form.specs.WholeArrangements.{arranged_by}
use Rattle.std.proofs.lemmas.Result.{err_from_is_err_and}
use Rattle.county_chart.specs.Packing.{packed}
use Rattle.tl_layout.specs.RecordText.{text_of}
use Rattle.tl_write.specs.GoingOut.{HasCounted, IsGoingOut}
use Rattle.tl_write.proofs.Finished.{at_the_start, begun, none_counted, whole_bytes, whole_length, whole_short}
use Rattle.tl_write.proofs.TextLengths.{few_bytes}
use Rattle.tl_write.proofs.county_text.write_to.Goals as goal

pub returns-in_err-visit_records-clause-short : goal.returns-in_err-visit_records-clause-short
returns-in_err-visit_records-clause-short g c =
    let p = err_from_is_err_and c.from_residual.result c.from_residual.ensures.1 in
    let start = subst (HasCounted 0) (sym c.new-buffer.ensures) (none_counted g.W.Sink.holds) in
    rw (p.1, p.2) (omega (arith, c.in_err-visit_records.ensures.given.counted 0 start))

pub returns-in_err-visit_records-clause-bytes : goal.returns-in_err-visit_records-clause-bytes
returns-in_err-visit_records-clause-bytes g c held h =
    let county = arranged_by (g.C.Chart.county c.args.county.now.chart) c.args.county.now.arrangement.items in
    let whole = c.args.county.now.whole in
    let p = err_from_is_err_and c.from_residual.result c.from_residual.ensures.1 in
    let start = subst (λ b. IsGoingOut g.W.Sink.holds held [] b c.args.w.now) (sym c.new-buffer.ensures)
    (at_the_start g.W.Sink.holds held c.args.w.now h) in
    rw (p.1, p.2) (begun g.W.Sink.holds held (text_of (packed county)) c.in_err-visit_records.field-0.0.written c.visit_records.new.device
    (few_bytes county whole.is_county whole.within_limits) (c.in_err-visit_records.ensures.given.bytes held [] start))

pub returns-clause-length : goal.returns-clause-length
returns-clause-length g c =
    let county = arranged_by (g.C.Chart.county c.args.county.now.chart) c.args.county.now.arrangement.items in
    let whole = c.args.county.now.whole in
    let start = subst (HasCounted 0) (sym c.new-buffer.ensures) (none_counted g.W.Sink.holds) in
    let counted = subst (λ n. HasCounted n c.visit_records.new.visitor) (omega arith) (c.in_ok-visit_records.ensures.given.counted 0 start) in
    whole_length g.W.Sink.holds (text_of (packed county)) (few_bytes county whole.is_county whole.within_limits) c.finish.result
    (c.finish.ensures.counted (length (text_of (packed county))) counted)

pub returns-clause-short : goal.returns-clause-short
returns-clause-short g c =
    let county = arranged_by (g.C.Chart.county c.args.county.now.chart) c.args.county.now.arrangement.items in
    let start = subst (HasCounted 0) (sym c.new-buffer.ensures) (none_counted g.W.Sink.holds) in
    let counted = subst (λ n. HasCounted n c.visit_records.new.visitor) (omega arith) (c.in_ok-visit_records.ensures.given.counted 0 start) in
    whole_short g.W.Sink.holds (text_of (packed county)) c.finish.result
    (c.finish.ensures.counted (length (text_of (packed county))) counted)

pub returns-clause-bytes : goal.returns-clause-bytes
returns-clause-bytes g c held h =
    let county = arranged_by (g.C.Chart.county c.args.county.now.chart) c.args.county.now.arrangement.items in
    let whole = c.args.county.now.whole in
    let start = subst (λ b. IsGoingOut g.W.Sink.holds held [] b c.args.w.now) (sym c.new-buffer.ensures)
    (at_the_start g.W.Sink.holds held c.args.w.now h) in
    whole_bytes g.W.Sink.holds held (text_of (packed county)) c.finish.new.w (few_bytes county whole.is_county whole.within_limits)
    c.finish.result (c.finish.ensures.whole held (text_of (packed county)) (c.in_ok-visit_records.ensures.given.bytes held [] start))
