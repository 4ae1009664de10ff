use Rattle.tigercanon.proofs.Common.{RoseBy, arith, gave_more, length, length-take, most_records, subst, sym, take, ℕ, ◌++◌, ◌∙◌, ◌≡◌}
use Rattle.tigercanon.proofs.FileParts.{rose_again, still_no_device}
use Rattle.tigercanon.proofs.library.reading.read_past_faults.Goals as goal

pub loop-made-preserved : goal.loop-made-preserved
loop-made-preserved g c =
    let f = c.loop-made.invariant.fed in
    let piece = take c.in-Ok.count c.read.new.buf in
    let len : length piece ≡ c.in-Ok.count = omega (arith, length-take c.in-Ok.count c.read.new.buf, c.in-Ok.ensures.bound) in
    let counted = subst (λ (n : ℕ). RoseBy n (g.R.Source.given c.loop-made.source) (g.R.Source.given c.read.new.self))
    (sym len) c.in-Ok.ensures.given in
    record {
      fed = (
        f.0 ++ piece,
        gave_more _ _ _ _ _ _ _ f.1 c.in-Ok.ensures.bytes.0 counted,
        λ closed w. c.feed.ensures.fed most_records closed f.0 (f.2 closed w),
      );
      parts = c.feed.ensures.parts ∙ c.loop-made.invariant.parts;
      no_device = still_no_device (λ l. l.fault) c.loop-made.loader c.feed.new.self c.feed.result c.loop-made.invariant.no_device
          c.feed.ensures.ok c.feed.ensures.reported c.feed.ensures.device c.feed.ensures.stood;
      failures = c.in-Ok.ensures.failures ∙ c.loop-made.invariant.failures;
      reads = rose_again _ _ _ c.loop-made.made 1 c.loop-made.invariant.reads c.in-Ok.ensures.reads;
    }
