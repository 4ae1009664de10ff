-- One point was written after the other.
use Rattle.tl_layout.proofs.Common.{arith, point_texts, refl}
use Rattle.tl_layout.proofs.Writes.{group_behind, whole}
use Rattle.tl_layout.proofs.type1.Rec1.put_points.Goals as goal

pub returns : goal.returns
returns c =
    let start = group_behind (point_texts c.args.start.now) c.write_point.ensures.written refl in
    whole 228 c.write_point-2.new.out _ (omega arith) (group_behind (point_texts c.args.end.now) c.write_point-2.ensures.written start)
