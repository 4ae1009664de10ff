use Rattle.renamings.proofs.Common.{lookup}
use Rattle.renamings.proofs.Tables.{put_before}
use Rattle.ordered_lists.proofs.ByKey.Keys.{IsKeyOrder}
use Rattle.std.proofs.Common.{Some, [], ap, append-nil, append_assoc, cond, sym, ◌++◌, ◌∙◌, ◌∷◌}
use Rattle.renamings.proofs.images.Images.new.Goals as goal

pub loop-last-init : goal.loop-last-init
loop-last-init g c = record {
  done = [];
  cut = sym (append-nil c.args.pairs.now);
  stated = λ old. ap (lookup (g.K.PartialEq.eq old)) c.in_ok-table.ensures.empty;
}

pub loop-last-preserved : goal.loop-last-preserved
loop-last-preserved g c =
    let o : IsKeyOrder g.K.Ord.cmp = record { total = g.met.K.Ord.total; exact = g.met.K.Key.exact } in
    record {
      done = c.in-Some.last.now ∷ c.loop-last.invariant.done;
      cut = c.loop-last.invariant.cut ∙ ap (λ rest. rest ++ c.loop-last.invariant.done) c.in-Some.ensures.cases.0
          ∙ append_assoc c.in-Some.before.now (c.in-Some.last.now ∷ []) c.loop-last.invariant.done;
      stated = λ old. c.in_ok-insert.ensures.updates.0 old
          ∙ ap (cond (g.K.PartialEq.eq c.in-Some.last.now.0 old) (Some c.in-Some.last.now.1)) (c.loop-last.invariant.stated old)
          ∙ put_before g.K.PartialEq.eq g.K.Ord.cmp g.met.K.Ord.matches_eq o c.in-Some.last.now c.loop-last.invariant.done old;
    }
