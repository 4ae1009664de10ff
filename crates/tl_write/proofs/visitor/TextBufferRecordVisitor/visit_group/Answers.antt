use Rattle.std.proofs.lemmas.Result.{err_from_is_err_and}
use Rattle.tl_write.specs.TakingLaws.{puts_line, puts_nothing}
use Rattle.tl_write.proofs.visitor.TextBufferRecordVisitor.visit_group.Goals as goal

pub returns-in_err-make_space-clause-takes : goal.returns-in_err-make_space-clause-takes
returns-in_err-make_space-clause-takes g c found read =
    let p = err_from_is_err_and c.from_residual.result c.from_residual.ensures.1 in
    rw (p.1, p.2) (puts_nothing g.W.Sink.failed g.W.Sink.holds (g.G.Item.Tabled.as_record found) c.args.self.now c.make_space.new.self
    c.args.device.now c.make_space.new.w _ c.in_err-make_space.ensures.failures c.in_err-make_space.ensures.counted
    c.in_err-make_space.ensures.sent)

pub returns-clause-takes : goal.returns-clause-takes
returns-clause-takes g c found read =
    puts_line g.W.Sink.failed g.W.Sink.holds (g.G.Item.Tabled.as_record found) (g.G.Item.Layout.spelling found)
    (g.met.G.Item.Tabled.spelling_is found) c.args.self.now c.make_space.new.self c.append_from.new.self c.args.device.now c.make_space.new.w
    c.in_ok-make_space.ensures.failures c.in_ok-make_space.ensures.counted c.in_ok-make_space.ensures.sent
    (c.append_from.ensures found read)
