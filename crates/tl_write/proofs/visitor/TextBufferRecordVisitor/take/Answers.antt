use Rattle.std.proofs.lemmas.Result.{err_from_is_err_and}
use Rattle.tl_write.specs.TakingLaws.{puts_line, puts_nothing}
use Rattle.tl_write.proofs.visitor.TextBufferRecordVisitor.take.Goals as goal

pub returns-in_err-make_space-clause-takes : goal.returns-in_err-make_space-clause-takes
returns-in_err-make_space-clause-takes g c =
    let p = err_from_is_err_and c.from_residual.result c.from_residual.ensures.1 in
    rw (p.1, p.2) (puts_nothing g.W.Sink.failed g.W.Sink.holds (g.L.Tabled.as_record c.args.found) c.args.self.now c.make_space.new.self
    c.args.device.now c.make_space.new.w _ c.in_err-make_space.ensures.failures c.in_err-make_space.ensures.counted
    c.in_err-make_space.ensures.sent)

pub returns-clause-takes : goal.returns-clause-takes
returns-clause-takes g c =
    puts_line g.W.Sink.failed g.W.Sink.holds (g.L.Tabled.as_record c.args.found) (g.L.Layout.spelling c.args.found)
    (g.met.L.Tabled.spelling_is c.args.found) c.args.self.now c.make_space.new.self c.append.new.self c.args.device.now c.make_space.new.w
    c.in_ok-make_space.ensures.failures c.in_ok-make_space.ensures.counted c.in_ok-make_space.ensures.sent c.append.ensures
