use Rattle.tigercanon.proofs.Leaving.{line_reported}
use Rattle.tigercanon.proofs.program.ending.write_line.Goals as goal

pub returns : goal.returns
returns g c =
    let w = c.write_bytes.ensures in
    line_reported g.E.Sink.failed g.E.Sink.holds c.args.err.now c.write_bytes.new.w c.args.line.now c.write_bytes.result w.failures w.bytes
