use Rattle.std.proofs.Common.{ap, length, refl, sym, ◌∙◌}
use Rattle.tl_load.proofs.TextLemmas.{has_version}
use Rattle.tl_load.proofs.collector.CanonicalTextCollector.push_line.Goals as goal

pub copy_line-requires-clause-some : goal.copy_line-requires-clause-some
copy_line-requires-clause-some g c =
    let found = c.if-not-is_canonical.ensures refl in
    let fits = (g.met.L.Layout.reads_spelled c.args.line.now found.0 c.requires found.1.read).0 in
    let spelling = g.met.L.Layout.spelling_is_line found.0 fits in
    has_version c.args.line.now (ap length (sym found.1.spelt) ∙ spelling.text.len ∙ sym c.requires.text.len)
