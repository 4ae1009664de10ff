use Rattle.tigercanon.proofs.CanonicalTexts.{goes_out, text_of_set}
use Rattle.tigercanon.proofs.Common.{refl}
use Rattle.tigercanon.proofs.library.products.WrittenProduct.of.Goals as goal

pub returns : goal.returns
returns g c = λ parts set.
    let w = c.write_to.ensures in
    record {
      text = _;
      canonical = text_of_set c.args._mask _ _ _ set _ refl;
      out = goes_out g.W.Sink.failed g.W.Sink.holds _ _ _ c.write_to.result w.length w.short w.failures w.bytes;
    }
