use Rattle.std.proofs.Common.{List, ap, append_assoc, arith, drop, length, length-drop, subst, sym, take, ℕ, ◌++◌, ◌+◌, ◌-◌, ◌∙◌, ◌≡◌}
use Rattle.std.proofs.Math.Seq.{take-add}
use Rattle.std.proofs.lemmas.List.{take_rest}
use Rattle.tl_write.proofs.bytes_out.write_bytes.Goals as goal

-- the first n of the remaining bytes follow the first i
next_taken : (bytes : List ℕ) (i n : ℕ) → take i bytes ++ take n (take (length bytes - i) (drop i bytes)) ≡ take (i + n) bytes
next_taken bytes i n = ap (λ rest. take i bytes ++ take n rest) (take_rest bytes i) ∙ sym (take-add i n bytes)

pub loop-written-preserved : goal.loop-written-preserved
loop-written-preserved g c =
    let bytes = c.args.bytes.now in
    let i = c.loop-written.written in
    let n = c.in-Ok.count in
    let rest : length (take (length bytes - i) (drop i bytes)) ≡ length (drop i bytes) = ap length (take_rest bytes i) in
    record {
      within = omega (arith, rest, length-drop i bytes, c.in-Ok.ensures.bound, c.loop-written-test.true);
      failures = c.in-Ok.ensures.failures ∙ c.loop-written.invariant.failures;
      out = λ held h. subst (g.W.Sink.holds c.write.new.self)
          (append_assoc held (take i bytes) (take n (take (length bytes - i) (drop i bytes))) ∙ ap (λ t. held ++ t) (next_taken bytes i n))
          (c.in-Ok.ensures.bytes (held ++ take i bytes) (c.loop-written.invariant.out held h));
    }
