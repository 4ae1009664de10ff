use Rattle.std.proofs.Common.{List, ap, append_assoc, arith, drop, length, length-drop, min, subst, sym, take, ℕ, ◌++◌, ◌+◌, ◌<◌, ◌∙◌, ◌≡◌}
use Rattle.std.proofs.lemmas.List.{length-append, length-take, take-append-drop}
use Rattle.tl_write.specs.GoingOut.{HasCounted, HoldsBeginning, IsGoingOut, up_to_most}
use Rattle.tl_write.proofs.text_buffer.TextBuffer.send.Goals as goal

-- a sink that failed holds the bytes sent before and the first of the waiting bytes
stopped : {W : Type 0} (holds : W → List ℕ → Type 0) (held text sent waiting : List ℕ) (n total : ℕ) (sink : W)
    → text ≡ sent ++ waiting → n < length waiting → total ≡ up_to_most (length sent + n)
    → holds sink ((held ++ sent) ++ take n waiting) → HoldsBeginning holds held text total sink
stopped holds held text sent waiting n total sink is short count arrived = record {
  sent = sent ++ take n waiting;
  rest = drop n waiting;
  text_is = is ∙ ap (λ w. sent ++ w) (sym (take-append-drop n waiting)) ∙ sym (append_assoc sent (take n waiting) (drop n waiting));
  some_left = omega (arith, length-drop n waiting, short);
  count = count ∙ ap up_to_most (sym (length-append sent (take n waiting) ∙ ap (λ m. length sent + m)
      (omega (arith, length-take n waiting, short))));
  arrived = subst (holds sink) (append_assoc held sent (take n waiting)) arrived;
}

-- a count that stops at the greatest number, plus some more
capped : (a s n total : ℕ) → total ≡ min (s + n) 18446744073709551615 → s ≡ up_to_most a → total ≡ up_to_most (a + n)
capped a s n total p q = omega (arith, p, q)

pub returns-in-Err-clause-sent : goal.returns-in-Err-clause-sent
returns-in-Err-clause-sent g c held text h =
    let waiting = take c.self.inside.filled c.self.inside.bytes in
    let n = c.in-Err.fault.written in
    let going : IsGoingOut g.W.Sink.holds held text (record { waiting = waiting; sent = c.self.inside.sent }) c.args.w.now =
    subst (λ b. IsGoingOut g.W.Sink.holds held text b c.args.w.now) (sym c.self.view_is) h in
    stopped g.W.Sink.holds held text going.sent waiting n c.saturating_add.result c.write_bytes.new.w going.text_is c.in-Err.ensures.short
    (capped (length going.sent) c.self.inside.sent n c.saturating_add.result c.saturating_add.ensures going.count)
    (c.in-Err.ensures.bytes (held ++ going.sent) going.arrived)

pub returns-in-Ok-clause-counted : goal.returns-in-Ok-clause-counted
returns-in-Ok-clause-counted g c total h =
    let waiting = take c.self.inside.filled c.self.inside.bytes in
    let counted : HasCounted total (record { waiting = waiting; sent = c.self.inside.sent }) =
    subst (HasCounted total) (sym c.self.view_is) h in
    let count : c.in-Ok.count ≡ length waiting = c.in-Ok.ensures.length in
    record {
      sent = counted.sent + c.in-Ok.count;
      count = capped counted.sent c.self.inside.sent c.in-Ok.count c.saturating_add-self-inside.result c.saturating_add-self-inside.ensures
          counted.count;
      all = omega (arith, counted.all, count);
    }
