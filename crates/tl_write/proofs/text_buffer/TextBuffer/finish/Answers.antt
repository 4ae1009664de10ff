use Rattle.std.proofs.Common.{List, [], ap, append-nil, arith, length, subst, sym, ℕ, ◌++◌, ◌∙◌, ◌≡◌}
use Rattle.std.proofs.lemmas.Result.{err_from_is_err_and}
use Rattle.tl_write.specs.GoingOut.{IsGoingOut, Waiting, up_to_most}
use Rattle.tl_write.proofs.text_buffer.TextBuffer.finish.Goals as goal

-- if no bytes are waiting, the whole text was sent
all_sent : {W : Type 0} (holds : W → List ℕ → Type 0) (held text : List ℕ) (buffer : Waiting) (sink : W) → buffer.waiting ≡ []
    → IsGoingOut holds held text buffer sink → holds sink (held ++ text) × (buffer.sent ≡ up_to_most (length text))
all_sent holds held text buffer sink none h =
    let whole : text ≡ h.sent = h.text_is ∙ ap (λ w. h.sent ++ w) none ∙ append-nil h.sent in
    (subst (λ t. holds sink (held ++ t)) (sym whole) h.arrived, h.count ∙ ap (λ t. up_to_most (length t)) (sym whole))

pub returns-clause-whole : goal.returns-clause-whole
returns-clause-whole g c held text h =
    let done = all_sent g.W.Sink.holds held text c.send.new.self c.send.new.w c.in_ok-send.ensures.empty
    (c.in_ok-send.ensures.sent held text h) in
    (done.0, ap (λ b. b.sent) c.self.view_is ∙ done.1)

pub returns-in_err-send-clause-counted : goal.returns-in_err-send-clause-counted
returns-in_err-send-clause-counted g c total h =
    let p = err_from_is_err_and c.from_residual.result c.from_residual.ensures.1 in
    rw (p.1, p.2) (c.in_err-send.ensures.counted total h)

pub returns-clause-counted : goal.returns-clause-counted
returns-clause-counted g c total h =
    let counted = c.in_ok-send.ensures.counted total h in
    let sent = ap (λ b. b.sent) c.self.view_is in
    let none = ap length c.in_ok-send.ensures.empty in
    omega (arith, sent, none, counted.count, counted.all)
