use Rattle.fit_sum.proofs.Common.{◌≡◌, [], get_or, length, take, sym, ap, ◌∙◌, ◌++◌, ◌/◌, concat, first_chunks, take_all, run}
use Rattle.fit_sum.proofs.Division.{run-append}
use Rattle.fit_sum.proofs.PiecesOfLists.{run-none, run-piece, chunks-whole}
use Rattle.fit_sum.proofs.slices.add_by_twos.Goals as goal

pub loop-two-init : goal.loop-two-init
loop-two-init c = sym (run-none _)

pub loop-two-preserved : goal.loop-two-preserved
loop-two-preserved c =
    let whole = c.as_chunks.result.0.now in
    let i = c.loop-two.two-index in
    c.add_two-sum.ensures
    ∙ ap (λ t. run t (get_or whole i [])) c.loop-two.invariant
    ∙ sym (run-piece c.args.register whole i c.loop-two-test.true)

pub returns : goal.returns
returns c =
    let bytes = c.args.bytes.now in
    let rest = c.as_chunks.result.1.now in
    let all : take c.loop-two.two-index c.as_chunks.result.0.now ≡ c.as_chunks.result.0.now = take_all _ _ c.loop-two-test.false in
    c.add_each.ensures
    ∙ ap (λ t. run t rest) (c.loop-two.invariant ∙ ap (λ t. run c.args.register (concat t)) (all ∙ c.as_chunks.ensures.front))
    ∙ sym (run-append c.args.register (concat (first_chunks 2 (length bytes / 2) bytes)) rest)
    ∙ ap (λ t. run c.args.register (concat (first_chunks 2 (length bytes / 2) bytes) ++ t)) c.as_chunks.ensures.back
    ∙ ap (run c.args.register) (chunks-whole 2 (length bytes / 2) bytes)
