use Rattle.fit_sum.proofs.Common.{◌≡◌, [], get_or, length, take, sym, ap, ◌∙◌, ◌++◌, ◌/◌, concat, first_chunks, take_all, run}
use Rattle.fit_sum.proofs.Division.{run-append}
use Rattle.fit_sum.proofs.PiecesOfLists.{run-none, run-piece, chunks-whole}
use Rattle.fit_sum.proofs.slices.add_by_eights.Goals as goal

pub loop-eight-init : goal.loop-eight-init
loop-eight-init c = sym (run-none _)

pub loop-eight-preserved : goal.loop-eight-preserved
loop-eight-preserved c =
    let whole = c.as_chunks.result.0.now in
    let i = c.loop-eight.eight-index in
    c.add_eight-sum.ensures
    ∙ ap (λ t. run t (get_or whole i [])) c.loop-eight.invariant
    ∙ sym (run-piece c.args.register whole i c.loop-eight-test.true)

pub returns : goal.returns
returns c =
    let bytes = c.args.bytes.now in
    let rest = c.as_chunks.result.1.now in
    let all : take c.loop-eight.eight-index c.as_chunks.result.0.now ≡ c.as_chunks.result.0.now = take_all _ _ c.loop-eight-test.false in
    c.add_by_twos.ensures
    ∙ ap (λ t. run t rest) (c.loop-eight.invariant ∙ ap (λ t. run c.args.register (concat t)) (all ∙ c.as_chunks.ensures.front))
    ∙ sym (run-append c.args.register (concat (first_chunks 8 (length bytes / 8) bytes)) rest)
    ∙ ap (λ t. run c.args.register (concat (first_chunks 8 (length bytes / 8) bytes) ++ t)) c.as_chunks.ensures.back
    ∙ ap (run c.args.register) (chunks-whole 8 (length bytes / 8) bytes)
