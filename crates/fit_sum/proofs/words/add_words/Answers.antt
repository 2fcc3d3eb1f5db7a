use Rattle.fit_sum.proofs.Common.{◌≡◌, [], take, get_or, ap, sym, ◌∙◌, arith, take_all, concat, run}
use Rattle.fit_sum.proofs.PiecesOfLists.{run-none, run-piece}
use Rattle.fit_sum.proofs.words.add_words.Goals as goal

pub loop-eight-init : goal.loop-eight-init
loop-eight-init c = sym (run-none 0)

pub loop-eight-preserved : goal.loop-eight-preserved
loop-eight-preserved c =
    let bytes = c.bytes_of.result in
    let i = c.loop-eight.eight-index in
    c.add_eight-sum.ensures
    ∙ ap (λ t. run t (get_or bytes i [])) c.loop-eight.invariant
    ∙ sym (run-piece 0 bytes i (omega (arith, c.loop-eight-test.true, c.bytes_of.ensures.count)))

pub returns : goal.returns
returns c =
    let bytes = c.bytes_of.result in
    let i = c.loop-eight.eight-index in
    let all : take c.loop-eight.eight-index c.bytes_of.result ≡ c.bytes_of.result
    = take_all i bytes (omega (arith, c.loop-eight-test.false, c.bytes_of.ensures.count)) in
    c.loop-eight.invariant ∙ ap (λ t. run 0 (concat t)) all ∙ ap (run 0) c.bytes_of.ensures.bytes
