use Rattle.fit_sum.proofs.Common.{◌≡◌, [], ◌++◌, get_or, take, refl, ap, sym, ◌∙◌, rules, concat, take_all, run, spelled}
use Rattle.fit_sum.proofs.BlocksOfWords.{keeps-none, keeps-block, keeps-last}
use Rattle.fit_sum.proofs.TurnsAreShifts.{register-128}
use Rattle.fit_sum.proofs.PiecesOfLists.{concat-turn}
use Rattle.fit_sum.proofs.wide.add_wide_blocks.Goals as goal

pub loop-block-init : goal.loop-block-init
loop-block-init c = (
  (refl, (refl, (refl, (refl, (refl, (refl, (refl, (refl, (refl, (refl, (refl, (refl, (refl, (refl, (refl, (refl, tt)))))))))))))))),
  rw c.from.ensures (keeps-none 31 c.args.register (search rules)),
)

pub mixed-requires : goal.mixed-requires
mixed-requires c = c.loop-block.invariant.0

pub loop-block-preserved : goal.loop-block-preserved
loop-block-preserved c =
    let front = c.args.front.now in
    let i = c.loop-block.block-index in
    let within = c.loop-block-test.true in (
      c.shifted-words.ensures.pairs,
      rw (c.shifted-words.ensures.sums, c.mixed.ensures.sums, concat-turn front i within)
          (keeps-block 1 27 31 2048 c.args.register (concat (take i front)) (get_or front i []) (concat c.loop-block.words) register-128 c.mixed.ensures.bytes
          (c.told-front i within)
          c.loop-block.invariant.1),
    )

pub mixed-requires-2 : goal.mixed-requires-2
mixed-requires-2 c = c.loop-block.invariant.0

pub returns : goal.returns
returns c =
    let register = c.args.register in
    let last = c.args.last.now in
    let i = c.loop-block.block-index in
    let before = concat (take i c.args.front.now) in
    let all : take c.loop-block.block-index c.args.front.now ≡ c.args.front.now = take_all i c.args.front.now c.loop-block-test.false in
    c.add_words.ensures
    ∙ ap (λ t. run 0 (spelled t)) c.mixed-2.ensures.sums
    ∙ sym (keeps-last 32 register before last (concat c.loop-block.words) c.mixed-2.ensures.bytes c.told-last c.loop-block.invariant.1)
    ∙ ap (λ t. run register (concat t ++ last)) all
