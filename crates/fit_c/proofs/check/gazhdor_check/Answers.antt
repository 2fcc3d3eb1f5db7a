use Rattle.fit_c.proofs.Common.{ap, subst, sym, ◌∙◌, ◌≡◌, ◌⊎◌}
use Rattle.fit_c.proofs.Said.{chain_checked, check_good}
use Rattle.fit_c.proofs.check.gazhdor_check.Goals as goal

pub returns-clause-finding : goal.returns-clause-finding
returns-clause-finding c = (
  c.check_bytes.result,
  c.answer_for_check.ensures,
  c.check_bytes.ensures.files,
  c.check_bytes.ensures.fault,
  c.check_bytes.ensures.place,
)

pub returns-clause-good : goal.returns-clause-good
returns-clause-good c = λ zero. check_good c.args.bytes.now c.check_bytes.result c.check_bytes.ensures.files
    (ap (λ a. a.status) (sym c.answer_for_check.ensures) ∙ zero)

pub returns-clause-chain : goal.returns-clause-chain
returns-clause-chain c = λ chain.
    subst (λ a. (a.status ≡ 0) ⊎ (a.status ≡ 3)) (sym c.answer_for_check.ensures) (chain_checked c.check_bytes.result (c.check_bytes.ensures.memory chain))
