use Rattle.std.proofs.Common.{refl, sym, subst}
use Rattle.fit_from_messages.specs.inner.Chains.{IsUnreadBlock}
use Rattle.fit_from_messages.proofs.ReadChains.{cut_here, misfit_fault, one_said}
use Rattle.fit_from_messages.proofs.from.take_first.Goals as goal

pub returns-in-Ok-clause-ok : goal.returns-in-Ok-clause-ok
returns-in-Ok-clause-ok c =
    one_said c.args.blocks.now c.args.rest.now c.in-Some.block.now c.in-Some.after.now c.args.number c.args.chain.now c.take_block.new.self c.requires.said
    c.in-Some.ensures.block c.in-Some.ensures.rest c.in-Ok.ensures.stands c.in-Ok.ensures.after c.in-Ok.ensures.sound

pub returns-in-Err-clause-err : goal.returns-in-Err-clause-err
returns-in-Err-clause-err c =
    subst (IsUnreadBlock c.args.blocks.now) (sym c.fault_at.ensures)
    (misfit_fault c.args.blocks.now c.args.rest.now c.in-Some.block.now c.in-Some.after.now c.args.number _ c.args.chain.now c.in-Err.misfit
    c.requires.said refl c.in-Some.ensures.rest c.in-Some.ensures.block c.in-Err.ensures.err c.in-Err.ensures.memory)

pub returns-in_default-clause-err : goal.returns-in_default-clause-err
returns-in_default-clause-err c =
    cut_here c.args.blocks.now c.args.rest.now c.args.number _ c.args.chain.now c.requires.said refl c.requires.some (c.in_default.ensures.none refl)
