-- What was read is returned.
use Rattle.std.proofs.lemmas.Result.{err_from_is_err_and}
use Rattle.fit_decode.proofs.Common.{Ok, Err, sym, ap, ◌∙◌, subst, Fault}
use Rattle.fit_decode.proofs.ChainRead.{gives_chain}
use Rattle.fit_decode.specs.Reads.{Channel, ReadsChain, channel}
use Rattle.fit_decode.proofs.readers.chain.read_chain.Goals as goal

pub read_files-requires-clause-fresh : goal.read_files-requires-clause-fresh
read_files-requires-clause-fresh g c = c.new-decoder.ensures

pub read_files-requires-clause-empty : goal.read_files-requires-clause-empty
read_files-requires-clause-empty g c = c.new-files.ensures.items

pub returns-in_err-read_files-clause-exact : goal.returns-in_err-read_files-clause-exact
returns-in_err-read_files-clause-exact g c =
    let p = err_from_is_err_and c.from_residual.result c.from_residual.ensures.1 in
    let source : Channel = channel g.S.Source.remaining g.S.Source.has_failed c.args.source.now c.read_files.new.source in
    subst (ReadsChain source) (sym (p.1 ∙ ap (λ (f : Fault). Err f) p.2)) c.in_err-read_files.ensures.err

pub returns-in_err-read_files-clause-chain : goal.returns-in_err-read_files-clause-chain
returns-in_err-read_files-clause-chain g c = λ fs b input are chain.
    gives_chain fs b _ _ (g.S.Source.has_failed c.read_files.new.source) c.from_residual.result input are chain (returns-in_err-read_files-clause-exact g c)

pub returns-clause-exact : goal.returns-clause-exact
returns-clause-exact g c = c.in_ok-read_files.ensures.ok

pub returns-clause-chain : goal.returns-clause-chain
returns-clause-chain g c = λ fs b input are chain.
    gives_chain fs b _ _ (g.S.Source.has_failed c.read_files.new.source) (Ok c.read_files.new.files) input are chain c.in_ok-read_files.ensures.ok
