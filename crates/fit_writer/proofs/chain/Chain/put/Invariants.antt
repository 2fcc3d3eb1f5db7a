use Rattle.std.specs.Prelude.{reverse}
use Rattle.fit_encode.specs.Encoding.{file_of}
use Rattle.fit_writer.proofs.chain.Chain.put.Given as goal

abbrev pub ghost-add_from : goal.ghost-add_from
ghost-add_from a = file_of a._source.now.header.now (reverse a._source.now.stream.now)
