use Rattle.fit_encode.specs.Encoding.{file_of}
use Rattle.fit_encode.proofs.spelled_files.SpelledFiles.push.Given as goal

abbrev pub ghost-add_from : goal.ghost-add_from
ghost-add_from a = file_of a._source.now.header.now a._source.now.records.items
