use Rattle.fit_frame.proofs.reader.HeadReader.bytes.Goals as goal

pub returns : goal.returns
returns c = cc
