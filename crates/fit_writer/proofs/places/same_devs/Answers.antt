use Rattle.std.proofs.lemmas.Slice.Eq.{slice_eq-Decides}
use Rattle.fit_writer.proofs.SameDevs.{same_dev}
use Rattle.fit_writer.proofs.places.same_devs.Goals as goal

pub returns : goal.returns
returns c = slice_eq-Decides same_dev c.args.a.now c.args.b.now c.eq.result c.eq.ensures
