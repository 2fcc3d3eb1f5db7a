use Rattle.fit_record.proofs.WrongPlace.{dev_field_at}
use Rattle.fit_record.proofs.layout.shape_of_dev_field.Goals as goal

pub returns : goal.returns
returns c = dev_field_at c.args.codes.now c.args.fields.now c.args.place c.requires.codes c.requires.place
