use Rattle.fit_writer.proofs.Calls.{read_form}
use Rattle.fit_writer.proofs.DescribeCalls.{err_describes, err_refuses, none_put, ok_describes}
use Rattle.fit_writer.specs.Reading.{form_in}
use Rattle.fit_writer.specs.inner.Places.{form_of}
use Rattle.fit_writer.proofs.writer.MessageWriter.describe.Goals as goal

pub returns-in-Ok-clause-described : goal.returns-in-Ok-clause-described
returns-in-Ok-clause-described c =
    let same = read_form c.in-Ok.lone c.args.definition.now c.in-Ok.ensures.definition c.in-Ok.ensures.codes c.in-Ok.ensures.slots c.in-Ok.ensures.dev in
    ok_describes c.args.self.now c.self.inside.files c.self.inside.is_open c.self.inside.file c.describe.new.file (form_of c.in-Ok.lone)
    (form_in c.args.definition.now) c.describe.result c.self.view_is c.if-not-self.false same c.describe.ensures.ok

pub returns-in-Ok-clause-refused : goal.returns-in-Ok-clause-refused
returns-in-Ok-clause-refused c =
    let same = read_form c.in-Ok.lone c.args.definition.now c.in-Ok.ensures.definition c.in-Ok.ensures.codes c.in-Ok.ensures.slots c.in-Ok.ensures.dev in
    err_refuses c.args.self.now c.self.inside.files c.self.inside.is_open c.self.inside.file c.describe.new.file (form_of c.in-Ok.lone) c.args.definition.now
    c.describe.result c.self.view_is c.if-not-self.false c.in-Ok.ensures.stands same c.describe.ensures.err

pub returns-in-Ok-clause-unchanged : goal.returns-in-Ok-clause-unchanged
returns-in-Ok-clause-unchanged c =
    let same = read_form c.in-Ok.lone c.args.definition.now c.in-Ok.ensures.definition c.in-Ok.ensures.codes c.in-Ok.ensures.slots c.in-Ok.ensures.dev in
    err_describes c.args.self.now c.self.inside.files c.self.inside.is_open c.self.inside.file c.describe.new.file (form_of c.in-Ok.lone)
    (form_in c.args.definition.now) c.describe.result c.self.view_is c.if-not-self.false same c.describe.ensures.err

pub returns-in-Err-NoMemory-clause-unchanged : goal.returns-in-Err-NoMemory-clause-unchanged
returns-in-Err-NoMemory-clause-unchanged c =
    none_put c.args.self.now c.self.inside.files c.self.inside.is_open c.self.inside.file (form_in c.args.definition.now) c.self.view_is c.if-not-self.false
