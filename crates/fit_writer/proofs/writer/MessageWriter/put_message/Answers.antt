use Rattle.fit_writer.proofs.Calls.{err_keeps, err_message, ok_message, read_form}
use Rattle.fit_writer.proofs.ReadAmounts.{told_amounts}
use Rattle.fit_writer.specs.Reading.{form_in}
use Rattle.fit_writer.specs.inner.Places.{form_of}
use Rattle.fit_writer.proofs.writer.MessageWriter.put_message.Goals as goal

pub returns-in-Ok-clause-refused : goal.returns-in-Ok-clause-refused
returns-in-Ok-clause-refused c =
    let same = read_form c.in-Ok.lone c.args.definition.now c.in-Ok.ensures.definition c.in-Ok.ensures.codes c.in-Ok.ensures.slots c.in-Ok.ensures.dev in
    err_message c.args.self.now c.self.inside.files c.self.inside.is_open c.self.inside.file c.in-Ok.lone c.args.definition.now c.args.block.now
    c.put_told.result c.self.view_is c.if-not-self.false c.in-Ok.ensures.stands same c.in-Ok.ensures.slots c.put_told.ensures.refused

pub returns-in-Ok-clause-unchanged : goal.returns-in-Ok-clause-unchanged
returns-in-Ok-clause-unchanged c =
    let same = read_form c.in-Ok.lone c.args.definition.now c.in-Ok.ensures.definition c.in-Ok.ensures.codes c.in-Ok.ensures.slots c.in-Ok.ensures.dev in
    err_keeps c.args.self.now c.self.inside.files c.self.inside.is_open c.self.inside.file c.put_told.new.file (form_of c.in-Ok.lone)
    (form_in c.args.definition.now) c.args.block.now c.put_told.result c.self.view_is c.if-not-self.false same c.put_told.ensures.err

pub returns-in-Ok-clause-written : goal.returns-in-Ok-clause-written
returns-in-Ok-clause-written c =
    let same = read_form c.in-Ok.lone c.args.definition.now c.in-Ok.ensures.definition c.in-Ok.ensures.codes c.in-Ok.ensures.slots c.in-Ok.ensures.dev in
    ok_message c.args.self.now c.self.inside.files c.self.inside.is_open c.self.inside.file c.put_told.new.file (form_of c.in-Ok.lone)
    (form_in c.args.definition.now) c.args.block.now c.put_told.result c.self.view_is c.if-not-self.false same c.put_told.ensures.ok

pub returns-in-Ok-clause-accumulated : goal.returns-in-Ok-clause-accumulated
returns-in-Ok-clause-accumulated c =
    told_amounts c.self.inside.files c.self.inside.is_open c.put_told.new.file c.args.definition.now c.args.block.now c.has_amounts-has.result
    c.put_told.result c.if-not-self.false c.has_amounts-has.ensures c.put_told.ensures.told
