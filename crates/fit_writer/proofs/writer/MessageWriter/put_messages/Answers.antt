use Rattle.fit_writer.proofs.Runs.{err_run, ok_run}
use Rattle.fit_writer.proofs.writer.MessageWriter.put_messages.Goals as goal

pub returns-clause-written : goal.returns-clause-written
returns-clause-written c =
    ok_run c.args.self.now c.self.inside.files c.self.inside.is_open c.self.inside.file c.put_run.new.file c.args.definition.now c.args.blocks.now
    c.put_run.result c.self.view_is c.if-not-self.false c.put_run.ensures.stands c.put_run.ensures.ok

pub returns-clause-stopped : goal.returns-clause-stopped
returns-clause-stopped c =
    err_run c.args.self.now c.self.inside.files c.self.inside.is_open c.self.inside.file c.put_run.new.file c.args.definition.now c.args.blocks.now
    c.put_run.result c.self.view_is c.if-not-self.false c.put_run.ensures.err
