use Rattle.fit_profile.proofs.Common.{refl}
use Rattle.fit_record.specs.declared.message.Record.TheVariants.{Values as Data}
use Rattle.fit_profile.proofs.Kept.{kept-record, keeps-last, not-first}
use Rattle.fit_profile.proofs.PassedMessages.{silent_last, silent_nothing}
use Rattle.fit_profile.proofs.stream.Stream.pass_message.Goals as goal

pub add_bytes-requires : goal.add_bytes-requires
add_bytes-requires c =
    (c.requires.0, kept-record c.args.self.now (Data c.requires.0) c.args.bytes.now c.self.invariant.0 c.self.view_is c.requires.1)

pub invariant_of-self : goal.invariant_of-self
invariant_of-self c =
    let s = c.self.inside in
    let v = c.requires.0 in
    let is = kept-record c.args.self.now (Data v) c.args.bytes.now c.self.invariant.0 c.self.view_is c.requires.1 in
    let silent = c.is_silent.ensures c.if-not-is_silent.false s.env v c.self.invariant.1 is in
    let nothing = silent_nothing s.env v _ refl silent.1 in (
      keeps-last s.env s.last s.last s.names s.pushed.items c.add_bytes.new.records.items c.args.self.now v c.self.invariant.0 c.self.view_is
          c.requires.1.0 nothing (silent_last s.env s.last v _ refl silent.0 silent.1) (c.add_bytes.ensures v is),
      c.self.invariant.1,
      not-first s.is_new s.pushed.items c.add_bytes.new.records.items c.args.self.now s.env (Data v) c.self.invariant.2 c.self.view_is c.requires.1.0
          nothing,
    )
