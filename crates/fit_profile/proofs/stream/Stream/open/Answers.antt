use Rattle.std.proofs.Common.{lit<}
use Rattle.fit_profile.proofs.Common.{◌∙◌, ap, sym, subst, defined_at, known, Environment, Fits}
use Rattle.std.specs.Global.{Global}
use Rattle.fit_record.specs.declared.message.Record.TheVariants.{Values as Data}
use Rattle.fit_profile.proofs.Kept.{kept-record}
use Rattle.fit_profile.proofs.stream.Stream.open.Goals as goal

pub open-requires : goal.open-requires
open-requires c = (
  lit< tt,
  (c.requires.0, kept-record c.args.self.now (Data c.requires.0) c.args.bytes.now c.self.invariant.0 c.self.view_is c.requires.1),
)

pub returns-clause-opened : goal.returns-clause-opened
returns-clause-opened c =
    let now = c.args.self.now in
    let m = c.open.result in
    let v = c.requires.0 in
    let read = c.open.ensures.read v (kept-record now (Data v) c.args.bytes.now c.self.invariant.0 c.self.view_is c.requires.1) in
    record {
      defined = sym (ap (λ (e : Environment Global). defined_at e m.local) (c.self.invariant.0.env_is ∙ ap known c.self.view_is))
          ∙ c.open.ensures.defined;
      sound = c.open.ensures.sound;
      size = c.open.ensures.size;
      fits = subst (λ w. Fits (known now) (Data w)) (sym read) c.requires.1.0;
    }

pub returns-clause-read : goal.returns-clause-read
returns-clause-read c v is =
    c.open.ensures.read v (kept-record c.args.self.now (Data v) c.args.bytes.now c.self.invariant.0 c.self.view_is is)
