use Rattle.fit_record.proofs.Common.{[], append-nil, sym, subst, Data, IsRecord}
use Rattle.fit_record.proofs.environment.Env.open.Goals as goal

pub unreachable-requires : goal.unreachable-requires
unreachable-requires g c =
    let bytes = c.args.bytes.now in
    c.in-None.ensures.found c.requires.0 bytes [] (sym (append-nil bytes)) c.requires.1

pub returns-clause-read : goal.returns-clause-read
returns-clause-read g c v is =
    let bytes = c.args.bytes.now in
    (c.in-Some.ensures.found v bytes [] (sym (append-nil bytes)) is).0

pub returns-clause-spelled : goal.returns-clause-spelled
returns-clause-spelled g c =
    let bytes = c.args.bytes.now in
    let found = c.in-Some.ensures.found c.requires.0 bytes [] (sym (append-nil bytes)) c.requires.1 in
    subst (λ v. IsRecord c.args.self.now (Data v) bytes) (sym found.0) c.requires.1
