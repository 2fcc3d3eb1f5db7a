use Rattle.std.proofs.Common.{rules}
use Rattle.fit_run.proofs.Common.{length, ap, arith}
use Rattle.fit_run.proofs.Names.{length-reason_name}
use Rattle.fit_run.proofs.lines.refused.Goals as goal

pub push_str-requires : goal.push_str-requires
push_str-requires c = omega (arith, c.numbered-lines.ensures.short, ap length c.name.ensures, length-reason_name c.args.reason)

pub push_str-requires-2 : goal.push_str-requires-2
push_str-requires-2 c = omega (arith, c.numbered-lines.ensures.short, ap length c.name.ensures, length-reason_name c.args.reason, c.push_str.ensures.len)

pub returns : goal.returns
returns c = search rules
