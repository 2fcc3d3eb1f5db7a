use Rattle.fit_sum.proofs.Common.{rules}
use Rattle.fit_sum.proofs.TableEntries.{byte-step}
use Rattle.fit_sum.proofs.slices.add_one.Goals as goal

pub returns : goal.returns
returns c = rw c.left_after.ensures (byte-step c.args.register c.args.byte (search rules))
