use Rattle.fit_sum.proofs.Common.{ap, sym, spelled}
use Rattle.fit_sum.proofs.TurnsAreShifts.{sixteen}
use Rattle.fit_sum.proofs.words.bytes_of.Goals as goal

pub returns-clause-bytes : goal.returns-clause-bytes
unfolding spelled
returns-clause-bytes c =
    rw (
      c.to_le_bytes.ensures,
      c.to_le_bytes-2.ensures,
      c.to_le_bytes-3.ensures,
      c.to_le_bytes-4.ensures,
      c.to_le_bytes-5.ensures,
      c.to_le_bytes-6.ensures,
      c.to_le_bytes-7.ensures,
      c.to_le_bytes-8.ensures,
      c.to_le_bytes-9.ensures,
      c.to_le_bytes-10.ensures,
      c.to_le_bytes-11.ensures,
      c.to_le_bytes-12.ensures,
      c.to_le_bytes-13.ensures,
      c.to_le_bytes-14.ensures,
      c.to_le_bytes-15.ensures,
      c.to_le_bytes-16.ensures,
    )
    (sym (ap spelled (sixteen c.args.words.now c.told-words)))
