use Rattle.std.proofs.Common.{rules}
use Rattle.fit_texts.proofs.octets.add_bytes.Goals as goal

pub write_bytes-requires : goal.write_bytes-requires
write_bytes-requires c = search rules
