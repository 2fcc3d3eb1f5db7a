use Rattle.fit_record.proofs.Common.{◌≡◌, ◌++◌, length, fields_from, sizes, ◌≤◌, drop}
use Rattle.fit_record.proofs.message_bytes.read_fields.Given as goal

abbrev pub invariant-loop-place : goal.invariant-loop-place
invariant-loop-place g l = record {
  told : l.items ++ fields_from l.order (drop l.place l.layout) l.rest ≡ fields_from l.order l.layout l.bytes;
  enough : sizes (drop l.place l.layout) ≤ length l.rest;
  after : drop (sizes (drop l.place l.layout)) l.rest ≡ drop (sizes l.layout) l.bytes;
}
