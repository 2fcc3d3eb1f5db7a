-- The data message that stands in its bytes.
use Rattle.fit_record.specs.declared.message.Values.{Values}
use Rattle.fit_record.specs.declared.message_bytes.MessageBytes.{MessageBytes}
use Rattle.fit_record.specs.ReadMessages.{values_from}

-- by its definition, in the byte order of that
abbrev pub message_in : {A : Type 0} → MessageBytes A → Values A
message_in m = values_from m.local m.offset m.defined.now.definition.order m.defined.now m.body.now
