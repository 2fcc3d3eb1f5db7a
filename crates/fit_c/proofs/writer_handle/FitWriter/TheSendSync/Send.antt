-- A closed writer owns nothing, and an open one a box, which may go to another thread as the writer in it may.
use mir.Raw.{raw}
use base.Shift.{Keyless}
use denote.Memory.{lone}
use denote.RawPtr.{Ptr}
use denote.Struct.Struct.{exits_of}
use denote.Struct.Owning.{shape, fields, to}
use denote.Param.Send.{IsSend, AllSend, owning_send, struct_send, sendable}
use Rattle.std.proofs.Common.{Option, None, Some}
use Rattle.std.proofs.Crossing as heap
use Rattle.std_alloc.proofs.SendSync.{quiet, lies}
use Rattle.fit_writer.specs.contracts.writer.MessageWriter as held
use Rattle.fit_c.specs.inner.Handles.{the_heap}
use Rattle.fit_c.specs.inner.WriterHandles.{holds}
use Rattle.fit_writer.proofs.writer.MessageWriter.TheSendSync.{the_send as writer}
use Rattle.fit_c.specs.contracts.writer_handle.FitWriter.{the_row, the_type}

held_keyless : (p : Ptr) (m : Option held.the_row.Denot) → Keyless (holds p m)
held_keyless p None = tt
held_keyless p (Some x) = (lies held.the_row writer p x, heap.frees.frees the_heap (raw (lone held.the_row.mir)) p)

pub send : IsSend the_row
send =
    let all : AllSend (fields the_type) = (search sendable, tt) in
    owning_send the_type all (λ d. held_keyless d.at d.value)
    (λ k. quiet (to the_type) (exits_of k (fields the_type)) ((struct_send (shape the_type) all).leaving k))
