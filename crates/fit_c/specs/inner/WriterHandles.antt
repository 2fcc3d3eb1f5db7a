-- What the handle of a writer owns.
use base.Fml.{Fml, feq}
use denote.RawPtr.{Ptr, null_ptr}
use Rattle.std.specs.Prelude.{Option, None, Some}
use Rattle.std.specs.contracts.impls.GlobalAllocator.TheImpl.{ghosts}
use Rattle.std_alloc.specs.Box.Ownership.{box_owns}
use Rattle.fit_writer.specs.Written.{Writing}
use Rattle.fit_writer.specs.contracts.writer.MessageWriter.{the_row}
use Rattle.fit_c.specs.inner.Handles.{the_heap}

-- Nothing at null; else a box of that value.
abbrev pub holds : Ptr → Option Writing → Fml
holds p None = feq Ptr p null_ptr
holds p (Some x) = box_owns (ghosts.dealloc_token the_heap) the_row p x
