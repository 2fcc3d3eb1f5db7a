-- What the handle of a stream owns.
use base.Fml.{Fml, feq}
use denote.RawPtr.{Ptr, null_ptr}
use Rattle.std.specs.Prelude.{Option, None, Some}
use Rattle.std.specs.declared.alloc.Global.{Global}
use Rattle.std.specs.contracts.impls.GlobalAllocator.TheImpl.{ghosts}
use Rattle.std_alloc.specs.Box.Ownership.{box_owns}
use Rattle.fit_stream.specs.Streams.{StreamNow}
use Rattle.fit_stream.specs.contracts.stream.ChainStream.{the_row}

-- the heap
abbrev pub the_heap : Global
the_heap = record { memory = record { seal = tt } }

-- Nothing at null; else a box of that value.
abbrev pub holds : Ptr → Option StreamNow → Fml
holds p None = feq Ptr p null_ptr
holds p (Some x) = box_owns (ghosts.dealloc_token the_heap) the_row p x
