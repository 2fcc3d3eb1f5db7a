use Rattle.fit_examples.proofs.Common.{take, ride_records}
use Rattle.fit_examples.proofs.Holding.{Holds}
use Rattle.fit_examples.proofs.recording.ride_file.Given as goal

abbrev pub invariant-loop-point : goal.invariant-loop-point
invariant-loop-point l = Holds l.initial.encoder.head l.data_len (ride_records (take l.point-index l.points)) l.encoder l.sink.held
