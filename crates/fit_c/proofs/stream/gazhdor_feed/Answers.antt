use Rattle.std.proofs.Common.{rules}
use Rattle.std.specs.Prelude.{◌≡◌, Some}
use Rattle.fit_stream.specs.Streams.{StreamNow}
use Rattle.fit_c.specs.Streams.{FeedsStream}
use Rattle.fit_c.proofs.Pieces.{piece_begins}
use Rattle.fit_c.proofs.stream.gazhdor_feed.Goals as goal

pub returns-in-Some-clause-fed : goal.returns-in-Some-clause-fed
returns-in-Some-clause-fed c = search rules

pub returns-in-Some-clause-begins : goal.returns-in-Some-clause-begins
returns-in-Some-clause-begins c = λ old is fresh viable.
    let fed : (before : StreamNow) → c.args.stream.now.value ≡ Some before → (new : StreamNow) × (c.put.new.self.value ≡ Some new)
    × FeedsStream before new c.args.bytes.now c.leak.result.now c.answer_for_stream.result = search rules in
    let now = fed old is in
    piece_begins old now.0 c.args.bytes.now c.leak.result.now c.answer_for_stream.result now.2 fresh viable
