use Rattle.fit_decode.proofs.Needed.{needed_seen, none_needed}
use Rattle.fit_chain.proofs.NoSooner.{need_is_least}
use Rattle.fit_decode.proofs.decoder.Decoder.need.Goals as goal

pub returns-clause-need : goal.returns-clause-need
returns-clause-need g c = needed_seen c.self.inside c.self.invariant c.args.self.now c.self.view_is c.bytes.result.now c.bytes_to_come.result c.bytes.ensures
    c.bytes_to_come.ensures

pub returns-clause-refused : goal.returns-clause-refused
returns-clause-refused g c = none_needed c.self.inside c.args.self.now c.self.view_is c.bytes.result.now c.bytes_to_come.result c.bytes_to_come.ensures

pub returns-clause-least : goal.returns-clause-least
returns-clause-least g c = λ fresh. need_is_least c.args.self.now.bytes c.bytes_to_come.result (returns-clause-need g c fresh)
