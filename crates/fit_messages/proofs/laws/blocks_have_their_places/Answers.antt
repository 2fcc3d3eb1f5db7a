use Rattle.fit_messages.proofs.EventPlaces.{blocks_have_their_places}
use Rattle.fit_messages.proofs.laws.blocks_have_their_places.Goals as goal

pub returns : goal.returns
returns g c = blocks_have_their_places
