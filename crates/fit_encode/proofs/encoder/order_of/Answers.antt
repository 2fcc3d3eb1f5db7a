use Rattle.fit_encode.proofs.Encoders.{in_order_of}
use Rattle.fit_encode.proofs.encoder.order_of.Goals as goal

pub returns-in-Some : goal.returns-in-Some
returns-in-Some g c = in_order_of c.args.env.now c.args.r.now c.in-Values.v _ c.in-Values.is c.in-Some.ensures

pub returns-in-None : goal.returns-in-None
returns-in-None g c = in_order_of c.args.env.now c.args.r.now c.in-Values.v _ c.in-Values.is c.in-None.ensures
