use Rattle.hk_served.proofs.Seats as seats
use Rattle.hk_served.proofs.what_a_served_seat_did.Goals as goal

pub returns : goal.returns
returns g c = seats.served_since_new g.K.Link g.S.Sink g.V.Looker
