use Rattle.hk_served.proofs.Rows as rows
use Rattle.hk_served.proofs.what_served_seats_did.Goals as goal

pub returns : goal.returns
returns g c = rows.all_served_since_new g.K.Link g.S.Sink g.V.Looker
