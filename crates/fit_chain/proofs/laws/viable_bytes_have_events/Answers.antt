use Rattle.fit_chain.proofs.Next.{events_of, are_events}
use Rattle.fit_chain.proofs.Places.{viable_somewhere}
use Rattle.fit_chain.proofs.laws.viable_bytes_have_events.Goals as goal

pub returns : goal.returns
returns g c = λ limit bytes viable. let (files, progress, come) = viable_somewhere limit bytes viable in
    (events_of files progress, are_events files progress bytes come)
