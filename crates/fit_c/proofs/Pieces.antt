-- What is said of a piece that goes on well.
use Rattle.fit_c.proofs.Common.{◌≡◌, ◌⊎◌, inl, inr, ℕ, List, ◌++◌, None, Ok, Err, ap, subst, sym, Global}
use Rattle.fit_record.specs.Files.{chain_limit, IsViable}
use Rattle.fit_chain.specs.declared.event.Fault.TheVariants as faults
use Rattle.fit_report.specs.declared.fault.ReportFault.TheVariants as reports
use Rattle.fit_stream.specs.Streams.{StreamNow}
use Rattle.fit_stream.proofs.OneFinding.{none_of_viable}
use Rattle.fit_c.specs.declared.answer.FitAnswer.{FitAnswer}
use Rattle.fit_c.specs.Streams.{FeedsStream}

pub piece_begins : (old new : StreamNow) (piece text : List ℕ) (a : FitAnswer) → FeedsStream old new piece text a → old.flow.fault ≡ None
    → IsViable Global chain_limit (old.flow.bytes ++ piece)
    → (a.status ≡ 0) ⊎ (a.status ≡ 3)
piece_begins old new piece text a (kind, Ok files, is, flows) fresh viable = inl (ap (λ (x : FitAnswer). x.status) is)
piece_begins old new piece text a (kind, Err (reports.Decode (faults.Refused place reason)), is, flows) fresh viable =
    absurd (none_of_viable new.flow.bytes place reason flows.bad.1.0 (subst (IsViable Global chain_limit) (sym (flows.fed fresh)) viable))
piece_begins old new piece text a (kind, Err (reports.Decode (faults.Truncated place)), is, flows) fresh viable = absurd (flows.stops fresh)
piece_begins old new piece text a (kind, Err (reports.Decode (faults.NoMemory used)), is, flows) fresh viable = absurd (flows.stops fresh)
piece_begins old new piece text a (kind, Err (reports.Decode (faults.Read place)), is, flows) fresh viable = absurd (flows.stops fresh)
piece_begins old new piece text a (kind, Err reports.NoMemory, is, flows) fresh viable = inr (ap (λ (x : FitAnswer). x.status) is)
piece_begins old new piece text a (kind, Err (reports.Write written), is, flows) fresh viable = inr (ap (λ (x : FitAnswer). x.status) is)
